-- The loop that reads fields into a room: what is read so far, and then what the rest says, is what the whole says.
use Prim.Native.Nat.{ℕ, suc, ◌+◌, ◌-◌, ◌%◌, ◌≤◌, ◌<◌}
use mathlib.Core.Path.{◌≡◌, refl, ap, sym, ◌∙◌}
use mathlib.Core.List.{List, [], ◌∷◌, ◌++◌, append_assoc, append-nil}
use native.Mathlib.Omega.{arith}
use native.Mathlib.Numerals.{add-one}
use lib.ListN.{length, set, take}
use lib.Seq.{take-suc-set, take_all}
use Rattle.std.specs.Prelude.{Option, Some, None}
use Rattle.csv_fields.specs.declared.Reader.{Reader}
use Rattle.decimal.specs.declared.Field.{Field}
use Rattle.csv_fields.specs.Walk.{comma_field_of, step_from, lows, Roomed}
use Rattle.csv_fields.specs.Fields.{Parsed, parsed, malformed, push, fields_at, numbers_of_of, run_from, Fits32, Fillable}
use Rattle.csv_fields.proofs.Passing.{fields_more, step_field, step_left, step_at}

abbrev pub lows_of : Parsed → Parsed
lows_of (parsed xs next) = parsed (lows xs) next
lows_of malformed = malformed

abbrev pub ahead : List ℕ → Parsed → Parsed
ahead l (parsed xs next) = parsed (l ++ xs) next
ahead l malformed = malformed

-- ---- one field more
pushed : (l : List ℕ) (x : ℕ) (o : Parsed) → ahead (l ++ ((x % 4294967296) ∷ [])) (lows_of o) ≡ ahead l (lows_of (push x o))
unfolding lows
pushed l x (parsed xs next) = ap (λ (u : List ℕ). parsed u next) (append_assoc l ((x % 4294967296) ∷ []) (lows xs))
pushed l x malformed = refl

said_more : (s out : List ℕ) (at i n : ℕ) (f : Field) → i < length out → comma_field_of s at ≡ Some f
    → ahead (take (i + 1) (set out i (f.value % 4294967296))) (lows_of (fields_at n s f.next)) ≡ ahead (take i out) (lows_of (fields_at (suc n) s at))
said_more s out at i n f h e =
    rw (fields_more s at n, e, add-one i, take-suc-set out i (f.value % 4294967296) h) (pushed (take i out) f.value (fields_at n s f.next))

-- one turn: a reader r over the line s has read its next field o, and is moved on
module _ (s : List ℕ) (r v : Reader) (o : Option Field) (same : r.line.now ≡ s) (e : o ≡ (step_from r).field) (q : v ≡ (step_from r).reader) where
  pub room_more : (out : List ℕ) (t k : ℕ) (f : Field) → t < k → t < length out → o ≡ Some f
      → ahead (take (t + 1) (set out t (f.value % 4294967296))) (lows_of (fields_at (k - (t + 1)) s v.at))
      ≡ ahead (take t out) (lows_of (fields_at (k - t) s r.at))
  room_more out t k f h l w =
      rw (step_left s r v o same e q t k 0 h, step_at s r v o same e q t k 0 h f w)
      (said_more s out r.at t (k - (t + 1)) f l (sym (step_field s r v o same e q) ∙ w))

-- ---- where the loop ends
pub room_none : (out : List ℕ) (m : ℕ) (o : Parsed) → None ≡ run_from m o → Roomed o out
room_none out m malformed q = tt
room_none out m (parsed xs next) q = let z : ◌≡◌ {A = ℕ} 0 1 = cc in absurd (omega arith)

pub room_filled : (s out : List ℕ) (at i : ℕ) (o : Parsed) → length out ≤ i → ahead (take i out) (lows_of (fields_at 0 s at)) ≡ lows_of o → Roomed o out
unfolding fields_at lows
room_filled s out at i malformed h q = tt
room_filled s out at i (parsed xs next) h q =
    let p : parsed (out ++ []) at ≡ parsed (lows xs) next = rw (take_all i out h) at q in
    let r : out ++ [] ≡ lows xs = cc in
    sym (append-nil out) ∙ r

-- ---- numbers that fit are their lowest bits
pub lows_fit : (xs : List ℕ) → Fits32 xs → lows xs ≡ xs
unfolding lows
lows_fit [] h = refl
lows_fit (x ∷ xs) h = let e : x % 4294967296 ≡ x = omega arith in rw (e, lows_fit xs h.1)

pub roomed_fill : (o : Parsed) (l : List ℕ) → Roomed o l → Fillable o → l ≡ numbers_of_of o
roomed_fill (parsed xs next) l e h = e ∙ lows_fit xs h
roomed_fill malformed l e h = absurd h
