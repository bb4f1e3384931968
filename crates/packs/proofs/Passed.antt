-- The public sums, written once, and passed on from the first row to every other.
use Prim.Native.Nat.{ℕ, ◌+◌, ◌-◌, ◌≤◌, ◌<◌}
use mathlib.Core.Path.{◌≡◌, sym, ◌∙◌, ap}
use mathlib.Core.Logic.{◌⊎◌, inl, inr}
use mathlib.Core.List.{List, ◌++◌, append_assoc}
use native.Mathlib.Numerals.{add-one}
use native.Mathlib.Omega.{arith}
use lib.ListN.{length, take, drop, get_or, set, length-drop, get_or-append}
use lib.Seq.{length-take-le, take_at, drop_at, take-take, take-add, drop-drop, take-append-le, drop-append-le, get_or-take, get_or-drop, get_or-append-add, paste, paste-zero, paste-suc, length-paste, length_paste_head}
use Rattle.shape.specs.declared.Shape.{Shape}
use Rattle.shape.specs.Lengths.{sums_at_of, row_length}
use Rattle.packs.specs.Between.{passed_on, first_sums, RowAt}

-- the loop of `pass_sums_on`: what is read is what stood there, since the row is the first itself or stands behind it
module _ (s : Shape) (at first : ℕ) (old : List ℕ) (row : RowAt s at old) (ef : first ≡ sums_at_of s) where
  module _ (out : List ℕ) (i : ℕ) (h : i < s.n) (e : out ≡ paste old (at + first) (drop first old) i) where
    many : i < length (drop first old)
    many = omega (arith, length-drop first old, row.inside, ef)

    pub passing_length : length out ≡ length old
    passing_length = ap length e ∙ length-paste old (at + first) (drop first old) i (omega (arith, row.inside, ef)) (omega (arith, many))

    pub passing_from : first + i < length out
    passing_from = omega (arith, passing_length, row.inside, ef)

    pub passing_to : at + first + i < length out
    passing_to = omega (arith, passing_length, row.inside, ef)

    head_length : length (take (at + first) old ++ take i (drop first old)) ≡ at + first + i
    head_length = length_paste_head old (at + first) (drop first old) i (omega (arith, row.inside, ef)) (omega (arith, many))

    read_first : at ≡ 0 → get_or (paste old (at + first) (drop first old) i) (first + i) 0 ≡ get_or (drop first old) i 0
    read_first z =
        let place : first + i ≡ length (take (at + first) old ++ take i (drop first old)) + 0 = omega (arith, head_length, z) in
        let same : at + first + i + 0 ≡ first + i = omega (arith, z) in
        ap (λ (k : ℕ). get_or (paste old (at + first) (drop first old) i) k 0) place
        ∙ get_or-append-add (take (at + first) old ++ take i (drop first old)) (drop (at + first + i) old) 0 0
        ∙ get_or-drop (at + first + i) old 0 0
        ∙ ap (λ (k : ℕ). get_or old k 0) same
        ∙ sym (get_or-drop first old i 0)

    read_behind : row_length s ≤ at → get_or (paste old (at + first) (drop first old) i) (first + i) 0 ≡ get_or (drop first old) i 0
    read_behind l =
        let lent : length (take (at + first) old) ≡ at + first = length-take-le (at + first) old (omega (arith, row.inside, ef)) in
        get_or-append (take (at + first) old ++ take i (drop first old)) (drop (at + first + i) old) 0 (first + i)
        (omega (arith, head_length, l, ef))
        ∙ get_or-append (take (at + first) old) (take i (drop first old)) 0 (first + i) (omega (arith, lent, l, ef))
        ∙ get_or-take (at + first) old (first + i) 0 (omega (arith, l, ef))
        ∙ sym (get_or-drop first old i 0)

    read_back : (at ≡ 0) ⊎ (row_length s ≤ at) → get_or out (first + i) 0 ≡ get_or (drop first old) i 0
    read_back (inl z) = ap (λ (l : List ℕ). get_or l (first + i) 0) e ∙ read_first z
    read_back (inr l) = ap (λ (l : List ℕ). get_or l (first + i) 0) e ∙ read_behind l

    pub passing_turn : set out (at + first + i) (get_or out (first + i) 0) ≡ paste old (at + first) (drop first old) (i + 1)
    passing_turn =
        ap (set out (at + first + i)) (read_back row.apart)
        ∙ ap (λ (l : List ℕ). set l (at + first + i) (get_or (drop first old) i 0)) e
        ∙ paste-suc old (at + first) (drop first old) i 0 (omega (arith, row.inside, ef)) many
        ∙ ap (paste old (at + first) (drop first old)) (sym (add-one i))

  pub passing_end : (out : List ℕ) (i : ℕ) → i ≤ s.n → s.n ≤ i → out ≡ paste old (at + first) (drop first old) i → out ≡ passed_on s at old
  passing_end out i h l e =
      let last : i ≡ s.n = omega arith in
      e ∙ rw (last, ef)

  pub passing_kept : (out : List ℕ) (i : ℕ) → i ≤ s.n → out ≡ paste old (at + first) (drop first old) i → length out ≡ length old
  passing_kept out i h e =
      ap length e
      ∙ length-paste old (at + first) (drop first old) i (omega (arith, row.inside, ef)) (omega (arith, length-drop first old, row.inside, ef))

pub passing_start : (old : List ℕ) (at first : ℕ) → old ≡ paste old (at + first) (drop first old) 0
passing_start old at first = paste-zero old (at + first) (drop first old)

-- the sums of the first row stand in its own numbers
pub first_sums_of : (s : Shape) (a b : List ℕ) → row_length s ≤ length a → first_sums s (a ++ b) ≡ first_sums s a
first_sums_of s a b h =
    ap (take s.n) (drop-append-le (sums_at_of s) a b (omega arith))
    ∙ take-append-le s.n (drop (sums_at_of s) a) b (omega (arith, length-drop (sums_at_of s) a))

-- a row once the sums are passed on to it, and what stands before it
module _ (s : Shape) (at : ℕ) (out l : List ℕ) (row : RowAt s at out) (e : l ≡ passed_on s at out) where
  before : length (take (at + sums_at_of s) out) ≡ at + sums_at_of s
  before = length-take-le (at + sums_at_of s) out (omega (arith, row.inside))

  pub passed_front : take at l ≡ take at out
  passed_front =
      ap (take at) (e ∙ append_assoc (take (at + sums_at_of s) out) (first_sums s out) (drop (at + sums_at_of s + s.n) out))
      ∙ take-append-le at (take (at + sums_at_of s) out) _ (omega (arith, before))
      ∙ take-take at (at + sums_at_of s) out (omega arith)

  passed_behind : drop (at + sums_at_of s) l ≡ first_sums s out ++ drop (at + sums_at_of s + s.n) out
  passed_behind =
      ap (drop (at + sums_at_of s)) (e ∙ append_assoc (take (at + sums_at_of s) out) (first_sums s out) (drop (at + sums_at_of s + s.n) out))
      ∙ drop_at (take (at + sums_at_of s) out) _ (at + sums_at_of s) before

  pub passed_length : length l ≡ length out
  passed_length =
      ap length e
      ∙ length-paste out (at + sums_at_of s) (drop (sums_at_of s) out) s.n (omega (arith, row.inside)) (omega (arith, length-drop (sums_at_of s) out, row.inside))

  pub passed_sums : (w : ℕ) → w ≡ row_length s → drop (sums_at_of s) (take (at + w - at) (drop at l)) ≡ first_sums s out
  passed_sums w ew =
      let size : at + w - at ≡ sums_at_of s + s.n = omega (arith, ew) in
      let room : sums_at_of s ≤ length (drop at l) = omega (arith, length-drop at l, passed_length, row.inside) in
      let sized : length (first_sums s out) ≡ s.n =
      length-take-le s.n (drop (sums_at_of s) out) (omega (arith, length-drop (sums_at_of s) out, row.inside)) in
      ap (λ (k : ℕ). drop (sums_at_of s) (take k (drop at l))) size
      ∙ ap (drop (sums_at_of s)) (take-add (sums_at_of s) s.n (drop at l))
      ∙ drop_at (take (sums_at_of s) (drop at l)) _ (sums_at_of s) (length-take-le (sums_at_of s) (drop at l) room)
      ∙ ap (take s.n) (drop-drop (sums_at_of s) at l ∙ passed_behind)
      ∙ take_at (first_sums s out) (drop (at + sums_at_of s + s.n) out) s.n sized
