-- Fields, both ways: what is written is read, and what is read is what is written.
use Prim.Native.Nat.{ℕ, zero, suc, ◌+◌, ◌≤◌}
use mathlib.Core.Path.{◌≡◌, refl, ap, sym, ◌∙◌}
use mathlib.Core.List.{List, [], ◌∷◌, ◌++◌, append_assoc}
use mathlib.Core.Bool.{Bool, true, false, ◌&&◌, cond}
use native.Mathlib.Omega.{arith}
use borrow.Author.Tests.{eq-eqb, eqb-true}
use lib.ListN.{length, get_or, drop, length-append, drop_of_length-le}
use lib.Seq.{drop-drop, get_or_at}
use lib.Dec.{eqb}
use Rattle.decimal.specs.declared.Field.{Field}
use Rattle.std.specs.Prelude.{Option, Some, None}
use Rattle.decimal.specs.Numeral.{number, size, numeral, leading, field_of, field_at}
use Rattle.csv_fields.specs.Fields.{field, fields, written, Parsed, parsed, malformed, push, behind, fields_at, ended, Small}
use Rattle.decimal.proofs.Digits.{and_true}
use Rattle.decimal.proofs.Numerals.{length_numeral, numeral_reads, number_is_numeral}
use Rattle.csv_fields.proofs.Overwriting.{length_field}
use Rattle.decimal.proofs.Positions.{head_at, drop_past, drop_head}

-- ---- what is written is read
no_digit : (xs rest : List ℕ) → leading rest ≡ 0 → leading (fields xs ++ rest) ≡ 0
unfolding leading fields
no_digit [] rest z = z
no_digit (x ∷ xs) rest z = refl

pub fields_read : (xs s rest : List ℕ) (at : ℕ) → Small xs → leading rest ≡ 0 → drop at s ≡ fields xs ++ rest
    → fields_at (length xs) s at ≡ parsed xs (at + length (fields xs))
unfolding fields fields_at
fields_read [] s rest at h z e = ap (parsed []) (omega arith)
fields_read (x ∷ xs) s rest at h z e =
    let d : drop (at + 1) s ≡ numeral x ++ (fields xs ++ rest) =
    drop_past s at 1 (44 ∷ []) _ (e ∙ ap (λ (l : List ℕ). 44 ∷ l) (append_assoc (numeral x) (fields xs) rest)) refl in
    let n : drop (at + 1 + size x) s ≡ fields xs ++ rest = drop_past s (at + 1) (size x) (numeral x) _ d (length_numeral x) in
    let c : get_or s at 0 ≡ 44 = head_at s at ∙ ap (λ (l : List ℕ). get_or l 0 0) e in
    let f : field_at s (at + 1) ≡ number x (at + 1 + size x) =
    ap (λ (l : List ℕ). field_of l (at + 1)) d ∙ numeral_reads x (at + 1) (fields xs ++ rest) h.0 (no_digit xs rest z) in
    let m : at + 1 + size x + length (fields xs) ≡ at + length (field x ++ fields xs) =
    omega (arith, length-append (field x) (fields xs), length_field x) in
    rw (c, f, fields_read xs s rest (at + 1 + size x) h.1 z n) (ap (parsed (x ∷ xs)) m)

-- ---- what is read is what is written
pub record Spells (s : List ℕ) (at k : ℕ) (xs : List ℕ) (next : ℕ) : Type 0 where
  pub text : drop at s ≡ fields xs ++ drop next s
  pub place : next ≡ at + length (fields xs)
  pub number : length xs ≡ k
  pub small : Small xs

not_parsed : {A : Type 0} (xs : List ℕ) (n : ℕ) → malformed ≡ parsed xs n → A
not_parsed xs n e = let z : ◌≡◌ {A = ℕ} 0 1 = cc in absurd (omega arith)

spells_more : (k : ℕ) (s : List ℕ) (at x next : ℕ) (ys : List ℕ) (end : ℕ) → get_or s at 0 ≡ 44 → field_at s (at + 1) ≡ number x next
    → Spells s next k ys end → Spells s at (suc k) (x ∷ ys) end
unfolding fields
spells_more k s at x next ys end c f r =
    let w = number_is_numeral (drop (at + 1) s) (at + 1) x next f in
    let n : drop (leading (drop (at + 1) s)) (drop (at + 1) s) ≡ drop next s =
    drop-drop (leading (drop (at + 1) s)) (at + 1) s ∙ ap (λ (m : ℕ). drop m s) (sym w.1) in
    record {
      text =
          drop_head s at 43 c
          ∙ ap (λ (l : List ℕ). 44 ∷ l)
          (w.0.text ∙ ap (λ (l : List ℕ). numeral x ++ l) (n ∙ r.text) ∙ sym (append_assoc (numeral x) (fields ys) (drop end s)));
      place = omega (arith, w.1, w.0.size_is, r.place, length-append (field x) (fields ys), length_field x);
      number = ap suc r.number;
      small = (w.0.small, r.small);
    }

pub fields_spelled : (k : ℕ) (s : List ℕ) (at : ℕ) (xs : List ℕ) (next : ℕ) → fields_at k s at ≡ parsed xs next → Spells s at k xs next
unfolding fields_at fields
fields_spelled zero s at xs next e =
    let p : xs ≡ [] = cc in
    let q : next ≡ at = cc in
    rw (p, q) record { text = refl; place = omega arith; number = refl; small = tt }
fields_spelled (suc k) s at xs next e = comma (eqb (get_or s at 0) 44) refl (fields_spelled k s) e
  where
    rest : (x then : ℕ) (o : Parsed) → get_or s at 0 ≡ 44 → field_at s (at + 1) ≡ number x then
        → ((ys : List ℕ) (end : ℕ) → o ≡ parsed ys end → Spells s then k ys end) → push x o ≡ parsed xs next → Spells s at (suc k) xs next
    rest x then malformed c f ih e = not_parsed xs next e
    rest x then (parsed ys end) c f ih e =
        let p : xs ≡ x ∷ ys = cc in
        let q : next ≡ end = cc in
        rw (p, q) (spells_more k s at x then ys end c f (ih ys end refl))

    found : (f : Option Field) → get_or s at 0 ≡ 44 → field_at s (at + 1) ≡ f
        → ((then : ℕ) (ys : List ℕ) (end : ℕ) → fields_at k s then ≡ parsed ys end → Spells s then k ys end)
        → behind f (λ x then. push x (fields_at k s then)) ≡ parsed xs next → Spells s at (suc k) xs next
    found (Some g) c f ih e = rest g.value g.next (fields_at k s g.next) c f (ih g.next) e
    found None c f ih e = not_parsed xs next e

    comma : (t : Bool) → eqb (get_or s at 0) 44 ≡ t
        → ((then : ℕ) (ys : List ℕ) (end : ℕ) → fields_at k s then ≡ parsed ys end → Spells s then k ys end)
        → cond t (behind (field_at s (at + 1)) (λ x then. push x (fields_at k s then))) malformed ≡ parsed xs next → Spells s at (suc k) xs next
    comma true c ih e = found (field_at s (at + 1)) (eqb-true (get_or s at 0) 44 c) refl ih e
    comma false c ih e = not_parsed xs next e

-- ---- whole lines: a letter, fields, a line feed
pub line_read : (b : ℕ) (xs : List ℕ) → Small xs → ended (written b xs) (fields_at (length xs) (written b xs) 1) ≡ parsed xs (1 + length (fields xs))
unfolding leading
line_read b xs h =
    let s : List ℕ = written b xs in
    let f : fields_at (length xs) s 1 ≡ parsed xs (1 + length (fields xs)) = fields_read xs s (10 ∷ []) 1 h refl refl in
    let m : length s ≡ 1 + length (fields xs) + 1 = omega (arith, length-append (fields xs) (10 ∷ [])) in
    let c : 1 + length (fields xs) ≡ length (b ∷ fields xs) = omega arith in
    let g : get_or s (1 + length (fields xs)) 0 ≡ 10 = rw c (get_or_at (b ∷ fields xs) 10 [] 0 (length (b ∷ fields xs)) refl) in
    rw (f, g, eq-eqb (length s) (1 + length (fields xs) + 1) m)

pub ended_is : (s xs : List ℕ) (next : ℕ) (o : Parsed) → ended s o ≡ parsed xs next → (o ≡ parsed xs next) × (length s ≡ next + 1) × (get_or s next 0 ≡ 10)
ended_is s xs next malformed e = not_parsed xs next e
ended_is s xs next (parsed ys then) e = go (eqb (get_or s then 0) 10 && eqb (length s) (then + 1)) refl e
  where
    go : (t : Bool) → (eqb (get_or s then 0) 10 && eqb (length s) (then + 1)) ≡ t → cond t (parsed ys then) malformed ≡ parsed xs next
        → (parsed ys then ≡ parsed xs next) × (length s ≡ next + 1) × (get_or s next 0 ≡ 10)
    go true h e =
        let g = and_true (eqb (get_or s then 0) 10) _ h in
        let b : then ≡ next = cc in
        (e, rw (← b) (eqb-true (length s) (then + 1) g.1), rw (← b) (eqb-true (get_or s then 0) 10 g.0))
    go false h e = not_parsed xs next e

-- a line whose first byte is b + 1, and whose k fields end it
pub record SpellsLine (s : List ℕ) (b k : ℕ) (xs : List ℕ) : Type 0 where
  pub text : s ≡ written (suc b) xs
  pub number : length xs ≡ k
  pub small : Small xs

pub line_spelled : (s : List ℕ) (b k : ℕ) (xs : List ℕ) (next : ℕ) → get_or s 0 0 ≡ suc b → ended s (fields_at k s 1) ≡ parsed xs next → SpellsLine s b k xs
line_spelled s b k xs next l e =
    let d = ended_is s xs next (fields_at k s 1) e in
    let r = fields_spelled k s 1 xs next d.0 in
    let z : length s ≤ next + 1 = omega (arith, d.1) in
    let f : drop next s ≡ 10 ∷ [] = drop_head s next 9 d.2 ∙ ap (λ (l : List ℕ). 10 ∷ l) (drop_of_length-le s z) in
    record {
      text = drop_head s 0 b l ∙ ap (λ (l : List ℕ). suc b ∷ l) (r.text ∙ ap (λ (l : List ℕ). fields xs ++ l) f);
      number = r.number;
      small = r.small;
    }
