-- A letter and numbers are written in one way: other numbers have other bytes, and what is read is what is written.
use Prim.Native.Nat.{ℕ, suc, ◌+◌}
use mathlib.Core.Path.{◌≡◌, refl, ap, sym, ◌∙◌}
use mathlib.Core.List.{List, [], ◌∷◌, ◌++◌, append_assoc}
use native.Mathlib.Omega.{arith}
use lib.ListN.{length, get_or, drop}
use lib.Seq.{drop_at}
use Rattle.decimal.specs.Numeral.{number}
use Rattle.decimal.proofs.Numerals.{number_same}
use Rattle.decimal.specs.Numeral.{size, numeral, leading, field_of}
use Rattle.decimal.proofs.Numerals.{length_numeral, numeral_reads}
use Rattle.csv_fields.specs.Fields.{fields, written, Parsed, parsed, malformed, Small}
use Rattle.csv_fields.proofs.Reading.{SpellsLine, line_read, line_spelled}
use Rattle.street_reading.specs.Numbers.{number_form}
use Rattle.performing_law.specs.Lines.{TenDigits}

pub small : (xs : List ℕ) → TenDigits xs → Small xs
small [] h = tt
small (x ∷ xs) h = (h.0, small xs h.1)

pub short : (xs : List ℕ) → Small xs → TenDigits xs
short [] h = tt
short (x ∷ xs) h = (h.0, short xs h.1)

-- ---- other numbers, other bytes
abbrev pub feed : List ℕ → List ℕ
feed xs = fields xs ++ (10 ∷ [])

pub no_digit : (xs : List ℕ) → leading (feed xs) ≡ 0
unfolding leading fields
no_digit [] = refl
no_digit (x ∷ xs) = refl

pub one_text : (xs ys : List ℕ) → Small xs → Small ys → feed xs ≡ feed ys → xs ≡ ys
unfolding fields
one_text [] [] h g e = refl
one_text [] (y ∷ ys) h g e = let z : ◌≡◌ {A = ℕ} 10 44 = ap (λ (l : List ℕ). get_or l 0 0) e in absurd (omega arith)
one_text (x ∷ xs) [] h g e = let z : ◌≡◌ {A = ℕ} 44 10 = ap (λ (l : List ℕ). get_or l 0 0) e in absurd (omega arith)
one_text (x ∷ xs) (y ∷ ys) h g e =
    let q : numeral x ++ feed xs ≡ numeral y ++ feed ys =
    sym (append_assoc (numeral x) (fields xs) (10 ∷ [])) ∙ ap (drop 1) e ∙ append_assoc (numeral y) (fields ys) (10 ∷ []) in
    let f : number x (0 + size x) ≡ number y (0 + size y) =
    sym (numeral_reads x 0 (feed xs) h.0 (no_digit xs)) ∙ ap (λ (l : List ℕ). field_of l 0) q ∙ numeral_reads y 0 (feed ys) g.0 (no_digit ys) in
    let p : x ≡ y = (number_same x (0 + size x) y (0 + size y) f).0 in
    let r : feed xs ≡ feed ys =
    sym (drop_at (numeral x) (feed xs) (size x) (length_numeral x)) ∙ ap (drop (size x)) q
    ∙ ap (λ (k : ℕ). drop (size k) (numeral y ++ feed ys)) p ∙ drop_at (numeral y) (feed ys) (size y) (length_numeral y) in
    rw p (ap (λ (l : List ℕ). y ∷ l) (one_text xs ys h.1 g.1 r))

-- ---- the form of a line
module _ (b count : ℕ) where
  pub form_spells : (rest ys : List ℕ) (next : ℕ) → number_form count (suc b ∷ rest) ≡ parsed ys next → SpellsLine (suc b ∷ rest) b count ys
  unfolding number_form
  form_spells rest ys next e = line_spelled (suc b ∷ rest) b count ys next refl e

  pub form_reads : (xs : List ℕ) → Small xs → length xs ≡ count → number_form count (written (suc b) xs) ≡ parsed xs (1 + length (fields xs))
  unfolding number_form
  form_reads xs h e = rw (← e) (line_read (suc b) xs h)

  -- of another count: no numbers are read
  pub form_other : (xs : List ℕ) → Small xs → (length xs ≡ count → ⊥) → number_form count (written (suc b) xs) ≡ malformed
  form_other xs h n = go (number_form count (written (suc b) xs)) refl
    where
      go : (o : Parsed) → number_form count (written (suc b) xs) ≡ o → o ≡ malformed
      go malformed e = refl
      go (parsed ys next) e =
          let w = form_spells (feed xs) ys next e in
          let q : feed xs ≡ feed ys = ap (drop 1) w.text in
          let r : xs ≡ ys = one_text xs ys h w.small q in
          absurd (n (ap length r ∙ w.number))
