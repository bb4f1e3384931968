-- Refusal 10, "wrong form: letter, field count, digits, no final line feed", told by the text: a line of the right form is the letter with its
-- fields, each behind a comma, and a line feed, whatever its numbers are; 11 then looks at these. Proved in proofs/Told.antt.
use Rattle.std.specs.Prelude.{ℕ, ◌+◌, ◌*◌, ◌≡◌, ◌⊎◌, false, List, length}
use Rattle.csv_fields.specs.Fields.{written, Small}
use Rattle.forms.specs.Forms.{form_of, is_malformed}

-- "`D,row,c`", "`O,row,post,` t+1 coefficients", "`M,first row of triple,post,`" and 2(t+1): so many numbers behind the letter, where a message
-- has k coefficients
abbrev pub FieldsOf : ℕ → ℕ → ℕ → Type 0
FieldsOf k letter count =
    ((letter ≡ 68) × (count ≡ 2)) ⊎ (((letter ≡ 79) × (count ≡ 2 + k)) ⊎ ((letter ≡ 77) × (count ≡ 2 + 2 * k)))

-- numbers of at most 10 digits
pub record Spelled (k : ℕ) (s : List ℕ) : Type 0 where
  pub letter : ℕ
  pub numbers : List ℕ
  pub fields : FieldsOf k letter (length numbers)
  pub small : Small numbers
  pub text : s ≡ written letter numbers

abbrev pub TenMeans : Type 0
TenMeans = (k : ℕ) (s : List ℕ) → (is_malformed (form_of k s) ≡ false → Spelled k s) × (Spelled k s → is_malformed (form_of k s) ≡ false)
