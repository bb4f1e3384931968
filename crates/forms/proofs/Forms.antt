-- The form of a line: its numbers are those of its text, and no other line has them.
use Prim.Native.Nat.{ℕ, zero, suc, ◌+◌}
use mathlib.Core.Path.{◌≡◌, refl, ap, sym, ◌∙◌}
use mathlib.Core.List.{List}
use mathlib.Core.Bool.{Bool, true, false, cond}
use native.Mathlib.Omega.{arith}
use lib.ListN.{length, get_or}
use Rattle.csv_fields.specs.Fields.{fields, written, parsed, malformed, fields_at, ended, Small}
use Rattle.csv_fields.proofs.Reading.{line_read, line_spelled}
use Rattle.forms.specs.Forms.{is_letter, field_count, form_of}

-- a line of the right form
pub record Formed (k : ℕ) (s xs : List ℕ) : Type 0 where
  pub letter : is_letter (get_or s 0 0) ≡ true
  pub text : s ≡ written (get_or s 0 0) xs
  pub number : length xs ≡ field_count k (get_or s 0 0)
  pub small : Small xs

letter_pos : (b : ℕ) → is_letter b ≡ true → (a : ℕ) × (b ≡ suc a)
letter_pos zero e = let z : ◌≡◌ {A = ℕ} 0 1 = cc in absurd (omega arith)
letter_pos (suc a) e = (a, refl)

-- what is read is what is written
pub form_spelled : (k : ℕ) (s xs : List ℕ) (next : ℕ) → form_of k s ≡ parsed xs next → Formed k s xs
unfolding form_of
form_spelled k s xs next e = go (is_letter (get_or s 0 0)) refl e
  where
    go : (t : Bool) → is_letter (get_or s 0 0) ≡ t → cond t (ended s (fields_at (field_count k (get_or s 0 0)) s 1)) malformed ≡ parsed xs next → Formed k s xs
    go true l e =
        let a = letter_pos (get_or s 0 0) l in
        let r = line_spelled s a.0 (field_count k (get_or s 0 0)) xs next a.1 e in
        record { letter = l; text = r.text ∙ ap (λ (b : ℕ). written b xs) (sym a.1); number = r.number; small = r.small }
    go false l e = let z : ◌≡◌ {A = ℕ} 0 1 = cc in absurd (omega arith)

-- what is written is read
pub form_read : (k b : ℕ) (xs : List ℕ) → is_letter b ≡ true → length xs ≡ field_count k b → Small xs → form_of k (written b xs) ≡ parsed xs (1 + length (fields xs))
unfolding form_of
form_read k b xs l n h = rw (l, ← n) (line_read b xs h)
