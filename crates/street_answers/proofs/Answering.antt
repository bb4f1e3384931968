-- An answer laid into a part of bytes: the number, then the two fields and the line feed, by fields or five bytes at once.
use Prim.Native.Nat.{ℕ, zero, suc, ◌+◌, ◌-◌, ◌≤◌, ◌<◌, ◌^◌}
use mathlib.Core.Path.{◌≡◌, refl, ap, sym, ◌∙◌}
use mathlib.Core.List.{List, [], ◌∷◌, append-nil}
use native.Mathlib.Nat.{add-sub_cancel_left}
use native.Mathlib.Omega.{arith}
use borrow.Rule.Slice.PartMut.{put_mid}
use mir.Syntax.{w64}
use mir.Val.{Fits}
use lib.ListN.{length, set, length-append, length-set}
use Rattle.decimal.specs.Numeral.{last_digits, size_within}
use Rattle.decimal.proofs.Digits.{length_digits}
use Rattle.decimal.proofs.Sizes.{size_le}
use Rattle.csv_fields.specs.Fields.{fields, overwrite}
use Rattle.csv_fields.proofs.Overwriting.{overwrite_part, overwrite_byte, overwrite_twice, length_fields_le}
use Rattle.street_answers.specs.Between.{end_text, longest_end}
use Rattle.street_answers.specs.Text.{long_size_of, long_numeral, answer_text, print_text, longest_print}

-- ---- a number
module _ (l : List ℕ) (at k x : ℕ) (h : at + length (long_numeral x) ≤ length l) (e : k ≡ long_size_of x) where
  size : length (long_numeral x) ≡ k
  size = length_digits (long_size_of x) x ∙ sym e

  pub number_fits : length l < 2 ^ 64 → Fits w64 (at + k)
  number_fits b = omega (arith, size)

  pub number_room : at + k ≤ length l
  number_room = omega (arith, size)

-- ---- what stands behind the number, field by field
module _ (refusal value at : ℕ) (o : List ℕ) (h : at + longest_end ≤ length o) where
  abbrev both : List ℕ
  both = fields (refusal ∷ value ∷ [])

  both_length : length both ≤ 22
  both_length = length_fields_le (refusal ∷ value ∷ [])

  pub end_fields : at + length both ≤ length o
  end_fields = omega (arith, both_length)

  module _ (o₁ : List ℕ) (e : ℕ) (p : e ≡ at + length both) (k : length o₁ ≡ length o) where
    pub end_feed : e < length o₁
    end_feed = omega (arith, both_length)

    pub end_behind : e + 1 ≡ at + length (end_text refusal value)
    end_behind = omega (arith, length-append both (10 ∷ []))

    pub end_same : length (set o₁ e 10) ≡ length o
    end_same = simp length-set k

    pub end_put : o₁ ≡ overwrite at both o → set o₁ e 10 ≡ overwrite at (end_text refusal value) o
    end_put q = overwrite_byte o₁ e 10 end_feed ∙ rw (p, q) (overwrite_twice o both (10 ∷ []) at (omega arith))

-- ---- one digit and a 0
one_digit : (r : ℕ) → r ≤ 9 → 44 ∷ (48 + r) ∷ 44 ∷ 48 ∷ 10 ∷ [] ≡ end_text r 0
unfolding last_digits size_within fields
one_digit zero h = refl
one_digit (suc zero) h = refl
one_digit (suc (suc zero)) h = refl
one_digit (suc (suc (suc zero))) h = refl
one_digit (suc (suc (suc (suc zero)))) h = refl
one_digit (suc (suc (suc (suc (suc zero))))) h = refl
one_digit (suc (suc (suc (suc (suc (suc zero)))))) h = refl
one_digit (suc (suc (suc (suc (suc (suc (suc zero))))))) h = refl
one_digit (suc (suc (suc (suc (suc (suc (suc (suc zero)))))))) h = refl
one_digit (suc (suc (suc (suc (suc (suc (suc (suc (suc zero))))))))) h = refl
one_digit (suc (suc (suc (suc (suc (suc (suc (suc (suc (suc r)))))))))) h = absurd (omega arith)

module _ (refusal at : ℕ) (o : List ℕ) (h : at + longest_end ≤ length o) (d : refusal ≤ 9) where
  pub digit_end : at + 5 ≡ at + length (end_text refusal 0)
  digit_end = ap (λ (w : List ℕ). at + length w) (one_digit refusal d)

  pub digit_put : (ys : List ℕ) → ys ≡ 44 ∷ (48 + refusal) ∷ 44 ∷ 48 ∷ 10 ∷ []
      → put_mid at (at + 5 - at) o ys ≡ overwrite at (end_text refusal 0) o
  digit_put ys q =
      rw (add-sub_cancel_left at 5, q) (overwrite_part o (44 ∷ (48 + refusal) ∷ 44 ∷ 48 ∷ 10 ∷ []) at 5 refl)
      ∙ ap (λ (w : List ℕ). overwrite at w o) (one_digit refusal d)

-- ---- an answer
module _ (number refusal value at : ℕ) (o : List ℕ) (h : at + longest_print ≤ length o) where
  abbrev digits : List ℕ
  digits = long_numeral number

  digits_length : length digits ≤ 20
  digits_length = omega (arith, length_digits (long_size_of number) number, size_le 19 number)

  pub answer_number : at + length digits ≤ length o
  answer_number = omega (arith, digits_length)

  module _ (o₁ : List ℕ) (q : ℕ) (p : q ≡ at + length digits) (k : length o₁ ≡ length o) where
    pub answer_room : q + longest_end ≤ length o₁
    answer_room = omega (arith, digits_length)

    alone : answer_text number refusal value ≡ print_text number refusal value []
    alone = sym (append-nil (answer_text number refusal value))

    module _ (o₂ : List ℕ) (e : ℕ) where
      pub answer_end : e ≡ q + length (end_text refusal value) → e ≡ at + length (print_text number refusal value [])
      answer_end w =
          let r : e ≡ at + length (answer_text number refusal value) = omega (arith, length-append digits (end_text refusal value)) in
          r ∙ ap (λ (z : List ℕ). at + length z) alone

      pub answer_put : o₁ ≡ overwrite at digits o → o₂ ≡ overwrite q (end_text refusal value) o₁
          → o₂ ≡ overwrite at (print_text number refusal value []) o
      answer_put e₁ e₂ =
          e₂ ∙ rw (p, e₁) (overwrite_twice o digits (end_text refusal value) at (omega arith)) ∙ ap (λ (z : List ℕ). overwrite at z o) alone
