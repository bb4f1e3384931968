-- Whole lines laid into a part of bytes.
use Prim.Native.Nat.{ℕ, ◌+◌, ◌≤◌, ◌<◌, ◌^◌}
use mathlib.Core.Path.{◌≡◌, ap, sym, ◌∙◌}
use mathlib.Core.List.{List, [], ◌∷◌, ◌++◌}
use native.Mathlib.Omega.{arith}
use mir.Syntax.{w64}
use mir.Val.{Fits}
use lib.ListN.{length, set, length-append, length-set}
use Rattle.csv_fields.specs.Fields.{fields, written, overwrite}
use Rattle.csv_fields.proofs.Overwriting.{overwrite_byte, overwrite_twice, fields_append, length_fields_le}

-- ---- how long a line is
module _ (letter : ℕ) (hs xs : List ℕ) where
  pub length_written : length (written letter (hs ++ xs)) ≡ 2 + length (fields hs) + length (fields xs)
  length_written =
      omega (
        arith,
        length-append (fields (hs ++ xs)) (10 ∷ []),
        ap length (fields_append hs xs) ∙ length-append (fields hs) (fields xs),
      )

module _ (hs xs : List ℕ) (a b : ℕ) (p : a ≡ length (fields hs)) (q : b ≡ length (fields xs)) (h : length hs ≤ 4294967296) (g : length xs ≤ 4294967296) where
  pub sum_fits : Fits w64 (a + b)
  sum_fits = omega (arith, length_fields_le hs, length_fields_le xs)

  pub sum_fits_two : Fits w64 (a + b + 2)
  sum_fits_two = omega (arith, length_fields_le hs, length_fields_le xs)

  pub sum_is : a + b + 2 ≡ length (written 0 (hs ++ xs))
  sum_is = omega (arith, length_written 0 hs xs)

-- ---- a line in four steps: letter, fields, fields, line feed
module _ (letter : ℕ) (hs xs o : List ℕ) (h : length (written letter (hs ++ xs)) ≤ length o) where
  pub room_letter : 0 < length o
  room_letter = omega arith

  pub room_head : 1 + length (fields hs) ≤ length (set o 0 letter)
  room_head = simp length-set (omega (arith, length_written letter hs xs))

  module _ (o₁ : List ℕ) (q : ℕ) (p₁ : q ≡ 1 + length (fields hs)) (k₁ : length o₁ ≡ length (set o 0 letter)) where
    pub room_rest : q + length (fields xs) ≤ length o₁
    room_rest = omega (arith, length_written letter hs xs, length-set o 0 letter)

    module _ (o₂ : List ℕ) (e : ℕ) (p₂ : e ≡ q + length (fields xs)) (k₂ : length o₂ ≡ length o₁) where
      pub room_feed : e < length o₂
      room_feed = omega (arith, length_written letter hs xs, length-set o 0 letter)

      pub end_fits : length o < 2 ^ 64 → Fits w64 (e + 1)
      end_fits b = omega (arith, length_written letter hs xs)

      pub end_is : e + 1 ≡ length (written letter (hs ++ xs))
      end_is = omega (arith, length_written letter hs xs)

      pub line_same : length (set o₂ e 10) ≡ length o
      line_same = simp length-set (k₂ ∙ k₁ ∙ length-set o 0 letter)

      pub line_laid : o₁ ≡ overwrite 1 (fields hs) (set o 0 letter) → o₂ ≡ overwrite q (fields xs) o₁ → set o₂ e 10 ≡ overwrite 0 (written letter (hs ++ xs)) o
      line_laid e₁ e₂ =
          let w₁ : List ℕ = letter ∷ fields hs in
          let w₂ : List ℕ = w₁ ++ fields xs in
          let z : 0 ≤ length o = omega arith in
          let n₁ : q ≡ 0 + length w₁ = omega arith in
          let n₂ : e ≡ 0 + length w₂ = omega (arith, length-append w₁ (fields xs)) in
          let q₁ : o₁ ≡ overwrite 0 w₁ o =
          e₁ ∙ ap (overwrite 1 (fields hs)) (overwrite_byte o 0 letter room_letter) ∙ overwrite_twice o (letter ∷ []) (fields hs) 0 z in
          let q₂ : o₂ ≡ overwrite 0 w₂ o = e₂ ∙ rw (n₁, q₁) (overwrite_twice o w₁ (fields xs) 0 z) in
          let t : w₂ ++ (10 ∷ []) ≡ written letter (hs ++ xs) =
          ap (λ (l : List ℕ). letter ∷ (l ++ (10 ∷ []))) (sym (fields_append hs xs)) in
          overwrite_byte o₂ e 10 room_feed ∙ rw (n₂, q₂) (overwrite_twice o w₂ (10 ∷ []) 0 z) ∙ ap (λ (w : List ℕ). overwrite 0 w o) t
