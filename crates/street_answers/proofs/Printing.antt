-- What is printed for a line, behind what was printed before: it has room, and the rest stays.
use Prim.Native.Nat.{ℕ, ◌+◌, ◌-◌, ◌≤◌}
use mathlib.Core.Path.{◌≡◌, ap, sym, ◌∙◌}
use mathlib.Core.List.{List, [], ◌∷◌, ◌++◌, append_assoc, append-nil}
use native.Mathlib.Nat.{zero-add}
use native.Mathlib.Omega.{arith}
use borrow.Rule.Slice.PartMut.{put_mid}
use lib.ListN.{length, take, drop, length-append, length-drop, take-append-drop}
use lib.Seq.{take_at, drop_at, drop-drop, drop-append-le, length-take-le}
use Rattle.decimal.proofs.Digits.{length_digits}
use Rattle.decimal.proofs.Sizes.{size_le}
use Rattle.csv_fields.specs.Fields.{fields, written, overwrite}
use Rattle.csv_fields.proofs.Laying.{length_written}
use Rattle.street_store.specs.Sizes.{most_masks, told_room}
use Rattle.csv_fields.proofs.Overwriting.{overwrite_twice, length_fields_le}
use Rattle.street_answers.specs.Text.{long_size_of, long_numeral, answer_text, longest_answer, print_text, longest_print}

-- ---- an answer behind those before it
pub written_front : (at : ℕ) (w l : List ℕ) → at ≤ length l → take (at + length w) (overwrite at w l) ≡ take at l ++ w
written_front at w l h =
    let n : length (take at l ++ w) ≡ at + length w = length-append (take at l) w ∙ omega (arith, length-take-le at l h) in
    ap (take (at + length w)) (sym (append_assoc (take at l) w (drop (at + length w) l))) ∙ take_at (take at l ++ w) _ (at + length w) n

pub written_behind : (at : ℕ) (w l : List ℕ) → at ≤ length l → drop (at + length w) (overwrite at w l) ≡ drop (at + length w) l
written_behind at w l h =
    let n : length (take at l ++ w) ≡ at + length w = length-append (take at l) w ∙ omega (arith, length-take-le at l h) in
    ap (drop (at + length w)) (sym (append_assoc (take at l) w (drop (at + length w) l))) ∙ drop_at (take at l ++ w) _ (at + length w) n

pub answer_length : (number refusal value : ℕ) → length (answer_text number refusal value) ≤ longest_answer
answer_length number refusal value =
    let rest : List ℕ = fields (refusal ∷ value ∷ []) in
    omega (arith, length-append (long_numeral number) (rest ++ (10 ∷ [])), length-append rest (10 ∷ []), length_digits (long_size_of number) number, size_le 19 number, length_fields_le (refusal ∷ value ∷ []))

-- ---- the M line of an `X`, written into a part of the list that has room for it
part_laid : (l w ys : List ℕ) (at k : ℕ) → at + k ≤ length l → length w ≤ k → ys ≡ overwrite 0 w (take k (drop at l)) → put_mid at k l ys ≡ overwrite at w l
part_laid l w ys at k h m e =
    let d : List ℕ = drop at l in
    let n : length w ≤ length (take k d) = omega (arith, m, length-take-le k d (omega (arith, length-drop at l))) in
    let r : drop (0 + length w) (take k d) ++ drop k d ≡ drop (at + length w) l =
    ap (λ (j : ℕ). drop j (take k d) ++ drop k d) (zero-add (length w)) ∙ sym (drop-append-le (length w) (take k d) (drop k d) n)
    ∙ ap (drop (length w)) (take-append-drop k d) ∙ drop-drop (length w) at l in
    ap (λ (z : List ℕ). take at l ++ (z ++ drop k d)) e
    ∙ ap (λ (z : List ℕ). take at l ++ z) (append_assoc w (drop (0 + length w) (take k d)) (drop k d) ∙ ap (λ (z : List ℕ). w ++ z) r)

module _ (first post : ℕ) (out xs : List ℕ) (at : ℕ) (h : at + told_room ≤ length out) (few : length xs ≤ most_masks) where
  abbrev line : List ℕ
  line = written 77 ((first ∷ post ∷ []) ++ xs)

  line_short : length line ≤ told_room
  line_short = omega (arith, length_written 77 (first ∷ post ∷ []) xs, length_fields_le (first ∷ post ∷ []), length_fields_le xs)

  module _ (end : ℕ) (e : end ≡ at + told_room) where
    width : end - at ≡ told_room
    width = omega arith

    pub masks_room : length line ≤ length (take (end - at) (drop at out))
    masks_room = rw width (omega (arith, line_short, length-take-le told_room (drop at out) (omega (arith, length-drop at out))))

    pub masks_put : (ys : List ℕ) → ys ≡ overwrite 0 line (take (end - at) (drop at out)) → put_mid at (end - at) out ys ≡ overwrite at line out
    masks_put ys q = part_laid out line ys at (end - at) (omega (arith, width)) (omega (arith, width, line_short)) q

  pub masks_end : (size : ℕ) → size ≡ length line → at + size ≡ at + length line
  masks_end size q = ap (λ (k : ℕ). at + k) q

-- behind its answer
module _ (out : List ℕ) (at number : ℕ) (h : at + longest_print ≤ length out) (behind : ℕ)
    (e : behind ≡ at + length (print_text number 0 0 [])) where
  alone : print_text number 0 0 [] ≡ answer_text number 0 0
  alone = append-nil (answer_text number 0 0)

  behind_is : behind ≡ at + length (answer_text number 0 0)
  behind_is = e ∙ ap (λ (w : List ℕ). at + length w) alone

  pub print_room : (out₁ : List ℕ) → length out₁ ≡ length out → behind + told_room ≤ length out₁
  print_room out₁ k = omega (arith, answer_length number 0 0, behind_is)

  pub print_end : (line : List ℕ) (r : ℕ) → r ≡ behind + length line → r ≡ at + length (print_text number 0 0 line)
  print_end line r q = omega (arith, length-append (answer_text number 0 0) line, behind_is)

  pub print_put : (line out₁ out' : List ℕ) → out₁ ≡ overwrite at (print_text number 0 0 []) out
      → out' ≡ overwrite behind line out₁ → out' ≡ overwrite at (print_text number 0 0 line) out
  print_put line out₁ out' o q =
      let o' : out₁ ≡ overwrite at (answer_text number 0 0) out = o ∙ ap (λ (w : List ℕ). overwrite at w out) alone in
      q ∙ rw (behind_is, o') (overwrite_twice out (answer_text number 0 0) line at (omega arith))
