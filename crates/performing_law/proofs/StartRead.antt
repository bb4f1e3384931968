-- A start line that is written says its numbers, and with a dash for t a 1.
use Prim.Native.Nat.{ℕ, ◌+◌, ◌≤◌, ◌<◌}
use mathlib.Core.Path.{◌≡◌, refl, ap, ◌∙◌}
use mathlib.Core.Bool.{Bool, true, false, ◌&&◌, cond}
use mathlib.Core.List.{List, [], ◌∷◌, ◌++◌, append_assoc}
use native.Mathlib.Omega.{arith}
use borrow.Author.Tests.{eq-eqb, ne_eqb}
use lib.Dec.{eqb}
use lib.ListN.{length, get_or, drop, length-append, length-drop}
use Rattle.shape.specs.Bounds.{most_points}
use Rattle.decimal.specs.Numeral.{size, numeral, leading}
use Rattle.decimal.proofs.Digits.{Digits, digits_are_digits}
use Rattle.decimal.proofs.Numerals.{length_numeral, numeral_reads}
use Rattle.decimal.proofs.Sizes.{size_pos, size_le}
use Rattle.decimal.proofs.Positions.{head_at, drop_past}
use Rattle.csv_fields.specs.Fields.{fields, parsed, push, fields_at, ended, Small}
use Rattle.csv_fields.proofs.Reading.{fields_read}
use Rattle.csv_fields.proofs.Overwriting.{length_fields_le}
use Rattle.std.specs.Prelude.{Option, Some}
use Rattle.street_reading.specs.declared.Settings.{Settings}
use Rattle.street_reading.specs.Starting.{dash, dash_at_of, behind_posts, start_form, start_of, start_said}
use Rattle.performing_law.specs.Lines.{TenDigits}
use Rattle.performing_law.specs.Starting.{OneOrTwo, start_letter_of}
use Rattle.performing_law.proofs.Spelling.{small}
use Rattle.performing_law.proofs.StartText.{feed, line}

-- ---- fields that end a line
module _ (xs s : List ℕ) (at : ℕ) (h : Small xs) (e : drop at s ≡ feed xs) where
  abbrev end : ℕ
  end = at + length (fields xs)

  last_fields_lem : ended s (fields_at (length xs) s at) ≡ parsed xs end
  unfolding leading
  last_fields_lem =
      let f : fields_at (length xs) s at ≡ parsed xs end = fields_read xs s (10 ∷ []) at h refl e in
      let d : drop end s ≡ 10 ∷ [] = drop_past s at (length (fields xs)) (fields xs) (10 ∷ []) e refl in
      let g : get_or s end 0 ≡ 10 = head_at s end ∙ ap (λ (l : List ℕ). get_or l 0 0) d in
      let m : length s ≡ end + 1 = omega (arith, length-drop end s, ap length d) in
      rw (f, g, eq-eqb (length s) (end + 1) m)

no_digit : (ys : List ℕ) → leading (feed ys) ≡ 0
unfolding leading fields
no_digit [] = refl
no_digit (y ∷ ys) = refl

-- ---- n, the first field
module _ (letter n : ℕ) (tail : List ℕ) where
  at_tail : drop (2 + size n) (line letter n tail) ≡ tail
  at_tail = drop_past (line letter n tail) 2 (size n) (numeral n) tail refl (length_numeral n)

  posts_read : (k : ℕ) → n < 10000000000 → leading tail ≡ 0 → start_form k (line letter n tail) ≡ push n (behind_posts (line letter n tail) k n (2 + size n))
  unfolding start_form fields_at
  posts_read k h z = rw (numeral_reads n 2 tail h z)

-- ---- t as a figure, and as a dash
digit_first : (ds rest : List ℕ) → Digits ds → 1 ≤ length ds → 48 ≤ get_or (ds ++ rest) 0 0
digit_first [] rest h l = absurd (omega arith)
digit_first (d ∷ ds) rest h l = h.0.0

and_none : (a : Bool) → (a && false) ≡ false
and_none true = refl
and_none false = refl

figure : (t : ℕ) (ys s : List ℕ) (at : ℕ) → drop at s ≡ feed (t ∷ ys) → dash_at_of s at ≡ false
unfolding fields
figure t ys s at e =
    let d : drop (at + 1) s ≡ numeral t ++ feed ys =
    drop_past s at 1 (44 ∷ []) _ (e ∙ ap (λ (l : List ℕ). 44 ∷ l) (append_assoc (numeral t) (fields ys) (10 ∷ []))) refl in
    let h : 48 ≤ get_or (numeral t ++ feed ys) 0 0 =
    digit_first (numeral t) _ (digits_are_digits (size t) t) (omega (arith, length_numeral t, size_pos 9 t)) in
    let g : get_or s (at + 1) 0 ≡ get_or (numeral t ++ feed ys) 0 0 = head_at s (at + 1) ∙ ap (λ (l : List ℕ). get_or l 0 0) d in
    rw (ne_eqb (get_or s (at + 1) 0) 45 (λ q. omega (arith, g, h))) (and_none (eqb (get_or s at 0) 44))

-- as many check points as the letter has
said_points : (ws : List ℕ) → OneOrTwo ws → cond (eqb (start_letter_of ws) 87) most_points 1 ≡ length ws
said_points [] o = absurd (omega arith)
said_points (w ∷ []) o = refl
said_points (w ∷ v ∷ []) o = refl
said_points (w ∷ v ∷ u ∷ ws) o = absurd (omega arith)

module _ (n post : ℕ) (ws : List ℕ) (o : OneOrTwo ws) (h : TenDigits (n ∷ post ∷ ws)) where
  abbrev own : List ℕ
  own = post ∷ ws

  abbrev at : ℕ
  at = 2 + size n

  abbrev with_tail : List ℕ → List ℕ
  with_tail tail = line (start_letter_of ws) n tail

  abbrev Said : ℕ → Option Settings
  Said t = Some (record { n = n; t = t; post = post; points = length ws; first = get_or ws 0 0; second = get_or ws 1 0 })

  said : (tail : List ℕ) (t next : ℕ) → start_form (length ws) (with_tail tail) ≡ parsed (n ∷ t ∷ own) next → start_said (with_tail tail) ≡ Said t
  unfolding start_said
  said tail t next e =
      ap (λ (k : ℕ). start_of k (start_form k (with_tail tail))) (said_points ws o) ∙ ap (start_of (length ws)) e

  pub figure_read : (t : ℕ) → t < 10000000000 → start_said (with_tail (feed (t ∷ own))) ≡ Said t
  unfolding behind_posts
  figure_read t l =
      let s : List ℕ = with_tail (feed (t ∷ own)) in
      let e : drop at s ≡ feed (t ∷ own) = at_tail (start_letter_of ws) n (feed (t ∷ own)) in
      said (feed (t ∷ own)) t (at + length (fields (t ∷ own)))
      (posts_read (start_letter_of ws) n (feed (t ∷ own)) (length ws) h.0 (no_digit (t ∷ own))
      ∙ rw (figure t own s at e, last_fields_lem (t ∷ own) s at (l, small own h.1) e))

  pub dash_read : (t : ℕ) → dash n ≡ t → start_said (with_tail (44 ∷ 45 ∷ feed own)) ≡ Said t
  unfolding behind_posts leading
  dash_read t q =
      let s : List ℕ = with_tail (44 ∷ 45 ∷ feed own) in
      let e : drop at s ≡ 44 ∷ 45 ∷ feed own = at_tail (start_letter_of ws) n (44 ∷ 45 ∷ feed own) in
      let comma : get_or s at 0 ≡ 44 = head_at s at ∙ ap (λ (l : List ℕ). get_or l 0 0) e in
      let e₁ : drop (at + 1) s ≡ 45 ∷ feed own = drop_past s at 1 (44 ∷ []) (45 ∷ feed own) e refl in
      let minus : get_or s (at + 1) 0 ≡ 45 = head_at s (at + 1) ∙ ap (λ (l : List ℕ). get_or l 0 0) e₁ in
      let e₂ : drop (at + 2) s ≡ feed own = drop_past s at 2 (44 ∷ 45 ∷ []) (feed own) e refl in
      said (44 ∷ 45 ∷ feed own) (dash n) (at + 2 + length (fields own))
      (posts_read (start_letter_of ws) n (44 ∷ 45 ∷ feed own) (length ws) h.0 refl
      ∙ rw (comma, minus, last_fields_lem own s (at + 2) (small own h.1) e₂))
      ∙ ap Said q

  pub dash_short : length (with_tail (44 ∷ 45 ∷ feed own)) ≤ 5252
  dash_short =
      omega (
        arith,
        o.1,
        length-append (numeral n) (44 ∷ 45 ∷ feed own),
        length_numeral n,
        size_le 9 n,
        length-append (fields own) (10 ∷ []),
        length_fields_le own,
      )
