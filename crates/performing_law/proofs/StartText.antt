-- A start line that is read is its numbers, or a dash for t: no other bytes.
use Prim.Native.Nat.{ℕ, suc, ◌+◌, ◌≤◌}
use mathlib.Core.Path.{◌≡◌, refl, ap, sym, ◌∙◌}
use mathlib.Core.Bool.{Bool, true, false, ◌&&◌, ◌||◌, true≢false, cond}
use mathlib.Core.List.{List, [], ◌∷◌, ◌++◌, append_assoc}
use native.Mathlib.Omega.{arith}
use borrow.Author.Tests.{eqb-true}
use lib.Dec.{eqb}
use lib.ListN.{length, get_or, drop, drop_of_length-le}
use Rattle.decimal.specs.Numeral.{numeral}
use Rattle.decimal.proofs.Digits.{and_true}
use Rattle.decimal.proofs.Positions.{drop_head}
use Rattle.csv_fields.specs.Fields.{fields, written, Parsed, parsed, malformed, push, fields_at, ended, Small}
use Rattle.csv_fields.proofs.Reading.{fields_spelled}
use Rattle.shape.specs.Bounds.{most_points}
use Rattle.street_reading.specs.Starting.{starts_with, dash, dash_at_of, behind_posts, after_first, start_form}
use Rattle.performing_law.specs.Lines.{letters, start_letters, is_one_of}
use Rattle.performing_law.specs.Starting.{OneOrTwo, start_letter_of, StartText, in_figures, with_dash}
use Rattle.performing_law.proofs.Spelling.{short}

not_parsed : {A : Type 0} (xs : List ℕ) (n : ℕ) → malformed ≡ parsed xs n → A
not_parsed xs n e = let z : ◌≡◌ {A = ℕ} 0 1 = cc in absurd (omega arith)

-- ---- fields that end a line
pub record Ends (s : List ℕ) (at k : ℕ) (ys : List ℕ) : Type 0 where
  pub text : drop at s ≡ fields ys ++ (10 ∷ [])
  pub number : length ys ≡ k
  pub small : Small ys

ends_spelled : (s : List ℕ) (at k : ℕ) (ys : List ℕ) (next : ℕ) → ended s (fields_at k s at) ≡ parsed ys next → Ends s at k ys
ends_spelled s at k ys next e = go (fields_at k s at) refl e
  where
    feed : (xs : List ℕ) (end : ℕ) → fields_at k s at ≡ parsed xs end → (x : Bool) → (eqb (get_or s end 0) 10 && eqb (length s) (end + 1)) ≡ x
        → cond x (parsed xs end) malformed ≡ parsed ys next → Ends s at k ys
    feed xs end f false h q = not_parsed ys next q
    feed xs end f true h q =
        let p : xs ≡ ys = cc in
        let g = and_true (eqb (get_or s end 0) 10) _ h in
        let w = fields_spelled k s at xs end f in
        let m : length s ≤ end + 1 = omega (arith, eqb-true (length s) (end + 1) g.1) in
        let d : drop end s ≡ 10 ∷ [] =
        drop_head s end 9 (eqb-true (get_or s end 0) 10 g.0) ∙ ap (λ (l : List ℕ). 10 ∷ l) (drop_of_length-le s m) in
        rw (← p)
        (record { text = w.text ∙ ap (λ (l : List ℕ). fields xs ++ l) d; number = w.number; small = w.small })

    go : (o : Parsed) → fields_at k s at ≡ o → ended s o ≡ parsed ys next → Ends s at k ys
    go malformed f q = not_parsed ys next q
    go (parsed xs end) f q = feed xs end f (eqb (get_or s end 0) 10 && eqb (length s) (end + 1)) refl q

-- ---- a letter of a start line, and how many check points it has
pub record Starts (letter : ℕ) : Type 0 where
  pub points : ℕ
  pub starts : starts_with letter ≡ true
  pub no_other : is_one_of letters letter ≡ false
  pub says : cond (eqb letter 87) most_points 1 ≡ points
  pub spelt : (ws : List ℕ) → length ws ≡ points → OneOrTwo ws × (start_letter_of ws ≡ letter)

pub start_letter_lem : (b : ℕ) → is_one_of start_letters b ≡ true → Starts b
start_letter_lem b h = go (eqb b 83) (eqb b 87) refl refl h
  where
    of_one : Starts 83
    of_one = record { points = 1; starts = refl; no_other = refl; says = refl; spelt = λ ws e. ((omega arith, omega arith), rw e) }

    of_two : Starts 87
    of_two = record { points = 2; starts = refl; no_other = refl; says = refl; spelt = λ ws e. ((omega arith, omega arith), rw e) }

    go : (x y : Bool) → eqb b 83 ≡ x → eqb b 87 ≡ y → (x || (y || false)) ≡ true → Starts b
    go true y e f q = rw (eqb-true b 83 e) of_one
    go false true e f q = rw (eqb-true b 87 f) of_two
    go false false e f q = absurd (true≢false (sym q))

-- ---- the bytes of the two lines, behind n
abbrev pub feed : List ℕ → List ℕ
feed xs = fields xs ++ (10 ∷ [])

abbrev pub line : ℕ → ℕ → List ℕ → List ℕ
line letter n tail = letter ∷ 44 ∷ (numeral n ++ tail)

pub figure_line : (letter n : ℕ) (ys : List ℕ) → written letter (n ∷ ys) ≡ line letter n (feed ys)
unfolding fields
figure_line letter n ys = ap (λ (l : List ℕ). letter ∷ 44 ∷ l) (append_assoc (numeral n) (fields ys) (10 ∷ []))

one_field : (letter n : ℕ) (tail : List ℕ) → letter ∷ (fields (n ∷ []) ++ tail) ≡ line letter n tail
unfolding fields
one_field letter n tail = ap (λ (l : List ℕ). letter ∷ 44 ∷ l) (append_assoc (numeral n) [] tail)

-- ---- the numbers
module _ (letter : ℕ) (a : Starts letter) (rest : List ℕ) where
  abbrev s : List ℕ
  s = letter ∷ 44 ∷ rest

  abbrev k : ℕ
  k = a.points

  module _ (n at : ℕ) (head : drop 1 s ≡ fields (n ∷ []) ++ drop at s) (small : Small (n ∷ [])) where
    behind_n : (tail : List ℕ) → drop at s ≡ tail → s ≡ line letter n tail
    behind_n tail e = ap (λ (l : List ℕ). letter ∷ l) (head ∙ ap (λ (l : List ℕ). fields (n ∷ []) ++ l) e) ∙ one_field letter n tail

    figures_text : (ys : List ℕ) → Ends s at (suc (suc k)) ys → StartText s
    figures_text [] w = absurd (omega (arith, w.number))
    figures_text (t ∷ []) w = absurd (omega (arith, w.number))
    figures_text (t ∷ post ∷ ws) w =
        let (few, spelt) = a.spelt ws (omega (arith, w.number)) in
        in_figures n t post ws few (short (n ∷ t ∷ post ∷ ws) (small.0, w.small))
        (behind_n (feed (t ∷ post ∷ ws)) w.text ∙ sym (figure_line letter n (t ∷ post ∷ ws)) ∙ ap (λ (l : ℕ). written l (n ∷ t ∷ post ∷ ws)) (sym spelt))

    dash_text : (ys : List ℕ) → drop at s ≡ 44 ∷ 45 ∷ drop (at + 2) s → Ends s (at + 2) (suc k) ys → StartText s
    dash_text [] d w = absurd (omega (arith, w.number))
    dash_text (post ∷ ws) d w =
        let (few, spelt) = a.spelt ws (omega (arith, w.number)) in
        with_dash n post ws few (short (n ∷ post ∷ ws) (small.0, w.small))
        (behind_n (44 ∷ 45 ∷ feed (post ∷ ws)) (d ∙ ap (λ (l : List ℕ). 44 ∷ 45 ∷ l) w.text)
        ∙ ap (λ (l : ℕ). line l n (44 ∷ 45 ∷ feed (post ∷ ws))) (sym spelt))

    dash_bytes : dash_at_of s at ≡ true → drop at s ≡ 44 ∷ 45 ∷ drop (at + 2) s
    dash_bytes e =
        let g = and_true (eqb (get_or s at 0) 44) _ e in
        let j : at + 1 + 1 ≡ at + 2 = omega arith in
        drop_head s at 43 (eqb-true (get_or s at 0) 44 g.0)
        ∙ ap (λ (l : List ℕ). 44 ∷ l)
        (drop_head s (at + 1) 44 (eqb-true (get_or s (at + 1) 0) 45 g.1) ∙ ap (λ (m : ℕ). 45 ∷ drop m s) j)

    dashed_read : (o : Parsed) → ended s (fields_at (suc k) s (at + 2)) ≡ o → dash_at_of s at ≡ true → (xs : List ℕ) (next : ℕ)
        → push n (push (dash n) o) ≡ parsed xs next → StartText s
    dashed_read malformed f d xs next q = not_parsed xs next q
    dashed_read (parsed ys end) f d xs next q = dash_text ys (dash_bytes d) (ends_spelled s (at + 2) (suc k) ys end f)

    figures_read : (o : Parsed) → ended s (fields_at (suc (suc k)) s at) ≡ o → (xs : List ℕ) (next : ℕ) → push n o ≡ parsed xs next → StartText s
    figures_read malformed f xs next q = not_parsed xs next q
    figures_read (parsed ys end) f xs next q = figures_text ys (ends_spelled s at (suc (suc k)) ys end f)

    behind_read : (xs : List ℕ) (next : ℕ) → push n (behind_posts s k n at) ≡ parsed xs next → StartText s
    unfolding behind_posts
    behind_read xs next = go (dash_at_of s at) refl
      where
        go : (b : Bool) → dash_at_of s at ≡ b
            → push n (cond b (push (dash n) (ended s (fields_at (suc k) s (at + 2)))) (ended s (fields_at (suc (suc k)) s at))) ≡ parsed xs next → StartText s
        go true d q = dashed_read (ended s (fields_at (suc k) s (at + 2))) refl d xs next q
        go false d q = figures_read (ended s (fields_at (suc (suc k)) s at)) refl xs next q

  pub start_spells : (xs : List ℕ) (next : ℕ) → start_form k s ≡ parsed xs next → StartText s
  unfolding start_form
  start_spells xs next e = go (fields_at 1 s 1) refl e
    where
      first : (ys : List ℕ) (at : ℕ) → fields_at 1 s 1 ≡ parsed ys at → length ys ≡ 1 → after_first (parsed ys at) (behind_posts s k) ≡ parsed xs next
          → StartText s
      first [] at f l q = absurd (omega arith)
      first (n ∷ []) at f l q = let w = fields_spelled 1 s 1 (n ∷ []) at f in behind_read n at w.text w.small xs next q
      first (n ∷ m ∷ ys) at f l q = absurd (omega arith)

      go : (o : Parsed) → fields_at 1 s 1 ≡ o → after_first o (behind_posts s k) ≡ parsed xs next → StartText s
      go malformed f q = not_parsed xs next q
      go (parsed ys at) f q = first ys at f (fields_spelled 1 s 1 ys at f).number q
