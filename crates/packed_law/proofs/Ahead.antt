-- By rising row: the rows ahead are empty but for those that a triple covers, and the kinds of these are 0.
use Prim.Native.Nat.{ℕ, zero, suc, ◌+◌, ◌-◌, ◌≤◌, ◌<◌}
use mathlib.Core.Path.{◌≡◌, refl, ◌∙◌, ap}
use mathlib.Core.Bool.{Bool, true, false, not, ◌&&◌}
use mathlib.Core.List.{List, ◌∷◌}
use native.Mathlib.Omega.{arith}
use borrow.Author.Tests.{eqb-true, ltb-false, not-false}
use lib.Dec.{eqb, ltb}
use lib.ListN.{length, take, drop, get_or, set, replicate, length-drop}
use lib.Seq.{length-take-le, get_or-set_other}
use Rattle.poly.specs.Counting.{Elements}
use Rattle.shape.specs.declared.Shape.{Shape}
use Rattle.shape.specs.Bounds.{row_count_of, last_row_at, last_triple}
use Rattle.shape.specs.Lengths.{rows_length}
use Rattle.shape.specs.Marks.{empty, raw, unused, further}
use Rattle.refusal.proofs.Laws.{or_false}
use Rattle.parts.proofs.Laws.{elements_take, elements_drop}
use Rattle.kinds.specs.Kinds.{drawn_for_of, draws_length, any_row, late, crowded}

-- Before row `row`, of which on `c` rows are covered by a triple.
pub record Ahead (s : Shape) (c row : ℕ) (marks rows kinds draws : List ℕ) : Type 0 where
  pub free : (i : ℕ) → c ≤ i → get_or marks (row + i) empty ≡ empty
  pub covered : (i : ℕ) → i < c → get_or kinds i empty ≡ empty
  pub room : length rows ≡ rows_length s
  pub drawn : length draws ≡ draws_length s kinds
  pub elements : Elements draws
  pub count : row + length kinds ≡ row_count_of
  pub early : any_row late row kinds ≡ false
  pub apart : any_row crowded row kinds ≡ false

all_empty : (k i : ℕ) → get_or (replicate k empty) i empty ≡ empty
all_empty zero i = refl
all_empty (suc k) zero = refl
all_empty (suc k) (suc i) = all_empty k i

pub ahead_first : (s : Shape) (rows kinds draws : List ℕ) → length rows ≡ rows_length s → length draws ≡ draws_length s kinds → Elements draws
    → length kinds ≡ row_count_of → any_row late 0 kinds ≡ false → any_row crowded 0 kinds ≡ false
    → Ahead s 0 0 (replicate row_count_of empty) rows kinds draws
ahead_first s rows kinds draws room drawn elements count early apart = record {
  free = λ i h. all_empty row_count_of (0 + i);
  covered = λ i h. absurd (omega arith);
  room = room;
  drawn = drawn;
  elements = elements;
  count = omega arith;
  early = early;
  apart = apart;
}

and_parts : (a b : Bool) → a ≡ true → a && b ≡ false → b ≡ false
and_parts true b e f = f
and_parts false b e f = let z : ◌≡◌ {A = ℕ} 0 1 = cc in absurd (omega arith)

module _ (s : Shape) (c row : ℕ) (marks rows : List ℕ) (k : ℕ) (ks draws : List ℕ) (a : Ahead s c row marks rows (k ∷ ks) draws) where
  -- ---- this row
  pub row_low : row ≤ last_row_at
  row_low = omega (arith, a.count)

  pub own_drawn : length (take (drawn_for_of s k) draws) ≡ drawn_for_of s k
  unfolding draws_length
  own_drawn = length-take-le (drawn_for_of s k) draws (omega (arith, a.drawn))

  pub own_elements : Elements (take (drawn_for_of s k) draws)
  own_elements = elements_take (drawn_for_of s k) draws a.elements

  none_covered : (k ≡ empty → ⊥) → c ≡ 0
  none_covered n = go c a.covered
    where
      go : (c : ℕ) → ((i : ℕ) → i < c → get_or (k ∷ ks) i empty ≡ empty) → c ≡ 0
      go zero h = refl
      go (suc c) h = absurd (n (h 0 (omega arith)))

  -- ---- the rows behind it
  later : (test : ℕ → ℕ → List ℕ → Bool) → any_row test row (k ∷ ks) ≡ false
      → (test row k ks ≡ false) × (any_row test (suc row) ks ≡ false)
  unfolding any_row
  later test e = or_false (test row k ks) (any_row test (suc row) ks) e

  next : (c' : ℕ) (marks' rows' : List ℕ) → ((i : ℕ) → c' ≤ i → get_or marks' (suc row + i) empty ≡ empty)
      → ((i : ℕ) → i < c' → get_or ks i empty ≡ empty) → length rows' ≡ rows_length s
      → Ahead s c' (suc row) marks' rows' ks (drop (drawn_for_of s k) draws)
  unfolding draws_length
  next c' marks' rows' free covered room = record {
    free = free;
    covered = covered;
    room = room;
    drawn = omega (arith, a.drawn, length-drop (drawn_for_of s k) draws);
    elements = elements_drop (drawn_for_of s k) draws a.elements;
    count = omega (arith, a.count);
    early = (later late a.early).1;
    apart = (later crowded a.apart).1;
  }

  still : (i : ℕ) → c ≤ suc i → get_or marks (suc row + i) empty ≡ empty
  still i h =
      let e : suc row + i ≡ row + suc i = omega arith in
      ap (λ (j : ℕ). get_or marks j empty) e ∙ a.free (suc i) h

  other : (l : List ℕ) (at m j : ℕ) → (j ≡ at → ⊥) → get_or l j empty ≡ empty → get_or (set l at m) j empty ≡ empty
  other l at m j n e = get_or-set_other l at j m empty n ∙ e

  pub ahead_none : Ahead s (c - 1) (suc row) marks rows ks (drop (drawn_for_of s k) draws)
  ahead_none = next (c - 1) marks rows (λ i h. still i (omega arith)) (λ i h. a.covered (suc i) (omega arith)) a.room

  module _ (is : k ≡ raw) where
    pub raw_free : get_or marks row empty ≡ empty
    raw_free =
        let z = none_covered (λ e. omega arith) in
        ap (λ (j : ℕ). get_or marks j empty) (omega arith) ∙ a.free 0 (omega arith)

    pub ahead_raw : (rows' : List ℕ) → length rows' ≡ rows_length s → Ahead s 0 (suc row) (set marks row raw) rows' ks (drop (drawn_for_of s k) draws)
    ahead_raw rows' room =
        let z = none_covered (λ e. omega arith) in
        next 0 (set marks row raw) rows' (λ i h. other marks row raw (suc row + i) (λ e. omega arith) (still i (omega arith)))
        (λ i h. absurd (omega arith)) room

  module _ (is : eqb k unused ≡ true) where
    not_empty : k ≡ empty → ⊥
    not_empty e = omega (arith, eqb-true k unused is)

    pub triple_low : row ≤ last_triple
    unfolding late
    triple_low = ltb-false last_triple row (and_parts (eqb k unused) (ltb last_triple row) is (later late a.early).0)

    second_and_third : (not (eqb (get_or ks 0 empty) empty) ≡ false) × (not (eqb (get_or ks 1 empty) empty) ≡ false)
    unfolding crowded
    second_and_third = or_false _ _ (and_parts (eqb k unused) _ is (later crowded a.apart).0)

    empty_kind : (j : ℕ) → not (eqb j empty) ≡ false → j ≡ empty
    empty_kind j e = eqb-true j empty (not-false (eqb j empty) e)

    pub triple_free : (i : ℕ) → get_or marks (row + i) empty ≡ empty
    triple_free i = a.free i (omega (arith, none_covered not_empty))

    pub ahead_triple : (rows' : List ℕ) → length rows' ≡ rows_length s
        → Ahead s 2 (suc row) (set (set (set marks row unused) (row + 1) further) (row + 2) further) rows' ks (drop (drawn_for_of s k) draws)
    ahead_triple rows' room =
        next 2 _ rows' (λ i h. third i h) two room
      where
        third : (i : ℕ) → 2 ≤ i → get_or (set (set (set marks row unused) (row + 1) further) (row + 2) further) (suc row + i) empty ≡ empty
        third i h =
            other (set (set marks row unused) (row + 1) further) (row + 2) further (suc row + i) (λ e. omega arith)
            (other (set marks row unused) (row + 1) further (suc row + i) (λ e. omega arith)
            (other marks row unused (suc row + i) (λ e. omega arith) (still i (omega (arith, none_covered not_empty)))))

        two : (i : ℕ) → i < 2 → get_or ks i empty ≡ empty
        two zero h = empty_kind (get_or ks 0 empty) second_and_third.0
        two (suc zero) h = empty_kind (get_or ks 1 empty) second_and_third.1
        two (suc (suc i)) h = absurd (omega arith)
