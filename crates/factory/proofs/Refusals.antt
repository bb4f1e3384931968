-- The refusals of the factory's calls: the search among the check points, and the tests joined in order.
use Prim.Native.Nat.{ℕ, ◌+◌, ◌*◌, ◌≤◌, ◌<◌}
use mathlib.Core.Path.{◌≡◌, refl, sym, ◌∙◌}
use mathlib.Core.Bool.{Bool, true, false}
use mathlib.Core.List.{List, [], ◌∷◌}
use native.Mathlib.Numerals.{add-one}
use native.Mathlib.Omega.{arith}
use mir.Syntax.{w64}
use mir.Val.{Fits}
use lib.ListN.{length, drop, get_or, drop_of_length-le}
use lib.Seq.{drop-cons}
use Rattle.shape.specs.Lengths.{shape, Valid, checks_length, row_length, draw_length, triple_draw_length, packs_length}
use Rattle.shape.proofs.Small.{each_small}
use Rattle.std.specs.Prelude.{Result}
use Rattle.std.specs.Result.{result_and}
use Rattle.refusal.specs.declared.Refusal.{Refusal}
use Rattle.refusal.specs.Numbers.{refused}
use Rattle.refusal.specs.Refusal.{◌when◌, first}
use Rattle.refusal.specs.Conditions.{wrong_length, bad_point, any_beyond, station_tests}
use Rattle.refusal.proofs.Laws.{all_fail, equal}
use Rattle.refusal.proofs.Groups.{stopped, went_on, fail_parts}
use Rattle.refusal.proofs.Checks.{both_asked}
use Rattle.refusal.proofs.Ranges.{station_valid}
use Rattle.factory.specs.Calls.{any_bad_point, factory_tests, factory_row_refusal, factory_triple_refusal, lists_tests}
use Rattle.packs.specs.Between.{Fine}

-- one turn of the search: the answer for the rest of the points is the answer for all
module _ (l : List ℕ) (i : ℕ) (b : Bool) where
  holds : (x : Bool) (r : ℕ) → r ≡ first (4 when x ∷ []) → (r ≡ 0 → ⊥) → x ≡ true
  holds true r e h = refl
  holds false r e h = absurd (h e)

  pub bad_found : (r : ℕ) → i < length l → r ≡ first (4 when bad_point (get_or l i 0) ∷ []) → (r ≡ 0 → ⊥) → any_bad_point (drop i l) ≡ b
      → 4 ≡ first (4 when b ∷ [])
  unfolding any_bad_point
  bad_found r h e n inv = rw (← inv, drop-cons l i 0 h, holds (bad_point (get_or l i 0)) r e n)

  pub good_passed : (r : ℕ) → i < length l → r ≡ first (4 when bad_point (get_or l i 0) ∷ []) → r ≡ 0 → any_bad_point (drop i l) ≡ b
      → any_bad_point (drop (i + 1) l) ≡ b
  unfolding any_bad_point
  good_passed r h e z inv =
      let f : bad_point (get_or l i 0) ≡ false = (all_fail (4 when bad_point (get_or l i 0) ∷ []) tt (sym e ∙ z)).0 in
      rw (add-one i) (rw (drop-cons l i 0 h, f) at inv)

  pub points_ended : length l ≤ i → any_bad_point (drop i l) ≡ b → 0 ≡ first (4 when b ∷ [])
  unfolding any_bad_point
  points_ended h inv = rw (← inv, drop_of_length-le l h)

-- the tests of the lists, each asked by itself
pub lists_joined : {A : Type 0} (n drawn written : ℕ) (ws draw out : List ℕ) (a b c d e w x y r : Result A Refusal)
    → refused a ≡ first (4 when any_bad_point ws ∷ []) → refused b ≡ first (5 when wrong_length ws n ∷ [])
    → refused c ≡ first (5 when wrong_length draw drawn ∷ []) → refused d ≡ first (5 when wrong_length out written ∷ [])
    → refused e ≡ first (8 when any_beyond draw ∷ []) → w ≡ result_and a b → x ≡ result_and w c → y ≡ result_and x d → r ≡ result_and y e
    → refused r ≡ first (lists_tests n ws draw drawn out written)
lists_joined n drawn written ws draw out a b c d e w x y r f g h i j k l m o =
    let one = 4 when any_bad_point ws in
    let two = 5 when wrong_length ws n in
    let three = 5 when wrong_length draw drawn in
    let four = 5 when wrong_length out written in
    both_asked (one ∷ two ∷ three ∷ four ∷ []) (8 when any_beyond draw ∷ []) tt y e r
    (both_asked (one ∷ two ∷ three ∷ []) (four ∷ []) tt x d y
    (both_asked (one ∷ two ∷ []) (three ∷ []) tt w c x (both_asked (one ∷ []) (two ∷ []) tt a b w f g k) h l) i m) j o

module _ (n t points : ℕ) (ws draw out : List ℕ) (r : ℕ) (posts : r ≡ first (station_tests n t points)) where
  pub row_stopped : (r ≡ 0 → ⊥) → r ≡ factory_row_refusal n t points ws draw out
  unfolding factory_row_refusal
  row_stopped h = stopped (station_tests n t points) (lists_tests (checks_length (shape n t points)) ws draw (draw_length (shape n t points)) out (packs_length (shape n t points))) tt r posts h

  pub triple_stopped : (r ≡ 0 → ⊥) → r ≡ factory_triple_refusal n t points ws draw out
  unfolding factory_triple_refusal
  triple_stopped h =
      stopped (station_tests n t points) (lists_tests (checks_length (shape n t points)) ws draw (triple_draw_length (shape n t points)) out (3 * packs_length (shape n t points))) tt r posts h

  module _ (passed : r ≡ 0) (d w q : ℕ) where
    pub row_went_on : (c : ℕ) → c ≡ checks_length (shape n t points) → d ≡ draw_length (shape n t points) → w ≡ packs_length (shape n t points) → q ≡ first (lists_tests c ws draw d out w)
        → q ≡ factory_row_refusal n t points ws draw out
    unfolding factory_row_refusal
    row_went_on c ec ed ew h =
        went_on (station_tests n t points) (lists_tests (checks_length (shape n t points)) ws draw (draw_length (shape n t points)) out (packs_length (shape n t points))) tt r posts q passed
        (rw (← ed, ← ew, ← ec) h)

    pub triple_went_on : (c : ℕ) → c ≡ checks_length (shape n t points) → d ≡ triple_draw_length (shape n t points) → w ≡ packs_length (shape n t points)
        → q ≡ first (lists_tests c ws draw d out (3 * w)) → q ≡ factory_triple_refusal n t points ws draw out
    unfolding factory_triple_refusal
    triple_went_on c ec ed ew h =
        went_on (station_tests n t points) (lists_tests (checks_length (shape n t points)) ws draw (triple_draw_length (shape n t points)) out (3 * packs_length (shape n t points))) tt r posts q passed
        (rw (← ed, ← ew, ← ec) h)

-- three packs are no more than a list holds
pub packs_fit : (n t points w : ℕ) → Valid (shape n t points) → w ≡ packs_length (shape n t points) → Fits w64 (3 * w)
packs_fit n t points w v e =
    record { fits = omega (arith, e, each_small (shape n t points) (row_length (shape n t points)) v (omega (arith, v.n_in, v.t_in, v.reach_in, v.checks_in))) }

-- nothing refused: what the writers need
pub fine : (n t points : ℕ) (ws draw out : List ℕ) (drawn written : ℕ) → first (factory_tests n t points ws draw drawn out written) ≡ 0
    → Fine (shape n t points) ws draw drawn out written
fine n t points ws draw out drawn written e =
    let h = all_fail (factory_tests n t points ws draw drawn out written) tt e in
    let f = fail_parts (station_tests n t points) (lists_tests (checks_length (shape n t points)) ws draw drawn out written) h in
    let l = f.1 in
    record {
      valid = station_valid n t points f.0;
      points_length = equal (length ws) (checks_length (shape n t points)) l.1.0;
      draw_length_is = equal (length draw) drawn l.1.1.0;
      out_length = equal (length out) written l.1.1.1.0;
    }

pub row_fine : (n t points : ℕ) (ws draw out : List ℕ) (r : ℕ) → r ≡ factory_row_refusal n t points ws draw out → r ≡ 0
    → Fine (shape n t points) ws draw (draw_length (shape n t points)) out (packs_length (shape n t points))
unfolding factory_row_refusal
row_fine n t points ws draw out r e z = fine n t points ws draw out (draw_length (shape n t points)) (packs_length (shape n t points)) (sym e ∙ z)

pub triple_fine : (n t points : ℕ) (ws draw out : List ℕ) (r : ℕ) → r ≡ factory_triple_refusal n t points ws draw out → r ≡ 0
    → Fine (shape n t points) ws draw (triple_draw_length (shape n t points)) out (3 * packs_length (shape n t points))
unfolding factory_triple_refusal
triple_fine n t points ws draw out r e z =
    fine n t points ws draw out (triple_draw_length (shape n t points)) (3 * packs_length (shape n t points)) (sym e ∙ z)
