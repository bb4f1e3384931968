-- What the checks of a finish's first call leave, by name; and back, for 1 to 8.
use Prim.Native.Nat.{ℕ, ◌+◌}
use mathlib.Core.Path.{◌≡◌, refl, sym, ◌∙◌, ap}
use mathlib.Core.Bool.{false, not}
use mathlib.Core.List.{List, [], ◌∷◌, ◌++◌}
use borrow.Author.Tests.{le-ltb, eq-eqb}
use lib.Dec.{eqb}
use lib.ListN.{length}
use Rattle.shape.specs.Bounds.{last_row_at, last_triple}
use Rattle.shape.specs.Marks.{held, further, masked}
use Rattle.refusal.specs.Refusal.{Test, ◌when◌, first, or_else, AllFail}
use Rattle.refusal.proofs.Laws.{first_join, equal, all_fail, not_refused}
use Rattle.refusal.proofs.Groups.{fail_parts}
use Rattle.session.specs.declared.Session.{Session}
use Rattle.session.specs.Sessions.{mark, factor_a_of, factor_b_of}
use Rattle.session.specs.Checks.{frame_tests}
use Rattle.session.specs.Between.{Framed}
use Rattle.session.proofs.Calls.{frame_passed}
use Rattle.opening.specs.Walking.{record_length, bad_record, too_few_of, disagree}
use Rattle.opening.proofs.Passed.{clear_parts, clear_join}
use Rattle.product_masks.specs.Masks.{mask_numbers}
use Rattle.product_masks.proofs.Passed.{Factored, factored, FactorsLow, factors_low}
use Rattle.collect.specs.Collect.{mask_a, mask_b, finish_place, finish_marks, unopened, collect_numbers_of, collect_own_of, collect_checks_of, collect_refusal}

-- 5 to 7
abbrev pub collect_early : Session → ℕ → List ℕ → List ℕ → List Test
collect_early s r blocks_a blocks_b = finish_place s r blocks_a blocks_b ++ finish_marks s (factor_a_of s r) (factor_b_of s r) r

pub record CollectPlaced (s : Session) (r : ℕ) (blocks_a blocks_b : List ℕ) : Type 0 where
  pub a_long : length blocks_a ≡ record_length s
  pub b_long : length blocks_b ≡ record_length s
  pub factors : Factored s (factor_a_of s r) (factor_b_of s r) r masked

pub collect_placed : (s : Session) (r : ℕ) (blocks_a blocks_b : List ℕ) → AllFail (collect_early s r blocks_a blocks_b) → CollectPlaced s r blocks_a blocks_b
collect_placed s r blocks_a blocks_b h =
    let (place, (low-a, (low-b, marks))) = fail_parts (finish_place s r blocks_a blocks_b) (finish_marks s (factor_a_of s r) (factor_b_of s r) r) h in
    let (long_a, (long_b, (low, _))) = place in
    record { a_long = equal _ _ long_a; b_long = equal _ _ long_b; factors = factored s (factor_a_of s r) (factor_b_of s r) r masked low-a low-b low marks }

-- 8 of the records
abbrev pub collect_rest : Session → List ℕ → List ℕ → List Test
collect_rest s blocks_a blocks_b = 8 when bad_record s blocks_a ∷ 8 when bad_record s blocks_b ∷ []

-- 8
pub record CollectLow (s : Session) (rows : List ℕ) (r : ℕ) (blocks_a blocks_b : List ℕ) : Type 0 where
  pub rows_low : FactorsLow s rows (factor_a_of s r) (factor_b_of s r) r
  pub record_a_low : bad_record s blocks_a ≡ false
  pub record_b_low : bad_record s blocks_b ≡ false

-- 1 to 8
pub record CollectChecked (s : Session) (rows : List ℕ) (r : ℕ) (blocks_a blocks_b : List ℕ) : Type 0 where
  pub frame : first (frame_tests s rows) ≡ 0
  pub placed : CollectPlaced s r blocks_a blocks_b
  pub numbers : CollectLow s rows r blocks_a blocks_b

module _ (s : Session) (rows : List ℕ) (r : ℕ) (blocks_a blocks_b : List ℕ) where
  abbrev a : ℕ
  a = factor_a_of s r

  abbrev b : ℕ
  b = factor_b_of s r

  abbrev own : List Test
  own = finish_place s r blocks_a blocks_b ++ collect_own_of s rows r blocks_a blocks_b

  abbrev rest : List Test
  rest = collect_rest s blocks_a blocks_b

  pub collect_checked : first (collect_checks_of s rows r blocks_a blocks_b) ≡ 0 → CollectChecked s rows r blocks_a blocks_b
  collect_checked z =
      let (frame, clear) = clear_parts (frame_tests s rows) own tt z in
      let (place, eights) = fail_parts (collect_early s r blocks_a blocks_b) (collect_numbers_of s rows a b r blocks_a blocks_b) (all_fail own tt clear) in
      let (factors, (bad-a, (bad-b, _))) = fail_parts (mask_numbers s rows a b r) rest eights in
      record {
        frame = frame;
        placed = collect_placed s r blocks_a blocks_b place;
        numbers = record { rows_low = factors_low s rows a b r factors; record_a_low = bad-a; record_b_low = bad-b };
      }

  marks_clear : Factored s a b r masked → first (finish_marks s a b r) ≡ 0
  marks_clear f =
      not_refused (finish_marks s a b r) (
        le-ltb last_row_at a f.a_in,
        (
          le-ltb last_row_at b f.b_in,
          (is a held f.a_held, (is b held f.b_held, (is r masked f.first_mark, (is (r + 1) further f.second_mark, (is (r + 2) further f.third_mark, tt))))),
        ),
      )
    where
      is : (x m : ℕ) → mark s x ≡ m → not (eqb (mark s x) m) ≡ false
      is x m e = ap not (eq-eqb (mark s x) m e)

  pub collect_clear : CollectChecked s rows r blocks_a blocks_b → first (collect_checks_of s rows r blocks_a blocks_b) ≡ 0
  collect_clear h =
      let w = h.numbers in
      clear_join (frame_tests s rows) own tt h.frame
      (clear_join (finish_place s r blocks_a blocks_b) (collect_own_of s rows r blocks_a blocks_b) tt
      (not_refused (finish_place s r blocks_a blocks_b) (
        ap not (eq-eqb (length blocks_a) (record_length s) h.placed.a_long),
        (ap not (eq-eqb (length blocks_b) (record_length s) h.placed.b_long), (le-ltb last_triple r h.placed.factors.triple_in, tt)),
      ))
      (clear_join (finish_marks s a b r) (collect_numbers_of s rows a b r blocks_a blocks_b) tt (marks_clear h.placed.factors)
      (not_refused (collect_numbers_of s rows a b r blocks_a blocks_b) (
        w.rows_low.a_low,
        (w.rows_low.b_low, (w.rows_low.first_low, (w.rows_low.second_low, (w.record_a_low, (w.record_b_low, tt))))),
      ))))

  pub collect_framed : CollectChecked s rows r blocks_a blocks_b → Framed s rows
  collect_framed h = frame_passed s rows 0 (sym h.frame) refl

  -- where 1 to 8 refuse nothing, the two walks decide
  pub collect_walks : CollectChecked s rows r blocks_a blocks_b
      → collect_refusal s rows r blocks_a blocks_b ≡ first (unopened s (mask_a s rows r) (mask_b s rows r) blocks_a blocks_b)
  unfolding collect_refusal
  collect_walks h =
      let walks = unopened s (mask_a s rows r) (mask_b s rows r) blocks_a blocks_b in
      first_join (collect_checks_of s rows r blocks_a blocks_b) walks tt ∙ ap (λ (k : ℕ). or_else k (first walks)) (collect_clear h)

-- all of them
pub record Collected (s : Session) (rows : List ℕ) (r : ℕ) (blocks_a blocks_b : List ℕ) : Type 0 where
  pub checked : CollectChecked s rows r blocks_a blocks_b
  pub enough_a : too_few_of s (mask_a s rows r) blocks_a ≡ false
  pub enough_b : too_few_of s (mask_b s rows r) blocks_b ≡ false
  pub agree_a : disagree s (mask_a s rows r) blocks_a ≡ false
  pub agree_b : disagree s (mask_b s rows r) blocks_b ≡ false

pub collected : (s : Session) (rows : List ℕ) (r : ℕ) (blocks_a blocks_b : List ℕ) → collect_refusal s rows r blocks_a blocks_b ≡ 0
    → Collected s rows r blocks_a blocks_b
unfolding collect_refusal
collected s rows r blocks_a blocks_b z =
    let walks = unopened s (mask_a s rows r) (mask_b s rows r) blocks_a blocks_b in
    let (clear, walked) = clear_parts (collect_checks_of s rows r blocks_a blocks_b) walks tt z in
    let (few_a, (few_b, (off_a, (off_b, _)))) = all_fail walks tt walked in
    record { checked = collect_checked s rows r blocks_a blocks_b clear; enough_a = few_a; enough_b = few_b; agree_a = off_a; agree_b = off_b }
