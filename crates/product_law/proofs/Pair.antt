-- Document 02, (viii): the two calls of a finish leave what the old finish left, with anything between them that leaves the triple.
use Prim.Native.Nat.{ℕ, zero, suc, ◌+◌, ◌<◌}
use mathlib.Core.Path.{◌≡◌, refl, sym, ◌∙◌, ap, ap₂, subst}
use mathlib.Core.Logic.{◌≢◌}
use mathlib.Core.Bool.{Bool, false}
use mathlib.Core.List.{List, [], ◌∷◌, ◌++◌}
use native.Mathlib.Omega.{arith}
use lib.ListN.{length, set, length-set}
use lib.Seq.{get_or-set_same, get_or-set_other}
use Rattle.shape.specs.Bounds.{row_count_of}
use Rattle.shape.specs.Lengths.{shape, row_length}
use Rattle.shape.specs.Marks.{collected as collectedMark}
use Rattle.refusal.specs.Refusal.{Test, ◌when◌, first, outcome, AllFail}
use Rattle.refusal.specs.Conditions.{any_beyond}
use Rattle.refusal.proofs.Laws.{all_fail, not_refused}
use Rattle.refusal.proofs.Endings.{accepted}
use Rattle.session.specs.declared.Session.{Session}
use Rattle.session.specs.declared.Answer.{Answer}
use Rattle.session.specs.Sessions.{mark, factor_a_of, factor_b_of, opened_a_of, opened_b_of, marked, with_marks, recalling, collected_triple, finished_triple, holding, answer, sharing}
use Rattle.session.specs.Rows.{width, row_at, with_row}
use Rattle.session.specs.Checks.{frame_tests}
use Rattle.session.proofs.Endings.{accepted_answer}
use Rattle.opening.specs.Walking.{bad_record}
use Rattle.opening.proofs.Theorems.{opened_below}
use Rattle.product_masks.specs.Masks.{mask_numbers}
use Rattle.collect.specs.Collect.{mask_a, mask_b, finish_place, finish_marks, unopened, number_a, number_b, collect_tests, collect_refusal}
use Rattle.multiply.specs.Multiply.{product_row, with_product, multiply_refusal_of, multiply_answer, multiply_rows_of}
use Rattle.product_law.specs.Finish.{finish_tests, finish_refusal, finish_answer, finish_rows}
use Rattle.product_law.specs.Claims.{Whole, WholeIs, with_marks_of, collected_session, PairFinishes, Untouched, PairFinishesLater}
use Rattle.collect.proofs.Passed.{Collected, collected, collect_framed}
use Rattle.multiply.proofs.Passed.{multiplied, multiply_clear}
use Rattle.multiply.proofs.Written.{third_read}

pub whole_is : WholeIs
whole_is s marks y_a_is y_b_is = record { marks = marks; y_a_is = y_a_is; y_b_is = y_b_is }

-- one more test among those that fail
with_one : (xs ys : List Test) (k : ℕ) (b : Bool) → AllFail (xs ++ ys) → b ≡ false → AllFail (xs ++ (k when b ∷ ys))
with_one [] ys k b h e = (e, h)
with_one (j when c ∷ xs) ys k b h e = (h.0, with_one xs ys k b h.1 e)

without_one : (xs ys : List Test) (k : ℕ) (b : Bool) → AllFail (xs ++ (k when b ∷ ys)) → AllFail (xs ++ ys) × (b ≡ false)
without_one [] ys k b h = (h.1, h.0)
without_one (j when c ∷ xs) ys k b h = let q = without_one xs ys k b h.1 in ((h.0, q.0), q.1)

-- a place written twice
set_again : (l : List ℕ) (r x y : ℕ) → set (set l r x) r y ≡ set l r y
set_again [] r x y = refl
set_again (z ∷ l) zero x y = refl
set_again (z ∷ l) (suc r) x y = ap (λ (m : List ℕ). z ∷ m) (set_again l r x y)

answered : (k value : ℕ) (new old : Session) → k ≡ 0 → answer k value new old ≡ holding 0 value new
answered k value new old e = sym (accepted_answer k k value value new new old refl e refl refl)

left : (k : ℕ) (new old : List ℕ) → k ≡ 0 → outcome k new old ≡ new
left k new old e = sym (accepted k k new new old refl e refl)

-- what the second call reads of a later session and rows
module _ (s : Session) (rows : List ℕ) (s' : Session) (rows' : List ℕ) {r : ℕ} (u : Untouched s rows r s' rows') where
  wide_same : width s' ≡ width s
  wide_same = λ i. row_length (shape (u.n_same i) (u.t_same i) (u.points_same i))

  frame_same : first (frame_tests s rows) ≡ 0 → first (frame_tests s' rows') ≡ 0
  frame_same h = rw (u.n_same, u.t_same, u.post_same, u.points_same, u.first_same, u.second_same, u.length_same) h

  read_same : (k : ℕ) → row_at (width s) rows' k ≡ row_at (width s) rows k → row_at (width s') rows' k ≡ row_at (width s) rows k
  read_same k e = ap (λ (v : ℕ). row_at v rows' k) wide_same ∙ e

  low_same : (k : ℕ) → row_at (width s) rows' k ≡ row_at (width s) rows k → any_beyond (row_at (width s) rows k) ≡ false
      → any_beyond (row_at (width s') rows' k) ≡ false
  low_same k e h = ap any_beyond (read_same k e) ∙ h

  low_back : (k : ℕ) → row_at (width s) rows' k ≡ row_at (width s) rows k → any_beyond (row_at (width s') rows' k) ≡ false
      → any_beyond (row_at (width s) rows k) ≡ false
  low_back k e h = sym (ap any_beyond (read_same k e)) ∙ h

  product_same : with_product s' (opened_a_of s' r) (opened_b_of s' r) r rows'
      ≡ with_row (width s) (r + 2)
      (product_row s (opened_a_of s r) (opened_b_of s r) (row_at (width s) rows r) (row_at (width s) rows (r + 1)) (row_at (width s) rows (r + 2))) rows'
  unfolding with_product product_row
  product_same = rw (u.n_same, u.t_same, u.points_same, u.y_a_is, u.y_b_is, u.first_row, u.second_row, u.third_row) refl

module _ (s : Session) (rows : List ℕ) (r : ℕ) (l l' : List ℕ) (w : Whole s) where
  abbrev y : ℕ
  y = number_a s rows r l

  abbrev y' : ℕ
  y' = number_b s rows r l'

  -- the session between the two calls
  abbrev between : Session
  between = collected_triple s r y y'

  abbrev early : List Test
  early = frame_tests s rows ++ finish_place s r l l' ++ finish_marks s (factor_a_of s r) (factor_b_of s r) r ++ mask_numbers s rows (factor_a_of s r) (factor_b_of s r) r

  abbrev late : List Test
  late = (8 when bad_record s l ∷ 8 when bad_record s l' ∷ []) ++ unopened s (mask_a s rows r) (mask_b s rows r) l l'

  abbrev third : Bool
  third = any_beyond (row_at (width s) rows (r + 2))

  is_between : collect_refusal s rows r l l' ≡ 0 → collected_session s rows r l l' ≡ between
  is_between z = ap (λ (a : Answer). a.session) (answered (collect_refusal s rows r l l') 0 between s z)

  -- the old call from the two
  old_done : collect_refusal s rows r l l' ≡ 0 → (s' : Session) (rows' : List ℕ) → Untouched between rows r s' rows'
      → multiply_refusal_of s' rows' r ≡ 0 → finish_refusal s rows r l l' ≡ 0
  unfolding finish_refusal collect_refusal
  old_done z s' rows' u z' =
      not_refused (finish_tests s rows r l l')
      (with_one early late 8 third (all_fail (collect_tests s rows r l l') tt z)
      (low_back between rows s' rows' u (r + 2) u.third_row (multiplied s' rows' r z').numbers.third_low))

  module _ (z : finish_refusal s rows r l l' ≡ 0) where
    parts : (collect_refusal s rows r l l' ≡ 0) × (third ≡ false)
    unfolding finish_refusal collect_refusal
    parts =
        let h = without_one early late 8 third (all_fail (finish_tests s rows r l l') tt z) in
        (not_refused (collect_tests s rows r l l') h.0, h.1)

    passed : Collected s rows r l l'
    passed = collected s rows r l l' parts.0

    low : r < row_count_of
    low = omega (arith, passed.checked.placed.factors.triple_in)

    a_is : opened_a_of between r ≡ y
    a_is = get_or-set_same s.y_a r y 0 (omega (arith, low, w.y_a_is))

    b_is : opened_b_of between r ≡ y'
    b_is = get_or-set_same s.y_b r y' 0 (omega (arith, low, w.y_b_is))

    other : (k : ℕ) → k ≢ r → mark between k ≡ mark s k
    other k ne = get_or-set_other s.marks r k collectedMark 0 ne

    -- the marks that the old call left
    old_marks : (mark (finished_triple s r) r ≡ 6) × (mark (finished_triple s r) (r + 1) ≡ 6) × (mark (finished_triple s r) (r + 2) ≡ 2)
    old_marks =
        let one = set s.marks r 6 in
        let two = set one (r + 1) 6 in
        let k : r + 2 < row_count_of = omega (arith, passed.checked.placed.factors.triple_in) in
        let e : length one ≡ row_count_of = length-set s.marks r 6 ∙ w.marks in
        let f : length two ≡ row_count_of = length-set one (r + 1) 6 ∙ e in (
          get_or-set_other two (r + 2) r 2 0 (λ e. omega arith) ∙ get_or-set_other one (r + 1) r 6 0 (λ e. omega arith)
              ∙ get_or-set_same s.marks r 6 0 (omega (arith, w.marks)),
          get_or-set_other two (r + 2) (r + 1) 2 0 (λ e. omega arith) ∙ get_or-set_same one (r + 1) 6 0 (omega arith),
          get_or-set_same two (r + 2) 2 0 (omega arith),
        )

    old_session : (finish_answer s rows r l l').session ≡ finished_triple s r
    old_session = ap (λ (a : Answer). a.session) (answered (finish_refusal s rows r l l') 0 (finished_triple s r) s z)

    with_old_marks : (q : Session) → finished_triple q r ≡ with_marks_of q r (finish_answer s rows r l l').session
    with_old_marks q =
        let (e, f, g) = old_marks in
        sym (ap (with_marks_of q r) old_session
        ∙ ap₂ (λ (a b : ℕ). marked (marked (marked (sharing q (r + 2) (factor_a_of q r) (factor_b_of q r)) r a) (r + 1) b) (r + 2) (mark (finished_triple s r) (r + 2))) e f
        ∙ ap (λ (a : ℕ). marked (marked (marked (sharing q (r + 2) (factor_a_of q r) (factor_b_of q r)) r 6) (r + 1) 6) (r + 2) a) g)

    -- right behind the first call: the old session, but for the two numbers that stay
    both_marks : finished_triple (collected_session s rows r l l') r ≡ recalling (finish_answer s rows r l l').session r y y'
    both_marks =
        ap (λ (q : Session). finished_triple q r) (is_between parts.0)
        ∙ ap (λ (m : List ℕ). with_marks (sharing between (r + 2) (factor_a_of s r) (factor_b_of s r)) (set (set m (r + 1) 6) (r + 2) 2)) (set_again s.marks r 7 6)
        ∙ sym (ap (λ (q : Session). recalling q r y y') old_session)

    -- the row that it wrote
    abbrev row : List ℕ
    row = product_row s y y' (row_at (width s) rows r) (row_at (width s) rows (r + 1)) (row_at (width s) rows (r + 2))

    old_rows : finish_rows s rows r l l' ≡ with_row (width s) (r + 2) row rows
    unfolding with_product
    old_rows = left (finish_refusal s rows r l l') (with_product s y y' r rows) rows z

    old_row : row_at (width s) (finish_rows s rows r l l') (r + 2) ≡ row
    unfolding with_product
    old_row =
        ap (λ (m : List ℕ). row_at (width s) m (r + 2)) old_rows
        ∙ third_read s rows r y y' (collect_framed s rows r l l' passed.checked).sized passed.checked.placed.factors.triple_in

    -- the second call, on a later session and rows
    module _ (s' : Session) (rows' : List ℕ) (u : Untouched between rows r s' rows') where
      second_done : multiply_refusal_of s' rows' r ≡ 0
      second_done =
          let f = passed.checked in
          let k = f.placed.factors in
          let n = f.numbers.rows_low in
          multiply_clear s' rows' r (frame_same between rows s' rows' u f.frame)
          (record {
            triple_in = k.triple_in;
            first_mark = u.first_mark ∙ get_or-set_same s.marks r collectedMark 0 (omega (arith, low, w.marks));
            second_mark = u.second_mark ∙ other (r + 1) (λ e. omega arith) ∙ k.second_mark;
            third_mark = u.third_mark ∙ other (r + 2) (λ e. omega arith) ∙ k.third_mark;
            a_held = ap (mark s') u.factor_a_is ∙ u.a_mark ∙ other (factor_a_of s r) (λ e. omega (arith, ap (mark s) e, k.a_held, k.first_mark)) ∙ k.a_held;
            b_held = ap (mark s') u.factor_b_is ∙ u.b_mark ∙ other (factor_b_of s r) (λ e. omega (arith, ap (mark s) e, k.b_held, k.first_mark)) ∙ k.b_held;
          })
          (record {
            a_element = rw (u.y_a_is, a_is) (opened_below s (mask_a s rows r) l);
            b_element = rw (u.y_b_is, b_is) (opened_below s (mask_b s rows r) l');
            first_low = low_same between rows s' rows' u r u.first_row n.first_low;
            second_low = low_same between rows s' rows' u (r + 1) u.second_row n.second_low;
            third_low = low_same between rows s' rows' u (r + 2) u.third_row parts.1;
          })

      rows_later : multiply_rows_of s' rows' r ≡ with_row (width s) (r + 2) (row_at (width s) (finish_rows s rows r l l') (r + 2)) rows'
      unfolding product_row
      rows_later =
          left (multiply_refusal_of s' rows' r) (with_product s' (opened_a_of s' r) (opened_b_of s' r) r rows') rows' second_done
          ∙ product_same between rows s' rows' u
          ∙ ap₂ (λ (a b : ℕ). with_row (width s) (r + 2) (product_row s a b (row_at (width s) rows r) (row_at (width s) rows (r + 1)) (row_at (width s) rows (r + 2))) rows')
          a_is b_is
          ∙ sym (ap (λ (m : List ℕ). with_row (width s) (r + 2) m rows') old_row)

      session_later : multiply_answer s' rows' r ≡ holding 0 0 (with_marks_of s' r (finish_answer s rows r l l').session)
      session_later =
          answered (multiply_refusal_of s' rows' r) 0 (finished_triple s' r) s' second_done ∙ ap (holding 0 0) (with_old_marks s')

pub pair_finishes_later : PairFinishesLater
pair_finishes_later s rows r l l' s' rows' w u = record {
  both = λ z. ((parts s rows r l l' w z).0, second_done s rows r l l' w z s' rows' (moved (parts s rows r l l' w z).0));
  one = λ z z'. old_done s rows r l l' w z s' rows' (moved z) z';
  rows_are = λ z. rows_later s rows r l l' w z s' rows' (moved (parts s rows r l l' w z).0);
  session_is = λ z. session_later s rows r l l' w z s' rows' (moved (parts s rows r l l' w z).0);
}
  where
    moved : collect_refusal s rows r l l' ≡ 0 → Untouched (between s rows r l l' w) rows r s' rows'
    moved z = subst (λ (q : Session). Untouched q rows r s' rows') (is_between s rows r l l' w z) u

-- nothing between the two calls
untouched : (s : Session) (rows : List ℕ) (r : ℕ) → Untouched s rows r s rows
untouched s rows r = record {
  n_same = refl;
  t_same = refl;
  post_same = refl;
  points_same = refl;
  first_same = refl;
  second_same = refl;
  length_same = refl;
  first_row = refl;
  second_row = refl;
  third_row = refl;
  first_mark = refl;
  second_mark = refl;
  third_mark = refl;
  y_a_is = refl;
  y_b_is = refl;
  factor_a_is = refl;
  factor_b_is = refl;
  a_mark = refl;
  b_mark = refl;
}

pub pair_finishes : PairFinishes
pair_finishes s rows r l l' w =
    let q = collected_session s rows r l l' in
    let at_once = pair_finishes_later s rows r l l' q rows w (untouched q rows r) in
    record {
      both = at_once.both;
      one = at_once.one;
      rows_are = λ z.
          at_once.rows_are z ∙ ap (λ (m : List ℕ). with_row (width s) (r + 2) m rows) (old_row s rows r l l' w z) ∙ sym (old_rows s rows r l l' w z);
      session_is = λ z.
          at_once.session_is z ∙ ap (holding 0 0) (sym (with_old_marks s rows r l l' w z q) ∙ both_marks s rows r l l' w z);
    }
