-- One post: each row with a mark is its part of the row's vector; and each call that is not refused keeps that.
use Prim.Native.Nat.{ℕ, suc, ◌+◌, ◌*◌, ◌≤◌, ◌<◌}
use mathlib.Core.Path.{◌≡◌, sym, ◌∙◌, ap, ap₂, subst}
use mathlib.Core.Bool.{false}
use mathlib.Core.Logic.{◌≢◌}
use mathlib.Core.List.{List, [], ◌∷◌, ◌++◌, append_assoc}
use native.Mathlib.Nat.{zero-mul, one-mul}
use native.Mathlib.Decide.{ℕ_discrete}
use native.Mathlib.Omega.{arith}
use lib.ListN.{length, take, drop, get_or, set, length-append}
use lib.Seq.{take_at, drop_at, take_all, get_or-set_other}
use Rattle.field.specs.Element.{element}
use Rattle.poly.specs.Counting.{Elements}
use Rattle.refusal.specs.Conditions.{any_beyond}
use Rattle.parts.proofs.Laws.{elements_append}
use Rattle.shape.specs.Bounds.{row_count_of, last_row_at, last_triple}
use Rattle.shape.specs.Marks.{empty, raw, held, unused, further, masked, collected}
use Rattle.shape.specs.Lengths.{v_length, checks_length, row_length}
use Rattle.session.specs.declared.Session.{Session}
use Rattle.session.specs.Rows.{sums_at_of, row_at, with_row, combined, plus_sums, summed}
use Rattle.session.proofs.RowLaws.{length_with_row, row_same, row_other}
use Rattle.load.specs.Load.{with_triple}
use Rattle.load.proofs.Passed.{RowLoaded, TripleLoaded}
use Rattle.deal.proofs.Passed.{Dealt}
use Rattle.linear.proofs.Passed.{Summed}
use Rattle.vectors.specs.Vector.{Vector, plus_times, raised, numbers, row_of}
use Rattle.vectors.proofs.Linear.{length_numbers, row_plus_times, row_raised, row_summed}
use Rattle.runs.specs.Draws.{Plan, Draw, point_of, plan_shape}
use Rattle.runs.specs.Outline.{once, times, fee, loads_triple, factors}
use Rattle.runs.specs.Calls.{at}
use Rattle.runs.proofs.Marks.{Marks, mark_of, remarked, with_sets, marks_by, Opened, session_at, total_vector, at_same, at_other}
use Rattle.runs.proofs.Sums.{linear_sum}
use Rattle.runs.proofs.Packs.{row_for}
use Rattle.factory.proofs.Laws.{elements_pass}
use Rattle.runs.proofs.Lines.{numbers_elements}

-- how many numbers a row has
abbrev pub wide : Plan → ℕ
wide plan = row_length (plan_shape plan)

module _ (plan : Plan) (draw : Draw) where
  abbrev W : ℕ
  W = wide plan

  pub row_wide : (i : ℕ) (X : Vector) → length (row_for plan draw i X) ≡ W
  unfolding row_of
  row_wide i X = simp (length-append, length_numbers) (omega arith)

  -- and they are elements
  pub row_elements : (i : ℕ) (X : Vector) → Elements (row_for plan draw i X)
  unfolding row_of
  row_elements i X =
      elements_append (numbers (v_length (plan_shape plan)) _) _ (numbers_elements (v_length (plan_shape plan)) _)
      (elements_append (numbers (checks_length (plan_shape plan)) _) _ (numbers_elements (checks_length (plan_shape plan)) _) (numbers_elements plan.n _))

  pub row_low : (i : ℕ) (X : Vector) → any_beyond (row_for plan draw i X) ≡ false
  row_low i X = elements_pass (row_for plan draw i X) (row_elements i X)

  -- post i's list of rows, `len` numbers long
  pub record Holds (len i : ℕ) (M : Marks) (vec : ℕ → Vector) (l : List ℕ) : Type 0 where
    pub long : length l ≡ len
    pub rows : (r : ℕ) → r < row_count_of → mark_of M r ≢ empty → row_at W l r ≡ row_for plan draw i (vec r)

  -- a row written anew, with its mark
  pub put_holds : (len i : ℕ) (M : Marks) (vec : ℕ → Vector) (l : List ℕ) → Holds len i M vec l → length l ≡ row_count_of * W
      → (r m : ℕ) → r < row_count_of → (x : List ℕ) (X : Vector) → x ≡ row_for plan draw i X
      → Holds len i (remarked M r m) (at vec r X) (with_row W r x l)
  put_holds len i M vec l h size r m low x X e =
      record { long = length_with_row W row_count_of l r size low x wide ∙ h.long; rows = λ q lq ne. go q lq ne (ℕ_discrete q r) }
    where
      wide : length x ≡ W
      wide = ap length e ∙ row_wide i X

      go : (q : ℕ) → q < row_count_of → get_or (set M.marks r m) q 0 ≢ empty → Dec (q ≡ r)
          → row_at W (with_row W r x l) q ≡ row_for plan draw i (at vec r X q)
      go q lq ne (yes g) =
          subst (λ (z : ℕ). row_at W (with_row W r x l) z ≡ row_for plan draw i (at vec r X z)) (sym g)
          (row_same W row_count_of l r size low x wide ∙ e ∙ ap (row_for plan draw i) (sym (at_same vec r X)))
      go q lq ne (no g) =
          row_other W row_count_of l r size low x wide q g
          ∙ h.rows q lq (subst (λ (z : ℕ). z ≢ empty) (get_or-set_other M.marks r q m 0 g) ne)
          ∙ ap (row_for plan draw i) (sym (at_other vec r X q g))

  -- marks changed, no row written
  pub keep_holds : (len i : ℕ) (M N : Marks) (vec : ℕ → Vector) (l : List ℕ) → Holds len i M vec l
      → ((r : ℕ) → r < row_count_of → mark_of N r ≢ empty → mark_of M r ≢ empty) → Holds len i N vec l
  keep_holds len i M N vec l h g = record { long = h.long; rows = λ r lr ne. h.rows r lr (g r lr ne) }

  -- with other sets
  pub holds_sets : (len i : ℕ) (M : Marks) (sets : List ℕ) (vec : ℕ → Vector) (l : List ℕ) → Holds len i M vec l → Holds len i (with_sets M sets) vec l
  holds_sets len i M sets vec l h = record { long = h.long; rows = h.rows }

-- ---- a post that holds its rows, and the calls, from their definitions to the vectors

pub record Holder : Type 0 where
  pub plan : Plan
  pub draw : Draw
  pub len : ℕ
  pub post : ℕ
  pub marks : Marks
  pub opened : Opened
  pub vec : ℕ → Vector
  pub rows : List ℕ
  pub holds : Holds plan draw len post marks vec rows

abbrev pub session_of : Holder → Session
session_of H = session_at H.plan H.draw H.post H.marks H.opened

module _ (H : Holder) where
  open H use {plan, draw, len, post as i, marks as M, vec, rows as l, holds as h}

  abbrev s : Session
  s = session_of H

  abbrev N : ℕ
  N = wide plan

  -- a row with the mark that the call needs
  pub held_row_is : (q : ℕ) {m : ℕ} → q ≤ last_row_at → mark_of M q ≡ suc m → row_at N l q ≡ row_for plan draw i (vec q)
  held_row_is q low is = h.rows q (omega arith) (λ e. omega arith)

  pub load_holds : (r : ℕ) (pack : List ℕ) (X : Vector) → pack ≡ row_for plan draw i X → RowLoaded s l r pack
      → Holds plan draw len i (remarked M r raw) (at vec r X) (with_row N r pack l)
  load_holds r pack X e f = put_holds plan draw len i M vec l h f.framed.sized.length_is r raw (omega (arith, f.row_in)) pack X e

  pub deal_holds : (r c : ℕ) → Dealt s l r c
      → Holds plan draw len i (remarked M r held) (at vec r (raised (element c) (vec r))) (with_row N r (plus_sums (sums_at_of s) c (row_at N l r)) l)
  deal_holds r c f =
      put_holds plan draw len i M vec l h f.framed.sized.length_is r held (omega (arith, f.placed.row_in)) _ _
      (ap (plus_sums (sums_at_of s) c) (held_row_is r f.placed.row_in f.placed.is_raw)
      ∙ sym (row_raised (plan_shape plan) i c (point_of plan draw i) (vec r)))

  -- x plus scale times y of two rows is the row of that sum
  pub combined_row : (k a b : ℕ) → row_at N l a ≡ row_for plan draw i (vec a) → row_at N l b ≡ row_for plan draw i (vec b)
      → combined k (row_at N l a) (row_at N l b) ≡ row_for plan draw i (plus_times (element k) (vec a) (vec b))
  combined_row k a b ea eb =
      ap₂ (combined k) ea eb ∙ sym (row_plus_times (plan_shape plan) i k (point_of plan draw i) (vec a) (vec b))

  pub linear_holds : (r a b scale c : ℕ) → Summed s l r a b scale c
      → Holds plan draw len i (remarked M r held) (at vec r (total_vector vec (once a) (times scale b ∷ fee c ∷ [])))
      (with_row N r (summed (sums_at_of s) scale c (row_at N l a) (row_at N l b)) l)
  linear_holds r a b scale c f =
      let k = f.placed in
      put_holds plan draw len i M vec l h f.framed.sized.length_is r held (omega (arith, k.row_in)) _ _
      (ap₂ (summed (sums_at_of s) scale c) (held_row_is a k.a_in k.a_held) (held_row_is b k.b_in k.b_held)
      ∙ sym (row_summed (plan_shape plan) i scale c (point_of plan draw i) (vec a) (vec b))
      ∙ ap (row_for plan draw i) (sym (linear_sum vec a b scale c)))

  pub masks_holds : (a b r : ℕ) → mark_of M r ≡ unused → Holds plan draw len i (marks_by (factors a b r) M) vec l
  masks_holds a b r three = keep_holds plan draw len i M (marks_by (factors a b r) M) vec l h (λ q lq ne. go q ne (ℕ_discrete q r))
    where
      go : (q : ℕ) → get_or (set M.marks r masked) q 0 ≢ empty → Dec (q ≡ r) → mark_of M q ≢ empty
      go q ne (yes e) = λ g. omega (arith, three, ap (mark_of M) e)
      go q ne (no e) = subst (λ (z : ℕ). z ≢ empty) (get_or-set_other M.marks r q masked 0 e) ne

  pub collect_holds : (r : ℕ) → mark_of M r ≡ masked → Holds plan draw len i (remarked M r collected) vec l
  collect_holds r five = keep_holds plan draw len i M (remarked M r collected) vec l h (λ q lq ne. go q ne (ℕ_discrete q r))
    where
      go : (q : ℕ) → get_or (set M.marks r collected) q 0 ≢ empty → Dec (q ≡ r) → mark_of M q ≢ empty
      go q ne (yes e) = λ g. omega (arith, five, ap (mark_of M) e)
      go q ne (no e) = subst (λ (z : ℕ). z ≢ empty) (get_or-set_other M.marks r q collected 0 e) ne

  -- a triple's three rows
  pub triple_holds : (r : ℕ) (pack : List ℕ) (X Y Z : Vector)
      → pack ≡ row_for plan draw i X ++ (row_for plan draw i Y ++ row_for plan draw i Z) → TripleLoaded s l r pack
      → Holds plan draw len i (marks_by (loads_triple r) M) (at (at (at vec r X) (r + 1) Y) (r + 2) Z) (with_triple N r pack l)
  unfolding with_triple
  triple_holds r pack X Y Z e f =
      put_holds plan draw len i _ _ _
      (put_holds plan draw len i _ _ _ (put_holds plan draw len i M vec l h size r unused (omega (arith, low)) _ X e0) size1 (r + 1) further (omega (arith, low)) _ Y e1)
      size2 (r + 2) further (omega (arith, low)) _ Z e2
    where
      low : r ≤ last_triple
      low = f.triple_in

      size : length l ≡ row_count_of * N
      size = f.framed.sized.length_is

      x : List ℕ
      x = row_for plan draw i X

      y : List ℕ
      y = row_for plan draw i Y

      e0 : row_at N pack 0 ≡ x
      e0 = ap₂ (λ (m : ℕ) (q : List ℕ). take N (drop m q)) (zero-mul N) e ∙ take_at x _ N (row_wide plan draw i X)

      e1 : row_at N pack 1 ≡ y
      e1 =
          ap (λ (q : List ℕ). take N (drop (1 * N) q)) e
          ∙ ap (take N) (drop_at x _ (1 * N) (row_wide plan draw i X ∙ sym (one-mul N))) ∙ take_at y _ N (row_wide plan draw i Y)

      e2 : row_at N pack 2 ≡ row_for plan draw i Z
      e2 =
          ap (λ (q : List ℕ). take N (drop (2 * N) q)) (e ∙ sym (append_assoc x y (row_for plan draw i Z)))
          ∙ ap (take N)
          (drop_at (x ++ y) (row_for plan draw i Z) (2 * N) (length-append x y ∙ ap₂ ◌+◌ (row_wide plan draw i X) (row_wide plan draw i Y) ∙ omega arith))
          ∙ take_all N (row_for plan draw i Z) (omega (arith, row_wide plan draw i Z))

      size1 : length (with_row N r (row_at N pack 0) l) ≡ row_count_of * N
      size1 = length_with_row N row_count_of l r size (omega (arith, low)) (row_at N pack 0) (ap length e0 ∙ row_wide plan draw i X) ∙ size

      size2 : length (with_row N (r + 1) (row_at N pack 1) (with_row N r (row_at N pack 0) l)) ≡ row_count_of * N
      size2 =
          length_with_row N row_count_of _ (r + 1) size1 (omega (arith, low)) (row_at N pack 1) (ap length e1 ∙ row_wide plan draw i Y) ∙ size1
