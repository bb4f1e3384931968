-- One post's relation: the products are written one after the other, from numbers that the rows before the call give; then the sum.
use Prim.Native.Nat.{ℕ, zero, suc, ◌+◌, ◌*◌, ◌/◌, ◌<◌}
use mathlib.Core.Path.{◌≡◌, refl, sym, ◌∙◌, ap, ap₂, subst}
use mathlib.Core.Logic.{◌≢◌}
use mathlib.Core.List.{List, [], ◌∷◌, ◌++◌, map}
use native.Mathlib.Nat.{mul_assoc, mul_comm, mul-div_cancel}
use native.Mathlib.Omega.{arith}
use lib.ListN.{length, replicate}
use Rattle.field.specs.Element.{Element, element}
use Rattle.field.proofs.Expression.{A, 𝟘, ◌:+◌, ◌:*◌, Same}
use Rattle.field.proofs.Solver.{solve}
use Rattle.field.proofs.Elements.{𝓡}
use Rattle.poly.specs.Counting.{All}
use Rattle.poly.proofs.Lists.{all_join}
use Rattle.shape.specs.Bounds.{row_count_of}
use Rattle.shape.specs.Marks.{empty, held as heldMark, masked}
use Rattle.shape.specs.Lengths.{f_length, v_length, checks_length}
use Rattle.session.specs.declared.Session.{Session}
use Rattle.session.specs.Rows.{sums_at_of, row_at, with_row, combined}
use Rattle.sums.proofs.Summed.{plus_nothing}
use Rattle.session.proofs.RowLaws.{row_same, row_other, row_again}
use Rattle.terms.specs.declared.Term.{Term}
use Rattle.relation.specs.Finish.{term_number_a, term_number_b, with_products, number_row_of, plus_term, plus_terms, with_sum, pair_done, finished_terms}
use Rattle.relation.specs.Masks.{masked_terms}
use Rattle.vectors.specs.Vector.{Vector, plus_times, number, firsts, numbers, value_at, row_of}
use Rattle.vectors.proofs.Linear.{row_plus_times}
use Rattle.runs.specs.Draws.{Plan, Draw, point_of, plan_shape}
use Rattle.runs.specs.Outline.{cut, Move, factors, collects, acts_in, factoring, finishing, summand}
use Rattle.runs.specs.Calls.{Actual, at}
use Rattle.runs.proofs.Marks.{Marks, mark_of, remembered_a, remembered_b, remarked, finished, Opened, session_at, less, zero_vector, total_vector, mask_vector_a, mask_vector_b, written, at_other, marks_by, opened_by, marks_all, number_in, vectors_all, opened_all}
use Rattle.runs.proofs.Sums.{added_terms, terms_sum}
use Rattle.runs.proofs.Packs.{row_for}
use Rattle.runs.proofs.Holds.{Holds, wide, row_wide, put_holds, masks_holds, Holder}
use Rattle.runs.proofs.Finishing.{product_holds}
use Rattle.runs.proofs.Facts.{HeldIn, Multiplying, Tripled, AllowedAll}
use Rattle.runs.proofs.Relations.{Apart, Waits, done_is, finished_all, all_wait}
use Rattle.relation.proofs.Passed.{AllAt}
open 𝓡 use {add as ◌⊕◌, mul as ◌⊗◌, zero as 0ᴱ}

infixl 65 ◌⊕◌
infixl 70 ◌⊗◌
-- the vectors once the products of these terms are written
abbrev pub multiplied_all : List Term → Marks → (ℕ → Vector) → ℕ → Vector
multiplied_all [] M vec = vec
multiplied_all (t ∷ ts) M vec = multiplied_all ts (finished M t.first) (at vec (t.first + 2) (written M vec t.first))

-- the numbers remembered once the masks of these terms are opened
abbrev pub opened_terms : List Term → Marks → (ℕ → Vector) → Opened → Opened
opened_terms [] M vec Y = Y
opened_terms (t ∷ ts) M vec Y =
    opened_terms ts (finished M t.first) (at vec (t.first + 2) (written M vec t.first)) (opened_by (collects t.first) M vec Y)

-- marks, vectors and numbers after the acts: the products', then the rest
module _ (plan : Plan) (draw : Draw) (m : ℕ) (blocks : List ℕ) (rest : List (Move Actual)) where
  pub marks_products : (k : ℕ) (ts : List Term) (M : Marks)
      → marks_all (acts_in Actual (finishing Actual m blocks k ts ++ rest)) M ≡ marks_all (acts_in Actual rest) (finished_all ts M)
  marks_products k [] M = refl
  marks_products k (t ∷ ts) M =
      ap (marks_all (acts_in Actual (finishing Actual m blocks (suc k) ts ++ rest))) (done_is M t.first)
      ∙ marks_products (suc k) ts (finished M t.first)

  pub vectors_products : (k : ℕ) (ts : List Term) (M : Marks) (vec : ℕ → Vector)
      → vectors_all plan draw Actual number_in (finishing Actual m blocks k ts ++ rest) M vec
      ≡ vectors_all plan draw Actual number_in rest (finished_all ts M) (multiplied_all ts M vec)
  vectors_products k [] M vec = refl
  vectors_products k (t ∷ ts) M vec =
      ap (λ (N : Marks). vectors_all plan draw Actual number_in (finishing Actual m blocks (suc k) ts ++ rest) N (at vec (t.first + 2) (written M vec t.first)))
      (done_is M t.first)
      ∙ vectors_products (suc k) ts (finished M t.first) _

  pub opened_products : (k : ℕ) (ts : List Term) (M : Marks) (vec : ℕ → Vector) (Y : Opened)
      → opened_all plan draw Actual number_in (finishing Actual m blocks k ts ++ rest) M vec Y
      ≡ opened_all plan draw Actual number_in rest (finished_all ts M) (multiplied_all ts M vec) (opened_terms ts M vec Y)
  opened_products k [] M vec Y = refl
  opened_products k (t ∷ ts) M vec Y =
      ap (λ (N : Marks). opened_all plan draw Actual number_in (finishing Actual m blocks (suc k) ts ++ rest) N (at vec (t.first + 2) (written M vec t.first)) (opened_by (collects t.first) M vec Y))
      (done_is M t.first)
      ∙ opened_products (suc k) ts (finished M t.first) _ _

-- ---- a row of zeros

zero_value : (k : ℕ) (x : Element) → value_at k (λ i. 0ᴱ) x ≡ 0ᴱ
unfolding value_at firsts Same
zero_value zero x = refl
zero_value (suc k) x = ap (λ (z : Element). 0ᴱ ⊕ x ⊗ z) (zero_value k x) ∙ solve 𝓡 (x ∷ []) (𝟘 :+ A :* 𝟘) 𝟘 refl

zero_numbers : (k : ℕ) (a : ℕ → Element) → ((i : ℕ) → a i ≡ 0ᴱ) → All (λ x. x ≡ 0) (numbers k a)
unfolding numbers Rattle.field.specs.Element.0ᴱ element
zero_numbers zero a h = tt
zero_numbers (suc k) a h = (ap (λ (z : Element). z.0) (h 0), zero_numbers k (λ i. a (suc i)) (λ i. h (suc i)))

all_zero : (l : List ℕ) → All (λ x. x ≡ 0) l → replicate (length l) 0 ≡ l
all_zero [] a = refl
all_zero (x ∷ l) a = ap₂ ◌∷◌ (sym a.0) (all_zero l a.1)

module _ (plan : Plan) (draw : Draw) (i : ℕ) where
  zero_row : replicate (wide plan) 0 ≡ row_for plan draw i zero_vector
  unfolding row_of Same
  zero_row =
      ap (λ (k : ℕ). replicate k 0) (sym (row_wide plan draw i zero_vector))
      ∙ all_zero (row_for plan draw i zero_vector)
      (all_join _ (numbers (v_length (plan_shape plan)) _) _ (zero_numbers (v_length (plan_shape plan)) _ (λ k. refl))
      (all_join _ (numbers (checks_length (plan_shape plan)) _) _ (zero_numbers (checks_length (plan_shape plan)) _ (λ j. zero_value (v_length (plan_shape plan)) _))
      (zero_numbers plan.n _ (λ j.
      ap (λ (z : Element). 0ᴱ ⊕ z ⊕ 0ᴱ) (zero_value (f_length (plan_shape plan)) (element (suc j))) ∙ solve 𝓡 [] (𝟘 :+ 𝟘 :+ 𝟘) 𝟘 refl))))

-- ---- the sum of the terms, in row d

module _ (H : Holder) where
  open H use {plan, draw, len, post as i, marks as M, vec, rows as l, holds as h}

  abbrev W : ℕ
  W = wide plan

  abbrev row : Vector → List ℕ
  row X = row_for plan draw i X

  module _ (M₀ : Marks) (Y₀ : Opened) (d : ℕ) (low : d < row_count_of) (size : length l ≡ row_count_of * wide plan) where
    abbrev s₀ : Session
    s₀ = session_at plan draw i M₀ Y₀

    -- a term's row is held, and is not row d
    abbrev Adds : Term → Type 0
    Adds t = (number_row_of t ≢ d) × (row_at W l (number_row_of t) ≡ row (vec (number_row_of t)))

    one_more : (X : Vector) (t : Term) → Adds t
        → plus_term s₀ d t (with_row W d (row X) l) ≡ with_row W d (row (plus_times (element t.coefficient) X (vec (number_row_of t)))) l
    one_more X t a =
        ap (λ (x : List ℕ). with_row W d x (with_row W d (row X) l))
        (plus_nothing (sums_at_of s₀) t.coefficient (row_at W (with_row W d (row X) l) d) (row_at W (with_row W d (row X) l) (number_row_of t))
        ∙ ap₂ (combined t.coefficient) (row_same W row_count_of l d size low (row X) (row_wide plan draw i X))
        (row_other W row_count_of l d size low (row X) (row_wide plan draw i X) (number_row_of t) a.0 ∙ a.1)
        ∙ sym (row_plus_times (plan_shape plan) i t.coefficient (point_of plan draw i) X (vec (number_row_of t))))
        ∙ row_again W row_count_of l d size low (row X) (row_wide plan draw i X) (row (plus_times (element t.coefficient) X (vec (number_row_of t))))

    all_added : (X : Vector) (ts : List Term) → All Adds ts
        → plus_terms s₀ d ts (with_row W d (row X) l) ≡ with_row W d (row (added_terms vec X ts)) l
    unfolding plus_terms
    all_added X [] a = refl
    all_added X (t ∷ ts) a = ap (plus_terms s₀ d ts) (one_more X t a.0) ∙ all_added (plus_times (element t.coefficient) X (vec (number_row_of t))) ts a.1

    adds_of : mark_of M d ≡ empty → (ts : List Term) → All (HeldIn M) (map summand ts) → All Adds ts
    adds_of was [] a = tt
    adds_of was (t ∷ ts) a = (
      ((λ e. omega (arith, ap (mark_of M) e, a.0.1)), h.rows (number_row_of t) a.0.0 (λ e. omega (arith, a.0.1))),
      adds_of was ts a.1,
    )

    pub sum_holds : mark_of M d ≡ empty → (t : Term) (ts : List Term) → All (HeldIn M) (map summand (t ∷ ts))
        → Holds plan draw len i (remarked M d heldMark) (at vec d (total_vector vec (summand t) (map summand ts))) (with_sum s₀ d (t ∷ ts) l)
    sum_holds was t ts held =
        subst (Holds plan draw len i (remarked M d heldMark) (at vec d (total_vector vec (summand t) (map summand ts))))
        (sym (ap (λ (x : List ℕ). plus_terms s₀ d (t ∷ ts) (with_row W d x l)) (zero_row plan draw i) ∙ all_added zero_vector (t ∷ ts) (adds_of was (t ∷ ts) held)))
        (put_holds plan draw len i M vec l h size d heldMark low _ _ (ap row (terms_sum vec t ts)))

-- ---- the products, one after the other

waiting_triple : (M : Marks) (r : ℕ) → Multiplying masked M (remembered_a M r) (remembered_b M r) r → Tripled masked M r
waiting_triple M r ok = record { r_low = ok.r_low; first = ok.first; second = ok.second; third = ok.third; a_held = ok.a_held; b_held = ok.b_held }

module _ (plan : Plan) (draw : Draw) (len i : ℕ) (M₀ : Marks) (Y₀ : Opened) (rows blocks : List ℕ) where
  abbrev s : Session
  s = session_at plan draw i M₀ Y₀

  -- what a term's records open to, by the marks and vectors of the moment
  abbrev pub OpensTo : Marks → (ℕ → Vector) → ℕ → Term → Type 0
  OpensTo M vec k t =
      (term_number_a (session_at plan draw i M₀ Y₀) rows blocks k t ≡ (number (mask_vector_a M vec t.first)).0)
      × (term_number_b (session_at plan draw i M₀ Y₀) rows blocks k t ≡ (number (mask_vector_b M vec t.first)).0)

  still_opens : (M : Marks) (vec : ℕ → Vector) (r : ℕ) (X : Vector) → Multiplying masked M (remembered_a M r) (remembered_b M r) r → (k : ℕ) (t : Term)
      → t.first ≢ r → Waits M t → OpensTo M vec k t → OpensTo (finished M r) (at vec (r + 2) X) k t
  still_opens M vec r X ok k t ne w o =
      let q = t.first in
      let ea : at vec (r + 2) X (remembered_a M q) ≡ vec (remembered_a M q) = at_other vec (r + 2) X (remembered_a M q) (λ e. omega (arith, ap (mark_of M) e, w.a_held, ok.third)) in
      let eb : at vec (r + 2) X (remembered_b M q) ≡ vec (remembered_b M q) = at_other vec (r + 2) X (remembered_b M q) (λ e. omega (arith, ap (mark_of M) e, w.b_held, ok.third)) in
      let e0 : at vec (r + 2) X q ≡ vec q = at_other vec (r + 2) X q (λ e. omega (arith, ap (mark_of M) e, w.first, ok.third)) in
      let e1 : at vec (r + 2) X (q + 1) ≡ vec (q + 1) = at_other vec (r + 2) X (q + 1) (λ e. let g : q ≡ r + 1 = omega arith in omega (arith, ap (mark_of M) g, w.first, ok.second)) in (
        o.0 ∙ ap₂ (λ (A B : Vector). (number (less A B)).0) (sym ea) (sym e0),
        o.1 ∙ ap₂ (λ (A B : Vector). (number (less A B)).0) (sym eb) (sym e1),
      )

  all_open : (M : Marks) (vec : ℕ → Vector) (r : ℕ) (X : Vector) → Multiplying masked M (remembered_a M r) (remembered_b M r) r → (k : ℕ) (ts : List Term)
      → All (λ t. t.first ≢ r) ts → All (Waits M) ts → AllAt (OpensTo M vec) k ts → AllAt (OpensTo (finished M r) (at vec (r + 2) X)) k ts
  all_open M vec r X ok k [] ne w o = tt
  all_open M vec r X ok k (t ∷ ts) ne w o =
      (still_opens M vec r X ok k t ne.0 w.0 o.0, all_open M vec r X ok (suc k) ts ne.1 w.1 o.1)

  pub products_hold : len ≡ row_count_of * wide plan → (k : ℕ) (ts : List Term) (M : Marks) (vec : ℕ → Vector) (l : List ℕ) → Holds plan draw len i M vec l → All (Waits M) ts → Apart ts
      → AllAt (OpensTo M vec) k ts
      → Holds plan draw len i (finished_all ts M) (multiplied_all ts M vec) (with_products (session_at plan draw i M₀ Y₀) rows blocks k ts l)
  unfolding with_products
  products_hold size k [] M vec l h w a o = h
  products_hold size k (t ∷ ts) M vec l h w a o =
      let r = t.first in
      let H : Holder = record { plan = plan; draw = draw; len = len; post = i; marks = M; opened = Y₀; vec = vec; rows = l; holds = h } in
      products_hold size (suc k) ts (finished M r) (at vec (r + 2) (written M vec r)) _
      (product_holds H r (waiting_triple M r w.0) (h.long ∙ size) M₀ Y₀ _ _ o.0.0 o.0.1)
      (all_wait M t ts w.0 a.0 w.1) a.1
      (all_open M vec r (written M vec r) w.0 (suc k) ts a.0 w.1 o.1)

  -- the session, by the pair of calls on each term's triple
  pub finished_session : (k : ℕ) (ts : List Term) (M : Marks) (vec : ℕ → Vector) (Y : Opened) → All (Waits M) ts → Apart ts → AllAt (OpensTo M vec) k ts
      → finished_terms (session_at plan draw i M₀ Y₀) rows blocks k ts (session_at plan draw i M Y)
      ≡ session_at plan draw i (finished_all ts M) (opened_terms ts M vec Y)
  unfolding finished_terms
  finished_session k [] M vec Y w a o = refl
  finished_session k (t ∷ ts) M vec Y w a o =
      let r = t.first in
      ap₂ (λ (y y' : ℕ). finished_terms (session_at plan draw i M₀ Y₀) rows blocks (suc k) ts (pair_done (session_at plan draw i M Y) r y y')) o.0.0 o.0.1
      ∙ ap (λ (N : Marks). finished_terms (session_at plan draw i M₀ Y₀) rows blocks (suc k) ts (session_at plan draw i N (opened_by (collects r) M vec Y))) (done_is M r)
      ∙ finished_session (suc k) ts (finished M r) (at vec (r + 2) (written M vec r)) (opened_by (collects r) M vec Y)
      (all_wait M t ts w.0 a.0 w.1) a.1
      (all_open M vec r (written M vec r) w.0 (suc k) ts a.0 w.1 o.1)

-- ---- the sessions after masks

module _ (plan : Plan) (draw : Draw) (i : ℕ) where
  pub masked_session : (ts : List Term) (M : Marks) (vec : ℕ → Vector) (Y : Opened)
      → masked_terms (session_at plan draw i M Y) ts
      ≡ session_at plan draw i (marks_all (acts_in Actual (factoring Actual ts)) M) (opened_all plan draw Actual number_in (factoring Actual ts) M vec Y)
  unfolding masked_terms
  masked_session [] M vec Y = refl
  masked_session (t ∷ ts) M vec Y = masked_session ts (marks_by (factors t.row t.second t.first) M) vec Y

  pub masks_hold : (len : ℕ) (ts : List Term) (M : Marks) (Y : Opened) (vec : ℕ → Vector) (l : List ℕ) → Holds plan draw len i M vec l
      → AllowedAll (acts_in Actual (factoring Actual ts)) M
      → Holds plan draw len i (marks_all (acts_in Actual (factoring Actual ts)) M) (vectors_all plan draw Actual number_in (factoring Actual ts) M vec) l
  masks_hold len [] M Y vec l h al = h
  masks_hold len (t ∷ ts) M Y vec l h al =
      let H : Holder = record { plan = plan; draw = draw; len = len; post = i; marks = M; opened = Y; vec = vec; rows = l; holds = h } in
      masks_hold len ts (marks_by (factors t.row t.second t.first) M) Y vec l (masks_holds H t.row t.second t.first al.0.1.first) al.1

-- ---- one of 2 m records of R numbers each

pub cut_is : (m R : ℕ) (blocks : List ℕ) → 0 < m → length blocks ≡ m * (2 * R) → (j : ℕ) → cut (2 * m) j blocks ≡ row_at R blocks j
cut_is m R blocks some long j =
    ap (λ (w : ℕ). row_at w blocks j)
    (ap (λ (k : ℕ). k / (2 * m)) (long ∙ sym (mul_assoc m 2 R) ∙ ap (λ (k : ℕ). k * R) (mul_comm m 2) ∙ mul_comm (2 * m) R)
    ∙ mul-div_cancel R (omega arith))
