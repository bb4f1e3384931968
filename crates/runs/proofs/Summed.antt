-- A relation's two calls at one post that holds its rows: the masks of each product term; the products, and then the sum.
use Prim.Native.Nat.{ℕ, suc, ◌+◌, ◌*◌, ◌-◌, ◌≤◌, ◌<◌}
use mathlib.Core.Path.{◌≡◌, refl, sym, ◌∙◌, ap, ap₂, subst}
use mathlib.Core.List.{List, [], ◌∷◌, ◌++◌, map}
use native.Mathlib.Omega.{arith}
use lib.ListN.{length, take, length-append}
use lib.Seq.{take_at, drop_at}
use Rattle.field.specs.Modulus.{p}
use Rattle.field.specs.Element.{element}
use Rattle.shape.specs.Lengths.{masks_length, v_length}
use Rattle.shape.specs.Bounds.{row_count_of}
use Rattle.shape.specs.Marks.{held, unused}
use Rattle.poly.specs.Counting.{All}
use Rattle.callers.specs.Sets.{shared_all}
use Rattle.session.specs.declared.Session.{Session}
use Rattle.session.specs.Sessions.{shape_of, summed_row}
use Rattle.session.specs.Rows.{row_at, combined}
use Rattle.opening.specs.Walking.{record_length}
use Rattle.product_masks.specs.Masks.{mask_row, mask_numbers_of}
use Rattle.product_masks.proofs.Passed.{Factored}
use Rattle.terms.specs.declared.Term.{Term}
use Rattle.terms.specs.Listed.{products_of}
use Rattle.relation.specs.Masks.{term_masks}
use Rattle.relation.specs.Finish.{record_a_of, record_b_of, term_mask_a, term_mask_b, with_products, with_sum, finished_terms, relation_done, number_row_of, number_rows}
use Rattle.relation.proofs.Passed.{AllAt, Enough, Agreed, RelationFinishPlaced, RelationFinished}
use Rattle.vectors.specs.Vector.{Vector, numbers}
use Rattle.vectors.proofs.Linear.{length_numbers}
use Rattle.runs.specs.Draws.{point_of, plan_shape}
use Rattle.runs.specs.Outline.{takes, Move, acts_in, maskings, finishing, summing, summand, rows_in_of}
use Rattle.runs.specs.Calls.{Actual, pieces}
use Rattle.runs.proofs.Marks.{Marks, remembered_a, remembered_b, remarked, with_sets, no_numbers, session_at, less, mask_vector_a, mask_vector_b, marks_all, number_in, vectors_all, opened_all}
use Rattle.runs.proofs.Packs.{row_for}
use Rattle.runs.proofs.Holds.{Holds, holds_sets, wide, Holder, session_of, held_row_is, combined_row}
use Rattle.runs.proofs.Finishing.{Trusted, trusted_any, opens_a, opens_b, opened_is}
use Rattle.runs.proofs.Relations.{apart, Waits, finished_all}
use Rattle.runs.proofs.Related.{multiplied_all, opened_terms, marks_products, vectors_products, opened_products, sum_holds, OpensTo, products_hold, finished_session, cut_is}
use Rattle.runs.proofs.Allowed.{waiting, sum_allowed}
use Rattle.runs.proofs.Standing.{own_numbers, FitsWith, SaysAll}

-- the rows of a relation's sum
pub rows_in : (ts : List Term) → rows_in_of (map summand ts) ≡ number_rows ts
rows_in [] = refl
rows_in (t ∷ ts) = ap (λ (rs : List ℕ). number_row_of t ∷ rs) (rows_in ts)

module _ (H : Holder) where
  open H use {plan, draw, len, post as i, marks as M, opened as Y, vec, rows as l, holds as h}

  abbrev s : Session
  s = session_of H

  -- a single product's masks
  pub masks_at : (a b r : ℕ) → Factored s a b r unused
      → mask_numbers_of s l a b r
      ≡ numbers (v_length (plan_shape plan)) ((less (vec a) (vec r)).v i) ++ numbers (v_length (plan_shape plan)) ((less (vec b) (vec (r + 1))).v i)
  unfolding mask_numbers_of
  masks_at a b r f =
      ap₂ ◌++◌
      (half a r (held_row_is H a f.a_in f.a_held) (held_row_is H r (omega (arith, f.triple_in)) f.first_mark))
      (half b (r + 1) (held_row_is H b f.b_in f.b_held) (held_row_is H (r + 1) (omega (arith, f.triple_in)) f.second_mark))
    where
      half : (x y : ℕ) → row_at (wide plan) l x ≡ row_for plan draw i (vec x) → row_at (wide plan) l y ≡ row_for plan draw i (vec y)
          → take (v_length (plan_shape plan)) (combined (p - 1) (row_at (wide plan) l x) (row_at (wide plan) l y)) ≡ numbers (v_length (plan_shape plan)) ((less (vec x) (vec y)).v i)
      half x y ex ey =
          ap (take (v_length (plan_shape plan))) (combined_row H (p - 1) x y ex ey)
          ∙ own_numbers (plan_shape plan) i (point_of plan draw i) (less (vec x) (vec y))

  masks_long : (a b r : ℕ) → Factored s a b r unused → length (mask_numbers_of s l a b r) ≡ masks_length (shape_of s)
  masks_long a b r f =
      let va = (less (vec a) (vec r)).v i in
      let vb = (less (vec b) (vec (r + 1))).v i in
      ap length (masks_at a b r f) ∙ length-append (numbers (v_length (plan_shape plan)) va) (numbers (v_length (plan_shape plan)) vb)
      ∙ ap₂ ◌+◌ (length_numbers (v_length (plan_shape plan)) va) (length_numbers (v_length (plan_shape plan)) vb) ∙ omega arith

  -- the masks of a relation, term by term
  pub all_masks : (ts : List Term) → All (λ t. Factored s t.row t.second t.first unused) ts
      → SaysAll plan draw i vec (maskings ts) (pieces (masks_length (shape_of s)) (length ts) (term_masks (shape_of s) l ts))
  unfolding term_masks mask_numbers_of
  all_masks [] f = tt
  all_masks (t ∷ ts) f =
      let e = masks_at t.row t.second t.first f.0 in
      let ms = mask_numbers_of s l t.row t.second t.first in
      let long = masks_long t.row t.second t.first f.0 in (
        take_at ms (term_masks (shape_of s) l ts) (masks_length (shape_of s)) long ∙ e,
        subst (λ (xs : List ℕ). SaysAll plan draw i vec (maskings ts) (pieces (masks_length (shape_of s)) (length ts) xs))
            (sym (drop_at ms (term_masks (shape_of s) l ts) (masks_length (shape_of s)) long)) (all_masks ts f.1),
      )

  -- a relation's finish: its records are trusted, so they open to the masks' numbers
  module _ (ts : List Term) (d : ℕ) (blocks : List ℕ) (f : RelationFinished s l ts d blocks) where
    abbrev fs : List Term
    fs = products_of ts

    abbrev parts : ℕ
    parts = 2 * length fs

    placed : RelationFinishPlaced s ts d blocks
    placed = f.checked.placed

    few : plan.n < p
    few = omega (arith, f.checked.framed.sized.valid.n_in)

    opens_to : (k : ℕ) (us : List Term) (rest : List (Move Actual)) → length us ≤ length fs → All (Waits M) us
        → All (λ t. (remembered_a M t.first ≡ t.row) × (remembered_b M t.first ≡ t.second)) us
        → AllAt (Enough s l blocks) k us → AllAt (Agreed s l blocks) k us
        → All (λ m. FitsWith plan draw i M vec (takes m.0) m.1) (finishing Actual parts blocks k us ++ rest)
        → AllAt (OpensTo plan draw len i M Y l blocks M vec) k us
    opens_to k [] rest some w r e a fit = tt
    opens_to k (t ∷ us) rest some w r e a fit =
        let cuts = cut_is (length fs) (record_length s) blocks (omega arith) placed.blocks_long in (
          (
            opened_is H few (term_mask_a s l t) (mask_vector_a M vec t.first) (record_a_of s blocks k)
                (ap (λ (x : ℕ). mask_row (shape_of s) l x t.first) (sym r.0.0) ∙ opens_a H t.first w.0)
                (subst (Trusted s (mask_vector_a M vec t.first)) (cuts (2 * k)) (trusted_any plan draw i M no_numbers Y (mask_vector_a M vec t.first) _ fit.0.0)) e.0.0 a.0.0,
            opened_is H few (term_mask_b s l t) (mask_vector_b M vec t.first) (record_b_of s blocks k)
                (ap (λ (x : ℕ). mask_row (shape_of s) l x (t.first + 1)) (sym r.0.1) ∙ opens_b H t.first w.0)
                (subst (Trusted s (mask_vector_b M vec t.first)) (cuts (2 * k + 1)) (trusted_any plan draw i M no_numbers Y (mask_vector_b M vec t.first) _ fit.0.1)) e.0.1 a.0.1,
          ),
          opens_to (suc k) us rest (omega arith) w.1 r.1 e.1 a.1 fit.1.1,
        )

    size : length l ≡ row_count_of * wide plan
    size = f.checked.framed.sized.length_is

    -- what the acts take
    abbrev Taken : Type 0
    Taken = All (λ m. FitsWith plan draw i M vec (takes m.0) m.1) (finishing Actual (2 * length (products_of ts)) blocks 0 (products_of ts) ++ summing Actual d ts)

    waits : All (Waits M) (products_of ts)
    waits = waiting plan draw i M Y l ts d blocks placed

    opens_all : Taken → AllAt (OpensTo plan draw len i M Y l blocks M vec) 0 (products_of ts)
    opens_all fit = opens_to 0 fs (summing Actual d ts) (omega arith) waits placed.remembered f.enough f.agreed fit

    products_now : Taken
        → Holds plan draw len i (finished_all (products_of ts) M) (multiplied_all (products_of ts) M vec) (with_products s l blocks 0 (products_of ts) l)
    products_now fit =
        products_hold plan draw len i M Y l blocks (sym h.long ∙ size) 0 fs M vec l h waits (apart fs placed.once) (opens_all fit)

    session_now : Taken
        → finished_terms s l blocks 0 (products_of ts) s ≡ session_at plan draw i (finished_all (products_of ts) M) (opened_terms (products_of ts) M vec Y)
    session_now fit = finished_session plan draw len i M Y l blocks 0 fs M vec Y waits (apart fs placed.once) (opens_all fit)

  -- then the sum
  pub summed_up : (ts : List Term) (d : ℕ) (blocks : List ℕ) (f : RelationFinished s l ts d blocks)
      → All (λ m. FitsWith plan draw i M vec (takes m.0) m.1) (finishing Actual (2 * length (products_of ts)) blocks 0 (products_of ts) ++ summing Actual d ts)
      → (relation_done s l blocks (products_of ts) ts d
      ≡ session_at plan draw i (marks_all (acts_in Actual (finishing Actual (2 * length (products_of ts)) blocks 0 (products_of ts) ++ summing Actual d ts)) M)
      (opened_all plan draw Actual number_in (finishing Actual (2 * length (products_of ts)) blocks 0 (products_of ts) ++ summing Actual d ts) M vec Y))
      × Holds plan draw len i (marks_all (acts_in Actual (finishing Actual (2 * length (products_of ts)) blocks 0 (products_of ts) ++ summing Actual d ts)) M)
      (vectors_all plan draw Actual number_in (finishing Actual (2 * length (products_of ts)) blocks 0 (products_of ts) ++ summing Actual d ts) M vec)
      (with_sum s d ts (with_products s l blocks 0 (products_of ts) l))
  summed_up [] d blocks f fit = absurd (omega (arith, f.checked.placed.some))
  summed_up (t ∷ ts) d blocks f fit =
      let fs = products_of (t ∷ ts) in
      let N = finished_all fs M in
      let hp = products_now (t ∷ ts) d blocks f fit in
      let sum = (sum_allowed plan draw i M Y l (t ∷ ts) d blocks f.checked.placed).0.0 in
      let rows = with_products s l blocks 0 fs l in
      let H' : Holder = record { plan = plan; draw = draw; len = len; post = i; marks = N; opened = Y; vec = multiplied_all fs M vec; rows = rows; holds = hp } in
      let last = summing Actual d (t ∷ ts) in
      let marks-are = marks_products plan draw (2 * length fs) blocks last 0 fs M in (
        ap₂ (λ (x : Session) (rs : List ℕ). summed_row x d rs) (session_now (t ∷ ts) d blocks f fit) (sym (rows_in (t ∷ ts)))
            ∙ sym (ap₂ (session_at plan draw i) marks-are (opened_products plan draw (2 * length fs) blocks last 0 fs M vec Y)),
        subst (λ (Q : Marks). Holds plan draw len i Q (vectors_all plan draw Actual number_in (finishing Actual (2 * length fs) blocks 0 fs ++ last) M vec) (with_sum s d (t ∷ ts) rows))
            (sym marks-are)
            (subst (λ (v : ℕ → Vector). Holds plan draw len i (with_sets (remarked N d held) (shared_all N.sets d (rows_in_of (map summand (t ∷ ts))))) v (with_sum s d (t ∷ ts) rows)) (sym (vectors_products plan draw (2 * length fs) blocks last 0 fs M vec))
            (holds_sets plan draw len i (remarked N d held) _ _ _ (sum_holds H' M Y d sum.r_low (hp.long ∙ sym h.long ∙ f.checked.framed.sized.length_is) sum.r_empty t ts sum.held))),
      )
