-- One post's two calls of a finish: where t+1 of the polynomials it accepted are truly their senders', and no share of an accepted one
-- is off their polynomial, the first remembers y and y'; then the second's third row is its part of the product.
use Prim.Native.Nat.{ℕ, suc, ◌+◌, ◌*◌, ◌-◌, ◌≤◌, ◌<◌}
use mathlib.Core.Path.{◌≡◌, sym, ◌∙◌, ap, ap₂, subst}
use mathlib.Core.Bool.{false}
use mathlib.Core.Logic.{◌≢◌}
use mathlib.Core.List.{List}
use native.Mathlib.Decide.{ℕ_discrete}
use native.Mathlib.Omega.{arith}
use lib.ListN.{length, set}
use lib.Seq.{get_or-set_other}
use Rattle.field.specs.Modulus.{p}
use Rattle.field.specs.Arithmetic.{product}
use Rattle.field.specs.Element.{element}
use Rattle.shape.specs.Bounds.{row_count_of, last_triple}
use Rattle.shape.specs.Marks.{empty, held, masked, spent, collected}
use Rattle.session.specs.declared.Session.{Session}
use Rattle.session.specs.Sessions.{opened_a_of, opened_b_of}
use Rattle.session.specs.Rows.{sums_at_of, row_at, summed}
use Rattle.sums.proofs.Summed.{plus_nothing}
use Rattle.opening.specs.Walking.{too_few_of, disagree, opened}
use Rattle.collect.specs.Collect as Collect
use Rattle.collect.specs.Collect.{number_a, number_b}
use Rattle.multiply.specs.Multiply.{product_row, with_product}
use Rattle.collect.proofs.Passed.{Collected, collect_framed}
use Rattle.multiply.proofs.Passed.{Multiplied}
use Rattle.vectors.specs.Vector.{Vector, plus_times, number}
use Rattle.vectors.specs.Claims.{held_row, EnoughTruly}
use Rattle.vectors.proofs.Linear.{row_plus_times, row_summed}
use Rattle.vectors.proofs.Shares.{opened_exact}
use Rattle.runs.specs.Draws.{Plan, Draw, point_of, plan_shape}
use Rattle.runs.specs.Calls.{at}
use Rattle.runs.proofs.Marks.{Marks, mark_of, remembered_a, remembered_b, remarked, finished, Opened, session_at, mask_vector_a, mask_vector_b, written}
use Rattle.runs.proofs.Sums.{product_vector, product_sum_lem}
use Rattle.runs.proofs.Packs.{row_for}
use Rattle.runs.proofs.Holds.{Holds, holds_sets, wide, put_holds, keep_holds, Holder, session_of, combined_row}
use Rattle.runs.proofs.Facts.{Multiplying, Tripled}
use Rattle.runs.proofs.Recalled.{Recalled}

-- where enough polynomials are accepted, t+1 of the record's are the senders' own of the vector S
abbrev pub Trusted : Session → Vector → List ℕ → Type 0
Trusted s S blocks = s.n < p → too_few_of s (held_row s S) blocks ≡ false → EnoughTruly s S blocks

-- by the post alone, whatever its session remembers
module _ (plan : Plan) (draw : Draw) (i : ℕ) (M : Marks) (Y Y' : Opened) (S : Vector) (blocks : List ℕ) where
  pub trusted_any : Trusted (session_at plan draw i M Y) S blocks → Trusted (session_at plan draw i M Y') S blocks
  trusted_any t few enough =
      let e = t few enough in
      record { good = e.good; many = e.many; different = e.different; truly = e.truly }

module _ (H : Holder) where
  open H use {plan, draw, len, post as i, marks as M, vec, rows as l, holds as h}

  abbrev s : Session
  s = session_of H

  abbrev W : ℕ
  W = wide plan

  row_of_product : (y y' : ℕ) (a b c : Vector)
      → product_row s y y' (row_for plan draw i a) (row_for plan draw i b) (row_for plan draw i c)
      ≡ row_for plan draw i (product_vector y y' a b c)
  unfolding product_row
  row_of_product y y' a b c =
      let w = point_of plan draw i in
      ap (λ (x : List ℕ). summed (sums_at_of s) y' (product y y') x (row_for plan draw i a))
      (plus_nothing (sums_at_of s) y (row_for plan draw i c) (row_for plan draw i b) ∙ sym (row_plus_times (plan_shape plan) i y w c b))
      ∙ sym (row_summed (plan_shape plan) i y' (product y y') w (plus_times (element y) c b) a)

  -- the rows of a triple that waits, and those that are opened
  module _ (r : ℕ) (ok : Multiplying masked M (remembered_a M r) (remembered_b M r) r) where
    low : r ≤ last_triple
    low = ok.r_low

    row_a : row_at W l r ≡ row_for plan draw i (vec r)
    row_a = h.rows r (omega (arith, low)) (λ e. omega (arith, ok.first))

    row_b : row_at W l (r + 1) ≡ row_for plan draw i (vec (r + 1))
    row_b = h.rows (r + 1) (omega (arith, low)) (λ e. omega (arith, ok.second))

    factor_row : (x : ℕ) → x < row_count_of → mark_of M x ≡ held → row_at W l x ≡ row_for plan draw i (vec x)
    factor_row x lx e = h.rows x lx (λ z. omega arith)

    pub opens_a : Collect.mask_a s l r ≡ held_row s (mask_vector_a M vec r)
    opens_a = combined_row H (p - 1) (remembered_a M r) r (factor_row (remembered_a M r) ok.a_low ok.a_held) row_a

    pub opens_b : Collect.mask_b s l r ≡ held_row s (mask_vector_b M vec r)
    opens_b = combined_row H (p - 1) (remembered_b M r) (r + 1) (factor_row (remembered_b M r) ok.b_low ok.b_held) row_b

  -- the number that is opened, where t+1 of the record's polynomials are true
  pub opened_is : plan.n < p → (x : List ℕ) (S : Vector) (bl : List ℕ) → x ≡ held_row s S → Trusted s S bl → too_few_of s x bl ≡ false
      → disagree s x bl ≡ false → opened s x bl ≡ (number S).0
  opened_is few x S bl e trusted some agree =
      let enough = sym (ap (λ (y : List ℕ). too_few_of s y bl) e) ∙ some in
      ap (λ (y : List ℕ). opened s y bl) e
      ∙ opened_exact s S bl few enough (trusted few enough) (sym (ap (λ (y : List ℕ). disagree s y bl) e) ∙ agree)

  -- the first call: where t+1 of the polynomials accepted are true, the numbers opened are those of a − l and b − l'
  module _ (r : ℕ) (blocks_a blocks_b : List ℕ) (ok : Multiplying masked M (remembered_a M r) (remembered_b M r) r) (f : Collected s l r blocks_a blocks_b) where
    few : plan.n < p
    few = omega (arith, (collect_framed s l r blocks_a blocks_b f.checked).sized.valid.n_in)

    pub collect_a : Trusted s (mask_vector_a M vec r) blocks_a → number_a s l r blocks_a ≡ (number (mask_vector_a M vec r)).0
    collect_a ta = opened_is few (Collect.mask_a s l r) (mask_vector_a M vec r) blocks_a (opens_a r ok) ta f.enough_a f.agree_a

    pub collect_b : Trusted s (mask_vector_b M vec r) blocks_b → number_b s l r blocks_b ≡ (number (mask_vector_b M vec r)).0
    collect_b tb = opened_is few (Collect.mask_b s l r) (mask_vector_b M vec r) blocks_b (opens_b r ok) tb f.enough_b f.agree_b

  -- the product of the triple at r, written from the numbers of a − l and of b − l'
  module _ (r : ℕ) {m : ℕ} (ok : Tripled (suc m) M r) (size : length l ≡ row_count_of * W) where
    row_is : (q : ℕ) {k : ℕ} → q < row_count_of → mark_of M q ≡ suc k → row_at W l q ≡ row_for plan draw i (vec q)
    row_is q low e = h.rows q low (λ g. omega arith)

    before : (q : ℕ) → q < row_count_of → mark_of (remarked (remarked M r spent) (r + 1) spent) q ≢ empty → mark_of M q ≢ empty
    before q lq ne = go (ℕ_discrete q r) (ℕ_discrete q (r + 1))
      where
        go : Dec (q ≡ r) → Dec (q ≡ r + 1) → mark_of M q ≢ empty
        go (yes e) d = λ g. omega (arith, ok.first, ap (mark_of M) e)
        go (no e) (yes d) = λ g. omega (arith, ok.second, ap (mark_of M) d)
        go (no e) (no d) =
            subst (λ (m : ℕ). m ≢ empty) (get_or-set_other (set M.marks r spent) (r + 1) q spent 0 d ∙ get_or-set_other M.marks r q spent 0 e) ne

    pub product_holds : (M₀ : Marks) (Y₀ : Opened) (y y' : ℕ) → y ≡ (number (mask_vector_a M vec r)).0 → y' ≡ (number (mask_vector_b M vec r)).0
        → Holds plan draw len i (finished M r) (at vec (r + 2) (written M vec r)) (with_product (session_at plan draw i M₀ Y₀) y y' r l)
    unfolding with_product product_row
    product_holds M₀ Y₀ y y' ya yb =
        holds_sets plan draw len i _ _ _ _ (put_holds plan draw len i (remarked (remarked M r spent) (r + 1) spent) vec l
        (keep_holds plan draw len i M (remarked (remarked M r spent) (r + 1) spent) vec l h before) size (r + 2) held
        (omega (arith, ok.r_low)) _ _ (ap₂ (λ (y y' : ℕ). product_row s y y' (row_at W l r) (row_at W l (r + 1)) (row_at W l (r + 2))) ya yb ∙ rows_are ∙ row_of_product _ _ _ _ _
        ∙ ap (row_for plan draw i) (sym (product_sum_lem vec r _ _))))
      where
        row_a' : row_at W l r ≡ row_for plan draw i (vec r)
        row_a' = row_is r (omega (arith, ok.r_low)) ok.first

        row_b' : row_at W l (r + 1) ≡ row_for plan draw i (vec (r + 1))
        row_b' = row_is (r + 1) (omega (arith, ok.r_low)) ok.second

        row_ab' : row_at W l (r + 2) ≡ row_for plan draw i (vec (r + 2))
        row_ab' = row_is (r + 2) (omega (arith, ok.r_low)) ok.third

        rows_are : product_row s (number (mask_vector_a M vec r)).0 (number (mask_vector_b M vec r)).0 (row_at W l r) (row_at W l (r + 1)) (row_at W l (r + 2))
            ≡ product_row s (number (mask_vector_a M vec r)).0 (number (mask_vector_b M vec r)).0 (row_for plan draw i (vec r)) (row_for plan draw i (vec (r + 1))) (row_for plan draw i (vec (r + 2)))
        rows_are = λ j. product_row s (number (mask_vector_a M vec r)).0 (number (mask_vector_b M vec r)).0 (row_a' j) (row_b' j) (row_ab' j)

  -- the second call, which goes by the numbers remembered
  module _ (r : ℕ) (f : Multiplied s l r) (k : Recalled M vec H.opened r) where
    tripled : Tripled collected M r
    tripled = record {
      r_low = omega (arith, f.placed.triple_in);
      first = f.placed.first_mark;
      second = f.placed.second_mark;
      third = f.placed.third_mark;
      a_held = f.placed.a_held;
      b_held = f.placed.b_held;
    }

    pub multiply_holds : Holds plan draw len i (finished M r) (at vec (r + 2) (written M vec r)) (with_product s (opened_a_of s r) (opened_b_of s r) r l)
    multiply_holds = product_holds r tripled f.framed.sized.length_is M H.opened _ _ k.is_a k.is_b
