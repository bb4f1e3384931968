-- No opening and no collect gets 13 at a post whose records show what their senders broadcast: true polynomials agree.
use Prim.Native.Nat.{ℕ, zero, suc, ◌+◌, ◌≤◌}
use mathlib.Core.Path.{◌≡◌, refl, sym, ◌∙◌, ap}
use mathlib.Core.Bool.{Bool, true, false}
use mathlib.Core.Logic.{◌≢◌, ◌⊎◌, inl, inr}
use mathlib.Core.List.{List, [], ◌∷◌, ◌++◌}
use native.Mathlib.Omega.{arith}
use lib.ListN.{length, take, drop}
use lib.Seq.{take_at, drop_at}
use Rattle.poly.specs.Counting.{Elements}
use Rattle.shape.specs.Marks.{masked}
use Rattle.shape.specs.Lengths.{v_length, masks_length}
use Rattle.refusal.specs.Refusal.{Test, ◌when◌, first, or_else}
use Rattle.refusal.proofs.Laws.{Numbered, first_join}
use Rattle.session.specs.declared.Session.{Session}
use Rattle.session.specs.Rows.{width, row_at}
use Rattle.opening.specs.Walking.{block_coefficients, too_few_of, disagree}
use Rattle.opening.specs.Opening.{open_checks_of, open_refusal_of}
use Rattle.opening.proofs.Passed.{walk_tests, OpenChecked, open_checked, open_walks}
use Rattle.collect.specs.Collect as Collect
use Rattle.collect.specs.Collect.{unopened, collect_checks_of, collect_refusal}
use Rattle.collect.proofs.Passed.{CollectChecked, collect_checked, collect_walks}
use Rattle.vectors.specs.Vector.{Vector, numbers}
use Rattle.vectors.specs.Claims.{held_row}
use Rattle.vectors.proofs.Linear.{length_numbers}
use Rattle.vectors.proofs.Shares.{true_agree}
use Rattle.runs.specs.Calls.{Proper, masks_line, Among, Told, ToldHalf}
use Rattle.runs.specs.Draws.{plan_shape}
use Rattle.runs.proofs.Marks.{remembered_a, remembered_b, mask_vector_a, mask_vector_b, session_at}
use Rattle.runs.proofs.Holds.{Holder, held_row_is}
use Rattle.runs.proofs.Finishing.{opens_a, opens_b}
use Rattle.runs.proofs.Facts.{Multiplying}
use Rattle.runs.proofs.Allowed.{multiplying}
use Rattle.runs.proofs.Records.{Present, block_many, block_low, all_true}
use Rattle.runs.proofs.Start.{sizes}
use Rattle.secrecy.proofs.State.{Run, Moment, mask_numbers, State}

-- ---- tests with other numbers

abbrev pub Other : List Test → Type 0
Other [] = Unit {0}
Other (k when b ∷ ts) = (k ≢ 13) × Other ts

pub never_first : (ts : List Test) → Other ts → first ts ≢ 13
never_first [] w = omega arith
never_first (k when true ∷ ts) w = w.0
never_first (k when false ∷ ts) w = never_first ts w.1

-- 13 behind them: they refuse nothing
pub none_before : (ts us : List Test) → Numbered ts → Other ts → first (ts ++ us) ≡ 13 → first ts ≡ 0
none_before ts us n w e = go (first ts) refl
  where
    go : (k : ℕ) → first ts ≡ k → first ts ≡ 0
    go zero z = z
    go (suc k) z =
        let y : suc k ≡ 13 = sym (ap (λ (x : ℕ). or_else x (first us)) z) ∙ sym (first_join ts us n) ∙ e in
        absurd (never_first ts w (z ∙ y))

-- 13 of a walk, and of two
walk_off : (few away : Bool) → first (9 when few ∷ 13 when away ∷ []) ≡ 13 → (few ≡ false) × (away ≡ true)
walk_off true away e = absurd (omega arith)
walk_off false true e = (refl, refl)
walk_off false false e = absurd (omega arith)

walks_off : (few few' away away' : Bool) → first (9 when few ∷ 9 when few' ∷ 13 when away ∷ 13 when away' ∷ []) ≡ 13
    → (few ≡ false) × (few' ≡ false) × ((away ≡ true) ⊎ (away' ≡ true))
walks_off true few' away away' e = absurd (omega arith)
walks_off false true away away' e = absurd (omega arith)
walks_off false false true away' e = (refl, refl, inl refl)
walks_off false false false true e = (refl, refl, inr refl)
walks_off false false false false e = absurd (omega arith)

pub not_both : {a : Bool} → a ≡ true → a ≡ false → ⊥
not_both e f = let w : true ≡ false = sym e ∙ f in let z : ◌≡◌ {A = ℕ} 0 1 = cc in omega arith

-- ---- one call, at one post

module _ (C : Run) (m : Moment) (S : State C m) (i : ℕ) (lo : 1 ≤ i) (hi : i ≤ C.plan.n) where
  open C use {plan, draw, u, len}
  open m use {marks as M, vec, lines, posts as q}

  abbrev l : List ℕ
  l = (q i).rows

  abbrev s : Session
  s = session_at plan draw i M (S.posts i lo hi).opened

  abbrev holder : Holder
  holder = record { plan = plan; draw = draw; len = len i; post = i; marks = M; opened = (S.posts i lo hi).opened; vec = vec; rows = l; holds = (S.posts i lo hi).holds }

  -- true polynomials agree
  pub agrees : (x : List ℕ) (X : Vector) (bl : List ℕ) → x ≡ held_row s X
      → ((j : ℕ) → 1 ≤ j → j ≤ plan.n → j ≢ i → Present s bl j → block_coefficients (v_length (plan_shape plan)) bl j ≡ numbers (v_length (plan_shape plan)) (X.v j))
      → too_few_of s x bl ≡ false → disagree s x bl ≡ false
  agrees x X bl e theirs enough =
      ap (λ (y : List ℕ). disagree s y bl) e
      ∙ true_agree s X bl (sizes plan C.sound).n_element (sym (ap (λ (y : List ℕ). too_few_of s y bl) e) ∙ enough) (all_true s bl X theirs)

  module _ (r : ℕ) (bl : List ℕ) (told : (j : ℕ) → 1 ≤ j → j ≤ plan.n → j ≢ i → Present s bl j → Told lines r j (block_coefficients (v_length (plan_shape plan)) bl j))
      (e : open_refusal_of s l r bl ≡ 13) where
    f : OpenChecked s l r bl
    unfolding open_refusal_of
    f = open_checked s l r bl (none_before (open_checks_of s l r bl) (walk_tests s (row_at (width s) l r) bl) tt (omega arith) e)

    proper : Proper s bl
    proper = record { long = f.placed.record_long; low = f.record_low }

    pub opening_never : ⊥
    opening_never =
        let off = walk_off (too_few_of s (row_at (width s) l r) bl) (disagree s (row_at (width s) l r) bl) (sym (open_walks s l r bl f) ∙ e) in
        not_both off.1
        (agrees (row_at (width s) l r) (vec r) bl (held_row_is holder r f.placed.row_in f.placed.is_held)
        (λ j lj hj ne there. (S.openings r j _ (record {
          row = f.placed.row_in;
          post = (lj, hj);
          many = block_many s bl j lj hj ne proper there;
          low = block_low s bl j lj hj ne proper there;
        }) (told j lj hj ne there)).1) off.0)

  -- what a record shows of each j is that half of j's M line of the triple at r
  abbrev pub Halves : ℕ → (List ℕ → List ℕ) → List ℕ → Type 0
  Halves r half bl =
      (j : ℕ) → 1 ≤ j → j ≤ plan.n → j ≢ i → Present s bl j → ToldHalf (plan_shape plan) half r lines j (block_coefficients (v_length (plan_shape plan)) bl j)

  -- the two masks of a triple that waits, opened with what was broadcast
  module _ (r : ℕ) (ok : Multiplying masked M (remembered_a M r) (remembered_b M r) r) where
    -- what an M line of the triple shows of post j
    both_are : (j : ℕ) → 1 ≤ j → j ≤ plan.n → (both : List ℕ) → length both ≡ masks_length (plan_shape plan) → Elements both
        → Among (masks_line r j both) lines → both ≡ mask_numbers C M vec r j
    both_are j lj hj both many els st =
        (S.maskings r j both (record { row = omega (arith, ok.r_low); post = (lj, hj); many = many; low = els }) st).1 (inl ok.first)

    a_long : (j : ℕ) → length (numbers (v_length (plan_shape plan)) ((mask_vector_a M vec r).v j)) ≡ v_length (plan_shape plan)
    a_long j = length_numbers (v_length (plan_shape plan)) ((mask_vector_a M vec r).v j)

    pub agrees_a : (bl : List ℕ) → Halves r (take (v_length (plan_shape plan))) bl → too_few_of s (Collect.mask_a s l r) bl ≡ false → disagree s (Collect.mask_a s l r) bl ≡ false
    agrees_a bl told =
        agrees (Collect.mask_a s l r) (mask_vector_a M vec r) bl (opens_a holder r ok) (λ j lj hj ne there.
        let o = told j lj hj ne there in
        o.4 ∙ ap (take (v_length (plan_shape plan))) (both_are j lj hj o.0 o.1 o.2 o.3) ∙ take_at (numbers (v_length (plan_shape plan)) ((mask_vector_a M vec r).v j)) _ (v_length (plan_shape plan)) (a_long j))

    pub agrees_b : (bl : List ℕ) → Halves r (drop (v_length (plan_shape plan))) bl → too_few_of s (Collect.mask_b s l r) bl ≡ false → disagree s (Collect.mask_b s l r) bl ≡ false
    agrees_b bl told =
        agrees (Collect.mask_b s l r) (mask_vector_b M vec r) bl (opens_b holder r ok) (λ j lj hj ne there.
        let o = told j lj hj ne there in
        o.4 ∙ ap (drop (v_length (plan_shape plan))) (both_are j lj hj o.0 o.1 o.2 o.3) ∙ drop_at (numbers (v_length (plan_shape plan)) ((mask_vector_a M vec r).v j)) _ (v_length (plan_shape plan)) (a_long j))

  module _ (r : ℕ) (blA blB : List ℕ) (e : collect_refusal s l r blA blB ≡ 13) where
    abbrev xa : List ℕ
    xa = Collect.mask_a s l r

    abbrev xb : List ℕ
    xb = Collect.mask_b s l r

    g : CollectChecked s l r blA blB
    unfolding collect_refusal
    g = collect_checked s l r blA blB (none_before (collect_checks_of s l r blA blB) (unopened s xa xb blA blB) tt (omega arith) e)

    ok : Multiplying masked M (remembered_a M r) (remembered_b M r) r
    ok = multiplying plan draw i M (S.posts i lo hi).opened l _ _ r masked g.placed.factors

    pub collect_never : Halves r (take (v_length (plan_shape plan))) blA → Halves r (drop (v_length (plan_shape plan))) blB → ⊥
    collect_never told_a told_b =
        let off = walks_off (too_few_of s xa blA) (too_few_of s xb blB) (disagree s xa blA) (disagree s xb blB) (sym (collect_walks s l r blA blB g) ∙ e) in
        elim off.2 [
          | inl away ↦ not_both away (agrees_a r ok blA told_a off.0)
          | inr away ↦ not_both away (agrees_b r ok blB told_b off.1)
        ]
