-- One post in two runs, whose rows differ by multiples of the kernel: the same refusals.
use Prim.Native.Nat.{ℕ, suc, ◌+◌, ◌*◌, ◌-◌, ◌≤◌, ◌<◌}
use mathlib.Core.Path.{◌≡◌, refl, sym, ◌∙◌, ap, ap₂, subst}
use mathlib.Core.Bool.{Bool, true, false, not}
use mathlib.Core.Logic.{◌≢◌}
use mathlib.Core.List.{List, [], ◌∷◌, ◌++◌}
use native.Mathlib.Omega.{arith}
use lib.Dec.{eqb}
use lib.ListN.{length, get_or}
use Rattle.field.specs.Modulus.{p}
use Rattle.shape.specs.Bounds.{row_count_of, last_row_at}
use Rattle.shape.specs.Marks.{empty, held, masked}
use Rattle.refusal.specs.Refusal.{Test, ◌when◌, first, AllFail}
use Rattle.refusal.specs.Conditions.{beyond, any_beyond}
use Rattle.refusal.proofs.Laws.{not_refused}
use Rattle.session.specs.declared.Session.{Session}
use Rattle.access.specs.Access.{access_refusal}
use Rattle.session.specs.Sessions.{session_tests, barred_from}
use Rattle.session.specs.Rows.{row_at, combined}
use Rattle.session.specs.Checks.{frame_tests, no_row, no_triple, wrong_mark_of}
use Rattle.load.specs.Load.{load_row_refusal_of, load_triple_refusal_of}
use Rattle.deal.specs.Deal.{deal_refusal_of}
use Rattle.message.specs.Message.{message_refusal_of}
use Rattle.linear.specs.Linear.{linear_refusal_of}
use Rattle.deal.proofs.Passed.{deal_place, deal_late, deal_placed}
use Rattle.message.proofs.Passed.{message_place, message_late, message_placed}
use Rattle.linear.proofs.Passed.{linear_place, linear_late, linear_placed}
use Rattle.opening.specs.Opening.{open_refusal_of}
use Rattle.opening.proofs.Passed.{open_place, open_numbers, walk_tests, open_placed, OpenChecked}
use Rattle.product_masks.specs.Masks.{masks_refusal_of, mask_numbers}
use Rattle.collect.specs.Collect.{unopened, collect_refusal, collect_numbers_of}
use Rattle.multiply.specs.Multiply.{remembered_numbers_of, multiply_refusal_of}
use Rattle.collect.specs.Collect as Collect
use Rattle.product_masks.proofs.Passed.{Factored, factor_tests, masks_early, masks_placed}
use Rattle.collect.proofs.Passed.{collect_early, collect_placed, collect_rest}
use Rattle.multiply.proofs.Passed.{multiply_early, multiply_placed, multiply_tests}
use Rattle.vectors.specs.Vector.{Vector, number}
use Rattle.runs.specs.Draws.{Plan, Draw, point_of, plan_shape}
use Rattle.runs.proofs.Marks.{Marks, mark_of, remembered_a, remembered_b, Opened, session_at, less, mask_vector_a, mask_vector_b}
use Rattle.runs.proofs.Holds.{Holds, Holder, wide, row_low, held_row_is, combined_row}
use Rattle.secrecy.proofs.Near.{Near, near_plus_times, near_same}
use Rattle.secrecy.proofs.Link.{Alike}

-- ---- two lists of tests

-- what follows the same tests counts only where they all fail
pub same_after : (xs ys zs : List Test) → (AllFail xs → first ys ≡ first zs) → first (xs ++ ys) ≡ first (xs ++ zs)
same_after [] ys zs h = h tt
same_after (k when true ∷ xs) ys zs h = refl
same_after (k when false ∷ xs) ys zs h = same_after xs ys zs (λ f. h (refl, f))

-- ---- one post in both runs, with the same session

pub record Twin : Type 0 where
  pub plan : Plan
  pub draw : Draw
  pub K : Vector
  pub marks : Marks
  pub vec : ℕ → Vector
  pub vec' : ℕ → Vector
  pub near : (r : ℕ) → r < row_count_of → mark_of marks r ≢ empty → Near (plan_shape plan) (point_of plan draw) K (vec r) (vec' r)
  pub post : ℕ
  pub low : 1 ≤ post
  pub high : post ≤ plan.n
  pub len : ℕ
  pub rows : List ℕ
  pub rows' : List ℕ
  pub holds : Holds plan draw len post marks vec rows
  pub holds' : Holds plan draw len post marks vec' rows'
  pub opened : Opened

-- the 8 of a triple's rows and of its factors' is the same in both
pub record LowSame (w : ℕ) (l l' : List ℕ) (a b r : ℕ) : Type 0 where
  pub a_same : any_beyond (row_at w l a) ≡ any_beyond (row_at w l' a)
  pub b_same : any_beyond (row_at w l b) ≡ any_beyond (row_at w l' b)
  pub first_same : any_beyond (row_at w l r) ≡ any_beyond (row_at w l' r)
  pub second_same : any_beyond (row_at w l (r + 1)) ≡ any_beyond (row_at w l' (r + 1))

module _ (T : Twin) where
  open T use {plan, draw as d, K, marks as M, vec, vec', near, post as i, low as lo, high as hi, len, rows as l, rows' as l', holds as h, holds' as h', opened as Y}

  abbrev s : Session
  s = session_at plan d i M Y

  abbrev W : ℕ
  W = wide plan

  abbrev one : Holder
  one = record { plan = plan; draw = d; len = len; post = i; marks = M; opened = Y; vec = vec; rows = l; holds = h }

  abbrev two : Holder
  two = record { plan = plan; draw = d; len = len; post = i; marks = M; opened = Y; vec = vec'; rows = l'; holds = h' }

  frame_same : frame_tests s l ≡ frame_tests s l'
  frame_same = ap (λ (m : ℕ). session_tests plan.n plan.t i plan.points (point_of plan d i) ++ (5 when not (eqb m (row_count_of * W)) ∷ [])) (h.long ∙ sym h'.long)

  -- a row with the mark that is needed: elements in both runs
  pub elements_same : (x : ℕ) {m : ℕ} → x ≤ last_row_at → mark_of M x ≡ suc m → any_beyond (row_at W l x) ≡ any_beyond (row_at W l' x)
  elements_same x r is =
      ap any_beyond (held_row_is one x r is) ∙ row_low plan d i (vec x) ∙ sym (ap any_beyond (held_row_is two x r is) ∙ row_low plan d i (vec' x))

  there : (x : ℕ) {m : ℕ} → x ≤ last_row_at → mark_of M x ≡ suc m → Near (plan_shape plan) (point_of plan d) K (vec x) (vec' x)
  there x r is = near x (omega arith) (λ e. omega arith)

  -- a row of one number in both runs; a difference of one number
  pub row_same : (x : ℕ) {m : ℕ} → x ≤ last_row_at → mark_of M x ≡ suc m → number (vec x) ≡ number (vec' x) → row_at W l x ≡ row_at W l' x
  row_same x r is e =
      held_row_is one x r is ∙ near_same (plan_shape plan) (point_of plan d) K (vec x) (vec' x) (there x r is) e i lo hi
      ∙ sym (held_row_is two x r is)

  pub mask_same : (a x : ℕ) {m : ℕ} → a ≤ last_row_at → mark_of M a ≡ held → x ≤ last_row_at → mark_of M x ≡ suc m
      → number (less (vec a) (vec x)) ≡ number (less (vec' a) (vec' x))
      → combined (p - 1) (row_at W l a) (row_at W l x) ≡ combined (p - 1) (row_at W l' a) (row_at W l' x)
  mask_same a x ra ia rx ix e =
      combined_row one (p - 1) a x (held_row_is one a ra ia) (held_row_is one x rx ix)
      ∙ near_same (plan_shape plan) (point_of plan d) K (less (vec a) (vec x)) (less (vec' a) (vec' x))
      (near_plus_times (plan_shape plan) (point_of plan d) K (p - 1) (vec a) (vec' a) (vec x) (vec' x) (there a ra ia) (there x rx ix)) e i lo hi
      ∙ sym (combined_row two (p - 1) a x (held_row_is two a ra ia) (held_row_is two x rx ix))

  -- ---- the calls

  -- behind the frame the same tests P, then such as count only where all of these fail
  pub behind : (P Q Q' : List Test) → (AllFail (frame_tests s l') → AllFail P → first Q ≡ first Q')
      → first (frame_tests s l ++ (P ++ Q)) ≡ first (frame_tests s l' ++ (P ++ Q'))
  behind P Q Q' e =
      ap (λ (f : List Test). first (f ++ (P ++ Q))) frame_same
      ∙ same_after (frame_tests s l') (P ++ Q) (P ++ Q') (λ fr. same_after P Q Q' (e fr))

  pub load_same : (r : ℕ) (pack pack' : List ℕ) → Alike pack pack' → load_row_refusal_of s l r pack ≡ load_row_refusal_of s l' r pack'
  unfolding load_row_refusal_of
  load_same r pack pack' a =
      behind [] (own (length pack) (any_beyond pack)) (own (length pack') (any_beyond pack')) (λ fr f. ap₂ (λ (m : ℕ) (b : Bool). first (own m b)) a.long a.low)
    where
      own : ℕ → Bool → List Test
      own m b = 5 when not (eqb m W) ∷ 6 when no_row r ∷ 7 when wrong_mark_of s r 0 ∷ 8 when b ∷ []

  pub triple_same : (r : ℕ) (pack pack' : List ℕ) → Alike pack pack' → load_triple_refusal_of s l r pack ≡ load_triple_refusal_of s l' r pack'
  unfolding load_triple_refusal_of
  triple_same r pack pack' a =
      behind [] (own (length pack) (any_beyond pack)) (own (length pack') (any_beyond pack')) (λ fr f. ap₂ (λ (m : ℕ) (b : Bool). first (own m b)) a.long a.low)
    where
      own : ℕ → Bool → List Test
      own m b =
          5 when not (eqb m (3 * W)) ∷ 6 when no_triple r ∷ 7 when wrong_mark_of s r 0 ∷ 7 when wrong_mark_of s (r + 1) 0 ∷ 7 when wrong_mark_of s (r + 2) 0 ∷ 8 when b ∷ []

  pub deal_same : (r c : ℕ) → deal_refusal_of s l r c ≡ deal_refusal_of s l' r c
  unfolding deal_refusal_of
  deal_same r c =
      behind (deal_place s r c) (deal_late (any_beyond (row_at W l r))) (deal_late (any_beyond (row_at W l' r))) (λ fr f.
      let k = deal_placed s r c f in ap (λ (b : Bool). first (deal_late b)) (elements_same r k.row_in k.is_raw))

  -- of a list to write into only the length is looked at; the sets are the same in both, so 15 is
  pub message_same : (r caller : ℕ) (lent lent' : List ℕ) → length lent ≡ length lent' → message_refusal_of s l r caller lent ≡ message_refusal_of s l' r caller lent'
  unfolding message_refusal_of
  message_same r caller lent lent' e =
      behind (message_place s r lent) (message_late (any_beyond (row_at W l r)) ++ (15 when barred_from s r caller ∷ []))
      (message_late (any_beyond (row_at W l' r)) ++ (15 when barred_from s r caller ∷ [])) (λ fr f.
      let k = message_placed s r lent f in ap (λ (b : Bool). first (message_late b ++ (15 when barred_from s r caller ∷ []))) (elements_same r k.row_in k.is_held))
      ∙ rw e

  pub access_same : (line : List ℕ) → access_refusal s line ≡ access_refusal s line
  access_same line = refl

  pub linear_same : (r a b scale fee : ℕ) → linear_refusal_of s l r a b scale fee ≡ linear_refusal_of s l' r a b scale fee
  unfolding linear_refusal_of
  linear_same r a b scale fee =
      behind (linear_place s r a b scale fee) (linear_late (any_beyond (row_at W l a)) (any_beyond (row_at W l b)))
      (linear_late (any_beyond (row_at W l' a)) (any_beyond (row_at W l' b))) (λ fr f.
      let k = linear_placed s r a b scale fee f in
      ap₂ (λ (x y : Bool). first (linear_late x y)) (elements_same a k.a_in k.a_held) (elements_same b k.b_in k.b_held))

  pub numbers_same : (a b r : ℕ) {m : ℕ} → Factored s a b r (suc m) → LowSame W l l' a b r
  numbers_same a b r f = record {
    a_same = elements_same a f.a_in f.a_held;
    b_same = elements_same b f.b_in f.b_held;
    first_same = elements_same r (omega (arith, f.triple_in)) f.first_mark;
    second_same = elements_same (r + 1) (omega (arith, f.triple_in)) f.second_mark;
  }

  pub masks_same : (a b r : ℕ) (lent lent' : List ℕ) → length lent ≡ length lent' → masks_refusal_of s l a b r lent ≡ masks_refusal_of s l' a b r lent'
  unfolding masks_refusal_of
  masks_same a b r lent lent' long =
      behind (masks_early s a b r lent) (mask_numbers s l a b r) (mask_numbers s l' a b r) (λ fr f.
      let e = numbers_same a b r (masks_placed s a b r lent f).factors in
      λ j. first (factor_tests (e.a_same j) (e.b_same j) (e.first_same j) (e.second_same j)))
      ∙ rw long

  -- the first call of a finish, whose masks have one number in both runs
  pub collect_same : (r : ℕ) (blocks_a blocks_b : List ℕ)
      → (mark_of M r ≡ masked → r < row_count_of → (number (mask_vector_a M vec r) ≡ number (mask_vector_a M vec' r)) × (number (mask_vector_b M vec r) ≡ number (mask_vector_b M vec' r)))
      → collect_refusal s l r blocks_a blocks_b ≡ collect_refusal s l' r blocks_a blocks_b
  unfolding collect_refusal
  collect_same r blocks_a blocks_b eq =
      behind (collect_early s r blocks_a blocks_b) (late l) (late l') (λ fr f.
      let k = (collect_placed s r blocks_a blocks_b f).factors in
      let e = numbers_same (remembered_a M r) (remembered_b M r) r k in
      let w = eq k.first_mark (omega (arith, k.triple_in)) in
      let x = mask_same (remembered_a M r) r k.a_in k.a_held (omega (arith, k.triple_in)) k.first_mark w.0 in
      let y = mask_same (remembered_b M r) (r + 1) k.b_in k.b_held (omega (arith, k.triple_in)) k.second_mark w.1 in
      λ j.
      first
      ((factor_tests (e.a_same j) (e.b_same j) (e.first_same j) (e.second_same j) ++ collect_rest s blocks_a blocks_b)
      ++ unopened s (x j) (y j) blocks_a blocks_b))
    where
      late : List ℕ → List Test
      late rows = collect_numbers_of s rows (remembered_a M r) (remembered_b M r) r blocks_a blocks_b ++ unopened s (Collect.mask_a s rows r) (Collect.mask_b s rows r) blocks_a blocks_b

  -- the second
  pub multiply_same : (r : ℕ) → multiply_refusal_of s l r ≡ multiply_refusal_of s l' r
  unfolding multiply_refusal_of
  multiply_same r =
      behind (multiply_early s r) (late l) (late l') (λ fr f.
      let k = multiply_placed s r f in
      let one = elements_same r (omega (arith, k.triple_in)) k.first_mark in
      let two = elements_same (r + 1) (omega (arith, k.triple_in)) k.second_mark in
      let three = elements_same (r + 2) (omega (arith, k.triple_in)) k.third_mark in
      λ j. first (multiply_tests (beyond (get_or Y.y_a_is r 0)) (beyond (get_or Y.y_b_is r 0)) (one j) (two j) (three j)))
    where
      late : List ℕ → List Test
      late rows = remembered_numbers_of W rows r (get_or Y.y_a_is r 0) (get_or Y.y_b_is r 0)

  -- an opening, whose walk ends alike in both runs where it comes to it
  pub open_same : (r : ℕ) (blocks : List ℕ)
      → (OpenChecked s l r blocks → first (walk_tests s (row_at W l r) blocks) ≡ first (walk_tests s (row_at W l' r) blocks))
      → open_refusal_of s l r blocks ≡ open_refusal_of s l' r blocks
  unfolding open_refusal_of
  open_same r blocks walk =
      behind (open_place s r blocks) (late l) (late l') (λ fr f.
      let k = open_placed s r blocks f in
      let e = elements_same r k.row_in k.is_held in
      ap (λ (b : Bool). first (open_numbers s b blocks ++ walk_tests s (row_at W l r) blocks)) e
      ∙ same_after (open_numbers s (any_beyond (row_at W l' r)) blocks) (walk_tests s (row_at W l r) blocks) (walk_tests s (row_at W l' r) blocks) (λ g.
      let (high, (bad, _)) = g in
      walk (record { frame = not_refused (frame_tests s l) (subst AllFail (sym frame_same) fr); placed = k; row_low = e ∙ high; record_low = bad })))
    where
      late : List ℕ → List Test
      late rows = open_numbers s (any_beyond (row_at W rows r)) blocks ++ walk_tests s (row_at W rows r) blocks
