-- One post that stands by the ledger: 1 to 8 refuse no opening of a held row and no call of a finish of masks that were made, with records
-- that 5 and 8 let pass; and what its first call gives, by 9 and 13.
use Prim.Native.Nat.{ℕ, suc, ◌+◌, ◌*◌, ◌≤◌, ◌<◌}
use mathlib.Core.Path.{◌≡◌, refl, sym, ◌∙◌, ap, ap₂}
use mathlib.Core.Bool.{Bool, true, false, not}
use mathlib.Core.Logic.{◌≢◌, ◌⊎◌, inl, inr}
use mathlib.Core.List.{List, [], ◌∷◌}
use native.Mathlib.Omega.{arith}
use borrow.Author.Tests.{eq-eqb}
use lib.ListN.{length}
use lib.Seq.{get_or-set_same}
use Rattle.field.specs.Modulus.{p}
use Rattle.field.specs.Element.{Element}
use Rattle.shape.specs.Lengths.{rows_length, needed}
use Rattle.shape.specs.Bounds.{row_count_of, last_triple}
use Rattle.shape.specs.Marks.{empty, held, masked, spent, collected}
use Rattle.refusal.specs.Refusal.{◌when◌, first}
use Rattle.refusal.specs.Conditions.{wrong_length, any_beyond}
use Rattle.refusal.proofs.Laws.{not_refused}
use Rattle.session.specs.declared.Session.{Session}
use Rattle.session.specs.Sessions.{shape_of, session_tests, mark, opened_a_of, opened_b_of}
use Rattle.session.specs.Rows.{row_at}
use Rattle.session.specs.Checks.{frame_tests}
use Rattle.opening.specs.Walking.{too_few_of, disagree}
use Rattle.opening.specs.Opening.{open_checks_of}
use Rattle.opening.proofs.Passed.{clear_join, open_clear}
use Rattle.collect.specs.Collect as Collect
use Rattle.collect.specs.Collect.{number_a, number_b, unopened, collect_refusal, collect_answer}
use Rattle.multiply.specs.Multiply.{multiply_refusal_of}
use Rattle.product_masks.proofs.Passed.{Factored}
use Rattle.collect.proofs.Passed.{CollectChecked, collect_walks}
use Rattle.multiply.proofs.Passed.{multiply_clear}
use Rattle.vectors.specs.Vector.{Vector, number}
use Rattle.runs.specs.Draws.{Plan, Draw, IsDraw, Sound, point_of}
use Rattle.runs.specs.Calls.{Proper, Post}
use Rattle.runs.proofs.Marks.{Marks, mark_of, remembered_a, remembered_b, Sized, mask_vector_a, mask_vector_b, Opened, session_at}
use Rattle.runs.proofs.Outcomes.{answer_refusal, settled}
use Rattle.runs.proofs.Packs.{row_for}
use Rattle.runs.proofs.Holds.{Holds, Holder, wide, row_low}
use Rattle.runs.proofs.Steps.{post_at}
use Rattle.runs.proofs.Facts.{Multiplying, Triple}
use Rattle.runs.proofs.Recalled.{Recalls}
use Rattle.runs.proofs.Rows.{marked_low, on_three}
use Rattle.runs.proofs.Start.{session_passes}
use Rattle.correctness.specs.Ledger.{Ledger}
use Rattle.correctness.specs.Claim.{how_many, Done, EitherOff, Multiplies}
use Rattle.correctness.proofs.Standing.{Known, Good}
use Rattle.correctness.proofs.Accepting.{too_few, not_few}

-- 13 of two records
one_off : (x y : Bool) → (x ≡ true) ⊎ (y ≡ true) → first (13 when x ∷ 13 when y ∷ []) ≡ 13
one_off true y o = refl
one_off false true o = refl
one_off false false (inl e) = absurd (omega (arith, ap (λ (b : Bool). first (13 when b ∷ [])) e))
one_off false false (inr e) = absurd (omega (arith, ap (λ (b : Bool). first (13 when b ∷ [])) e))

off_one : (x y : Bool) → first (13 when x ∷ 13 when y ∷ []) ≡ 13 → (x ≡ true) ⊎ (y ≡ true)
off_one true y z = inl refl
off_one false true z = inr refl
off_one false false z = absurd (omega arith)

-- post i by the ledger, with its marks, its rows and their vectors
pub record Stander : Type 0 where
  pub plan : Plan
  pub draw : Draw
  pub ledger : Ledger
  pub sound : Sound plan
  pub is_draw : IsDraw plan draw
  pub len : ℕ
  pub post : ℕ
  pub low : 1 ≤ post
  pub high : post ≤ plan.n
  pub marks : Marks
  pub vec : ℕ → Vector
  pub rows : List ℕ
  pub sized : Sized marks
  pub holds : Holds plan draw len post marks vec rows
  pub opened : Opened
  pub recalls : Recalls marks vec opened
  pub known : Known plan draw ledger marks vec
  pub full : (r : ℕ) → mark_of marks r ≢ empty → len ≡ row_count_of * wide plan

abbrev pub stander_of : (plan : Plan) (draw : Draw) (L : Ledger) → Sound plan → IsDraw plan draw → (len i : ℕ) → 1 ≤ i → i ≤ plan.n → (q : Post)
    → Good plan draw L len i q → Stander
stander_of plan draw L sound is len i lo hi q g = record {
  plan = plan;
  draw = draw;
  ledger = L;
  sound = sound;
  is_draw = is;
  len = len;
  post = i;
  low = lo;
  high = hi;
  marks = g.marks;
  vec = g.vec;
  rows = q.rows;
  sized = g.sized;
  holds = g.stands.holds;
  opened = g.stands.opened;
  recalls = g.stands.recalls;
  known = g.facts;
  full = g.full;
}

module _ (G : Stander) where
  open G use {plan, draw, ledger as L, sound, is_draw as is, len, post as i, low as lo, high as hi, marks as M, vec, rows as l, sized, holds as h, opened as Y, recalls, known as f, full}

  abbrev pub holder : Holder
  holder = record { plan = plan; draw = draw; len = len; post = i; marks = M; opened = Y; vec = vec; rows = l; holds = h }

  abbrev pub s : Session
  s = session_at plan draw i M Y

  abbrev pub q : Post
  q = post_at plan draw i M Y l

  abbrev pub row : ℕ → List ℕ
  row r = row_at (wide plan) l r

  pub below : (r : ℕ) {m : ℕ} → mark_of M r ≡ suc m → r < row_count_of
  below r e = marked_low M sized r e

  pub is_row : (r : ℕ) {m : ℕ} → mark_of M r ≡ suc m → row r ≡ row_for plan draw i (vec r)
  is_row r e = h.rows r (below r e) (omega (arith, e))

  -- ---- 1 to 5 and 8, at a post with a row that is not empty

  pub frame_clear : (r : ℕ) {m : ℕ} → mark_of M r ≡ suc m → first (frame_tests s l) ≡ 0
  frame_clear r e =
      clear_join (session_tests plan.n plan.t i plan.points (point_of plan draw i)) (5 when wrong_length l (rows_length (shape_of s)) ∷ []) tt
      (session_passes plan draw sound is i lo hi)
      (not_refused (5 when wrong_length l (rows_length (shape_of s)) ∷ []) (ap not (eq-eqb (length l) (rows_length (shape_of s)) (h.long ∙ full r (omega (arith, e)))), tt))

  pub numbers_pass : (r : ℕ) {m : ℕ} → mark_of M r ≡ suc m → any_beyond (row r) ≡ false
  numbers_pass r e = ap any_beyond (is_row r e) ∙ row_low plan draw i (vec r)

  -- ---- an opening

  pub open_passes : (r : ℕ) (blocks : List ℕ) → mark_of M r ≡ held → Proper s blocks → first (open_checks_of s l r blocks) ≡ 0
  open_passes r blocks two pr =
      open_clear s l r blocks (record {
        frame = frame_clear r two;
        placed = record { record_long = pr.long; row_in = omega (arith, below r two); is_held = two };
        row_low = numbers_pass r two;
        record_low = pr.low;
      })

  -- ---- the first call of a finish

  pub waiting : (r : ℕ) → mark_of M r ≡ masked → Multiplying masked M (remembered_a M r) (remembered_b M r) r
  waiting r five =
      let w = (f r (below r five)).waiting (inl five) in let t = (f r (below r five)).triple (inr (inl five)) in
      record {
        a_low = w.a_low;
        b_low = w.b_low;
        r_low = omega (arith, below (r + 2) t.third);
        a_held = w.a_held;
        b_held = w.b_held;
        first = five;
        second = t.second;
        third = t.third;
      }

  module _ (r : ℕ) (blocks_a blocks_b : List ℕ) (five : mark_of M r ≡ masked) (pr : Proper s blocks_a) (pr' : Proper s blocks_b) where
    k : Multiplying masked M (remembered_a M r) (remembered_b M r) r
    k = waiting r five

    factors : Factored s (remembered_a M r) (remembered_b M r) r masked
    factors = record {
      a_in = omega (arith, k.a_low);
      b_in = omega (arith, k.b_low);
      triple_in = omega (arith, k.r_low);
      a_held = k.a_held;
      b_held = k.b_held;
      first_mark = k.first;
      second_mark = k.second;
      third_mark = k.third;
    }

    collect_passes : CollectChecked s l r blocks_a blocks_b
    collect_passes = record {
      frame = frame_clear r five;
      placed = record { a_long = pr.long; b_long = pr'.long; factors = factors };
      numbers = record {
        rows_low = record {
          a_low = numbers_pass (remembered_a M r) k.a_held;
          b_low = numbers_pass (remembered_b M r) k.b_held;
          first_low = numbers_pass r five;
          second_low = numbers_pass (r + 1) k.second;
        };
        record_a_low = pr.low;
        record_b_low = pr'.low;
      };
    }

    abbrev xa : List ℕ
    xa = Collect.mask_a s l r

    abbrev xb : List ℕ
    xb = Collect.mask_b s l r

    by_walks : collect_refusal s l r blocks_a blocks_b ≡ first (unopened s xa xb blocks_a blocks_b)
    by_walks = collect_walks s l r blocks_a blocks_b collect_passes

    refusal_is : (collect_answer s l r blocks_a blocks_b).refusal ≡ first (unopened s xa xb blocks_a blocks_b)
    refusal_is = answer_refusal (collect_refusal s l r blocks_a blocks_b) 0 _ s ∙ by_walks

    second : (x a b : Bool) → first (9 when x ∷ 9 when true ∷ 13 when a ∷ 13 when b ∷ []) ≡ 9
    second true a b = refl
    second false a b = refl

    pub collect_few : (how_many s xa blocks_a < needed (shape_of s)) ⊎ (how_many s xb blocks_b < needed (shape_of s)) → (collect_answer s l r blocks_a blocks_b).refusal ≡ 9
    collect_few (inl e) = refusal_is ∙ rw (too_few s xa blocks_a e) refl
    collect_few (inr e) = refusal_is ∙ rw (too_few s xb blocks_b e) (second (too_few_of s xa blocks_a) (disagree s xa blocks_a) (disagree s xb blocks_b))

    module _ (e : needed (shape_of s) ≤ how_many s xa blocks_a) (e' : needed (shape_of s) ≤ how_many s xb blocks_b) where
      -- 13 decides
      by_thirteen : first (unopened s xa xb blocks_a blocks_b) ≡ first (13 when disagree s xa blocks_a ∷ 13 when disagree s xb blocks_b ∷ [])
      by_thirteen = rw (not_few s xa blocks_a e, not_few s xb blocks_b e') refl

      clear : disagree s xa blocks_a ≡ false → disagree s xb blocks_b ≡ false → collect_refusal s l r blocks_a blocks_b ≡ 0
      clear off off' = by_walks ∙ by_thirteen ∙ ap₂ (λ (x y : Bool). first (13 when x ∷ 13 when y ∷ [])) off off'

      pub collect_done : disagree s xa blocks_a ≡ false → disagree s xb blocks_b ≡ false → Done q r blocks_a blocks_b
      collect_done off off' =
          let z = clear off off' in (
            answer_refusal (collect_refusal s l r blocks_a blocks_b) 0 _ s ∙ z,
            ap (λ (x : Post). mark x.session r) (settled (collect_refusal s l r blocks_a blocks_b) 0 _ s l l z)
                ∙ get_or-set_same M.marks r collected 0 (omega (arith, sized.marks, k.r_low)),
          )

      -- the session that is handed back remembers the numbers opened
      pub collect_recalls : disagree s xa blocks_a ≡ false → disagree s xb blocks_b ≡ false
          → (let s' = (collect_answer s l r blocks_a blocks_b).session in
          (opened_a_of s' r ≡ number_a s l r blocks_a) × (opened_b_of s' r ≡ number_b s l r blocks_b))
      collect_recalls off off' =
          let back = settled (collect_refusal s l r blocks_a blocks_b) 0 _ s l l (clear off off') in (
            ap (λ (x : Post). opened_a_of x.session r) back ∙ get_or-set_same Y.y_a_is r _ 0 (omega (arith, recalls.a_long, k.r_low)),
            ap (λ (x : Post). opened_b_of x.session r) back ∙ get_or-set_same Y.y_b_is r _ 0 (omega (arith, recalls.b_long, k.r_low)),
          )

      by_off : (collect_answer s l r blocks_a blocks_b).refusal ≡ first (13 when disagree s xa blocks_a ∷ 13 when disagree s xb blocks_b ∷ [])
      by_off = refusal_is ∙ by_thirteen

      pub collect_thirteen : (EitherOff q r blocks_a blocks_b → (collect_answer s l r blocks_a blocks_b).refusal ≡ 13)
          × ((collect_answer s l r blocks_a blocks_b).refusal ≡ 13 → EitherOff q r blocks_a blocks_b)
      collect_thirteen = (
        (λ o. by_off ∙ one_off (disagree s xa blocks_a) (disagree s xb blocks_b) o),
        (λ z. off_one (disagree s xa blocks_a) (disagree s xb blocks_b) (sym by_off ∙ z)),
      )

      pub collect_otherwise : Done q r blocks_a blocks_b ⊎ ((collect_answer s l r blocks_a blocks_b).refusal ≡ 13)
      collect_otherwise = go (disagree s xa blocks_a) (disagree s xb blocks_b) refl refl
        where
          go : (x y : Bool) → disagree s xa blocks_a ≡ x → disagree s xb blocks_b ≡ y
              → Done q r blocks_a blocks_b ⊎ ((collect_answer s l r blocks_a blocks_b).refusal ≡ 13)
          go true y ex ey = inr (collect_thirteen.0 (inl ex))
          go false true ex ey = inr (collect_thirteen.0 (inr ey))
          go false false ex ey = inl (collect_done ex ey)

  -- ---- the second call

  pub multiply_done : (r : ℕ) → mark_of M r ≡ collected → Multiplies q r
  multiply_done r seven = (
    answer_refusal (multiply_refusal_of s l r) 0 _ s ∙ z,
    ap (λ (x : Post). mark x.session (r + 2)) (settled (multiply_refusal_of s l r) 0 _ s l l z) ∙ (on_three M r spent spent held sized low).2,
  )
    where
      t : Triple plan draw M vec r
      t = (f r (below r seven)).triple (inr (inr seven))

      low : r ≤ last_triple
      low = omega (arith, below (r + 2) t.third)

      element_is : (x : ℕ) (e : Element) → x ≡ e.0 → x < p
      element_is x e h = rw h e.1

      z : multiply_refusal_of s l r ≡ 0
      z =
          multiply_clear s l r (frame_clear r seven)
          (record { triple_in = omega (arith, low); first_mark = seven; second_mark = t.second; third_mark = t.third; a_held = ((f r (below r seven)).waiting (inr seven)).a_held; b_held = ((f r (below r seven)).waiting (inr seven)).b_held })
          (record {
            a_element = element_is _ (number (mask_vector_a M vec r)) (recalls.each r seven).is_a;
            b_element = element_is _ (number (mask_vector_b M vec r)) (recalls.each r seven).is_b;
            first_low = numbers_pass r seven;
            second_low = numbers_pass (r + 1) t.second;
            third_low = numbers_pass (r + 2) t.third;
          })
