-- The factory's calls, lent what was drawn, write each post's packs.
use Prim.Native.Nat.{ℕ, ◌+◌, ◌*◌, ◌-◌, ◌≤◌, ◌<◌}
use mathlib.Core.Path.{◌≡◌, ◌∙◌, ap, ap₂}
use mathlib.Core.Bool.{true, false, not, ◌||◌}
use mathlib.Core.List.{List, [], ◌∷◌, ◌++◌}
use native.Mathlib.Omega.{arith}
use borrow.Author.Tests.{eq-eqb, ne_eqb}
use lib.ListN.{length}
use Rattle.field.specs.Modulus.{p}
use Rattle.shape.specs.declared.Shape.{Shape}
use Rattle.shape.specs.Bounds.{row_count_of}
use Rattle.shape.specs.Lengths.{checks_length, triple_draw_length, packs_length, row_length}
use Rattle.poly.specs.Counting.{All}
use Rattle.refusal.specs.Refusal.{first}
use Rattle.refusal.specs.Conditions.{wrong_length, posts_tests}
use Rattle.refusal.proofs.Laws.{all_fail, not_refused}
use Rattle.refusal.proofs.Elements.{element_test}
use Rattle.session.specs.Rows.{row_at}
use Rattle.packs.specs.Packs.{packs, triple_packs}
use Rattle.factory.specs.Calls.{any_bad_point, factory_tests, factory_row_refusal, factory_triple_refusal}
use Rattle.packs.proofs.Laws.{length_packs, packs_part, row_among, row_behind}
use Rattle.factory.proofs.Theorems.{row_done, triple_done}
use Rattle.runs.specs.Draws.{Plan, plan_shape, Draw, IsRaw, Sound, IsDraw, drawn_length, point_of, raw_draw, triple_draw, draw_a, draw_b, draw_ab, part_of, raw_pack, triple_pack}
use Rattle.runs.specs.Packs.{RowGiven, TripleGiven, FactoryPacks}
use Rattle.runs.proofs.Packs.{Drawn, raw_drawn, triple_drawn, a_drawn, b_drawn, ab_drawn}
use Rattle.factory.proofs.Laws.{elements_pass}

points_pass : (ws : List ℕ) → All (λ w. (1 ≤ w) × (w < p)) ws → any_bad_point ws ≡ false
unfolding any_bad_point
points_pass [] a = λ j. false
points_pass (w ∷ ws) a =
    ap₂ ◌||◌ (ap₂ ◌||◌ (ne_eqb w 0 (omega (arith, a.0.0))) (element_test w a.0.1)) (points_pass ws a.1)

module _ (plan : Plan) (draw : Draw) (sound : Sound plan) (is : IsDraw plan draw) where
  abbrev S : Shape
  S = plan_shape plan

  abbrev W : ℕ
  W = row_length S

  -- 1 to 8 of a factory's call
  clear : (xs : List ℕ) (many : ℕ) → Drawn many xs → (out : List ℕ) (room : ℕ) → length out ≡ room
      → first (factory_tests plan.n plan.t plan.points draw.points xs many out room) ≡ 0
  clear xs many d out room e =
      let posts = all_fail (posts_tests plan.n plan.t) tt sound.posts in
      not_refused (factory_tests plan.n plan.t plan.points draw.points xs many out room)
      (posts.0, (posts.1.0, (sound.counted, (points_pass draw.points is.points, (sized draw.points (checks_length (plan_shape plan)) is.posts, (sized xs many d.many, (sized out room e, (elements_pass xs d.low, tt))))))))
    where
      sized : (l : List ℕ) (m : ℕ) → length l ≡ m → wrong_length l m ≡ false
      sized l m h = ap not (eq-eqb (length l) m h)

  module _ (xs : List ℕ) (d : Drawn (drawn_length plan) xs) where
    pack_of : (i : ℕ) → 1 ≤ i → i ≤ plan.n → row_at W (packs S draw.points xs) (i - 1) ≡ part_of plan draw i xs
    unfolding point_of
    pack_of i lo hi = packs_part S xs d.many draw.points i lo hi

    packs_many : length (packs S draw.points xs) ≡ plan.n * W
    packs_many = length_packs S xs d.many draw.points

  row_given : (r : ℕ) (out : List ℕ) → IsRaw (plan.raw r) → length out ≡ packs_length S → RowGiven plan draw r out
  unfolding factory_row_refusal raw_pack
  row_given r out raw e = record {
    done = done;
    parts = λ i lo hi.
        ap (λ (l : List ℕ). row_at W l (i - 1)) (row_done plan.n plan.t plan.points draw.points (raw_draw draw r) out done)
        ∙ pack_of (raw_draw draw r) d i lo hi;
  }
    where
      d : Drawn (drawn_length plan) (raw_draw draw r)
      d = raw_drawn plan draw is r (omega (arith, sound.raws r raw)) raw

      done : factory_row_refusal plan.n plan.t plan.points draw.points (raw_draw draw r) out ≡ 0
      done = clear (raw_draw draw r) (drawn_length plan) d out (packs_length S) e

  triple_given : (r : ℕ) (out : List ℕ) → plan.triple r ≡ true → length out ≡ 3 * packs_length S → TripleGiven plan draw r out
  unfolding factory_triple_refusal triple_pack triple_packs
  triple_given r out three e = record {
    done = done;
    parts = λ i lo hi.
        ap (λ (l : List ℕ). row_at W l (i - 1) ++ (row_at W l (plan.n + i - 1) ++ row_at W l (2 * plan.n + i - 1)))
        (triple_done plan.n plan.t plan.points draw.points (triple_draw draw r) out done)
        ∙ ap₂ ◌++◌ (first_is i lo hi) (ap₂ ◌++◌ (second_is i lo hi) (third_is i lo hi));
  }
    where
      low : r < row_count_of
      low = omega (arith, sound.triples r three)

      done : factory_triple_refusal plan.n plan.t plan.points draw.points (triple_draw draw r) out ≡ 0
      done = clear (triple_draw draw r) (triple_draw_length S) (triple_drawn plan draw is r low three) out (3 * packs_length S) e

      da : Drawn (drawn_length plan) (draw_a plan draw r)
      da = a_drawn plan draw is r low three

      db : Drawn (drawn_length plan) (draw_b plan draw r)
      db = b_drawn plan draw is r low three

      dab : Drawn (drawn_length plan) (draw_ab plan draw r)
      dab = ab_drawn plan draw is r low three

      A : List ℕ
      A = packs S draw.points (draw_a plan draw r)

      B : List ℕ
      B = packs S draw.points (draw_b plan draw r)

      AB : List ℕ
      AB = packs S draw.points (draw_ab plan draw r)

      first_is : (i : ℕ) → 1 ≤ i → i ≤ plan.n → row_at W (A ++ (B ++ AB)) (i - 1) ≡ part_of plan draw i (draw_a plan draw r)
      first_is i lo hi =
          row_among W plan.n A (B ++ AB) (packs_many (draw_a plan draw r) da) (i - 1) (omega arith)
          ∙ pack_of (draw_a plan draw r) da i lo hi

      second_is : (i : ℕ) → 1 ≤ i → i ≤ plan.n → row_at W (A ++ (B ++ AB)) (plan.n + i - 1) ≡ part_of plan draw i (draw_b plan draw r)
      second_is i lo hi =
          let g : plan.n + i - 1 ≡ plan.n + (i - 1) = omega arith in
          ap (row_at W (A ++ (B ++ AB))) g
          ∙ row_behind W plan.n A (B ++ AB) (packs_many (draw_a plan draw r) da) (i - 1)
          ∙ row_among W plan.n B AB (packs_many (draw_b plan draw r) db) (i - 1) (omega arith)
          ∙ pack_of (draw_b plan draw r) db i lo hi

      third_is : (i : ℕ) → 1 ≤ i → i ≤ plan.n → row_at W (A ++ (B ++ AB)) (2 * plan.n + i - 1) ≡ part_of plan draw i (draw_ab plan draw r)
      third_is i lo hi =
          let g : 2 * plan.n + i - 1 ≡ plan.n + (plan.n + (i - 1)) = omega arith in
          ap (row_at W (A ++ (B ++ AB))) g
          ∙ row_behind W plan.n A (B ++ AB) (packs_many (draw_a plan draw r) da) (plan.n + (i - 1))
          ∙ row_behind W plan.n B AB (packs_many (draw_b plan draw r) db) (i - 1)
          ∙ pack_of (draw_ab plan draw r) dab i lo hi

pub factory_packs : FactoryPacks
factory_packs plan draw sound is = (row_given plan draw sound is, triple_given plan draw sound is)
