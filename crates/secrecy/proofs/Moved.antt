-- The matched draw: to each vector drawn a multiple of the group's kernel is added, so that its number becomes the one that
-- goes with the second list of secrets. The check points stay.
use Prim.Native.Nat.{ℕ, zero, suc, ◌+◌, ◌*◌, ◌-◌, ◌≤◌, ◌<◌}
use mathlib.Core.Path.{◌≡◌, refl, sym, ◌∙◌, ap, ap₂, subst}
use mathlib.Core.Bool.{Bool, true, cond}
use mathlib.Core.List.{List, [], ◌∷◌}
use native.Mathlib.Decide.{dec_lt}
use native.Mathlib.Omega.{arith}
use lib.ListN.{length, take, drop, get_or, get_or-eq_default}
use Rattle.field.specs.Modulus.{p}
use Rattle.field.specs.Arithmetic.{product}
use Rattle.field.specs.Element.{Element, element}
use Rattle.field.proofs.Modular.{product_below}
use Rattle.field.proofs.Expression.{A, B, C, D, ◌:+◌, ◌:*◌, Same}
use Rattle.field.proofs.Solver.{solve}
use Rattle.field.proofs.Elements.{𝓡, element_product}
use Rattle.poly.specs.Counting.{All, Elements}
use Rattle.poly.proofs.Lists.{all_map}
use Rattle.shape.specs.Bounds.{fewest_posts, most_posts, row_count_of}
use Rattle.refusal.specs.Conditions.{posts_tests}
use Rattle.refusal.proofs.Laws.{all_fail, inside}
use Rattle.parts.specs.Draw.{third_draw}
use Rattle.runs.proofs.Start.{point_in_is}
use Rattle.runs.specs.Draws.{Plan, plan_shape, Sound, Draw, Lists, IsDraw, drawn_length, raw_length, triple_length, point_of, raw_draw, triple_draw, draw_a, draw_b, draw_ab}
use Rattle.secrecy.specs.Steps.{Secrets}
use Rattle.secrecy.specs.Claim.{Group}
use Rattle.secrecy.proofs.Kernel.{kernel_constant}
use Rattle.secrecy.proofs.Near.{Unseen, group_posts, group_points, group_kernel, nonzero_nodes, nonzero_points, kernel_unseen}
use Rattle.secrecy.proofs.Shift.{shift, flat, flat_f, length_shift, elements_shift, shift_cons}
use Rattle.secrecy.proofs.Link.{Gaps}
use Rattle.secrecy.proofs.Triples.{nothing, shift_empty, cross, moved_triple, length_triple, elements_triple, triple_none, triple_first, triple_second, triple_rest, triple_a, triple_b}
open 𝓡 use {add as ◌⊕◌, mul as ◌⊗◌, neg, zero as 0ᴱ, one as 1ᴱ}

infixl 65 ◌⊕◌
infixl 70 ◌⊗◌
-- ---- each list of a list of lists, by its place

pub each : (ℕ → List ℕ → List ℕ) → List (List ℕ) → List (List ℕ)
each f [] = []
each f (l ∷ ls) = f 0 l ∷ each (λ r. f (suc r)) ls

pub length_each : (f : ℕ → List ℕ → List ℕ) (ls : List (List ℕ)) → length (each f ls) ≡ length ls
unfolding each
length_each f [] = refl
length_each f (l ∷ ls) = ap suc (length_each (λ r. f (suc r)) ls)

-- behind the end there is the empty list
pub each_at : (f : ℕ → List ℕ → List ℕ) → ((r : ℕ) → f r [] ≡ []) → (ls : List (List ℕ)) (r : ℕ)
    → get_or (each f ls) r [] ≡ f r (get_or ls r [])
unfolding each
each_at f none [] r = sym (none r)
each_at f none (l ∷ ls) zero = refl
each_at f none (l ∷ ls) (suc r) = each_at (λ q. f (suc q)) (λ q. none (suc q)) ls r

pub each_back : (f g : ℕ → List ℕ → List ℕ) (ls : List (List ℕ))
    → ((r : ℕ) → r < length ls → g r (f r (get_or ls r [])) ≡ get_or ls r []) → each g (each f ls) ≡ ls
unfolding each
each_back f g [] h = refl
each_back f g (l ∷ ls) h =
    ap₂ ◌∷◌ (h 0 (omega arith)) (each_back (λ r. f (suc r)) (λ r. g (suc r)) ls (λ r lr. h (suc r) (omega arith)))

-- as many numbers in each, and elements
each_lists : (many : ℕ → ℕ) (f : ℕ → List ℕ → List ℕ) (ls : List (List ℕ)) → ((r : ℕ) → f r [] ≡ [])
    → ((r : ℕ) (l : List ℕ) → length (f r l) ≡ length l) → ((r : ℕ) (l : List ℕ) → Elements (f r l)) → Lists many ls
    → Lists many (each f ls)
each_lists many f ls none long low h =
    record {
      count = length_each f ls ∙ h.count;
      each = λ r lr. (
        ap length (each_at f none ls r) ∙ long r (get_or ls r []) ∙ (h.each r lr).0,
        subst Elements (sym (each_at f none ls r)) (low r (get_or ls r [])),
      );
    }

-- what is not drawn, or behind the end, is empty; and the numbers are elements at every place
module _ (many : ℕ → ℕ) (ls : List (List ℕ)) (h : Lists many ls) (r : ℕ) where
  pub lists_nothing : many r ≡ 0 → get_or ls r [] ≡ []
  lists_nothing e =
      elim (dec_lt r row_count_of)
      [ yes l ↦ nothing (get_or ls r []) ((h.each r l).0 ∙ e) | no l ↦ get_or-eq_default ls [] (omega (arith, h.count)) ]

  pub lists_elements : Elements (get_or ls r [])
  lists_elements =
      elim (dec_lt r row_count_of) [
        | yes l ↦ (h.each r l).1
        | no l ↦ subst Elements (sym (get_or-eq_default ls [] (omega (arith, h.count)))) tt
      ]

-- ---- the draw moved

-- the kernel of the group, laid out as a draw is
abbrev pub layout : Plan → List ℕ → Draw → ℕ → Element
layout plan group d = flat (plan_shape plan) (group_kernel plan.points (point_of plan d) group)

-- by how much the secret of row r differs
abbrev pub secret_gap : Secrets → Secrets → ℕ → Element
secret_gap u u' r = element (u' r) ⊕ neg (element (u r))

-- by how much the number of the third draw for a triple differs
abbrev pub product_gap : Plan → (ℕ → Gaps) → Draw → ℕ → Element
product_gap plan Δ d r = cross (drawn_length plan) (Δ r).factor_a_is (Δ r).factor_b_is (triple_draw d r)

module _ (plan : Plan) (group : List ℕ) (u u' : Secrets) (Δ : ℕ → Gaps) (d : Draw) where
  abbrev fl : ℕ → Element
  fl = layout plan group d

  abbrev at_triple : ℕ → List ℕ → List ℕ
  at_triple r = moved_triple (drawn_length plan) (layout plan group d) (Δ r).factor_a_is (Δ r).factor_b_is

  -- Where nothing was drawn the list is empty, and stays so.
  unfoldable pub moved : Draw
  moved =
      record {
        points = d.points;
        raws = each (λ r. shift (layout plan group d) (secret_gap u u' r)) d.raws;
        triples = each (λ r. moved_triple (drawn_length plan) (layout plan group d) (Δ r).factor_a_is (Δ r).factor_b_is) d.triples;
      }

  pub moved_points : point_of plan moved ≡ point_of plan d
  unfolding moved point_of
  moved_points = refl

  pub moved_raw : (r : ℕ) → raw_draw moved r ≡ shift (layout plan group d) (secret_gap u u' r) (raw_draw d r)
  unfolding moved raw_draw
  moved_raw = each_at (λ r. shift fl (secret_gap u u' r)) (λ r. shift_empty _ _) d.raws

  pub moved_triple_is : (r : ℕ)
      → triple_draw moved r ≡ moved_triple (drawn_length plan) (layout plan group d) (Δ r).factor_a_is (Δ r).factor_b_is (triple_draw d r)
  unfolding moved triple_draw
  moved_triple_is = each_at at_triple (λ r. triple_none _ _ _ _) d.triples

  pub moved_is : IsDraw plan d → IsDraw plan moved
  unfolding moved
  moved_is is =
      record {
        posts = is.posts;
        points = is.points;
        raws =
            each_lists (raw_length plan) _ d.raws (λ r. shift_empty _ _) (λ r. length_shift fl (secret_gap u u' r))
            (λ r. elements_shift fl (secret_gap u u' r)) is.raws;
        triples =
            each_lists (triple_length plan) at_triple d.triples (λ r. triple_none _ _ _ _)
            (λ r. length_triple (drawn_length plan) fl (Δ r).factor_a_is (Δ r).factor_b_is)
            (λ r. elements_triple (drawn_length plan) fl (Δ r).factor_a_is (Δ r).factor_b_is) is.triples;
      }

-- ---- the kernel of a group of posts

module _ (plan : Plan) (group : List ℕ) (d : Draw) (sound : Sound plan) (few : Group plan group) (is : IsDraw plan d) where
  few_posts_is : plan.n ≤ most_posts
  few_posts_is = (inside fewest_posts most_posts plan.n (all_fail (posts_tests plan.n plan.t) tt sound.posts).0).1

  -- one at the number, and nothing that the group sees
  pub kernel_unit : (group_kernel plan.points (point_of plan d) group).f 0 ≡ 1ᴱ
  kernel_unit =
      kernel_constant (group_posts plan.points (point_of plan d) group) (group_points plan.points (point_of plan d) group)
      (nonzero_nodes (λ i. i) group (all_map (λ i h. (h.0, omega (arith, h.1, few_posts_is))) group few.members))

  pub layout_unit : layout plan group d 0 ≡ 1ᴱ
  layout_unit = flat_f (plan_shape plan) (group_kernel plan.points (point_of plan d) group) 0 (omega arith) ∙ kernel_unit

  pub group_unseen : All (λ i. Unseen (plan_shape plan) i (point_of plan d i) (group_kernel plan.points (point_of plan d) group)) group
  group_unseen =
      kernel_unseen plan.points (point_of plan d) group (plan_shape plan) refl (omega (arith, few.few))
      (nonzero_points plan.points (point_of plan d) group (all_map (λ i h. point_in_is plan d sound is i h.0 h.1) group few.members))

-- ---- a triple's three draws

pub row_some : (plan : Plan) → 1 ≤ drawn_length plan
row_some plan = omega arith

pub triple_long : (plan : Plan) (d : Draw) → IsDraw plan d → (r : ℕ) → r < row_count_of → plan.triple r ≡ true
    → drawn_length plan + drawn_length plan ≤ length (triple_draw d r)
unfolding triple_draw
triple_long plan d is r row drawn =
    omega (arith, row_some plan, (is.triples.each r row).0 ∙ ap (λ (b : Bool). cond b (3 * drawn_length plan - 1) 0) drawn)

module _ (plan : Plan) (group : List ℕ) (u u' : Secrets) (Δ : ℕ → Gaps) (d : Draw) (sound : Sound plan)
    (few : Group plan group) (is : IsDraw plan d) (r : ℕ) (row : r < row_count_of) (drawn : plan.triple r ≡ true) where
  long : drawn_length plan + drawn_length plan ≤ length (triple_draw d r)
  long = triple_long plan d is r row drawn

  pub moved_a : draw_a plan (moved plan group u u' Δ d) r ≡ shift (layout plan group d) (Δ r).factor_a_is (draw_a plan d r)
  moved_a =
      ap (take (drawn_length plan)) (moved_triple_is plan group u u' Δ d r)
      ∙ triple_first (drawn_length plan) (layout plan group d) (Δ r).factor_a_is (Δ r).factor_b_is (triple_draw d r) long

  pub moved_b : draw_b plan (moved plan group u u' Δ d) r ≡ shift (layout plan group d) (Δ r).factor_b_is (draw_b plan d r)
  moved_b =
      ap (λ (l : List ℕ). take (drawn_length plan) (drop (drawn_length plan) l)) (moved_triple_is plan group u u' Δ d r)
      ∙ triple_second (drawn_length plan) (layout plan group d) (Δ r).factor_a_is (Δ r).factor_b_is (triple_draw d r) long

  pub moved_ab : draw_ab plan (moved plan group u u' Δ d) r ≡ shift (layout plan group d) (product_gap plan Δ d r) (draw_ab plan d r)
  unfolding Same
  moved_ab =
      ap (third_draw (drawn_length plan)) (moved_triple_is plan group u u' Δ d r)
      ∙ ap (λ (l : List ℕ). product m0 m1 ∷ l) (triple_rest (drawn_length plan) fl a b (triple_draw d r) long)
      ∙ shift_cons (plan_shape plan) (group_kernel plan.points (point_of plan d) group) (product_gap plan Δ d r) (product l0 l1)
      (product m0 m1) (drop (drawn_length plan + drawn_length plan) (triple_draw d r)) (kernel_unit plan group d sound few is)
      (product_below m0 m1)
      (element_product m0 m1
      ∙ ap₂ ◌⊗◌ (triple_a (drawn_length plan) fl a b (triple_draw d r) long (row_some plan) unit)
      (triple_b (drawn_length plan) fl a b (triple_draw d r) long (row_some plan) unit)
      ∙ solve 𝓡 (element l0 ∷ element l1 ∷ a ∷ b ∷ []) ((A :+ C) :* (B :+ D)) (A :* B :+ (A :* D :+ B :* C :+ C :* D)) refl
      ∙ ap (λ (z : Element). z ⊕ product_gap plan Δ d r) (sym (element_product l0 l1)))
    where
      fl : ℕ → Element
      fl = layout plan group d

      a : Element
      a = (Δ r).factor_a_is

      b : Element
      b = (Δ r).factor_b_is

      unit : layout plan group d 0 ≡ 1ᴱ
      unit = layout_unit plan group d sound few is

      l0 : ℕ
      l0 = get_or (triple_draw d r) 0 0

      l1 : ℕ
      l1 = get_or (triple_draw d r) (drawn_length plan) 0

      m0 : ℕ
      m0 = get_or (moved_triple (drawn_length plan) fl a b (triple_draw d r)) 0 0

      m1 : ℕ
      m1 = get_or (moved_triple (drawn_length plan) fl a b (triple_draw d r)) (drawn_length plan) 0
