-- f, then each v, changes by the polynomial of least degree: any other draw with the same record has the same values at as many points.
use Prim.Native.Nat.{ℕ, suc, ◌+◌, ◌*◌, ◌-◌, ◌≤◌, ◌<◌}
use mathlib.Core.Path.{◌≡◌, refl, sym, ◌∙◌, ap}
use mathlib.Core.Bool.{Bool, true, false, false≢true}
use mathlib.Core.Logic.{◌≢◌, ◌⊎◌, inl, inr}
use mathlib.Core.List.{List, [], ◌∷◌}
use native.Mathlib.Omega.{arith}
use borrow.Author.Tests.{eqb-true, eqb-false}
use lib.Dec.{eqb, lit<}
use lib.ListN.{length, drop, get_or}
use Rattle.field.specs.Modulus.{p}
use Rattle.field.specs.Arithmetic.{difference, sum}
use Rattle.field.specs.Element.{Element, element}
use Rattle.field.proofs.Modular.{sum_comm}
use Rattle.field.proofs.Expression.{A, B, ◌:-◌, Same}
use Rattle.field.proofs.Solver.{solve}
use Rattle.field.proofs.Elements.{𝓡, element_difference, element_injective}
use Rattle.poly.specs.Counting.{All, Distinct, Elements}
use Rattle.poly.specs.Polynomial.{value}
use Rattle.poly.proofs.Lists.{all_map, all_zip}
use Rattle.shape.specs.declared.Shape.{Shape}
use Rattle.shape.specs.Lengths.{f_length, v_length, draw_length}
use Rattle.parts.specs.Draw.{drawn_f, drawn_v}
use Rattle.parts.proofs.Laws.{elements_take, elements_drop}
use Rattle.vectors.proofs.Draws.{element_at}
use Rattle.vanishing.specs.Vanishing.{vanishing, distinct}
use Rattle.otherdraw.specs.Other.{no_posts, other_v, moved, points_of, other_draw}
use Rattle.vanishing.proofs.Vanish.{length_vanishing, vanishing_ends}
use Rattle.vanishing.proofs.Distinct.{to_distinct, apart}
use Rattle.otherdraw_law.proofs.Points.{points_all}
use Rattle.otherdraw_law.proofs.Concealed.{known_good, known_few}
use Rattle.otherdraw.proofs.Passed.{Given, not_refused}
use Rattle.otherdraw_law.specs.OneRow.{Setting, Behind}
use Rattle.otherdraw_law.specs.Claims.{Dealt, returned, refusal_in, shape_in, Least, AnF, AV, ChangesLeast, OnlyF}
use Rattle.otherdraw_law.proofs.Sees.{length_v, sum_cancel, long, low, checks_same, sums_same, f_same, constant_same}
use Rattle.otherdraw_law.proofs.Nineteen.{length_f, constant_f}
use Rattle.otherdraw_law.proofs.Returned.{out_is, draw_equal, draw_moved, shows_the_same}
use Rattle.otherdraw_law.proofs.Determined.{determined, value_at_zero, combined_ends, least_by}
use Rattle.otherdraw_law.proofs.Parts.{f_is, v_is, v_stays, rest_stays}
open 𝓡 use {add as ◌⊕◌, neg}

infixl 65 ◌⊕◌
-- the same, less two numbers
less_cancel : (x a b : ℕ) → a < p → b < p → difference x a ≡ difference x b → a ≡ b
unfolding Same
less_cancel x a b la lb e =
    element_injective a b la lb
    (solve 𝓡 (element x ∷ element a ∷ []) B (A :- (A :- B)) refl
    ∙ ap (λ (z : Element). element x ⊕ neg z) (sym (element_difference x a) ∙ ap element e ∙ element_difference x b)
    ∙ solve 𝓡 (element x ∷ element b ∷ []) (A :- (A :- B)) B refl)

elements_v : (s : Shape) (draw : List ℕ) (j : ℕ) → Elements draw → Elements (drawn_v s draw j)
elements_v s draw j l = elements_take (v_length s) _ (elements_drop (f_length s + (j - 1) * v_length s) draw l)

-- of a list that is not empty
some_one : {Q : Type 0} (xs : List ℕ) → no_posts xs ≡ false → All (λ x. Q) xs → Q
some_one [] e a = absurd (false≢true (sym e))
some_one (x ∷ xs) e a = a.0

module _ (S : Setting) (draw : List ℕ) (secret wanted : ℕ) (out : List ℕ) (h : Dealt S) (z : refusal_in S draw secret wanted out ≡ 0) where
  abbrev s : Shape
  s = shape_in S

  abbrev O : List ℕ
  O = returned S draw secret wanted out

  g : Given S.n S.t S.points S.ws draw secret wanted S.posts
  g = (not_refused S.n S.t S.points S.ws draw secret wanted S.posts out z).0

  mine : Behind S draw secret wanted O
  mine = shows_the_same S draw secret wanted out h z

  now_equal : secret ≡ wanted → O ≡ draw
  now_equal e =
      out_is S.n S.t S.points S.ws draw secret wanted S.posts out z
      ∙ draw_equal S.n S.t S.points S.ws draw secret wanted S.posts out e

  now_moved : eqb secret wanted ≡ false → O ≡ moved s S.posts (points_of S.points S.ws S.posts) (difference wanted secret) draw
  now_moved e =
      out_is S.n S.t S.points S.ws draw secret wanted S.posts out z
      ∙ draw_moved S.n S.t S.points S.ws draw secret wanted S.posts out e

  -- ---- two draws behind the wanted secret

  module _ (o : List ℕ) (b : Behind S draw secret wanted o) where
    o_long : length o ≡ draw_length s
    o_long = long S h.row draw secret wanted g o b

    o_low : Elements o
    o_low = low S h.row draw secret wanted g o b

  constants : (o : List ℕ) → Behind S draw secret wanted o → get_or o 0 0 ≡ get_or O 0 0
  constants o b =
      less_cancel wanted (get_or o 0 0) (get_or O 0 0) (element_at o (o_low o b) 0) (element_at O (o_low O mine) 0)
      (constant_same S h.row draw secret wanted g o b ∙ sym (constant_same S h.row draw secret wanted g O mine))

  f_values : (o : List ℕ) → Behind S draw secret wanted o → All (λ r. value (drawn_f s o) r ≡ value (drawn_f s O) r) (0 ∷ S.posts)
  f_values o b = (
    value_at_zero (drawn_f s o) (elements_take (f_length s) o (o_low o b)) ∙ constant_f s o ∙ constants o b ∙ sym (constant_f s O)
        ∙ sym (value_at_zero (drawn_f s O) (elements_take (f_length s) O (o_low O mine))),
    all_zip (λ i x y. x ∙ sym y) S.posts (f_same S h.row draw secret wanted g o b) (f_same S h.row draw secret wanted g O mine),
  )

  nodes_low : (xs : List ℕ) → All (λ x. (1 ≤ x) × (x < p)) xs → Elements (0 ∷ xs)
  nodes_low xs a = (lit< tt, all_map (λ x k. k.1) xs a)

  nodes_apart : (xs : List ℕ) → All (λ x. (1 ≤ x) × (x < p)) xs → Distinct xs → Distinct (0 ∷ xs)
  nodes_apart xs a d = (all_map (λ x k e. omega (arith, k.0, e)) xs a, d)

  posts_good : All (λ x. (1 ≤ x) × (x < p)) S.posts
  posts_good = all_map (λ i k. (k.0, omega (arith, k.1, g.valid.n_in))) S.posts g.posts_in

  -- ---- f

  f_long : (xs : List ℕ) → AnF S draw secret wanted xs → length xs ≡ length (drawn_f s draw)
  f_long xs d = ap length (sym d.2) ∙ length_f s d.0 (o_long d.0 d.1) ∙ sym (length_f s draw g.draw_length_is)

  f_least : (b : Bool) → eqb secret wanted ≡ b → (secret ≡ wanted) ⊎ (length S.posts ≤ S.t) → Least (AnF S draw secret wanted) (drawn_f s draw) (drawn_f s O)
  f_least true e how =
      let q = now_equal (eqb-true secret wanted e) in
      least_by (AnF S draw secret wanted) (drawn_f s draw) (drawn_f s O) 0 f_long (O, mine, refl) (ap (drawn_f s) q) (λ xs d k. k ∙ sym (ap (drawn_f s) q))
  f_least false e (inl q) = absurd (eqb-false secret wanted e q)
  f_least false e (inr few) =
      least_by (AnF S draw secret wanted) (drawn_f s draw) (drawn_f s O) (suc (length S.posts)) f_long (O, mine, refl) ends
      (λ xs d k. sym d.2 ∙ alone d.0 d.1 (ap (drop (suc (length S.posts))) d.2 ∙ k))
    where
      ends : drop (suc (length S.posts)) (drawn_f s O) ≡ drop (suc (length S.posts)) (drawn_f s draw)
      ends =
          ap (λ (l : List ℕ). drop (suc (length S.posts)) (drawn_f s l)) (now_moved e)
          ∙ ap (drop (suc (length S.posts))) (f_is s S.posts (points_of S.points S.ws S.posts) (difference wanted secret) draw g.draw_length_is)
          ∙ combined_ends (suc (length S.posts)) (difference wanted secret) (drawn_f s draw) (vanishing (f_length s) S.posts)
          (length_f s draw g.draw_length_is ∙ sym (length_vanishing (f_length s) S.posts)) (elements_take (f_length s) draw g.draw_elements)
          (vanishing_ends (f_length s) S.posts)

      alone : (o : List ℕ) → Behind S draw secret wanted o → drop (suc (length S.posts)) (drawn_f s o) ≡ drop (suc (length S.posts)) (drawn_f s draw)
          → drawn_f s o ≡ drawn_f s O
      alone o b k =
          determined (drawn_f s o) (drawn_f s O) (suc (length S.posts)) (0 ∷ S.posts) (length_f s o (o_long o b) ∙ sym (length_f s O (o_long O mine)))
          (omega (arith, length_f s o (o_long o b), few)) (elements_take (f_length s) o (o_low o b)) (elements_take (f_length s) O (o_low O mine))
          (nodes_low S.posts posts_good) (nodes_apart S.posts posts_good g.posts_apart) (omega arith) (k ∙ sym ends) (f_values o b)

  -- ---- the v's

  ws : List ℕ
  ws = points_of S.points S.ws S.posts

  known : List ℕ
  known = distinct ws

  points_good : All (λ w. (1 ≤ w) × (w < p)) known
  unfolding known ws
  points_good = known_good S.n S.t S.points S.ws draw secret wanted S.posts g

  known_apart : Distinct known
  unfolding known
  known_apart = apart ws

  room_for : length S.posts ≤ S.t → suc (length known) ≤ v_length s
  unfolding known ws
  room_for few = let e = known_few S.n S.t S.points S.ws draw secret wanted S.posts g few in omega arith

  known_ends : (j : ℕ) → 1 ≤ j → j ≤ S.n
      → drop (suc (length known)) (other_v s S.posts (points_of S.points S.ws S.posts) (difference wanted secret) draw j) ≡ drop (suc (length known)) (drawn_v s draw j)
  unfolding known ws
  known_ends j lo hi =
      combined_ends (suc (length (distinct (points_of S.points S.ws S.posts)))) _ (drawn_v s draw j) (vanishing (v_length s) (distinct (points_of S.points S.ws S.posts)))
      (length_v s draw g.draw_length_is j lo hi ∙ sym (length_vanishing (v_length s) (distinct (points_of S.points S.ws S.posts)))) (elements_v s draw j g.draw_elements)
      (vanishing_ends (v_length s) (distinct (points_of S.points S.ws S.posts)))

  module _ (j : ℕ) (lo : 1 ≤ j) (hi : j ≤ S.n) where
    v_constant : no_posts S.posts ≡ false → (o : List ℕ) → Behind S draw secret wanted o → drawn_f s o ≡ drawn_f s O
        → get_or (drawn_v s o j) 0 0 ≡ get_or (drawn_v s O j) 0 0
    v_constant e o b f =
        sum_cancel (value (drawn_f s O) j) _ _ (element_at (drawn_v s o j) (elements_v s o j (o_low o b)) 0) (element_at (drawn_v s O j) (elements_v s O j (o_low O mine)) 0)
        (sum_comm (value (drawn_f s O) j) (get_or (drawn_v s o j) 0 0) ∙ ap (λ (l : List ℕ). sum (get_or (drawn_v s o j) 0 0) (value l j)) (sym f)
        ∙ some_one S.posts e (all_map (λ i k. k j lo hi) S.posts (sums_same S h.row draw secret wanted g o b))
        ∙ sym (some_one S.posts e (all_map (λ i k. k j lo hi) S.posts (sums_same S h.row draw secret wanted g O mine)))
        ∙ sum_comm (get_or (drawn_v s O j) 0 0) (value (drawn_f s O) j))

    v_points : (o : List ℕ) → Behind S draw secret wanted o → All (λ w. value (drawn_v s o j) w ≡ value (drawn_v s O j) w) known
    unfolding known ws
    v_points o b =
        to_distinct (λ w. value (drawn_v s o j) w ≡ value (drawn_v s O j) w) (points_of S.points S.ws S.posts)
        (points_all (λ w. value (drawn_v s o j) w ≡ value (drawn_v s O j) w) S.points S.ws g.valid.points_in_is.1 S.posts
        (all_zip (λ i x y k low. x k low j lo hi ∙ sym (y k low j lo hi)) S.posts (checks_same S h.row draw secret wanted g o b)
        (checks_same S h.row draw secret wanted g O mine)))

    abbrev Does : List ℕ → Type 0
    Does = AV S draw secret wanted (drawn_f s O) j

    v_long : (xs : List ℕ) → Does xs → length xs ≡ length (drawn_v s draw j)
    v_long xs d = ap length (sym d.3) ∙ length_v s d.0 (o_long d.0 d.1) j lo hi ∙ sym (length_v s draw g.draw_length_is j lo hi)

    v_same : drawn_v s O j ≡ drawn_v s draw j → Least Does (drawn_v s draw j) (drawn_v s O j)
    v_same q = least_by Does (drawn_v s draw j) (drawn_v s O j) 0 v_long (O, mine, refl, refl) q (λ xs d k. k ∙ sym q)

    v_least : (b : Bool) → eqb secret wanted ≡ b → (c : Bool) → no_posts S.posts ≡ c → (secret ≡ wanted) ⊎ (length S.posts ≤ S.t)
        → Least Does (drawn_v s draw j) (drawn_v s O j)
    v_least true e c n how = v_same (ap (λ (l : List ℕ). drawn_v s l j) (now_equal (eqb-true secret wanted e)))
    v_least false e true n how =
        v_same
        (ap (λ (l : List ℕ). drawn_v s l j) (now_moved e)
        ∙ v_stays s S.posts (points_of S.points S.ws S.posts) (difference wanted secret) draw g.draw_length_is n j)
    v_least false e false n (inl q) = absurd (eqb-false secret wanted e q)
    v_least false e false n (inr few) =
        least_by Does (drawn_v s draw j) (drawn_v s O j) (suc (length known)) v_long (O, mine, refl, refl) ends
        (λ xs d k. sym d.3 ∙ alone d.0 d.1 d.2 (ap (drop (suc (length known))) d.3 ∙ k))
      where
        room : suc (length known) ≤ v_length s
        room = room_for few

        ends : drop (suc (length known)) (drawn_v s O j) ≡ drop (suc (length known)) (drawn_v s draw j)
        ends =
            ap (λ (l : List ℕ). drop (suc (length known)) (drawn_v s l j)) (now_moved e)
            ∙ ap (drop (suc (length known))) (v_is s S.posts (points_of S.points S.ws S.posts) (difference wanted secret) draw g.draw_length_is n j lo hi)
            ∙ known_ends j lo hi

        alone : (o : List ℕ) → Behind S draw secret wanted o → drawn_f s o ≡ drawn_f s O → drop (suc (length known)) (drawn_v s o j) ≡ drop (suc (length known)) (drawn_v s draw j)
            → drawn_v s o j ≡ drawn_v s O j
        alone o b f k =
            let lv = length_v s o (o_long o b) j lo hi in
            determined (drawn_v s o j) (drawn_v s O j) (suc (length known)) (0 ∷ known) (lv ∙ sym (length_v s O (o_long O mine) j lo hi))
            (omega (arith, lv, room)) (elements_v s o j (o_low o b)) (elements_v s O j (o_low O mine)) (nodes_low known points_good)
            (nodes_apart known points_good known_apart) (omega arith) (k ∙ sym ends) (
              value_at_zero (drawn_v s o j) (elements_v s o j (o_low o b)) ∙ v_constant n o b f ∙ sym (value_at_zero (drawn_v s O j) (elements_v s O j (o_low O mine))),
              v_points o b,
            )

pub changes_least : ChangesLeast
changes_least S draw secret wanted out h z =
    let how = (not_refused S.n S.t S.points S.ws draw secret wanted S.posts out z).1 in (
      f_least S draw secret wanted out h z (eqb secret wanted) refl how,
      λ j lo hi. v_least S draw secret wanted out h z j lo hi (eqb secret wanted) refl (no_posts S.posts) refl how,
    )

pub only_f : OnlyF
only_f S draw secret wanted out z none = go (eqb secret wanted) refl
  where
    s : Shape
    s = shape_in S

    first : returned S draw secret wanted out ≡ other_draw S.n S.t S.points S.ws draw secret wanted S.posts
    first = out_is S.n S.t S.points S.ws draw secret wanted S.posts out z

    go : (b : Bool) → eqb secret wanted ≡ b → drop (S.t + 1) (returned S draw secret wanted out) ≡ drop (S.t + 1) draw
    go true e =
        ap (drop (S.t + 1)) (first ∙ draw_equal S.n S.t S.points S.ws draw secret wanted S.posts out (eqb-true secret wanted e))
    go false e =
        ap (drop (S.t + 1)) (first ∙ draw_moved S.n S.t S.points S.ws draw secret wanted S.posts out e)
        ∙ rest_stays (shape_in S) S.posts (points_of S.points S.ws S.posts) (difference wanted secret) draw
        (not_refused S.n S.t S.points S.ws draw secret wanted S.posts out z).0.draw_length_is (ap no_posts none)
