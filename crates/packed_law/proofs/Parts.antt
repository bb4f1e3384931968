-- A post's part of what the factory's calls write is its part of the draw: as many numbers as a load takes, all of them elements.
use Prim.Native.Nat.{ℕ, zero, suc, ◌+◌, ◌*◌, ◌-◌, ◌/◌, ◌%◌, ◌≤◌, ◌<◌}
use mathlib.Core.Path.{◌≡◌, ◌∙◌, ap, ap₂}
use mathlib.Core.List.{List, [], ◌∷◌, ◌++◌}
use native.Mathlib.Omega.{arith}
use lib.ListN.{length, drop, get_or, length-append, length-drop}
use lib.Seq.{length-take-le}
use Rattle.field.specs.Modulus.{p}
use Rattle.field.specs.Arithmetic.{product}
use Rattle.field.proofs.Modular.{sum_below, product_below}
use Rattle.poly.specs.Polynomial.{value}
use Rattle.poly.specs.Counting.{Elements}
use Rattle.shape.specs.declared.Shape.{Shape}
use Rattle.shape.specs.Lengths.{shape, f_length, v_length, checks_length, row_length, triple_length, draw_length, triple_draw_length}
use Rattle.shape.specs.Row.{point_at}
use Rattle.session.specs.declared.Party.{Party}
use Rattle.session.specs.Rows.{row_at}
use Rattle.parts.specs.Draw.{drawn_f, drawn_v, check_of, sum_of, each_from, part, first_draw, second_draw, third_draw}
use Rattle.packs.specs.Packs.{points_at_of, packs, triple_packs}
use Rattle.parts.proofs.Laws.{length_part, elements_take, elements_drop, elements_append}
use Rattle.packs.proofs.Laws.{length_packs, packs_part, row_among, row_behind}
use Rattle.packrow.specs.Numbers.{post_part, triple_parts}
use Rattle.packrow.specs.Between.{PostIn}
use Rattle.packfile.specs.Writing.{post_at}
use Rattle.packed_law.specs.Straight.{row_pack, triple_pack}

-- ---- elements
value_element : (cs : List ℕ) (x : ℕ) → value cs x < p
unfolding value
value_element [] x = omega arith
value_element (c ∷ cs) x = sum_below c (product x (value cs x))

each_elements : (f : ℕ → ℕ) → ((j : ℕ) → f j < p) → (j m : ℕ) → Elements (each_from j m f)
unfolding each_from
each_elements f h j zero = tt
each_elements f h j (suc m) = (h j, each_elements f h (suc j) m)

pub part_elements : (q : Party) (draw : List ℕ) → Elements draw → Elements (post_part q draw)
unfolding post_part part
part_elements q draw h =
    let s = q.shape in
    let at : ℕ = f_length s + (q.post - 1) * v_length s in
    let f : ℕ → ℕ = check_of s q.points draw in
    let cs : List ℕ = each_from 0 (checks_length s) f in
    let ms : List ℕ = each_from 1 s.n (sum_of s draw) in
    elements_append (drawn_v s draw q.post) (cs ++ ms) (elements_take (v_length s) (drop at draw) (elements_drop at draw h))
    (elements_append cs ms
    (each_elements f (λ m. value_element (drawn_v s draw (suc (m / s.points))) (point_at q.points (m % s.points))) 0 (checks_length s))
    (each_elements (sum_of s draw) (λ j. sum_below (get_or (drawn_v s draw j) 0 0) (value (drawn_f s draw) j)) 1 s.n))

pub triple_elements : (q : Party) (draw : List ℕ) → Elements draw → Elements (triple_parts q draw)
unfolding triple_parts
triple_elements q draw h =
    let d = draw_length q.shape in
    let a : List ℕ = post_part q (first_draw d draw) in
    let b : List ℕ = post_part q (second_draw d draw) in
    let c : List ℕ = post_part q (third_draw d draw) in
    elements_append a (b ++ c) (part_elements q (first_draw d draw) (elements_take d draw h))
    (elements_append b c
    (part_elements q (second_draw d draw) (elements_take d (drop d draw) (elements_drop d draw h)))
    (part_elements q (third_draw d draw) (product_below (get_or draw 0 0) (get_or draw d 0), elements_drop (d + d) draw h)))

-- ---- as many as a load takes
pub part_length : (q : Party) (draw : List ℕ) → PostIn q → length draw ≡ draw_length q.shape
    → length (post_part q draw) ≡ row_length q.shape
unfolding post_part
part_length q draw post e = length_part q.shape draw e q.post q.points post.first post.last

module _ (s : Shape) (draw : List ℕ) (e : length draw ≡ triple_draw_length s) where
  first_drawn : length (first_draw (draw_length s) draw) ≡ draw_length s
  first_drawn = length-take-le (draw_length s) draw (omega arith)

  second_drawn : length (second_draw (draw_length s) draw) ≡ draw_length s
  second_drawn = length-take-le (draw_length s) (drop (draw_length s) draw) (omega (arith, length-drop (draw_length s) draw))

  third_drawn : length (third_draw (draw_length s) draw) ≡ draw_length s
  third_drawn = omega (arith, length-drop (draw_length s + draw_length s) draw)

pub triple_length_lem : (q : Party) (draw : List ℕ) → PostIn q → length draw ≡ triple_draw_length q.shape
    → length (triple_parts q draw) ≡ triple_length q.shape
unfolding triple_parts
triple_length_lem q draw post e =
    let d = draw_length q.shape in
    let a = part_length q (first_draw d draw) post (first_drawn q.shape draw e) in
    let b = part_length q (second_draw d draw) post (second_drawn q.shape draw e) in
    let c = part_length q (third_draw d draw) post (third_drawn q.shape draw e) in
    simp length-append (omega (arith, a, b, c))

-- ---- the factory's calls
module _ (n t post points : ℕ) (ws : List ℕ) (lo : 1 ≤ post) (hi : post ≤ n) where
  abbrev S : Shape
  S = shape n t points

  abbrev W : ℕ
  W = row_length S

  own_part : (draw : List ℕ) → length draw ≡ draw_length S
      → row_at W (packs S ws draw) (post - 1) ≡ part S post (points_at_of points ws (post - 1)) draw
  own_part draw e = packs_part S draw e ws post lo hi

  all_parts : (draw : List ℕ) → length draw ≡ draw_length S → length (packs S ws draw) ≡ n * W
  all_parts draw e = length_packs S draw e ws

  pub row_pack_is : (draw : List ℕ) → length draw ≡ draw_length S
      → row_pack (post_at n t post points ws) ws draw ≡ post_part (post_at n t post points ws) draw
  unfolding row_pack post_part
  row_pack_is draw e = own_part draw e

  pub triple_pack_is : (draw : List ℕ) → length draw ≡ triple_draw_length S
      → triple_pack (post_at n t post points ws) ws draw ≡ triple_parts (post_at n t post points ws) draw
  unfolding triple_pack triple_parts triple_packs post_part
  triple_pack_is draw e = ap₂ ◌++◌ first_is (ap₂ ◌++◌ second_is third_is)
    where
      d : ℕ
      d = draw_length S

      A : List ℕ
      A = packs S ws (first_draw (draw_length S) draw)

      B : List ℕ
      B = packs S ws (second_draw (draw_length S) draw)

      C : List ℕ
      C = packs S ws (third_draw (draw_length S) draw)

      first_is : row_at W (A ++ (B ++ C)) (post - 1) ≡ part S post (points_at_of points ws (post - 1)) (first_draw (draw_length S) draw)
      first_is =
          row_among W n A (B ++ C) (all_parts _ (first_drawn S draw e)) (post - 1) (omega arith) ∙ own_part _ (first_drawn S draw e)

      second_is : row_at W (A ++ (B ++ C)) (n + post - 1) ≡ part S post (points_at_of points ws (post - 1)) (second_draw (draw_length S) draw)
      second_is =
          let g : n + post - 1 ≡ n + (post - 1) = omega arith in
          ap (row_at W (A ++ (B ++ C))) g
          ∙ row_behind W n A (B ++ C) (all_parts _ (first_drawn S draw e)) (post - 1)
          ∙ row_among W n B C (all_parts _ (second_drawn S draw e)) (post - 1) (omega arith)
          ∙ own_part _ (second_drawn S draw e)

      third_is : row_at W (A ++ (B ++ C)) (2 * n + post - 1) ≡ part S post (points_at_of points ws (post - 1)) (third_draw (draw_length S) draw)
      third_is =
          let g : 2 * n + post - 1 ≡ n + (n + (post - 1)) = omega arith in
          ap (row_at W (A ++ (B ++ C))) g
          ∙ row_behind W n A (B ++ C) (all_parts _ (first_drawn S draw e)) (n + (post - 1))
          ∙ row_behind W n B C (all_parts _ (second_drawn S draw e)) (post - 1)
          ∙ own_part _ (third_drawn S draw e)
