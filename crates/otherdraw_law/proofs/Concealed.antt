-- The kernel by which the other draw differs: the listed posts see nothing of it.
use Prim.Native.Nat.{ℕ, zero, suc, ◌+◌, ◌*◌, ◌-◌, ◌%◌, ◌/◌, ◌≤◌, ◌<◌}
use mathlib.Core.Path.{◌≡◌, refl, sym, ap, subst}
use mathlib.Core.Bool.{Bool, true, false, false≢true}
use mathlib.Core.Logic.{◌≢◌}
use mathlib.Core.List.{List, [], ◌∷◌}
use native.Mathlib.Nat.{mul_comm, mul-le-mul_right, mod-lt}
use native.Mathlib.Omega.{arith}
use lib.ListN.{length, length-map}
use Rattle.field.specs.Modulus.{p}
use Rattle.field.specs.Element.{Element, element}
use Rattle.field.proofs.Elements.{𝓡}
use Rattle.poly.specs.Counting.{All}
use Rattle.poly.proofs.Lists.{all_map, all_zip, all_mapped, all_at}
use Rattle.poly.proofs.Coefficients.{ev}
use Rattle.poly.proofs.Numbers.{to_elements}
use Rattle.parts.proofs.Turns.{block_room}
use Rattle.shape.specs.declared.Shape.{Shape}
use Rattle.shape.specs.Row.{point_at}
use Rattle.shape.specs.Lengths.{shape, f_length, v_length}
use Rattle.packs.specs.Packs.{points_at_of}
use Rattle.vectors.specs.Vector.{Vector}
use Rattle.secrecy.proofs.Kernel.{kernel_of, kernel_of_c, kernel_of_own, kernel_of_constant, kernel_of_sums, kernel_of_checks}
use Rattle.secrecy.proofs.Near.{Unseen, nonzero_nodes}
use Rattle.vanishing.specs.Vanishing.{vanishing, distinct}
use Rattle.otherdraw.specs.Other.{no_posts, points_of}
use Rattle.vanishing.proofs.Vanish.{length_vanishing, vanishing_at_zero, vanishing_at_nodes}
use Rattle.vanishing.proofs.Distinct.{of_distinct, to_distinct, length_distinct}
use Rattle.otherdraw_law.proofs.Points.{point_is, points_all, points_each, length_points}
use Rattle.otherdraw.proofs.Passed.{Given}
use Rattle.otherdraw_law.proofs.Shifted.{unseen_kernel, unseen_is}
open 𝓡 use {zero as 0ᴱ, one as 1ᴱ}

module _ (n t points : ℕ) (ws draw : List ℕ) (secret wanted : ℕ) (posts : List ℕ) (g : Given n t points ws draw secret wanted posts) where
  abbrev s : Shape
  s = shape n t points

  -- each check point of a listed post is one
  pub points_in_is : All (λ i. (h : ℕ) → h < points → (1 ≤ point_at (points_at_of points ws (i - 1)) h) × (point_at (points_at_of points ws (i - 1)) h < p)) posts
  points_in_is = all_map one posts g.posts_in
    where
      one : (i : ℕ) → (1 ≤ i) × (i ≤ n) → (h : ℕ) → h < points
          → (1 ≤ point_at (points_at_of points ws (i - 1)) h) × (point_at (points_at_of points ws (i - 1)) h < p)
      one i b h low =
          subst (λ (w : ℕ). (1 ≤ w) × (w < p)) (sym (point_is points ws (i - 1) h g.valid.points_in_is.1 low))
          (all_at (λ w. (1 ≤ w) × (w < p)) ws ((i - 1) * points + h) 0
          (omega (arith, low, g.points_length, block_room (i - 1) n points (n * points) (omega (arith, b)) refl, mul_comm points n)) g.points_good)

  pub known_good : All (λ w. (1 ≤ w) × (w < p)) (distinct (points_of points ws posts))
  known_good =
      to_distinct (λ w. (1 ≤ w) × (w < p)) (points_of points ws posts)
      (points_all (λ w. (1 ≤ w) × (w < p)) points ws g.valid.points_in_is.1 posts points_in_is)

  -- fewer than a v has coefficients
  pub known_few : length posts ≤ t → length (distinct (points_of points ws posts)) < v_length s
  known_few few =
      omega
      (arith, length_distinct (points_of points ws posts), length_points points ws posts, mul-le-mul_right {m = length posts} {n = t} points few, mul_comm points t)

  module _ (few : length posts ≤ t) where
    K : Vector
    K = unseen_kernel s posts (points_of points ws posts) draw secret wanted g.draw_length_is g.draw_elements

    l : List Element
    l = to_elements (vanishing (f_length s) posts)

    w : List Element
    w = to_elements (vanishing (v_length s) (distinct (points_of points ws posts)))

    K-is : no_posts posts ≡ false → K ≡ kernel_of l w
    unfolding K unseen_kernel l w
    K-is e = ap (kernel_of (to_elements (vanishing (f_length s) posts))) (unseen_is s posts (points_of points ws posts) draw secret wanted g.draw_length_is g.draw_elements e)

    posts_few : length posts < f_length s
    posts_few = omega (arith, few)

    pub hidden_c : (unseen_kernel s posts (points_of points ws posts) draw secret wanted g.draw_length_is g.draw_elements).c ≡ 0ᴱ
    unfolding unseen_kernel
    hidden_c = kernel_of_c (to_elements (vanishing (f_length s) posts)) _

    pub hidden_unit : (unseen_kernel s posts (points_of points ws posts) draw secret wanted g.draw_length_is g.draw_elements).f 0 ≡ 1ᴱ
    unfolding unseen_kernel
    hidden_unit = kernel_of_constant (to_elements (vanishing (f_length s) posts)) _ (vanishing_at_zero (f_length s) posts posts_few)

    posts_nonzero : All (λ x. x ≢ 0ᴱ) (to_elements posts)
    posts_nonzero = nonzero_nodes (λ i. i) posts (all_map (λ i k. (k.0, omega (arith, k.1, g.valid.n_in))) posts g.posts_in)

    points_nonzero : All (λ x. x ≢ 0ᴱ) (to_elements (distinct (points_of points ws posts)))
    points_nonzero = nonzero_nodes (λ x. x) (distinct (points_of points ws posts)) known_good

    l_at : All (λ i. ev 𝓡 l (element i) ≡ 0ᴱ) posts
    unfolding l
    l_at = all_mapped (λ x. ev 𝓡 l x ≡ 0ᴱ) element posts (vanishing_at_nodes (f_length s) posts posts_few posts_nonzero)

    -- zero at each point of each listed post
    w_at : All (λ i. (h : ℕ) → h < points → ev 𝓡 w (element (point_at (points_at_of points ws (i - 1)) h)) ≡ 0ᴱ) posts
    unfolding w
    w_at =
        points_each (λ x. ev 𝓡 w (element x) ≡ 0ᴱ) points ws g.valid.points_in_is.1 n g.points_length posts g.posts_in
        (of_distinct (λ x. ev 𝓡 w (element x) ≡ 0ᴱ) (points_of points ws posts)
        (all_mapped (λ x. ev 𝓡 w x ≡ 0ᴱ) element (distinct (points_of points ws posts))
        (vanishing_at_nodes (v_length s) (distinct (points_of points ws posts)) (known_few few) points_nonzero)))

    l_many : length l ≤ f_length s
    unfolding l
    l_many = omega (arith, length-map (vanishing (f_length s) posts) element, length_vanishing (f_length s) posts)

    w_many : length w ≤ v_length s
    unfolding w
    w_many =
        omega
        (arith, length-map (vanishing (v_length s) (distinct (points_of points ws posts))) element, length_vanishing (v_length s) (distinct (points_of points ws posts)))

    w_unit : ev 𝓡 w 0ᴱ ≡ 1ᴱ
    unfolding w
    w_unit = vanishing_at_zero (v_length s) (distinct (points_of points ws posts)) (known_few few)

    unseen_by : All (λ i. Unseen s i (points_at_of points ws (i - 1)) (kernel_of l w)) posts
    unseen_by = all_zip one posts l_at w_at
      where
        l_long : length l ≤ f_length s
        l_long = l_many

        w_long : length w ≤ v_length s
        w_long = w_many

        one : (i : ℕ) → ev 𝓡 l (element i) ≡ 0ᴱ → ((h : ℕ) → h < points → ev 𝓡 w (element (point_at (points_at_of points ws (i - 1)) h)) ≡ 0ᴱ)
            → Unseen s i (points_at_of points ws (i - 1)) (kernel_of l w)
        one i e z =
            record {
              own = kernel_of_own l w i e;
              checks = λ m low.
                  kernel_of_checks l w s w_long _ (z (m % points) (mod-lt m {m = points} (omega (arith, g.valid.points_in_is)))) (suc (m / points));
              sums = kernel_of_sums l w s l_long w_unit;
            }

    pub hidden : All (λ i. Unseen s i (points_at_of points ws (i - 1))
        (unseen_kernel s posts (points_of points ws posts) draw secret wanted g.draw_length_is g.draw_elements)) posts
    unfolding K
    hidden = go (no_posts posts) refl
      where
        nobody : (Q : ℕ → Type 0) (xs : List ℕ) → no_posts xs ≡ true → All Q xs
        nobody Q [] e = tt
        nobody Q (x ∷ xs) e = absurd (false≢true e)

        go : (b : Bool) → no_posts posts ≡ b → All (λ i. Unseen s i (points_at_of points ws (i - 1)) K) posts
        go true e = nobody (λ i. Unseen s i (points_at_of points ws (i - 1)) K) posts e
        go false e = subst (λ (k : Vector). All (λ i. Unseen s i (points_at_of points ws (i - 1)) k) posts) (sym (K-is e)) unseen_by
