-- The weights of polynomials: how they are filled, and a longer polynomial's value by them.
use Prim.Native.Nat.{ℕ, ◌≤◌, ◌<◌}
use mathlib.Core.Path.{◌≡◌, ◌∙◌, ap}
use mathlib.Core.List.{List, ◌++◌}
use native.Mathlib.Omega.{arith}
use lib.ListN.{length, take, drop, length-append}
use lib.Seq.{length-take-le, take_at}
use Rattle.poly.specs.Polynomial.{value, powers, weighted}
use Rattle.poly.specs.Counting.{Elements}
use Rattle.poly.proofs.Bounds.{length_powers_from, powers_below}
use Rattle.poly.proofs.Numbers.{weighted_powers}
use Rattle.shape.specs.declared.Shape.{Shape}
use Rattle.shape.specs.Lengths.{v_length}
use Rattle.accepting.specs.Between.{few_coefficients, PowersAt}

module _ (s : Shape) (w : ℕ) where
  abbrev k : ℕ
  k = v_length s

  module _ (old : List ℕ) (sized : length old ≡ k) where
    pub filled : (new : List ℕ) → new ≡ powers w (length old) → PowersAt s w new
    filled new e = record { powers_are = λ long. e ∙ ap (powers w) sized }

    pub not_asked : length old ≤ few_coefficients → PowersAt s w old
    not_asked few = record { powers_are = λ long. absurd (omega (arith, sized, few, long)) }

  -- what `weigh_elements` needs, and what it brings
  module _ (part weights : List ℕ) (short : length part ≤ k) (given : PowersAt s w weights) (long : few_coefficients < length part) where
    are_powers : weights ≡ powers w k
    are_powers = given.powers_are (omega (arith, short, long))

    pub weights_enough : length part ≤ length weights
    weights_enough = rw (are_powers, length_powers_from 1 w k) short

    pub weights_elements : Elements weights
    weights_elements = rw are_powers (powers_below w k)

    pub weighed_value : (v : ℕ) → v ≡ weighted part weights → v ≡ value part w
    weighed_value v e = e ∙ ap (weighted part) are_powers ∙ weighted_powers part w k short

-- the first numbers of a room, lent to be filled and lent again
module _ (s : Shape) (l : List ℕ) (count : ℕ) (ec : count ≡ v_length s) (room : v_length s ≤ length l) where
  pub front_lent : length (take count l) ≡ count
  front_lent = length-take-le count l (omega (arith, ec, room))

  pub front_long : length (take count l) ≡ v_length s
  front_long = front_lent ∙ ec

  module _ (ys : List ℕ) (same : length ys ≡ length (take count l)) where
    pub front_in : count ≤ length (ys ++ drop count l)
    front_in = omega (arith, length-append ys (drop count l), same, front_lent)

    pub front_again : length (take count (ys ++ drop count l)) ≡ count
    front_again = length-take-le count (ys ++ drop count l) front_in

    pub front_powers : (w : ℕ) → PowersAt s w ys → PowersAt s w (take count (ys ++ drop count l))
    front_powers w a = rw (take_at ys (drop count l) count (same ∙ front_lent)) a
