-- A part, from f and from v1 to vn apart.
use Prim.Native.Nat.{ℕ, zero, suc, ◌+◌, ◌*◌, ◌-◌, ◌/◌, ◌%◌}
use mathlib.Core.Path.{◌≡◌, refl, sym, ◌∙◌, ap, ap₂}
use mathlib.Core.List.{List, ◌∷◌, ◌++◌}
use native.Mathlib.Numerals.{add-one}
use native.Mathlib.Omega.{arith}
use lib.ListN.{length, take, drop}
use lib.Seq.{take_at, drop-append-add}
use Rattle.poly.specs.Polynomial.{value}
use Rattle.shape.specs.declared.Shape.{Shape}
use Rattle.shape.specs.declared.Points.{Points}
use Rattle.shape.specs.Lengths.{f_length, v_length, checks_length}
use Rattle.shape.specs.Row.{point_at}
use Rattle.parts.proofs.Turns.{each_agree}
use Rattle.parts.specs.Draw.{drawn_f, drawn_v, each_from, each_post, check_of, sum_of, part}
use Rattle.parts.specs.Between.{v_of, value_of, check_at, check_values, sum_at, sums, part_with}

-- counted from the next number on
each_next : (f g : ℕ → ℕ) → ((i : ℕ) → f (suc i) ≡ g i) → (j m : ℕ) → each_from (suc j) m f ≡ each_from j m g
unfolding each_from
each_next f g h j zero = refl
each_next f g h j (suc m) = ap₂ ◌∷◌ (h j) (each_next f g h (suc j) m)

-- f's coefficients in front of v1 to vn
module _ (s : Shape) (f vs : List ℕ) (sized : length f ≡ f_length s) where
  f_first : drawn_f s (f ++ vs) ≡ f
  f_first = take_at f vs (f_length s) sized

  v_next : (j : ℕ) → drawn_v s (f ++ vs) (suc j) ≡ v_of s vs j
  v_next j =
      let e : f_length s + (suc j - 1) * v_length s ≡ length f + j * v_length s =
      ap₂ (λ (a b : ℕ). a + b * v_length s) (sym sized) (omega arith) in
      ap (take (v_length s)) (ap (λ (m : ℕ). drop m (f ++ vs)) e ∙ drop-append-add f vs (j * v_length s))

  check_values_lem : (w : Points) → each_from 0 (checks_length s) (check_of s w (f ++ vs)) ≡ check_values s w vs
  unfolding check_at value_of
  check_values_lem w =
      each_agree (check_of s w (f ++ vs)) (check_at s w vs) (λ m. ap (λ (l : List ℕ). value l (point_at w (m % s.points))) (v_next (m / s.points))) 0
      (checks_length s)

  public_sums : each_post s.n (sum_of s (f ++ vs)) ≡ sums s f vs
  unfolding sum_at
  public_sums = each_next (sum_of s (f ++ vs)) (sum_at s f vs) (λ i. rw (v_next i, f_first, add-one i)) 0 s.n

  pub part_split : (i : ℕ) (w : Points) → part s (suc i) w (f ++ vs) ≡ part_with s vs (sums s f vs) i w
  unfolding part
  part_split i w = ap₂ ◌++◌ (v_next i) (ap₂ ◌++◌ (check_values_lem w) public_sums)
