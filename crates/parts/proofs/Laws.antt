-- Laws of parts, for the crates above: lengths, and elements in parts of lists.
use Prim.Native.Nat.{ℕ, zero, suc, ◌+◌, ◌*◌, ◌-◌, ◌≤◌, ◌<◌}
use mathlib.Core.Path.{◌≡◌, refl, ap}
use mathlib.Core.List.{List, [], ◌∷◌, ◌++◌}
use native.Mathlib.Omega.{arith}
use lib.ListN.{length, take, drop, length-append, length-drop}
use lib.Seq.{length-take-le}
use Rattle.poly.specs.Counting.{Elements}
use Rattle.shape.specs.declared.Shape.{Shape}
use Rattle.shape.specs.declared.Points.{Points}
use Rattle.shape.specs.Lengths.{f_length, v_length, checks_length, row_length, draw_length}
use Rattle.parts.specs.Draw.{drawn_v, each_from, check_of, sum_of, part}
use Rattle.parts.proofs.Turns.{block_room}

pub length_each : (f : ℕ → ℕ) (j m : ℕ) → length (each_from j m f) ≡ m
unfolding each_from
length_each f j zero = refl
length_each f j (suc m) = ap suc (length_each f (suc j) m)

module _ (s : Shape) (draw : List ℕ) (drawn : length draw ≡ draw_length s) where
  -- vj lies in the draw
  pub drawn_room : (j : ℕ) → j - 1 < s.n → f_length s + (j - 1) * v_length s + v_length s ≤ length draw
  drawn_room j h = omega (arith, drawn, block_room (j - 1) s.n (v_length s) (s.n * v_length s) h refl)

  length_drawn : (j : ℕ) → 1 ≤ j → j ≤ s.n → length (drawn_v s draw j) ≡ v_length s
  length_drawn j lo hi =
      let at = f_length s + (j - 1) * v_length s in
      length-take-le (v_length s) (drop at draw) (omega (arith, drawn_room j (omega arith), length-drop at draw))

  pub length_part : (i : ℕ) (w : Points) → 1 ≤ i → i ≤ s.n → length (part s i w draw) ≡ row_length s
  unfolding part
  length_part i w lo hi =
      simp length-append
      (omega (arith, length_drawn i lo hi, length_each (check_of s w draw) 0 (checks_length s), length_each (sum_of s draw) 1 s.n))

-- elements, of parts of a list and of two lists joined
pub elements_take : (m : ℕ) (l : List ℕ) → Elements l → Elements (take m l)
elements_take zero l a = tt
elements_take (suc m) [] a = tt
elements_take (suc m) (x ∷ l) a = (a.0, elements_take m l a.1)

pub elements_drop : (m : ℕ) (l : List ℕ) → Elements l → Elements (drop m l)
elements_drop zero l a = a
elements_drop (suc m) [] a = tt
elements_drop (suc m) (x ∷ l) a = elements_drop m l a.1

pub elements_append : (l r : List ℕ) → Elements l → Elements r → Elements (l ++ r)
elements_append [] r a b = b
elements_append (x ∷ l) r a b = (a.0, elements_append l r a.1 b)
