-- Lagrange's interpolation over any field: it is exact for as many coefficients as there are distinct nodes, at any point.
use mathlib.Core.Path.{◌≡◌, refl, sym, ◌∙◌, ap, ap₂}
use mathlib.Core.Logic.{◌≢◌}
use mathlib.Core.List.{List, [], ◌∷◌, ◌++◌, map}
use Prim.Native.Nat.{suc, ◌+◌, ◌≤◌}
use native.Mathlib.Nat.{suc_inj}
use native.Mathlib.Omega.{arith}
use lib.ListN.{length, length-append, length-map}
use Rattle.field.specs.Algebra.{Field}
use Rattle.field.proofs.Ring.{zero_add, one_mul, mul_zero, zero_mul}
use Rattle.field.proofs.Expression.{A, B, C, 𝟙, ◌:*◌, Same}
use Rattle.field.proofs.Solver.{solve}
use Rattle.field.proofs.Fields.{product_nonzero, difference_nonzero}
use Rattle.poly.specs.Counting.{All, Distinct}
use Rattle.poly.proofs.Lists.{all_map, all_zip, all_of, map_same, map_equal}
use Rattle.poly.proofs.Coefficients.{ev, plus, times, times_nodes, nodal_at, ev_plus, ev_times, ev_times_nodes, ev_constant, length_plus, length_times, length_times_nodes, nodal_at_self}
use Rattle.poly.proofs.Roots.{agree}

module _ {R : Type 0} (𝓕 : Field R) where
  open 𝓕 use {ring, inv, mul_inv, one_ne_zero}
  open ring use {add as ◌⊕◌, mul as ◌⊗◌, neg, zero, one, add_zero, add_neg, mul_assoc, mul_one}

  infixl 65 ◌⊕◌
  infixl 70 ◌⊗◌
  abbrev N : R → List R → R
  N = nodal_at ring

  pub nodal_at_append : (x : R) (rs ss : List R) → N x (rs ++ ss) ≡ N x rs ⊗ N x ss
  unfolding nodal_at
  nodal_at_append x [] ss = sym (one_mul ring (N x ss))
  nodal_at_append x (r ∷ rs) ss =
      ap (λ (z : R). (x ⊕ neg r) ⊗ z) (nodal_at_append x rs ss) ∙ sym (mul_assoc (x ⊕ neg r) (N x rs) (N x ss))

  pub nodal_at_nonzero : (x : R) (rs : List R) → All (λ s. s ≢ x) rs → N x rs ≢ zero
  unfolding nodal_at
  nodal_at_nonzero x [] a e = one_ne_zero e
  nodal_at_nonzero x (s ∷ rs) a e =
      product_nonzero 𝓕 (x ⊕ neg s) (N x rs) (difference_nonzero 𝓕 x s (λ q. a.0 (sym q))) (nodal_at_nonzero x rs a.1) e

  -- the terms of the nodes to come; the nodes passed stand before them
  unfoldable pub terms_at : R → List R → List R → List R → R
  terms_at z passed [] ys = zero
  terms_at z passed (x ∷ xs) [] = zero
  terms_at z passed (x ∷ xs) (y ∷ ys) =
      y ⊗ (N z (passed ++ xs) ⊗ inv (N x (passed ++ xs))) ⊕ terms_at z (passed ++ (x ∷ [])) xs ys

  -- the same as a list of coefficients
  coefficients : List R → List R → List R → List R
  coefficients passed [] ys = []
  coefficients passed (x ∷ xs) [] = []
  coefficients passed (x ∷ xs) (y ∷ ys) =
      plus ring (times ring (y ⊗ inv (N x (passed ++ xs))) (times_nodes ring (passed ++ xs) (one ∷ [])))
      (coefficients (passed ++ (x ∷ [])) xs ys)

  ev_coefficients : (z : R) (passed xs ys : List R) → ev ring (coefficients passed xs ys) z ≡ terms_at z passed xs ys
  unfolding coefficients terms_at ev Same
  ev_coefficients z passed [] ys = refl
  ev_coefficients z passed (x ∷ xs) [] = refl
  ev_coefficients z passed (x ∷ xs) (y ∷ ys) =
      ev_plus ring (times ring k g) (coefficients (passed ++ (x ∷ [])) xs ys) z
      ∙ ap₂ ◌⊕◌
      (ev_times ring k g z
      ∙ ap (λ (u : R). k ⊗ u) (ev_times_nodes ring rest (one ∷ []) z ∙ ap (λ (u : R). N z rest ⊗ u) (ev_constant ring one z))
      ∙ solve ring (y ∷ inv (N x rest) ∷ N z rest ∷ []) (A :* B :* (C :* 𝟙)) (A :* (C :* B)) refl)
      (ev_coefficients z (passed ++ (x ∷ [])) xs ys)
    where
      rest : List R
      rest = passed ++ xs

      k : R
      k = y ⊗ inv (N x rest)

      g : List R
      g = times_nodes ring rest (one ∷ [])

  length_coefficients : (passed xs ys : List R) → length (coefficients passed xs ys) ≤ length passed + length xs
  unfolding coefficients
  length_coefficients passed [] ys = omega arith
  length_coefficients passed (x ∷ xs) [] = omega arith
  length_coefficients passed (x ∷ xs) (y ∷ ys) =
      length_plus ring (times ring k g) (coefficients (passed ++ (x ∷ [])) xs ys) (length passed + suc (length xs))
      (omega (arith, length_times ring k g, length_times_nodes ring (passed ++ xs) (one ∷ []), length-append passed xs))
      (omega (arith, length_coefficients (passed ++ (x ∷ [])) xs ys, length-append passed (x ∷ [])))
    where
      k : R
      k = y ⊗ inv (N x (passed ++ xs))

      g : List R
      g = times_nodes ring (passed ++ xs) (one ∷ [])

  -- at a node passed, every term to come is zero
  terms_at_passed : (s : R) (passed xs ys : List R) → N s passed ≡ zero → terms_at s passed xs ys ≡ zero
  unfolding terms_at nodal_at
  terms_at_passed s passed [] ys h = refl
  terms_at_passed s passed (x ∷ xs) [] h = refl
  terms_at_passed s passed (x ∷ xs) (y ∷ ys) h =
      ap₂ ◌⊕◌
      (ap (λ (u : R). y ⊗ (u ⊗ inv (N x (passed ++ xs)))) (gone xs) ∙ ap (λ (u : R). y ⊗ u) (zero_mul ring _) ∙ mul_zero ring y)
      (terms_at_passed s (passed ++ (x ∷ [])) xs ys (gone (x ∷ [])))
      ∙ add_zero zero
    where
      gone : (l : List R) → N s (passed ++ l) ≡ zero
      gone l = nodal_at_append s passed l ∙ ap (λ (u : R). u ⊗ N s l) h ∙ zero_mul ring (N s l)

  -- at a node to come, its own value
  terms_at_node : (passed xs ys : List R) → length xs ≡ length ys → Distinct xs → All (λ s. N s passed ≢ zero) xs
      → map (λ s. terms_at s passed xs ys) xs ≡ ys
  unfolding terms_at nodal_at
  terms_at_node passed [] [] l d a = refl
  terms_at_node passed [] (y ∷ ys) l d a = absurd (omega arith)
  terms_at_node passed (x ∷ xs) [] l d a = absurd (omega arith)
  terms_at_node passed (x ∷ xs) (y ∷ ys) l d a =
      ap₂ ◌∷◌ (ap₂ ◌⊕◌ own (terms_at_passed x (passed ++ (x ∷ [])) xs ys passed_x) ∙ add_zero y)
      (map_same _ (λ s. terms_at s (passed ++ (x ∷ [])) xs ys) xs
      (all_map (λ s z. ap (λ (u : R). u ⊕ terms_at s (passed ++ (x ∷ [])) xs ys) (other s z) ∙ zero_add ring _) xs (nodal_at_self ring xs))
      ∙ terms_at_node (passed ++ (x ∷ [])) xs ys (suc_inj l) d.1 (all_zip (λ s u v. away s u v) xs d.0 a.1))
    where
      rest : List R
      rest = passed ++ xs

      nonzero : N x rest ≢ zero
      nonzero e = product_nonzero 𝓕 (N x passed) (N x xs) a.0 (nodal_at_nonzero x xs d.0) (sym (nodal_at_append x passed xs) ∙ e)

      own : y ⊗ (N x rest ⊗ inv (N x rest)) ≡ y
      own = ap (λ (u : R). y ⊗ u) (mul_inv (N x rest) nonzero) ∙ mul_one y

      other : (s : R) → N s xs ≡ zero → y ⊗ (N s rest ⊗ inv (N x rest)) ≡ zero
      other s z =
          ap (λ (u : R). y ⊗ (u ⊗ inv (N x rest))) (nodal_at_append s passed xs ∙ ap (λ (u : R). N s passed ⊗ u) z ∙ mul_zero ring (N s passed))
          ∙ ap (λ (u : R). y ⊗ u) (zero_mul ring _) ∙ mul_zero ring y

      last : (s : R) → N s (x ∷ []) ≡ s ⊕ neg x
      last s = mul_one (s ⊕ neg x)

      passed_x : N x (passed ++ (x ∷ [])) ≡ zero
      passed_x =
          nodal_at_append x passed (x ∷ []) ∙ ap (λ (u : R). N x passed ⊗ u) (last x ∙ add_neg x) ∙ mul_zero ring (N x passed)

      away : (s : R) → s ≢ x → N s passed ≢ zero → N s (passed ++ (x ∷ [])) ≢ zero
      away s u v e =
          product_nonzero 𝓕 (N s passed) (s ⊕ neg x) v (difference_nonzero 𝓕 s x u)
          (ap (λ (w : R). N s passed ⊗ w) (sym (last s)) ∙ sym (nodal_at_append s passed (x ∷ [])) ∙ e)

  -- f is the interpolation through the values ys at the nodes rs
  pub record Passes (rs ys f : List R) : Type 0 where
    pub few : length f ≤ length rs
    pub meets : map (ev ring f) rs ≡ ys
    pub is : (z : R) → terms_at z [] rs ys ≡ ev ring f z

  pub through : List R → List R → List R
  through = coefficients []

  pub through_passes : (rs ys : List R) → length rs ≡ length ys → Distinct rs → Passes rs ys (through rs ys)
  unfolding nodal_at through
  through_passes rs ys l d = record {
    few = omega (arith, length_coefficients [] rs ys);
    meets = map_same (ev ring (coefficients [] rs ys)) (λ s. terms_at s [] rs ys) rs (all_of (λ s. ev_coefficients s [] rs ys) rs)
        ∙ terms_at_node [] rs ys l d (all_of (λ s. one_ne_zero) rs);
    is = λ z. sym (ev_coefficients z [] rs ys);
  }

  pub interpolation_exact : (rs : List R) → Distinct rs → (f : List R) → length f ≤ length rs → (z : R)
      → terms_at z [] rs (map (ev ring f) rs) ≡ ev ring f z
  interpolation_exact rs d f l z =
      t.is z ∙ agree 𝓕 rs d (through rs (map (ev ring f) rs)) f t.few l (map_equal _ (ev ring f) rs t.meets) z
    where
      t : Passes rs (map (ev ring f) rs) (through rs (map (ev ring f) rs))
      t = through_passes rs (map (ev ring f) rs) (sym (length-map rs (ev ring f))) d
