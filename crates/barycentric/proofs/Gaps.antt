-- Weights of rising nodes, over any field: those of all numbers up to the last node, times the distances to the missing ones.
use mathlib.Core.Path.{◌≡◌, refl, sym, ◌∙◌, ap}
use mathlib.Core.List.{List, [], ◌∷◌, ◌++◌, map}
use Prim.Native.Nat.{ℕ, suc, ◌+◌, ◌-◌}
use native.Mathlib.Omega.{arith}
use lib.ListN.{length, length-append, length-map}
use Rattle.field.specs.Algebra.{CommutativeRing, Field}
use Rattle.field.proofs.Ring.{zero_add, mul_zero, zero_mul}
use Rattle.poly.specs.Counting.{All}
use Rattle.barycentric.specs.Nodes.{Rising, last_of, missing, following}
use Rattle.poly.proofs.Lists.{all_map, all_first, all_second, all_mapped}
use Rattle.poly.proofs.Coefficients.{ev, times_nodes, nodal_at, ev_times_nodes, length_times_nodes, nodal_at_self}
use Rattle.barycentric.proofs.Sums.{sum_below_of, sum_over, sum_below_same, sum_over_zero, sum_below_following}
use Rattle.barycentric.proofs.Pascal.{pascal, difference_zero}
use Rattle.barycentric.proofs.Barycentric.{Kills}

pub length_following : (z k : ℕ) → length (following z k) ≡ k
unfolding following
length_following z ℕ.zero = refl
length_following z (suc k) = ap suc (length_following (suc z) k)

pub following_end : (z k : ℕ) → following z (suc k) ≡ following z k ++ (suc (z + k) ∷ [])
unfolding following
following_end z ℕ.zero = let q : z ≡ z + 0 = omega arith in ap (λ (n : ℕ). suc n ∷ []) q
following_end z (suc k) =
    let q : suc z + k ≡ z + suc k = omega arith in
    ap (λ (l : List ℕ). suc z ∷ l) (following_end (suc z) k ∙ ap (λ (n : ℕ). following (suc z) k ++ (suc n ∷ [])) q)

pub length_missing : (a : ℕ) (xs : List ℕ) → Rising a xs → length (missing a xs) + length xs + a ≡ last_of a xs
unfolding missing
length_missing a [] r = omega arith
length_missing a (x ∷ xs) r =
    let ih = length_missing x xs r.1 in
    omega (arith, r.0, ih, length-append (following a (x - suc a)) (missing x xs), length_following a (x - suc a))

module _ {R : Type 0} (𝓡 : CommutativeRing R) where
  open 𝓡 use {add as ◌⊕◌, mul as ◌⊗◌, zero, add_assoc, add_zero, mul_assoc}

  infixl 65 ◌⊕◌
  infixl 70 ◌⊗◌
  -- a sum over all numbers up to the last node, where the missing ones add nothing
  pub sum_of_nodes : (h : ℕ → R) (a : ℕ) (xs : List ℕ) → Rising a xs → All (λ g. h g ≡ zero) (missing a xs)
      → sum_below_of 𝓡 h (suc (last_of a xs)) ≡ sum_below_of 𝓡 h (suc a) ⊕ sum_over 𝓡 h xs
  unfolding missing sum_over sum_below_of
  sum_of_nodes h a [] r z = sym (add_zero _)
  sum_of_nodes h a (x ∷ xs) r z =
      sum_of_nodes h x xs r.1 (all_second (λ g. h g ≡ zero) between (missing x xs) z) ∙ ap (λ (u : R). u ⊕ sum_over 𝓡 h xs) up_to
      ∙ add_assoc _ _ _
    where
      between : List ℕ
      between = following a (x - suc a)

      all : suc a + (x - suc a) ≡ x
      all = omega (arith, r.0)

      before : sum_below_of 𝓡 h x ≡ sum_below_of 𝓡 h (suc a)
      before =
          ap (sum_below_of 𝓡 h) (sym all) ∙ sum_below_following 𝓡 h a (x - suc a)
          ∙ ap (λ (u : R). sum_below_of 𝓡 h (suc a) ⊕ u) (sum_over_zero 𝓡 h between (all_first (λ g. h g ≡ zero) between (missing x xs) z))
          ∙ add_zero _

      up_to : sum_below_of 𝓡 h (suc x) ≡ sum_below_of 𝓡 h (suc a) ⊕ h x
      up_to = ap (λ (u : R). u ⊕ h x) before

module _ {R : Type 0} (𝓕 : Field R) (ι : ℕ → R) (ι-zero : ι 0 ≡ 𝓕.ring.zero) (ι-suc : (n : ℕ) → ι (suc n) ≡ 𝓕.ring.add 𝓕.ring.one (ι n)) where
  open 𝓕 use {ring}
  open ring use {add as ◌⊕◌, mul as ◌⊗◌, zero, mul_assoc}

  infixl 65 ◌⊕◌
  infixl 70 ◌⊗◌
  -- the weight of a number among those up to m, times its distances to those of a list
  abbrev pub gapped : ℕ → List ℕ → ℕ → R
  gapped m gs x = pascal ring m x ⊗ nodal_at ring (ι x) (map ι gs)

  gapped_missing : (m : ℕ) (gs : List ℕ) → All (λ g. gapped m gs g ≡ zero) gs
  gapped_missing m gs =
      all_map (λ g e. ap (λ (u : R). pascal ring m g ⊗ u) e ∙ mul_zero ring (pascal ring m g)) gs
      (all_mapped (λ s. nodal_at ring s (map ι gs) ≡ zero) ι gs (nodal_at_self ring (map ι gs)))

  -- the weights' sums over the nodes, with 0, are those over all numbers up to the last node
  pub over_nodes : (xs : List ℕ) → Rising 0 xs → (g : ℕ → R)
      → sum_below_of ring (λ x. gapped (last_of 0 xs) (missing 0 xs) x ⊗ g x) (suc (last_of 0 xs))
      ≡ sum_over ring (λ x. gapped (last_of 0 xs) (missing 0 xs) x ⊗ g x) (0 ∷ xs)
  unfolding sum_over sum_below_of
  over_nodes xs r g =
      sum_of_nodes ring h 0 xs r
      (all_map (λ x e. ap (λ (u : R). u ⊗ g x) e ∙ zero_mul ring (g x)) (missing 0 xs) (gapped_missing (last_of 0 xs) (missing 0 xs)))
      ∙ ap (λ (u : R). u ⊕ sum_over ring h xs) (zero_add ring (h 0))
    where
      h : ℕ → R
      h x = gapped (last_of 0 xs) (missing 0 xs) x ⊗ g x

  pub gapped_kills : (xs : List ℕ) → Rising 0 xs → Kills 𝓕 ι (gapped (last_of 0 xs) (missing 0 xs)) (0 ∷ xs) (length xs)
  gapped_kills xs r f l =
      sym (over_nodes xs r (λ x. ev ring f (ι x)))
      ∙ sum_below_same ring _ (λ x. pascal ring m x ⊗ ev ring (times_nodes ring (map ι gs) f) (ι x)) (suc m)
      (λ x b. mul_assoc _ _ _ ∙ ap (λ (u : R). pascal ring m x ⊗ u) (sym (ev_times_nodes ring (map ι gs) f (ι x))))
      ∙ difference_zero ring ι ι-zero ι-suc m (times_nodes ring (map ι gs) f)
      (omega (arith, length_times_nodes ring (map ι gs) f, length-map gs ι, length_missing 0 xs r))
    where
      m : ℕ
      m = last_of 0 xs

      gs : List ℕ
      gs = missing 0 xs
