-- The posts that pass a test: they are posts of the range, each post of the range that passes is one of them, with its value, and so posts
-- that pass, each once, are no more.
use Prim.Native.Nat.{ℕ, zero, suc, ◌+◌, ◌≤◌, ◌<◌}
use mathlib.Core.Path.{◌≡◌, refl, sym, ◌∙◌, ap, subst}
use mathlib.Core.Bool.{Bool, true, false}
use mathlib.Core.Logic.{◌≢◌, inl, inr}
use mathlib.Core.List.{List, [], ◌∷◌, ◌++◌, map}
use native.Mathlib.Decide.{ℕ_discrete}
use native.Mathlib.Omega.{arith}
use lib.ListN.{length}
use Rattle.poly.specs.Counting.{All, Distinct}
use Rattle.poly.proofs.Lists.{all_map, all_zip}
use Rattle.agreement.specs.Agreement.{Given}
use Rattle.accepting.specs.Accepting.{passing}
use Rattle.accepting.proofs.Accepted.{Accepted, later}

pub all_parts : {A : Type 0} (P : A → Type 0) (xs ys : List A) → All P (xs ++ ys) → All P xs × All P ys
all_parts P [] ys a = (tt, a)
all_parts P (x ∷ xs) ys a = let h = all_parts P xs ys a.1 in ((a.0, h.0), h.1)

not_both : false ≡ true → ⊥
not_both e = let z : ◌≡◌ {A = ℕ} 0 1 = cc in omega arith

-- a list without its first x
module _ (x : ℕ) where
  others : List ℕ → List ℕ
  others [] = []
  others (y ∷ l) = elim (ℕ_discrete y x) [ yes e ↦ l | no ne ↦ y ∷ others l ]

  others_length : (l : List ℕ) → length l ≤ suc (length (others l))
  unfolding others
  others_length [] = omega arith
  others_length (y ∷ l) = go (ℕ_discrete y x) (others_length l)
    where
      go : (d : Dec (y ≡ x)) → length l ≤ suc (length (others l)) → suc (length l) ≤ suc (length {A = ℕ} (elim d as (λ z. List ℕ) [ yes e ↦ l | no ne ↦ y ∷ others l ]))
      go (yes e) h = omega arith
      go (no ne) h = omega arith

  others_all : (P : ℕ → Type 0) (l : List ℕ) → All P l → All P (others l)
  unfolding others
  others_all P [] a = tt
  others_all P (y ∷ l) a = go (ℕ_discrete y x) (others_all P l a.1)
    where
      go : (d : Dec (y ≡ x)) → All P (others l) → All P (elim d as (λ z. List ℕ) [ yes e ↦ l | no ne ↦ y ∷ others l ])
      go (yes e) h = a.1
      go (no ne) h = (a.0, h)

  others_distinct : (l : List ℕ) → Distinct l → Distinct (others l) × All (λ y. y ≢ x) (others l)
  unfolding others
  others_distinct [] a = (tt, tt)
  others_distinct (y ∷ l) a = go (ℕ_discrete y x) (others_distinct l a.1)
    where
      go : (d : Dec (y ≡ x)) → Distinct (others l) × All (λ z. z ≢ x) (others l)
          → Distinct {R = ℕ} (elim d as (λ z. List ℕ) [ yes e ↦ l | no ne ↦ y ∷ others l ])
          × All (λ z. z ≢ x) (elim d as (λ z. List ℕ) [ yes e ↦ l | no ne ↦ y ∷ others l ])
      go (yes e) h = (a.1, subst (λ (w : ℕ). All (λ z. z ≢ w) l) e a.0)
      go (no ne) h = ((others_all (λ z. z ≢ y) l a.0, h.0), (ne, h.1))

module _ (test : ℕ → Bool) where
  pub all_passing : (j k : ℕ) → All (Accepted test j k) (passing test j k)
  unfolding passing
  all_passing j zero = tt
  all_passing j (suc k) = go (test j) refl (all_map (later test j k) (passing test (suc j) k) (all_passing (suc j) k))
    where
      go : (b : Bool) → test j ≡ b → All (Accepted test j (suc k)) (passing test (suc j) k)
          → All (Accepted test j (suc k)) (elim b as (λ z. List ℕ) [ true ↦ j ∷ passing test (suc j) k | false ↦ passing test (suc j) k ])
      go true e a = (record { passes = e; from_on = omega arith; before = omega arith }, a)
      go false e a = a

  pub distinct_passing : (j k : ℕ) → Distinct (passing test j k)
  unfolding passing
  distinct_passing j zero = tt
  distinct_passing j (suc k) = go (test j) (distinct_passing (suc j) k)
    where
      go : (b : Bool) → Distinct (passing test (suc j) k)
          → Distinct {R = ℕ} (elim b as (λ z. List ℕ) [ true ↦ j ∷ passing test (suc j) k | false ↦ passing test (suc j) k ])
      go true a = (all_map (λ x h e. omega (arith, h.from_on)) (passing test (suc j) k) (all_passing (suc j) k), a)
      go false a = a

  -- one of the posts from j on that is not j, as one of those behind it
  behind : (j k x : ℕ) → Accepted test j (suc k) x → x ≢ j → Accepted test (suc j) k x
  behind j k x a ne = record { passes = a.passes; from_on = omega (arith, a.from_on, ne); before = omega (arith, a.before) }

  pub passing_most : (j k : ℕ) (l : List ℕ) → Distinct l → All (Accepted test j k) l → length l ≤ length (passing test j k)
  unfolding passing
  passing_most j zero [] d a = omega arith
  passing_most j zero (x ∷ l) d a = absurd (omega (arith, a.0.from_on, a.0.before))
  passing_most j (suc k) l d a = go (test j) refl (passing_most (suc j) k)
    where
      go : (b : Bool) → test j ≡ b
          → ((m : List ℕ) → Distinct m → All (Accepted test (suc j) k) m → length m ≤ length (passing test (suc j) k))
          → length l ≤ length {A = ℕ} (elim b as (λ z. List ℕ) [ true ↦ j ∷ passing test (suc j) k | false ↦ passing test (suc j) k ])
      go true e rest =
          let o = others_distinct j l d in
          let h = rest (others j l) o.0 (all_zip (behind j k) (others j l) (others_all j (Accepted test j (suc k)) l a) o.1) in
          omega (arith, others_length j l)
      go false e rest = rest l d (all_map (λ x h. behind j k x h (λ q. not_both (sym e ∙ ap test (sym q) ∙ h.passes))) l a)

  module _ (f : ℕ → ℕ) where
    abbrev Has : ℕ → List ℕ → Type 0
    Has x l = Given x (f x) l (map f l)

    pub given_passing : (j k x : ℕ) → Accepted test j k x → Has x (passing test j k)
    unfolding passing
    given_passing j zero x a = absurd (omega (arith, a.from_on, a.before))
    given_passing j (suc k) x a = go (test j) refl (ℕ_discrete j x) (λ ne. given_passing (suc j) k x (behind j k x a (λ e. ne (sym e))))
      where
        go : (b : Bool) → test j ≡ b → Dec (j ≡ x) → (j ≢ x → Has x (passing test (suc j) k))
            → Has x (elim b as (λ z. List ℕ) [ true ↦ j ∷ passing test (suc j) k | false ↦ passing test (suc j) k ])
        go true e (yes g) h = inl (g, ap f g)
        go true e (no g) h = inr (h g)
        go false e (yes g) h = absurd (not_both (sym e ∙ ap test g ∙ a.passes))
        go false e (no g) h = h g
