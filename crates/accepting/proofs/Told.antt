-- A post is accepted exactly where it sent a polynomial that has the check value.
use Prim.Native.Nat.{ℕ, ◌+◌, ◌*◌, ◌-◌, ◌<◌}
use mathlib.Core.Path.{◌≡◌, refl}
use mathlib.Core.Bool.{Bool, true, false, cond}
use mathlib.Core.List.{List}
use native.Mathlib.Omega.{arith}
use borrow.Author.Tests.{eqb-true, eqb-false, eq-eqb, ne_eqb}
use lib.Dec.{eqb}
use lib.ListN.{length, get_or}
use Rattle.poly.specs.Polynomial.{value}
use Rattle.shape.specs.Row.{point_at}
use Rattle.session.specs.declared.Party.{Party}
use Rattle.blocks.specs.Blocks.{sent}
use Rattle.accepting.specs.Accepting.{every_below, matches, accepts, share}
use Rattle.accepting.specs.Claims.{AcceptedBy, AcceptanceMeans}
use Rattle.accepting.proofs.Every.{every_at, every_is}

module _ (q : Party) (row blocks : List ℕ) (j : ℕ) where
  abbrev part : List ℕ
  part = sent q row blocks j

  abbrev check : ℕ → ℕ
  check h = get_or row (q.shape.points * q.shape.t + 1 + ((j - 1) * q.shape.points + h)) 0

  abbrev points : ℕ
  points = q.shape.points

  there_and_passing : accepts q row blocks j ≡ true → (0 < length part) × (every_below points (matches q row part j) ≡ true)
  unfolding accepts
  there_and_passing e = go (eqb (length part) 0) refl e
    where
      go : (b : Bool) → eqb (length part) 0 ≡ b → cond b false (every_below points (matches q row part j)) ≡ true
          → (0 < length part) × (every_below points (matches q row part j) ≡ true)
      go true f e = let z : ◌≡◌ {A = ℕ} 0 1 = cc in absurd (omega arith)
      go false f e = let n : length part ≡ 0 → ⊥ = eqb-false (length part) 0 f in (omega arith, e)

  equal : accepts q row blocks j ≡ true → (h : ℕ) → h < points → value part (point_at q.points h) ≡ check h
  equal e h l = eqb-true (value part (point_at q.points h)) (check h) (every_at points (matches q row part j) h l (there_and_passing e).1)

  passing : 0 < length part → ((h : ℕ) → h < points → value part (point_at q.points h) ≡ check h) → accepts q row blocks j ≡ true
  unfolding accepts
  passing long e =
      let n : length part ≡ 0 → ⊥ = omega arith in
      rw (ne_eqb (length part) 0 n)
      (every_is points (matches q row part j) (λ h l. eq-eqb (value part (point_at q.points h)) (check h) (e h l)))

  told : AcceptedBy q row blocks j
  unfolding share
  told = record { there = λ e. (there_and_passing e).0; equals = equal; passes = passing; share_is = refl }

pub acceptance_means : AcceptanceMeans
acceptance_means q row blocks j = told q row blocks j
