-- A test of every number below k.
use Prim.Native.Nat.{ℕ, zero, suc, ◌<◌}
use mathlib.Core.Path.{◌≡◌, refl, ap₂}
use mathlib.Core.Bool.{Bool, true, false, ◌&&◌}
use native.Mathlib.Omega.{arith}
use Rattle.accepting.specs.Accepting.{every_below}

and_true : (a b : Bool) → (a && b) ≡ true → (a ≡ true) × (b ≡ true)
and_true true b e = (refl, e)
and_true false b e = (e, cc)

pub every_at : (k : ℕ) (test : ℕ → Bool) (x : ℕ) → x < k → every_below k test ≡ true → test x ≡ true
every_at zero test x l e = absurd (omega arith)
every_at (suc k) test zero l e = (and_true (test 0) _ e).0
every_at (suc k) test (suc x) l e = every_at k (λ h. test (suc h)) x (omega arith) (and_true (test 0) _ e).1

pub every_is : (k : ℕ) (test : ℕ → Bool) → ((x : ℕ) → x < k → test x ≡ true) → every_below k test ≡ true
every_is zero test h = refl
every_is (suc k) test h = ap₂ ◌&&◌ (h 0 (omega arith)) (every_is k (λ x. test (suc x)) (λ x l. h (suc x) (omega arith)))
