-- Who calls for an opening: a post of the station that the row's set has, and no other.
use Prim.Native.Nat.{ℕ, ◌≤◌}
use mathlib.Core.Path.{◌≡◌, refl, ap}
use mathlib.Core.Bool.{Bool, true, false, not, ◌||◌, cond}
use native.Mathlib.Omega.{arith}
use borrow.Author.Tests.{le-ltb, ltb-false}
use lib.Dec.{ltb}
use Rattle.secrecy.specs.Callers.{WhoCalls}

differ : {A : Type 0} → false ≡ true → A
differ e = let z : ◌≡◌ {A = ℕ} 1 0 = ap (λ (b : Bool). cond b 0 1) e in absurd (omega (arith, z))

module _ (n c : ℕ) (has : Bool) where
  inside : (a b h : Bool) → ltb c 1 ≡ a → ltb n c ≡ b → has ≡ h → not ((a || b) || not h) ≡ true → (1 ≤ c) × (c ≤ n) × (has ≡ true)
  inside true b h qa qb qh e = differ e
  inside false true h qa qb qh e = differ e
  inside false false false qa qb qh e = differ e
  inside false false true qa qb qh e = (ltb-false c 1 qa, ltb-false n c qb, qh)

pub who_calls : WhoCalls
who_calls plan X x =
    record {
      by_post = λ e.
          inside plan.n x.caller (X.has x.r x.caller) (ltb x.caller 1) (ltb plan.n x.caller) (X.has x.r x.caller) refl refl
          refl e;
      post_calls = λ h. rw (le-ltb x.caller 1 h.0, le-ltb plan.n x.caller h.1, h.2);
    }
