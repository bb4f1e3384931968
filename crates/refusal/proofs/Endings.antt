-- The two ways in which a call ends, and the sets of lemmas that close the needs of code that refuses.
use Prim.Native.Nat.{ℕ, zero, suc}
use mathlib.Core.Path.{◌≡◌, refl, sym, ◌∙◌}
use native.Mathlib.Omega.{arith}
use borrow.Author.Rules.{rules}
use borrow.Author.Tests.{lt-ltb, le-ltb, eq-eqb, ne_eqb}
use Rattle.refusal.specs.Refusal.{or_else, outcome}

pub refused : {A : Type 0} (r x : ℕ) (new old : A) → r ≡ x → (r ≡ 0 → ⊥) → old ≡ outcome x new old
unfolding outcome
refused r zero new old e n = absurd (n e)
refused r (suc k) new old e n = refl

pub accepted : {A : Type 0} (r x : ℕ) (v new old : A) → r ≡ x → r ≡ 0 → v ≡ new → v ≡ outcome x new old
unfolding outcome
accepted r zero v new old e z q = q
accepted r (suc k) v new old e z q = let f : suc k ≡ 0 = sym e ∙ z in absurd (omega arith)

pub or_else_first : (a b : ℕ) → (a ≡ 0 → ⊥) → a ≡ or_else a b
or_else_first zero b n = absurd (n refl)
or_else_first (suc k) b n = refl

-- tests of a specification, from the branches of the code
pub ruleset tests = (rules, lt-ltb, le-ltb, eq-eqb, ne_eqb)
