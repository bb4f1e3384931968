-- `as_many` meets its contract.
use Prim.Native.Nat.{ℕ}
use mathlib.Core.Path.{◌≡◌, sym, ap}
use mathlib.Core.Bool.{Bool, cond}
use borrow.Author.Rules.{rules}
use borrow.Author.Tests.{eq-eqb, ne_eqb}
use Rattle.shape.specs.declared.Points.{Points}
use Rattle.shape.specs.Bounds.{most_points}
use Rattle.session.specs.Sessions.{as_many_of}
use Rattle.session.proofs.as_many.Statement.{statement}
use Rattle.session.proofs.as_many.Tie as tie

both : (k : ℕ) (w : Points) → k ≡ most_points → w ≡ as_many_of k w
both k w e = sym (ap (λ (b : Bool). record { first = w.first; second = cond b w.second 0 }) (eq-eqb k most_points e))

one : (k : ℕ) (w : Points) → (k ≡ most_points → ⊥) → ◌≡◌ {A = Points} (record { first = w.first; second = 0 }) (as_many_of k w)
one k w ne = sym (ap (λ (b : Bool). record { first = w.first; second = cond b w.second 0 }) (ne_eqb k most_points ne))

pub as_many_spec : {M : Type 1} → statement M
as_many_spec = tie.close (tie.spec (λ c. search (rules, both)) (λ c. search (rules, one)))
