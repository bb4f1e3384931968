-- What a refused change leaves, and what one that is not.
use Prim.Native.Nat.{ℕ, zero, suc}
use mathlib.Core.Path.{◌≡◌, refl, ap, ◌∙◌}
use native.Mathlib.Omega.{arith}
use Rattle.refusal.specs.Refusal.{outcome}
use Rattle.session.specs.declared.Session.{Session}
use Rattle.session.specs.declared.Answer.{Answer}
use Rattle.session.specs.Sessions.{answer, holding}
use Rattle.street_states.specs.States.{settled}

module _ (s : Session) (a : Answer) where
  old_kept : (k : ℕ) (new : Session) → (k ≡ 0 → ⊥) → answer k 0 s s ≡ answer k 0 new s
  unfolding outcome
  old_kept zero new m = absurd (m refl)
  old_kept (suc j) new m = refl

  old_session : (k : ℕ) (new : Session) → (k ≡ 0 → ⊥) → s ≡ (answer k 0 new s).session
  unfolding outcome
  old_session zero new m = absurd (m refl)
  old_session (suc j) new m = refl

  new_session : (k : ℕ) (new : Session) → k ≡ 0 → new ≡ (answer k 0 new s).session
  unfolding outcome
  new_session zero new z = refl
  new_session (suc j) new z = absurd (omega (arith, z))

  pub settle_old : (r : Answer) → (a.refusal ≡ 0 → ⊥) → r ≡ holding a.refusal 0 s → (settled s r ≡ settled s a) × (r.session ≡ (settled s a).session)
  settle_old r n e =
      (ap (settled s) e ∙ old_kept a.refusal a.session n, ap (λ (z : Answer). z.session) e ∙ old_session a.refusal a.session n)

  pub settle_new : a.refusal ≡ 0 → (settled s a ≡ settled s a) × (a.session ≡ (settled s a).session)
  settle_new z = (refl, new_session a.refusal a.session z)
