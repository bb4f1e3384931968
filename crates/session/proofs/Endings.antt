-- The two ways in which a call on a session ends, as its answer shows them.
use Prim.Native.Nat.{ℕ, zero, suc, ◌+◌, ◌*◌, ◌≤◌, ◌<◌}
use mathlib.Core.Path.{◌≡◌, refl, ◌∙◌, ap, ap₂}
use mathlib.Core.List.{List}
use native.Mathlib.Omega.{arith}
use borrow.Author.Rules.{rules}
use mir.Syntax.{w8, w64}
use mir.Val.{Fits}
use Rattle.shape.specs.Bounds.{row_count_of, last_row_at, last_triple}
use Rattle.refusal.specs.Refusal.{outcome}
use Rattle.refusal.proofs.Endings.{refused, accepted}
use Rattle.session.specs.declared.Session.{Session}
use Rattle.session.specs.declared.Answer.{Answer}
use Rattle.shape.specs.declared.Points.{Points}
use Rattle.refusal.specs.Refusal.{first}
use Rattle.session.specs.Sessions.{with_marks, as_many_of, no_points, session_of, session_tests, created, holding, answer}
use Rattle.session.specs.Between.{Allows}

pub refused_answer : (r x value : ℕ) (s new old : Session) → r ≡ x → (r ≡ 0 → ⊥) → s ≡ old → holding r 0 s ≡ answer x value new old
refused_answer r x value s new old e n q =
    ap₂ (λ (k : ℕ) (z : Session). holding k 0 z) e q ∙ refused r x (holding 0 value new) (holding x 0 old) e n

pub accepted_answer : (r x v value : ℕ) (s new old : Session) → r ≡ x → r ≡ 0 → v ≡ value → s ≡ new
    → holding 0 v s ≡ answer x value new old
accepted_answer r x v value s new old e z p q =
    accepted r x (holding 0 v s) (holding 0 value new) (holding x 0 old) e z (ap (λ (k : ℕ). holding 0 k s) p ∙ ap (holding 0 value) q)

-- an answer made of the refusal itself
module _ (r : ℕ) (new old : Session) where
  pub ends_accepted : r ≡ 0 → holding r 0 new ≡ answer r 0 new old
  ends_accepted z = ap (λ (k : ℕ). holding k 0 new) z ∙ accepted_answer r r 0 0 new new old refl z refl refl

  pub ends_refused : (r ≡ 0 → ⊥) → holding r 0 old ≡ answer r 0 new old
  ends_refused n = refused_answer r r 0 old new old refl n refl

  -- of a session that was made in two steps, as where two ways meet
  pub made_accepted : (s : Session) → r ≡ 0 → s ≡ new → holding r 0 s ≡ answer r 0 new old
  made_accepted s z e = ap (holding r 0) e ∙ ends_accepted z

  pub made_refused : (s : Session) → (r ≡ 0 → ⊥) → s ≡ old → holding r 0 s ≡ answer r 0 new old
  made_refused s n e = ap (holding r 0) e ∙ ends_refused n

-- the number of a check's refusal, as an answer has it
pub numbered_answer : (k r : ℕ) (s : Session) (a : Answer) → k ≡ r → holding r 0 s ≡ a → holding k 0 s ≡ a
numbered_answer k r s a e h = ap (λ (x : ℕ). holding x 0 s) e ∙ h

-- the same of a list of marks alone, where two ways meet: the one that was written, or the one that came
module _ (r : ℕ) (s : Session) (l new : List ℕ) where
  pub marks_written : r ≡ 0 → l ≡ new → holding r 0 (with_marks s l) ≡ answer r 0 (with_marks s new) s
  marks_written z e = made_accepted r (with_marks s new) s (with_marks s l) z (ap (with_marks s) e)

  pub marks_kept : (r ≡ 0 → ⊥) → l ≡ s.marks → holding r 0 (with_marks s l) ≡ answer r 0 (with_marks s new) s
  marks_kept n e = made_refused r (with_marks s new) s (with_marks s l) n (ap (with_marks s) e)

-- a new session, refused or not: 0 in every field
new_ends : (r n t post points : ℕ) (v : Points)
    → holding r 0 (session_of (outcome r n 0) (outcome r t 0) (outcome r post 0) (outcome r points 0) (outcome r v no_points))
    ≡ answer r 0 (session_of n t post points v) (session_of 0 0 0 0 no_points)
unfolding outcome
new_ends zero n t post points v = refl
new_ends (suc k) n t post points v = refl

module _ (r n t post points : ℕ) (w : Points) where
  abbrev all : ℕ → ℕ → ℕ → ℕ → Points → Answer
  all a b c d v = holding r 0 (session_of a b c d v)

  pub new_made : (a b c d : ℕ) (u v : Points) (s : Session) (y : Answer)
      → y ≡ holding r 0 s → s ≡ session_of a b c d v → a ≡ outcome r n 0 → b ≡ outcome r t 0 → c ≡ outcome r post 0 → d ≡ outcome r points 0
      → v ≡ outcome r u no_points → u ≡ as_many_of points w → r ≡ first (session_tests n t post points w) → y ≡ created n t post points w
  unfolding created
  new_made a b c d u v s y ey es ea eb ec ed ev eu er =
      ey ∙ ap (holding r 0) es ∙ ap (λ (k : ℕ). all k b c d v) ea ∙ ap (λ (k : ℕ). all (outcome r n 0) k c d v) eb
      ∙ ap (λ (k : ℕ). all (outcome r n 0) (outcome r t 0) k d v) ec ∙ ap (λ (k : ℕ). all (outcome r n 0) (outcome r t 0) (outcome r post 0) k v) ed
      ∙ ap (all (outcome r n 0) (outcome r t 0) (outcome r post 0) (outcome r points 0)) (ev ∙ ap (λ (k : Points). outcome r k no_points) eu)
      ∙ new_ends r n t post points (as_many_of points w)
      ∙ ap (λ (k : ℕ). answer k 0 (session_of n t post points (as_many_of points w)) (session_of 0 0 0 0 no_points)) er

-- a last method that is called with no refusal: what is so may be gone by, and the session is the new one
pub allowed_anyhow : (what : Type 0) → what → Allows 0 what
allowed_anyhow what h = record { allowed = λ n. h }

pub plainly : (a : Answer) (new old : Session) → a ≡ answer 0 0 new old → a ≡ holding 0 0 new
unfolding outcome
plainly a new old h = h

-- what a call's last method gave for its refusal is the call's answer
pub answered_by : (a : Answer) (r x value : ℕ) (new old : Session) → a ≡ answer r value new old → r ≡ x → a ≡ answer x value new old
answered_by a r x value new old h e = rw e at h

same : (r : ℕ) (s : Session) → holding r 0 s ≡ answer r 0 s s
unfolding outcome
same zero s = refl
same (suc r) s = refl

-- also where the session goes back as it came, refused or not
pub same_answer : (a : Answer) (r x : ℕ) (s : Session) → a ≡ holding r 0 s → r ≡ x → a ≡ answer x 0 s s
same_answer a r x s h e = answered_by a r x 0 s s (h ∙ same r s) e

pub row_allowed : (f r : ℕ) → Allows f (r ≤ last_row_at) → f ≡ 0 → r < row_count_of
row_allowed f r a z = let h = a.allowed z in omega arith

pub row_fits : (f r : ℕ) → Allows f (r ≤ last_row_at) → f ≡ 0 → Fits w8 r
row_fits f r a z = let h = a.allowed z in record { fits = omega arith }

module _ (f r : ℕ) (a : Allows f (r ≤ last_triple)) (z : f ≡ 0) where
  pub triple_allowed : r ≤ last_triple
  triple_allowed = a.allowed z

  pub first_allowed : r < row_count_of
  first_allowed = omega (arith, triple_allowed)

  pub second_allowed : r + 1 < row_count_of
  second_allowed = omega (arith, triple_allowed)

  pub third_allowed : r + 2 < row_count_of
  third_allowed = omega (arith, triple_allowed)

  pub second_fits : Fits w64 (r + 1)
  second_fits = record { fits = omega (arith, triple_allowed) }

  pub third_fits : Fits w64 (r + 2)
  third_fits = record { fits = omega (arith, triple_allowed) }

  -- where the numbers of an array of `u32` stand
  pub place_allowed : Fits w64 (r * 4)
  place_allowed = record { fits = omega (arith, triple_allowed) }

-- the same of an answer that a function of the session gave
module _ (a : Answer) (r x value : ℕ) (s new old : Session) where
  pub refused_by : a ≡ holding r 0 s → r ≡ x → (r ≡ 0 → ⊥) → s ≡ old → a ≡ answer x value new old
  refused_by h e n q = h ∙ refused_answer r x value s new old e n q

  pub accepted_by : (v : ℕ) → a ≡ holding 0 v s → r ≡ x → r ≡ 0 → v ≡ value → s ≡ new → a ≡ answer x value new old
  accepted_by v h e z p q = h ∙ accepted_answer r x v value s new old e z p q

pub ruleset endings = (rules, refused, accepted, refused_by, accepted_by, answered_by)
