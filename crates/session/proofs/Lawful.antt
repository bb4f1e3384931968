-- What every call on a session keeps to: one theorem, of which each call is an instance; and a new session.
use Prim.Native.Nat.{ℕ}
use mathlib.Core.Path.{◌≡◌, refl, sym, subst}
use mathlib.Core.Bool.{cond}
use mathlib.Core.List.{List}
use native.Mathlib.Omega.{arith}
use lib.Dec.{eqb}
use Rattle.refusal.specs.Refusal.{Test, first, outcome, Ordered}
use Rattle.refusal.proofs.Endings.{refused, accepted}
use Rattle.refusal.proofs.Decided.{decides, keeps_by}
use Rattle.session.specs.declared.Session.{Session}
use Rattle.session.specs.Sessions.{holding, answer, created}
use Rattle.session.specs.Law.{Lawful}
use Rattle.session.specs.Claims.{CallsLawful, fresh_session, NewLawful}
use Rattle.session.proofs.Endings.{refused_answer, accepted_answer}
use Rattle.session.proofs.Tables.{session_table}

pub lawful : CallsLawful
lawful tests o value new old written before =
    let x = first tests in
    record {
      refusal = decides 1 tests o;
      untouched = λ n. (sym (refused_answer x x value old new old refl n refl), sym (refused x x written before refl n));
      done = λ z. (sym (accepted_answer x x value value new new old refl z refl refl), sym (accepted x x written written before refl z refl));
    }

-- the same, of a call whose own tests are those of a table
pub lawful_by : {tests table : List Test} → tests ≡ table → Ordered 1 table → (value : ℕ) (new old : Session) (written before : List ℕ)
    → Lawful table value new old written before (answer (first tests) value new old) (outcome (first tests) written before)
lawful_by {tests} {table} e o value new old written before =
    subst (λ (own : List Test). Lawful table value new old written before (answer (first own) value new old) (outcome (first own) written before)) (sym e)
    (lawful table o value new old written before)

pub new_lawful : NewLawful
unfolding created
new_lawful n t post points w =
    keeps_by (session_table n t post points w) (omega arith)
    (holding 0 0 (fresh_session n t post points w.first (cond (eqb points 2) w.second 0))) (λ k. holding k 0 (fresh_session 0 0 0 0 0 0))
