-- Tests that stand in the order of document 01's table decide the refusal, and what a call leaves.
use Prim.Native.Nat.{ℕ, zero, suc}
use mathlib.Core.Path.{◌≡◌, refl, sym, subst}
use mathlib.Core.List.{List, [], ◌∷◌}
use native.Mathlib.Omega.{arith}
use Rattle.refusal.specs.Refusal.{Test, ◌when◌, first, outcome, Ordered, Numbered, Keeps}
use Rattle.refusal.specs.Claims.{OrderDecides, OutcomeKeeps}
use Rattle.refusal.proofs.Laws.{all_fail, not_refused, first_applies, first_least}
use Rattle.refusal.proofs.Endings.{refused, accepted}

numbered : (k : ℕ) (ts : List Test) → Ordered k ts → Numbered ts
numbered k [] o = tt
numbered k (zero when b ∷ ts) o = let h = o.1 in absurd (omega arith)
numbered k (suc j when b ∷ ts) o = numbered (suc j) ts o.2

pub decides : OrderDecides
decides k ts o =
    record {
      accepts = all_fail ts (numbered k ts o);
      only = not_refused ts;
      applies = first_applies k ts o;
      least = first_least k ts o;
    }

pub keeps : OutcomeKeeps
keeps A k ts o new old =
    record {
      decided = decides k ts o;
      untouched = λ n. sym (refused (first ts) (first ts) new old refl n);
      done = λ z. sym (accepted (first ts) (first ts) new new old refl z refl);
    }

-- the same, of a call whose own tests are those of a table; what a refused call hands back may say its refusal
pub keeps_by : {A : Type 0} {tests table : List Test} → tests ≡ table → Ordered 1 table → (new : A) (old : ℕ → A)
    → Keeps table new (old (first table)) (outcome (first tests) new (old (first tests)))
keeps_by {A} {tests} {table} e o new old =
    subst (λ (own : List Test). Keeps table new (old (first table)) (outcome (first own) new (old (first own)))) (sym e)
    (keeps A 1 table o new (old (first table)))
