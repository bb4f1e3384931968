-- Demand 3, by counts: where those draws that show the record under one list of secrets are matched with those that show it
-- under another, there are as many of the one as of the other.
use Prim.Native.Nat.{ℕ}
use mathlib.Core.Logic.{◌↔◌}
use mathlib.Core.List.{List}
use Rattle.runs.specs.Draws.{Plan, Draw}
use Rattle.secrecy.specs.Steps.{Secrets, Item}
use Rattle.secrecy.specs.Seen.{Seen}
use Rattle.secrecy.specs.Claim.{Shows, Matching, Secrecy}
use Rattle.secrecy.specs.Count.{draws, shows, EqualCounts}
use Rattle.secrecy.proofs.Counting.{Passes, matched_counts}
use Rattle.secrecy.proofs.Tests.{same_of_shows, shows_of_same}
use Rattle.secrecy.proofs.Listed.{all_draws}

-- a matching of those with P' with those with Q', where P' is P and Q' is Q
pub rematched : {A : Type 0} {P Q P' Q' : A → Type 0} → ((a : A) → P' a ↔ P a) → ((a : A) → Q' a ↔ Q a) → Matching P Q
    → Matching P' Q'
rematched p q m =
    record {
      to = m.to;
      from = m.from;
      to_ok = λ a h. (q (m.to a)).1 (m.to_ok a ((p a).0 h));
      from_ok = λ a h. (p (m.from a)).1 (m.from_ok a ((q a).0 h));
      from_to = λ a h. m.from_to a ((p a).0 h);
      to_from = λ a h. m.to_from a ((q a).0 h);
    }

-- the listed draws that pass the test are the draws that show the record
passes_shows : (plan : Plan) (group : List ℕ) (rows : ℕ → List ℕ) (cs : List Item) (u : Secrets) (R : Seen) (d : Draw)
    → Passes (shows plan group rows cs u R) (draws plan) d ↔ Shows plan group rows cs u R d
passes_shows plan group rows cs u R d = (
  (λ h. record { is_draw = (all_draws plan).1 d h.0; same = same_of_shows plan group rows cs u R d h.1 }),
  (λ s. ((all_draws plan).0 d s.is_draw, shows_of_same plan group rows cs u R d s.same)),
)

pub equal_counts : Secrecy → EqualCounts
equal_counts secrecy plan group rows cs u u' R premises =
    matched_counts (draws plan) (shows plan group rows cs u R) (shows plan group rows cs u' R) (all_draws plan).2
    (rematched (passes_shows plan group rows cs u R) (passes_shows plan group rows cs u' R)
    (secrecy plan group rows cs u u' R premises))
