-- What demand 3 asks of a plan, a group, secrets and a record, in figures: where it is so its premises hold, and nothing else is asked. With a bound
-- too low, or one more thing asked, the theorems would say less and stay proved. Proved in proofs/Enough.antt.
use Rattle.std.specs.Prelude.{ℕ, ◌≤◌, ◌<◌, ◌≡◌, true, ◌⊎◌, List, length}
use Rattle.runs.specs.Draws.{Plan, IsRaw, by}
use Rattle.runs.specs.Calls.{Among}
use Rattle.runs.specs.Callers.{all_posts}
use Rattle.secrecy.specs.Steps.{Secrets, Item}
use Rattle.secrecy.specs.Seen.{Entry, Seen}
use Rattle.secrecy.specs.Waiting.{none_waiting}
use Rattle.secrecy.specs.Rules.{Rules}
use Rattle.secrecy.specs.Book.{blank, Agree}
use Rattle.secrecy.specs.Claim.{Premises}

-- "n is the number of posts, 2 to 255" (02, (ii)), "t is 1 to n − 1", one check point a post or two (02, (ix)), "96 rows, 0 to 95", "r at most 93".
pub record Station (plan : Plan) : Type 0 where
  pub posts : (2 ≤ plan.n) × (plan.n ≤ 255)
  pub degree : (1 ≤ plan.t) × (plan.t < plan.n)
  pub points : (plan.points ≡ 1) ⊎ (plan.points ≡ 2)
  pub raws : (r : ℕ) → IsRaw (plan.raw r) → r ≤ 95
  pub triples : (r : ℕ) → plan.triple r ≡ true → r ≤ 93

-- "every group of at most t posts"
pub record AtMost (plan : Plan) (group : List ℕ) : Type 0 where
  pub few : length group ≤ plan.t
  pub members : (i : ℕ) → Among i group → (1 ≤ i) × (i ≤ plan.n)

-- every post got the same refusal of each order
abbrev pub Alike : List Entry → Type 0
Alike es = (e : Entry) → Among e es → (x y : ℕ) → Among x e.refusals → Among y e.refusals → x ≡ y

abbrev pub DemandAsks : Type 0
DemandAsks =
    (plan : Plan) (group : List ℕ) (u u' : Secrets) (os : List Item) (R : Seen) → Station plan → AtMost plan group
    → ((r : ℕ) → IsRaw (plan.raw r) → (u r < 2147483647) × (u' r < 2147483647))
    → ((r dealer : ℕ) → plan.raw r ≡ by dealer → Among dealer group → u r ≡ u' r)
    → Alike R.entries
    → Rules plan os R.entries R.deals none_waiting
    → Agree plan u u' os R.entries none_waiting all_posts blank blank
    → Premises plan group u u' os R
