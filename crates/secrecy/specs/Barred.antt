-- Document 02, (xi): "A row whose set bars each caller adds nothing to the opened numbers by which lists of secrets must agree." It is a
-- consequence, not a rule: a message that is barred is refused. Proved in proofs/Barred.antt.
use Rattle.std.specs.Prelude.{ℕ, ◌<◌, List, [], ◌∷◌}
use Rattle.field.specs.Modulus.{p}
use Rattle.runs.specs.Draws.{Plan, Draw, IsRaw, Sound}
use Rattle.runs.specs.Callers.{Sets, all_posts}
use Rattle.runs.specs.Orders.{Asked}
use Rattle.secrecy.specs.Steps.{Secrets, Item}
use Rattle.secrecy.specs.Seen.{Entry, Seen}
use Rattle.secrecy.specs.Waiting.{Waiting, none_waiting, waiting_after, comes_of}
use Rattle.secrecy.specs.Rules.{SameAnswers, Rules, refusal_of}
use Rattle.secrecy.specs.Book.{Book, blank, Agrees, booked_by, Agree}
use Rattle.secrecy.specs.Claim.{Shows}

-- Document 01: "A number agrees when, at each opening message not refused, its row's place is the same under both lists of secrets." Of
-- every such message, whoever called.
abbrev pub AgreeAll : Secrets → Secrets → List Item → List Entry → Waiting → Book → Book → Type 0
AgreeAll u u' [] es w b b' = Unit {0}
AgreeAll u u' (o ∷ os) [] w b b' = Unit {0}
AgreeAll u u' (o ∷ os) (e ∷ es) w b b' =
    Asked (λ c. Agrees c (refusal_of e) b b') (comes_of w o)
    × AgreeAll u u' os es (waiting_after o (refusal_of e) w) (booked_by u (comes_of w o) (refusal_of e) b) (booked_by u' (comes_of w o) (refusal_of e) b')

-- What document 01 asks is enough for demand 3's premise, which passes over barred callers ..
abbrev pub AllIsEnough : Type 0
AllIsEnough =
    (plan : Plan) (u u' : Secrets) (os : List Item) (es : List Entry) (w : Waiting) (X : Sets) (b b' : Book)
    → AgreeAll u u' os es w b b' → Agree plan u u' os es w X b b'

-- .. and in a record that some draw shows these have nothing to add.
abbrev pub BarredAddNothing : Type 0
BarredAddNothing =
    (plan : Plan) (group : List ℕ) (rows : ℕ → List ℕ) (os : List Item) (u u' : Secrets) (R : Seen) → Sound plan
    → ((r : ℕ) → IsRaw (plan.raw r) → u r < p) → SameAnswers R.entries → Rules plan os R.entries R.deals none_waiting
    → (d : Draw) → Shows plan group rows os u R d
    → Agree plan u u' os R.entries none_waiting all_posts blank blank → AgreeAll u u' os R.entries none_waiting blank blank
