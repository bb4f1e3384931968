-- Document 02, (xi): "A row whose set bars each caller adds nothing to the opened numbers by which lists of secrets must agree." Which posts
-- a row's set has follows from the calls and from which of them are refused, as the plain book's numbers do (runs, Callers.antt).
use Rattle.std.specs.Prelude.{ℕ, ◌≤◌, ◌≡◌, Bool, true, not, ◌||◌}
use Rattle.refusal.specs.Conditions.{outside}
use Rattle.runs.specs.Draws.{Plan}
use Rattle.runs.specs.Outline.{ForMessage, load_row_of, load_triple_of, deal, message, opening, linear, masks, collect, multiply, relation_masks_of, relation_finish_of, access}
use Rattle.runs.specs.Callers.{Sets}
use Rattle.secrecy.specs.Steps.{Fixed, Step}

-- Whether a step opens nothing because its row bars the caller.
abbrev pub barred_by : Plan → Sets → ℕ → ℕ → Bool
barred_by plan X r caller = outside 1 plan.n caller || not (X.has r caller)

abbrev pub called : Plan → Sets → Step → Bool
called plan X (message x) = not (barred_by plan X x.r x.caller)
called plan X (load_row_of x) = true
called plan X (load_triple_of x) = true
called plan X (deal x) = true
called plan X (opening x) = true
called plan X (linear x) = true
called plan X (masks x) = true
called plan X (collect x) = true
called plan X (multiply x) = true
called plan X (relation_masks_of x) = true
called plan X (relation_finish_of x) = true
called plan X (access x) = true

-- A message is called for exactly where its caller is a post of the station that the row's set has. (With every message called for, the claims below
-- would ask of a barred row what they ask of others.)
pub record CalledMeans (plan : Plan) (X : Sets) (x : ForMessage Fixed) : Type 0 where
  pub by_post : called plan X (message x) ≡ true → (1 ≤ x.caller) × (x.caller ≤ plan.n) × (X.has x.r x.caller ≡ true)
  pub post_calls : (1 ≤ x.caller) × (x.caller ≤ plan.n) × (X.has x.r x.caller ≡ true) → called plan X (message x) ≡ true

abbrev pub WhoCalls : Type 0
WhoCalls = (plan : Plan) (X : Sets) (x : ForMessage Fixed) → CalledMeans plan X x
