-- When a post is accepted and what its share is, told by the places of the row's numbers; proved in proofs/Told.antt.
use Rattle.std.specs.Prelude.{ℕ, ◌+◌, ◌*◌, ◌-◌, ◌<◌, ◌≡◌, true, List, length, get_or}
use Rattle.field.specs.Arithmetic.{difference}
use Rattle.poly.specs.Polynomial.{value}
use Rattle.shape.specs.Row.{point_at}
use Rattle.session.specs.declared.Party.{Party}
use Rattle.blocks.specs.Blocks.{sent}
use Rattle.accepting.specs.Accepting.{accepts, share}

-- "Post j is accepted when its polynomial at wi equals the check value for j", which stands behind the coefficients; with two
-- points "A sender is accepted when both values match" (02, (ix)); "an empty part for an absent block" is no polynomial. "Its share is mj minus
-- the constant coefficient": the public sums stand behind the check values.
pub record AcceptedBy (q : Party) (row blocks : List ℕ) (j : ℕ) : Type 0 where
  pub there : accepts q row blocks j ≡ true → 0 < length (sent q row blocks j)
  pub equals : accepts q row blocks j ≡ true → (h : ℕ) → h < q.shape.points
      → value (sent q row blocks j) (point_at q.points h) ≡ get_or row (q.shape.points * q.shape.t + 1 + ((j - 1) * q.shape.points + h)) 0
  pub passes : 0 < length (sent q row blocks j)
      → ((h : ℕ) → h < q.shape.points
      → value (sent q row blocks j) (point_at q.points h) ≡ get_or row (q.shape.points * q.shape.t + 1 + ((j - 1) * q.shape.points + h)) 0)
      → accepts q row blocks j ≡ true
  pub share_is : share q row blocks j
      ≡ difference (get_or row (q.shape.points * q.shape.t + 1 + q.shape.points * q.shape.n + (j - 1)) 0) (get_or (sent q row blocks j) 0 0)

abbrev pub AcceptanceMeans : Type 0
AcceptanceMeans = (q : Party) (row blocks : List ℕ) (j : ℕ) → AcceptedBy q row blocks j
