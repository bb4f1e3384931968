-- What the matched draw has to do with the first: every vector drawn differs by a multiple of the group's kernel, so the group
-- sees no difference, and no dealer's number changes.
use Prim.Native.Nat.{ℕ, ◌≤◌, ◌<◌}
use mathlib.Core.Path.{◌≡◌}
use mathlib.Core.Bool.{true}
use mathlib.Core.List.{List}
use lib.ListN.{length}
use Rattle.field.specs.Element.{Element, element}
use Rattle.poly.specs.Counting.{All}
use Rattle.shape.specs.Bounds.{row_count_of}
use Rattle.refusal.specs.Conditions.{any_beyond}
use Rattle.vectors.specs.Vector.{Vector}
use Rattle.runs.specs.Draws.{Plan, Draw, IsRaw, point_of, raw_pack, triple_pack, plan_shape}
use Rattle.runs.proofs.Marks.{raw_vector, vector_a, vector_b, vector_ab}
use Rattle.secrecy.specs.Steps.{Secrets, dealt_number}
use Rattle.secrecy.proofs.Near.{gap, Near, Unseen}

-- by how much the two factors of a triple's product differ under the two lists of secrets
pub record Gaps : Type 0 where
  pub factor_a_is : Element
  pub factor_b_is : Element

-- two packs that no check tells apart
pub record Alike (xs ys : List ℕ) : Type 0 where
  pub long : length xs ≡ length ys
  pub low : any_beyond xs ≡ any_beyond ys

module _ (plan : Plan) (group : List ℕ) (d d' : Draw) (u u' : Secrets) (K : Vector) (Δ : ℕ → Gaps) where
  abbrev Nearly : Vector → Vector → Type 0
  Nearly = Near (plan_shape plan) (point_of plan d) K

  pub record Link : Type 0 where
    pub points : point_of plan d' ≡ point_of plan d
    pub near_raw : (r : ℕ) → r < row_count_of → IsRaw (plan.raw r) → Nearly (raw_vector plan d r) (raw_vector plan d' r)
    pub near_a : (r : ℕ) → r < row_count_of → plan.triple r ≡ true → Nearly (vector_a plan d r) (vector_a plan d' r)
    pub near_b : (r : ℕ) → r < row_count_of → plan.triple r ≡ true → Nearly (vector_b plan d r) (vector_b plan d' r)
    pub near_ab : (r : ℕ) → r < row_count_of → plan.triple r ≡ true → Nearly (vector_ab plan d r) (vector_ab plan d' r)
    pub gap_a : (r : ℕ) → r < row_count_of → plan.triple r ≡ true → gap (vector_a plan d r) (vector_a plan d' r) ≡ (Δ r).factor_a_is
    pub gap_b : (r : ℕ) → r < row_count_of → plan.triple r ≡ true → gap (vector_b plan d r) (vector_b plan d' r) ≡ (Δ r).factor_b_is
    pub deals : (r : ℕ) → dealt_number plan d u r ≡ dealt_number plan d' u' r
    pub raw_alike : (i k : ℕ) → i ≤ plan.n → Alike (raw_pack plan d i k) (raw_pack plan d' i k)
    pub triple_alike : (i k : ℕ) → i ≤ plan.n → Alike (triple_pack plan d i k) (triple_pack plan d' i k)
    pub raw_group : All (λ i. (k : ℕ) → raw_pack plan d i k ≡ raw_pack plan d' i k) group
    pub triple_group : All (λ i. (k : ℕ) → triple_pack plan d i k ≡ triple_pack plan d' i k) group
    pub unseen : All (λ i. Unseen (plan_shape plan) i (point_of plan d i) K) group
