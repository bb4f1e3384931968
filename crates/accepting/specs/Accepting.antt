-- Document 01, "Calls on a session", Open: which posts a party accepts for a row, and the number that they bring out.
use Rattle.std.specs.Prelude.{ℕ, zero, suc, ◌≡◌, Bool, true, false, not, cond, ◌&&◌, List, [], ◌∷◌, map, ltb, eqb, length, take, drop, get_or}
use Rattle.field.specs.Arithmetic.{difference}
use Rattle.poly.specs.Polynomial.{value}
use Rattle.poly.specs.Interpolation.{interpolated}
use Rattle.agreement.specs.Agreement.{all_agree}
use Rattle.shape.specs.Lengths.{needed}
use Rattle.shape.specs.Row.{point_at, check_value, public_sum_of}
use Rattle.session.specs.declared.Party.{Party}
use Rattle.blocks.specs.Blocks.{sent}

-- test 0 to test (k - 1)
abbrev pub every_below : ℕ → (ℕ → Bool) → Bool
every_below zero test = true
every_below (suc k) test = test 0 && every_below k (λ h. test (suc h))

-- a polynomial's value at the own h-th point is the check value for j
abbrev pub matches : Party → List ℕ → List ℕ → ℕ → ℕ → Bool
matches q row part j h = eqb (value part (point_at q.points h)) (check_value q.shape row j h)

-- "Post j is accepted when its polynomial at wi equals the check value for j"; with two points "when both values match"
-- (document 02, (ix)). An empty part is not.
unfoldable pub accepts : Party → List ℕ → List ℕ → ℕ → Bool
accepts q row blocks j =
    cond (eqb (length (sent q row blocks j)) 0) false (every_below q.shape.points (matches q row (sent q row blocks j) j))

-- All accepted posts: of the k posts from j on, those that pass the test.
unfoldable pub passing : (ℕ → Bool) → ℕ → ℕ → List ℕ
passing test j zero = []
passing test j (suc k) = elim (test j) [ true ↦ j ∷ passing test (suc j) k | false ↦ passing test (suc j) k ]

abbrev pub accepted : Party → List ℕ → List ℕ → List ℕ
accepted q row blocks = passing (accepts q row blocks) 1 q.shape.n

-- "Its share is mj minus the constant coefficient." It is Shamir's share. The source (docs/PROTOCOL.md), section 3.1: "the share of
-- a player is f(i) and vi(x) is the verification polynomial for this share".
unfoldable pub share : Party → List ℕ → List ℕ → ℕ → ℕ
share q row blocks j = difference (public_sum_of q.shape row j) (get_or (sent q row blocks j) 0 0)

-- "The walk from post 1 upward stops at the post that completes t+1 accepted ones": of the k posts from j on, the first `need`
-- that pass the test.
unfoldable pub walk : (ℕ → Bool) → ℕ → ℕ → ℕ → List ℕ
walk test j zero need = []
walk test j (suc k) zero = []
walk test j (suc k) (suc need) =
    elim (test j) [ true ↦ j ∷ walk test (suc j) k need | false ↦ walk test (suc j) k (suc need) ]

abbrev pub accepted_posts : Party → List ℕ → List ℕ → List ℕ
accepted_posts q row blocks = walk (accepts q row blocks) 1 q.shape.n (needed q.shape)

-- The law of the walk: of all accepted posts it takes the first t+1.
abbrev pub TakesFirst : Type 0
TakesFirst = (q : Party) (row blocks : List ℕ) → accepted_posts q row blocks ≡ take (needed q.shape) (accepted q row blocks)

-- 9: "fewer than t+1 accepted"
abbrev pub too_few_of : Party → List ℕ → List ℕ → Bool
too_few_of q row blocks = ltb (length (accepted_posts q row blocks)) (needed q.shape)

-- "the number is the interpolation of those at 0"
unfoldable pub opened : Party → List ℕ → List ℕ → ℕ
opened q row blocks =
    interpolated (accepted_posts q row blocks) (map (share q row blocks) (accepted_posts q row blocks)) 0

-- Document 02, (iv): "From now on the post checks all n." The further accepted posts are those behind the lowest t+1.
abbrev pub further : Party → List ℕ → List ℕ → List ℕ
further q row blocks = drop (needed q.shape) (accepted q row blocks)

-- 13: "every further accepted share must lie on the same polynomial of degree at most t", that through the lowest t+1; one does not.
unfoldable pub disagree : Party → List ℕ → List ℕ → Bool
disagree q row blocks =
    not
    (all_agree (accepted_posts q row blocks) (map (share q row blocks) (accepted_posts q row blocks)) (further q row blocks)
    (map (share q row blocks) (further q row blocks)))
