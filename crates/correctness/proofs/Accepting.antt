-- How many posts a walk takes, what counts for a post in a record that 5 and 8 let pass, and truth of all accepted and of enough.
use Prim.Native.Nat.{ℕ, ◌≤◌, min, ◌<◌}
use mathlib.Core.Path.{◌≡◌, ◌∙◌, ap}
use mathlib.Core.Bool.{true, false}
use mathlib.Core.Logic.{◌≢◌, ◌⊎◌, inl, inr}
use mathlib.Core.List.{List, []}
use native.Mathlib.Decide.{ℕ_discrete}
use native.Mathlib.Omega.{arith}
use borrow.Author.Tests.{ltb-false, lt-ltb, le-ltb, ne_eqb}
use lib.ListN.{length, length-take}
use Rattle.poly.specs.Counting.{Elements}
use Rattle.poly.proofs.Lists.{all_zip}
use Rattle.shape.specs.Marks.{present}
use Rattle.shape.specs.Lengths.{needed, v_length}
use Rattle.session.specs.declared.Session.{Session}
use Rattle.session.specs.Sessions.{shape_of}
use Rattle.blocks.specs.Blocks as Blocks
use Rattle.accepting.proofs.Accepted.{walk_first}
use Rattle.opening.specs.Walking.{block_mark, sent, accepts, accepted, accepted_posts, too_few_of}
use Rattle.vectors.proofs.Passing.{all_passing, distinct_passing}
use Rattle.runs.proofs.Records.{sent_there, block_many, block_low}
use Rattle.runs.specs.Calls.{Proper}
use Rattle.correctness.specs.Claim.{how_many, AllIsEnough}

-- nothing, or k elements
abbrev pub Formed : ℕ → List ℕ → Type 0
Formed k xs = (xs ≡ []) ⊎ ((length xs ≡ k) × Elements xs)

-- 9, by the number of those that pass
module _ (s : Session) (row blocks : List ℕ) where
  -- a walk takes all that are accepted, up to t+1
  walk_length : length (accepted_posts s row blocks) ≡ min (needed (shape_of s)) (how_many s row blocks)
  walk_length = ap length (walk_first (accepts s row blocks) 1 s.n (needed (shape_of s))) ∙ length-take (needed (shape_of s)) (accepted s row blocks)

  pub too_few : how_many s row blocks < needed (shape_of s) → too_few_of s row blocks ≡ true
  too_few h = lt-ltb (length (accepted_posts s row blocks)) (needed (shape_of s)) (omega (arith, walk_length))

  pub not_few : needed (shape_of s) ≤ how_many s row blocks → too_few_of s row blocks ≡ false
  not_few h = le-ltb (length (accepted_posts s row blocks)) (needed (shape_of s)) (omega (arith, walk_length))

  pub enough_of : too_few_of s row blocks ≡ false → needed (shape_of s) ≤ how_many s row blocks
  enough_of e = omega (arith, walk_length, ltb-false (length (accepted_posts s row blocks)) (needed (shape_of s)) e)

  -- what counts for another post is nothing, or t+1 elements
  pub formed : Proper s blocks → (j : ℕ) → 1 ≤ j → j ≤ s.n → j ≢ s.post → Formed (v_length (shape_of s)) (sent s row blocks j)
  unfolding Blocks.sent
  formed pr j lo hi ne = go (ℕ_discrete (block_mark (v_length (shape_of s)) blocks j) present)
    where
      go : Dec (block_mark (v_length (shape_of s)) blocks j ≡ present) → Formed (v_length (shape_of s)) (sent s row blocks j)
      go (yes e) = inr (
        ap length (sent_there s blocks j lo hi ne row e) ∙ block_many s blocks j lo hi ne pr e,
        rw (sent_there s blocks j lo hi ne row e) (block_low s blocks j lo hi ne pr e),
      )
      go (no e) = inl (rw (ne_eqb j s.post ne, ne_eqb (block_mark (v_length (shape_of s)) blocks j) present e))

pub all_is_enough : AllIsEnough
all_is_enough P s row blocks h a = record {
  good = accepted s row blocks;
  many = omega arith;
  different = distinct_passing (accepts s row blocks) 1 s.n;
  theirs =
      all_zip (λ j k t. (k.from_on, omega (arith, k.before), k.passes, t)) (accepted s row blocks)
      (all_passing (accepts s row blocks) 1 s.n) a;
}
