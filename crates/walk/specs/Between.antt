-- Between the functions of the code: what each walk hands on, and what is lent to them. No theorem is stated
-- with these.
use Rattle.std.specs.Prelude.{ℕ, suc, ◌-◌, ◌≤◌, ◌≡◌, not, Option, Result, List, ◌++◌, map, length, take}
use Rattle.refusal.specs.declared.Refusal.{Refusal}
use Rattle.poly.specs.Interpolation.{interpolated}
use Rattle.agreement.specs.Agreement.{all_agree}
use Rattle.agreement.specs.Sums.{Rooms}
use Rattle.shape.specs.declared.Shape.{Shape}
use Rattle.shape.specs.Lengths.{needed}
use Rattle.session.specs.declared.Party.{Party}
use Rattle.accepting.specs.Accepting.{accepts, share, passing, accepted_posts}
use Rattle.walk.specs.Number.{or_thirteen, outcome_of}

-- What the walk hands on: its outcome, and the accepted posts and their shares at the start of two lists.
pub record WalkedAs (q : Party) (row blocks : List ℕ) (end : Option ℕ) (posts shares : List ℕ) : Type 0 where
  pub ended : end ≡ outcome_of q row blocks
  pub posts_are : take (length (accepted_posts q row blocks)) posts ≡ accepted_posts q row blocks
  pub shares_are : take (length (accepted_posts q row blocks)) shares ≡ map (share q row blocks) (accepted_posts q row blocks)
  pub posts_room : needed q.shape ≤ length posts
  pub shares_room : needed q.shape ≤ length shares

-- Where the second walk begins: behind the post at which the first one stopped, with room for all posts.
pub record BehindIn (n need last : ℕ) (posts shares : List ℕ) : Type 0 where
  pub behind : (need ≤ last) × (last ≤ n)
  pub posts_room : n ≤ length posts
  pub shares_room : n ≤ length shares

-- What it hands on: behind the first `need` posts and shares, those of the accepted posts after `last`.
pub record FurtherAs (q : Party) (row blocks : List ℕ) (need last : ℕ) (posts₀ shares₀ : List ℕ) (count : ℕ) (posts shares : List ℕ) : Type 0 where
  pub count_in_is : (need ≤ count) × (count ≤ q.shape.n)
  pub posts_are : take count posts ≡ take need posts₀ ++ passing (accepts q row blocks) (suc last) (q.shape.n - last)
  pub shares_are : take count shares ≡ take need shares₀ ++ map (share q row blocks) (passing (accepts q row blocks) (suc last) (q.shape.n - last))

-- The number through values at nodes, or 13, by further values at further nodes.
abbrev pub agreed_on : List ℕ → List ℕ → List ℕ → List ℕ → Result ℕ Refusal
agreed_on xs ys zs ws = or_thirteen (not (all_agree xs ys zs ws)) (interpolated xs ys 0)

-- What is lent to an opening: a table of inverses that reaches every post, and rooms.
pub record Roomy (s : Shape) (inverses posts shares gaps list above below : List ℕ) : Type 0 where
  pub posts_room : s.n ≤ length posts
  pub shares_room : s.n ≤ length shares
  pub reach : s.n ≤ length inverses
  pub lent : Rooms inverses gaps list above below
