-- An example of demand 3: a list of orders, a draw, two lists of secrets and a record; and what is to be shown of it, so that the
-- claim does not hold for want of premises.
use Rattle.std.specs.Prelude.{ℕ, ◌-◌, ◌<◌, ◌≡◌, ◌≢◌, List, [], ◌∷◌, ◌++◌, map, length, drop, get_or, replicate}
use Rattle.shape.specs.Bounds.{row_count_of}
use Rattle.shape.specs.Marks.{present as presentMark}
use Rattle.runs.specs.Draws.{Raw, none, Plan, Draw, IsRaw}
use Rattle.runs.specs.Orders.{call}
use Rattle.secrecy.specs.Steps.{Secrets, Following, PackNumber, PackAt, other, Step, Item}
use Rattle.secrecy.specs.Seen.{Entry, Seen, member, posts, joined, seen}
use Rattle.secrecy.specs.Claim.{Premises, Shows, book_of}
use Rattle.secrecy.specs.Count.{count, draws, shows}

pub record Example : Type 0 where
  pub n : ℕ
  pub t : ℕ
  -- check points of a post
  pub points : ℕ
  -- who deals row 0, row 1 and so on; the first rows of the triples
  pub raws : List Raw
  pub triples : List ℕ
  pub group : List ℕ
  -- what stands in a post's rows at the start
  pub rows : ℕ → List ℕ
  pub orders : List Item
  pub draw : Draw
  -- the two lists of secrets, row 0's first
  pub secrets : List ℕ
  pub secrets' : List ℕ
  -- the record: what the group is shown of the draw under the first
  pub shown : Seen

abbrev pub plan_of : Example → Plan
plan_of x =
    record { n = x.n; t = x.t; points = x.points; raw = λ r. get_or x.raws r none; triple = λ r. member r x.triples }

abbrev pub secrets_of : List ℕ → Secrets
secrets_of us r = get_or us r 0

-- what the group sees under the first list
abbrev pub seen_of : Example → Seen
seen_of x = seen (plan_of x) x.group x.draw (secrets_of x.secrets) x.rows x.orders

-- how many of all draws of the plan show the record under these secrets
abbrev pub showing : Example → List ℕ → ℕ
showing x us = count (shows (plan_of x) x.group x.rows x.orders (secrets_of us) x.shown) (draws (plan_of x))

-- The premises hold for two lists of secrets that differ in a row with a dealer; the draw shows the record; so of all draws as
-- many show it under the one list as under the other, and not none.
pub record AtWork (x : Example) : Type 0 where
  pub premises : Premises (plan_of x) x.group (secrets_of x.secrets) (secrets_of x.secrets') x.orders x.shown
  pub differ : (r : ℕ) × IsRaw ((plan_of x).raw r) × (secrets_of x.secrets r ≢ secrets_of x.secrets' r)
  pub shows : Shows (plan_of x) x.group x.rows x.orders (secrets_of x.secrets) x.shown x.draw
  pub some : 0 < showing x x.secrets
  pub as_many : showing x x.secrets ≡ showing x x.secrets'

-- the number that the k-th order of the list, counted from 0, opened at each post
abbrev pub opened_by : Example → ℕ → List ℕ
opened_by x k = get_or (map (λ (e : Entry). e.values) (seen_of x).entries) k []

-- the number of row r in the plain book at the end, under these secrets
abbrev pub booked_at : Example → List ℕ → ℕ → ℕ
booked_at x us r = (book_of (secrets_of us) x.orders x.shown).place r

-- ---- for the data of examples

-- a list of calls alone
abbrev pub calls : List Step → List Item
calls cs = map call cs

-- a list for each row, empty behind those that are given
abbrev pub padded : List (List ℕ) → List (List ℕ)
padded ls = ls ++ replicate (row_count_of - length ls) []

-- post j's of one list for each post
abbrev pub of : List (List ℕ) → ℕ → List ℕ
of ls j = get_or ls (j - 1) []

-- a record of n blocks, post 1's first; and the block of a post that is heard
abbrev pub blocks : ℕ → (ℕ → List ℕ) → List ℕ
blocks n block = joined (map block (posts n))

abbrev pub present : List ℕ → List ℕ
present xs = presentMark ∷ xs

-- a list to write into, and a pack, of fixed numbers
abbrev pub still : List ℕ → List Following
still xs = map (λ x draw u. x) xs

abbrev pub given : List ℕ → PackAt
given xs = other (map PackNumber.fixed xs)

-- the rows of post i with other numbers from the start on
abbrev pub filled : (ℕ → List ℕ) → ℕ → List ℕ → List ℕ
filled rows i xs = xs ++ drop (length xs) (rows i)

-- What is seen of an order with one answer at all n posts: the refusal, the number opened, the lines, the group's rows.
abbrev pub entry : ℕ → ℕ → ℕ → List (List ℕ) → List (List ℕ) → Entry
entry n refusal opened lines rows =
    record { refusals = replicate n refusal; values = replicate n opened; lines = lines; rows = rows }
