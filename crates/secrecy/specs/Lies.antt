-- Document 02, (xiii), "When the group lies at the opening": "At the last opening of a session the group of at most t posts may now broadcast
-- polynomials of its own, chosen from its record alone, or stay silent". It is of row r, and comes behind any list of orders by the rules.
use Rattle.std.specs.Prelude.{ℕ, ◌≡◌, Bool, true, cond, ◌&&◌, List, [], ◌∷◌, ◌++◌, map}
use Rattle.refusal.specs.Refusal.{first, outcome}
use Rattle.session.specs.Rows.{width, row_at}
use Rattle.opening.specs.Walking.{accepted}
use Rattle.opening.specs.Opening.{open_checks_of}
use Rattle.runs.specs.Draws.{Plan, Draw, IsDraw}
use Rattle.runs.specs.Calls.{Post, opening_line}
use Rattle.runs.specs.Orders.{call, Desk, desk_after}
use Rattle.secrecy.specs.Steps.{Secrets, Lent, Item, message, opening}
use Rattle.secrecy.specs.Seen.{Entry, Seen, posts, done_at, lines_of, seen}
use Rattle.secrecy.specs.Claim.{Premises, Matching, desks_of, book_of}
use Rattle.secrecy.specs.Count.{count, draws, same_list, same_lines, same_entry, same_seen}

-- ---- What happens

-- "From that opening's first message on, no call is made but opening messages and opens of that row." One thing that happens: posts send their
-- opening messages, for a caller; a polynomial is broadcast in a post's name; posts open the row, each with the record that it has. `by` says
-- which posts make the call.
pub data Happening : Type 0 where
  messages : (caller : ℕ) (lent : Lent) (by : ℕ → Bool) → Happening
  lie : (post : ℕ) (polynomial : List ℕ) → Happening
  opens : (records : ℕ → List ℕ) (by : ℕ → Bool) → Happening

-- What is seen of it: as of any order of the list; and "acceptances at every other post", of an open whom each post that makes it accepts.
pub record Glimpse : Type 0 where
  pub entry : Entry
  pub acceptances : List (List ℕ)

-- What happens next is chosen from all that was seen: the record of the list before, and everything of this opening so far. A list of such
-- choices has every way to lie in it: lies that wait for the others' messages, for answers and acceptances; several of one post, of which some
-- posts' records show one and some another; silence. Records too may hold anything that is made of what was seen: where the posts outside
-- the group keep the rules they hold lines broadcast for the row, but nothing here needs that.
abbrev pub Choice : Type 0
Choice = Seen → List Glimpse → Happening

-- Whom a post accepts. Where 1 to 8 refuse the call, no post is looked at.
unfoldable pub accepted_at : ℕ → List ℕ → Post → List ℕ
accepted_at r blocks q =
    outcome (first (open_checks_of q.session q.rows r blocks)) (accepted q.session (row_at (width q.session) q.rows r) blocks) []

-- those of a list that make a call
unfoldable pub those : (ℕ → Bool) → List ℕ → List ℕ
those by [] = []
those by (i ∷ is) = cond (by i) (i ∷ those by is) (those by is)

module _ (plan : Plan) (group : List ℕ) (draw : Draw) (u : Secrets) where
  -- An order that the posts `by` carry out, as demand 3 has it: the posts after it, and what is seen of it. No record of this opening follows
  -- the lines in another way than by the choice, so none are handed on.
  unfoldable pub desk_by : (ℕ → Bool) → Item → (ℕ → Desk) → ℕ → Desk
  desk_by by o q i = cond (by i) (desk_after (done_at plan draw u [] o q i)) (q i)

  unfoldable pub entry_by : (ℕ → Bool) → Item → (ℕ → Desk) → Entry
  entry_by by o q =
      record {
        refusals = map (λ i. (done_at plan draw u [] o q i).done.answer.refusal) (those by (posts plan.n));
        values = map (λ i. (done_at plan draw u [] o q i).done.answer.value) (those by (posts plan.n));
        lines = lines_of plan draw u [] o q;
        rows = map (λ i. (desk_by by o q i).post.rows) group;
      }

  module _ (r : ℕ) where
    unfoldable pub glimpse : Happening → (ℕ → Desk) → Glimpse
    glimpse (messages caller lent by) q = record { entry = entry_by by (call (message r caller lent by)) q; acceptances = [] }
    glimpse (lie j xs) q = record { entry = record { refusals = []; values = []; lines = opening_line r j xs ∷ []; rows = [] }; acceptances = [] }
    glimpse (opens records by) q =
        record {
          entry = entry_by by (call (opening r (λ i lines. records i))) q;
          acceptances = map (λ i. accepted_at r (records i) (q i).post) (those by (posts plan.n));
        }

    unfoldable pub desks_then : Happening → (ℕ → Desk) → ℕ → Desk
    desks_then (messages caller lent by) q = desk_by by (call (message r caller lent by)) q
    desks_then (lie j xs) q = q
    desks_then (opens records by) q = desk_by by (call (opening r (λ i lines. records i))) q

    -- R was seen before, `past` of this opening
    unfoldable pub last_opening : Seen → List Choice → List Glimpse → (ℕ → Desk) → List Glimpse
    last_opening R [] past q = []
    last_opening R (choose ∷ choices) past q =
        glimpse (choose R past) q ∷ last_opening R choices (past ++ (glimpse (choose R past) q ∷ [])) (desks_then (choose R past) q)

-- ---- The claim

-- Everything that is seen: the record of the list os, as in demand 3; and of the last opening lines, answers, and acceptances.
pub record SeenToTheLast : Type 0 where
  pub before : Seen
  pub last : List Glimpse

module _ (plan : Plan) (group : List ℕ) (rows : ℕ → List ℕ) (os : List Item) (r : ℕ) (choices : List Choice) where
  unfoldable pub seen_to_the_last : Secrets → Draw → SeenToTheLast
  seen_to_the_last u draw =
      let R = seen plan group draw u rows os in
      record { before = R; last = last_opening plan group draw u r R choices [] (desks_of plan rows os R u draw) }

  pub record ShowsToTheLast (u : Secrets) (R : SeenToTheLast) (draw : Draw) : Type 0 where
    pub is_draw : IsDraw plan draw
    pub same : seen_to_the_last u draw ≡ R

-- "What those posts send before it is by the rules, and only until then must all posts get the same answers": demand 3's premises, of the
-- record of the list before. "that row counts as opened, even where its set bars each caller": its number agrees. Of the last opening itself
-- nothing is asked.
pub record PremisesToTheLast (plan : Plan) (group : List ℕ) (u u' : Secrets) (os : List Item) (r : ℕ) (R : SeenToTheLast) : Type 0 where
  pub before : Premises plan group u u' os R.before
  pub row : (book_of u os R.before).place r ≡ (book_of u' os R.before).place r

-- "Under the two lists of secrets, the count of draws with that record and with given answers, a refusal among them, and given acceptances at
-- every other post is the same", as a matching of the draws ..
abbrev pub SecrecyWithLies : Type 0
SecrecyWithLies =
    (plan : Plan) (group : List ℕ) (rows : ℕ → List ℕ) (os : List Item) (r : ℕ) (choices : List Choice) (u u' : Secrets) (R : SeenToTheLast)
    → PremisesToTheLast plan group u u' os r R
    → Matching (ShowsToTheLast plan group rows os r choices u R) (ShowsToTheLast plan group rows os r choices u' R)

-- .. and as the equality of two counts over the list of all draws.
unfoldable pub same_glimpse : Glimpse → Glimpse → Bool
same_glimpse g g' = same_entry g.entry g'.entry && same_lines g.acceptances g'.acceptances

unfoldable pub same_to_the_last : SeenToTheLast → SeenToTheLast → Bool
same_to_the_last R R' = same_seen R.before R'.before && same_list same_glimpse R.last R'.last

unfoldable pub shows_to_the_last : Plan → List ℕ → (ℕ → List ℕ) → List Item → ℕ → List Choice → Secrets → SeenToTheLast → Draw → Bool
shows_to_the_last plan group rows os r choices u R draw = same_to_the_last (seen_to_the_last plan group rows os r choices u draw) R

-- The test says exactly that.
abbrev pub ShowsToTheLastRight : Type 0
ShowsToTheLastRight =
    (plan : Plan) (group : List ℕ) (rows : ℕ → List ℕ) (os : List Item) (r : ℕ) (choices : List Choice) (u : Secrets) (R : SeenToTheLast) (d : Draw)
    → (shows_to_the_last plan group rows os r choices u R d ≡ true → seen_to_the_last plan group rows os r choices u d ≡ R)
    × (seen_to_the_last plan group rows os r choices u d ≡ R → shows_to_the_last plan group rows os r choices u R d ≡ true)

abbrev pub EqualCountsWithLies : Type 0
EqualCountsWithLies =
    (plan : Plan) (group : List ℕ) (rows : ℕ → List ℕ) (os : List Item) (r : ℕ) (choices : List Choice) (u u' : Secrets) (R : SeenToTheLast)
    → PremisesToTheLast plan group u u' os r R
    → count (shows_to_the_last plan group rows os r choices u R) (draws plan) ≡ count (shows_to_the_last plan group rows os r choices u' R) (draws plan)
