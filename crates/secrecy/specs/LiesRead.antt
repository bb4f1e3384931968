-- What the words of Lies.antt say, in figures and by what the calls' contracts cite; proved in proofs/LyingRead.antt. A statement with another
-- acceptance, with answers left out, or with choices from anything else would be another one.
use Rattle.std.specs.Prelude.{ℕ, ◌+◌, ◌*◌, ◌-◌, ◌≤◌, ◌≡◌, Bool, true, cond, ◌≢◌, List, [], ◌∷◌, ◌++◌, map, eqb, take, drop, get_or}
use Rattle.poly.specs.Counting.{Distinct}
use Rattle.poly.specs.Polynomial.{value}
use Rattle.session.specs.Sessions.{mark}
use Rattle.message.specs.Message.{message_answer, message_out_of}
use Rattle.opening.specs.Opening.{open_answer}
use Rattle.runs.specs.Draws.{Plan, Draw}
use Rattle.runs.specs.Calls.{Post, Among, opening_line, sent_if}
use Rattle.runs.specs.Orders.{Desk}
use Rattle.secrecy.specs.Steps.{Secrets, Following, Lent, Item}
use Rattle.secrecy.specs.Seen.{Entry, Seen, posts, joined, entry_of, seen}
use Rattle.secrecy.specs.Rules.{Walks}
use Rattle.secrecy.specs.Lies.{Happening, messages, lie, opens, Glimpse, Choice, accepted_at, those, entry_by, glimpse, last_opening, SeenToTheLast, seen_to_the_last, PremisesToTheLast}
use Rattle.secrecy.specs.Claim.{Premises, desks_of, book_of}

-- ---- Whom a post accepts

module _ (r : ℕ) (blocks : List ℕ) (q : Post) where
  -- the coefficients of a polynomial, t+1 or with two check points 2t+1; and where row r stands in the list: coefficients, one or two check
  -- values for each post, a public sum for each
  abbrev pub many : ℕ
  many = q.session.points * q.session.t + 1

  abbrev pub row_from : ℕ
  row_from = r * (many + q.session.points * q.session.n + q.session.n)

  -- "For its own number the post takes the coefficients in its own row, otherwise the block of the record"
  abbrev pub said_by_of : ℕ → List ℕ
  said_by_of j = cond (eqb j q.session.post) (take many (drop row_from q.rows)) (take many (drop ((j - 1) * (many + 1) + 1) blocks))

  -- "Post j is accepted when its polynomial at wi equals the check value for j"; with two points "when both values match" (02, (ix)). A block's
  -- mark is 1 where it is there.
  pub record IsAccepted (j : ℕ) : Type 0 where
    pub is_post : (1 ≤ j) × (j ≤ q.session.n)
    pub there : j ≢ q.session.post → get_or blocks ((j - 1) * (many + 1)) 0 ≡ 1
    pub at_first : value (said_by_of j) q.session.first ≡ get_or q.rows (row_from + (many + (j - 1) * q.session.points)) 0
    pub at_second : q.session.points ≡ 2
        → value (said_by_of j) q.session.second ≡ get_or q.rows (row_from + (many + (j - 1) * q.session.points + 1)) 0

  -- The list has exactly these, each once, where the answer is a number opened, 9 or 13; else nobody, and so nobody of a row that is not held.
  pub record AcceptancesMean : Type 0 where
    pub only : (j : ℕ) → Among j (accepted_at r blocks q) → Walks (open_answer q.session q.rows r blocks).refusal × IsAccepted j
    pub all : (j : ℕ) → Walks (open_answer q.session q.rows r blocks).refusal → IsAccepted j → Among j (accepted_at r blocks q)
    pub refused : (Walks (open_answer q.session q.rows r blocks).refusal → ⊥) → accepted_at r blocks q ≡ []
    pub unheld : mark q.session r ≢ 2 → accepted_at r blocks q ≡ []
    pub once : Distinct (accepted_at r blocks q)

abbrev pub AcceptancesRead : Type 0
AcceptancesRead = (r : ℕ) (blocks : List ℕ) (q : Post) → AcceptancesMean r blocks q

-- ---- What is seen

-- Those of the posts 1 to n that `by` names; and where it names all, what is seen is demand 3's own entry.
abbrev pub MakersRead : Type 0
MakersRead =
    (n : ℕ) (by : ℕ → Bool) (i : ℕ)
    → (Among i (those by (posts n)) → (1 ≤ i) × (i ≤ n) × (by i ≡ true))
    × ((1 ≤ i) × (i ≤ n) × (by i ≡ true) → Among i (those by (posts n)))

abbrev pub AllMake : Type 0
AllMake =
    (plan : Plan) (group : List ℕ) (draw : Draw) (u : Secrets) (o : Item) (q : ℕ → Desk)
    → entry_by plan group draw u (λ i. true) o q ≡ entry_of plan group draw u [] o q

module _ (plan : Plan) (group : List ℕ) (draw : Draw) (u : Secrets) (r : ℕ) (q : ℕ → Desk) where
  -- Of messages: the refusals, and no numbers; and the line of each that is not refused, with the numbers that the call put into the list that it was lent. The
  -- group's rows are as they were.
  module _ (caller : ℕ) (lent : Lent) (by : ℕ → Bool) where
    abbrev pub lent_to : ℕ → List ℕ
    lent_to i = map (λ (x : Following). x draw u) (lent i)

    abbrev pub refused_to : ℕ → ℕ
    refused_to i = (message_answer (q i).post.session (q i).post.rows r caller (lent_to i)).refusal

    pub record MessagesShow (g : Glimpse) : Type 0 where
      pub acceptances : g.acceptances ≡ []
      pub refusals : g.entry.refusals ≡ map refused_to (those by (posts plan.n))
      pub values : g.entry.values ≡ map (λ i. 0) (those by (posts plan.n))
      pub lines : g.entry.lines
          ≡ joined (map (λ i. sent_if (refused_to i) (opening_line r i (message_out_of (q i).post.session (q i).post.rows r caller (lent_to i))) []) (those by (posts plan.n)))
      pub rows : g.entry.rows ≡ map (λ i. (q i).post.rows) group

  -- Of opens: of each post that makes one its refusal, its number and whom it accepts.
  pub record OpensShow (records : ℕ → List ℕ) (by : ℕ → Bool) (g : Glimpse) : Type 0 where
    pub refusals : g.entry.refusals
        ≡ map (λ i. (open_answer (q i).post.session (q i).post.rows r (records i)).refusal) (those by (posts plan.n))
    pub values : g.entry.values
        ≡ map (λ i. (open_answer (q i).post.session (q i).post.rows r (records i)).value) (those by (posts plan.n))
    pub acceptances : g.acceptances ≡ map (λ i. accepted_at r (records i) (q i).post) (those by (posts plan.n))
    pub lines : g.entry.lines ≡ []
    pub rows : g.entry.rows ≡ map (λ i. (q i).post.rows) group

  -- Of a lie: its line.
  pub record GlimpsesShow : Type 0 where
    pub of_messages : (caller : ℕ) (lent : Lent) (by : ℕ → Bool)
        → MessagesShow caller lent by (glimpse plan group draw u r (messages caller lent by) q)
    pub of_lie : (j : ℕ) (xs : List ℕ) → glimpse plan group draw u r (lie j xs) q
        ≡ record { entry = record { refusals = []; values = []; lines = opening_line r j xs ∷ []; rows = [] }; acceptances = [] }
    pub of_opens : (records : ℕ → List ℕ) (by : ℕ → Bool) → OpensShow records by (glimpse plan group draw u r (opens records by) q)

  -- A choice gets the record and exactly what was seen before it; and each meets the same posts, since nothing here changes one.
  abbrev pub ChoiceMade : Type 0
  ChoiceMade =
      (R : Seen) (choices : List Choice) (choose : Choice) (more : List Choice)
      → (let told = last_opening plan group draw u r R choices [] q in
      let next = glimpse plan group draw u r (choose R told) q in
      last_opening plan group draw u r R (choices ++ (choose ∷ more)) [] q
      ≡ told ++ (next ∷ last_opening plan group draw u r R more (told ++ (next ∷ [])) q))

abbrev pub GlimpsesRead : Type 0
GlimpsesRead = (plan : Plan) (group : List ℕ) (draw : Draw) (u : Secrets) (r : ℕ) (q : ℕ → Desk) → GlimpsesShow plan group draw u r q

abbrev pub ChoicesRead : Type 0
ChoicesRead = (plan : Plan) (group : List ℕ) (draw : Draw) (u : Secrets) (r : ℕ) (q : ℕ → Desk) → ChoiceMade plan group draw u r q

-- Everything that is seen, step by step: the record of the list; of no choice nothing; of one more choice what it makes happen at the posts after the
-- list, where it gets that record and all that was seen before.
module _ (plan : Plan) (group : List ℕ) (rows : ℕ → List ℕ) (os : List Item) (r : ℕ) (u : Secrets) (draw : Draw) where
  pub record LastMeans : Type 0 where
    pub before : (choices : List Choice) → (seen_to_the_last plan group rows os r choices u draw).before ≡ seen plan group draw u rows os
    pub none : (seen_to_the_last plan group rows os r [] u draw).last ≡ []
    pub next : (choices : List Choice) (choose : Choice)
        → (let R = seen plan group draw u rows os in
        let told = (seen_to_the_last plan group rows os r choices u draw).last in
        (seen_to_the_last plan group rows os r (choices ++ (choose ∷ [])) u draw).last
        ≡ told ++ (glimpse plan group draw u r (choose R told) (desks_of plan rows os R u draw) ∷ []))

abbrev pub LastRead : Type 0
LastRead = (plan : Plan) (group : List ℕ) (rows : ℕ → List ℕ) (os : List Item) (r : ℕ) (u : Secrets) (draw : Draw) → LastMeans plan group rows os r u draw

-- Nothing else is asked.
abbrev pub LastAsks : Type 0
LastAsks =
    (plan : Plan) (group : List ℕ) (u u' : Secrets) (os : List Item) (r : ℕ) (R : SeenToTheLast) → Premises plan group u u' os R.before
    → (book_of u os R.before).place r ≡ (book_of u' os R.before).place r → PremisesToTheLast plan group u u' os r R
