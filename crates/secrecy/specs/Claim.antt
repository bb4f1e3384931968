-- Demand 3: "for every list of calls, refused ones included, and every group of at most t posts, exactly as many factory draws
-- show the group's record under one list of secrets as under another."
use Rattle.std.specs.Prelude.{ℕ, ◌≤◌, ◌<◌, ◌≡◌, true, ◌≢◌, List, ◌++◌, map, length}
use Rattle.field.specs.Modulus.{p}
use Rattle.poly.specs.Counting.{All}
use Rattle.shape.specs.Bounds.{last_row_at}
use Rattle.shape.specs.Marks.{held}
use Rattle.session.specs.Sessions.{mark}
use Rattle.session.specs.Rows.{width, row_at}
use Rattle.runs.specs.Draws.{Plan, Draw, IsDraw, IsRaw, Sound, by}
use Rattle.runs.specs.Callers.{all_posts}
use Rattle.runs.specs.Orders.{Desk}
use Rattle.secrecy.specs.Steps.{Secrets, Item}
use Rattle.secrecy.specs.Seen.{Entry, Seen, member, joined, desks_after, new_desk, run, seen}
use Rattle.secrecy.specs.Waiting.{none_waiting}
use Rattle.secrecy.specs.Rules.{SameAnswers, Rules, refusal_of}
use Rattle.secrecy.specs.Book.{Book, blank, book_after, Agree}

-- A group of at most t posts.
pub record Group (plan : Plan) (group : List ℕ) : Type 0 where
  pub few : length group ≤ plan.t
  pub members : All (λ i. (1 ≤ i) × (i ≤ plan.n)) group

-- What is asked of two lists of secrets and a record: the secrets are elements; a dealer in the group has the same secret in
-- both; every post got the same answers; the rules were kept; and each number opened agrees in the two books, but where the row's set bars
-- the caller.
pub record Premises (plan : Plan) (group : List ℕ) (u u' : Secrets) (os : List Item) (R : Seen) : Type 0 where
  pub sound : Sound plan
  pub group_few : Group plan group
  pub secrets : (r : ℕ) → IsRaw (plan.raw r) → (u r < p) × (u' r < p)
  pub dealers : (r dealer : ℕ) → plan.raw r ≡ by dealer → member dealer group ≡ true → u r ≡ u' r
  pub same_answers : SameAnswers R.entries
  pub rules : Rules plan os R.entries R.deals none_waiting
  pub agree : Agree plan u u' os R.entries none_waiting all_posts blank blank

-- The draw shows the record R under the secrets u.
pub record Shows (plan : Plan) (group : List ℕ) (rows : ℕ → List ℕ) (os : List Item) (u : Secrets) (R : Seen) (draw : Draw) : Type 0 where
  pub is_draw : IsDraw plan draw
  pub same : seen plan group draw u rows os ≡ R

-- A one-to-one matching of those with P with those with Q.
pub record Matching {A : Type 0} (P Q : A → Type 0) : Type 0 where
  pub to : A → A
  pub from : A → A
  pub to_ok : (a : A) → P a → Q (to a)
  pub from_ok : (a : A) → Q a → P (from a)
  pub from_to : (a : A) → P a → from (to a) ≡ a
  pub to_from : (a : A) → Q a → to (from a) ≡ a

-- Demand 3, as a matching of the draws.
abbrev pub Secrecy : Type 0
Secrecy =
    (plan : Plan) (group : List ℕ) (rows : ℕ → List ℕ) (os : List Item) (u u' : Secrets) (R : Seen)
    → Premises plan group u u' os R → Matching (Shows plan group rows os u R) (Shows plan group rows os u' R)

-- One post after the same orders in two runs, with the books of both: the session is the same, its marks and all that it remembers; the
-- list of rows is as long; the lent state is the same; and a held row is the same where its place is the same in both books.
pub record Abreast (q q' : Desk) (b b' : Book) : Type 0 where
  pub session : q.post.session ≡ q'.post.session
  pub long : length q.post.rows ≡ length q'.post.rows
  pub state : q.state ≡ q'.state
  pub rows : (r : ℕ) → r ≤ last_row_at → mark q.post.session r ≡ held → b.place r ≡ b'.place r
      → row_at (width q.post.session) q.post.rows r ≡ row_at (width q.post.session) q'.post.rows r

-- The posts after the orders, of a draw that shows R.
abbrev pub desks_of : Plan → (ℕ → List ℕ) → List Item → Seen → Secrets → Draw → ℕ → Desk
desks_of plan rows os R u draw = desks_after plan draw u os R.deals (λ i. new_desk plan draw (rows i) i)

-- They are the posts that the run goes on with: where more orders follow, it has those carried out by them, with the lines that were
-- broadcast so far.
abbrev pub RunGoesOn : Type 0
RunGoesOn =
    (plan : Plan) (group : List ℕ) (draw : Draw) (u : Secrets) (os more : List Item) (lines : List (List ℕ)) (q : ℕ → Desk)
    → (let told = run plan group draw u os lines q in
    run plan group draw u (os ++ more) lines q
    ≡ told ++ run plan group draw u more (lines ++ joined (map (λ (e : Entry). e.lines) told)) (desks_after plan draw u os lines q))

-- The book after the list.
abbrev pub book_of : Secrets → List Item → Seen → Book
book_of u os R = book_after u os R.entries none_waiting blank

-- A draw and the one matched with it: every check point is the same, and every post, not only those of the group, stands abreast.
pub record Beside (plan : Plan) (rows : ℕ → List ℕ) (os : List Item) (u u' : Secrets) (R : Seen) (d d' : Draw) : Type 0 where
  pub points : d.points ≡ d'.points
  pub posts : (i : ℕ) → 1 ≤ i → i ≤ plan.n
      → Abreast (desks_of plan rows os R u d i) (desks_of plan rows os R u' d' i) (book_of u os R) (book_of u' os R)

-- The same matching, with that.
abbrev pub SecrecyEverywhere : Type 0
SecrecyEverywhere =
    (plan : Plan) (group : List ℕ) (rows : ℕ → List ℕ) (os : List Item) (u u' : Secrets) (R : Seen) → Premises plan group u u' os R
    → (m : Matching (Shows plan group rows os u R) (Shows plan group rows os u' R))
    × ((d : Draw) → Shows plan group rows os u R d → Beside plan rows os u u' R d (m.to d))

-- Document 02, (iv), under the rules: what a record shows was broadcast by its sender, so that accepted posts agree, and no order of the
-- list is refused with 13.
abbrev pub NeverThirteen : Type 0
NeverThirteen =
    (plan : Plan) (group : List ℕ) (rows : ℕ → List ℕ) (os : List Item) (u : Secrets) (R : Seen) → Sound plan
    → ((r : ℕ) → IsRaw (plan.raw r) → u r < p) → SameAnswers R.entries → Rules plan os R.entries R.deals none_waiting
    → (d : Draw) → Shows plan group rows os u R d → All (λ e. refusal_of e ≢ 13) R.entries
