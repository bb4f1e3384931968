-- An inner step of demand 3: what is shown of lists of calls on a session alone. The demand speaks of orders (specs/Claim.antt).
use Prim.Native.Nat.{ℕ, ◌≤◌, ◌<◌}
use mathlib.Core.Path.{◌≡◌}
use mathlib.Core.Bool.{true}
use mathlib.Core.Logic.{◌≢◌}
use mathlib.Core.List.{List}
use lib.ListN.{length}
use Rattle.field.specs.Modulus.{p}
use Rattle.poly.specs.Counting.{All}
use Rattle.shape.specs.Bounds.{last_row_at}
use Rattle.shape.specs.Marks.{held}
use Rattle.session.specs.Sessions.{mark}
use Rattle.session.specs.Rows.{width, row_at}
use Rattle.runs.specs.Draws.{Plan, Draw, IsDraw, IsRaw, Sound, by}
use Rattle.runs.specs.Calls.{Post, new_post}
use Rattle.runs.specs.Callers.{all_posts}
use Rattle.secrecy.specs.Steps.{Secrets, Step}
use Rattle.secrecy.specs.Seen.{Seen, member}
use Rattle.secrecy.specs.Rules.{SameAnswers, refusal_of}
use Rattle.secrecy.specs.Book.{Book, blank}
use Rattle.secrecy.specs.Claim.{Group, Matching}
use Rattle.secrecy.proofs.CallRuns.{posts_after, seen, Rules, book_after, Agree, AgreeCalled}

pub record Premises (plan : Plan) (group : List ℕ) (u u' : Secrets) (cs : List Step) (R : Seen) : Type 0 where
  pub sound : Sound plan
  pub group_few : Group plan group
  pub secrets : (r : ℕ) → IsRaw (plan.raw r) → (u r < p) × (u' r < p)
  pub dealers : (r dealer : ℕ) → plan.raw r ≡ by dealer → member dealer group ≡ true → u r ≡ u' r
  pub same_answers : SameAnswers R.entries
  pub rules : Rules plan cs R.entries R.deals
  pub agree : Agree u u' cs R.entries blank blank

-- with the numbers alone that a post of the row's set called for
pub record PremisesCalled (plan : Plan) (group : List ℕ) (u u' : Secrets) (cs : List Step) (R : Seen) : Type 0 where
  pub sound : Sound plan
  pub group_few : Group plan group
  pub secrets : (r : ℕ) → IsRaw (plan.raw r) → (u r < p) × (u' r < p)
  pub dealers : (r dealer : ℕ) → plan.raw r ≡ by dealer → member dealer group ≡ true → u r ≡ u' r
  pub same_answers : SameAnswers R.entries
  pub rules : Rules plan cs R.entries R.deals
  pub agree : AgreeCalled plan u u' cs R.entries all_posts blank blank

pub record Shows (plan : Plan) (group : List ℕ) (rows : ℕ → List ℕ) (cs : List Step) (u : Secrets) (R : Seen) (draw : Draw) : Type 0 where
  pub is_draw : IsDraw plan draw
  pub same : seen plan group draw u rows cs ≡ R

pub record Abreast (q q' : Post) (b b' : Book) : Type 0 where
  pub session : q.session ≡ q'.session
  pub long : length q.rows ≡ length q'.rows
  pub rows : (r : ℕ) → r ≤ last_row_at → mark q.session r ≡ held → b.place r ≡ b'.place r
      → row_at (width q.session) q.rows r ≡ row_at (width q.session) q'.rows r

-- The posts after the calls, of a draw that shows R.
abbrev pub posts_of : Plan → (ℕ → List ℕ) → List Step → Seen → Secrets → Draw → ℕ → Post
posts_of plan rows cs R u draw = posts_after plan draw u cs R.deals (λ i. new_post plan draw (rows i) i)

pub record Beside (plan : Plan) (rows : ℕ → List ℕ) (cs : List Step) (u u' : Secrets) (R : Seen) (d d' : Draw) : Type 0 where
  pub points : d.points ≡ d'.points
  pub posts : (i : ℕ) → 1 ≤ i → i ≤ plan.n
      → Abreast (posts_of plan rows cs R u d i) (posts_of plan rows cs R u' d' i) (book_after u cs R.entries blank) (book_after u' cs R.entries blank)

-- The same matching, with that.
abbrev pub SecrecyEverywhere : Type 0
SecrecyEverywhere =
    (plan : Plan) (group : List ℕ) (rows : ℕ → List ℕ) (cs : List Step) (u u' : Secrets) (R : Seen) → Premises plan group u u' cs R
    → (m : Matching (Shows plan group rows cs u R) (Shows plan group rows cs u' R))
    × ((d : Draw) → Shows plan group rows cs u R d → Beside plan rows cs u u' R d (m.to d))

abbrev pub NeverThirteen : Type 0
NeverThirteen =
    (plan : Plan) (group : List ℕ) (rows : ℕ → List ℕ) (cs : List Step) (u : Secrets) (R : Seen) → Sound plan
    → ((r : ℕ) → IsRaw (plan.raw r) → u r < p) → SameAnswers R.entries → Rules plan cs R.entries R.deals
    → (d : Draw) → Shows plan group rows cs u R d → All (λ e. refusal_of e ≢ 13) R.entries

-- a record that some draw shows asks for no other numbers
abbrev pub BarredAddNothing : Type 0
BarredAddNothing =
    (plan : Plan) (group : List ℕ) (rows : ℕ → List ℕ) (cs : List Step) (u u' : Secrets) (R : Seen) → Sound plan
    → ((r : ℕ) → IsRaw (plan.raw r) → u r < p) → SameAnswers R.entries → Rules plan cs R.entries R.deals
    → (d : Draw) → Shows plan group rows cs u R d
    → AgreeCalled plan u u' cs R.entries all_posts blank blank → Agree u u' cs R.entries blank blank

abbrev pub SecrecyCalled : Type 0
SecrecyCalled =
    (plan : Plan) (group : List ℕ) (rows : ℕ → List ℕ) (cs : List Step) (u u' : Secrets) (R : Seen) → PremisesCalled plan group u u' cs R
    → (m : Matching (Shows plan group rows cs u R) (Shows plan group rows cs u' R))
    × ((d : Draw) → Shows plan group rows cs u R d → Beside plan rows cs u u' R d (m.to d))
