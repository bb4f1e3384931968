-- Document 02, (xiii): what a glimpse shows, and what a choice gets.
use Prim.Native.Nat.{ℕ, zero, suc, ◌+◌, ◌≤◌, ◌<◌}
use mathlib.Core.Path.{◌≡◌, refl, sym, ◌∙◌, ap, ap₂}
use mathlib.Core.Bool.{Bool, true, false, cond, false≢true}
use mathlib.Core.Logic.{◌≢◌, inl, inr}
use mathlib.Core.List.{List, [], ◌∷◌, ◌++◌, map, append-nil, append_assoc}
use native.Mathlib.Decide.{ℕ_discrete}
use native.Mathlib.Omega.{arith}
use Rattle.poly.proofs.Lists.{all_of, map_same}
use Rattle.parts.specs.Draw.{each_from}
use Rattle.refusal.specs.Refusal.{outcome}
use Rattle.session.specs.declared.Session.{Session}
use Rattle.session.specs.Sessions.{answer}
use Rattle.message.specs.Message.{message_refusal_of}
use Rattle.runs.specs.Draws.{Plan, Draw}
use Rattle.runs.specs.Calls.{Among, Performed, perform}
use Rattle.runs.specs.Orders.{Desk, carry}
use Rattle.secrecy.specs.Steps.{Secrets, Following, Lent}
use Rattle.secrecy.specs.Seen.{Seen, posts, joined, done_at, entry_of, seen}
use Rattle.secrecy.specs.Lies.{Happening, messages, opens, Glimpse, Choice, those, desk_by, entry_by, glimpse, desks_then, last_opening, seen_to_the_last}
use Rattle.secrecy.specs.Claim.{desks_of}
use Rattle.secrecy.specs.LiesRead.{MakersRead, AllMake, MessagesShow, OpensShow, GlimpsesRead, ChoiceMade, ChoicesRead, LastRead, LastAsks}
use Rattle.secrecy.proofs.LyingLast.{message_kept, open_kept, all_kept}

-- ---- those of the posts that make a call

among_those : (by : ℕ → Bool) (i : ℕ) (is : List ℕ) → Among i (those by is) → Among i is × (by i ≡ true)
unfolding those
among_those by i [] m = absurd m
among_those by i (x ∷ is) m = go (among_those by i is) (by x) refl m
  where
    go : (Among i (those by is) → Among i is × (by i ≡ true)) → (b : Bool) → by x ≡ b → Among i (cond b (x ∷ those by is) (those by is))
        → Among i (x ∷ is) × (by i ≡ true)
    go h true e (inl q) = (inl q, ap by q ∙ e)
    go h true e (inr m) = (inr (h m).0, (h m).1)
    go h false e m = (inr (h m).0, (h m).1)

those_among : (by : ℕ → Bool) (i : ℕ) (is : List ℕ) → Among i is → by i ≡ true → Among i (those by is)
unfolding those
those_among by i [] m t = absurd m
those_among by i (x ∷ is) m t = go (λ k. those_among by i is k t) (by x) refl m
  where
    go : (Among i is → Among i (those by is)) → (b : Bool) → by x ≡ b → Among i (x ∷ is) → Among i (cond b (x ∷ those by is) (those by is))
    go h true e (inl q) = inl q
    go h true e (inr m) = inr (h m)
    go h false e (inl q) = absurd (false≢true (sym e ∙ ap by (sym q) ∙ t))
    go h false e (inr m) = h m

among_from : (j m i : ℕ) → Among i (each_from j m (λ x. x)) → (j ≤ i) × (i < j + m)
unfolding each_from
among_from j zero i k = absurd k
among_from j (suc m) i (inl e) = (omega arith, omega arith)
among_from j (suc m) i (inr k) = let (a, b) = among_from (suc j) m i k in (omega arith, omega arith)

from_among : (j m i : ℕ) → j ≤ i → i < j + m → Among i (each_from j m (λ x. x))
unfolding each_from
from_among j zero i lo hi = absurd (omega arith)
from_among j (suc m) i lo hi = go (ℕ_discrete i j) (λ ne. from_among (suc j) m i (omega arith) (omega arith))
  where
    go : Dec (i ≡ j) → (i ≢ j → Among i (each_from (suc j) m (λ x. x))) → Among i (j ∷ each_from (suc j) m (λ x. x))
    go (yes e) h = inl e
    go (no ne) h = inr (h ne)

pub makers_read : MakersRead
unfolding posts
makers_read n by i = (
  (λ m.
      let (there, t) = among_those by i (each_from 1 n (λ x. x)) m in
      let (a, b) = among_from 1 n i there in (a, omega arith, t)),
  (λ h. let (a, b, t) = h in those_among by i (each_from 1 n (λ x. x)) (from_among 1 n i a (omega arith)) t),
)

-- where all make it
those_all : (is : List ℕ) → those (λ i. true) is ≡ is
unfolding those
those_all [] = refl
those_all (i ∷ is) = ap (λ (l : List ℕ). i ∷ l) (those_all is)

pub all_make : AllMake
unfolding entry_by desk_by entry_of
all_make plan group draw u o q =
    λ j. record {
      refusals = map (λ i. (entry_of_lem i).answer.refusal) (all j);
      values = map (λ i. (entry_of_lem i).answer.value) (all j);
      lines = (entry_of plan group draw u [] o q).lines;
      rows = (entry_of plan group draw u [] o q).rows;
    }
  where
    entry_of_lem : ℕ → Performed
    entry_of_lem i = (done_at plan draw u [] o q i).done

    all : those (λ i. true) (posts plan.n) ≡ posts plan.n
    all = those_all (posts plan.n)

-- ---- glimpses

-- nothing of those that make no call
joined_those : (f : ℕ → List (List ℕ)) (by : ℕ → Bool) (is : List ℕ) → joined (map (λ i. cond (by i) (f i) []) is) ≡ joined (map f (those by is))
unfolding joined those
joined_those f by [] = refl
joined_those f by (i ∷ is) = go (by i) (joined_those f by is)
  where
    go : (b : Bool) → joined (map (λ i. cond (by i) (f i) []) is) ≡ joined (map f (those by is))
        → cond b (f i) [] ++ joined (map (λ i. cond (by i) (f i) []) is) ≡ joined (map f (cond b (i ∷ those by is) (those by is)))
    go true e = ap (λ (l : List (List ℕ)). f i ++ l) e
    go false e = e

joined_none : (is : List ℕ) → joined {A = List ℕ} (map (λ i. []) is) ≡ []
unfolding joined
joined_none [] = refl
joined_none (i ∷ is) = joined_none is

-- a message opens no number
value_none : (k : ℕ) (s : Session) → (answer k 0 s s).value ≡ 0
unfolding outcome
value_none zero s = refl
value_none (suc k) s = refl

module _ (plan : Plan) (group : List ℕ) (draw : Draw) (u : Secrets) (r : ℕ) (q : ℕ → Desk) where
  messages_show : (caller : ℕ) (lent : Lent) (by : ℕ → Bool)
      → MessagesShow plan group draw u r q caller lent by (glimpse plan group draw u r (messages caller lent by) q)
  unfolding glimpse entry_by carry perform
  messages_show caller lent by =
      record {
        acceptances = refl;
        refusals = refl;
        values = map_same _ _ (those by (posts plan.n)) (all_of (λ i. value_none (message_refusal_of (q i).post.session (q i).post.rows r caller (map (λ (x : Following). x draw u) (lent i))) (q i).post.session) (those by (posts plan.n)));
        lines = joined_those _ by (posts plan.n);
        rows = ap (λ (k : ℕ → Desk). map (λ i. (k i).post.rows) group) (message_kept plan group draw u r caller lent by q);
      }

  opens_show : (records : ℕ → List ℕ) (by : ℕ → Bool) → OpensShow plan group draw u r q records by (glimpse plan group draw u r (opens records by) q)
  unfolding glimpse entry_by carry perform
  opens_show records by =
      record {
        refusals = refl;
        values = refl;
        acceptances = refl;
        lines = joined_none (posts plan.n);
        rows = ap (λ (k : ℕ → Desk). map (λ i. (k i).post.rows) group) (open_kept plan group draw u r records by q);
      }

  -- ---- choices

  goes_on : (R : Seen) (choices : List Choice) (past : List Glimpse) (choose : Choice) (more : List Choice)
      → (let told = last_opening plan group draw u r R choices past q in
      let next = glimpse plan group draw u r (choose R (past ++ told)) q in
      last_opening plan group draw u r R (choices ++ (choose ∷ more)) past q
      ≡ told ++ (next ∷ last_opening plan group draw u r R more ((past ++ told) ++ (next ∷ [])) q))
  unfolding last_opening
  goes_on R [] past choose more =
      let g : List Glimpse → Glimpse = λ l. glimpse plan group draw u r (choose R l) q in
      ap₂ (λ (l : List Glimpse) (k : ℕ → Desk). g l ∷ last_opening plan group draw u r R more (l ++ (g l ∷ [])) k) (sym (append-nil past)) (all_kept plan group draw u r (choose R past) q)
  goes_on R (c ∷ choices) past choose more =
      let look : Happening → Glimpse = λ x. glimpse plan group draw u r x q in
      let g : Glimpse = look (c R past) in
      let from : List Glimpse → List Glimpse → List Glimpse = λ t l. g ∷ (t ++ (look (choose R l) ∷ last_opening plan group draw u r R more (l ++ (look (choose R l) ∷ [])) q)) in
      let told : (ℕ → Desk) → List Glimpse = λ k. last_opening plan group draw u r R choices (past ++ (g ∷ [])) k in
      ap (λ (k : ℕ → Desk). g ∷ last_opening plan group draw u r R (choices ++ (choose ∷ more)) (past ++ (g ∷ [])) k) (all_kept plan group draw u r (c R past) q)
      ∙ ap (λ (l : List Glimpse). g ∷ l) (goes_on R choices (past ++ (g ∷ [])) choose more)
      ∙ ap (from (told q)) (append_assoc past (g ∷ []) (told q))
      ∙ ap (λ (k : ℕ → Desk). from (told k) (past ++ (g ∷ told k))) (sym (all_kept plan group draw u r (c R past) q))

pub choices_read : ChoicesRead
choices_read plan group draw u r q R choices choose more = goes_on plan group draw u r q R choices [] choose more

pub glimpses_read : GlimpsesRead
unfolding glimpse
glimpses_read plan group draw u r q =
    record { of_messages = messages_show plan group draw u r q; of_lie = λ j xs. refl; of_opens = opens_show plan group draw u r q }

pub last_read : LastRead
unfolding seen_to_the_last last_opening
last_read plan group rows os r u draw =
    record {
      before = λ choices. refl;
      none = refl;
      next = λ choices choose. goes_on plan group draw u r (desks_of plan rows os (seen plan group draw u rows os) u draw) (seen plan group draw u rows os) choices [] choose [];
    }

pub last_asks : LastAsks
last_asks plan group u u' os r R before row = record { before = before; row = row }
