-- An inner step of demand 3: the run of a list of calls on a session alone, its record, its rules and its book. The demand speaks of orders
-- (specs/), of which each comes to a call or to none.
use Prim.Native.Nat.{ℕ}
use mathlib.Core.Path.{◌≡◌}
use mathlib.Core.Bool.{true, cond}
use mathlib.Core.List.{List, [], ◌∷◌, ◌++◌, map}
use Rattle.runs.specs.Draws.{Plan, Draw}
use Rattle.runs.specs.Calls.{Post, Performed, perform, after, broadcast, new_post}
use Rattle.runs.specs.Callers.{Sets, set_after}
use Rattle.secrecy.specs.Steps.{Secrets, Step, call_at, heard_from}
use Rattle.secrecy.specs.Seen.{posts, all_rows, joined, Entry, Seen, deal_lines, points_seen, raw_seen, triple_seen, polynomial_seen}
use Rattle.secrecy.specs.Rules.{refusal_of, Rule}
use Rattle.secrecy.specs.Callers.{called}
use Rattle.secrecy.specs.Book.{Book, booked, Agrees}

module _ (plan : Plan) (draw : Draw) (u : Secrets) where
  -- what the call does at post i
  abbrev pub done_at : List (List ℕ) → Step → (ℕ → Post) → ℕ → Performed
  done_at lines c q i = perform (call_at plan draw u lines i c) (q i)

  -- the lines that the call broadcasts, post 1's first; "however few posts send one"
  abbrev pub lines_of : List (List ℕ) → Step → (ℕ → Post) → List (List ℕ)
  lines_of lines c q =
      joined (map (λ i. cond (heard_from c i) (broadcast i (call_at plan draw u lines i c) (done_at lines c q i)) []) (posts plan.n))

  -- the posts after the calls, each of which gets what the one before handed back
  unfoldable pub posts_after : List Step → List (List ℕ) → (ℕ → Post) → ℕ → Post
  posts_after [] lines q = q
  posts_after (c ∷ cs) lines q = posts_after cs (lines ++ lines_of lines c q) (λ i. after (done_at lines c q i))

module _ (plan : Plan) (group : List ℕ) (draw : Draw) (u : Secrets) where
  unfoldable pub entry_of : List (List ℕ) → Step → (ℕ → Post) → Entry
  entry_of lines c q =
      record {
        refusals = map (λ i. (done_at plan draw u lines c q i).answer.refusal) (posts plan.n);
        values = map (λ i. (done_at plan draw u lines c q i).answer.value) (posts plan.n);
        lines = lines_of plan draw u lines c q;
        rows = map (λ i. (done_at plan draw u lines c q i).rows) group;
      }

  -- all posts make the calls in step, each from what the call before handed back
  unfoldable pub run : List Step → List (List ℕ) → (ℕ → Post) → List Entry
  run [] lines q = []
  run (c ∷ cs) lines q =
      entry_of lines c q ∷ run cs (lines ++ lines_of plan draw u lines c q) (λ i. after (done_at plan draw u lines c q i))

  unfoldable pub seen : (ℕ → List ℕ) → List Step → Seen
  seen rows cs =
      record {
        points = map (points_seen plan group draw u) group;
        raws = map (raw_seen plan group draw u) group;
        triples = map (triple_seen plan group draw u) group;
        polynomials = map (polynomial_seen plan group draw u) all_rows;
        deals = deal_lines plan draw u;
        entries = run cs (deal_lines plan draw u) (λ i. new_post plan draw (rows i) i);
      }

abbrev pub Rules : Plan → List Step → List Entry → List (List ℕ) → Type 0
Rules plan [] es lines = Unit {0}
Rules plan (c ∷ cs) [] lines = Unit {0}
Rules plan (c ∷ cs) (e ∷ es) lines = Rule plan c (refusal_of e) lines × Rules plan cs es (lines ++ e.lines)

unfoldable pub book_after : Secrets → List Step → List Entry → Book → Book
book_after u [] es b = b
book_after u (c ∷ cs) [] b = b
book_after u (c ∷ cs) (e ∷ es) b = book_after u cs es (booked u c (refusal_of e) b)

-- the numbers agree at every opening message; or at those alone that a post of the row's set called for
abbrev pub Agree : Secrets → Secrets → List Step → List Entry → Book → Book → Type 0
Agree u u' [] es b b' = Unit {0}
Agree u u' (c ∷ cs) [] b b' = Unit {0}
Agree u u' (c ∷ cs) (e ∷ es) b b' =
    Agrees c (refusal_of e) b b' × Agree u u' cs es (booked u c (refusal_of e) b) (booked u' c (refusal_of e) b')

abbrev pub AgreeCalled : Plan → Secrets → Secrets → List Step → List Entry → Sets → Book → Book → Type 0
AgreeCalled plan u u' [] es X b b' = Unit {0}
AgreeCalled plan u u' (c ∷ cs) [] X b b' = Unit {0}
AgreeCalled plan u u' (c ∷ cs) (e ∷ es) X b b' =
    (called plan X c ≡ true → Agrees c (refusal_of e) b b')
    × AgreeCalled plan u u' cs es (set_after c (refusal_of e) X) (booked u c (refusal_of e) b) (booked u' c (refusal_of e) b')
