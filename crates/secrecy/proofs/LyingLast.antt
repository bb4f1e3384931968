-- Document 02, (xiii): the last opening in two runs. Nothing of it changes a post, so that each choice meets the same posts, and the same is seen.
use Prim.Native.Nat.{ℕ, zero, suc, ◌+◌, ◌≤◌, ◌<◌}
use mathlib.Core.Path.{◌≡◌, refl, sym, ◌∙◌, ap, ap₂, subst, fun_ext}
use mathlib.Core.Bool.{Bool, true, false, cond}
use mathlib.Core.List.{List, [], ◌∷◌, ◌++◌, map}
use native.Mathlib.Omega.{arith}
use lib.ListN.{length, length-map}
use Rattle.poly.specs.Counting.{All}
use Rattle.poly.proofs.Lists.{map_same}
use Rattle.parts.specs.Draw.{each_from}
use Rattle.shape.specs.Bounds.{last_row_at}
use Rattle.shape.specs.Marks.{held}
use Rattle.session.specs.declared.Session.{Session}
use Rattle.session.specs.declared.Answer.{Answer}
use Rattle.session.specs.Sessions.{mark}
use Rattle.session.specs.Rows.{width, row_at}
use Rattle.message.specs.Message.{message_refusal_of, message_answer, message_out_of}
use Rattle.opening.specs.Opening.{open_refusal_of, open_answer}
use Rattle.opening.specs.Walking.{opened}
use Rattle.runs.specs.Outline.{its_opening}
use Rattle.runs.specs.Draws.{Plan, Draw}
use Rattle.runs.specs.Calls.{Post, sent_by, perform}
use Rattle.runs.specs.Orders.{call, Desk, desk_after, carry}
use Rattle.secrecy.specs.Steps.{Secrets, Following, Lent, message, opening}
use Rattle.secrecy.specs.Seen.{Seen, posts, joined, done_at, lines_of}
use Rattle.secrecy.specs.Lies.{Happening, messages, lie, opens, Glimpse, Choice, accepted_at, those, desk_by, entry_by, glimpse, desks_then, last_opening}
use Rattle.secrecy.proofs.OneCall.{posts_same}
use Rattle.secrecy.proofs.Lying.{session_kept, message_answer_is, message_line, open_answer_is, accepted_same}

-- ---- nothing changes a post

module _ (plan : Plan) (group : List ℕ) (draw : Draw) (u : Secrets) (r : ℕ) where
  kept_by : (by : ℕ → Bool) (q q' : ℕ → Desk) → ((i : ℕ) → q' i ≡ q i) → (i : ℕ) → cond (by i) (q' i) (q i) ≡ q i
  kept_by by q q' e i = go (by i)
    where
      go : (b : Bool) → cond b (q' i) (q i) ≡ q i
      go true = e i
      go false = refl

  pub message_kept : (caller : ℕ) (lent : Lent) (by : ℕ → Bool) (q : ℕ → Desk) → desk_by plan group draw u by (call (message r caller lent by)) q ≡ q
  unfolding desk_by carry perform
  message_kept caller lent by q =
      fun_ext (kept_by by q (λ i. desk_after (done_at plan draw u [] (call (message r caller lent by)) q i)) (λ i j.
      record { post = record { session = session_kept (message_refusal_of (q i).post.session (q i).post.rows r caller (map (λ (x : Following). x draw u) (lent i))) 0 (q i).post.session j; rows = (q i).post.rows }; state = (q i).state }))

  pub open_kept : (records : ℕ → List ℕ) (by : ℕ → Bool) (q : ℕ → Desk) → desk_by plan group draw u by (call (opening r (λ i lines. records i))) q ≡ q
  unfolding desk_by carry perform
  open_kept records by q =
      fun_ext (kept_by by q (λ i. desk_after (done_at plan draw u [] (call (opening r (λ i lines. records i))) q i)) (λ i j.
      record {
        post = record {
          session = session_kept (open_refusal_of (q i).post.session (q i).post.rows r (records i))
              (opened (q i).post.session (row_at (width (q i).post.session) (q i).post.rows r) (records i)) (q i).post.session j;
          rows = (q i).post.rows;
        };
        state = (q i).state;
      }))

  pub all_kept : (x : Happening) (q : ℕ → Desk) → desks_then plan group draw u r x q ≡ q
  unfolding desks_then
  all_kept (messages caller lent by) q = message_kept caller lent by q
  all_kept (lie j xs) q = refl
  all_kept (opens records by) q = open_kept records by q

-- ---- one thing that happens, in two runs

-- a map over those of the posts 1 to n that make a call
those_from : {A : Type 0} (f g : ℕ → A) (by : ℕ → Bool) (j m : ℕ) → ((i : ℕ) → j ≤ i → i < j + m → f i ≡ g i)
    → map f (those by (each_from j m (λ i. i))) ≡ map g (those by (each_from j m (λ i. i)))
unfolding each_from those
those_from f g by j zero h = refl
those_from f g by j (suc m) h = go (by j) (those_from f g by (suc j) m (λ i a c. h i (omega arith) (omega arith)))
  where
    rest : List ℕ
    rest = those by (each_from (suc j) m (λ i. i))

    go : (b : Bool) → map f (those by (each_from (suc j) m (λ i. i))) ≡ map g (those by (each_from (suc j) m (λ i. i)))
        → map f (cond b (j ∷ those by (each_from (suc j) m (λ i. i))) (those by (each_from (suc j) m (λ i. i))))
        ≡ map g (cond b (j ∷ those by (each_from (suc j) m (λ i. i))) (those by (each_from (suc j) m (λ i. i))))
    go true e = ap₂ ◌∷◌ (h j (omega arith) (omega arith)) e
    go false e = e

pub those_same : {A : Type 0} (f g : ℕ → A) (by : ℕ → Bool) (n : ℕ) → ((i : ℕ) → 1 ≤ i → i ≤ n → f i ≡ g i)
    → map f (those by (posts n)) ≡ map g (those by (posts n))
unfolding posts
those_same f g by n h = those_from f g by 1 n (λ i a c. h i a (omega arith))

-- one post in the two runs, as far as row r goes
pub record Fellow (r : ℕ) (q q' : Desk) : Type 0 where
  pub session : q.post.session ≡ q'.post.session
  pub long : length q.post.rows ≡ length q'.post.rows
  pub row : r ≤ last_row_at → mark q.post.session r ≡ held
      → row_at (width q.post.session) q.post.rows r ≡ row_at (width q.post.session) q'.post.rows r

module _ (r : ℕ) (q q' : Desk) (e : Fellow r q q') where
  abbrev s : Session
  s = q.post.session

  abbrev l : List ℕ
  l = q.post.rows

  abbrev l' : List ℕ
  l' = q'.post.rows

  answers_message : (caller : ℕ) (lent lent' : List ℕ) → length lent ≡ length lent'
      → message_answer s l r caller lent ≡ message_answer q'.post.session l' r caller lent'
  answers_message caller lent lent' m =
      message_answer_is s l l' r e.long e.row caller lent lent' m ∙ ap (λ (x : Session). message_answer x l' r caller lent') e.session

  sends_message : (i caller : ℕ) (lent lent' : List ℕ) → length lent ≡ length lent'
      → sent_by i (message_answer s l r caller lent).refusal (its_opening r ∷ []) (message_out_of s l r caller lent ∷ [])
      ≡ sent_by i (message_answer q'.post.session l' r caller lent').refusal (its_opening r ∷ []) (message_out_of q'.post.session l' r caller lent' ∷ [])
  sends_message i caller lent lent' m =
      message_line s l l' r e.long e.row i caller lent lent' m
      ∙ ap (λ (x : Session). sent_by i (message_answer x l' r caller lent').refusal (its_opening r ∷ []) (message_out_of x l' r caller lent' ∷ [])) e.session

  answers_open : (blocks : List ℕ) → open_answer s l r blocks ≡ open_answer q'.post.session l' r blocks
  answers_open blocks =
      open_answer_is s l l' r e.long e.row blocks ∙ ap (λ (x : Session). open_answer x l' r blocks) e.session

  accepts_same : (blocks : List ℕ) → accepted_at r blocks q.post ≡ accepted_at r blocks q'.post
  accepts_same blocks =
      accepted_same s l l' r e.long e.row blocks ∙ ap (λ (x : Session). accepted_at r blocks (record { session = x; rows = l' })) e.session

module _ (plan : Plan) (group : List ℕ) (d d' : Draw) (u u' : Secrets) (r : ℕ) (q q' : ℕ → Desk)
    (fellows : (i : ℕ) → 1 ≤ i → i ≤ plan.n → Fellow r (q i) (q' i)) (rows : All (λ i. (q i).post.rows ≡ (q' i).post.rows) group) where
  lent_long : (lent : List Following) → length (map (λ (x : Following). x d u) lent) ≡ length (map (λ (x : Following). x d' u') lent)
  lent_long lent = length-map lent (λ (x : Following). x d u) ∙ sym (length-map lent (λ (x : Following). x d' u'))

  group_rows : (by : ℕ → Bool) (k k' : ℕ → Desk) → k ≡ q → k' ≡ q' → map (λ i. (k i).post.rows) group ≡ map (λ i. (k' i).post.rows) group
  group_rows by k k' e e' =
      ap (λ (x : ℕ → Desk). map (λ i. (x i).post.rows) group) e ∙ map_same _ _ group rows ∙ sym (ap (λ (x : ℕ → Desk). map (λ i. (x i).post.rows) group) e')

  glimpse_same : (x : Happening) → glimpse plan group d u r x q ≡ glimpse plan group d' u' r x q'
  unfolding glimpse entry_by carry perform
  glimpse_same (messages caller lent by) =
      let same : (i : ℕ) → 1 ≤ i → i ≤ plan.n → message_answer (q i).post.session (q i).post.rows r caller (map (λ (x : Following). x d u) (lent i))
      ≡ message_answer (q' i).post.session (q' i).post.rows r caller (map (λ (x : Following). x d' u') (lent i)) =
      λ i lo hi. answers_message r (q i) (q' i) (fellows i lo hi) caller _ _ (lent_long (lent i)) in
      let a = those_same _ _ by plan.n (λ i lo hi. ap (λ (x : Answer). x.refusal) (same i lo hi)) in
      let b = those_same _ _ by plan.n (λ i lo hi. ap (λ (x : Answer). x.value) (same i lo hi)) in
      let c : lines_of plan d u [] (call (message r caller lent by)) q ≡ lines_of plan d' u' [] (call (message r caller lent by)) q' =
      ap joined (posts_same _ _ plan.n (λ i lo hi.
      ap (λ (l : List (List ℕ)). cond (by i) l []) (sends_message r (q i) (q' i) (fellows i lo hi) i caller _ _ (lent_long (lent i))))) in
      let e = group_rows by _ _ (message_kept plan group d u r caller lent by q) (message_kept plan group d' u' r caller lent by q') in
      λ j. record { entry = record { refusals = a j; values = b j; lines = c j; rows = e j }; acceptances = [] }
  glimpse_same (lie j xs) = refl
  glimpse_same (opens records by) =
      let same : (i : ℕ) → 1 ≤ i → i ≤ plan.n → open_answer (q i).post.session (q i).post.rows r (records i) ≡ open_answer (q' i).post.session (q' i).post.rows r (records i) =
      λ i lo hi. answers_open r (q i) (q' i) (fellows i lo hi) (records i) in
      let a = those_same _ _ by plan.n (λ i lo hi. ap (λ (x : Answer). x.refusal) (same i lo hi)) in
      let b = those_same _ _ by plan.n (λ i lo hi. ap (λ (x : Answer). x.value) (same i lo hi)) in
      let e = group_rows by _ _ (open_kept plan group d u r records by q) (open_kept plan group d' u' r records by q') in
      let f = those_same _ _ by plan.n (λ i lo hi. accepts_same r (q i) (q' i) (fellows i lo hi) (records i)) in
      λ j. record { entry = record { refusals = a j; values = b j; lines = lines_of plan d u [] (call (opening r (λ i lines. records i))) q; rows = e j }; acceptances = f j }

  -- the whole of it
  pub last_same : (R : Seen) (choices : List Choice) (past : List Glimpse)
      → last_opening plan group d u r R choices past q ≡ last_opening plan group d' u' r R choices past q'
  unfolding last_opening
  last_same R [] past = refl
  last_same R (choose ∷ choices) past =
      let x = choose R past in
      let g = glimpse_same x in
      ap₂ ◌∷◌ g
      (ap (λ (k : ℕ → Desk). last_opening plan group d u r R choices (past ++ (glimpse plan group d u r x q ∷ [])) k) (all_kept plan group d u r x q)
      ∙ ap (λ (y : Glimpse). last_opening plan group d u r R choices (past ++ (y ∷ [])) q) g
      ∙ last_same R choices (past ++ (glimpse plan group d' u' r x q' ∷ []))
      ∙ ap (λ (k : ℕ → Desk). last_opening plan group d' u' r R choices (past ++ (glimpse plan group d' u' r x q' ∷ [])) k) (sym (all_kept plan group d' u' r x q')))
