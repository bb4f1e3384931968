-- A run of orders, and the run of the calls that AsCalls.antt makes of them: the second has the entries of the first, as it has them there, and
-- the same posts.
use Prim.Native.Nat.{ℕ, zero, suc, ◌≤◌, ◌<◌}
use mathlib.Core.Path.{◌≡◌, refl, sym, ◌∙◌, ap, ap₂, subst}
use mathlib.Core.Bool.{cond}
use mathlib.Core.List.{List, [], ◌∷◌, ◌++◌, map, append-nil}
use native.Mathlib.Omega.{arith}
use lib.ListN.{length}
use Rattle.field.specs.Modulus.{p}
use Rattle.poly.specs.Counting.{All}
use Rattle.poly.proofs.Lists.{all_map, map_same}
use Rattle.parts.specs.Draw.{each_from}
use Rattle.session.specs.declared.Session.{Session}
use Rattle.session.specs.declared.Answer.{Answer}
use Rattle.dealers.specs.Calls.{place_refusal_of, place_after_of, turn_answer, turn_rows}
use Rattle.deal.specs.Deal.{deal_answer, deal_rows_of}
use Rattle.runs.specs.Draws.{Plan, Draw, Sound}
use Rattle.runs.specs.Calls.{Post, perform, after, broadcast}
use Rattle.runs.specs.Orders.{call, place, turn, Desk, carry, desk_after}
use Rattle.runs.proofs.Start.{sizes}
use Rattle.secrecy.specs.Steps.{Secrets, Step, Item, Placed, call_at, heard_from, dealt_number}
use Rattle.secrecy.specs.Seen.{Entry, posts, joined, line_at, done_at, lines_of, desks_after, entry_of, run}
use Rattle.secrecy.specs.Waiting.{Waiting, waiting_after}
use Rattle.secrecy.specs.Rules.{refusal_of, AllSame, SameAnswers}
use Rattle.secrecy.proofs.CallRuns as Calls
use Rattle.secrecy.proofs.OneCall.{posts_same}
use Rattle.secrecy.proofs.Runs.{same_refusal}
use Rattle.secrecy.proofs.Frames.{frame, frame_small, frame_back}
use Rattle.secrecy.proofs.Places.{Kept, kept_placed}
use Rattle.secrecy.proofs.Doings.{Doing, idle, deals, turn_doing, Goes, turn_goes}
use Rattle.secrecy.proofs.Turning.{probe_answer, probe_rows, Done, turn_done, kept_turn}
use Rattle.secrecy.proofs.AsCalls.{turn_step, probed, probed_all, turn_entry, probed_is, plain_steps, plain_entries}

joined_nil : (l : List ℕ) → joined {A = List ℕ} (map (λ i. []) l) ≡ []
unfolding joined
joined_nil [] = refl
joined_nil (i ∷ l) = joined_nil l

pub probed_map : (f : ℕ → ℕ) (n : ℕ) → 1 ≤ n → probed_all (map f (posts n)) ≡ map (λ i. probed (f i)) (posts n)
unfolding posts each_from
probed_map f zero h = absurd (omega arith)
probed_map f (suc n) h = ap (λ (l : List ℕ). probed (f 1) ∷ l) (go (each_from 2 n (λ i. i)))
  where
    go : (l : List ℕ) → map probed (map f l) ≡ map (λ i. probed (f i)) l
    go [] = refl
    go (i ∷ l) = ap (λ (x : List ℕ). probed (f i) ∷ x) (go l)

module _ (plan : Plan) (group : List ℕ) (draw : Draw) (u : Secrets) (sound : Sound plan) (low : (r : ℕ) → dealt_number plan draw u r < p)
    (members : All (λ i. (1 ≤ i) × (i ≤ plan.n)) group) where
  -- the desks, the posts of the other run, and the book's places: where 1 to 5 do not refuse, these are the state's
  abbrev pub At : (ℕ → Desk) → (ℕ → Post) → Waiting → Type 0
  At q ps w = (i : ℕ) → 1 ≤ i → i ≤ plan.n → (frame (q i).post ≡ 0 → Kept plan draw u w (q i).state) × (ps i ≡ (q i).post)

  pub some : 1 ≤ plan.n
  some = omega (arith, (sizes plan sound).n_low)

  for_group : {A : Type 0} (f g : ℕ → A) → ((i : ℕ) → 1 ≤ i → i ≤ plan.n → f i ≡ g i) → map f group ≡ map g group
  for_group f g h = map_same f g group (all_map (λ i m. h i m.0 m.1) group members)

  -- ---- a call on the session

  module _ (lines : List (List ℕ)) (c : Step) (ps ps' : ℕ → Post) (h : (i : ℕ) → 1 ≤ i → i ≤ plan.n → ps i ≡ ps' i) where
    pub lines_cong : Calls.lines_of plan draw u lines c ps ≡ Calls.lines_of plan draw u lines c ps'
    lines_cong =
        ap joined (posts_same _ _ plan.n (λ i lo hi.
        ap (λ (x : Post). cond (heard_from c i) (broadcast i (call_at plan draw u lines i c) (perform (call_at plan draw u lines i c) x)) []) (h i lo hi)))

    pub entry_cong : Calls.entry_of plan group draw u lines c ps ≡ Calls.entry_of plan group draw u lines c ps'
    unfolding Calls.entry_of
    entry_cong =
        let a = posts_same (λ i. (perform (call_at plan draw u lines i c) (ps i)).answer.refusal) (λ i. (perform (call_at plan draw u lines i c) (ps' i)).answer.refusal) plan.n
        (λ i lo hi. ap (λ (x : Post). (perform (call_at plan draw u lines i c) x).answer.refusal) (h i lo hi)) in
        let b = posts_same (λ i. (perform (call_at plan draw u lines i c) (ps i)).answer.value) (λ i. (perform (call_at plan draw u lines i c) (ps' i)).answer.value) plan.n
        (λ i lo hi. ap (λ (x : Post). (perform (call_at plan draw u lines i c) x).answer.value) (h i lo hi)) in
        let d = for_group (λ i. (perform (call_at plan draw u lines i c) (ps i)).rows) (λ i. (perform (call_at plan draw u lines i c) (ps' i)).rows)
        (λ i lo hi. ap (λ (x : Post). (perform (call_at plan draw u lines i c) x).rows) (h i lo hi)) in
        λ j. record { refusals = a j; values = b j; lines = lines_cong j; rows = d j }

    after_cong : (i : ℕ) → 1 ≤ i → i ≤ plan.n → after (perform (call_at plan draw u lines i c) (ps i)) ≡ after (perform (call_at plan draw u lines i c) (ps' i))
    after_cong i lo hi = ap (λ (x : Post). after (perform (call_at plan draw u lines i c) x)) (h i lo hi)

  pub entry_call : (lines : List (List ℕ)) (c : Step) (q : ℕ → Desk) → Calls.entry_of plan group draw u lines c (λ i. (q i).post) ≡ entry_of plan group draw u lines (call c) q
  unfolding Calls.entry_of entry_of carry
  entry_call lines c q = refl

  pub lines_call : (lines : List (List ℕ)) (c : Step) (q : ℕ → Desk) → Calls.lines_of plan draw u lines c (λ i. (q i).post) ≡ lines_of plan draw u lines (call c) q
  unfolding carry
  lines_call lines c q = refl

  pub at_call : (lines : List (List ℕ)) (c : Step) (q : ℕ → Desk) (ps : ℕ → Post) (w : Waiting) → At q ps w
      → At (λ i. desk_after (done_at plan draw u lines (call c) q i)) (λ i. after (perform (call_at plan draw u lines i c) (ps i))) w
  unfolding carry
  at_call lines c q ps w at i lo hi = (
    (λ z. (at i lo hi).0 (frame_back (call (call_at plan draw u lines i c)) (q i) z)),
    after_cong lines c ps (λ x. (q x).post) (λ x a b. (at x a b).1) i lo hi,
  )

  -- ---- a line placed

  pub at_place : (lines : List (List ℕ)) (q : ℕ → Desk) (ps : ℕ → Post) (w : Waiting) (d : ℕ) (l : Placed) → At q ps w
      → AllSame (entry_of plan group draw u lines (place d l) q).refusals
      → At (λ i. desk_after (done_at plan draw u lines (place d l) q i)) ps (waiting_after (place d l) (refusal_of (entry_of plan group draw u lines (place d l) q)) w)
  unfolding entry_of carry
  at_place lines q ps w d l at same i lo hi =
      let k = place_refusal_of (q i).state d (length (line_at plan draw u l)) in
      let e = same_refusal (λ x. place_refusal_of (q x).state d (length (line_at plan draw u l))) plan.n same i lo hi in (
        (λ z.
            subst (λ (x : ℕ). Kept plan draw u (waiting_after (place d l) x w) (place_after_of (q i).state d (line_at plan draw u l))) e
            (kept_placed plan draw u w (q i).state d l ((at i lo hi).0 z) k refl)),
        (at i lo hi).1,
      )

  -- ---- a turn

  module _ (lines : List (List ℕ)) (q : ℕ → Desk) where
    abbrev S : ℕ → Session
    S i = (q i).post.session

    abbrev L : ℕ → List ℕ
    L i = (q i).post.rows

    abbrev pub AllDone : Doing → Type 0
    AllDone m = (i : ℕ) → 1 ≤ i → i ≤ plan.n → Done plan draw u sound low (q i).post (q i).state m

    pub turn_lines : (m : Doing) → Calls.lines_of plan draw u lines (turn_step m) (λ i. (q i).post) ≡ []
    turn_lines (idle t) = joined_nil (posts plan.n)
    turn_lines (deals r c) = joined_nil (posts plan.n)

    pub turn_entry_is : (m : Doing) → Goes m → AllDone m
        → Calls.entry_of plan group draw u lines (turn_step m) (λ i. (q i).post) ≡ turn_entry m (entry_of plan group draw u lines turn q)
    unfolding Calls.entry_of entry_of carry perform
    turn_entry_is (idle t) g h =
        let a = posts_same (λ i. (deal_answer (S i) (L i) 96 0).refusal) (λ i. probed (turn_answer (S i) (L i) (q i).state).refusal) plan.n
        (λ i lo hi. ap (λ (x : Answer). x.refusal) (probe_answer (q i).post (q i).state)
        ∙ sym (ap (λ (x : Answer). probed x.refusal) (h i lo hi).0 ∙ probed_is (frame (q i).post) t (frame_small (q i).post) g))
        ∙ sym (probed_map (λ i. (turn_answer (S i) (L i) (q i).state).refusal) plan.n some) in
        let b = posts_same (λ i. (deal_answer (S i) (L i) 96 0).value) (λ i. (turn_answer (S i) (L i) (q i).state).value) plan.n
        (λ i lo hi. ap (λ (x : Answer). x.value) (probe_answer (q i).post (q i).state) ∙ sym (ap (λ (x : Answer). x.value) (h i lo hi).0)) in
        let d = for_group (λ i. deal_rows_of (S i) (L i) 96 0) (λ i. turn_rows (S i) (L i) (q i).state)
        (λ i lo hi. probe_rows (q i).post (q i).state ∙ sym (h i lo hi).1) in
        λ j. record { refusals = a j; values = b j; lines = turn_lines (idle t) j; rows = d j }
    turn_entry_is (deals r c) g h =
        let a = posts_same _ (λ i. (turn_answer (S i) (L i) (q i).state).refusal) plan.n (λ i lo hi. ap (λ (x : Answer). x.refusal) (sym (h i lo hi).0)) in
        let b = posts_same _ (λ i. (turn_answer (S i) (L i) (q i).state).value) plan.n (λ i lo hi. ap (λ (x : Answer). x.value) (sym (h i lo hi).0)) in
        let d = for_group _ (λ i. turn_rows (S i) (L i) (q i).state) (λ i lo hi. sym (h i lo hi).1) in
        λ j. record { refusals = a j; values = b j; lines = turn_lines (deals r c) j; rows = d j }

    turn_after : (m : Doing) → AllDone m → (i : ℕ) → 1 ≤ i → i ≤ plan.n
        → after (perform (call_at plan draw u lines i (turn_step m)) (q i).post) ≡ (desk_after (carry turn (q i))).post
    unfolding carry perform
    turn_after (idle t) h i lo hi =
        λ j. record {
          session = (ap (λ (x : Answer). x.session) (probe_answer (q i).post (q i).state) ∙ sym (ap (λ (x : Answer). x.session) (h i lo hi).0)) j;
          rows = (probe_rows (q i).post (q i).state ∙ sym (h i lo hi).1) j;
        }
    turn_after (deals r c) h i lo hi = λ j. record { session = (sym (h i lo hi).0 j).session; rows = sym (h i lo hi).1 j }

  pub all_done : (lines : List (List ℕ)) (q : ℕ → Desk) (ps : ℕ → Post) (w : Waiting) → At q ps w → AllDone lines q (turn_doing w)
  all_done lines q ps w at i lo hi = turn_done plan draw u sound low w (q i).post (q i).state (at i lo hi).0

  kept_here : (w : Waiting) (q : Desk) (k : ℕ) → (frame q.post ≡ 0 → Kept plan draw u w q.state) → frame q.post ≡ 0
      → Kept plan draw u (waiting_after turn k w) (carry turn q).state
  unfolding carry
  kept_here w q k h z = kept_turn plan draw u sound low w q.post q.state h z

  pub at_turn : (lines : List (List ℕ)) (q : ℕ → Desk) (ps : ℕ → Post) (w : Waiting) (k : ℕ) → At q ps w
      → At (λ i. desk_after (done_at plan draw u lines turn q i)) (λ i. after (perform (call_at plan draw u lines i (turn_step (turn_doing w))) (ps i))) (waiting_after turn k w)
  at_turn lines q ps w k at i lo hi = (
    (λ z. kept_here w (q i) k (at i lo hi).0 (frame_back turn (q i) z)),
    after_cong lines (turn_step (turn_doing w)) ps (λ x. (q x).post) (λ x a b. (at x a b).1) i lo hi ∙ turn_after lines q (turn_doing w) (all_done lines q ps w at) i lo hi,
  )

  -- ---- the whole run

  abbrev pub Follows : List Item → List (List ℕ) → (ℕ → Desk) → (ℕ → Post) → Waiting → List Entry → Type 0
  Follows os lines q ps w es =
      (Calls.run plan group draw u (plain_steps os es w) lines ps ≡ plain_entries os es w)
      × ((i : ℕ) → 1 ≤ i → i ≤ plan.n → Calls.posts_after plan draw u (plain_steps os es w) lines ps i ≡ (desks_after plan draw u os lines q i).post)

  pub along : (os : List Item) (lines : List (List ℕ)) (q : ℕ → Desk) (ps : ℕ → Post) (w : Waiting) → At q ps w
      → SameAnswers (run plan group draw u os lines q) → Follows os lines q ps w (run plan group draw u os lines q)
  unfolding Calls.run run Calls.posts_after desks_after
  along [] lines q ps w at same = (refl, (λ i lo hi. (at i lo hi).1))
  along (call c ∷ os) lines q ps w at same =
      let q' : ℕ → Desk = λ i. desk_after (done_at plan draw u lines (call c) q i) in
      let ps' : ℕ → Post = λ i. after (perform (call_at plan draw u lines i c) (ps i)) in
      let lines' = lines ++ lines_of plan draw u lines (call c) q in
      let es = run plan group draw u os lines' q' in
      let l = lines_cong lines c ps (λ i. (q i).post) (λ i lo hi. (at i lo hi).1) ∙ lines_call lines c q in
      let more = along os lines' q' ps' w (at_call lines c q ps w at) same.1 in (
        ap₂ ◌∷◌ (entry_cong lines c ps (λ i. (q i).post) (λ i lo hi. (at i lo hi).1) ∙ entry_call lines c q)
            (ap (λ (x : List (List ℕ)). Calls.run plan group draw u (plain_steps os es w) (lines ++ x) ps') l ∙ more.0),
        (λ i lo hi. ap (λ (x : List (List ℕ)). Calls.posts_after plan draw u (plain_steps os es w) (lines ++ x) ps' i) l ∙ more.1 i lo hi),
      )
  along (place d l ∷ os) lines q ps w at same =
      let q' : ℕ → Desk = λ i. desk_after (done_at plan draw u lines (place d l) q i) in
      let w' = waiting_after (place d l) (refusal_of (entry_of plan group draw u lines (place d l) q)) w in
      let es = run plan group draw u os (lines ++ []) q' in
      let more = along os (lines ++ []) q' ps w' (at_place lines q ps w d l at same.0) same.1 in (
        ap (λ (x : List (List ℕ)). Calls.run plan group draw u (plain_steps os es w') x ps) (sym (append-nil lines)) ∙ more.0,
        (λ i lo hi. ap (λ (x : List (List ℕ)). Calls.posts_after plan draw u (plain_steps os es w') x ps i) (sym (append-nil lines)) ∙ more.1 i lo hi),
      )
  along (turn ∷ os) lines q ps w at same =
      let m = turn_doing w in
      let q' : ℕ → Desk = λ i. desk_after (done_at plan draw u lines turn q i) in
      let ps' : ℕ → Post = λ i. after (perform (call_at plan draw u lines i (turn_step m)) (ps i)) in
      let k = refusal_of (entry_of plan group draw u lines turn q) in
      let w' = waiting_after turn k w in
      let es = run plan group draw u os (lines ++ []) q' in
      let same-posts : (i : ℕ) → 1 ≤ i → i ≤ plan.n → ps i ≡ (q i).post = λ i lo hi. (at i lo hi).1 in
      let l = lines_cong lines (turn_step m) ps (λ i. (q i).post) same-posts ∙ turn_lines lines q m in
      let more = along os (lines ++ []) q' ps' w' (at_turn lines q ps w k at) same.1 in (
        ap₂ ◌∷◌ (entry_cong lines (turn_step m) ps (λ i. (q i).post) same-posts ∙ turn_entry_is lines q m (turn_goes w) (all_done lines q ps w at))
            (ap (λ (x : List (List ℕ)). Calls.run plan group draw u (plain_steps os es w') (lines ++ x) ps') l ∙ more.0),
        (λ i lo hi. ap (λ (x : List (List ℕ)). Calls.posts_after plan draw u (plain_steps os es w') (lines ++ x) ps' i) l ∙ more.1 i lo hi),
      )
