-- Two runs of orders: where the runs of their calls alone have the same entries, so have they, and the states are the same at every post.
use Prim.Native.Nat.{ℕ, zero, suc, ◌+◌, ◌≤◌, ◌<◌}
use mathlib.Core.Path.{◌≡◌, refl, sym, ◌∙◌, ap, ap₂, subst}
use mathlib.Core.List.{List, [], ◌∷◌, ◌++◌, map, append-nil}
use mathlib.Core.Logic.{◌≢◌}
use native.Mathlib.Omega.{arith}
use native.Mathlib.Decide.{ℕ_discrete}
use lib.ListN.{length}
use Rattle.field.specs.Modulus.{p}
use Rattle.poly.specs.Counting.{All}
use Rattle.poly.proofs.Lists.{all_zip, map_same, map_equal}
use Rattle.refusal.specs.Refusal.{or_else}
use Rattle.parts.specs.Draw.{each_from}
use Rattle.session.specs.declared.Answer.{Answer}
use Rattle.dealers.specs.Calls.{place_refusal_of, counted_state, turn_answer, turn_state}
use Rattle.runs.specs.Draws.{Plan, Draw, Sound}
use Rattle.runs.specs.Calls.{Post, Call, perform, after}
use Rattle.runs.specs.Orders.{call, place, turn, Desk, carry, desk_after}
use Rattle.secrecy.specs.Steps.{Secrets, Step, Item, Placed, call_at, dealt_number}
use Rattle.secrecy.specs.Seen.{Entry, posts, line_at, done_at, lines_of, desks_after, entry_of, run}
use Rattle.secrecy.specs.Waiting.{Waiting, waiting_after}
use Rattle.secrecy.specs.Rules.{refusal_of, AllSame, SameAnswers}
use Rattle.secrecy.proofs.CallRuns as Calls
use Rattle.secrecy.proofs.OneCall.{posts_same}
use Rattle.secrecy.proofs.Frames.{frame, frame_small}
use Rattle.secrecy.proofs.Doings.{Doing, idle, deals, turn_doing, Goes, turn_goes, frames_of}
use Rattle.secrecy.proofs.Turning.{halts, counts, turn_refusal}
use Rattle.secrecy.proofs.AsCalls.{turn_step, probed, turn_entry, probed_is, plain_steps, plain_entries}
use Rattle.secrecy.proofs.Along as Along
use Rattle.secrecy.proofs.Along.{probed_map}

head_same : {A : Type 0} (x y : A) (xs ys : List A) → x ∷ xs ≡ y ∷ ys → x ≡ y
head_same x y xs ys e = cc

tail_same : {A : Type 0} (x y : A) (xs ys : List A) → x ∷ xs ≡ y ∷ ys → xs ≡ ys
tail_same x y xs ys e = cc

posts_in : (n : ℕ) → All (λ i. (1 ≤ i) × (i ≤ n)) (posts n)
unfolding posts each_from
posts_in n = go 1 n (omega arith) (omega arith)
  where
    go : (j m : ℕ) → 1 ≤ j → j + m ≤ suc n → All (λ i. (1 ≤ i) × (i ≤ n)) (each_from j m (λ i. i))
    go j zero lo hi = tt
    go j (suc m) lo hi = ((lo, omega arith), go (suc j) m (omega arith) (omega arith))

-- of two maps over the posts that are the same, each member is
at_posts : (n : ℕ) (f g : ℕ → ℕ) → map f (posts n) ≡ map g (posts n) → (i : ℕ) → 1 ≤ i → i ≤ n → f i ≡ g i
unfolding posts each_from
at_posts n f g e i lo hi = go 1 n (map_equal f g (each_from 1 n (λ x. x)) e) i lo (omega arith)
  where
    go : (j m : ℕ) → All (λ x. f x ≡ g x) (each_from j m (λ x. x)) → (i : ℕ) → j ≤ i → i < j + m → f i ≡ g i
    go j zero h i lo hi = absurd (omega arith)
    go j (suc m) h i lo hi = one (ℕ_discrete i j) (λ ne. go (suc j) m h.1 i (omega arith) (omega arith))
      where
        one : Dec (i ≡ j) → (i ≢ j → f i ≡ g i) → f i ≡ g i
        one (yes x) later = subst (λ (y : ℕ). f y ≡ g y) (sym x) h.0
        one (no ne) later = later ne

-- a call leaves the state
kept : (c : Call) (q : Desk) → (carry (call c) q).state ≡ q.state
unfolding carry
kept c q = refl

module _ (plan : Plan) (group : List ℕ) (d d' : Draw) (u u' : Secrets) (sound : Sound plan)
    (low : (r : ℕ) → dealt_number plan d u r < p) (low' : (r : ℕ) → dealt_number plan d' u' r < p)
    (members : All (λ i. (1 ≤ i) × (i ≤ plan.n)) group) (told : (l : Placed) → line_at plan d u l ≡ line_at plan d' u' l) where
  abbrev At : (ℕ → Desk) → (ℕ → Post) → Waiting → Type 0
  At = Along.At plan group d u sound low members

  abbrev At' : (ℕ → Desk) → (ℕ → Post) → Waiting → Type 0
  At' = Along.At plan group d' u' sound low' members

  -- the same rows in the group, and the same states
  pub record Same (q q' : ℕ → Desk) : Type 0 where
    pub rows : All (λ i. (q' i).post.rows ≡ (q i).post.rows) group
    pub states : (i : ℕ) → 1 ≤ i → i ≤ plan.n → (q' i).state ≡ (q i).state

  rows_after_lem : (lines : List (List ℕ)) (o : Item) (q q' : ℕ → Desk) → entry_of plan group d' u' lines o q' ≡ entry_of plan group d u lines o q
      → All (λ i. (done_at plan d' u' lines o q' i).done.rows ≡ (done_at plan d u lines o q i).done.rows) group
  unfolding entry_of
  rows_after_lem lines o q q' e =
      map_equal (λ i. (done_at plan d' u' lines o q' i).done.rows) (λ i. (done_at plan d u lines o q i).done.rows) group (λ j. (e j).rows)

  same_answers : (lines : List (List ℕ)) (o : Item) (q q' : ℕ → Desk) → entry_of plan group d' u' lines o q' ≡ entry_of plan group d u lines o q
      → AllSame (entry_of plan group d u lines o q).refusals → AllSame (entry_of plan group d' u' lines o q').refusals
  same_answers lines o q q' e h = subst (λ (x : Entry). AllSame x.refusals) (sym e) h

  -- ---- a call

  lines_after : (lines : List (List ℕ)) (c : Step) (q q' : ℕ → Desk) → entry_of plan group d' u' lines (call c) q' ≡ entry_of plan group d u lines (call c) q
      → lines_of plan d' u' lines (call c) q' ≡ lines_of plan d u lines (call c) q
  unfolding entry_of
  lines_after lines c q q' e = λ j. (e j).lines

  call_after : (lines : List (List ℕ)) (c : Step) (q q' : ℕ → Desk) → Same q q' → entry_of plan group d' u' lines (call c) q' ≡ entry_of plan group d u lines (call c) q
      → Same (λ i. desk_after (done_at plan d u lines (call c) q i)) (λ i. desk_after (done_at plan d' u' lines (call c) q' i))
  call_after lines c q q' g e = record { rows = rows_after_lem lines (call c) q q' e; states = λ i lo hi. state i lo hi }
    where
      state : (i : ℕ) → 1 ≤ i → i ≤ plan.n → (done_at plan d' u' lines (call c) q' i).state ≡ (done_at plan d u lines (call c) q i).state
      state i lo hi = kept (call_at plan d' u' lines i c) (q' i) ∙ g.states i lo hi ∙ sym (kept (call_at plan d u lines i c) (q i))

  -- ---- a line placed

  place_entry : (lines : List (List ℕ)) (q q' : ℕ → Desk) (e : ℕ) (l : Placed) → Same q q'
      → entry_of plan group d' u' lines (place e l) q' ≡ entry_of plan group d u lines (place e l) q
  unfolding entry_of carry
  place_entry lines q q' e l g =
      let a = posts_same (λ i. place_refusal_of (q' i).state e (length (line_at plan d' u' l))) (λ i. place_refusal_of (q i).state e (length (line_at plan d u l))) plan.n
      (λ i lo hi. ap₂ (λ (s line : List ℕ). place_refusal_of s e (length line)) (g.states i lo hi) (sym (told l))) in
      let b = map_same (λ i. (q' i).post.rows) (λ i. (q i).post.rows) group g.rows in
      λ j. record { refusals = a j; values = map (λ i. 0) (posts plan.n); lines = []; rows = b j }

  place_after : (lines : List (List ℕ)) (q q' : ℕ → Desk) (e : ℕ) (l : Placed) → Same q q'
      → Same (λ i. desk_after (done_at plan d u lines (place e l) q i)) (λ i. desk_after (done_at plan d' u' lines (place e l) q' i))
  unfolding carry
  place_after lines q q' e l g =
      record {
        rows = g.rows;
        states = λ i lo hi. ap₂ (λ (s line : List ℕ). (carry (place e line) (record { post = (q i).post; state = s })).state) (g.states i lo hi) (sym (told l));
      }

  -- ---- a turn

  module _ (lines : List (List ℕ)) (q q' : ℕ → Desk) (ps ps' : ℕ → Post) (w : Waiting) (at : At q ps w) (at' : At' q' ps' w) where
    R : ℕ → ℕ
    R i = (turn_answer (q i).post.session (q i).post.rows (q i).state).refusal

    R' : ℕ → ℕ
    R' i = (turn_answer (q' i).post.session (q' i).post.rows (q' i).state).refusal

    turn_entry_is : (m : Doing) → Goes m → Along.AllDone plan group d u sound low members lines q m → Along.AllDone plan group d' u' sound low' members lines q' m
        → turn_entry m (entry_of plan group d' u' lines turn q') ≡ turn_entry m (entry_of plan group d u lines turn q)
        → entry_of plan group d' u' lines turn q' ≡ entry_of plan group d u lines turn q
    unfolding entry_of carry R R'
    turn_entry_is (deals r c) g h h' e = λ j. record { refusals = (e j).refusals; values = (e j).values; lines = []; rows = (e j).rows }
    turn_entry_is (idle t) g h h' e = λ j. record { refusals = refusals j; values = (e j).values; lines = []; rows = (e j).rows }
      where
        probes : map (λ i. probed (R' i)) (posts plan.n) ≡ map (λ i. probed (R i)) (posts plan.n)
        probes =
            sym (probed_map R' plan.n (Along.some plan group d u sound low members)) ∙ (λ j. (e j).refusals)
            ∙ probed_map R plan.n (Along.some plan group d u sound low members)

        one : (i : ℕ) → (1 ≤ i) × (i ≤ plan.n) → probed (R' i) ≡ probed (R i) → R' i ≡ R i
        one i m e =
            let f = frame (q i).post in
            let f' = frame (q' i).post in
            let x : R i ≡ or_else f t = ap (λ (a : Answer). a.refusal) (h i m.0 m.1).0 in
            let x' : R' i ≡ or_else f' t = ap (λ (a : Answer). a.refusal) (h' i m.0 m.1).0 in
            let y = frames_of f' f 6 6 (frame_small (q' i).post) (frame_small (q i).post) refl refl
            (sym (ap probed x' ∙ probed_is f' t (frame_small (q' i).post) g) ∙ e ∙ ap probed x ∙ probed_is f t (frame_small (q i).post) g) in
            x' ∙ ap (λ (k : ℕ). or_else k t) y ∙ sym x

        refusals : map R' (posts plan.n) ≡ map R (posts plan.n)
        refusals =
            map_same R' R (posts plan.n)
            (all_zip (λ i m e. one i m e) (posts plan.n) (posts_in plan.n) (map_equal (λ i. probed (R' i)) (λ i. probed (R i)) (posts plan.n) probes))

    refusals_at : entry_of plan group d' u' lines turn q' ≡ entry_of plan group d u lines turn q → (i : ℕ) → 1 ≤ i → i ≤ plan.n → R' i ≡ R i
    unfolding entry_of carry R R'
    refusals_at e i lo hi = at_posts plan.n R' R (λ j. (e j).refusals) i lo hi

    -- the state: as it was where 1 to 5 refuse, which the answers tell
    state_after_lem : (i : ℕ) → 1 ≤ i → i ≤ plan.n → R' i ≡ R i → (q' i).state ≡ (q i).state → (carry turn (q' i)).state ≡ (carry turn (q i)).state
    unfolding carry R R'
    state_after_lem i lo hi e g =
        let r = turn_refusal plan d u sound low w (q i).post (q i).state (at i lo hi).0 in
        let r' = turn_refusal plan d' u' sound low' w (q' i).post (q' i).state (at' i lo hi).0 in
        let f : frame (q' i).post ≡ frame (q i).post =
        frames_of _ _ _ _ (frame_small (q' i).post) (frame_small (q i).post) r'.2 r.2 (sym r'.1 ∙ e ∙ r.1) in
        go (frame (q i).post) refl f
      where
        go : (k : ℕ) → frame (q i).post ≡ k → frame (q' i).post ≡ frame (q i).post
            → turn_state (q' i).post.session (q' i).post.rows (q' i).state ≡ turn_state (q i).post.session (q i).post.rows (q i).state
        go zero z f =
            (counts (q' i).post (q' i).state (f ∙ z) ((at' i lo hi).0 (f ∙ z)).good).state_is ∙ ap counted_state g
            ∙ sym (counts (q i).post (q i).state z ((at i lo hi).0 z).good).state_is
        go (suc k) z f = (halts (q' i).post (q' i).state k (f ∙ z)).state_is ∙ g ∙ sym (halts (q i).post (q i).state k z).state_is

    turn_same : Same q q' → entry_of plan group d' u' lines turn q' ≡ entry_of plan group d u lines turn q
        → Same (λ i. desk_after (done_at plan d u lines turn q i)) (λ i. desk_after (done_at plan d' u' lines turn q' i))
    turn_same g e =
        record { rows = rows_after_lem lines turn q q' e; states = λ i lo hi. state_after_lem i lo hi (refusals_at e i lo hi) (g.states i lo hi) }

  -- ---- the whole run

  abbrev pub Matches : List Item → List (List ℕ) → (ℕ → Desk) → (ℕ → Desk) → Type 0
  Matches os lines q q' =
      (run plan group d' u' os lines q' ≡ run plan group d u os lines q)
      × ((i : ℕ) → 1 ≤ i → i ≤ plan.n → (desks_after plan d' u' os lines q' i).state ≡ (desks_after plan d u os lines q i).state)

  pub again : (os : List Item) (lines : List (List ℕ)) (q q' : ℕ → Desk) (ps ps' : ℕ → Post) (w : Waiting) → At q ps w → At' q' ps' w → Same q q'
      → SameAnswers (run plan group d u os lines q)
      → Calls.run plan group d' u' (plain_steps os (run plan group d u os lines q) w) lines ps' ≡ plain_entries os (run plan group d u os lines q) w
      → Matches os lines q q'
  unfolding Calls.run run desks_after
  again [] lines q q' ps ps' w at at' g same e = (refl, g.states)
  again (call c ∷ os) lines q q' ps ps' w at at' g same e =
      let q1 : ℕ → Desk = λ i. desk_after (done_at plan d u lines (call c) q i) in
      let q1' : ℕ → Desk = λ i. desk_after (done_at plan d' u' lines (call c) q' i) in
      let ps1' : ℕ → Post = λ i. after (perform (call_at plan d' u' lines i c) (ps' i)) in
      let lines1 = lines ++ lines_of plan d u lines (call c) q in
      let es = run plan group d u os lines1 q1 in
      let posts' : (i : ℕ) → 1 ≤ i → i ≤ plan.n → ps' i ≡ (q' i).post = λ i lo hi. (at' i lo hi).1 in
      let entry = sym (Along.entry_cong plan group d' u' sound low' members lines c ps' (λ i. (q' i).post) posts' ∙ Along.entry_call plan group d' u' sound low' members lines c q')
      ∙ head_same _ _ _ _ e in
      let ls = lines_after lines c q q' entry in
      let more = again os lines1 q1 q1' _ ps1' w (Along.at_call plan group d u sound low members lines c q ps w at) (Along.at_call plan group d' u' sound low' members lines c q' ps' w at')
      (call_after lines c q q' g entry) same.1
      (ap (λ (x : List (List ℕ)). Calls.run plan group d' u' (plain_steps os es w) (lines ++ x) ps1')
      (sym (Along.lines_cong plan group d' u' sound low' members lines c ps' (λ i. (q' i).post) posts' ∙ Along.lines_call plan group d' u' sound low' members lines c q' ∙ ls))
      ∙ tail_same _ _ _ _ e) in (
        ap₂ ◌∷◌ entry (ap (λ (x : List (List ℕ)). run plan group d' u' os (lines ++ x) q1') ls ∙ more.0),
        (λ i lo hi. ap (λ (x : List (List ℕ)). (desks_after plan d' u' os (lines ++ x) q1' i).state) ls ∙ more.1 i lo hi),
      )
  again (place v l ∷ os) lines q q' ps ps' w at at' g same e =
      let q1 : ℕ → Desk = λ i. desk_after (done_at plan d u lines (place v l) q i) in
      let q1' : ℕ → Desk = λ i. desk_after (done_at plan d' u' lines (place v l) q' i) in
      let w1 = waiting_after (place v l) (refusal_of (entry_of plan group d u lines (place v l) q)) w in
      let es = run plan group d u os (lines ++ []) q1 in
      let entry = place_entry lines q q' v l g in
      let more = again os (lines ++ []) q1 q1' ps ps' w1 (Along.at_place plan group d u sound low members lines q ps w v l at same.0)
      (subst (λ (x : Entry). At' q1' ps' (waiting_after (place v l) (refusal_of x) w)) entry
      (Along.at_place plan group d' u' sound low' members lines q' ps' w v l at' (same_answers lines (place v l) q q' entry same.0)))
      (place_after lines q q' v l g) same.1
      (ap (λ (x : List (List ℕ)). Calls.run plan group d' u' (plain_steps os es w1) x ps') (append-nil lines) ∙ e) in
      (ap₂ ◌∷◌ entry more.0, more.1)
  again (turn ∷ os) lines q q' ps ps' w at at' g same e =
      let m = turn_doing w in
      let q1 : ℕ → Desk = λ i. desk_after (done_at plan d u lines turn q i) in
      let q1' : ℕ → Desk = λ i. desk_after (done_at plan d' u' lines turn q' i) in
      let ps1' : ℕ → Post = λ i. after (perform (call_at plan d' u' lines i (turn_step m)) (ps' i)) in
      let k = refusal_of (entry_of plan group d u lines turn q) in
      let w1 = waiting_after turn k w in
      let es = run plan group d u os (lines ++ []) q1 in
      let done = Along.all_done plan group d u sound low members lines q ps w at in
      let done' = Along.all_done plan group d' u' sound low' members lines q' ps' w at' in
      let posts' : (i : ℕ) → 1 ≤ i → i ≤ plan.n → ps' i ≡ (q' i).post = λ i lo hi. (at' i lo hi).1 in
      let entry = turn_entry_is lines q q' ps ps' w at at' m (turn_goes w) done done'
      (sym (Along.entry_cong plan group d' u' sound low' members lines (turn_step m) ps' (λ i. (q' i).post) posts'
      ∙ Along.turn_entry_is plan group d' u' sound low' members lines q' m (turn_goes w) done') ∙ head_same _ _ _ _ e) in
      let more = again os (lines ++ []) q1 q1' _ ps1' w1 (Along.at_turn plan group d u sound low members lines q ps w k at)
      (Along.at_turn plan group d' u' sound low' members lines q' ps' w k at') (turn_same lines q q' ps ps' w at at' g entry) same.1
      (ap (λ (x : List (List ℕ)). Calls.run plan group d' u' (plain_steps os es w1) (lines ++ x) ps1')
      (sym (Along.lines_cong plan group d' u' sound low' members lines (turn_step m) ps' (λ i. (q' i).post) posts' ∙ Along.turn_lines plan group d' u' sound low' members lines q' m))
      ∙ tail_same _ _ _ _ e) in
      (ap₂ ◌∷◌ entry more.0, more.1)
