-- The run of a row that is loaded and dealt, with two draws that no check tells apart and that show the group's posts one pack and one D line: the
-- same answers at every post, and the same rows at the group's.
use Prim.Native.Nat.{ℕ, zero, suc, ◌+◌, ◌≤◌}
use mathlib.Core.Path.{◌≡◌, refl, ◌∙◌, ap, ap₂, subst}
use mathlib.Core.Bool.{not}
use mathlib.Core.List.{List, [], ◌∷◌, ◌++◌, map}
use lib.Dec.{eqb}
use lib.ListN.{length}
use native.Mathlib.Omega.{arith}
use Rattle.poly.specs.Counting.{All}
use Rattle.poly.proofs.Lists.{all_map, all_zip, map_same}
use Rattle.parts.specs.Draw.{each_from}
use Rattle.refusal.specs.Refusal.{◌when◌, first, outcome}
use Rattle.shape.specs.Lengths.{rows_length}
use Rattle.deal.specs.Deal.{deal_answer, deal_rows_of}
use Rattle.session.specs.declared.Session.{Session}
use Rattle.session.specs.declared.Answer.{Answer}
use Rattle.session.specs.Sessions.{shape_of, points_of, session_tests, holding}
use Rattle.dealers.specs.State.{chosen, line_in}
use Rattle.dealers.specs.Calls.{state_tests, place_refusal_of, place_after_of, count_refusal, taken_refusal, said_row, said_number, taken_answer, taken_rows, counted_answer, counted_rows, counted_state, whose, turn_answer, turn_rows, turn_state}
use Rattle.runs.specs.Draws.{Plan, Draw, point_of, raw_pack}
use Rattle.runs.specs.Calls.{new_post, load_row_of, deal, perform}
use Rattle.runs.specs.Orders.{call, place, Desk, Carried, carry, desk_after}
use Rattle.secrecy.specs.Steps.{Secrets, dealt_number}
use Rattle.secrecy.specs.Seen.{posts, deal_seen, order_at, done_at, lines_of, new_desk, entry_of, run}
use Rattle.secrecy.proofs.Link.{Alike}
use Rattle.otherdraw_law.specs.OneRow.{Doing, loads, deals, places, turns, order}
use Rattle.otherdraw_law.proofs.Dealing.{RowsAlike, load_answer, load_rows, deal_answer_is, deal_rows_is}

pub posts_in : (n : ℕ) → All (λ i. (1 ≤ i) × (i ≤ n)) (posts n)
unfolding posts each_from
posts_in n = go 1 n (omega arith) (omega arith)
  where
    go : (j m : ℕ) → 1 ≤ j → j + m ≤ suc n → All (λ i. (1 ≤ i) × (i ≤ n)) (each_from j m (λ i. i))
    go j zero lo hi = tt
    go j (suc m) lo hi = ((lo, omega arith), go (suc j) m (omega arith) (omega arith))

-- ---- a turn

module _ (s : Session) (R R' state : List ℕ) (h : RowsAlike s R R') where
  count_same : count_refusal s R state ≡ count_refusal s R' state
  unfolding count_refusal
  count_same =
      ap (λ (l : ℕ). first
      ((session_tests s.n s.t s.post s.points (points_of s) ++ (5 when not (eqb l (rows_length (shape_of s))) ∷ [])) ++ state_tests state)) h.long

  -- a line that is taken, with this refusal
  line_answer : (k : ℕ) (line : List ℕ)
      → outcome k (deal_answer s R (said_row line) (said_number line)) (holding k 0 s) ≡ outcome k (deal_answer s R' (said_row line) (said_number line)) (holding k 0 s)
  line_answer k line = ap (λ (a : Answer). outcome k a (holding k 0 s)) (deal_answer_is s R R' h (said_row line) (said_number line))

  line_rows : (k : ℕ) (line : List ℕ)
      → RowsAlike (outcome k (deal_answer s R (said_row line) (said_number line)) (holding k 0 s)).session
      (outcome k (deal_rows_of s R (said_row line) (said_number line)) R) (outcome k (deal_rows_of s R' (said_row line) (said_number line)) R')
  unfolding outcome
  line_rows zero line = deal_rows_is s R R' h (said_row line) (said_number line)
  line_rows (suc k) line = h

  counted_answer_lem : (c : ℕ) → whose c (holding 0 0 s) (λ d. taken_answer s R (line_in state d)) ≡ whose c (holding 0 0 s) (λ d. taken_answer s R' (line_in state d))
  counted_answer_lem zero = refl
  counted_answer_lem (suc d) = line_answer (taken_refusal (line_in state (suc d))) (line_in state (suc d))

  counted_rows_lem : (c : ℕ) → RowsAlike (whose c (holding 0 0 s) (λ d. taken_answer s R (line_in state d))).session (whose c R (λ d. taken_rows s R (line_in state d)))
      (whose c R' (λ d. taken_rows s R' (line_in state d)))
  counted_rows_lem zero = h
  counted_rows_lem (suc d) = line_rows (taken_refusal (line_in state (suc d))) (line_in state (suc d))

  turn_rows_at : (k : ℕ) → RowsAlike (outcome k (counted_answer s R state) (holding k 0 s)).session (outcome k (counted_rows s R state) R) (outcome k (counted_rows s R' state) R')
  unfolding outcome
  turn_rows_at zero = counted_rows_lem (chosen state)
  turn_rows_at (suc k) = h

  turn_answer_is : turn_answer s R state ≡ turn_answer s R' state
  turn_answer_is =
      ap₂ (λ (k : ℕ) (a : Answer). outcome k a (holding k 0 s)) count_same (counted_answer_lem (chosen state))

  turn_state_is : turn_state s R state ≡ turn_state s R' state
  turn_state_is = ap (λ (k : ℕ). outcome k (counted_state state) state) count_same

  turn_rows_is : RowsAlike (turn_answer s R state).session (turn_rows s R state) (turn_rows s R' state)
  turn_rows_is =
      subst (λ (k : ℕ). RowsAlike (turn_answer s R state).session (turn_rows s R state) (outcome k (counted_rows s R' state) R')) count_same
      (turn_rows_at (count_refusal s R state))

-- ---- new posts

new_same : (plan : Plan) (d d' : Draw) → d.points ≡ d'.points → (rows : ℕ → List ℕ) (i : ℕ) → new_desk plan d (rows i) i ≡ new_desk plan d' (rows i) i
unfolding new_desk new_post point_of
new_same plan d d' points rows i = ap (λ (ws : List ℕ). new_desk plan (record { points = ws; raws = []; triples = [] }) (rows i) i) points

-- ---- one order at one post

-- two posts with one session and one state, and lists of rows that no check tells apart
pub record Paired (q q' : Desk) : Type 0 where
  pub session : q.post.session ≡ q'.post.session
  pub state : q.state ≡ q'.state
  pub rows : RowsAlike q.post.session q.post.rows q'.post.rows

record Same (o o' : Carried) : Type 0 where
  pub answer : o.done.answer ≡ o'.done.answer
  pub state : o.state ≡ o'.state
  pub rows : RowsAlike o.done.answer.session o.done.rows o'.done.rows

same_paired : (o o' : Carried) → Same o o' → Paired (desk_after o) (desk_after o')
same_paired o o' e = record { session = ap (λ (a : Answer). a.session) e.answer; state = e.state; rows = e.rows }

abbrev desk : Session → List ℕ → List ℕ → Desk
desk s R state = record { post = record { session = s; rows = R }; state = state }

module _ (plan : Plan) (d d' : Draw) (u u' : Secrets) (r : ℕ) (line : deal_seen plan d u r ≡ deal_seen plan d' u' r)
    (number : dealt_number plan d u r ≡ dealt_number plan d' u' r) (i : ℕ) (alike : Alike (raw_pack plan d i r) (raw_pack plan d' i r)) where
  -- of posts with one session and state
  one_order : (x : Doing) (l l' : List (List ℕ)) (s : Session) (R R' state : List ℕ) → RowsAlike s R R'
      → Same (carry (order_at plan d u l i (order r x)) (desk s R state)) (carry (order_at plan d' u' l' i (order r x)) (desk s R' state))
  unfolding carry perform
  one_order loads l l' s R R' state h =
      record { answer = load_answer s R R' h r _ _ alike; state = refl; rows = load_rows s R R' h r _ _ alike }
  one_order deals l l' s R R' state h =
      let c = dealt_number plan d u r in
      record {
        answer = deal_answer_is s R R' h r c ∙ ap (deal_answer s R' r) number;
        state = refl;
        rows = subst (λ (z : ℕ). RowsAlike (deal_answer s R r c).session (deal_rows_of s R r c) (deal_rows_of s R' r z)) number (deal_rows_is s R R' h r c);
      }
  one_order (places e) l l' s R R' state h =
      record {
        answer = ap (λ (z : List ℕ). holding (place_refusal_of state e (length z)) 0 s) line;
        state = ap (place_after_of state e) line;
        rows = h;
      }
  one_order turns l l' s R R' state h = record { answer = turn_answer_is s R R' state h; state = turn_state_is s R R' state h; rows = turn_rows_is s R R' state h }

  order_same : (x : Doing) (l l' : List (List ℕ)) (q q' : Desk) → Paired q q'
      → Same (carry (order_at plan d u l i (order r x)) q) (carry (order_at plan d' u' l' i (order r x)) q')
  order_same x l l' q q' h =
      subst (λ (z : Desk). Same (carry (order_at plan d u l i (order r x)) q) (carry (order_at plan d' u' l' i (order r x)) z))
      (λ j. desk (h.session j) q'.post.rows (h.state j))
      (one_order x l l' q.post.session q.post.rows q'.post.rows q.state h.rows)

  -- with the same pack it is the same order
  same_order : raw_pack plan d i r ≡ raw_pack plan d' i r → (x : Doing) (l l' : List (List ℕ)) → order_at plan d u l i (order r x) ≡ order_at plan d' u' l' i (order r x)
  same_order e loads l l' = ap (λ (z : List ℕ). call (load_row_of r z)) e
  same_order e deals l l' = ap (λ (z : ℕ). call (deal r z)) number
  same_order e (places x) l l' = ap (place x) line
  same_order e turns l l' = refl

-- ---- all posts, order after order

module _ (plan : Plan) (group : List ℕ) (d d' : Draw) (u u' : Secrets) (r : ℕ) (line : deal_seen plan d u r ≡ deal_seen plan d' u' r)
    (number : dealt_number plan d u r ≡ dealt_number plan d' u' r)
    (alike : (i : ℕ) → 1 ≤ i → i ≤ plan.n → Alike (raw_pack plan d i r) (raw_pack plan d' i r))
    (packs : All (λ i. (1 ≤ i) × (i ≤ plan.n) × (raw_pack plan d i r ≡ raw_pack plan d' i r)) group) where
  told : (x : Doing) (l l' : List (List ℕ)) (q q' : ℕ → Desk) → lines_of plan d u l (order r x) q ≡ lines_of plan d' u' l' (order r x) q'
  unfolding carry perform
  told loads l l' q q' = refl
  told deals l l' q q' = refl
  told (places e) l l' q q' = refl
  told turns l l' q q' = refl

  module _ (x : Doing) (l l' : List (List ℕ)) (q q' : ℕ → Desk) (paired : (i : ℕ) → 1 ≤ i → i ≤ plan.n → Paired (q i) (q' i))
      (same : All (λ i. q i ≡ q' i) group) where
    abbrev o : ℕ → Carried
    o i = done_at plan d u l (order r x) q i

    abbrev o' : ℕ → Carried
    o' i = done_at plan d' u' l' (order r x) q' i

    done : (i : ℕ) → 1 ≤ i → i ≤ plan.n → Same (o i) (o' i)
    done i lo hi = order_same plan d d' u u' r line number i (alike i lo hi) x l l' (q i) (q' i) (paired i lo hi)

    in_group : All (λ i. o i ≡ o' i) group
    in_group =
        all_zip (λ i h e. ap₂ carry (same_order plan d d' u u' r line number i (alike i h.0 h.1) h.2 x l l') e) group packs same

    each : (f : Answer → ℕ) → map (λ i. f (o i).done.answer) (posts plan.n) ≡ map (λ i. f (o' i).done.answer) (posts plan.n)
    each f =
        map_same (λ i. f (o i).done.answer) (λ i. f (o' i).done.answer) (posts plan.n)
        (all_map (λ i k. ap f (done i k.0 k.1).answer) (posts plan.n) (posts_in plan.n))

    entry_same : entry_of plan group d u l (order r x) q ≡ entry_of plan group d' u' l' (order r x) q'
    unfolding entry_of
    entry_same =
        let ks = each (λ a. a.refusal) in
        let vs = each (λ a. a.value) in
        let rs = map_same (λ i. (o i).done.rows) (λ i. (o' i).done.rows) group (all_map (λ i e. ap (λ (z : Carried). z.done.rows) e) group in_group) in
        λ j. record { refusals = ks j; values = vs j; lines = told x l l' q q' j; rows = rs j }

  run_same : (todo : List Doing) (l l' : List (List ℕ)) (q q' : ℕ → Desk) → ((i : ℕ) → 1 ≤ i → i ≤ plan.n → Paired (q i) (q' i))
      → All (λ i. q i ≡ q' i) group → run plan group d u (map (order r) todo) l q ≡ run plan group d' u' (map (order r) todo) l' q'
  unfolding run
  run_same [] l l' q q' paired same = refl
  run_same (x ∷ todo) l l' q q' paired same =
      ap₂ ◌∷◌ (entry_same x l l' q q' paired same)
      (run_same todo _ _ _ _ (λ i lo hi. same_paired _ _ (done x l l' q q' paired same i lo hi))
      (all_map (λ i e. ap desk_after e) group (in_group x l l' q q' paired same)))

  -- from new posts with the same check points
  pub entries_same : d.points ≡ d'.points → (todo : List Doing) (rows : ℕ → List ℕ) (l l' : List (List ℕ))
      → run plan group d u (map (order r) todo) l (λ i. new_desk plan d (rows i) i) ≡ run plan group d' u' (map (order r) todo) l' (λ i. new_desk plan d' (rows i) i)
  entries_same points todo rows l l' =
      run_same todo l l' _ _ (λ i lo hi. new_paired i) (all_map (λ i h. start i) group packs)
    where
      start : (i : ℕ) → new_desk plan d (rows i) i ≡ new_desk plan d' (rows i) i
      start i = new_same plan d d' points rows i

      new_paired : (i : ℕ) → Paired (new_desk plan d (rows i) i) (new_desk plan d' (rows i) i)
      new_paired i = subst (Paired (new_desk plan d (rows i) i)) (start i) (record { session = refl; state = refl; rows = record { long = refl; low = λ k. refl } })
