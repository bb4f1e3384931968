-- One turn at one post: a deal of the row that the book knows, or nothing; and nothing where 1 to 5 refuse.
use Prim.Native.Nat.{ℕ, zero, suc, ◌≤◌, ◌<◌}
use mathlib.Core.Path.{◌≡◌, refl, sym, ◌∙◌, ap, subst}
use mathlib.Core.Bool.{Bool, true, false, cond}
use mathlib.Core.List.{List, [], ◌∷◌}
use native.Mathlib.Omega.{arith}
use borrow.Author.Tests.{lt-ltb, le-ltb, eq-eqb}
use lib.ListN.{length, get_or}
use Rattle.field.specs.Modulus.{p}
use Rattle.shape.specs.Bounds.{last_row_at}
use Rattle.shape.specs.Marks.{raw, held}
use Rattle.refusal.specs.Refusal.{◌when◌, first, or_else, outcome}
use Rattle.refusal.specs.Conditions.{beyond, any_beyond}
use Rattle.refusal.proofs.Laws.{first_join}
use Rattle.session.specs.declared.Session.{Session}
use Rattle.session.specs.declared.Answer.{Answer}
use Rattle.session.specs.Sessions.{marked, holding, answer}
use Rattle.session.specs.Rows.{width, row_at, with_row, plus_sums, sums_at_of}
use Rattle.session.specs.Checks.{frame_tests, no_row, wrong_mark_of}
use Rattle.deal.specs.Deal.{deal_refusal_of, deal_answer, deal_rows_of}
use Rattle.forms.specs.Lines as Line
use Rattle.forms.specs.Lines.{Message, text}
use Rattle.forms.specs.Forms.{Sent}
use Rattle.forms.proofs.RoundTrip.{written_reads_back}
use Rattle.dealers.specs.State.{dealer_count, next, first_after, chosen, line_in, state_length}
use Rattle.dealers.specs.Calls.{state_tests, count_refusal, taken_refusal, said_row, said_number, taken_answer, taken_rows, counted_answer, counted_rows, counted_state, whose, turn_answer, turn_rows, turn_state}
use Rattle.dealers.specs.Between.{Good}
use Rattle.dealers.proofs.Turns.{chosen_dealer}
use Rattle.runs.specs.Draws.{Plan, Draw, Sound, IsRaw, Raw, none, by, when_raw}
use Rattle.runs.specs.Calls.{Post}
use Rattle.runs.proofs.Outcomes.{answer_refusal}
use Rattle.secrecy.specs.Steps.{Secrets, Number, theirs, bytes, deal, dealt_with, dealt_number}
use Rattle.secrecy.specs.Seen.{deal_seen}
use Rattle.secrecy.specs.Waiting.{Slot, free, filled, is_filled, Waiting, next_of, freed}
use Rattle.secrecy.proofs.Frames.{frame}
use Rattle.secrecy.proofs.Places.{Kept, InPlace, chosen_is, kept_counted}
use Rattle.secrecy.proofs.Doings.{Doing, turn_doing, stops, Goes, turn_goes, idle, deals, slot_doing, own_goes}

-- ---- at one post: where 1 to 5 refuse, and where they do not

pub record Left (q : Post) (state : List ℕ) (k : ℕ) : Type 0 where
  pub answer_is : turn_answer q.session q.rows state ≡ holding k 0 q.session
  pub rows_are : turn_rows q.session q.rows state ≡ q.rows
  pub state_is : turn_state q.session q.rows state ≡ state

pub record Counts (q : Post) (state : List ℕ) : Type 0 where
  pub answer_is : turn_answer q.session q.rows state ≡ counted_answer q.session q.rows state
  pub rows_are : turn_rows q.session q.rows state ≡ counted_rows q.session q.rows state
  pub state_is : turn_state q.session q.rows state ≡ counted_state state

module _ (q : Post) (state : List ℕ) where
  abbrev s : Session
  s = q.session

  abbrev rows : List ℕ
  rows = q.rows

  count_is : count_refusal s rows state ≡ or_else (frame q) (first (state_tests state))
  unfolding frame count_refusal
  count_is = first_join (frame_tests s rows) (state_tests state) tt

  pub halts : (k : ℕ) → frame q ≡ suc k → Left q state (suc k)
  unfolding outcome
  halts k e =
      let z : count_refusal s rows state ≡ suc k = count_is ∙ ap (λ (f : ℕ). or_else f (first (state_tests state))) e in
      record {
        answer_is = ap (λ (f : ℕ). outcome f (counted_answer s rows state) (holding f 0 s)) z;
        rows_are = ap (λ (f : ℕ). outcome f (counted_rows s rows state) rows) z;
        state_is = ap (λ (f : ℕ). outcome f (counted_state state) state) z;
      }

  pub counts_zero : frame q ≡ 0 → Good state → count_refusal s rows state ≡ 0
  counts_zero e g = count_is ∙ ap (λ (f : ℕ). or_else f (first (state_tests state))) e ∙ rw (eq-eqb (length state) state_length g.long, g.fine)

  pub counts : frame q ≡ 0 → Good state → Counts q state
  unfolding outcome
  counts e g =
      let z = counts_zero e g in
      record {
        answer_is = ap (λ (f : ℕ). outcome f (counted_answer s rows state) (holding f 0 s)) z;
        rows_are = ap (λ (f : ℕ). outcome f (counted_rows s rows state) rows) z;
        state_is = ap (λ (f : ℕ). outcome f (counted_state state) state) z;
      }

  -- a deal's own refusal, behind 1 to 5
  abbrev deal_own : ℕ → ℕ → ℕ
  deal_own r c = first (6 when no_row r ∷ 7 when wrong_mark_of s r raw ∷ 8 when beyond c ∷ 8 when any_beyond (row_at (width s) rows r) ∷ [])

  deal_is : (r c : ℕ) → deal_refusal_of s rows r c ≡ or_else (frame q) (deal_own r c)
  unfolding frame deal_refusal_of
  deal_is r c =
      first_join (frame_tests s rows) (6 when no_row r ∷ 7 when wrong_mark_of s r raw ∷ 8 when beyond c ∷ 8 when any_beyond (row_at (width s) rows r) ∷ []) tt

  module _ (k : ℕ) (e : frame q ≡ suc k) (r c : ℕ) where
    stop : deal_refusal_of s rows r c ≡ suc k
    stop = deal_is r c ∙ ap (λ (x : ℕ). or_else x (deal_own r c)) e

    stop_answer : deal_answer s rows r c ≡ holding (suc k) 0 s
    unfolding outcome
    stop_answer = ap (λ (x : ℕ). answer x 0 (marked s r held) s) stop

    stop_rows : deal_rows_of s rows r c ≡ rows
    unfolding outcome
    stop_rows = ap (λ (x : ℕ). outcome x (with_row (width s) r (plus_sums (sums_at_of s) c (row_at (width s) rows r)) rows) rows) stop

  -- a deal of row 96 does nothing, and is refused with 1 to 5 as a turn is, or with 6
  by_six : (f : ℕ) → answer (or_else f 6) 0 (marked s 96 held) s ≡ holding (or_else f 6) 0 s
  unfolding outcome
  by_six zero = refl
  by_six (suc k) = refl

  by_six_rows : (f : ℕ) (x : List ℕ) → outcome (or_else f 6) x rows ≡ rows
  unfolding outcome
  by_six_rows zero x = refl
  by_six_rows (suc k) x = refl

  pub probe_answer : deal_answer s rows 96 0 ≡ holding (or_else (frame q) 6) 0 s
  probe_answer = ap (λ (x : ℕ). answer x 0 (marked s 96 held) s) (deal_is 96 0) ∙ by_six (frame q)

  pub probe_rows : deal_rows_of s rows 96 0 ≡ rows
  probe_rows =
      ap (λ (x : ℕ). outcome x (with_row (width s) 96 (plus_sums (sums_at_of s) 0 (row_at (width s) rows 96)) rows) rows) (deal_is 96 0) ∙ by_six_rows (frame q) _

-- ---- the D line of a row's dealer

pub dealer_line : (plan : Plan) (draw : Draw) (u : Secrets) (r : ℕ) → 1 ≤ length (deal_seen plan draw u r)
    → IsRaw (plan.raw r) × (deal_seen plan draw u r ≡ text (Line.deal r (dealt_number plan draw u r)))
unfolding deal_seen
dealer_line plan draw u r = go (plan.raw r)
  where
    line : List ℕ
    line = text (Line.deal r (dealt_number plan draw u r))

    go : (x : Raw) → 1 ≤ length (when_raw x line []) → IsRaw x × (when_raw x line [] ≡ line)
    go none h = absurd (omega arith)
    go (by dealer) h = (tt, refl)

pub read_back : (r c : ℕ) → r ≤ last_row_at → c < p
    → (taken_refusal (text (Line.deal r c)) ≡ 0) × (said_row (text (Line.deal r c)) ≡ r) × (said_number (text (Line.deal r c)) ≡ c)
unfolding taken_refusal any_beyond
read_back r c lr lc =
    let is-sent : Sent 2 2 (Line.deal r c) = record { letter_is = refl; count = refl; no_post = λ e. refl; in_range = rw (le-ltb last_row_at r lr, lt-ltb c p lc) } in
    let back = written_reads_back 2 2 (Line.deal r c) (omega arith) is-sent in
    (back.0, ap (λ (m : Message). m.row) back.1, ap (λ (m : Message). get_or m.numbers 0 0) back.1)

-- the first that passes does pass
pub first_passes : (k : ℕ) (test : ℕ → Bool) (a d : ℕ) → first_after k test a ≡ suc d → test (suc d) ≡ true
unfolding first_after
first_passes zero test a d e = absurd (omega arith)
first_passes (suc k) test a d e = go (test (next a)) refl e (λ h. first_passes k test (next a) d h)
  where
    go : (b : Bool) → test (next a) ≡ b → cond b (next a) (first_after k test (next a)) ≡ suc d → (first_after k test (next a) ≡ suc d → test (suc d) ≡ true)
        → test (suc d) ≡ true
    go true h x more = sym (ap test x) ∙ h
    go false h x more = more x

-- ---- at a post whose state is what the book keeps

module _ (plan : Plan) (draw : Draw) (u : Secrets) (sound : Sound plan) (low : (r : ℕ) → dealt_number plan draw u r < p) where
  abbrev pub number_of : Number → ℕ
  number_of c = dealt_with c (dealt_number plan draw u)

  -- what a counted turn leaves
  abbrev CountedDone : Session → List ℕ → List ℕ → Doing → Type 0
  CountedDone s rows state (idle t) = (counted_answer s rows state ≡ holding t 0 s) × (counted_rows s rows state ≡ rows)
  CountedDone s rows state (deals r c) =
      (counted_answer s rows state ≡ deal_answer s rows r (number_of c)) × (counted_rows s rows state ≡ deal_rows_of s rows r (number_of c))

  module _ (s : Session) (rows state : List ℕ) (d : ℕ) (e : chosen state ≡ suc d) where
    answer_line : (line : List ℕ) → line_in state (suc d) ≡ line → counted_answer s rows state ≡ taken_answer s rows line
    answer_line line q = ap (λ (x : ℕ). whose x (holding 0 0 s) (λ y. taken_answer s rows (line_in state y))) e ∙ ap (taken_answer s rows) q

    rows_line : (line : List ℕ) → line_in state (suc d) ≡ line → counted_rows s rows state ≡ taken_rows s rows line
    rows_line line q = ap (λ (x : ℕ). whose x rows (λ y. taken_rows s rows (line_in state y))) e ∙ ap (taken_rows s rows) q

    by_line : (line : List ℕ) → line_in state (suc d) ≡ line → (t : ℕ) → taken_refusal line ≡ t
        → CountedDone s rows state (outcome t (deals (said_row line) (Number.fixed (said_number line))) (idle t))
    unfolding outcome
    by_line line q zero z = (
      answer_line line q ∙ ap (λ (k : ℕ). outcome k (deal_answer s rows (said_row line) (said_number line)) (holding k 0 s)) z,
      rows_line line q ∙ ap (λ (k : ℕ). outcome k (deal_rows_of s rows (said_row line) (said_number line)) rows) z,
    )
    by_line line q (suc k) z = (
      answer_line line q ∙ ap (λ (k : ℕ). outcome k (deal_answer s rows (said_row line) (said_number line)) (holding k 0 s)) z,
      rows_line line q ∙ ap (λ (k : ℕ). outcome k (deal_rows_of s rows (said_row line) (said_number line)) rows) z,
    )

    -- the line of a row's dealer
    by_dealer : (line : List ℕ) → line_in state (suc d) ≡ line → (r c : ℕ) → (taken_refusal line ≡ 0) × (said_row line ≡ r) × (said_number line ≡ c)
        → (counted_answer s rows state ≡ deal_answer s rows r c) × (counted_rows s rows state ≡ deal_rows_of s rows r c)
    unfolding outcome
    by_dealer line q r c (z, er, ec) =
        let o = by_line line q 0 z in (
          o.0 ∙ ap (λ (x : ℕ). deal_answer s rows x (said_number line)) er ∙ ap (deal_answer s rows r) ec,
          o.1 ∙ ap (λ (x : ℕ). deal_rows_of s rows x (said_number line)) er ∙ ap (deal_rows_of s rows r) ec,
        )

    by_slot : (x : Slot) → InPlace plan draw u x state (suc d) → is_filled x ≡ true → CountedDone s rows state (slot_doing x)
    by_slot free h f = let z : ◌≡◌ {A = ℕ} 0 1 = cc in absurd (omega arith)
    by_slot (filled (theirs r)) h f =
        let o = dealer_line plan draw u r h.2 in
        by_dealer (text (Line.deal r (dealt_number plan draw u r))) (h.1 ∙ o.1) r (dealt_number plan draw u r)
        (read_back r (dealt_number plan draw u r) (sound.raws r o.0) (low r))
    by_slot (filled (bytes xs)) h f = by_line xs h.1 (taken_refusal xs) refl

  counted_done : (w : Waiting) (s : Session) (rows state : List ℕ) → Kept plan draw u w state → CountedDone s rows state (turn_doing w)
  counted_done w s rows state h = go (next_of w) refl
    where
      go : (n : ℕ) → next_of w ≡ n → CountedDone s rows state (whose n (idle 0) (λ d. slot_doing (w.slot d)))
      go zero e =
          let c : chosen state ≡ 0 = chosen_is plan draw u w state h ∙ e in (
            ap (λ (x : ℕ). whose x (holding 0 0 s) (λ y. taken_answer s rows (line_in state y))) c,
            ap (λ (x : ℕ). whose x rows (λ y. taken_rows s rows (line_in state y))) c,
          )
      go (suc d) e =
          let c : chosen state ≡ suc d = chosen_is plan draw u w state h ∙ e in
          by_slot s rows state d c (w.slot (suc d)) (h.each (suc d) (chosen_dealer state (suc d) h.good (sym c) (λ z. omega arith)))
          (first_passes dealer_count (λ x. is_filled (w.slot x)) w.last d e)

  -- ---- the turn

  abbrev pub Done : Post → List ℕ → Doing → Type 0
  Done q state (idle t) =
      (turn_answer q.session q.rows state ≡ holding (or_else (frame q) t) 0 q.session) × (turn_rows q.session q.rows state ≡ q.rows)
  Done q state (deals r c) =
      (turn_answer q.session q.rows state ≡ deal_answer q.session q.rows r (number_of c))
      × (turn_rows q.session q.rows state ≡ deal_rows_of q.session q.rows r (number_of c))

  module _ (w : Waiting) (q : Post) (state : List ℕ) (h : frame q ≡ 0 → Kept plan draw u w state) where
    pub turn_done : Done q state (turn_doing w)
    turn_done = go (frame q) refl (turn_doing w) (λ z. counted_done w q.session q.rows state (h z))
      where
        go : (f : ℕ) → frame q ≡ f → (m : Doing) → (frame q ≡ 0 → CountedDone q.session q.rows state m) → Done q state m
        go zero z (idle t) o =
            let c = counts q state z (h z).good in
            (c.answer_is ∙ (o z).0 ∙ ap (λ (f : ℕ). holding (or_else f t) 0 q.session) (sym z), c.rows_are ∙ (o z).1)
        go zero z (deals r c) o = let c = counts q state z (h z).good in (c.answer_is ∙ (o z).0, c.rows_are ∙ (o z).1)
        go (suc k) z (idle t) o =
            let l = halts q state k z in (l.answer_is ∙ ap (λ (f : ℕ). holding (or_else f t) 0 q.session) (sym z), l.rows_are)
        go (suc k) z (deals r c) o =
            let l = halts q state k z in
            (l.answer_is ∙ sym (stop_answer q state k z r (number_of c)), l.rows_are ∙ sym (stop_rows q state k z r (number_of c)))

    -- its refusal: 1 to 5, or one that comes behind them
    pub turn_refusal : (x : ℕ) × ((turn_answer q.session q.rows state).refusal ≡ or_else (frame q) x) × (stops x ≡ false)
    turn_refusal = go (turn_doing w) turn_done (turn_goes w)
      where
        go : (m : Doing) → Done q state m → Goes m → (x : ℕ) × ((turn_answer q.session q.rows state).refusal ≡ or_else (frame q) x) × (stops x ≡ false)
        go (idle t) o g = (t, ap (λ (a : Answer). a.refusal) o.0, g)
        go (deals r c) o g = (
          deal_own q state r (number_of c),
          ap (λ (a : Answer). a.refusal) o.0 ∙ answer_refusal (deal_refusal_of q.session q.rows r (number_of c)) 0 _ _ ∙ deal_is q state r (number_of c),
          own_goes (no_row r) (wrong_mark_of q.session r raw) (beyond (number_of c)) (any_beyond (row_at (width q.session) q.rows r)),
        )

    pub kept_turn : frame q ≡ 0 → Kept plan draw u (whose (next_of w) w (freed w)) (turn_state q.session q.rows state)
    kept_turn z = subst (Kept plan draw u (whose (next_of w) w (freed w))) (sym (counts q state z (h z).good).state_is) (kept_counted plan draw u w state (h z))
