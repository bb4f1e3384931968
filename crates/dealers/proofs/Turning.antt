-- A turn by the station's shape and the marks, as its code has it.
use Prim.Native.Nat.{ℕ, zero, suc, ◌≤◌}
use mathlib.Core.Path.{◌≡◌, refl, sym, ◌∙◌, ap}
use mathlib.Core.List.{List, ◌++◌}
use native.Mathlib.Omega.{arith}
use borrow.Author.Tests.{lt-ltb}
use Rattle.shape.specs.declared.Shape.{Shape}
use Rattle.shape.specs.Bounds.{row_count_of, last_row_at}
use Rattle.shape.specs.Marks.{held}
use Rattle.shape.specs.Lengths.{sums_at_of}
use Rattle.std.specs.Prelude.{Result}
use Rattle.std.specs.Result.{result_and}
use Rattle.refusal.specs.declared.Refusal.{Refusal}
use Rattle.refusal.specs.Numbers.{refused}
use Rattle.refusal.proofs.Checks.{and_else}
use Rattle.refusal.specs.Refusal.{first, outcome}
use Rattle.refusal.proofs.Laws.{all_fail, not_refused}
use Rattle.refusal.proofs.Groups.{fail_parts}
use Rattle.refusal.proofs.Endings as E
use Rattle.session.specs.declared.Session.{Session}
use Rattle.session.specs.declared.Answer.{Answer}
use Rattle.session.specs.Sessions.{shape_of, marked, holding}
use Rattle.session.specs.Rows.{width, row_at, with_row, plus_sums}
use Rattle.session.specs.Checks.{frame_tests}
use Rattle.session.specs.Between.{Sized, RowIn, Allows}
use Rattle.session.proofs.Passed.{row_below}
use Rattle.session.proofs.Calls.{shape_sized}
use Rattle.deal.specs.Between.{row_tests}
use Rattle.deal.specs.Deal.{deal_refusal_of, deal_answer, deal_rows_of}
use Rattle.deal.proofs.Passed.{dealt}
use Rattle.deal.proofs.Dealing.{deal_checked, row_passed}
use Rattle.dealers.specs.State.{line_in, served, chosen}
use Rattle.dealers.specs.Calls.{state_tests, count_refusal, taken_answer, taken_rows, whose}
use Rattle.dealers.specs.Calls.{counted_answer, counted_rows, turn_answer, turn_rows, turn_state}
use Rattle.dealers.specs.Between.{Good, Dealer, Heard, said_by_of}
use Rattle.dealers.specs.Turning.{Dealt, line_dealt, line_rows, none_dealt_of, row_dealt, said_dealt, said_rows, turn_dealt, turn_dealt_rows, turn_dealt_state, answer_by}
use Rattle.dealers.proofs.Turns.{by_some, count_good, count_is, as_answer, as_rows}

-- ---- what a line says, dealt

module _ (g : Shape) (marks rows : List ℕ) (r c f : ℕ) (e : f ≡ first (row_tests g marks rows r c)) (w : f ≡ 0) where
  pub said_row_in : r ≤ last_row_at
  said_row_in = row_passed g marks rows r c (sym e ∙ w)

  pub said_in : RowIn g r
  said_in = row_below g r said_row_in

-- ---- the turn, where session, rows and state are not refused

module _ (g : Shape) (marks rows state : List ℕ) (f : ℕ) (z : f ≡ 0) where
  go_on : {A : Type 0} (x y old : A) → x ≡ y → x ≡ outcome f y old
  go_on x y old p = E.accepted f f x y old refl z p

  module _ (d : ℕ) (h : Dealer d) (p : d ≡ chosen state) where
    by_dealer : {A : Type 0} (none : A) (by : ℕ → A) → by d ≡ whose (chosen state) none by
    by_dealer none by = sym (sym (ap (λ (x : ℕ). whose x none by) p) ∙ by_some d (λ z. omega (arith, h.low)) none by)

    pub taken_state : (out : List ℕ) → out ≡ served state d → out ≡ turn_dealt_state state f
    taken_state out q = go_on out _ _ (q ∙ by_dealer state (served state))

    module _ (m : Heard) (e : m ≡ said_by_of (line_in state d)) where
      dealt_by : (r : Dealt) → r ≡ said_dealt g marks rows m → r ≡ turn_dealt g marks rows state f
      dealt_by r q =
          go_on r _ _
          (q ∙ ap (said_dealt g marks rows) e ∙ by_dealer (none_dealt_of 0) (λ x. said_dealt g marks rows (said_by_of (line_in state x))))

      rows_by : (out : List ℕ) → out ≡ said_rows g marks rows m → out ≡ turn_dealt_rows g marks rows state f
      rows_by out q = go_on out _ _ (q ∙ ap (said_rows g marks rows) e ∙ by_dealer rows (λ x. said_rows g marks rows (said_by_of (line_in state x))))

    -- a line refused once it is taken, and one that is dealt
    module _ (k : ℕ) (e : record { refusal = k; row = 0; c = 0 } ≡ said_by_of (line_in state d)) (n : k ≡ 0 → ⊥) where
      pub untaken_dealt : none_dealt_of k ≡ turn_dealt g marks rows state f
      untaken_dealt = dealt_by _ e _ (E.refused k k _ _ refl n)

      pub untaken_rows : rows ≡ turn_dealt_rows g marks rows state f
      untaken_rows = rows_by _ e _ (E.refused k k _ rows refl n)

    module _ (r c : ℕ) (e : record { refusal = 0; row = r; c = c } ≡ said_by_of (line_in state d)) where
      pub taken_dealt : (x : Dealt) → x ≡ line_dealt g marks rows r c → x ≡ turn_dealt g marks rows state f
      taken_dealt x q = dealt_by _ e _ (E.accepted 0 0 x _ _ refl refl q)

      pub taken_rows_is : (out : List ℕ) → out ≡ line_rows g marks rows r c → out ≡ turn_dealt_rows g marks rows state f
      taken_rows_is out q = rows_by _ e _ (E.accepted 0 0 out _ rows refl refl q)

-- ---- as the session has it

module _ (s : Session) (rows : List ℕ) (h : first (frame_tests s rows) ≡ 0) where
  module _ (r c : ℕ) where
    same_refusal : first (row_tests (shape_of s) s.marks rows r c) ≡ deal_refusal_of s rows r c
    same_refusal = deal_checked s rows r c (shape_of s) (first (frame_tests s rows)) (first (row_tests (shape_of s) s.marks rows r c)) refl refl h refl

    row_answer : answer_by s (row_dealt (first (row_tests (shape_of s) s.marks rows r c)) r) ≡ deal_answer s rows r c
    unfolding outcome
    row_answer = ap (λ (k : ℕ). answer_by s (row_dealt k r)) same_refusal ∙ go (deal_refusal_of s rows r c) refl
      where
        go : (k : ℕ) → k ≡ deal_refusal_of s rows r c → answer_by s (row_dealt k r) ≡ outcome k (holding 0 0 (marked s r held)) (holding k 0 s)
        go zero q = let l : r ≤ last_row_at = (dealt s rows r c (sym q)).placed.row_in in rw (lt-ltb r row_count_of (omega arith))
        go (suc k) q = refl

  said_answer_lem : (m : Heard) → answer_by s (said_dealt (shape_of s) s.marks rows m)
      ≡ outcome m.refusal (deal_answer s rows m.row m.c) (holding m.refusal 0 s)
  unfolding outcome
  said_answer_lem m = go m.refusal
    where
      go : (k : ℕ) → answer_by s (outcome k (row_dealt (first (row_tests (shape_of s) s.marks rows m.row m.c)) m.row) (none_dealt_of k))
          ≡ outcome k (deal_answer s rows m.row m.c) (holding k 0 s)
      go zero = row_answer m.row m.c
      go (suc k) = refl

  said_dealing : (m : Heard) → said_rows (shape_of s) s.marks rows m ≡ outcome m.refusal (deal_rows_of s rows m.row m.c) rows
  said_dealing m =
      ap (λ (k : ℕ). outcome m.refusal
      (outcome k (with_row (width s) m.row (plus_sums (sums_at_of (shape_of s)) m.c (row_at (width s) rows m.row)) rows) rows) rows)
      (same_refusal m.row m.c)

  line_answer : (line : List ℕ) → answer_by s (said_dealt (shape_of s) s.marks rows (said_by_of line)) ≡ taken_answer s rows line
  line_answer line = said_answer_lem (said_by_of line) ∙ as_answer s rows line (said_by_of line) refl

  line_rows_is : (line : List ℕ) → said_rows (shape_of s) s.marks rows (said_by_of line) ≡ taken_rows s rows line
  line_rows_is line = said_dealing (said_by_of line) ∙ as_rows s rows line (said_by_of line) refl

framed_by : (s : Session) (rows state : List ℕ) → count_refusal s rows state ≡ 0 → first (frame_tests s rows) ≡ 0
unfolding count_refusal
framed_by s rows state z =
    let h = (fail_parts (frame_tests s rows) (state_tests state) (all_fail (frame_tests s rows ++ state_tests state) tt z)).0 in
    not_refused (frame_tests s rows) h

module _ (s : Session) (rows state : List ℕ) where
  answer_is : answer_by s (turn_dealt (shape_of s) s.marks rows state (count_refusal s rows state)) ≡ turn_answer s rows state
  unfolding outcome
  answer_is = go (count_refusal s rows state) refl
    where
      of : first (frame_tests s rows) ≡ 0 → (d : ℕ) → answer_by s (whose d (none_dealt_of 0) (λ x. said_dealt (shape_of s) s.marks rows (said_by_of (line_in state x))))
          ≡ whose d (holding 0 0 s) (λ x. taken_answer s rows (line_in state x))
      of h zero = refl
      of h (suc d) = line_answer s rows h (line_in state (suc d))

      go : (k : ℕ) → k ≡ count_refusal s rows state → answer_by s (turn_dealt (shape_of s) s.marks rows state k)
          ≡ outcome k (counted_answer s rows state) (holding k 0 s)
      go zero q = of (framed_by s rows state (sym q)) (chosen state)
      go (suc k) q = refl

  rows_are : turn_dealt_rows (shape_of s) s.marks rows state (count_refusal s rows state) ≡ turn_rows s rows state
  unfolding outcome
  rows_are = go (count_refusal s rows state) refl
    where
      of : first (frame_tests s rows) ≡ 0 → (d : ℕ) → whose d rows (λ x. said_rows (shape_of s) s.marks rows (said_by_of (line_in state x)))
          ≡ whose d rows (λ x. taken_rows s rows (line_in state x))
      of h zero = refl
      of h (suc d) = line_rows_is s rows h (line_in state (suc d))

      go : (k : ℕ) → k ≡ count_refusal s rows state → turn_dealt_rows (shape_of s) s.marks rows state k ≡ outcome k (counted_rows s rows state) rows
      go zero q = of (framed_by s rows state (sym q)) (chosen state)
      go (suc k) q = refl

-- ---- the call

module _ {A B : Type 0} (s : Session) (rows state : List ℕ) (a : Result A Refusal) (b c : Result B Refusal)
    (ea : refused a ≡ first (frame_tests s rows)) (eb : refused b ≡ first (state_tests state)) (q : c ≡ result_and a b) (g : Shape) (eg : g ≡ shape_of s) where
  refusal_is : refused c ≡ count_refusal s rows state
  refusal_is = count_is s rows state (refused a) (refused b) (refused c) ea eb (and_else a b c q)

  pub turn_sized : Allows (refused c) (Sized g rows)
  turn_sized = record { allowed = λ z. shape_sized s rows (first (frame_tests s rows)) refl (framed_by s rows state (sym refusal_is ∙ z)) g eg }

  pub turn_good : Allows (refused c) (Good state)
  turn_good = record { allowed = λ z. count_good s rows state (sym refusal_is ∙ z) }

  module _ (d : Dealt) (ed : d ≡ turn_dealt g s.marks rows state (refused c)) where
    pub turn_answer_is : (r : Answer) → r ≡ answer_by s d → r ≡ turn_answer s rows state
    turn_answer_is r e =
        e ∙ ap (answer_by s) (ed ∙ ap (λ (x : Shape). turn_dealt x s.marks rows state (refused c)) eg ∙ ap (turn_dealt (shape_of s) s.marks rows state) refusal_is)
        ∙ answer_is s rows state

  pub turn_rows_is : (out : List ℕ) → out ≡ turn_dealt_rows g s.marks rows state (refused c) → out ≡ turn_rows s rows state
  turn_rows_is out e =
      e ∙ ap (λ (x : Shape). turn_dealt_rows x s.marks rows state (refused c)) eg ∙ ap (turn_dealt_rows (shape_of s) s.marks rows state) refusal_is
      ∙ rows_are s rows state

  pub turn_state_is : (out : List ℕ) → out ≡ turn_dealt_state state (refused c) → out ≡ turn_state s rows state
  turn_state_is out e = e ∙ ap (turn_dealt_state state) refusal_is
