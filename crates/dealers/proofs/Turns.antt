-- A turn: the line that it takes, read and dealt.
use Prim.Native.Nat.{ℕ, zero, suc, ◌+◌, ◌-◌, ◌≤◌}
use mathlib.Core.Path.{◌≡◌, refl, sym, ◌∙◌, ap}
use mathlib.Core.Bool.{Bool, true, false}
use mathlib.Core.List.{List, ◌++◌}
use native.Mathlib.Omega.{arith}
use lib.ListN.{length, take, drop}
use Rattle.refusal.specs.Refusal.{first, or_else, outcome}
use Rattle.refusal.proofs.Laws.{first_join, all_fail, not_refused}
use Rattle.refusal.proofs.Groups.{fail_parts}
use Rattle.session.specs.declared.Session.{Session}
use Rattle.session.specs.declared.Answer.{Answer}
use Rattle.session.specs.Sessions.{holding}
use Rattle.session.specs.Checks.{frame_tests}
use Rattle.deal.specs.Deal.{deal_answer, deal_rows_of}
use Rattle.dealers.specs.State.{dealer_count, place_at_of, length_in_of, line_in, waits, next, last_served, first_after, first_waiting, chosen}
use Rattle.dealers.specs.Calls.{state_tests, count_refusal, taken_refusal, said_row, said_number, taken_answer, taken_rows, whose}
use Rattle.dealers.specs.Between.{Good, Dealer, Heard, said_by_of}
use Rattle.dealers.proofs.Positions.{line_small, last_in, next_dealer_lem, state_good}

-- ---- the line in its place

module _ (state : List ℕ) (d at v : ℕ) (g : Good state) (h : Dealer d) (e : at ≡ place_at_of d) (q : v ≡ length_in_of state d) where
  pub part_in : at + 1 + v ≤ length state
  part_in = omega (arith, line_small state g d h, g.long, h.low, h.high)

  pub part_is : (r : Heard) → r ≡ said_by_of (take (at + 1 + v - (at + 1)) (drop (at + 1) state)) → r ≡ said_by_of (line_in state d)
  part_is r p =
      let n : at + 1 + v - (at + 1) ≡ length_in_of state d = omega (arith, q) in
      p ∙ ap (λ (k : ℕ). said_by_of (take k (drop (at + 1) state))) n ∙ ap (λ (k : ℕ). said_by_of (take (length_in_of state d) (drop (k + 1) state))) e

-- ---- what it says, dealt

module _ (s : Session) (rows line : List ℕ) (m : Heard) (e : m ≡ said_by_of line) where
  abbrev said_answer : Heard → Answer
  said_answer m = outcome m.refusal (deal_answer s rows m.row m.c) (holding m.refusal 0 s)

  abbrev said_rows : Heard → List ℕ
  said_rows m = outcome m.refusal (deal_rows_of s rows m.row m.c) rows

  pub as_answer : said_answer m ≡ taken_answer s rows line
  unfolding outcome
  as_answer = ap said_answer e ∙ go (taken_refusal line)
    where
      go : (k : ℕ) → said_answer (outcome k (record { refusal = 0; row = said_row line; c = said_number line }) (record { refusal = k; row = 0; c = 0 }))
          ≡ outcome k (deal_answer s rows (said_row line) (said_number line)) (holding k 0 s)
      go zero = refl
      go (suc k) = refl

  pub as_rows : said_rows m ≡ taken_rows s rows line
  unfolding outcome
  as_rows = ap said_rows e ∙ go (taken_refusal line)
    where
      go : (k : ℕ) → said_rows (outcome k (record { refusal = 0; row = said_row line; c = said_number line }) (record { refusal = k; row = 0; c = 0 }))
          ≡ outcome k (deal_rows_of s rows (said_row line) (said_number line)) rows
      go zero = refl
      go (suc k) = refl

-- ---- the turn

pub some_dealer : (k : ℕ) (state : List ℕ) (d : ℕ) → Dealer d → (first_waiting k state d ≡ 0 → ⊥) → Dealer (first_waiting k state d)
unfolding first_after
some_dealer zero state d h n = absurd (n refl)
some_dealer (suc k) state d h n = go (waits state (next d)) refl n (some_dealer k state (next d) (next_dealer_lem d h))
  where
    go : (b : Bool) → waits state (next d) ≡ b → (first_waiting (suc k) state d ≡ 0 → ⊥)
        → ((first_waiting k state (next d) ≡ 0 → ⊥) → Dealer (first_waiting k state (next d))) → Dealer (first_waiting (suc k) state d)
    go true e n more = rw e (next_dealer_lem d h)
    go false e n more = rw e (more (λ z. n (rw e z)))

pub chosen_dealer : (state : List ℕ) (d : ℕ) → Good state → d ≡ chosen state → (d ≡ 0 → ⊥) → Dealer d
unfolding chosen
chosen_dealer state d g e n = rw e (some_dealer dealer_count state (last_served state) (last_in state g) (λ z. n (e ∙ z)))

pub by_some : {A : Type 0} (x : ℕ) → (x ≡ 0 → ⊥) → (none : A) (by : ℕ → A) → whose x none by ≡ by x
by_some zero n none by = absurd (n refl)
by_some (suc x) n none by = refl

pub count_good : (s : Session) (rows state : List ℕ) → count_refusal s rows state ≡ 0 → Good state
unfolding count_refusal
count_good s rows state z =
    let h = (fail_parts (frame_tests s rows) (state_tests state) (all_fail (frame_tests s rows ++ state_tests state) tt z)).1 in
    state_good state 0 (sym (not_refused (state_tests state) h)) refl

module _ (s : Session) (rows state : List ℕ) (a b f : ℕ) (ea : a ≡ first (frame_tests s rows)) (eb : b ≡ first (state_tests state)) (q : f ≡ or_else a b) where
  pub count_is : f ≡ count_refusal s rows state
  unfolding count_refusal
  count_is = q ∙ ap (λ (k : ℕ). or_else k b) ea ∙ ap (or_else (first (frame_tests s rows))) eb ∙ sym (first_join (frame_tests s rows) (state_tests state) tt)
