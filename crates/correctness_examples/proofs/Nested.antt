-- A meaning within another: the example's run goes on with sums of which the product is an operand, one of them a charge with a
-- fee, and the theorem gives their numbers.
use Prim.Native.Nat.{ℕ}
use mathlib.Core.Path.{◌≡◌, refl}
use mathlib.Core.Logic.{inl, inr}
use mathlib.Core.List.{List, [], ◌∷◌, ◌++◌}
use lib.Dec.{lit≤}
use Rattle.opening.specs.Opening.{open_answer}
use Rattle.runs.specs.Calls.{Post, message, linear}
use Rattle.correctness.specs.History.{Event, history}
use Rattle.correctness.specs.Ledger.{Written, Plain, of_deal, of_row, of_times, of_fee, of_more}
use Rattle.correctness.specs.Truth.{OwnPart, TrueFinish}
use Rattle.correctness.specs.Claim.{Premises}
use Rattle.correctness.proofs.Meanings.{one_number}
use Rattle.correctness.proofs.Theorems.{correct}
use Rattle.correctness_examples.specs.Station.{plan, draw_with, ledger, call, zeros, room, Everyone, states}
use Rattle.correctness_examples.proofs.Computing.{Computes, plain_42, each_join, each_of, each_quiet}
use Rattle.correctness_examples.specs.Run.{drawn, draw, loads, deals, sums, ends, events, new}
use Rattle.correctness_examples.proofs.Example.{premises}

-- row 6 is row 0 plus twice row 4; row 8 is the charge, row 4 with a fee of 8
unfoldable more : List Event
more =
    call 2 (linear 6 0 4 2 0) ∷ call 1 (linear 6 0 4 2 0) ∷ call 2 (message 6 1 room)
    ∷ call 1 (linear 8 4 4 0 8) ∷ call 2 (linear 8 4 4 0 8) ∷ call 2 (message 8 1 room) ∷ []

longer : Premises plan draw ledger Everyone (events ++ more) zeros states
unfolding plan more ledger
longer = record {
  sound = premises.sound;
  is_draw = premises.is_draw;
  parts =
      each_join Everyone (λ i c v. OwnPart plan draw i c) events more new premises.parts
      (each_of Everyone (OwnPart plan draw) more (history events new) (tt, (tt, (tt, (tt, (tt, (tt, tt)))))));
  ledger =
      each_join Everyone (λ i c v. Written draw ledger c) events more new premises.ledger
      (each_of Everyone (λ i. Written draw ledger) more (history events new) (refl, (refl, (tt, (refl, (refl, (tt, tt)))))));
  finishes =
      each_join Everyone (λ i c v. TrueFinish Everyone v (v.posts i) c) events more new premises.finishes
      (each_quiet Everyone Everyone more (history events new) tt);
}

-- post 1 at the end, and a record with post 2's message of the numbers x and y
abbrev last : Post
last = (history (events ++ more) new).posts 1

abbrev heard : ℕ → ℕ → List ℕ
heard x y = 0 ∷ 0 ∷ 0 ∷ 1 ∷ x ∷ y ∷ 0 ∷ 0 ∷ 0 ∷ []

abbrev number : ℕ → List ℕ → ℕ
number r blocks = (open_answer last.session last.rows r blocks).value

by_theorem : Plain ledger 6 (number 6 (heard 79 39))
unfolding Computes plan draw_with drawn draw loads deals sums ends more
by_theorem =
    (((correct plan draw ledger Everyone zeros states (events ++ more) longer 1 (lit≤ tt) (lit≤ tt) tt).opens 6 (heard 79 39) refl
    (record { long = refl; low = refl })).exact (lit≤ tt) ((λ ne. absurd (ne refl)), ((λ ne. (tt, inl (inr (inr (inl refl))))), tt))).1

-- 6 + 2 · 42, by the ledger alone
plain_90 : Plain ledger 6 90
unfolding Computes ledger
plain_90 = of_more (of_row {a = 0} {x = 6} of_deal) (of_more (of_times {s = 2} {b = 4} {y = 42} plain_42) (of_fee {k = 0}))

is_90 : number 6 (heard 79 39) ≡ 90
is_90 = one_number ledger 6 _ 90 by_theorem plain_90

-- "The firms' charge is rides × rate plus a fixed part": 6 · 7 + 8, where post 2's polynomial of the charge is that of the product
charged : Plain ledger 8 (number 8 (heard 38 19))
unfolding Computes plan draw_with drawn draw loads deals sums ends more
charged =
    (((correct plan draw ledger Everyone zeros states (events ++ more) longer 1 (lit≤ tt) (lit≤ tt) tt).opens 8 (heard 38 19) refl
    (record { long = refl; low = refl })).exact (lit≤ tt) ((λ ne. absurd (ne refl)), ((λ ne. (tt, inl (inr (inr (inr (inl refl)))))), tt))).1

plain_50 : Plain ledger 8 50
unfolding Computes ledger
plain_50 = of_more (of_row {a = 4} {x = 42} plain_42) (of_more (of_times {s = 0} {b = 4} {y = 42} plain_42) (of_fee {k = 8}))

is_50 : number 8 (heard 38 19) ≡ 50
is_50 = one_number ledger 8 _ 50 charged plain_50
