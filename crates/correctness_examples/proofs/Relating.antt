-- A run with two relations for which the premises hold: rides × rate − fee opens to 0, and with another fee it does not.
use Prim.Native.Nat.{ℕ, ◌<◌}
use mathlib.Core.Path.{◌≡◌, refl, sym, subst}
use mathlib.Core.Bool.{true, false}
use mathlib.Core.Logic.{◌≢◌, inl, inr}
use mathlib.Core.List.{List, [], ◌∷◌, ◌++◌, append_assoc}
use native.Mathlib.Omega.{arith}
use lib.Dec.{lit<, lit≤}
use lib.ListN.{get_or}
use Rattle.field.specs.Modulus.{p}
use Rattle.poly.specs.Counting.{All}
use Rattle.factory.specs.Calls.{dealer_number_of}
use Rattle.opening.specs.Opening.{open_answer}
use Rattle.runs.specs.Draws.{raw_draw}
use Rattle.factory.proofs.Laws.{passes_elements}
use Rattle.runs.specs.Calls.{Call}
use Rattle.correctness.specs.History.{Event, World, history, Each}
use Rattle.correctness.specs.Ledger.{dealt, Written, Plain, of_deal, of_row, of_times, of_fee, of_more, of_product}
use Rattle.correctness.specs.Truth.{OwnPart, TrueFinish}
use Rattle.correctness.specs.Claim.{Premises}
use Rattle.correctness.specs.Relation.{Named, Shows}
use Rattle.correctness.proofs.Relation.{relation_shown}
use Rattle.correctness_examples.specs.Station.{plan, draw_with, refusals, Everyone, zeros, states}
use Rattle.correctness_examples.specs.Run.{drawn, draw}
use Rattle.correctness_examples.specs.Fees.{fair, unfair, fees, starts, sends, early, closing, wrong, late, later, before, events, new, last, told, numbers}
use Rattle.correctness_examples.proofs.Computing.{Computes, sound, two_true, all_join, each_join, each_of, each_quiet, Of}
use Rattle.correctness_examples.proofs.Example.{draw_is}

answered : refusals events new ≡ 0 ∷ 0 ∷ 0 ∷ 0 ∷ 0 ∷ 0 ∷ 0 ∷ 0 ∷ 0 ∷ 0 ∷ 0 ∷ 0 ∷ 0 ∷ 0 ∷ 0 ∷ 0 ∷ 9 ∷ 0 ∷ 0 ∷ 0 ∷ 0 ∷ 0 ∷ 0 ∷ []
unfolding Computes plan draw_with drawn draw starts sends early late later refusals
answered = refl

opens_0 : (open_answer last.session last.rows 7 told).value ≡ 0
unfolding Computes plan draw_with drawn draw starts sends early late later
opens_0 = refl

-- 42 − 43
opens_other : (open_answer last.session last.rows 8 told).value ≡ 2147483646
unfolding Computes plan draw_with drawn draw starts sends early late later
opens_other = refl

-- ---- the premises

module _ (P : Event → Type 0) where
  together : All P starts → All P sends → All P early → P closing → All P late → P wrong → All P later → All P events
  together a b c d e f g =
      all_join P before (closing ∷ (late ++ (wrong ∷ later))) (all_join P starts (sends ++ early) a (all_join P sends early b c))
      (d, all_join P late (wrong ∷ later) e (f, g))

own_parts : All (Of (OwnPart plan draw)) events
unfolding Computes plan starts sends early late later
own_parts =
    together (Of (OwnPart plan draw))
    ((tt, refl), ((tt, refl), ((refl, refl), ((tt, refl), ((tt, refl), ((refl, refl), (tt, (tt, (tt, (tt, tt))))))))))
    (tt, (tt, (tt, (tt, (tt, (tt, tt))))))
    ((tt, (tt, tt)), tt)
    (tt, (tt, tt))
    ((tt, (tt, tt)), (tt, tt))
    tt
    (tt, (tt, tt))

all_written : All (Of (λ i. Written draw fees)) events
unfolding Computes starts sends early late later fees
all_written =
    together (Of (λ i. Written draw fees))
    (tt, (tt, (tt, (tt, (tt, (tt, (six, (seven, (six, (seven, tt))))))))))
    (refl, (refl, (refl, (refl, (refl, (refl, tt))))))
    ((tt, (tt, refl)), tt)
    (tt, (tt, refl))
    ((tt, (tt, refl)), (tt, tt))
    refl
    (refl, (tt, tt))
  where
    six : (u : ℕ) × (u < p) × (fees 0 ≡ dealt u) × ((dealer_number_of 6 (get_or (raw_draw draw 0) 0 0)).value ≡ (dealer_number_of u (get_or (raw_draw draw 0) 0 0)).value)
    six = (6, lit< tt, refl, refl)

    seven : (u : ℕ) × (u < p) × (fees 1 ≡ dealt u) × ((dealer_number_of 7 (get_or (raw_draw draw 1) 0 0)).value ≡ (dealer_number_of u (get_or (raw_draw draw 1) 0 0)).value)
    seven = (7, lit< tt, refl, refl)

-- the masks of posts 1 and 3
m1 : List ℕ
m1 = 2147483643 ∷ 1 ∷ 1 ∷ 0 ∷ []

m3 : List ℕ
m3 = 4 ∷ 2147483646 ∷ 2 ∷ 0 ∷ []

abbrev Truly : ℕ → Call → World → Type 0
Truly i c v = TrueFinish Everyone v (v.posts i) c

true_ends : Each Everyone Truly (early ++ (closing ∷ (late ++ (wrong ∷ later)))) (history (starts ++ sends) new)
unfolding Computes plan draw_with drawn draw starts sends early late later m1 m3
true_ends = (
  (λ m z. let y : ◌≡◌ {A = ℕ} 9 0 = z in absurd (omega arith)),
  (
    (λ m z. (
      (
        two_true 1 3 refl (omega arith) (lit≤ tt, lit≤ tt, refl, λ ne. absurd (ne refl)) (lit≤ tt, lit≤ tt, refl, λ ne. (tt, (m3, refl, passes_elements m3 refl, inl refl, refl))),
        two_true 1 3 refl (omega arith) (lit≤ tt, lit≤ tt, refl, λ ne. absurd (ne refl)) (lit≤ tt, lit≤ tt, refl, λ ne. (tt, (m3, refl, passes_elements m3 refl, inl refl, refl))),
      ),
      (tt, tt),
    )),
    (
      (λ m z. (
        (
          two_true 1 3 refl (omega arith) (lit≤ tt, lit≤ tt, refl, λ ne. (tt, (m1, refl, passes_elements m1 refl, inl refl, refl))) (lit≤ tt, lit≤ tt, refl, λ ne. absurd (ne refl)),
          two_true 1 3 refl (omega arith) (lit≤ tt, lit≤ tt, refl, λ ne. (tt, (m1, refl, passes_elements m1 refl, inl refl, refl))) (lit≤ tt, lit≤ tt, refl, λ ne. absurd (ne refl)),
        ),
        (tt, tt),
      )),
      ((λ m z. tt), ((λ m z. tt), ((λ m z. tt), ((λ m z. tt), tt)))),
    ),
  ),
)

pub premises : Premises plan draw fees Everyone events zeros states
unfolding Computes plan drawn draw starts sends early late later
premises = record {
  sound = sound;
  is_draw = draw_is;
  parts = each_of Everyone (OwnPart plan draw) events new own_parts;
  ledger = each_of Everyone (λ i. Written draw fees) events new all_written;
  finishes =
      each_join Everyone Truly (starts ++ sends) (early ++ (closing ∷ (late ++ (wrong ∷ later)))) new (each_quiet Everyone Everyone (starts ++ sends) new tt) true_ends;
}

-- ---- what the theorem gives

plain_5 : Plain fees 5 42
unfolding Computes fees
plain_5 = of_more (of_row {a = 1} {x = 7} of_deal) (of_more (of_times {s = 5} {b = 1} {y = 7} of_deal) (of_fee {k = 0}))

plain_6 : Plain fees 6 43
unfolding Computes fees
plain_6 = of_more (of_row {a = 1} {x = 7} of_deal) (of_more (of_times {s = 5} {b = 1} {y = 7} of_deal) (of_fee {k = 1}))

absent : {A : Type 0} → true ≡ false → A
absent e = let z : ◌≡◌ {A = ℕ} 0 1 = cc in absurd (omega arith)

named : Named fees numbers fair
unfolding fees numbers
named = ((of_deal, λ e. of_deal), ((plain_5, absent), tt))

-- the relation holds, so the row opens to 0
by_theorem : Shows numbers fair (open_answer last.session last.rows 7 told)
unfolding Computes plan draw_with drawn draw starts sends early late later
by_theorem =
    (relation_shown plan draw fees Everyone zeros states before (late ++ (wrong ∷ later)) 1 7 fair _ premises (lit≤ tt) (lit≤ tt) tt refl).2
    numbers named 1 (lit≤ tt) (lit≤ tt) tt told refl (record { long = refl; low = refl }) (lit≤ tt)
    ((λ ne. absurd (ne refl)), ((λ ne. (tt, inl (inr (inl refl)))), tt))

is_0 : (open_answer last.session last.rows 7 told).value ≡ 0
unfolding numbers
is_0 = by_theorem.zero_if refl

-- with the other fee it does not hold, and the row does not open to 0
named' : Named fees numbers unfair
unfolding Computes fees numbers
named' = ((of_product {k = 2} {a = 0} {b = 1} {x = 6} {y = 7} of_deal of_deal, absent), ((plain_6, absent), tt))

abbrev first_part : List Event
first_part = before ++ (closing ∷ late)

-- the second relation in the same run
apart : first_part ++ (wrong ∷ later) ≡ events
apart = append_assoc before (closing ∷ late) (wrong ∷ later)

by_theorem' : (let q = (history (first_part ++ (wrong ∷ later)) new).posts 1 in Shows numbers unfair (open_answer q.session q.rows 8 told))
unfolding Computes plan draw_with drawn draw starts sends early late later
by_theorem' =
    (relation_shown plan draw fees Everyone zeros states first_part later 1 8 unfair []
    (subst (λ (es : List Event). Premises plan draw fees Everyone es zeros states) (sym apart) premises) (lit≤ tt) (lit≤ tt) tt refl).2
    numbers named' 1 (lit≤ tt) (lit≤ tt) tt told refl (record { long = refl; low = refl }) (lit≤ tt)
    ((λ ne. absurd (ne refl)), ((λ ne. (tt, inl (inr (inr (inl refl))))), tt))

is_not_0 : (open_answer last.session last.rows 8 told).value ≢ 0
unfolding numbers
is_not_0 e =
    let shows = subst (λ (es : List Event). let q = (history es new).posts 1 in Shows numbers unfair (open_answer q.session q.rows 8 told)) apart by_theorem' in
    let h : ◌≡◌ {A = ℕ} 2147483646 0 = shows.only_if e in omega arith
