-- A run for which the premises hold: three posts, in different orders, with a deal refused, a lie rejected and a collect that
-- finds too few.
use Prim.Native.Nat.{ℕ, ◌<◌}
use mathlib.Core.Path.{◌≡◌, refl}
use mathlib.Core.Logic.{inl, inr}
use mathlib.Core.List.{List, [], ◌∷◌, ◌++◌}
use native.Mathlib.Omega.{arith}
use lib.Dec.{lit<, lit≤}
use lib.ListN.{get_or}
use Rattle.field.specs.Modulus.{p}
use Rattle.poly.specs.Counting.{All}
use Rattle.factory.specs.Calls.{dealer_number_of}
use Rattle.opening.specs.Walking.{accepted_posts}
use Rattle.opening.specs.Opening.{open_answer}
use Rattle.collect.specs.Collect.{mask_a}
use Rattle.runs.specs.Draws.{IsDraw, raw_draw}
use Rattle.factory.proofs.Laws.{passes_elements}
use Rattle.correctness.specs.History.{Event, history, Each}
use Rattle.correctness.specs.Ledger.{dealt, Written, Plain}
use Rattle.correctness.specs.Truth.{OwnPart, TrueFinish}
use Rattle.correctness.specs.Claim.{Premises}
use Rattle.correctness.proofs.Meanings.{one_number}
use Rattle.correctness.proofs.Theorems.{correct}
use Rattle.correctness_examples.specs.Station.{plan, draw_with, ledger, zeros, refusals, Everyone, states}
use Rattle.correctness_examples.specs.Run.{drawn, draw, loads, deals, sums, ends, before, events, new, lie, last, true_record}
use Rattle.correctness_examples.proofs.Computing.{Computes, sound, is_draw, plain_42, two_true, all_join, each_join, each_of, each_quiet, Of}

pub draw_is : IsDraw plan draw
unfolding Computes drawn draw
draw_is = is_draw drawn refl (passes_elements drawn refl)

answered : refusals events new
    ≡ 0 ∷ 0 ∷ 0 ∷ 0 ∷ 0 ∷ 0 ∷ 0 ∷ 0 ∷ 0 ∷ 0 ∷ 7 ∷ 0 ∷ 0 ∷ 0 ∷ 0 ∷ 0 ∷ 0 ∷ 0 ∷ 0 ∷ 0 ∷ 0 ∷ 0 ∷ 9 ∷ 0 ∷ 0 ∷ 0 ∷ 0 ∷ 0 ∷ []
unfolding Computes plan draw_with drawn draw loads deals sums ends refusals
answered = refl

-- ---- the premises

module _ (P : Event → Type 0) where
  together : All P loads → All P deals → All P sums → All P ends → All P events
  together a b c d = all_join P before ends (all_join P loads (deals ++ sums) a (all_join P deals sums b c)) d

own_parts : All (Of (OwnPart plan draw)) events
unfolding plan loads deals sums ends
own_parts =
    together (Of (OwnPart plan draw))
    ((tt, refl), ((tt, refl), ((refl, refl), ((refl, refl), ((tt, refl), ((tt, refl), ((tt, refl), ((tt, refl), ((refl, refl), tt)))))))))
    (tt, (tt, (tt, (tt, (tt, (tt, (tt, tt)))))))
    (tt, (tt, (tt, (tt, (tt, (tt, tt))))))
    (tt, (tt, (tt, (tt, (tt, (tt, tt))))))

all_written : All (Of (λ i. Written draw ledger)) events
unfolding loads deals sums ends ledger
all_written =
    together (Of (λ i. Written draw ledger))
    (tt, (tt, (tt, (tt, (tt, (tt, (tt, (tt, (tt, tt)))))))))
    (six, (six, (seven, (seven, (six, (six, (seven, tt)))))))
    (refl, (tt, (refl, (refl, (refl, (refl, tt))))))
    (tt, (tt, (tt, (tt, (tt, (tt, tt))))))
  where
    six : (u : ℕ) × (u < p) × (ledger 0 ≡ dealt u) × ((dealer_number_of 6 (get_or (raw_draw draw 0) 0 0)).value ≡ (dealer_number_of u (get_or (raw_draw draw 0) 0 0)).value)
    six = (6, lit< tt, refl, refl)

    seven : (u : ℕ) × (u < p) × (ledger 1 ≡ dealt u) × ((dealer_number_of 7 (get_or (raw_draw draw 1) 0 0)).value ≡ (dealer_number_of u (get_or (raw_draw draw 1) 0 0)).value)
    seven = (7, lit< tt, refl, refl)

-- the masks of posts 1 and 3
m1 : List ℕ
m1 = 2147483643 ∷ 1 ∷ 1 ∷ 0 ∷ []

m3 : List ℕ
m3 = 4 ∷ 2147483646 ∷ 2 ∷ 0 ∷ []

true_ends : Each Everyone (λ i c v. TrueFinish Everyone v (v.posts i) c) ends (history before new)
unfolding Computes plan draw_with drawn draw loads deals sums ends m1 m3
true_ends = (
  (λ m z. let y : ◌≡◌ {A = ℕ} 9 0 = z in absurd (omega arith)),
  (
    (λ m z. (
      two_true 1 3 refl (omega arith) (lit≤ tt, lit≤ tt, refl, λ ne. absurd (ne refl)) (lit≤ tt, lit≤ tt, refl, λ ne. (tt, (m3, refl, passes_elements m3 refl, inr (inl refl), refl))),
      two_true 1 3 refl (omega arith) (lit≤ tt, lit≤ tt, refl, λ ne. absurd (ne refl)) (lit≤ tt, lit≤ tt, refl, λ ne. (tt, (m3, refl, passes_elements m3 refl, inr (inl refl), refl))),
    )),
    (
      (λ m z. (
        two_true 1 2 refl (omega arith) (lit≤ tt, lit≤ tt, refl, λ ne. (tt, (m1, refl, passes_elements m1 refl, inl refl, refl))) (lit≤ tt, lit≤ tt, refl, λ ne. absurd (ne refl)),
        two_true 1 2 refl (omega arith) (lit≤ tt, lit≤ tt, refl, λ ne. (tt, (m1, refl, passes_elements m1 refl, inl refl, refl))) (lit≤ tt, lit≤ tt, refl, λ ne. absurd (ne refl)),
      )),
      ((λ m z. tt), ((λ m z. tt), ((λ m z. tt), tt))),
    ),
  ),
)

pub premises : Premises plan draw ledger Everyone events zeros states
unfolding Computes plan drawn draw loads deals sums ends
premises = record {
  sound = sound;
  is_draw = draw_is;
  parts = each_of Everyone (OwnPart plan draw) events new own_parts;
  ledger = each_of Everyone (λ i. Written draw ledger) events new all_written;
  finishes =
      each_join Everyone (λ i c v. TrueFinish Everyone v (v.posts i) c) before ends new (each_quiet Everyone Everyone before new tt) true_ends;
}

-- ---- what it shows

-- post 2's false block is not accepted: post 1 takes its own and post 3's
rejected : (let q = (history before new).posts 1 in accepted_posts q.session (mask_a q.session q.rows 2) lie) ≡ 1 ∷ 3 ∷ []
unfolding Computes plan draw_with drawn draw loads deals sums
rejected = refl

opens_42 : (open_answer last.session last.rows 4 true_record).value ≡ 42
unfolding Computes plan draw_with drawn draw loads deals sums ends
opens_42 = refl

-- the theorem gives the plain number, and the ledger alone says that it is 42
by_theorem : Plain ledger 4 (open_answer last.session last.rows 4 true_record).value
unfolding Computes plan draw_with drawn draw loads deals sums ends
by_theorem =
    (((correct plan draw ledger Everyone zeros states events premises 1 (lit≤ tt) (lit≤ tt) tt).opens 4 true_record refl
    (record { long = refl; low = refl })).exact (lit≤ tt) ((λ ne. absurd (ne refl)), ((λ ne. (tt, inl (inr (inl refl)))), tt))).1

is_42 : (open_answer last.session last.rows 4 true_record).value ≡ 42
is_42 = one_number ledger 4 _ 42 by_theorem plain_42

-- with a block that is not accepted it is refused
alone : (open_answer last.session last.rows 4 (0 ∷ 0 ∷ 0 ∷ 1 ∷ 77 ∷ 0 ∷ 0 ∷ 0 ∷ 0 ∷ [])).refusal ≡ 9
unfolding Computes plan draw_with drawn draw loads deals sums ends
alone = refl
