-- A lie that a later post contradicts is refused with 13, by computing and by the theorem: of the three polynomials accepted two are
-- true, so that the answer is the plain number or 13. And so in either record of a collect and of a relation's finish, by computing.
use mathlib.Core.Path.{◌≡◌, refl}
use mathlib.Core.Logic.{◌⊎◌, inl}
use native.Mathlib.Omega.{arith}
use lib.Dec.{lit<, lit≤}
use Rattle.opening.specs.Opening.{open_answer}
use Rattle.correctness.specs.Ledger.{Plain}
use Rattle.correctness.specs.Claim.{Premises}
use Rattle.correctness.proofs.Theorems.{correct}
use Rattle.correctness_examples.specs.Station.{plan, draw_with, ledger, Everyone, zeros, states}
use Rattle.correctness_examples.specs.Run.{drawn, draw, loads, deals, sums, new}
use Rattle.correctness_examples.specs.Fees.{starts, sends}
use Rattle.correctness_examples.specs.Contradicted.{dealing, opener, false_low, sent_both, refusal_with, Contradicted, ContradictedCollect, ContradictedFinish}
use Rattle.correctness_examples.proofs.Computing.{Computes, sound, two_true, each_quiet}
use Rattle.correctness_examples.proofs.Example.{draw_is}

pub contradicted : Contradicted
unfolding Computes plan draw_with drawn draw dealing
contradicted = record {
  accepted_all = refl;
  went_through = refl;
  refused = refl;
  refused_behind = refl;
  not_refused = refl;
  opens = refl;
}

pub contradicted_collect : ContradictedCollect
unfolding Computes plan draw_with drawn draw loads deals sums
contradicted_collect = record { accepted_a = refl; accepted_b = refl; refused_a = refl; refused_b = refl; not_refused = refl }

pub contradicted_finish : ContradictedFinish
unfolding Computes plan draw_with drawn draw starts sends
contradicted_finish = record { refused_a = refl; refused_b = refl; not_refused = refl }

premises : Premises plan draw ledger Everyone dealing zeros states
unfolding plan dealing ledger
premises = record {
  sound = sound;
  is_draw = draw_is;
  parts = (
    (λ m z. (tt, refl)),
    ((λ m z. (tt, refl)), ((λ m z. (tt, refl)), ((λ m z. tt), ((λ m z. tt), ((λ m z. tt), ((λ m z. tt), ((λ m z. tt), tt))))))),
  );
  ledger = (
    (λ m z. tt),
    (
      (λ m z. tt),
      (
        (λ m z. tt),
        ((λ m z. (6, lit< tt, refl, refl)), ((λ m z. (6, lit< tt, refl, refl)), ((λ m z. (6, lit< tt, refl, refl)), ((λ m z. tt), ((λ m z. tt), tt))))),
      ),
    ),
  );
  finishes = each_quiet Everyone Everyone dealing new tt;
}

-- post 1's own and post 3's are true, whichever post 2's is
by_theorem : ((refusal_with false_low ≡ 0) × Plain ledger 0 (open_answer opener.session opener.rows 0 false_low).value)
    ⊎ (refusal_with false_low ≡ 13)
unfolding Computes plan draw_with drawn draw dealing
by_theorem =
    ((correct plan draw ledger Everyone zeros states dealing premises 1 (lit≤ tt) (lit≤ tt) tt).opens 0 false_low refl
    (record { long = refl; low = refl })).agreed
    (two_true 1 3 refl (omega arith) (lit≤ tt, lit≤ tt, refl, λ ne. absurd (ne refl)) (lit≤ tt, lit≤ tt, refl, λ ne. (tt, inl (inl refl))))

-- it is 13, since a share is off
off_by_theorem : refusal_with false_low ≡ 13
unfolding Computes plan draw_with drawn draw dealing
off_by_theorem =
    (((correct plan draw ledger Everyone zeros states dealing premises 1 (lit≤ tt) (lit≤ tt) tt).opens 0 false_low refl
    (record { long = refl; low = refl })).thirteen (lit≤ tt)).0 refl

-- and where all are true, it is the plain number
sent_by_theorem : (refusal_with sent_both ≡ 0) × Plain ledger 0 (open_answer opener.session opener.rows 0 sent_both).value
unfolding Computes plan draw_with drawn draw dealing
sent_by_theorem =
    ((correct plan draw ledger Everyone zeros states dealing premises 1 (lit≤ tt) (lit≤ tt) tt).opens 0 sent_both refl
    (record { long = refl; low = refl })).exact (lit≤ tt)
    ((λ ne. absurd (ne refl)), ((λ ne. (tt, inl (inl refl))), ((λ ne. (tt, inl (inl refl))), tt)))
