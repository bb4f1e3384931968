-- Rows dealt by turns, by computing and by the theorem.
use mathlib.Core.Path.{◌≡◌, refl}
use mathlib.Core.Logic.{inl}
use lib.Dec.{lit<, lit≤}
use Rattle.opening.specs.Opening.{open_answer}
use Rattle.correctness.specs.Ledger.{Plain}
use Rattle.correctness.specs.Claim.{Premises}
use Rattle.correctness.proofs.Theorems.{correct}
use Rattle.correctness_examples.specs.Station.{plan, draw_with, ledger, Everyone, zeros, refusals}
use Rattle.correctness_examples.specs.Run.{drawn, draw}
use Rattle.correctness_examples.specs.Turns.{states, events, new, opener, blocks, ByTurns}
use Rattle.correctness_examples.proofs.Computing.{Computes, sound, each_quiet}
use Rattle.correctness_examples.proofs.Example.{draw_is}

-- a turn that deals is asked for what a deal is; a turn that does not, and a line placed, for nothing
premises : Premises plan draw ledger Everyone events zeros states
unfolding Computes plan draw_with drawn draw events ledger
premises = record {
  sound = sound;
  is_draw = draw_is;
  parts = (
    (λ m z. (tt, refl)),
    ((λ m z. (tt, refl)), ((λ m z. (tt, refl)), ((λ m z. tt), ((λ m z. tt), ((λ m z. tt), ((λ m z. tt), ((λ m z. tt), ((λ m z. tt), ((λ m z. tt), ((λ m z. tt), ((λ m z. tt), ((λ m z. tt), tt)))))))))))),
  );
  ledger = (
    (λ m z. tt),
    (
      (λ m z. tt),
      (
        (λ m z. tt),
        (
          (λ m z. (6, lit< tt, refl, refl)),
          (
            (λ m z. tt),
            (
              (λ m z. tt),
              (
                (λ m z. tt),
                ((λ m z. (6, lit< tt, refl, refl)), ((λ m z. tt), ((λ m z. tt), ((λ m z. tt), ((λ m z. (6, lit< tt, refl, refl)), ((λ m z. tt), tt)))))),
              ),
            ),
          ),
        ),
      ),
    ),
  );
  finishes = each_quiet Everyone Everyone events new tt;
}

pub by_turns : ByTurns
unfolding Computes plan draw_with drawn draw events refusals
by_turns = record { premises = premises; long = refl; answers = refl; held = (refl, refl, refl); opens = refl }

by_theorem : ((open_answer opener.session opener.rows 0 blocks).refusal ≡ 0) × Plain ledger 0 (open_answer opener.session opener.rows 0 blocks).value
unfolding Computes plan draw_with drawn draw events
by_theorem =
    ((correct plan draw ledger Everyone zeros states events premises 1 (lit≤ tt) (lit≤ tt) tt).opens 0 blocks refl
    (record { long = refl; low = refl })).exact (lit≤ tt) ((λ ne. absurd (ne refl)), ((λ ne. (tt, inl (inl refl))), tt))
