-- A post that nobody listens to: post 3 deals another number, so that no ledger fits all posts, and the theorem holds of the others.
-- What they do behind the opening is not asked for.
use Prim.Native.Nat.{ℕ}
use mathlib.Core.Path.{◌≡◌, refl, sym, ◌∙◌, ap}
use mathlib.Core.Logic.{inl}
use mathlib.Core.List.{List, [], ◌∷◌, ◌++◌}
use native.Mathlib.Omega.{arith}
use lib.Dec.{lit<, lit≤}
use lib.ListN.{get_or, length}
use Rattle.factory.specs.Calls.{dealer_number_of}
use Rattle.session.specs.declared.Answer.{Answer}
use Rattle.runs.specs.Calls.{message, opening}
use Rattle.correctness.specs.History.{Event, World, answers, begin}
use Rattle.correctness.specs.Ledger.{Ledger, Plain}
use Rattle.correctness.specs.Claim.{Premises}
use Rattle.correctness.proofs.Meanings.{one_number}
use Rattle.correctness.proofs.Theorems.{openings_answered}
use Rattle.correctness_examples.specs.Station.{plan, draw_with, ledger, call, load, deal_of, zeros, room, Everyone, AllBut, states}
use Rattle.correctness_examples.proofs.Computing.{Computes, sound, plain_6, each_quiet}
use Rattle.correctness_examples.specs.Run.{drawn, draw}
use Rattle.correctness_examples.proofs.Example.{draw_is}

-- posts 1 and 2 deal 6, post 3 deals 8; post 2 sends its message
unfoldable before : List Event
before =
    load draw 1 0 ∷ load draw 2 0 ∷ load draw 3 0 ∷ deal_of draw 1 0 6 ∷ deal_of draw 2 0 6 ∷ deal_of draw 3 0 8
    ∷ call 2 (message 0 1 room) ∷ []

-- post 1 opens with post 2's block alone; then it deals row 1, where the ledger has 7, as 9
abbrev blocks : List ℕ
blocks = 0 ∷ 0 ∷ 0 ∷ 1 ∷ 3 ∷ 1 ∷ 0 ∷ 0 ∷ 0 ∷ []

unfoldable behind : List Event
behind = load draw 1 1 ∷ deal_of draw 1 1 9 ∷ []

abbrev new : World
new = begin plan draw zeros states

-- no ledger fits all posts: c is p − 1 of 6, and 1 of 8
no_premises : (L : Ledger) → Premises plan draw L Everyone before zeros states → ⊥
unfolding Computes plan draw_with drawn draw before
no_premises L h =
    let a = h.ledger.1.1.1.0 tt refl in let b = h.ledger.1.1.1.1.1.0 tt refl in let e : a.0 ≡ b.0 = cc in
    let z : ◌≡◌ {A = ℕ} 2147483646 1 = a.3 ∙ ap (λ (u : ℕ). (dealer_number_of u 7).value) e ∙ sym b.3 in
    absurd (omega arith)

-- but this one fits all but post 3
premises : Premises plan draw ledger (AllBut 3) before zeros states
unfolding plan before ledger
premises = record {
  sound = sound;
  is_draw = draw_is;
  parts = ((λ m z. (tt, refl)), ((λ m z. (tt, refl)), ((λ m z. (tt, refl)), ((λ m z. tt), ((λ m z. tt), ((λ m z. tt), ((λ m z. tt), tt)))))));
  ledger = (
    (λ m z. tt),
    ((λ m z. tt), ((λ m z. tt), ((λ m z. (6, lit< tt, refl, refl)), ((λ m z. (6, lit< tt, refl, refl)), ((λ m z. absurd (m refl)), ((λ m z. tt), tt)))))),
  );
  finishes = each_quiet (AllBut 3) (AllBut 3) before new tt;
}

module _ (none : Answer) where
  -- the opening's own answer
  answer : Answer
  answer = get_or (answers (before ++ (call 1 (opening 0 blocks) ∷ behind)) new) (length before) none

  opens_6 : answer.value ≡ 6
  unfolding Computes plan draw_with drawn draw before behind answer
  opens_6 = refl

  by_theorem : Plain ledger 0 answer.value
  unfolding Computes plan draw_with drawn draw before answer
  by_theorem =
      ((openings_answered plan draw ledger (AllBut 3) zeros states before behind 1 0 blocks none premises (lit≤ tt) (lit≤ tt)
      (omega arith) refl (record { long = refl; low = refl })).exact (lit≤ tt)
      ((λ ne. absurd (ne refl)), ((λ ne. (omega arith, inl (inl refl))), tt))).1

  is_6 : answer.value ≡ 6
  is_6 = one_number ledger 0 _ 6 by_theorem plain_6
