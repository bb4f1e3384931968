-- Why own parts and one ledger are asked for: three runs in which one call of one post breaks one of the two, and an opening in
-- which each polynomial accepted was truly sent gives another number than the plain one.
use Prim.Native.Nat.{ℕ}
use mathlib.Core.Path.{◌≡◌, refl, sym, ◌∙◌}
use mathlib.Core.Logic.{◌≢◌, inl}
use mathlib.Core.List.{List, [], ◌∷◌}
use native.Mathlib.Omega.{arith}
use lib.Dec.{lit<, lit≤}
use Rattle.opening.specs.Opening.{open_answer}
use Rattle.runs.specs.Calls.{message, load_row_of, linear}
use Rattle.correctness.specs.History.{Event, World, history, begin}
use Rattle.correctness.specs.Ledger.{Plain}
use Rattle.correctness.specs.Truth.{TruePolynomial}
use Rattle.correctness.specs.Claim.{Opens}
use Rattle.correctness.proofs.Meanings.{one_number}
use Rattle.correctness_examples.specs.Station.{plan, draw_with, ledger, call, load, deal_of, zeros, room, Everyone, AllBut, states}
use Rattle.correctness_examples.proofs.Computing.{Computes, plain_6, plain_18, Asked, each_quiet}
use Rattle.correctness_examples.specs.Run.{drawn, draw}
use Rattle.correctness_examples.proofs.Example.{draw_is}

abbrev new : World
new = begin plan draw zeros states

-- another number than the plain one
not_it : (r x y z : ℕ) → x ≡ y → y ≢ z → Plain ledger r z → Plain ledger r x → ⊥
not_it r x y z e ne k h = ne (sym e ∙ one_number ledger r x z h k)

-- ---- a part that is not the post's own

-- post 2's row 0 with 5 + 0z in place of 3 + z, which has its value at post 1's check point 2
unfoldable foreign : List Event
foreign =
    load draw 1 0 ∷ call 2 (load_row_of 0 (5 ∷ 0 ∷ 7 ∷ 6 ∷ 23 ∷ 12 ∷ 18 ∷ 24 ∷ [])) ∷ deal_of draw 1 0 6 ∷ deal_of draw 2 0 6
    ∷ call 2 (message 0 1 room) ∷ []

all_but_a_part : Asked draw (AllBut 2) Everyone Everyone foreign new
unfolding plan foreign ledger
all_but_a_part = record {
  is_draw = draw_is;
  parts = ((λ m z. (tt, refl)), ((λ m z. absurd (m refl)), ((λ m z. tt), ((λ m z. tt), ((λ m z. tt), tt)))));
  ledger = ((λ m z. tt), ((λ m z. tt), ((λ m z. (6, lit< tt, refl, refl)), ((λ m z. (6, lit< tt, refl, refl)), ((λ m z. tt), tt)))));
  finishes = each_quiet Everyone Everyone foreign new tt;
}

opens_8 : (let q = (history foreign new).posts 1 in (open_answer q.session q.rows 0 (0 ∷ 0 ∷ 0 ∷ 1 ∷ 5 ∷ 0 ∷ 0 ∷ 0 ∷ 0 ∷ [])).value) ≡ 8
unfolding Computes plan draw_with drawn draw foreign
opens_8 = refl

part_fails : Opens ledger (TruePolynomial Everyone (history foreign new) 0) ((history foreign new).posts 1) 0 (0 ∷ 0 ∷ 0 ∷ 1 ∷ 5 ∷ 0 ∷ 0 ∷ 0 ∷ 0 ∷ []) → ⊥
unfolding Computes plan draw_with drawn draw foreign
part_fails h = not_it 0 _ 8 6 opens_8 (omega arith) plain_6 (h.exact (lit≤ tt) ((λ ne. absurd (ne refl)), ((λ ne. (tt, inl (inl refl))), tt))).1

-- ---- a deal of another number

-- post 1 deals 9 where post 2 deals 6
unfoldable apart : List Event
apart = load draw 1 0 ∷ load draw 2 0 ∷ deal_of draw 1 0 9 ∷ deal_of draw 2 0 6 ∷ call 2 (message 0 1 room) ∷ []

all_but_a_deal : Asked draw Everyone (AllBut 1) Everyone apart new
unfolding plan apart ledger
all_but_a_deal = record {
  is_draw = draw_is;
  parts = ((λ m z. (tt, refl)), ((λ m z. (tt, refl)), ((λ m z. tt), ((λ m z. tt), ((λ m z. tt), tt)))));
  ledger = ((λ m z. tt), ((λ m z. tt), ((λ m z. absurd (m refl)), ((λ m z. (6, lit< tt, refl, refl)), ((λ m z. tt), tt)))));
  finishes = each_quiet Everyone Everyone apart new tt;
}

opens_9 : (let q = (history apart new).posts 1 in (open_answer q.session q.rows 0 (0 ∷ 0 ∷ 0 ∷ 1 ∷ 3 ∷ 1 ∷ 0 ∷ 0 ∷ 0 ∷ [])).value) ≡ 9
unfolding Computes plan draw_with drawn draw apart
opens_9 = refl

deal_fails : Opens ledger (TruePolynomial Everyone (history apart new) 0) ((history apart new).posts 1) 0 (0 ∷ 0 ∷ 0 ∷ 1 ∷ 3 ∷ 1 ∷ 0 ∷ 0 ∷ 0 ∷ []) → ⊥
unfolding Computes plan draw_with drawn draw apart
deal_fails h = not_it 0 _ 9 6 opens_9 (omega arith) plain_6 (h.exact (lit≤ tt) ((λ ne. absurd (ne refl)), ((λ ne. (tt, inl (inl refl))), tt))).1

-- ---- another sum

-- Row 7 is row 0 plus twice row 0 at post 1, and row 1 plus four times row 1 at post 2. Post 2's polynomials of both, 9 + 3z and
-- 5 + 5z, have one value at post 1's check point.
unfoldable sums : List Event
sums =
    load draw 1 0 ∷ load draw 2 1 ∷ deal_of draw 1 0 6 ∷ deal_of draw 2 1 7
    ∷ call 1 (linear 7 0 0 2 0) ∷ call 2 (linear 7 1 1 4 0) ∷ call 2 (message 7 1 room) ∷ []

all_but_a_sum : Asked draw Everyone (AllBut 2) Everyone sums new
unfolding plan sums ledger
all_but_a_sum = record {
  is_draw = draw_is;
  parts = ((λ m z. (tt, refl)), ((λ m z. (tt, refl)), ((λ m z. tt), ((λ m z. tt), ((λ m z. tt), ((λ m z. tt), ((λ m z. tt), tt)))))));
  ledger = ((λ m z. tt), ((λ m z. tt), ((λ m z. (6, lit< tt, refl, refl)), ((λ m z. (7, lit< tt, refl, refl)), ((λ m z. refl), ((λ m z. absurd (m refl)), ((λ m z. tt), tt)))))));
  finishes = each_quiet Everyone Everyone sums new tt;
}

opens_14 : (let q = (history sums new).posts 1 in (open_answer q.session q.rows 7 (0 ∷ 0 ∷ 0 ∷ 1 ∷ 5 ∷ 5 ∷ 0 ∷ 0 ∷ 0 ∷ [])).value) ≡ 14
unfolding Computes plan draw_with drawn draw sums
opens_14 = refl

sum_fails : Opens ledger (TruePolynomial Everyone (history sums new) 7) ((history sums new).posts 1) 7 (0 ∷ 0 ∷ 0 ∷ 1 ∷ 5 ∷ 5 ∷ 0 ∷ 0 ∷ 0 ∷ []) → ⊥
unfolding Computes plan draw_with drawn draw sums
sum_fails h = not_it 7 _ 14 18 opens_14 (omega arith) plain_18 (h.exact (lit≤ tt) ((λ ne. absurd (ne refl)), ((λ ne. (tt, inl (inl refl))), tt))).1
