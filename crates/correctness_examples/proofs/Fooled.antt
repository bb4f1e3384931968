-- Why truth is asked for, of this opening and of every post's earlier finishes: three runs in which it is missing, in the
-- opening, in the opener's own finish, and in another post's finish. An opening then gives another number than the plain one.
use Prim.Native.Nat.{ℕ}
use mathlib.Core.Path.{◌≡◌, refl, sym, ◌∙◌}
use mathlib.Core.Logic.{◌≢◌, inl, inr}
use mathlib.Core.List.{List, [], ◌∷◌, ◌++◌}
use native.Mathlib.Omega.{arith}
use lib.Dec.{lit<, lit≤}
use Rattle.poly.specs.Counting.{All}
use Rattle.opening.specs.Walking.{opened}
use Rattle.opening.specs.Opening.{open_answer}
use Rattle.collect.specs.Collect.{mask_a}
use Rattle.runs.specs.Draws.{Draw}
use Rattle.runs.specs.Calls.{message, masks, collect, multiply}
use Rattle.factory.proofs.Laws.{passes_elements}
use Rattle.correctness.specs.History.{Event, World, history, begin, Each}
use Rattle.correctness.specs.Ledger.{Written, Plain}
use Rattle.correctness.specs.Truth.{OwnPart, TruePolynomial, TrueFinish}
use Rattle.correctness.specs.Claim.{Opens, Right}
use Rattle.correctness.proofs.Meanings.{one_number}
use Rattle.correctness_examples.specs.Station.{plan, draw_with, ledger, call, load, load_three, deal_of, zeros, room, rooms, refusals, Everyone, AllBut, states}
use Rattle.correctness_examples.proofs.Computing.{Computes, is_draw, plain_42, two_true, Asked, all_join, each_join, each_of, each_quiet, Of}
use Rattle.correctness_examples.specs.Run as Example
use Rattle.correctness_examples.specs.Run.{last}

-- ---- without truth in the opening

-- In the example's run, whose premises hold, post 2's polynomial of row 4 is 38 + 19z. The false 76 + 0z has its value at post 1's
-- check point 2: their difference vanishes there.
abbrev false_record : List ℕ
false_record = 0 ∷ 0 ∷ 0 ∷ 1 ∷ 76 ∷ 0 ∷ 0 ∷ 0 ∷ 0 ∷ []

opens_80 : (open_answer last.session last.rows 4 false_record).value ≡ 80
unfolding Computes plan draw_with Example.drawn Example.draw Example.loads Example.deals Example.sums Example.ends
opens_80 = refl

not_plain : (x y : ℕ) → x ≡ y → y ≢ 42 → Plain ledger 4 x → ⊥
not_plain x y e ne h = ne (sym e ∙ one_number ledger 4 x 42 h plain_42)

-- so what is claimed of an opening is false where any polynomial counts as its sender's
any_fails : Opens ledger (λ j xs. Unit {0}) last 4 false_record → ⊥
unfolding Computes plan draw_with Example.drawn Example.draw Example.loads Example.deals Example.sums Example.ends
any_fails h = not_plain _ 80 opens_80 (omega arith) (h.exact (lit≤ tt) ((λ ne. tt), ((λ ne. tt), tt))).1

-- ---- two runs, alike up to the masks

-- l' of another triple has p − 2 + z for post 2, which vanishes at post 1's check point
unfoldable drawn : List ℕ
drawn = 2 ∷ 1 ∷ 5 ∷ 1 ∷ 3 ∷ 2 ∷ 1 ∷ 7 ∷ 5 ∷ 2 ∷ 1 ∷ 1 ∷ 2147483645 ∷ 1 ∷ 2 ∷ 2 ∷ 9 ∷ 4 ∷ 1 ∷ 8 ∷ 3 ∷ 5 ∷ 2 ∷ []

unfoldable draw : Draw
draw = draw_with drawn

unfoldable loads : List Event
loads = load draw 1 0 ∷ load draw 1 1 ∷ load_three draw 1 ∷ load draw 2 0 ∷ load draw 2 1 ∷ load_three draw 2 ∷ []

unfoldable deals : List Event
deals =
    deal_of draw 1 0 6 ∷ deal_of draw 1 1 7 ∷ deal_of draw 2 0 6 ∷ deal_of draw 2 1 7
    ∷ call 1 (masks 0 1 2 rooms) ∷ call 2 (masks 0 1 2 rooms) ∷ []

abbrev before : List Event
before = loads ++ deals

abbrev new : World
new = begin plan draw zeros states

abbrev Own : Event → Type 0
Own e = Of (OwnPart plan draw) e

abbrev Wrote : Event → Type 0
Wrote e = Of (λ i. Written draw ledger) e

own_parts : (ends : List Event) → All Own ends → All Own (before ++ ends)
unfolding plan loads deals
own_parts ends a =
    all_join Own before ends
    (all_join Own loads deals ((tt, refl), ((tt, refl), ((refl, refl), ((tt, refl), ((tt, refl), ((refl, refl), tt)))))) (tt, (tt, (tt, (tt, (tt, (tt, tt)))))))
    a

all_written : (ends : List Event) → All Wrote ends → All Wrote (before ++ ends)
unfolding loads deals ledger
all_written ends a =
    all_join Wrote before ends
    (all_join Wrote loads deals (tt, (tt, (tt, (tt, (tt, (tt, tt))))))
    ((6, lit< tt, refl, refl), ((7, lit< tt, refl, refl), ((6, lit< tt, refl, refl), ((7, lit< tt, refl, refl), (refl, (refl, tt)))))))
    a

-- every premise, with truth in all posts' finishes but one's
asked : (k : ℕ) (ends : List Event) → All Own ends → All Wrote ends
    → Each (AllBut k) (λ i c v. TrueFinish Everyone v (v.posts i) c) ends (history before new)
    → Asked draw Everyone Everyone (AllBut k) (before ++ ends) new
unfolding Computes plan drawn draw loads deals
asked k ends a b c = record {
  is_draw = is_draw drawn refl (passes_elements drawn refl);
  parts = each_of Everyone (OwnPart plan draw) (before ++ ends) new (own_parts ends a);
  ledger = each_of Everyone (λ i. Written draw ledger) (before ++ ends) new (all_written ends b);
  finishes =
      each_join (AllBut k) (λ i c v. TrueFinish Everyone v (v.posts i) c) before ends new
      (each_quiet (AllBut k) Everyone before new tt) c;
}

-- what posts 1 and 2 sent of masks
m1 : List ℕ
m1 = 2147483643 ∷ 1 ∷ 1 ∷ 0 ∷ []

m2 : List ℕ
m2 = 0 ∷ 2147483646 ∷ 3 ∷ 0 ∷ []

-- ---- without truth in the opener's finish

-- of a − l post 1 takes the false p − 2 + 0z for post 2's; all else that the two accept is true
unfoldable ends : List Event
ends =
    call 1 (collect 2 (0 ∷ 0 ∷ 0 ∷ 1 ∷ 2147483645 ∷ 0 ∷ 0 ∷ 0 ∷ 0 ∷ []) (0 ∷ 0 ∷ 0 ∷ 1 ∷ 3 ∷ 0 ∷ 0 ∷ 0 ∷ 0 ∷ []))
    ∷ call 2 (collect 2 (1 ∷ 2147483643 ∷ 1 ∷ 0 ∷ 0 ∷ 0 ∷ 0 ∷ 0 ∷ 0 ∷ []) (1 ∷ 1 ∷ 0 ∷ 0 ∷ 0 ∷ 0 ∷ 0 ∷ 0 ∷ 0 ∷ []))
    ∷ call 1 (multiply 2) ∷ call 2 (multiply 2)
    ∷ call 2 (message 4 1 room) ∷ []

abbrev events : List Event
events = before ++ ends

answered : refusals events new ≡ 0 ∷ 0 ∷ 0 ∷ 0 ∷ 0 ∷ 0 ∷ 0 ∷ 0 ∷ 0 ∷ 0 ∷ 0 ∷ 0 ∷ 0 ∷ 0 ∷ 0 ∷ 0 ∷ 0 ∷ []
unfolding Computes plan draw_with drawn draw loads deals ends refusals
answered = refl

-- every premise holds but the truth of post 1's finish
all_but_one : Asked draw Everyone Everyone (AllBut 1) events new
unfolding Computes plan draw_with drawn draw loads deals ends m1
all_but_one = asked 1 ends (tt, (tt, (tt, (tt, (tt, tt))))) (tt, (tt, (tt, (tt, (tt, tt))))) (
  (λ ne z. absurd (ne refl)),
  (
    (λ ne z. (
      two_true 1 2 refl (omega arith) (lit≤ tt, lit≤ tt, refl, λ ne. (tt, (m1, refl, passes_elements m1 refl, inl refl, refl))) (lit≤ tt, lit≤ tt, refl, λ ne. absurd (ne refl)),
      two_true 1 2 refl (omega arith) (lit≤ tt, lit≤ tt, refl, λ ne. (tt, (m1, refl, passes_elements m1 refl, inl refl, refl))) (lit≤ tt, lit≤ tt, refl, λ ne. absurd (ne refl)),
    )),
    ((λ ne z. tt), ((λ ne z. tt), ((λ ne z. tt), tt))),
  ),
)

abbrev end : World
end = history events new

abbrev sent_record : List ℕ
sent_record = 0 ∷ 0 ∷ 0 ∷ 1 ∷ 6 ∷ 11 ∷ 0 ∷ 0 ∷ 0 ∷ []

opens_24 : (open_answer (end.posts 1).session (end.posts 1).rows 4 sent_record).value ≡ 24
unfolding Computes plan draw_with drawn draw loads deals ends
opens_24 = refl

-- an opening in which each polynomial accepted was truly sent gives another number
told_fails : Opens ledger (TruePolynomial Everyone end 4) (end.posts 1) 4 sent_record → ⊥
unfolding Computes plan draw_with drawn draw loads deals ends
told_fails h =
    not_plain _ 24 opens_24 (omega arith) (h.exact (lit≤ tt) ((λ ne. absurd (ne refl)), ((λ ne. (tt, inl (inr (inl refl)))), tt))).1

right_fails : (H : (List ℕ → List ℕ) → ℕ → ℕ → List ℕ → Type 0) → Right plan draw ledger (TruePolynomial Everyone end) H (end.posts 1) → ⊥
unfolding Computes plan draw_with drawn draw loads deals ends
right_fails H h = told_fails (h.opens 4 sent_record refl (record { long = refl; low = refl }))

-- ---- without truth in another post's finish

-- Post 1 finishes truly, with y = 4 and y' = 2. Post 2 takes the false p − 1 + 0z for post 1's −4 + z of a − l, which has its value at
-- post 2's check point 3, finishes with y = p − 2, and sends in good faith what it then holds of row 4.
unfoldable ends' : List Event
ends' =
    call 1 (collect 2 (0 ∷ 0 ∷ 0 ∷ 1 ∷ 0 ∷ 2147483646 ∷ 0 ∷ 0 ∷ 0 ∷ []) (0 ∷ 0 ∷ 0 ∷ 1 ∷ 3 ∷ 0 ∷ 0 ∷ 0 ∷ 0 ∷ []))
    ∷ call 2 (collect 2 (1 ∷ 2147483646 ∷ 0 ∷ 0 ∷ 0 ∷ 0 ∷ 0 ∷ 0 ∷ 0 ∷ []) (1 ∷ 1 ∷ 0 ∷ 0 ∷ 0 ∷ 0 ∷ 0 ∷ 0 ∷ 0 ∷ []))
    ∷ call 1 (multiply 2) ∷ call 2 (multiply 2)
    ∷ call 2 (message 4 1 room) ∷ []

abbrev events' : List Event
events' = before ++ ends'

answered' : refusals events' new ≡ 0 ∷ 0 ∷ 0 ∷ 0 ∷ 0 ∷ 0 ∷ 0 ∷ 0 ∷ 0 ∷ 0 ∷ 0 ∷ 0 ∷ 0 ∷ 0 ∷ 0 ∷ 0 ∷ 0 ∷ []
unfolding Computes plan draw_with drawn draw loads deals ends' refusals
answered' = refl

-- the numbers that the two finishes open of a − l
opens_4 : (let q = (history before new).posts 1 in opened q.session (mask_a q.session q.rows 2) (0 ∷ 0 ∷ 0 ∷ 1 ∷ 0 ∷ 2147483646 ∷ 0 ∷ 0 ∷ 0 ∷ [])) ≡ 4
unfolding Computes plan draw_with drawn draw loads deals
opens_4 = refl

opens_less_2 : (let q = (history before new).posts 2 in opened q.session (mask_a q.session q.rows 2) (1 ∷ 2147483646 ∷ 0 ∷ 0 ∷ 0 ∷ 0 ∷ 0 ∷ 0 ∷ 0 ∷ [])) ≡ 2147483645
unfolding Computes plan draw_with drawn draw loads deals
opens_less_2 = refl

-- every premise holds but the truth of post 2's finish
all_but_two : Asked draw Everyone Everyone (AllBut 2) events' new
unfolding Computes plan draw_with drawn draw loads deals ends' m2
all_but_two = asked 2 ends' (tt, (tt, (tt, (tt, (tt, tt))))) (tt, (tt, (tt, (tt, (tt, tt))))) (
  (λ ne z. (
    two_true 1 2 refl (omega arith) (lit≤ tt, lit≤ tt, refl, λ ne. absurd (ne refl)) (lit≤ tt, lit≤ tt, refl, λ ne. (tt, (m2, refl, passes_elements m2 refl, inl refl, refl))),
    two_true 1 2 refl (omega arith) (lit≤ tt, lit≤ tt, refl, λ ne. absurd (ne refl)) (lit≤ tt, lit≤ tt, refl, λ ne. (tt, (m2, refl, passes_elements m2 refl, inl refl, refl))),
  )),
  ((λ ne z. absurd (ne refl)), ((λ ne z. tt), ((λ ne z. tt), ((λ ne z. tt), tt)))),
)

abbrev end' : World
end' = history events' new

abbrev faithful_record : List ℕ
faithful_record = 0 ∷ 0 ∷ 0 ∷ 1 ∷ 18 ∷ 5 ∷ 0 ∷ 0 ∷ 0 ∷ []

opens_54 : (open_answer (end'.posts 1).session (end'.posts 1).rows 4 faithful_record).value ≡ 54
unfolding Computes plan draw_with drawn draw loads deals ends'
opens_54 = refl

-- post 1, never fooled, accepts what post 2 truly sent, and opens another number
told_fails' : Opens ledger (TruePolynomial Everyone end' 4) (end'.posts 1) 4 faithful_record → ⊥
unfolding Computes plan draw_with drawn draw loads deals ends'
told_fails' h =
    not_plain _ 54 opens_54 (omega arith) (h.exact (lit≤ tt) ((λ ne. absurd (ne refl)), ((λ ne. (tt, inl (inr (inl refl)))), tt))).1

right_fails' : (H : (List ℕ → List ℕ) → ℕ → ℕ → List ℕ → Type 0) → Right plan draw ledger (TruePolynomial Everyone end') H (end'.posts 1) → ⊥
unfolding Computes plan draw_with drawn draw loads deals ends'
right_fails' H h = told_fails' (h.opens 4 faithful_record refl (record { long = refl; low = refl }))
