-- A waiting line is taken within eight counted turns: each turn that takes another's brings it nearer, going round.
use Prim.Native.Nat.{ℕ, zero, suc, ◌+◌, ◌-◌, ◌≤◌, ◌<◌}
use mathlib.Core.Path.{◌≡◌, refl, sym, ◌∙◌, ap, subst}
use mathlib.Core.Logic.{◌≢◌, inl, inr}
use mathlib.Core.Bool.{Bool, true, false, not}
use mathlib.Core.List.{List, [], ◌∷◌, ◌++◌}
use native.Mathlib.Omega.{arith}
use native.Mathlib.Nat.{zero-add, suc-add, eq-or-lt_of_le}
use native.Mathlib.Decide.{ℕ_discrete, dec_le}
use borrow.Author.Tests.{lt-ltb, eq-eqb, ne_eqb}
use lib.Dec.{eqb}
use lib.ListN.{length}
use Rattle.refusal.specs.Refusal.{outcome}
use Rattle.refusal.proofs.Endings.{refused, accepted}
use Rattle.session.specs.declared.Session.{Session}
use Rattle.dealers.specs.State.{dealer_count, place_at_of, length_in_of, last_served, waits, next, new_state_of}
use Rattle.dealers.specs.State.{placed, served, first_after, first_waiting, chosen, bad_state, overlong}
use Rattle.dealers.specs.Calls.{place_refusal_of, place_after_of, count_refusal, whose, turn_state, counted_state}
use Rattle.dealers.specs.Between.{Good, Dealer}
use Rattle.dealers.specs.Fairness.{Operation, places, turns, done, done_all, counts, counted_in, SamePlace, Taken, Fair, Soundness}
use Rattle.dealers.specs.Table.{byte}
use Rattle.dealers.proofs.Positions.{next_dealer_lem, last_in}
use Rattle.dealers.proofs.Placing.{place_dealer, place_few, place_free}
use Rattle.dealers.proofs.Turns.{chosen_dealer, by_some}
use Rattle.dealers.proofs.Kept.{placed_last, placed_place, placed_good, served_last, served_other, served_place, served_good}
use Rattle.dealers.proofs.Laws.{good_is, sound_is}

-- ---- going round

-- k dealers on
abbrev pub ahead : ℕ → ℕ → ℕ
ahead zero d = d
ahead (suc k) d = ahead k (next d)

ahead_add : (j k d : ℕ) → ahead (j + k) d ≡ ahead k (ahead j d)
ahead_add zero k d = ap (λ (n : ℕ). ahead n d) (zero-add k)
ahead_add (suc j) k d = ap (λ (n : ℕ). ahead n d) (suc-add j k) ∙ ahead_add j k (next d)

pub upward : (k d : ℕ) → d + k ≤ dealer_count → ahead k d ≡ d + k
upward zero d h = omega arith
upward (suc k) d h =
    ap (ahead k) (rw (lt-ltb d dealer_count (omega arith)) refl) ∙ upward k (d + 1) (omega arith) ∙ omega arith

ahead_dealer : (k a : ℕ) → Dealer a → Dealer (ahead k a)
ahead_dealer zero a h = h
ahead_dealer (suc k) a h = ahead_dealer k (next a) (next_dealer_lem a h)

pub record Ahead (a d : ℕ) : Type 0 where
  pub steps : ℕ
  pub some : 1 ≤ steps
  pub few : steps ≤ dealer_count
  pub there : ahead steps a ≡ d

pub reach : (a d : ℕ) → Dealer a → Dealer d → Ahead a d
reach a d ha hd = go (dec_le d a)
  where
    go : Dec (d ≤ a) → Ahead a d
    go (no h) =
        record { steps = d - a; some = omega arith; few = omega (arith, hd.high); there = upward (d - a) a (omega (arith, hd.high)) ∙ omega arith }
    go (yes h) =
        record {
          steps = (dealer_count - a) + (1 + (d - 1));
          some = omega arith;
          few = omega (arith, ha.high, hd.low);
          there = ahead_add (dealer_count - a) (1 + (d - 1)) a
              ∙ ap (ahead (1 + (d - 1))) (upward (dealer_count - a) a (omega (arith, ha.high)) ∙ eight)
              ∙ ahead_add 1 (d - 1) dealer_count ∙ upward (d - 1) 1 (omega (arith, hd.low, hd.high)) ∙ omega (arith, hd.low);
        }
      where
        eight : a + (dealer_count - a) ≡ dealer_count
        eight = omega (arith, ha.high)

-- ---- the dealer that is chosen stands no further than one who waits

pub record Found (k j : ℕ) (state : List ℕ) (a : ℕ) : Type 0 where
  pub steps : ℕ
  pub some : 1 ≤ steps
  pub near : steps ≤ j
  pub there : first_waiting k state a ≡ ahead steps a

found : (k j : ℕ) (state : List ℕ) (a : ℕ) → suc j ≤ k → waits state (ahead (suc j) a) ≡ true → Found k (suc j) state a
unfolding first_after
found zero j state a h w = absurd (omega arith)
found (suc k) j state a h w = go j (waits state (next a)) refl h w (λ i g x. found k i state (next a) g x)
  where
    go : (j : ℕ) (b : Bool) → waits state (next a) ≡ b → suc j ≤ suc k → waits state (ahead (suc j) a) ≡ true
        → ((i : ℕ) → suc i ≤ k → waits state (ahead (suc i) (next a)) ≡ true → Found k (suc i) state (next a)) → Found (suc k) (suc j) state a
    go j true e h w more = record { steps = 1; some = omega arith; near = omega arith; there = rw e }
    go zero false e h w more = let z : ◌≡◌ {A = Bool} true false = sym w ∙ e in let y : ◌≡◌ {A = ℕ} 0 1 = cc in absurd (omega arith)
    go (suc j) false e h w more =
        let f = more j (omega arith) w in
        record { steps = suc f.steps; some = omega arith; near = omega (arith, f.near); there = rw e f.there }

-- ---- one operation more in front

waits_same : (state state' : List ℕ) (d : ℕ) → length_in_of state' d ≡ length_in_of state d → waits state d ≡ true → waits state' d ≡ true
waits_same state state' d e w = ap (λ (n : ℕ). not (eqb n 0)) e ∙ w

in_front : (o : Operation) (os : List Operation) (state : List ℕ) (d m k : ℕ) → SamePlace d state (done o state)
    → ((n : ℕ) → n < k → counts o state n < m) → Taken os (done o state) d k → Taken (o ∷ os) state d m
in_front o os state d m k same fewer t =
    record {
      before = o ∷ t.before;
      turn = t.turn;
      behind = t.behind;
      all = ap (λ (l : List Operation). o ∷ l) t.all;
      soon = fewer (counted_in t.before (done o state)) t.soon;
      stays = stays;
      counted = t.counted;
      chooses = t.chooses;
    }
  where
    stays : (some more : List Operation) → o ∷ t.before ≡ some ++ more → SamePlace d state (done_all some state)
    stays [] more e i lo hi = refl
    stays (o' ∷ some) more e i lo hi =
        let same_first : o' ≡ o = cc in
        let same_rest : t.before ≡ some ++ more = cc in
        ap (λ (x : Operation). byte (done_all some (done x state)) i) same_first ∙ t.stays some more same_rest i lo hi ∙ same i lo hi

-- what an operation that does not take d's line leaves
record Leaves (state state' : List ℕ) (d : ℕ) : Type 0 where
  good : Good state'
  last : last_served state' ≡ last_served state
  place : SamePlace d state state'

own_length : (state state' : List ℕ) (d : ℕ) → Dealer d → SamePlace d state state' → length_in_of state' d ≡ length_in_of state d
own_length state state' d hd same = same (place_at_of d) (omega arith) (omega (arith, hd.low))

same_leaves : (state : List ℕ) (d : ℕ) → Good state → Leaves state state d
same_leaves state d g = record { good = g; last = refl; place = λ i lo hi. refl }

place_leaves : (state line : List ℕ) (d e : ℕ) → Good state → Dealer d → waits state d ≡ true → Leaves state (place_after_of state e line) d
unfolding outcome
place_leaves state line d e g hd w = go (place_refusal_of state e (length line)) refl
  where
    go : (r : ℕ) → r ≡ place_refusal_of state e (length line) → Leaves state (outcome r (placed state e line) state) d
    go (suc k) q = same_leaves state d g
    go zero q =
        let he = place_dealer state e (length line) 0 q refl in
        let k = place_few state e (length line) 0 q refl in
        let free = place_free state e (length line) 0 q refl in
        let ne : d ≢ e = (λ x. let z : ◌≡◌ {A = Bool} true false = sym w ∙ ap (waits state) x ∙ free in let y : ◌≡◌ {A = ℕ} 0 1 = cc in omega arith) in
        record {
          good = placed_good state line e g he k;
          last = placed_last state line e g he k;
          place = placed_place state line e g he k d ne hd;
        }

-- ---- the theorem, by the distance

module _ (d : ℕ) (hd : Dealer d) where
  abbrev Within : List Operation → Type 0
  Within os =
      (state : List ℕ) (j : ℕ) → Good state → waits state d ≡ true → suc j ≤ dealer_count → ahead (suc j) (last_served state) ≡ d
      → suc j ≤ counted_in os state → Taken os state d (suc j)

  -- a turn that is counted
  counted_turn : (s : Session) (rows : List ℕ) (os : List Operation) → Within os → (state : List ℕ) (j : ℕ) → Good state → waits state d ≡ true
      → suc j ≤ dealer_count → ahead (suc j) (last_served state) ≡ d → count_refusal s rows state ≡ 0 → turn_state s rows state ≡ counted_state state
      → suc j ≤ suc (counted_in os (turn_state s rows state)) → Taken (turns s rows ∷ os) state d (suc j)
  unfolding chosen
  counted_turn s rows os more state j g w few there z after many = by (ℕ_discrete (chosen state) d)
    where
      f : Found dealer_count (suc j) state (last_served state)
      f = found dealer_count j state (last_served state) few (rw there w)

      at_once : (some more : List Operation) → [] ≡ some ++ more → SamePlace d state (done_all some state)
      at_once [] more e i lo hi = refl
      at_once (o ∷ some) more e i lo hi = let y : ◌≡◌ {A = ℕ} 0 1 = cc in absurd (omega arith)

      by : Dec (chosen state ≡ d) → Taken (turns s rows ∷ os) state d (suc j)
      by (yes e) =
          record { before = []; turn = turns s rows; behind = os; all = refl; soon = omega arith; stays = at_once; counted = z; chooses = e }
      by (no ne) =
          let i = f.steps in
          let less : i < suc j = further (ℕ_discrete i (suc j)) in
          let hc : Dealer (chosen state) = chosen_dealer state (chosen state) g refl some in
          let st : turn_state s rows state ≡ served state (chosen state) = after ∙ by_some (chosen state) some state (served state) in
          let dist : suc (j - i) ≡ suc j - i = omega arith in
          let apart : d ≢ chosen state = (λ x. ne (sym x)) in
          in_front (turns s rows) os state d (suc j) (suc (j - i))
          (rw st (served_place state (chosen state) g hc d apart hd))
          (λ n h. rw (eq-eqb (count_refusal s rows state) 0 z) (omega (arith, f.some)))
          (more (turn_state s rows state) (j - i) (rw st (served_good state (chosen state) g hc))
          (rw st (waits_same state (served state (chosen state)) d (served_other state (chosen state) g hc d apart hd) w))
          (omega arith)
          (rw (st, served_last state (chosen state) g hc)
          (ap (λ (n : ℕ). ahead n (chosen state)) dist ∙ ap (ahead (suc j - i)) f.there
          ∙ sym (ahead_add i (suc j - i) (last_served state)) ∙ ap (λ (n : ℕ). ahead n (last_served state)) (sum less) ∙ there))
          (omega (arith, f.some)))
        where
          further : Dec (f.steps ≡ suc j) → f.steps < suc j
          further (yes e) = absurd (ne (f.there ∙ ap (λ (n : ℕ). ahead n (last_served state)) e ∙ there))
          further (no n) = elim (eq-or-lt_of_le f.near) [ inl q ↦ absurd (n q) | inr q ↦ q ]

          sum : f.steps < suc j → f.steps + (suc j - f.steps) ≡ suc j
          sum h = omega arith

          some : chosen state ≡ 0 → ⊥
          some e = omega (arith, f.there, (ahead_dealer f.steps (last_served state) (last_in state g)).low)

  -- one that is not
  idle_turn : (s : Session) (rows : List ℕ) (os : List Operation) → Within os → (state : List ℕ) (j : ℕ) → Good state → waits state d ≡ true
      → suc j ≤ dealer_count → ahead (suc j) (last_served state) ≡ d → (count_refusal s rows state ≡ 0 → ⊥) → state ≡ turn_state s rows state
      → suc j ≤ counted_in os (turn_state s rows state) → Taken (turns s rows ∷ os) state d (suc j)
  idle_turn s rows os more state j g w few there n same many =
      in_front (turns s rows) os state d (suc j) (suc j) (λ i lo hi. ap (λ (x : List ℕ). byte x i) (sym same))
      (λ k h. rw (ne_eqb (count_refusal s rows state) 0 n) h)
      (subst (λ (x : List ℕ). suc j ≤ counted_in os x → Taken os x d (suc j)) same (more state j g w few there) many)

  within : (os : List Operation) → Within os
  within [] state j g w few there many = absurd (omega arith)
  within (places e line ∷ os) state j g w few there many =
      let l = place_leaves state line d e g hd w in
      in_front (places e line) os state d (suc j) (suc j) l.place (λ n h. h)
      (within os (place_after_of state e line) j l.good
      (waits_same state (place_after_of state e line) d (own_length state (place_after_of state e line) d hd l.place) w) few
      (ap (ahead (suc j)) l.last ∙ there) many)
  within (turns s rows ∷ os) state j g w few there many = by (ℕ_discrete (count_refusal s rows state) 0) (within os)
    where
      by : Dec (count_refusal s rows state ≡ 0) → Within os → Taken (turns s rows ∷ os) state d (suc j)
      by (yes z) more =
          counted_turn s rows os more state j g w few there z
          (sym (accepted 0 (count_refusal s rows state) (counted_state state) (counted_state state) state (sym z) refl refl))
          (rw (eq-eqb (count_refusal s rows state) 0 z) at many)
      by (no n) more =
          idle_turn s rows os more state j g w few there n (refused (count_refusal s rows state) (count_refusal s rows state) (counted_state state) state refl n)
          (rw (ne_eqb (count_refusal s rows state) 0 n) at many)

sooner : (os : List Operation) (state : List ℕ) (d k m : ℕ) → k ≤ m → Taken os state d k → Taken os state d m
sooner os state d k m h t =
    record {
      before = t.before;
      turn = t.turn;
      behind = t.behind;
      all = t.all;
      soon = omega (arith, t.soon);
      stays = t.stays;
      counted = t.counted;
      chooses = t.chooses;
    }

pub fair : Fair
fair os state d s lo hi w many =
    let g = good_is state s in
    let hd : Dealer d = record { low = lo; high = hi } in
    let r = reach (last_served state) d (last_in state g) hd in
    let e : suc (r.steps - 1) ≡ r.steps = omega (arith, r.some) in
    sooner os state d (suc (r.steps - 1)) 8 (omega (arith, r.few))
    (within d hd os state (r.steps - 1) g (ap not (ne_eqb (length_in_of state d) 0 w)) (omega (arith, r.few))
    (ap (λ (n : ℕ). ahead n (last_served state)) e ∙ r.there) (omega (arith, r.few)))

-- ---- a good state stays good

pub record Goodness : Type 0 where
  pub new : Good new_state_of
  pub kept : (o : Operation) (state : List ℕ) → Good state → Good (done o state)

pub goodness : Goodness
unfolding outcome bad_state overlong
goodness = record { new = record { long = refl; fine = refl }; kept = kept }
  where
    placing : (state line : List ℕ) (e : ℕ) → Good state → (r : ℕ) → r ≡ place_refusal_of state e (length line) → Good (outcome r (placed state e line) state)
    placing state line e g (suc k) q = g
    placing state line e g zero q = placed_good state line e g (place_dealer state e (length line) 0 q refl) (place_few state e (length line) 0 q refl)

    serving : (state : List ℕ) → Good state → (c : ℕ) → c ≡ chosen state → Good (whose c state (served state))
    serving state g zero e = g
    serving state g (suc c) e = served_good state (suc c) g (chosen_dealer state (suc c) g e (λ z. omega arith))

    turning : (state : List ℕ) → Good state → (r : ℕ) → Good (outcome r (counted_state state) state)
    turning state g (suc k) = g
    turning state g zero = serving state g (chosen state) refl

    kept : (o : Operation) (state : List ℕ) → Good state → Good (done o state)
    kept (places e line) state g = placing state line e g (place_refusal_of state e (length line)) refl
    kept (turns s rows) state g = turning state g (count_refusal s rows state)

pub soundness : Soundness
soundness =
    record {
      new = sound_is new_state_of goodness.new;
      kept = λ o state h. sound_is (done o state) (goodness.kept o state (good_is state h));
    }
