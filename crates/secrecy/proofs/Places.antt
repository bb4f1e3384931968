-- The eight places that the book keeps are those of a post's state.
use Prim.Native.Nat.{ℕ, zero, suc, ◌+◌, ◌*◌, ◌-◌, ◌≤◌, ◌<◌}
use mathlib.Core.Path.{◌≡◌, refl, sym, ◌∙◌, ap}
use mathlib.Core.Logic.{◌≢◌}
use mathlib.Core.Bool.{Bool, true, false, not, cond}
use mathlib.Core.List.{List}
use native.Mathlib.Omega.{arith}
use borrow.Author.Tests.{eq-eqb, ne_eqb, eqb-true}
use lib.Dec.{eqb}
use lib.ListN.{length, get_or, get_or-replicate}
use Rattle.refusal.specs.Refusal.{outcome}
use Rattle.dealers.specs.State.{dealer_count, place_at_of, length_in_of, line_in, last_served, waits, next, new_state_of, placed, served, first_after, chosen}
use Rattle.dealers.specs.Calls.{place_refusal_of, whose, counted_state}
use Rattle.dealers.specs.Between.{Good, Dealer}
use Rattle.dealers.proofs.Positions.{next_dealer_lem, last_in}
use Rattle.dealers.proofs.Placing.{place_dealer, place_few, place_some}
use Rattle.dealers.proofs.Turns.{chosen_dealer}
use Rattle.dealers.proofs.Kept.{placed_last, placed_other, placed_line, placed_good, placed_length, placed_own, served_last, served_other, served_line, served_good, served_own}
use Rattle.dealers.proofs.Fair.{goodness}
use Rattle.runs.specs.Draws.{Plan, Draw}
use Rattle.runs.specs.Calls.{at}
use Rattle.runs.specs.Orders.{place}
use Rattle.secrecy.specs.Steps.{Secrets, Placed}
use Rattle.secrecy.specs.Seen.{line_at}
use Rattle.secrecy.specs.Waiting.{Slot, free, filled, Waiting, none_waiting, is_filled, next_of, freed, waiting_after}

differ : (d e : ℕ) → eqb d e ≡ false → d ≢ e
differ d e f x = let z : ◌≡◌ {A = Bool} true false = sym (eq-eqb d e x) ∙ f in let y : ◌≡◌ {A = ℕ} 0 1 = cc in omega arith

module _ (plan : Plan) (draw : Draw) (u : Secrets) where
  -- one place
  abbrev pub InPlace : Slot → List ℕ → ℕ → Type 0
  InPlace free state d = length_in_of state d ≡ 0
  InPlace (filled l) state d =
      (length_in_of state d ≡ length (line_at plan draw u l)) × (line_in state d ≡ line_at plan draw u l) × (1 ≤ length (line_at plan draw u l))

  pub record Kept (w : Waiting) (state : List ℕ) : Type 0 where
    pub good : Good state
    pub last : last_served state ≡ w.last
    pub each : (d : ℕ) → Dealer d → InPlace (w.slot d) state d

  in_same : (x : Slot) (state state' : List ℕ) (d : ℕ) → length_in_of state' d ≡ length_in_of state d → line_in state' d ≡ line_in state d → InPlace x state d → InPlace x state' d
  in_same free state state' d e f h = e ∙ h
  in_same (filled l) state state' d e f h = (e ∙ h.0, f ∙ h.1, h.2)

  pub kept_new : Kept none_waiting new_state_of
  kept_new = record { good = goodness.new; last = refl; each = λ d h. zero_at d h }
    where
      zero_at : (d : ℕ) → Dealer d → length_in_of new_state_of d ≡ 0
      zero_at d h =
          let e : place_at_of d ≡ suc (17 * d - 17) = omega (arith, h.low) in
          ap (λ (i : ℕ). get_or new_state_of i 0) e ∙ get_or-replicate 136 (17 * d - 17) 0 0 (omega (arith, h.high))

  -- ---- a line placed

  pub kept_placed : (w : Waiting) (state : List ℕ) (e : ℕ) (l : Placed) → Kept w state → (k : ℕ) → k ≡ place_refusal_of state e (length (line_at plan draw u l))
      → Kept (waiting_after (place e l) k w) (outcome k (placed state e (line_at plan draw u l)) state)
  unfolding outcome at
  kept_placed w state e l h (suc k) q = h
  kept_placed w state e l h zero q =
      record {
        good = placed_good state line e h.good he few;
        last = placed_last state line e h.good he few ∙ h.last;
        each = λ d hd. go d hd (eqb d e) refl;
      }
    where
      line : List ℕ
      line = line_at plan draw u l

      he : Dealer e
      he = place_dealer state e (length line) 0 q refl

      few : length line ≤ 16
      few = place_few state e (length line) 0 q refl

      go : (d : ℕ) → Dealer d → (b : Bool) → eqb d e ≡ b → InPlace (cond b (filled l) (w.slot d)) (placed state e line) d
      go d hd true f =
          let x = eqb-true d e f in (
            ap (length_in_of (placed state e line)) x ∙ placed_length state line e h.good he few,
            ap (line_in (placed state e line)) x ∙ placed_own state line e h.good he few,
            place_some state e (length line) 0 q refl,
          )
      go d hd false f =
          in_same (w.slot d) state (placed state e line) d (placed_other state line e h.good he few d (differ d e f) hd)
          (placed_line state line e h.good he few d (differ d e f) hd) (h.each d hd)

  -- ---- a dealer chosen and served

  module _ (w : Waiting) (state : List ℕ) (h : Kept w state) where
    pub waits_is : (d : ℕ) → Dealer d → waits state d ≡ is_filled (w.slot d)
    waits_is d hd = go (w.slot d) (h.each d hd)
      where
        go : (x : Slot) → InPlace x state d → not (eqb (length_in_of state d) 0) ≡ is_filled x
        go free e = ap not (eq-eqb (length_in_of state d) 0 e)
        go (filled l) e = ap not (ne_eqb (length_in_of state d) 0 (λ z. omega (arith, e.0, e.2)))

    first_same : (k d : ℕ) → Dealer d → first_after k (waits state) d ≡ first_after k (λ x. is_filled (w.slot x)) d
    unfolding first_after
    first_same zero d hd = refl
    first_same (suc k) d hd =
        let n = next_dealer_lem d hd in
        ap (λ (b : Bool). cond b (next d) (first_after k (waits state) (next d))) (waits_is (next d) n)
        ∙ ap (λ (x : ℕ). cond (is_filled (w.slot (next d))) (next d) x) (first_same k (next d) n)

    -- the book knows whose line a turn takes
    pub chosen_is : chosen state ≡ next_of w
    unfolding chosen
    chosen_is = first_same dealer_count (last_served state) (last_in state h.good) ∙ ap (first_after dealer_count (λ x. is_filled (w.slot x))) h.last

    kept_served : (e : ℕ) → Dealer e → Kept (freed w e) (served state e)
    unfolding at
    kept_served e he =
        record { good = served_good state e h.good he; last = served_last state e h.good he; each = λ d hd. go d hd (eqb d e) refl }
      where
        go : (d : ℕ) → Dealer d → (b : Bool) → eqb d e ≡ b → InPlace (cond b free (w.slot d)) (served state e) d
        go d hd true f = ap (length_in_of (served state e)) (eqb-true d e f) ∙ served_own state e h.good he
        go d hd false f =
            in_same (w.slot d) state (served state e) d (served_other state e h.good he d (differ d e f) hd)
            (served_line state e h.good he d (differ d e f) hd) (h.each d hd)

    -- a turn that is counted
    pub kept_counted : Kept (whose (next_of w) w (freed w)) (counted_state state)
    kept_counted = go (next_of w) (chosen state) chosen_is refl
      where
        go : (n c : ℕ) → c ≡ n → c ≡ chosen state → Kept (whose n w (freed w)) (whose c state (served state))
        go zero zero e f = h
        go zero (suc c) e f = absurd (omega arith)
        go (suc n) zero e f = absurd (omega arith)
        go (suc n) (suc c) e f = rw (sym e) (kept_served (suc c) (chosen_dealer state (suc c) h.good f (λ z. omega arith)))
