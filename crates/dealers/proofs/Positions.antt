-- The places of a state: where they stand, and how long their lines are.
use Prim.Native.Nat.{ℕ, zero, suc, ◌+◌, ◌-◌, ◌≤◌, ◌<◌}
use mathlib.Core.Path.{◌≡◌, refl, sym, ◌∙◌, ap}
use mathlib.Core.Bool.{Bool, true, false, ◌||◌}
use mathlib.Core.List.{List}
use mathlib.Core.Logic.{inl, inr}
use native.Mathlib.Nat.{eq-or-lt_of_le}
use native.Mathlib.Omega.{arith}
use borrow.Author.Tests.{lt-ltb, le-ltb, ltb-true, ltb-false}
use lib.Dec.{ltb}
use lib.ListN.{length}
use Rattle.refusal.specs.Refusal.{first}
use Rattle.refusal.proofs.Laws.{or_false, inside, all_fail, equal}
use Rattle.refusal.specs.Conditions.{outside}
use Rattle.dealers.specs.State.{state_length, dealer_count, place_bytes, length_in_of, last_served, next, overlong, bad_state}
use Rattle.dealers.specs.Calls.{state_tests}
use Rattle.dealers.specs.Between.{Good, Dealer}

-- ---- going round

pub next_dealer_lem : (d : ℕ) → Dealer d → Dealer (next d)
next_dealer_lem d h = go (ltb d dealer_count) refl
  where
    go : (b : Bool) → ltb d dealer_count ≡ b → Dealer (next d)
    go true e = rw e (record { low = omega arith; high = omega (arith, h.high, less) })
      where
        less : d < dealer_count
        less = ltb-true d dealer_count e
    go false e = rw e (record { low = omega arith; high = omega arith })

-- ---- overlong places

-- those before dealer d's are not
pub record Overseen (state : List ℕ) (d : ℕ) : Type 0 where
  pub low : 1 ≤ d
  pub high : d ≤ dealer_count + 1
  pub same : overlong (dealer_count + 1 - d) d state ≡ overlong dealer_count 1 state

module _ (state : List ℕ) (d : ℕ) (i : Overseen state d) where
  pub over_end : dealer_count < d → false ≡ overlong dealer_count 1 state
  unfolding overlong
  over_end h = let z : dealer_count + 1 - d ≡ 0 = omega (arith, i.high) in sym (ap (λ (k : ℕ). overlong k d state) z) ∙ i.same

  module _ (v : ℕ) (h : d ≤ dealer_count) (e : v ≡ length_in_of state d) where
    one_more : dealer_count + 1 - d ≡ suc (dealer_count - d)
    one_more = omega arith

    split : overlong dealer_count 1 state ≡ ltb place_bytes v || overlong (dealer_count - d) (d + 1) state
    unfolding overlong
    split = sym i.same ∙ ap (λ (k : ℕ). overlong k d state) one_more ∙ ap (λ (x : ℕ). ltb place_bytes x || overlong (dealer_count - d) (d + 1) state) (sym e)

    pub over_found : place_bytes < v → true ≡ overlong dealer_count 1 state
    over_found g = sym (split ∙ ap (λ (b : Bool). b || overlong (dealer_count - d) (d + 1) state) (lt-ltb place_bytes v g))

    pub over_passed : v ≤ place_bytes → Overseen state (d + 1)
    over_passed g =
        let k : dealer_count + 1 - (d + 1) ≡ dealer_count - d = omega arith in
        record {
          low = omega arith;
          high = omega arith;
          same = ap (λ (x : ℕ). overlong x (d + 1) state) k
              ∙ sym (split ∙ ap (λ (b : Bool). b || overlong (dealer_count - d) (d + 1) state) (le-ltb place_bytes v g));
        }

small_from : (k a : ℕ) (state : List ℕ) → overlong k a state ≡ false → (d : ℕ) → a ≤ d → d < a + k → length_in_of state d ≤ place_bytes
unfolding overlong
small_from zero a state e d lo hi = absurd (omega arith)
small_from (suc k) a state e d lo hi =
    let h = or_false (ltb place_bytes (length_in_of state a)) (overlong k (a + 1) state) e in
    elim (eq-or-lt_of_le lo) [
      | inl q ↦ rw (← q) (ltb-false place_bytes (length_in_of state a) h.0)
      | inr q ↦ small_from k (a + 1) state h.1 d (omega arith) (omega arith)
    ]

-- ---- 16

module _ (state : List ℕ) (g : Good state) where
  parts : (outside 1 dealer_count (last_served state) ≡ false) × (overlong dealer_count 1 state ≡ false)
  unfolding bad_state
  parts = or_false (outside 1 dealer_count (last_served state)) (overlong dealer_count 1 state) g.fine

  pub last_in : Dealer (last_served state)
  last_in = let h = inside 1 dealer_count (last_served state) parts.0 in record { low = h.0; high = h.1 }

  pub line_small : (d : ℕ) → Dealer d → length_in_of state d ≤ place_bytes
  line_small d h = small_from dealer_count 1 state parts.1 d h.low (omega (arith, h.high))

-- ---- 5 and 16

pub state_good : (state : List ℕ) (w : ℕ) → w ≡ first (state_tests state) → w ≡ 0 → Good state
state_good state w e z =
    let h = all_fail (state_tests state) tt (sym e ∙ z) in
    record { long = equal (length state) state_length h.0; fine = h.1.0 }
