-- A line placed: its refusals, and the bytes that it leaves.
use Prim.Native.Nat.{ℕ, ◌≤◌}
use mathlib.Core.Path.{◌≡◌, sym, ◌∙◌}
use mathlib.Core.Bool.{false}
use mathlib.Core.List.{List, [], ◌∷◌}
use lib.ListN.{length}
use Rattle.refusal.specs.Refusal.{Test, ◌when◌, first, AllFail}
use Rattle.refusal.specs.Conditions.{outside}
use Rattle.refusal.proofs.Laws.{all_fail, inside, equal}
use Rattle.refusal.proofs.Groups.{stopped, went_on}
use Rattle.dealers.specs.State.{state_length, dealer_count, place_bytes, waits}
use Rattle.dealers.specs.Calls.{state_tests, place_tests, place_refusal_of}
use Rattle.dealers.specs.Between.{Dealer}

-- ---- the refusals of placing

module _ (state : List ℕ) (d len w : ℕ) (e : w ≡ first (state_tests state)) where
  abbrev behind : List Test
  behind = 16 when outside 1 dealer_count d ∷ 17 when waits state d ∷ 10 when outside 1 place_bytes len ∷ []

  pub place_stopped : (w ≡ 0 → ⊥) → w ≡ place_refusal_of state d len
  unfolding place_refusal_of
  place_stopped n = stopped (state_tests state) behind tt w e n

  pub place_on : w ≡ 0 → (k : ℕ) → k ≡ first behind → k ≡ place_refusal_of state d len
  unfolding place_refusal_of
  place_on z k q = went_on (state_tests state) behind tt w e k z q

-- ---- what they leave

module _ (state : List ℕ) (d len r : ℕ) (e : r ≡ place_refusal_of state d len) (z : r ≡ 0) where
  passed : AllFail (place_tests state d len)
  unfolding place_refusal_of
  passed = all_fail (place_tests state d len) tt (sym e ∙ z)

  pub place_state : length state ≡ state_length
  place_state = equal (length state) state_length passed.0

  pub place_dealer : Dealer d
  place_dealer = let h = inside 1 dealer_count d passed.1.1.0 in record { low = h.0; high = h.1 }

  pub place_free : waits state d ≡ false
  place_free = passed.1.1.1.0

  pub place_some : 1 ≤ len
  place_some = (inside 1 place_bytes len passed.1.1.1.1.0).0

  pub place_few : len ≤ place_bytes
  place_few = (inside 1 place_bytes len passed.1.1.1.1.0).1
