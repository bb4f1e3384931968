-- The dealer that a turn chooses.
use Prim.Native.Nat.{ℕ, suc, ◌+◌, ◌-◌, ◌≤◌, ◌<◌}
use mathlib.Core.Path.{◌≡◌, sym, ◌∙◌, ap}
use mathlib.Core.Bool.{Bool, not, cond}
use mathlib.Core.List.{List}
use native.Mathlib.Omega.{arith}
use borrow.Author.Tests.{eq-eqb, ne_eqb}
use lib.Dec.{eqb}
use lib.ListN.{get_or}
use Rattle.dealers.specs.State.{dealer_count, length_in_of, waits, next, first_after, first_waiting, chosen}
use Rattle.dealers.specs.Between.{Good, Dealer}
use Rattle.dealers.proofs.Positions.{next_dealer_lem, last_in}

-- after so many turns of the loop: the dealers passed have no line waiting
pub record Seeking (state : List ℕ) (d turn : ℕ) : Type 0 where
  pub dealer : Dealer d
  pub same : first_waiting (dealer_count - turn) state d ≡ chosen state

pub seek_start : (state : List ℕ) (v : ℕ) → Good state → v ≡ get_or state 0 0 → Seeking state v 0
unfolding chosen
seek_start state v g e = record { dealer = rw e (last_in state g); same = ap (first_waiting dealer_count state) e }

module _ (state : List ℕ) (d turn : ℕ) (i : Seeking state d turn) where
  pub seek_end : dealer_count ≤ turn → 0 ≡ chosen state
  unfolding first_after
  seek_end h = let z : dealer_count - turn ≡ 0 = omega arith in sym (ap (λ (k : ℕ). first_waiting k state d) z) ∙ i.same

  module _ (e : ℕ) (q : e ≡ next d) where
    pub seek_dealer : Dealer e
    seek_dealer = rw q (next_dealer_lem d i.dealer)

    module _ (h : turn < dealer_count) (v : ℕ) (l : v ≡ length_in_of state e) where
      abbrev left : ℕ
      left = dealer_count - (turn + 1)

      split : chosen state ≡ cond (not (eqb v 0)) e (first_waiting left state e)
      unfolding first_after
      split =
          let k : dealer_count - turn ≡ suc left = omega arith in
          sym i.same ∙ ap (λ (x : ℕ). first_waiting x state d) k
          ∙ ap (λ (x : ℕ). cond (waits state x) x (first_waiting left state x)) (sym q)
          ∙ ap (λ (x : ℕ). cond (not (eqb x 0)) e (first_waiting left state e)) (sym l)

      pub seek_found : (v ≡ 0 → ⊥) → e ≡ chosen state
      seek_found n = sym (split ∙ ap (λ (b : Bool). cond (not b) e (first_waiting left state e)) (ne_eqb v 0 n))

      pub seek_on : v ≡ 0 → Seeking state e (turn + 1)
      seek_on z =
          record {
            dealer = seek_dealer;
            same = sym (split ∙ ap (λ (b : Bool). cond (not b) e (first_waiting left state e)) (eq-eqb v 0 z));
          }
