-- Which dealer a turn serves: those between the one last served and this one have no line waiting.
use Prim.Native.Nat.{ℕ, zero, suc, ◌+◌, ◌*◌, ◌-◌, ◌≤◌, ◌<◌}
use mathlib.Core.Path.{◌≡◌, refl, sym, ◌∙◌, ap}
use mathlib.Core.Logic.{◌≢◌, inl, inr}
use mathlib.Core.Bool.{Bool, true, false, not, cond}
use mathlib.Core.List.{List}
use native.Mathlib.Nat.{eq-or-lt_of_le}
use native.Mathlib.Omega.{arith}
use borrow.Author.Tests.{lt-ltb, le-ltb, eq-eqb}
use lib.Dec.{ltb}
use Rattle.refusal.proofs.Laws.{equal}
use Rattle.dealers.specs.State.{dealer_count, length_in_of, last_served, waits, next, first_after, first_waiting, chosen}
use Rattle.dealers.specs.Table.{byte}
use Rattle.dealers.specs.Between.{Good, Dealer}
use Rattle.dealers.specs.Figures.{nth_after, FirstWaiting, AlwaysServed}
use Rattle.dealers.proofs.Positions.{next_dealer_lem, last_in}
use Rattle.dealers.proofs.Fair.{ahead, upward, reach}
use Rattle.dealers.proofs.Laws.{good_is}

-- ---- k dealers on, in figures

round : (k a : ℕ) → Dealer a → k ≤ 8 → ahead k a ≡ nth_after a k
round zero a h l = sym (rw (le-ltb 8 (a + 0) (omega (arith, h.high))) (omega arith))
round (suc k) a h l = elim (eq-or-lt_of_le h.high) [ inl e ↦ last e | inr q ↦ on q (λ g. round k (a + 1) g (omega arith)) ]
  where
    last : a ≡ 8 → ahead k (next a) ≡ nth_after a (suc k)
    last e =
        ap (λ (x : ℕ). ahead k (next x)) e ∙ upward k 1 (omega arith)
        ∙ sym (rw (lt-ltb 8 (a + suc k) (omega arith)) (omega arith))

    on : a < 8 → (Dealer (a + 1) → ahead k (a + 1) ≡ nth_after (a + 1) k) → ahead k (next a) ≡ nth_after a (suc k)
    on q more =
        let e : a + 1 + k ≡ a + suc k = omega arith in
        ap (ahead k) (rw (lt-ltb a dealer_count q) refl) ∙ more (record { low = omega arith; high = omega arith })
        ∙ ap (λ (x : ℕ). cond (ltb 8 x) (x - 8) x) e

-- ---- the first of k dealers

not_both : {b : Bool} → b ≡ true → b ≡ false → ⊥
not_both e f = let z : ◌≡◌ {A = Bool} true false = sym e ∙ f in let y : ◌≡◌ {A = ℕ} 0 1 = cc in omega arith

record Sought (k : ℕ) (state : List ℕ) (a : ℕ) : Type 0 where
  steps : ℕ
  some : 1 ≤ steps
  few : steps ≤ k
  there : first_waiting k state a ≡ ahead steps a
  waiting : waits state (ahead steps a) ≡ true
  passed : (j : ℕ) → 1 ≤ j → j < steps → waits state (ahead j a) ≡ false

sought : (k : ℕ) (state : List ℕ) (a : ℕ) → first_waiting k state a ≢ 0 → Sought k state a
unfolding first_after
sought zero state a n = absurd (n refl)
sought (suc k) state a n = go (waits state (next a)) refl n (sought k state (next a))
  where
    go : (b : Bool) → waits state (next a) ≡ b → first_waiting (suc k) state a ≢ 0
        → (first_waiting k state (next a) ≢ 0 → Sought k state (next a)) → Sought (suc k) state a
    go true e n more =
        record { steps = 1; some = omega arith; few = omega arith; there = rw e; waiting = e; passed = λ j l h. absurd (omega arith) }
    go false e n more =
        let f = more (λ z. n (rw e z)) in
        record {
          steps = suc f.steps;
          some = omega arith;
          few = omega (arith, f.few);
          there = rw e f.there;
          waiting = f.waiting;
          passed = λ j l h. past f j l h;
        }
      where
        past : (f : Sought k state (next a)) (j : ℕ) → 1 ≤ j → j < suc f.steps → waits state (ahead j a) ≡ false
        past f zero l h = absurd (omega arith)
        past f (suc zero) l h = e
        past f (suc (suc j)) l h = f.passed (suc j) (omega arith) (omega arith)

unsought : (k : ℕ) (state : List ℕ) (a : ℕ) → Dealer a → first_waiting k state a ≡ 0 → (j : ℕ) → 1 ≤ j → j ≤ k → waits state (ahead j a) ≡ false
unfolding first_after
unsought zero state a h z j l m = absurd (omega arith)
unsought (suc k) state a h z j l m = go (waits state (next a)) refl z (unsought k state (next a) (next_dealer_lem a h)) j l m
  where
    go : (b : Bool) → waits state (next a) ≡ b → first_waiting (suc k) state a ≡ 0
        → (first_waiting k state (next a) ≡ 0 → (j : ℕ) → 1 ≤ j → j ≤ k → waits state (ahead j (next a)) ≡ false)
        → (j : ℕ) → 1 ≤ j → j ≤ suc k → waits state (ahead j a) ≡ false
    go true e z more j l m = absurd (let y : next a ≡ 0 = rw e at z in omega (arith, (next_dealer_lem a h).low))
    go false e z more zero l m = absurd (omega arith)
    go false e z more (suc zero) l m = e
    go false e z more (suc (suc j)) l m = more (rw e at z) (suc j) (omega arith) (omega arith)

-- ---- the dealer that is served

module _ (state : List ℕ) (g : Good state) where
  one_served : chosen state ≢ 0 → FirstWaiting state (chosen state)
  unfolding chosen
  one_served n =
      let f = sought dealer_count state (last_served state) n in
      let at = round f.steps (last_served state) (last_in state g) f.few in
      record {
        steps = f.steps;
        some = f.some;
        few = f.few;
        there = f.there ∙ at;
        waiting = λ z. not_both f.waiting (ap not (eq-eqb _ 0 (sym (ap (length_in_of state) f.there) ∙ z)));
        passed = λ j l h. sym (ap (length_in_of state) (round j (last_served state) (last_in state g) (omega (arith, f.few)))) ∙ equal _ 0 (f.passed j l h);
      }

  none_served : chosen state ≡ 0 → (d : ℕ) → 1 ≤ d → d ≤ 8 → byte state (17 * d - 16) ≡ 0
  unfolding chosen
  none_served z d lo hi =
      let r = reach (last_served state) d (last_in state g) (record { low = lo; high = hi }) in
      sym (ap (length_in_of state) r.there) ∙ equal _ 0 (unsought dealer_count state (last_served state) (last_in state g) z r.steps r.some r.few)

pub always_served : AlwaysServed
always_served state h =
    let g = good_is state h in
    record { one = one_served state g; none = none_served state g }
