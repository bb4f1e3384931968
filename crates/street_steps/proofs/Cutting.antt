-- Of an overlong line only its first bytes count: a line may be cut behind the byte that makes it too long.
use Prim.Native.Nat.{ℕ, ◌≤◌, ◌<◌}
use mathlib.Core.Path.{◌≡◌, refl, ap, sym, ◌∙◌}
use mathlib.Core.List.{List}
use mathlib.Core.Bool.{Bool, true, false, cond}
use native.Mathlib.Omega.{arith}
use borrow.Author.Tests.{lt-ltb, le-ltb, ltb-true, ltb-false}
use lib.ListN.{length, take}
use lib.Seq.{take_all, length-take-le, get_or-take}
use lib.Dec.{ltb}
use Rattle.street_reading.specs.Starting.{is_start_of}
use Rattle.street_states.specs.declared.State.{State}
use Rattle.street_states.specs.States.{Stepped}
use Rattle.street_states.specs.States.{refusing, leaving}
use Rattle.street_store.specs.Sizes.{longest_line}
use Rattle.street_startlines.specs.Steps.{start_step, early_step}
use Rattle.street_steps.specs.Stepping.{late_step, step}

module _ (st : State) (store s : List ℕ) where
  module _ (h : longest_line < length s) where
    late_overlong : late_step st store s ≡ leaving (refusing st 10) store
    unfolding late_step
    late_overlong = rw (lt-ltb longest_line (length s) h)

    early_overlong : early_step st s ≡ cond (is_start_of s) (refusing st 10) (refusing st 1)
    unfolding early_step start_step
    early_overlong = rw (lt-ltb longest_line (length s) h)

same_start : (s : List ℕ) (k : ℕ) → 2 ≤ k → k ≤ length s → is_start_of (take k s) ≡ is_start_of s
same_start s k h l =
    let n : length (take k s) ≡ k = length-take-le k s l in
    rw (get_or-take k s 0 0 (omega arith), get_or-take k s 1 0 (omega arith), le-ltb (length (take k s)) 2 (omega arith), le-ltb (length s) 2 (omega arith))

pub step_cut : (st : State) (store s : List ℕ) (k : ℕ) → longest_line < k → step st store (take k s) ≡ step st store s
unfolding step
step_cut st store s k g = go (ltb (length s) k) refl
  where
    long : (b : Bool) → k ≤ length s
        → cond b (late_step st store (take k s)) (leaving (early_step st (take k s)) store)
        ≡ cond b (late_step st store s) (leaving (early_step st s) store)
    long true l =
        late_overlong st store (take k s) (omega (arith, length-take-le k s l)) ∙ sym (late_overlong st store s (omega arith))
    long false l =
        ap (λ (v : Stepped). leaving v store)
        (early_overlong st store (take k s) (omega (arith, length-take-le k s l))
        ∙ ap (λ (b : Bool). cond b (refusing st 10) (refusing st 1)) (same_start s k (omega arith) l)
        ∙ sym (early_overlong st store s (omega arith)))

    go : (b : Bool) → ltb (length s) k ≡ b
        → cond st.started (late_step st store (take k s)) (leaving (early_step st (take k s)) store)
        ≡ cond st.started (late_step st store s) (leaving (early_step st s) store)
    go true e = let l : length s ≤ k = omega (arith, ltb-true (length s) k e) in rw (take_all k s l)
    go false e = long st.started (ltb-false (length s) k e)
