-- How many digits a number of 64 bits has.
use Prim.Native.Nat.{ℕ, suc, ◌+◌, ◌-◌, ◌/◌, ◌≤◌, ◌<◌}
use mathlib.Core.Path.{◌≡◌, refl, ap}
use mathlib.Core.Bool.{Bool, true, false}
use native.Mathlib.Omega.{arith}
use borrow.Author.Tests.{le-ltb, ltb-true, ltb-false}
use lib.Dec.{ltb}
use Rattle.decimal.specs.Numeral.{tens, size_within}
use Rattle.decimal.proofs.Sizes.{size_one}
use Rattle.street_answers.specs.Text.{long_size_of}

-- k digits of x are counted, and y is what stands in front of the last of them
pub record Counted (x k y : ℕ) : Type 0 where
  pub some : 1 ≤ k
  pub few : k ≤ 20
  pub small : y < tens (21 - k)
  pub says : k + size_within (20 - k) y ≡ suc (long_size_of x)

module _ (x k y : ℕ) (inv : Counted x k y) where
  counted_few : 10 ≤ y → k < 20
  counted_few h = go (ltb k 20) refl
    where
      go : (t : Bool) → ltb k 20 ≡ t → k < 20
      go true e = ltb-true k 20 e
      go false e = let q : 21 - k ≡ 1 = omega (arith, inv.few, ltb-false k 20 e) in absurd (omega (arith, inv.small, ap tens q))

  pub counted_more : 10 ≤ y → Counted x (k + 1) (y / 10)
  unfolding size_within
  counted_more h =
      let l = counted_few h in
      let a : 21 - k ≡ suc (21 - (k + 1)) = omega arith in
      let b : 20 - k ≡ suc (20 - (k + 1)) = omega arith in
      record {
        some = omega arith;
        few = omega arith;
        small = omega (arith, inv.small, ap tens a);
        says = omega (arith, rw (b, le-ltb y 10 h) at inv.says);
      }

  pub counted_end : y < 10 → k ≡ long_size_of x
  counted_end h = omega (arith, inv.says, size_one (20 - k) y h)
