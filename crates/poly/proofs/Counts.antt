-- A count from the first number on is a count up to the last.
use Prim.Native.Nat.{ℕ, zero, suc, ◌+◌}
use mathlib.Core.Path.{◌≡◌, refl, ◌∙◌, ap}
use mathlib.Core.Bool.{Bool, true, false}
use native.Mathlib.Omega.{arith}
use Rattle.poly.specs.Counting.{count_from, agreements}
use Rattle.poly.specs.Counted.{CountsEach}

one_if : Bool → ℕ
one_if true = 1
one_if false = 0

unfolding_step : (b : Bool) (n : ℕ) → elim b [ true ↦ suc n | false ↦ n ] ≡ one_if b + n
unfolding one_if
unfolding_step true n = omega arith
unfolding_step false n = omega arith

last_counted : (test : ℕ → Bool) (from k : ℕ) → count_from test from (suc k) ≡ count_from test from k + one_if (test (from + k))
unfolding count_from
last_counted test from zero =
    let z : from + 0 ≡ from = omega arith in
    unfolding_step (test from) 0 ∙ rw z (omega arith)
last_counted test from (suc k) =
    let z : suc from + k ≡ from + suc k = omega arith in
    let h = last_counted test (suc from) k in
    unfolding_step (test from) (count_from test (suc from) (suc k))
    ∙ omega (arith, h, ap (λ (n : ℕ). one_if (test n)) z, unfolding_step (test from) (count_from test (suc from) k))

pub counts_each : CountsEach
unfolding count_from agreements one_if
counts_each = record {
  none = λ test from. refl;
  passing = λ test from k e. last_counted test from k ∙ rw e;
  failing = λ test from k e. last_counted test from k ∙ rw e (omega arith);
  points = λ f g. refl;
}
