-- What is counted, where a claim says at how many check points two polynomials have one value (`agreements`, in `FalsePolynomialsPass`). Proved in
-- proofs/Counts.antt.
use Rattle.std.specs.Prelude.{ℕ, suc, ◌+◌, ◌≡◌, Bool, true, false, List, eqb}
use Rattle.poly.specs.Polynomial.{value}
use Rattle.poly.specs.Counting.{count_from, agreements}

-- The k numbers from `from` on, one after the other: each that passes the test counts as one.
pub record CountsEach : Type 0 where
  pub none : (test : ℕ → Bool) (from : ℕ) → count_from test from 0 ≡ 0
  pub passing : (test : ℕ → Bool) (from k : ℕ) → test (from + k) ≡ true → count_from test from (suc k) ≡ count_from test from k + 1
  pub failing : (test : ℕ → Bool) (from k : ℕ) → test (from + k) ≡ false → count_from test from (suc k) ≡ count_from test from k
  -- "the p − 1 check points", 1 to 2147483646
  pub points : (f g : List ℕ) → agreements f g ≡ count_from (λ w. eqb (value f w) (value g w)) 1 2147483646
