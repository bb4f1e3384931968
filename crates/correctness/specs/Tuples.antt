-- A false polynomial and lists of k points: one statement for every k.
use Rattle.std.specs.Prelude.{ℕ, zero, suc, ◌+◌, ◌*◌, ◌-◌, ◌≤◌, ◌≡◌, Bool, true, cond, ◌≢◌, List, [], ◌∷◌, eqb, length}
use Rattle.field.specs.Modulus.{p}
use Rattle.poly.specs.Polynomial.{value}
use Rattle.poly.specs.Counting.{All, Elements, count_from}

-- f from + f (from + 1) + .., m of them
unfoldable pub sum_from : (ℕ → ℕ) → ℕ → ℕ → ℕ
sum_from f from zero = 0
sum_from f from (suc m) = f from + sum_from f (suc from) m

-- of all lists of k points from 1 to p − 1, how many pass a test
unfoldable pub count_lists : ℕ → (List ℕ → Bool) → ℕ
count_lists zero test = cond (test []) 1 0
count_lists (suc k) test = sum_from (λ w. count_lists k (λ ws. test (w ∷ ws))) 1 (p - 1)

unfoldable pub power : ℕ → ℕ → ℕ
power d zero = 1
power d (suc k) = d * power d k

-- two polynomials of degree at most d, and a test of lists of k points that only lists pass at all of whose points they agree
abbrev pub FalseTuples : Type 0
FalseTuples =
    (d k : ℕ) (f g : List ℕ) → Elements f → Elements g → length f ≡ d + 1 → length g ≡ d + 1 → f ≢ g → (test : List ℕ → Bool)
    → ((ws : List ℕ) → length ws ≡ k → test ws ≡ true → All (λ w. eqb (value f w) (value g w) ≡ true) ws) → count_lists k test ≤ power d k

-- All lists of that many points are counted, equal points among them: each of p − 1 with each. Of one point they are the points. Which lists pass:
-- of no points the empty one, of more those whose first is 1 to p − 1 and whose others pass with it. Without this a count that is 0 for every test but
-- the true one was proved, and the bound said nothing.
pub record ListsCounted : Type 0 where
  pub all : (k : ℕ) → count_lists k (λ ws. true) ≡ power (p - 1) k
  pub one : (test : List ℕ → Bool) → count_lists 1 test ≡ count_from (λ w. test (w ∷ [])) 1 (p - 1)
  pub of_none : (test : List ℕ → Bool) → count_lists 0 test ≡ cond (test []) 1 0
  pub of_more : (k : ℕ) (test : List ℕ → Bool)
      → count_lists (suc k) test ≡ sum_from (λ w. count_lists k (λ ws. test (w ∷ ws))) 1 2147483646
  pub no_summand : (f : ℕ → ℕ) (from : ℕ) → sum_from f from 0 ≡ 0
  pub summand : (f : ℕ → ℕ) (from m : ℕ) → sum_from f from (suc m) ≡ f from + sum_from f (suc from) m
  pub to_none : (d : ℕ) → power d 0 ≡ 1
  pub to_more : (d k : ℕ) → power d (suc k) ≡ d * power d k
