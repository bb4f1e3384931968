-- Between the functions of the code. No theorem is stated with these.
use Rattle.std.specs.Prelude.{ℕ, zero, suc, ◌+◌, ◌*◌, ◌/◌, ◌%◌, ◌≤◌, ◌<◌, ◌≡◌, List, [], ◌∷◌}
use Rattle.field.specs.Modulus.{p}
use Rattle.field.specs.Arithmetic.{difference}
use Rattle.poly.specs.Counting.{All}

-- nothing behind the first k coefficients
abbrev pub Ends : ℕ → List ℕ → Type 0
Ends zero cs = All (λ c. c ≡ 0) cs
Ends (suc k) [] = Unit {0}
Ends (suc k) (c ∷ cs) = Ends k cs

-- coefficients on the way: p may stand for 0
abbrev pub Low : List ℕ → Type 0
Low cs = All (λ c. c ≤ p) cs

-- numbers that have an inverse
abbrev pub Nonzero : List ℕ → Type 0
Nonzero xs = All (λ x. (1 ≤ x) × (x < p)) xs

-- what stands above the low 31 bits is added to them: the same modulo p
unfoldable pub fold : ℕ → ℕ
fold x = x % 2147483648 + x / 2147483648

-- k c + b modulo p, which need not be its remainder
unfoldable pub line_at : ℕ → ℕ → ℕ → ℕ
line_at k c b = fold (fold (k * c + b))

-- Times z + k, to as many coefficients, where b is the coefficient before.
unfoldable pub times_line_of : ℕ → ℕ → List ℕ → List ℕ
times_line_of k b [] = []
times_line_of k b (c ∷ cs) = line_at k c b ∷ times_line_of k c cs

-- Times z − x.
abbrev pub times_factor_of : ℕ → List ℕ → List ℕ
times_factor_of x cs = times_line_of (difference 0 x) 0 cs

unfoldable pub times_factors : List ℕ → List ℕ → List ℕ
times_factors [] cs = cs
times_factors (x ∷ xs) cs = times_factors xs (times_factor_of x cs)
