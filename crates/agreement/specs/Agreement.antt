-- Request (iv): "every further accepted share must lie on the same polynomial of degree at most t". The nodes xs and their values ys are the
-- lowest t+1, through which the polynomial goes.
use Rattle.std.specs.Prelude.{ℕ, ◌≡◌, ◌⊎◌, Bool, true, false, List, [], ◌∷◌, eqb}
use Rattle.poly.specs.Interpolation.{interpolated}

-- the value y at z lies on the polynomial
abbrev pub agrees : List ℕ → List ℕ → ℕ → ℕ → Bool
agrees xs ys z y = eqb y (interpolated xs ys z)

-- a test of every node with its value
unfoldable pub all_pairs : (ℕ → ℕ → Bool) → List ℕ → List ℕ → Bool
all_pairs test [] ws = true
all_pairs test (z ∷ zs) [] = true
all_pairs test (z ∷ zs) (w ∷ ws) = elim (test z w) [ true ↦ all_pairs test zs ws | false ↦ false ]

-- all of the values at further nodes do
abbrev pub all_agree : List ℕ → List ℕ → List ℕ → List ℕ → Bool
all_agree xs ys zs ws = all_pairs (agrees xs ys) zs ws

-- the value at 0 of the polynomial, and whether all further values lie on it
abbrev pub Settles : List ℕ → List ℕ → List ℕ → List ℕ → ℕ → Bool → Type 0
Settles xs ys zs ws value agree = (value ≡ interpolated xs ys 0) × (agree ≡ all_agree xs ys zs ws)

-- the value y at x is one of those given at nodes
abbrev pub Given : ℕ → ℕ → List ℕ → List ℕ → Type 0
Given x y [] vs = ⊥
Given x y (n ∷ ns) [] = ⊥
Given x y (n ∷ ns) (v ∷ vs) = ((n ≡ x) × (v ≡ y)) ⊎ Given x y ns vs
