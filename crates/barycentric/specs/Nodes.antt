-- Rising nodes, and the numbers that are missing among them.
use Rattle.std.specs.Prelude.{ℕ, zero, suc, ◌-◌, ◌<◌, List, [], ◌∷◌, ◌++◌}

-- each number is above the one before, and the first above a
abbrev pub Rising : ℕ → List ℕ → Type 0
Rising a [] = Unit {0}
Rising a (x ∷ xs) = (a < x) × Rising x xs

-- the last of the numbers, or a where there is none
abbrev pub last_of : ℕ → List ℕ → ℕ
last_of a [] = a
last_of a (x ∷ xs) = last_of x xs

-- the k numbers that follow z
unfoldable pub following : ℕ → ℕ → List ℕ
following z zero = []
following z (suc k) = suc z ∷ following (suc z) k

-- the numbers above a and below the last that are not among the rising ones
unfoldable pub missing : ℕ → List ℕ → List ℕ
missing a [] = []
missing a (x ∷ xs) = following a (x - suc a) ++ missing x xs
