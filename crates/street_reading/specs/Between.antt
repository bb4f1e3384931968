-- Between the functions of the code: the list that a line's numbers are read into. No theorem is stated with it.
use Rattle.std.specs.Prelude.{ℕ, ◌≡◌, List}
use Rattle.street_reading.specs.Numbers.{numbers}

-- It has the k numbers of the line where nothing is refused; what it has of a refused line is not said.
pub record Taken (refusal k : ℕ) (s out : List ℕ) : Type 0 where
  pub numbers_are : refusal ≡ 0 → out ≡ numbers k s
