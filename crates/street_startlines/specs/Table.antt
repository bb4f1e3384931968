-- The refusals of a start line whose form is right, line by line: document 01's 1 to 4; document 02, (ii): "The street program stays at 32 and gives
-- 1 above that", and (ix): "the second point too gets 4 when 0 or at least p". The bounds are figures, not the names of `street_store` and `shape`;
-- the number of points is the letter's, 1 or 2. proofs/Tables.antt shows that the line's own tests give the same refusal.
use Rattle.std.specs.Prelude.{ℕ, ◌-◌, ◌≤◌, ◌≡◌, ◌||◌, ◌&&◌, List, [], ◌∷◌, eqb, length, replicate}
use Rattle.shape.specs.declared.Shape.{Shape}
use Rattle.shape.specs.declared.Points.{Points}
use Rattle.shape.specs.Bounds.{last_triple}
use Rattle.shape.specs.Lengths.{triple_length}
use Rattle.refusal.specs.Refusal.{Test, ◌when◌, first}
use Rattle.refusal.specs.Conditions.{outside}
use Rattle.csv_fields.specs.Fields.{written}
use Rattle.street_store.specs.Sizes.{longest_triple, longest_line, InStreet}
use Rattle.street_startlines.specs.Steps.{start_tests}

abbrev pub start_table : ℕ → ℕ → ℕ → ℕ → Points → List Test
start_table n t post points w =
    1 when outside 2 32 n
    ∷ 2 when outside 1 (n - 1) t
    ∷ 3 when outside 1 n post
    ∷ 4 when (outside 1 2 points || (outside 1 2147483646 w.first || (eqb points 2 && outside 1 2147483646 w.second)))
    ∷ []

abbrev pub StartTable : Type 0
StartTable = (n t post points : ℕ) (w : Points) → first (start_tests n t post points w) ≡ first (start_table n t post points w)

-- "the program's lines go up to 5,252 bytes for n up to 32": the formula gives the figure, no load of a station of the street's is longer, whatever its
-- number of points, and one is as long.
pub record LongestLine : Type 0 where
  pub figure : longest_line ≡ 5252
  pub none_longer : (g : Shape) (letter row : ℕ) (pack : List ℕ) → InStreet g → row ≤ 95 → length pack ≤ triple_length g
      → length (written letter (row ∷ pack)) ≤ longest_line
  pub one_as_long : length (written 84 (last_triple ∷ replicate longest_triple 2147483646)) ≡ longest_line
