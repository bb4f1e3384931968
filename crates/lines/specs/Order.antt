-- Document 01: "Reading and writing lines check 1 and 2 first." Document 02, (ix): where a call takes the number of points it is asked
-- with them, 3 of a post between.
use Rattle.std.specs.Prelude.{ℕ, List, ◌++◌}
use Rattle.refusal.specs.Refusal.{Test, first}

-- The tests of n, t, post and points, then those of the call.
unfoldable pub line_refusal : List Test → List Test → ℕ
line_refusal early tests = first (early ++ tests)
