-- Conditions of document 01's table that several calls share.
use Rattle.std.specs.Prelude.{ℕ, ◌-◌, Bool, false, not, cond, ◌||◌, List, [], ◌∷◌, ◌++◌, ltb, eqb, length}
use Rattle.field.specs.Modulus.{p}
use Rattle.shape.specs.declared.Points.{Points}
use Rattle.shape.specs.Bounds.{fewest_posts, most_posts, most_points}
use Rattle.refusal.specs.Refusal.{Test, ◌when◌}

-- x outside low..high
abbrev pub outside : ℕ → ℕ → ℕ → Bool
outside low high x = ltb x low || ltb high x

-- "a length isn't exactly the one stated"
abbrev pub wrong_length : List ℕ → ℕ → Bool
wrong_length l k = not (eqb (length l) k)

-- "at least p", so no element
abbrev pub beyond : ℕ → Bool
beyond x = not (ltb x p)

-- a number of the list is no element
unfoldable pub any_beyond : List ℕ → Bool
any_beyond [] = false
any_beyond (x ∷ xs) = beyond x || any_beyond xs

-- 1: n outside 2..255. 2: t outside 1..n - 1.
abbrev pub posts_tests : ℕ → ℕ → List Test
posts_tests n t = 1 when outside fewest_posts most_posts n ∷ 2 when outside 1 (n - 1) t ∷ []

-- 4: a check point is 0 or at least p.
abbrev pub bad_point : ℕ → Bool
bad_point w = eqb w 0 || beyond w

-- and document 02, (ix): "a number of points other than 1 or 2"; "the second point too", where a post has two.
abbrev pub bad_point_count : ℕ → Bool
bad_point_count points = outside 1 most_points points

abbrev pub bad_second : ℕ → ℕ → Bool
bad_second points w = cond (eqb points most_points) (bad_point w) false

-- 4, of a post's check points: one test, since the order of equal numbers cannot be seen
unfoldable pub bad_points : ℕ → Points → Bool
bad_points points w = bad_point_count points || (bad_point w.first || bad_second points w.second)

-- Calls without a session take n, t and the number of points in its place: 1, 2 and 4 of them, and 3 of a post between them.
abbrev pub station_tests : ℕ → ℕ → ℕ → List Test
station_tests n t points = posts_tests n t ++ (4 when bad_point_count points ∷ [])

abbrev pub party_tests : ℕ → ℕ → ℕ → ℕ → List Test
party_tests n t post points = posts_tests n t ++ (3 when outside 1 n post ∷ 4 when bad_point_count points ∷ [])
