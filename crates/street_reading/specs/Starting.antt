-- Document 01, "The street program": the form of `S,n,t,post,checkpoint`; document 02, (ix): `W,n,t,post,first,second`, "by all the rules of an `S`".
use Rattle.std.specs.Prelude.{ℕ, suc, ◌+◌, ◌/◌, List, Bool, ◌&&◌, ◌||◌, cond, length, get_or, eqb, ltb, Option, Some, None}
use Rattle.shape.specs.Bounds.{most_points}
use Rattle.csv_fields.specs.Fields.{Parsed, parsed, malformed, push, fields_at, ended}
use Rattle.street_reading.specs.declared.Settings.{Settings}

-- `S` or `W`
abbrev pub starts_with : ℕ → Bool
starts_with letter = eqb letter 83 || eqb letter 87

-- The first field, which ends at the first comma, line feed or end, is one of them.
abbrev pub is_start_of : List ℕ → Bool
is_start_of s = starts_with (get_or s 0 0) && (ltb (length s) 2 || (eqb (get_or s 1 0) 44 || eqb (get_or s 1 0) 10))

-- How many check points a start line has: a `W` two, an `S` one.
abbrev pub points_in_of : List ℕ → ℕ
points_in_of s = cond (eqb (get_or s 0 0) 87) most_points 1

-- "In `S` the field t may be `-`"; document 02, (x): "It now means n divided by 2, rounded down. It holds for `S` and `W`."
abbrev pub dash : ℕ → ℕ
dash n = n / 2

-- A comma and a `-` stand at a position.
abbrev pub dash_at_of : List ℕ → ℕ → Bool
dash_at_of s at = eqb (get_or s at 0) 44 && eqb (get_or s (at + 1) 0) 45

-- The last fields of a start line, behind n: t, the post and its check points.
unfoldable pub behind_posts : List ℕ → ℕ → ℕ → ℕ → Parsed
behind_posts s points n at =
    cond (dash_at_of s at) (push (dash n) (ended s (fields_at (suc points) s (at + 2)))) (ended s (fields_at (suc (suc points)) s at))

abbrev pub after_first : Parsed → (ℕ → ℕ → Parsed) → Parsed
after_first (parsed xs next) rest = push (get_or xs 0 0) (rest (get_or xs 0 0) next)
after_first malformed rest = malformed

-- The numbers of a start line with so many check points.
unfoldable pub start_form : ℕ → List ℕ → Parsed
start_form points s = after_first (fields_at 1 s 1) (behind_posts s points)

-- Where there is one check point, the second is 0.
abbrev pub start_of : ℕ → Parsed → Option Settings
start_of points (parsed xs next) =
    Some
    (record {
      n = get_or xs 0 0;
      t = get_or xs 1 0;
      post = get_or xs 2 0;
      points = points;
      first = get_or xs 3 0;
      second = get_or xs 4 0;
    })
start_of points malformed = None

-- What a start line says.
unfoldable pub start_said : List ℕ → Option Settings
start_said s = start_of (points_in_of s) (start_form (points_in_of s) s)
