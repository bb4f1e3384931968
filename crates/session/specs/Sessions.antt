-- Document 01, "Field, posts, rows": what a session remembers, and a new one.
use Rattle.std.specs.Prelude.{ℕ, ◌+◌, Bool, cond, ◌||◌, List, [], ◌∷◌, ◌++◌, eqb, get_or, set, replicate}
use Rattle.shape.specs.declared.Shape.{Shape}
use Rattle.shape.specs.declared.Points.{Points}
use Rattle.shape.specs.Bounds.{row_count_of, most_points}
use Rattle.shape.specs.Marks.{empty, held, unused, further, masked, spent, collected}
use Rattle.shape.specs.Lengths.{shape}
use Rattle.refusal.specs.Refusal.{Test, ◌when◌, first, outcome}
use Rattle.refusal.specs.Conditions.{outside, bad_points, posts_tests}
use Rattle.callers.specs.Sets.{sets_length, bars, shared, shared_all}
use Rattle.session.specs.declared.Party.{Party}
use Rattle.session.specs.declared.Session.{Session}
use Rattle.session.specs.declared.Answer.{Answer}

abbrev pub shape_of : Session → Shape
shape_of s = shape s.n s.t s.points

abbrev pub points_of : Session → Points
points_of s = record { first = s.first; second = s.second }

abbrev pub party_of : Session → Party
party_of s = record { shape = shape_of s; post = s.post; points = points_of s }

-- "Each row has a mark".
abbrev pub mark_in : List ℕ → ℕ → ℕ
mark_in marks r = get_or marks r empty

abbrev pub mark : Session → ℕ → ℕ
mark s r = mark_in s.marks r

-- "for mark 5 the two factor rows": they stand at the triple's first row.
abbrev pub factor_a_of : Session → ℕ → ℕ
factor_a_of s r = get_or s.factor_a r 0

abbrev pub factor_b_of : Session → ℕ → ℕ
factor_b_of s r = get_or s.factor_b r 0

-- "The session remembers the two numbers for each row" (document 02, (viii)): y and y' stand at the triple's first row.
abbrev pub opened_a_of : Session → ℕ → ℕ
opened_a_of s r = get_or s.y_a r 0

abbrev pub opened_b_of : Session → ℕ → ℕ
opened_b_of s r = get_or s.y_b r 0

-- Document 02, (xi): whether a post may not call for row r's opening: "a post outside the set, 0 and any above n too".
abbrev pub barred_from : Session → ℕ → ℕ → Bool
barred_from s r caller = outside 1 s.n caller || bars s.barred r caller

-- The session with one part of it anew. These and `session_of` name every field; of the statements, `fresh_session` does.
abbrev pub with_points : Session → Points → Session
with_points s w =
    record {
      n = s.n;
      t = s.t;
      post = s.post;
      points = s.points;
      first = w.first;
      second = w.second;
      marks = s.marks;
      factor_a = s.factor_a;
      factor_b = s.factor_b;
      y_a = s.y_a;
      y_b = s.y_b;
      barred = s.barred;
    }

abbrev pub with_marks : Session → List ℕ → Session
with_marks s marks =
    record {
      n = s.n;
      t = s.t;
      post = s.post;
      points = s.points;
      first = s.first;
      second = s.second;
      marks = marks;
      factor_a = s.factor_a;
      factor_b = s.factor_b;
      y_a = s.y_a;
      y_b = s.y_b;
      barred = s.barred;
    }

abbrev pub with_factors : Session → List ℕ → List ℕ → Session
with_factors s factor_a factor_b =
    record {
      n = s.n;
      t = s.t;
      post = s.post;
      points = s.points;
      first = s.first;
      second = s.second;
      marks = s.marks;
      factor_a = factor_a;
      factor_b = factor_b;
      y_a = s.y_a;
      y_b = s.y_b;
      barred = s.barred;
    }

abbrev pub with_opened : Session → List ℕ → List ℕ → Session
with_opened s y_a y_b =
    record {
      n = s.n;
      t = s.t;
      post = s.post;
      points = s.points;
      first = s.first;
      second = s.second;
      marks = s.marks;
      factor_a = s.factor_a;
      factor_b = s.factor_b;
      y_a = y_a;
      y_b = y_b;
      barred = s.barred;
    }

-- The session with other sets of barred posts.
abbrev pub with_barred : Session → List ℕ → Session
with_barred s sets =
    record {
      n = s.n;
      t = s.t;
      post = s.post;
      points = s.points;
      first = s.first;
      second = s.second;
      marks = s.marks;
      factor_a = s.factor_a;
      factor_b = s.factor_b;
      y_a = s.y_a;
      y_b = s.y_b;
      barred = sets;
    }

-- Where a post has one check point, the second is 0.
abbrev pub as_many_of : ℕ → Points → Points
as_many_of points w = record { first = w.first; second = cond (eqb points most_points) w.second 0 }

abbrev pub no_points : Points
no_points = record { first = 0; second = 0 }

-- A new session remembers no rows and no numbers: "0 when new". No post is barred: "without that line it is all posts".
abbrev pub session_of : ℕ → ℕ → ℕ → ℕ → Points → Session
session_of n t post points w =
    record {
      n = n;
      t = t;
      post = post;
      points = points;
      first = w.first;
      second = w.second;
      marks = replicate row_count_of empty;
      factor_a = replicate row_count_of 0;
      factor_b = replicate row_count_of 0;
      y_a = replicate row_count_of 0;
      y_b = replicate row_count_of 0;
      barred = replicate sets_length 0;
    }

-- The session with another mark on row r.
abbrev pub marked : Session → ℕ → ℕ → Session
marked s r m = with_marks s (set s.marks r m)

-- The session that remembers a and b as the factor rows of the triple at r.
abbrev pub remembering : Session → ℕ → ℕ → ℕ → Session
remembering s r a b = with_factors s (set s.factor_a r a) (set s.factor_b r b)

-- Other marks on the three rows of the triple at r.
abbrev pub marked_triple : Session → ℕ → ℕ → ℕ → ℕ → Session
marked_triple s r a b c = marked (marked (marked s r a) (r + 1) b) (r + 2) c

-- "3 first row of an unused triple; 4 its second or third row"
abbrev pub loaded_triple : Session → ℕ → Session
loaded_triple s r = marked_triple s r unused further further

-- "The triple's first mark becomes 5, and a and b are remembered."
abbrev pub masked_triple : Session → ℕ → ℕ → ℕ → Session
masked_triple s r a b = remembering (marked s r masked) r a b

-- The session that remembers the numbers y and y' of the triple at r.
abbrev pub recalling : Session → ℕ → ℕ → ℕ → Session
recalling s r y y' = with_opened s (set s.y_a r y) (set s.y_b r y')

-- "The first call opens y and y' and remembers them; the triple's first row then has mark 7."
abbrev pub collected_triple : Session → ℕ → ℕ → ℕ → Session
collected_triple s r y y' = recalling (marked s r collected) r y y'

-- Document 02, (xi): "A row made from others has the posts that all of them share": row d bars whom row a or row b bars.
abbrev pub sharing : Session → ℕ → ℕ → ℕ → Session
sharing s d a b = with_barred s (shared 8 s.barred d a b)

-- So of any rows.
abbrev pub sharing_all : Session → ℕ → List ℕ → Session
sharing_all s d rows = with_barred s (shared_all s.barred d rows)

-- A sum of these rows is stored in row d, which becomes held.
abbrev pub summed_row : Session → ℕ → List ℕ → Session
summed_row s d rows = marked (sharing_all s d rows) d held

-- "Marks become 6, 6, 2." And "for a product these are its factor rows".
abbrev pub finished_triple : Session → ℕ → Session
finished_triple s r = marked_triple (sharing s (r + 2) (factor_a_of s r) (factor_b_of s r)) r spent spent held

-- An answer that holds these three.
abbrev pub holding : ℕ → ℕ → Session → Answer
holding refusal value session = record { refusal = refusal; value = value; session = session }

-- What a call hands back. Refused: its number, 0 for a value and the session as it came; else 0, its value and the new session.
abbrev pub answer : ℕ → ℕ → Session → Session → Answer
answer refusal value new old = outcome refusal (holding 0 value new) (holding refusal 0 old)

-- 1 to 4, of a session's n, t, own post and check points.
abbrev pub session_tests : ℕ → ℕ → ℕ → ℕ → Points → List Test
session_tests n t post points w = posts_tests n t ++ (3 when outside 1 n post ∷ 4 when bad_points points w ∷ [])

-- "A new session has 96 rows, all with mark 0. A refused new session has 0 in every field."
unfoldable pub created : ℕ → ℕ → ℕ → ℕ → Points → Answer
created n t post points w =
    answer (first (session_tests n t post points w)) 0 (session_of n t post points (as_many_of points w)) (session_of 0 0 0 0 no_points)
