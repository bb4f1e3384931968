-- Where a session's marks, rows and numbers stand, where the numbers of a row stand, and what a sum of rows is, place by place: what the
-- definitions say that tables, contracts and claims cite by name. Proved in proofs/Placed.antt.
use Rattle.std.specs.Prelude.{ℕ, ◌+◌, ◌*◌, ◌-◌, ◌/◌, ◌%◌, ◌^◌, ◌≤◌, ◌<◌, ◌≡◌, false, ◌||◌, List, eqb, length, get_or, set}
use Rattle.field.specs.Arithmetic.{sum, product}
use Rattle.refusal.specs.Conditions.{outside}
use Rattle.callers.specs.Sets.{shared}
use Rattle.session.specs.declared.Session.{Session}
use Rattle.session.specs.Sessions.{mark, factor_a_of, factor_b_of, opened_a_of, opened_b_of, barred_from, with_barred, marked, remembering, recalling, sharing, holding}
use Rattle.session.specs.Checks.{wrong_mark_of}
use Rattle.session.specs.Rows.{row_at, with_row, combined, plus_sums}

-- ---- "The session remembers n, t, post, check point, the marks, and for mark 5 the two factor rows", and y and y' (document 02, (viii)):
-- each at the row's own place of its own list, read and written; whoever writes one leaves every other field as it was
pub record Fields (s : Session) (r : ℕ) : Type 0 where
  pub mark_is : mark s r ≡ get_or s.marks r 0
  pub wrong_mark_is : (m : ℕ) → wrong_mark_of s r m ≡ false → get_or s.marks r 0 ≡ m
  pub right_mark : (m : ℕ) → get_or s.marks r 0 ≡ m → wrong_mark_of s r m ≡ false
  pub factors : (factor_a_of s r ≡ get_or s.factor_a r 0) × (factor_b_of s r ≡ get_or s.factor_b r 0)
  pub numbers : (opened_a_of s r ≡ get_or s.y_a r 0) × (opened_b_of s r ≡ get_or s.y_b r 0)
  pub marked_is : (m : ℕ) → marked s r m ≡ record {
    n = s.n;
    t = s.t;
    post = s.post;
    points = s.points;
    first = s.first;
    second = s.second;
    marks = set s.marks r m;
    factor_a = s.factor_a;
    factor_b = s.factor_b;
    y_a = s.y_a;
    y_b = s.y_b;
    barred = s.barred;
  }
  pub remembering_is : (a b : ℕ) → remembering s r a b ≡ record {
    n = s.n;
    t = s.t;
    post = s.post;
    points = s.points;
    first = s.first;
    second = s.second;
    marks = s.marks;
    factor_a = set s.factor_a r a;
    factor_b = set s.factor_b r b;
    y_a = s.y_a;
    y_b = s.y_b;
    barred = s.barred;
  }
  pub recalling_is : (y y' : ℕ) → recalling s r y y' ≡ record {
    n = s.n;
    t = s.t;
    post = s.post;
    points = s.points;
    first = s.first;
    second = s.second;
    marks = s.marks;
    factor_a = s.factor_a;
    factor_b = s.factor_b;
    y_a = set s.y_a r y;
    y_b = set s.y_b r y';
    barred = s.barred;
  }
  -- and "a set of posts that may call for its opening" (document 02, (xi)), kept as the posts that may not: of row r eight numbers of 32 bits
  -- from 8 r on, and post c's bit is c − 1 of these 256
  pub barred_is : (c : ℕ)
      → barred_from s r c ≡ (outside 1 s.n c || eqb (get_or s.barred (8 * r + (c - 1) / 32) 0 / 2 ^ ((c - 1) % 32) % 2) 1)
  pub barring_is : (sets : List ℕ) → with_barred s sets ≡ record {
    n = s.n;
    t = s.t;
    post = s.post;
    points = s.points;
    first = s.first;
    second = s.second;
    marks = s.marks;
    factor_a = s.factor_a;
    factor_b = s.factor_b;
    y_a = s.y_a;
    y_b = s.y_b;
    barred = sets;
  }
  pub sharing_is : (a b : ℕ) → sharing s r a b ≡ with_barred s (shared 8 s.barred r a b)

-- the three parts of an answer
pub record Parts (refusal value : ℕ) (s : Session) : Type 0 where
  pub refusal_is : (holding refusal value s).refusal ≡ refusal
  pub value_is : (holding refusal value s).value ≡ value
  pub session_is : (holding refusal value s).session ≡ s

-- ---- "A session has 96 rows, 0 to 95, in one lent list": row r is the w numbers from r w on
pub record RowPlaces (w : ℕ) (rows : List ℕ) (r : ℕ) : Type 0 where
  pub read : (i : ℕ) → i < w → get_or (row_at w rows r) i 0 ≡ get_or rows (r * w + i) 0
  pub read_all : r * w + w ≤ length rows → length (row_at w rows r) ≡ w

-- x in the place of row r, and every other number as it was
pub record WrittenPlaces (w : ℕ) (rows : List ℕ) (r : ℕ) (x : List ℕ) : Type 0 where
  pub written : (i : ℕ) → i < w → get_or (with_row w r x rows) (r * w + i) 0 ≡ get_or x i 0
  pub before : (j : ℕ) → j < r * w → get_or (with_row w r x rows) j 0 ≡ get_or rows j 0
  pub behind : (j : ℕ) → r * w + w ≤ j → get_or (with_row w r x rows) j 0 ≡ get_or rows j 0
  pub as_long : length (with_row w r x rows) ≡ length rows

-- ---- "a plus s times b, s a public element, element by element over whole rows"
pub record Combined (s : ℕ) (x y : List ℕ) : Type 0 where
  pub each : (i : ℕ) → i < length x → get_or (combined s x y) i 0 ≡ sum (get_or x i 0) (product s (get_or y i 0))
  pub as_long : length (combined s x y) ≡ length x

-- ---- "adds c to m1..mn", which stand from the k-th number on, and to nothing else
pub record Raised (k c : ℕ) (row : List ℕ) : Type 0 where
  pub others : (i : ℕ) → i < k → get_or (plus_sums k c row) i 0 ≡ get_or row i 0
  pub sums : (i : ℕ) → k ≤ i → i < length row → get_or (plus_sums k c row) i 0 ≡ sum (get_or row i 0) c
  pub as_long : length (plus_sums k c row) ≡ length row

pub record Places : Type 0 where
  pub fields : (s : Session) (r : ℕ) → Fields s r
  pub parts : (refusal value : ℕ) (s : Session) → Parts refusal value s
  pub rows : (w : ℕ) (rows : List ℕ) (r : ℕ) → RowPlaces w rows r
  pub written : (w : ℕ) (rows : List ℕ) (r : ℕ) (x : List ℕ) → r * w + w ≤ length rows → length x ≡ w → WrittenPlaces w rows r x
  pub combined_rows : (s : ℕ) (x y : List ℕ) → length x ≡ length y → Combined s x y
  pub raised_rows : (k c : ℕ) (row : List ℕ) → k ≤ length row → Raised k c row
