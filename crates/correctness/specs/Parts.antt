-- Demand 2: "False polynomials pass at no more than t of the p − 1 check points", with two points a post "for at most 4 × t × t of the
-- pairs of points": of one row, and of the rows that are opened in a run.
use Rattle.std.specs.Prelude.{ℕ, ◌*◌, ◌≤◌, ◌≡◌, ◌≢◌, List, length, take, drop, get_or}
use Rattle.poly.specs.Counting.{Elements}
use Rattle.shape.specs.Marks.{held, masked}
use Rattle.shape.specs.Bounds.{most_points}
use Rattle.shape.specs.Lengths.{v_length}
use Rattle.session.specs.declared.Session.{Session}
use Rattle.session.specs.Sessions.{mark, shape_of}
use Rattle.session.specs.Sessions as Sessions
use Rattle.session.specs.Rows.{width, row_at}
use Rattle.opening.specs.Walking.{sent, accepts}
use Rattle.collect.specs.Collect.{mask_a, mask_b}
use Rattle.vectors.specs.Vector.{Vector, number, numbers}
use Rattle.vectors.specs.Claims.{held_row}
use Rattle.runs.specs.Draws.{Plan, Draw, plan_shape}
use Rattle.runs.specs.Calls.{Proper}
use Rattle.correctness.specs.Tuples.{count_lists, power}
use Rattle.correctness.specs.History.{Event, World, history, begin}
use Rattle.correctness.specs.Ledger.{Ledger, Plain, MaskNumbers}
use Rattle.correctness.specs.Truth.{TruePolynomial, TrueMask}
use Rattle.correctness.specs.Claim.{Premises}

-- the session with other check points, as a list
abbrev pub at_points : Session → List ℕ → Session
at_points s ws = Sessions.with_points s (record { first = get_or ws 0 0; second = get_or ws 1 0 })

-- Of the points, or pairs of points, that a post might have, those at which it accepts what a record shows of j, where its row is its part of X.
abbrev pub points_passed : Session → Vector → List ℕ → ℕ → ℕ
points_passed s X blocks j = count_lists s.points (λ ws. accepts (at_points s ws) (held_row (at_points s ws) X) blocks j)

abbrev pub passed_most : Session → ℕ
passed_most s = power (s.points * s.t) s.points

-- In figures: t of the points, or "4 × t × t of the pairs of points".
abbrev pub PassedInFigures : Type 0
PassedInFigures = (s : Session) → (s.points ≡ 1 → passed_most s ≡ s.t) × (s.points ≡ 2 → passed_most s ≡ 4 * (s.t * s.t))

-- Of one row, with "the number of points, 1 or 2": the record is one that 5 and 8 let pass, and what it shows is not X's polynomial of j.
abbrev pub FalseCaught : Type 0
FalseCaught =
    (s : Session) (X : Vector) (blocks : List ℕ) (j : ℕ) → s.points ≤ most_points → 1 ≤ j → j ≤ s.n → j ≢ s.post → Proper s blocks
    → (sent s (held_row s X) blocks j ≡ numbers (v_length (shape_of s)) (X.v j) → ⊥) → points_passed s X blocks j ≤ passed_most s

-- Of the post with the session s, the row is its part of X, and X's polynomials are those that are truly the posts': P j xs says
-- that xs, so many elements as a message has, is j's. What a record shows of j and is not j's passes at no more points than that.
pub record PartOf (P : ℕ → List ℕ → Type 0) (s : Session) (row : List ℕ) (X : Vector) : Type 0 where
  pub part : row ≡ held_row s X
  pub polynomial : (j : ℕ) (xs : List ℕ) → 1 ≤ j → j ≤ s.n → length xs ≡ v_length (shape_of s) → Elements xs → P j xs
      → xs ≡ numbers (v_length (shape_of s)) (X.v j)
  pub caught : (blocks : List ℕ) (j : ℕ) (xs : List ℕ) → 1 ≤ j → j ≤ s.n → j ≢ s.post → Proper s blocks
      → length xs ≡ v_length (shape_of s) → Elements xs → P j xs → (sent s row blocks j ≡ xs → ⊥) → points_passed s X blocks j ≤ passed_most s

-- The same numbers drawn, with other check points.
abbrev pub with_points : List ℕ → Draw → Draw
with_points points draw = record { points = points; raws = draw.raws; triples = draw.triples }

-- Whatever the check points, in every run by the ledger L: at each post of S at which row r has the mark m, the row that `row` gives
-- is the post's part of X, and truth is P.
abbrev pub OneVector : Plan → Draw → Ledger → (m r : ℕ) → (Session → List ℕ → List ℕ) → ((ℕ → Type 0) → World → ℕ → List ℕ → Type 0) → Vector → Type 1
OneVector plan draw L m r row P X =
    (points : List ℕ) (S : ℕ → Type 0) (rows states : ℕ → List ℕ) (es : List Event)
    → Premises plan (with_points points draw) L S es rows states → (i : ℕ) → 1 ≤ i → i ≤ plan.n → S i
    → (let w = history es (begin plan (with_points points draw) rows states) in let q = w.posts i in
    mark q.session r ≡ m → PartOf (P S w) q.session (row q.session q.rows) X)

-- Of a row that is held in a run: one vector for all posts and for all points that they might have. Its number is the plain number.
abbrev pub HeldParts : Type 1
HeldParts =
    (plan : Plan) (draw : Draw) (L : Ledger) (S : ℕ → Type 0) (rows states : ℕ → List ℕ) (es : List Event)
    → Premises plan draw L S es rows states → (i r : ℕ) → 1 ≤ i → i ≤ plan.n → S i
    → mark ((history es (begin plan draw rows states)).posts i).session r ≡ held
    → (X : Vector) × Plain L r (number X).0 × OneVector plan draw L held r (λ s rows. row_at (width s) rows r) (λ S w. TruePolynomial S w r) X

-- So of a − l and of b − l', for a triple whose masks were made: their numbers are y and y'.
abbrev pub MaskParts : Type 1
MaskParts =
    (plan : Plan) (draw : Draw) (L : Ledger) (S : ℕ → Type 0) (rows states : ℕ → List ℕ) (es : List Event)
    → Premises plan draw L S es rows states → (i r : ℕ) → 1 ≤ i → i ≤ plan.n → S i
    → mark ((history es (begin plan draw rows states)).posts i).session r ≡ masked
    → (X : Vector) × (Y : Vector) × MaskNumbers plan draw L r (number X).0 (number Y).0
    × OneVector plan draw L masked r (λ s rows. mask_a s rows r) (λ S w. TrueMask S w (plan_shape plan) (take (v_length (plan_shape plan))) r) X
    × OneVector plan draw L masked r (λ s rows. mask_b s rows r) (λ S w. TrueMask S w (plan_shape plan) (drop (v_length (plan_shape plan))) r) Y
