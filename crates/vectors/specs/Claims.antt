-- What is claimed of one row and of one opening; proved in proofs/Theorems.antt.
use Rattle.std.specs.Prelude.{ℕ, ◌+◌, ◌≤◌, ◌<◌, ◌≡◌, true, false, ◌⊎◌, List, length}
use Rattle.poly.specs.Polynomial.{value}
use Rattle.refusal.specs.Refusal.{first}
use Rattle.poly.specs.Counting.{All, Distinct, Elements}
use Rattle.shape.specs.declared.Shape.{Shape}
use Rattle.shape.specs.declared.Points.{Points}
use Rattle.shape.specs.Row.{point_at}
use Rattle.shape.specs.Lengths.{needed, v_length, draw_length}
use Rattle.session.specs.declared.Session.{Session}
use Rattle.session.specs.Sessions.{points_of, shape_of, holding}
use Rattle.session.specs.Rows.{width, row_at, combined}
use Rattle.parts.specs.Draw.{part}
use Rattle.opening.specs.Walking.{sent, accepts, accepted, too_few_of}
use Rattle.opening.specs.Opening.{open_checks_of, open_answer}
use Rattle.vectors.specs.Vector.{Vector, number, numbers, row_of}

-- What the factory writes for a post is linear in the draw.
abbrev pub PartLinear : Type 0
PartLinear =
    (s : Shape) (i : ℕ) (w : Points) (a : ℕ) (draw draw' : List ℕ) → 1 ≤ i → i ≤ s.n → Elements draw → Elements draw' → length draw ≡ draw_length s
    → length draw' ≡ draw_length s → part s i w (combined a draw draw') ≡ combined a (part s i w draw) (part s i w draw')

-- The row of a session's post.
abbrev pub held_row : Session → Vector → List ℕ
held_row s S = row_of (shape_of s) s.post (points_of s) S

-- A record shows of post j the polynomial that j really has.
abbrev pub Truly : Session → Vector → List ℕ → ℕ → Type 0
Truly s S blocks j = sent s (held_row s S) blocks j ≡ numbers (v_length (shape_of s)) (S.v j)

-- "Post j is accepted when its polynomial at wi equals the check value for j": a post's acceptance is agreement with j's own
-- polynomial at each check point.
abbrev pub AcceptedAgrees : Type 0
AcceptedAgrees =
    (s : Session) (S : Vector) (blocks : List ℕ) (j : ℕ) → 1 ≤ j → j ≤ s.n → accepts s (held_row s S) blocks j ≡ true → (h : ℕ) → h < s.points
    → value (sent s (held_row s S) blocks j) (point_at (points_of s) h) ≡ value (numbers (v_length (shape_of s)) (S.v j)) (point_at (points_of s) h)

-- A true polynomial is accepted.
abbrev pub TrueAccepted : Type 0
TrueAccepted =
    (s : Session) (S : Vector) (blocks : List ℕ) (j : ℕ) → 1 ≤ j → j ≤ s.n → Truly s S blocks j
    → accepts s (held_row s S) blocks j ≡ true

-- Of at least t+1 posts, whichever they are, a record shows the polynomials that they really have.
pub record EnoughTruly (s : Session) (S : Vector) (blocks : List ℕ) : Type 0 where
  pub good : List ℕ
  pub many : needed (shape_of s) ≤ length good
  pub different : Distinct good
  pub truly : All (λ j. (1 ≤ j) × (j ≤ s.n) × Truly s S blocks j) good

-- Demand 2, one opening, of a row that 1 to 8 let pass and that is the post's part of a vector: fewer than t+1 accepted give 9;
-- t+1 or more, where each polynomial accepted is its sender's, give f(0) + c; and where t+1 posts' polynomials are their own, whichever
-- posts they are, the answer is f(0) + c, or 13 (document 02, (iv): "every further accepted share must lie on the same polynomial of
-- degree at most t").
abbrev pub OpeningExact : Type 0
OpeningExact =
    (s : Session) (S : Vector) (rows : List ℕ) (r : ℕ) (blocks : List ℕ) → first (open_checks_of s rows r blocks) ≡ 0
    → row_at (width s) rows r ≡ held_row s S
    → (too_few_of s (held_row s S) blocks ≡ true → open_answer s rows r blocks ≡ holding 9 0 s)
    × (too_few_of s (held_row s S) blocks ≡ false → All (Truly s S blocks) (accepted s (held_row s S) blocks)
    → open_answer s rows r blocks ≡ holding 0 (number S).0 s)
    × (EnoughTruly s S blocks → (open_answer s rows r blocks ≡ holding 0 (number S).0 s) ⊎ (open_answer s rows r blocks ≡ holding 13 0 s))
