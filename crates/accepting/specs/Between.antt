-- Between the functions of the code. No theorem is stated with these.
use Rattle.std.specs.Prelude.{ℕ, ◌-◌, ◌<◌, ◌≤◌, ◌≡◌, Bool, true, not, ◌&&◌, List, eqb, length, get_or}
use Rattle.field.specs.Modulus.{p}
use Rattle.poly.specs.Polynomial.{powers}
use Rattle.shape.specs.declared.Shape.{Shape}
use Rattle.shape.specs.Lengths.{v_length}
use Rattle.session.specs.declared.Party.{Party}
use Rattle.blocks.specs.Blocks.{sent}
use Rattle.accepting.specs.Accepting.{every_below, matches, accepts, share}

-- Ours: polynomials of so few coefficients are valued by Horner's rule. No answer depends on it.
abbrev pub few_coefficients : ℕ
few_coefficients = 4

-- The weights of polynomials at a point: where these are longer, its powers; else any numbers.
pub record PowersAt (s : Shape) (w : ℕ) (weights : List ℕ) : Type 0 where
  pub powers_are : few_coefficients < v_length s → weights ≡ powers w (v_length s)

-- post j's part is there, and has the right value at the own h-th point
unfoldable pub passes_at : Party → List ℕ → List ℕ → ℕ → ℕ → Bool
passes_at q row blocks j h = not (eqb (length (sent q row blocks j)) 0) && matches q row (sent q row blocks j) j h

-- A post's mark is its share while it passes, then p, which no share is.
abbrev pub unmarked : ℕ → Bool
unmarked m = not (eqb m p)

-- From the mark of the points before the h-th, the mark behind it.
pub record MarkedAs (q : Party) (row blocks : List ℕ) (j h mark r : ℕ) : Type 0 where
  pub passes : unmarked r ≡ (unmarked mark && passes_at q row blocks j h)
  pub share_is : unmarked r ≡ true → r ≡ share q row blocks j

-- A list of marks, one for each post from post 1 on, by the first h points. Before the first they are any but p.
pub record MarkedTo (q : Party) (row blocks : List ℕ) (h : ℕ) (marks : List ℕ) : Type 0 where
  pub long : q.shape.n ≤ length marks
  pub each : (j : ℕ) → 1 ≤ j → j ≤ q.shape.n → unmarked (get_or marks (j - 1) 0) ≡ every_below h (passes_at q row blocks j)
  pub share_is : (j : ℕ) → 1 ≤ j → j ≤ q.shape.n → 1 ≤ h → unmarked (get_or marks (j - 1) 0) ≡ true → get_or marks (j - 1) 0 ≡ share q row blocks j

-- And where they go by all its points: of the accepted posts the shares.
pub record Judged (q : Party) (row blocks : List ℕ) (marks : List ℕ) : Type 0 where
  pub long : q.shape.n ≤ length marks
  pub each : (j : ℕ) → 1 ≤ j → j ≤ q.shape.n → unmarked (get_or marks (j - 1) 0) ≡ accepts q row blocks j
  pub share_is : (j : ℕ) → 1 ≤ j → j ≤ q.shape.n → accepts q row blocks j ≡ true → get_or marks (j - 1) 0 ≡ share q row blocks j

-- No post is marked.
pub record Unmarked (s : Shape) (marks : List ℕ) : Type 0 where
  pub long : s.n ≤ length marks
  pub each : (i : ℕ) → i < s.n → get_or marks i 0 ≡ 0
