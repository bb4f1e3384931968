-- "writes l'' + y l' + y' l + y y' into the third row (y y' is added to m1..mn only)", number by number: the public sums stand behind the
-- coefficients and the check values. Proved in proofs/Placed.antt.
use Rattle.std.specs.Prelude.{ℕ, ◌+◌, ◌*◌, ◌≤◌, ◌<◌, ◌≡◌, List, length, get_or}
use Rattle.field.specs.Arithmetic.{sum, product}
use Rattle.session.specs.declared.Session.{Session}
use Rattle.session.specs.Rows.{width}
use Rattle.multiply.specs.Multiply.{product_row}

-- l'' + y l' + y' l at one place
abbrev pub before : ℕ → ℕ → List ℕ → List ℕ → List ℕ → ℕ → ℕ
before y y' l l' l'' i = sum (sum (get_or l'' i 0) (product y (get_or l' i 0))) (product y' (get_or l i 0))

pub record ProductPlaced (s : Session) (y y' : ℕ) (l l' l'' : List ℕ) : Type 0 where
  pub others : (i : ℕ) → i < s.points * s.t + 1 + s.points * s.n → get_or (product_row s y y' l l' l'') i 0 ≡ before y y' l l' l'' i
  pub sums : (i : ℕ) → s.points * s.t + 1 + s.points * s.n ≤ i → i < width s → get_or (product_row s y y' l l' l'') i 0 ≡ sum (before y y' l l' l'' i) (product y y')

abbrev pub ProductPlaces : Type 0
ProductPlaces =
    (s : Session) (y y' : ℕ) (l l' l'' : List ℕ) → length l ≡ width s → length l' ≡ width s → length l'' ≡ width s
    → ProductPlaced s y y' l l' l''
