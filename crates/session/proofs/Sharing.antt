-- How calls end that make a row from others: the sets.
use Prim.Native.Nat.{ℕ, ◌+◌, ◌≤◌, ◌<◌}
use mathlib.Core.Path.{◌≡◌, ap₂}
use mathlib.Core.List.{List}
use native.Mathlib.Omega.{arith}
use Rattle.shape.specs.Bounds.{last_row_at, last_triple}
use Rattle.session.specs.declared.Session.{Session}
use Rattle.session.specs.Sessions.{with_marks, with_barred}
use Rattle.session.specs.Between.{Allows}

pub row_96 : (f d : ℕ) → Allows f (d ≤ last_row_at) → f ≡ 0 → d < 96
row_96 f d h z = let k = h.allowed z in omega arith

pub third_96 : (f d : ℕ) → Allows f (d ≤ last_triple) → f ≡ 0 → d + 2 < 96
third_96 f d h z = let k = h.allowed z in omega arith

-- a session made of other marks and other sets, as code makes it
pub made_of : (s : Session) (m m' x x' : List ℕ) → m ≡ m' → x ≡ x' → with_marks (with_barred s x) m ≡ with_marks (with_barred s x') m'
made_of s m m' x x' em ex = ap₂ (λ (k y : List ℕ). with_marks (with_barred s y) k) em ex
