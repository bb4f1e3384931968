-- The tests of a start line give the refusal of the documents' table.
use Prim.Native.Nat.{◌-◌}
use mathlib.Core.Path.{◌≡◌, refl}
use mathlib.Core.Bool.{Bool, true, false, ◌||◌, true≢false}
use mathlib.Core.List.{List, [], ◌∷◌}
use native.Mathlib.Omega.{arith}
use borrow.Author.Tests.{le-ltb, ltb-false}
use lib.Dec.{ltb}
use Rattle.shape.specs.Bounds.{fewest_posts, most_posts}
use Rattle.refusal.specs.Refusal.{Test, ◌when◌, first}
use Rattle.refusal.specs.Conditions.{outside, bad_points}
use Rattle.refusal.proofs.Figures.{points_figures}
use Rattle.street_store.specs.Sizes.{street_posts}
use Rattle.street_startlines.specs.Table.{StartTable}

-- The library's upper bound says nothing more where the program's has passed.
merged : (few many beyond : Bool) (ts : List Test) → (many ≡ false → beyond ≡ false)
    → first (1 when many ∷ 1 when (few || beyond) ∷ ts) ≡ first (1 when (few || many) ∷ ts)
merged true true beyond ts h = refl
merged false true beyond ts h = refl
merged true false beyond ts h = refl
merged false false true ts h = absurd (true≢false (h refl))
merged false false false ts h = refl

pub start_table_lem : StartTable
start_table_lem n t post points w =
    rw (← points_figures points w)
    (merged (ltb n fewest_posts) (ltb street_posts n) (ltb most_posts n)
    (2 when outside 1 (n - 1) t ∷ 3 when outside 1 n post ∷ 4 when bad_points points w ∷ [])
    (λ e. le-ltb most_posts n (omega (arith, ltb-false street_posts n e))))
