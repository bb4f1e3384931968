-- 4 of the first check point, or else of the second.
use Prim.Native.Nat.{ℕ}
use mathlib.Core.Path.{◌≡◌, refl, ◌∙◌, ap, sym}
use mathlib.Core.Bool.{Bool, true, false, ◌||◌}
use mathlib.Core.List.{[], ◌∷◌}
use Rattle.std.specs.Prelude.{Result}
use Rattle.std.specs.Result.{result_and}
use Rattle.shape.specs.declared.Points.{Points}
use Rattle.refusal.specs.declared.Refusal.{Refusal}
use Rattle.refusal.specs.Refusal.{first, or_else, ◌when◌}
use Rattle.refusal.specs.Numbers.{refused}
use Rattle.refusal.specs.Conditions.{bad_points, bad_point}
use Rattle.refusal.proofs.Checks.{refused_and}

two_tests : (b c : Bool) → or_else (first (4 when b ∷ [])) (first (4 when c ∷ [])) ≡ first (4 when (b || c) ∷ [])
two_tests true c = refl
two_tests false true = refl
two_tests false false = refl

pub both :
    {A B : Type 0} (k : ℕ) (w : Points) (x : Result A Refusal) (y : Result B Refusal) (r : Result B Refusal) → k ≡ 2
    → refused x ≡ first (4 when bad_point w.first ∷ []) → refused y ≡ first (4 when bad_point w.second ∷ []) → r ≡ result_and x y
    → refused r ≡ first (4 when bad_points k w ∷ [])
unfolding bad_points
both k w x y r e ex ey er =
    ap refused er ∙ refused_and x y ∙ cc (ex, ey, two_tests (bad_point w.first) (bad_point w.second))
    ∙ ap (λ (m : ℕ). first (4 when bad_points m w ∷ [])) (sym e)
