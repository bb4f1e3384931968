-- Rows that a call doesn't name keep every number, refused or not.
use Prim.Native.Nat.{ℕ, zero, suc}
use mathlib.Core.Path.{◌≡◌, refl}
use mathlib.Core.List.{List}
use Rattle.refusal.specs.Refusal.{outcome}
use Rattle.session.specs.Rows.{row_at}
use Rattle.session.specs.Claims.{OthersKept}
use Rattle.session.proofs.RowLaws.{row_other}

pub others_kept : OthersKept
others_kept w k rows r x size low wide = row_other w k rows r size low x wide

-- a list that a call wrote, or left as it came
pub outcome_keeps : (w refusal : ℕ) (written rows : List ℕ) (q : ℕ) → (refusal ≡ 0 → row_at w written q ≡ row_at w rows q)
    → row_at w (outcome refusal written rows) q ≡ row_at w rows q
unfolding outcome
outcome_keeps w zero written rows q h = h refl
outcome_keeps w (suc k) written rows q h = refl
