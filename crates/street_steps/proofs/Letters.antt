-- The letters whose lines may change the session, and no other.
use Prim.Native.Nat.{ℕ}
use mathlib.Core.Path.{◌≡◌, refl, ap}
use mathlib.Core.Bool.{Bool, true, false, cond, ◌||◌}
use native.Mathlib.Omega.{arith}
use lib.Dec.{eqb}
use borrow.Author.Tests.{ne_eqb, eqb-true}
use Rattle.street_steps.specs.Letters.{is_change}

pub change_r : (l : ℕ) → l ≡ 82 → true ≡ is_change l
change_r l e = rw e

pub change_t : (l : ℕ) → l ≡ 84 → true ≡ is_change l
change_t l e = rw e

pub change_f_lem : (l : ℕ) → l ≡ 70 → true ≡ is_change l
change_f_lem l e = rw e

pub change_l : (l : ℕ) → l ≡ 76 → true ≡ is_change l
change_l l e = rw e

pub change_x : (l : ℕ) → l ≡ 88 → true ≡ is_change l
change_x l e = rw e

pub change_d : (l : ℕ) → l ≡ 68 → true ≡ is_change l
change_d l e = rw e

pub change_a : (l : ℕ) → l ≡ 65 → true ≡ is_change l
change_a l e = rw e

pub change_s : (l : ℕ) → l ≡ 83 → true ≡ is_change l
change_s l e = rw e

pub change_none : (l : ℕ) → (l ≡ 82 → ⊥) → (l ≡ 84 → ⊥) → (l ≡ 70 → ⊥) → (l ≡ 76 → ⊥) → (l ≡ 88 → ⊥) → (l ≡ 68 → ⊥) → (l ≡ 65 → ⊥) → (l ≡ 83 → ⊥)
    → false ≡ is_change l
change_none l a b c d e f h g =
    rw (ne_eqb l 82 a, ne_eqb l 84 b, ne_eqb l 70 c, ne_eqb l 76 d, ne_eqb l 88 e, ne_eqb l 68 f, ne_eqb l 65 h, ne_eqb l 83 g)

or_false : (b : Bool) → b || false ≡ true → b ≡ true
or_false true e = refl
or_false false e = e

pub only_masks : (l : ℕ) → is_change l ≡ true → (l ≡ 68 → ⊥) → (l ≡ 82 → ⊥) → (l ≡ 84 → ⊥) → (l ≡ 76 → ⊥) → (l ≡ 65 → ⊥) → (l ≡ 70 → ⊥) → (l ≡ 83 → ⊥)
    → l ≡ 88
only_masks l h a b c d e f g =
    eqb-true l 88
    (or_false (eqb l 88) (rw (ne_eqb l 82 b, ne_eqb l 84 c, ne_eqb l 70 f, ne_eqb l 76 d, ne_eqb l 68 a, ne_eqb l 65 e, ne_eqb l 83 g) at h))

-- no line that changes the session is without a letter
pub some_letter : (l : ℕ) → is_change l ≡ true → l ≡ 0 → ⊥
some_letter l h e = let k : is_change 0 ≡ true = rw e at h in let y : ◌≡◌ {A = ℕ} 0 1 = ap (λ (b : Bool). cond b 1 0) k in omega arith
