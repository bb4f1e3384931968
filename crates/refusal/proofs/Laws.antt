-- What `first` means: the first refusal in document 01's order, and how groups of tests are joined.
use Prim.Native.Nat.{ℕ, zero, suc, ◌≤◌, ◌<◌}
use mathlib.Core.Path.{◌≡◌, refl}
use mathlib.Core.Bool.{Bool, true, false, not, ◌||◌}
use mathlib.Core.List.{List, [], ◌∷◌}
use native.Mathlib.Omega.{arith}
use native.Mathlib.Nat.{le_refl, le_trans}
use borrow.Author.Tests.{ltb-false, eqb-true, not-false}
use lib.Dec.{ltb, eqb}
use Rattle.refusal.specs.Refusal.{Test, ◌when◌, first, or_else, Applies, here, later, AllFail, Ordered}
use Rattle.refusal.specs.Conditions.{outside}
use Rattle.refusal.specs.Claims.{FirstJoin}
pub use Rattle.refusal.specs.Refusal.{Numbered}

never : {k : ℕ} → suc k ≡ 0 → ⊥
never e = omega arith

pub or_else_zero : (a b : ℕ) → or_else a b ≡ 0 → (a ≡ 0) × (b ≡ 0)
or_else_zero zero b e = (refl, e)
or_else_zero (suc k) b e = absurd (never e)

-- one law for every call: two groups joined
pub first_join : FirstJoin
first_join [] ys n = refl
first_join (zero when b ∷ xs) ys n = absurd n
first_join (suc k when true ∷ xs) ys n = refl
first_join (suc k when false ∷ xs) ys n = first_join xs ys n

-- not refused: no test holds
pub all_fail : (ts : List Test) → Numbered ts → first ts ≡ 0 → AllFail ts
all_fail [] n e = tt
all_fail (zero when b ∷ ts) n e = absurd n
all_fail (suc k when true ∷ ts) n e = absurd (never e)
all_fail (suc k when false ∷ ts) n e = (refl, all_fail ts n e)

pub not_refused : (ts : List Test) → AllFail ts → first ts ≡ 0
not_refused [] h = refl
not_refused (k when true ∷ ts) h = let z : ◌≡◌ {A = ℕ} 0 1 = cc in absurd (omega arith)
not_refused (k when false ∷ ts) h = not_refused ts h.1

-- the first refusal in order: it applies, and no smaller one does
at_least : (k j : ℕ) (ts : List Test) → Ordered k ts → Applies j ts → k ≤ j
at_least k j [] o x = elim x [ ]
at_least k j (_ when true ∷ ts) o here = o.0
at_least k j (i when b ∷ ts) o (later a) = le_trans o.0 (at_least i j ts o.2 a)

pub first_applies : (k : ℕ) (ts : List Test) → Ordered k ts → (first ts ≡ 0 → ⊥) → Applies (first ts) ts
first_applies k [] o h = absurd (h refl)
first_applies k (j when true ∷ ts) o h = here
first_applies k (j when false ∷ ts) o h = later (first_applies j ts o.2 h)

pub first_least : (k : ℕ) (ts : List Test) → Ordered k ts → (j : ℕ) → Applies j ts → (0 < first ts) × (first ts ≤ j)
first_least k [] o j x = elim x [ ]
first_least k (_ when true ∷ ts) o j here = (o.1, le_refl j)
first_least k (i when true ∷ ts) o j (later a) = (o.1, at_least i j ts o.2 a)
first_least k (i when false ∷ ts) o j (later a) = first_least i ts o.2 j a

-- what a test that fails says of its numbers
pub or_false : (a b : Bool) → a || b ≡ false → (a ≡ false) × (b ≡ false)
or_false true b e = (e, cc)
or_false false b e = (refl, e)

pub inside : (low high x : ℕ) → outside low high x ≡ false → (low ≤ x) × (x ≤ high)
inside low high x e =
    let h = or_false (ltb x low) (ltb high x) e in
    (ltb-false x low h.0, ltb-false high x h.1)

pub equal : (a b : ℕ) → not (eqb a b) ≡ false → a ≡ b
equal a b e = eqb-true a b (not-false (eqb a b) e)
