-- The first of several fields, read alone; the largest of their numbers.
use Prim.Native.Nat.{ℕ, suc, ◌≤◌, ◌<◌}
use mathlib.Core.Path.{◌≡◌, refl, ap, ◌∙◌}
use mathlib.Core.List.{List, [], ◌∷◌}
use mathlib.Core.Bool.{Bool, true, false, cond}
use native.Mathlib.Omega.{arith}
use borrow.Author.Tests.{ltb-true, ltb-false}
use lib.Dec.{ltb}
use Rattle.decimal.specs.declared.Field.{Field}
use Prim.Native.Nat.{max}
use Rattle.std.proofs.lemmas.Bool.Decides.{nat_tests}
use Rattle.std.specs.Prelude.{Option, Some, None}
use Rattle.csv_fields.specs.declared.Run.{Run}
use Rattle.csv_fields.specs.Fields.{malformed, push, behind, fields_at, run, run_of, largest_from, Fits32}
use Rattle.csv_fields.specs.Walk.{comma_field_of}
use Rattle.csv_fields.proofs.Passing.{fields_more}

-- the largest of one number is the number
largest_one : (x : ℕ) → cond (ltb 0 x) x 0 ≡ x
largest_one x = go (ltb 0 x) refl
  where
    go : (t : Bool) → ltb 0 x ≡ t → cond t x 0 ≡ x
    go true e = refl
    go false e = omega (arith, ltb-false 0 x e)

-- ---- one field, by what stands at its position
module _ (s : List ℕ) (at : ℕ) where
  pub one_none : None ≡ comma_field_of s at → None ≡ run_of (fields_at 1 s at)
  one_none e = rw (fields_more s at 0, ← e)

  pub one_number : (f : Field) → Some f ≡ comma_field_of s at → run f.value f.next ≡ run_of (fields_at 1 s at)
  unfolding fields_at
  one_number f e = rw (fields_more s at 0, ← e, largest_one f.value)

module _ (k : ℕ) (s : List ℕ) (at : ℕ) where
  pub first_found : (r : Run) → Some r ≡ run_of (fields_at 1 s at) → fields_at (suc k) s at ≡ push r.largest (fields_at k s r.next)
  unfolding fields_at
  first_found r e = rw (fields_more s at k) (found (comma_field_of s at) (e ∙ ap run_of (fields_more s at 0)))
    where
      found : (o : Option Field) → Some r ≡ run_of (behind o (λ x next. push x (fields_at 0 s next)))
          → behind o (λ x next. push x (fields_at k s next)) ≡ push r.largest (fields_at k s r.next)
      found (Some f) q =
          let h : r ≡ record { largest = cond (ltb 0 f.value) f.value 0; next = f.next } = cc in
          rw (h, largest_one f.value)
      found None q = let z : ◌≡◌ {A = ℕ} 0 1 = cc in absurd (omega arith)

  pub first_broken : None ≡ run_of (fields_at 1 s at) → fields_at (suc k) s at ≡ malformed
  unfolding fields_at
  first_broken e = rw (fields_more s at k) (found (comma_field_of s at) (e ∙ ap run_of (fields_more s at 0)))
    where
      found : (o : Option Field) → None ≡ run_of (behind o (λ x next. push x (fields_at 0 s next))) → behind o (λ x next. push x (fields_at k s next)) ≡ malformed
      found (Some f) q = let z : ◌≡◌ {A = ℕ} 0 1 = cc in absurd (omega arith)
      found None q = refl

-- ---- the largest
larger_above : (m x : ℕ) → (m ≤ cond (ltb m x) x m) × (x ≤ cond (ltb m x) x m)
larger_above m x = go (ltb m x) refl
  where
    go : (t : Bool) → ltb m x ≡ t → (m ≤ cond t x m) × (x ≤ cond t x m)
    go true e = (omega (arith, ltb-true m x e), omega arith)
    go false e = (omega arith, omega (arith, ltb-false m x e))

pub largest_above : (m : ℕ) (xs : List ℕ) → m ≤ largest_from m xs
largest_above m [] = omega arith
largest_above m (x ∷ xs) = omega (arith, (larger_above m x).0, largest_above (cond (ltb m x) x m) xs)

pub largest_narrow : (m : ℕ) (xs : List ℕ) → largest_from m xs < 4294967296 → Fits32 xs
largest_narrow m [] h = tt
largest_narrow m (x ∷ xs) h =
    let k : ℕ = cond (ltb m x) x m in
    (omega (arith, (larger_above m x).1, largest_above k xs), largest_narrow k xs h)

-- as the code asks: the larger of two
pub larger_is : (m x k : ℕ) → k ≡ max m x → k ≡ cond (ltb m x) x m
larger_is m x k e = e ∙ grind (arith, nat_tests)
