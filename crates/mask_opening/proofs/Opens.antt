-- Masks that are made in a lent room, and opened there; and the refusal of two openings.
use Prim.Native.Nat.{ℕ, zero, suc, ◌+◌, ◌-◌, ◌*◌, ◌≤◌}
use mathlib.Core.Path.{◌≡◌, refl, sym, ◌∙◌, ap, ap₂}
use mathlib.Core.List.{List}
use native.Mathlib.Omega.{arith}
use borrow.Author.Tests.{eqb-true, eqb-false}
use lib.Dec.{eqb}
use mathlib.Core.Bool.{Bool, true, false, ◌||◌, cond, true≢false}
use lib.ListN.{length, take}
use lib.Seq.{length-take-le}
use Rattle.field.specs.Modulus.{p}
use Rattle.shape.specs.declared.Shape.{Shape}
use Rattle.shape.specs.Lengths.{Valid, row_length}
use Rattle.refusal.specs.Refusal.{or_else}
use Rattle.session.specs.declared.Party.{Party}
use Rattle.session.specs.Rows.{row_at, combined}
use Rattle.session.specs.Between.{RowIn, TripleIn}
use Rattle.session.proofs.Passed.{row_below}
use Rattle.sums.proofs.Writers.{length_combined}
use Rattle.std.specs.Prelude.{Result}
use Rattle.refusal.specs.declared.Refusal.{Refusal}
use Rattle.blocks.specs.Between.{Openable}
use Rattle.mask_opening.specs.Between.{Maskable}
use Rattle.walk.specs.Number as Number
use Rattle.product_masks.specs.Masks.{mask_row}
use Rattle.mask_opening.specs.declared.OpenedPair.{OpenedPair}
use Rattle.mask_opening.specs.Either.{either_of}
use Rattle.mask_opening.specs.Pair.{opened_pair}

-- one mask, made of two rows of the list
module _ (g : Shape) (rows made x y : List ℕ) (k r : ℕ) (em : made ≡ combined (p - 1) x y) where
  pub mask_made : x ≡ row_at (row_length g) rows k → y ≡ row_at (row_length g) rows r → made ≡ mask_row g rows k r
  mask_made ex ey = em ∙ ap₂ (combined (p - 1)) ex ey

  pub mask_length : length x ≡ row_length g → length y ≡ row_length g → length made ≡ row_length g
  mask_length lx ly = ap length em ∙ length_combined (p - 1) x y (lx ∙ sym ly) ∙ lx

-- the triple's first two rows
module _ (g : Shape) (r : ℕ) (h : TripleIn g r) where
  pub first_in : RowIn g r
  first_in = row_below g r (omega (arith, h.triple_in))

  pub second_in : RowIn g (r + 1)
  second_in = row_below g (r + 1) (omega (arith, h.triple_in))

-- a room of so many numbers has the row's at its start
module _ (g : Shape) (room width : ℕ) (v : Valid g) (h : 5 * g.n ≤ room + 1) (e : width ≡ row_length g) where
  pub room_holds : width ≤ room
  room_holds = omega (arith, v.t_in, v.reach_in, v.checks_in, e)

  pub room_long : (l : List ℕ) → length l ≡ room → width ≤ length l
  room_long l el = omega (arith, room_holds, el)

  pub room_size : (l : List ℕ) → length l ≡ room → length (take width l) ≡ row_length g
  room_size l el = length-take-le width l (room_long l el) ∙ e

-- a mask can be opened with its record
module _ (q : Party) (rows : List ℕ) (a b r : ℕ) (l l' : List ℕ) (h : Maskable q rows a b r l l') (x : List ℕ) (e : length x ≡ row_length q.shape) where
  pub mask_openable_a : Openable q x l
  mask_openable_a = record { recorded = h.recorded_a; row_length_is = e }

  pub mask_openable_b : Openable q x l'
  mask_openable_b = record { recorded = h.recorded_b; row_length_is = e }

-- both, from what the two openings gave
pub both_opened : (q : Party) (rows record_a_of record_b_of x y : List ℕ) (a b r : ℕ) (o o' : Result ℕ Refusal) → x ≡ mask_row q.shape rows a r → y ≡ mask_row q.shape rows b (r + 1)
    → o ≡ Number.opened_row q x record_a_of → o' ≡ Number.opened_row q y record_b_of
    → ◌≡◌ {A = OpenedPair} (record { a = o; b = o' }) (opened_pair q rows a b r record_a_of record_b_of)
both_opened q rows record_a_of record_b_of x y a b r o o' ex ey eo eo' = rw (eo, eo', ex, ey) refl

-- the refusal of two openings: 9 of the second, or else the first that there is
pub either_nine : (a b : ℕ) → eqb b 9 ≡ true → b ≡ either_of a b
either_nine a b e = rw e (eqb-true b 9 e)

pub either_other : (a b r : ℕ) → eqb b 9 ≡ false → r ≡ or_else a b → r ≡ either_of a b
either_other a b r e h = rw e h

-- as the code chooses it
second_of : (x : Bool) (a b : ℕ) → eqb b 9 ≡ x → (x || eqb a 0) ≡ true → b ≡ either_of a b
second_of true a b e h = either_nine a b e
second_of false a b e h = either_other a b b e (sym (ap (λ (y : ℕ). or_else y b) (eqb-true a 0 h)))

first_of : (x : Bool) (a b : ℕ) → eqb b 9 ≡ x → (x || eqb a 0) ≡ false → a ≡ either_of a b
first_of true a b e h = absurd (true≢false h)
first_of false zero b e h = absurd (eqb-false 0 0 h refl)
first_of false (suc k) b e h = either_other (suc k) b (suc k) e refl

pub either_second : (a b : ℕ) → (eqb b 9 || eqb a 0) ≡ true → b ≡ either_of a b
either_second a b = second_of (eqb b 9) a b refl

pub either_first : (a b : ℕ) → (eqb b 9 || eqb a 0) ≡ false → a ≡ either_of a b
either_first a b = first_of (eqb b 9) a b refl
