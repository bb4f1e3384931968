-- The records of a relation's finish: each product term has two of them, in its place of the lent list.
use Prim.Native.Nat.{ℕ, suc, ◌+◌, ◌*◌, ◌-◌, ◌≤◌, ◌<◌}
use mathlib.Core.Path.{◌≡◌, refl, ◌∙◌, ap}
use mathlib.Core.List.{List, [], ◌∷◌}
use native.Mathlib.Nat.{mul_assoc, mul_comm, add-mul, one-mul}
use native.Mathlib.Numerals.{add-one}
use native.Mathlib.Omega.{arith}
use lib.ListN.{length}
use Rattle.shape.specs.declared.Shape.{Shape}
use Rattle.shape.specs.Lengths as Lengths
use Rattle.shape.specs.Lengths.{Valid}
use Rattle.refusal.specs.Refusal.{◌when◌, first}
use Rattle.refusal.proofs.Groups.{stopped, went_on}
use Rattle.session.specs.declared.Party.{Party}
use Rattle.session.specs.declared.Session.{Session}
use Rattle.session.specs.Sessions.{shape_of, party_of}
use Rattle.session.specs.Rows.{row_at}
use Rattle.session.proofs.RowLaws.{next}
use Rattle.blocks.specs.Blocks as Blocks
use Rattle.blocks.specs.Between.{Recorded}
use Rattle.opening.specs.Walking.{record_length, bad_record}
use Rattle.terms.specs.Listed.{most_terms}
use Rattle.relation.specs.Finish.{record_at, record_pair, record_tests}
use Rattle.relation_checks.specs.Steps.{Pair}

-- the product term at place k of n has its records
pub pair_in : (s : Session) (blocks : List ℕ) (n k : ℕ) → Valid (shape_of s) → n ≤ most_terms → k < n
    → length blocks ≡ n * (2 * record_length s) → Pair s blocks k
pair_in s blocks n k v m h e =
    let w = record_length s in
    let a : 2 * k * w ≡ k * (2 * w) = ap (λ (x : ℕ). x * w) (mul_comm 2 k) ∙ mul_assoc k 2 w in
    let b : (2 * k + 1) * w ≡ 2 * k * w + w = add-mul (2 * k) 1 w ∙ ap (λ (x : ℕ). 2 * k * w + x) (one-mul w) in
    let c = next k n (2 * w) h in
    record { valid = v; low = omega arith; first_in = omega (arith, a, c, e); second_in = omega (arith, a, b, c, e) }

-- a record of the lent list, as the code has it
module _ (s : Session) (g : Shape) (eg : g ≡ shape_of s) (blocks : List ℕ) (j : ℕ) where
  pub same_room : j * record_length s + record_length s ≤ length blocks → j * Lengths.record_length g + Lengths.record_length g ≤ length blocks
  same_room h = rw eg h

  module _ (q : Party) (eq : q ≡ party_of s) (x : List ℕ) where
    pub recorded : Valid (shape_of s) → length x ≡ Lengths.record_length g → Recorded q x
    recorded v l = rw eq (record { valid = v; length_is = rw eg at l })

    module _ (ex : x ≡ row_at (Lengths.record_length g) blocks j) where
      pub record_is : (u : ℕ) → u ≡ first (8 when Blocks.bad_record q x ∷ []) → u ≡ first (8 when bad_record s (record_at s blocks j) ∷ [])
      record_is u eu = rw (eq, ex, eg) at eu

-- the turns of the loop over all records: those that are left decide
module _ (s : Session) (blocks : List ℕ) (n : ℕ) where
  abbrev pub Heard : ℕ → Type 0
  Heard k = first (record_tests s blocks k (n - k)) ≡ first (record_tests s blocks 0 n)

  pub heard_start : Heard 0
  heard_start = let e : n - 0 ≡ n = omega arith in rw e refl

  module _ (k : ℕ) (e : Heard k) where
    module _ (h : k < n) (u : ℕ) (eu : u ≡ first (record_pair s blocks k)) where
      more : n - k ≡ suc (n - suc k)
      more = omega arith

      pub heard_stop : (u ≡ 0 → ⊥) → u ≡ first (record_tests s blocks 0 n)
      unfolding record_tests
      heard_stop z = stopped (record_pair s blocks k) (record_tests s blocks (suc k) (n - suc k)) tt u eu z ∙ (rw more at e)

      pub heard_more : u ≡ 0 → first (record_tests s blocks (k + 1) (n - (k + 1))) ≡ first (record_tests s blocks 0 n)
      unfolding record_tests
      heard_more z =
          rw (add-one k)
          (went_on (record_pair s blocks k) (record_tests s blocks (suc k) (n - suc k)) tt u eu (first (record_tests s blocks (suc k) (n - suc k))) z refl
          ∙ (rw more at e))

    pub heard_all : n ≤ k → 0 ≡ first (record_tests s blocks 0 n)
    unfolding record_tests
    heard_all h = let m : n - k ≡ 0 = omega arith in rw m at e
