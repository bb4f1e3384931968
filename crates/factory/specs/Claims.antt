-- Demand 1 of the factory's calls, with document 01's table for their tests, and what 4 means of a list of check points; proved in
-- proofs/Theorems.antt.
use Rattle.std.specs.Prelude.{ℕ, ◌≤◌, ◌<◌, ◌≡◌, false, List, length, get_or}
use Rattle.field.specs.Arithmetic.{difference}
use Rattle.shape.specs.Lengths.{shape}
use Rattle.refusal.specs.Refusal.{first, Keeps}
use Rattle.factory.specs.declared.Number.{Number}
use Rattle.packs.specs.Packs.{packs, triple_packs}
use Rattle.factory.specs.Calls.{any_bad_point, factory_row_refusal, factory_row_out, factory_triple_refusal, factory_triple_out, dealer_number_of}
use Rattle.factory.specs.Table.{row_table, triple_table, dealer_table}

-- The answers' refusals, and the lent list: the packs, or as it came.
pub record FactoryLawful : Type 0 where
  pub row_refusal_is : (n t points : ℕ) (ws draw out : List ℕ) → factory_row_refusal n t points ws draw out ≡ first (row_table n t points ws draw out)
  pub row : (n t points : ℕ) (ws draw out : List ℕ)
      → Keeps (row_table n t points ws draw out) (packs (shape n t points) ws draw) out (factory_row_out n t points ws draw out)
  pub triple_refusal_is : (n t points : ℕ) (ws draw out : List ℕ)
      → factory_triple_refusal n t points ws draw out ≡ first (triple_table n t points ws draw out)
  pub triple : (n t points : ℕ) (ws draw out : List ℕ)
      → Keeps (triple_table n t points ws draw out) (triple_packs (shape n t points) ws draw) out (factory_triple_out n t points ws draw out)
  pub dealer : (u constant : ℕ)
      → Keeps {A = Number} (dealer_table u constant) (record { refusal = 0; value = difference u constant })
      (record { refusal = first (dealer_table u constant); value = 0 }) (dealer_number_of u constant)

-- "4: a check point is 0 or at least p", of a list: false exactly where each is 1 to 2147483646.
pub record PointsMean : Type 0 where
  pub range_passes : (ws : List ℕ) → ((i : ℕ) → i < length ws → (1 ≤ get_or ws i 0) × (get_or ws i 0 ≤ 2147483646)) → any_bad_point ws ≡ false
  pub passes_range : (ws : List ℕ) → any_bad_point ws ≡ false → (i : ℕ) → i < length ws → (1 ≤ get_or ws i 0) × (get_or ws i 0 ≤ 2147483646)
