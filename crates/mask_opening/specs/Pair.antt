-- What the two masks of a product open to, each with its record.
use Rattle.std.specs.Prelude.{ℕ, ◌+◌, List}
use Rattle.session.specs.declared.Party.{Party}
use Rattle.walk.specs.Number.{opened_row}
use Rattle.product_masks.specs.Masks.{mask_row}
use Rattle.mask_opening.specs.declared.OpenedPair.{OpenedPair}

-- y = a − l and y' = b − l', of the triple at `first`.
abbrev pub opened_pair : Party → List ℕ → ℕ → ℕ → ℕ → List ℕ → List ℕ → OpenedPair
opened_pair q rows a b first record_a_of record_b_of = record {
  a = opened_row q (mask_row q.shape rows a first) record_a_of;
  b = opened_row q (mask_row q.shape rows b (first + 1)) record_b_of;
}
