-- Document 01, "The street program": "`O` lines are kept for one row: one for another row empties the record first, a second from
-- one post replaces the first". Document 02, (iii): "`M` lines, kept for one triple as `O` lines are for a row".
use Rattle.std.specs.Prelude.{ℕ, Bool, cond, List, ◌++◌, eqb, length, take, drop, replicate}
use Rattle.shape.specs.declared.Shape.{Shape}
use Rattle.shape.specs.Lengths.{record_length}
use Rattle.records.specs.Records.{with_block, block_of}

-- The record that stands at a place of the store.
abbrev pub record_at : ℕ → Shape → List ℕ → List ℕ
record_at at g store = take (record_length g) (drop at store)

-- The record, if it is kept for what a line names, else an empty one.
abbrev pub record_if : Bool → List ℕ → List ℕ
record_if same blocks = cond same blocks (replicate (length blocks) 0)

-- The record at a place of the store, for a line that names a row or a triple: the record is kept for one.
abbrev pub record_for : ℕ → Shape → ℕ → ℕ → List ℕ → List ℕ
record_for at g kept named store = record_if (eqb kept named) (record_at at g store)

-- The store with another record at a place.
abbrev pub with_record : ℕ → Shape → List ℕ → List ℕ → List ℕ
with_record at g blocks store = take at store ++ (blocks ++ drop (record_length g) (drop at store))

-- The store after a post's coefficients were put into the record at a place.
unfoldable pub kept : ℕ → Shape → Bool → ℕ → List ℕ → List ℕ → List ℕ
kept at g same post xs store = with_record at g (with_block g post (block_of xs) (record_if same (record_at at g store))) store
