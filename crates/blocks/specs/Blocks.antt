-- Document 01, "Calls on a session", Open: "Takes a held row and a record: n blocks, each a mark (0 absent, 1 present) and
-- t+1 coefficients."
use Rattle.std.specs.Prelude.{ℕ, zero, suc, ◌+◌, ◌*◌, ◌-◌, Bool, false, ◌||◌, cond, List, [], ltb, eqb, take, drop, get_or}
use Rattle.shape.specs.Marks.{absent, present}
use Rattle.shape.specs.Lengths.{v_length}
use Rattle.shape.specs.Row.{coefficients}
use Rattle.refusal.specs.Conditions.{any_beyond}
use Rattle.session.specs.declared.Party.{Party}

-- A block is a mark and k coefficients; post j's, j from 1 on, stands behind those of the posts before it.
abbrev pub block_mark : ℕ → List ℕ → ℕ → ℕ
block_mark k blocks j = get_or blocks ((j - 1) * (k + 1)) 0

abbrev pub block_coefficients : ℕ → List ℕ → ℕ → List ℕ
block_coefficients k blocks j = take k (drop ((j - 1) * (k + 1) + 1) blocks)

-- 8, of one block: "each block's mark and each present block's coefficients except in the post's own block"
unfoldable pub bad_block_of : Party → List ℕ → ℕ → Bool
bad_block_of q blocks j =
    cond (eqb j q.post) false
    (cond (eqb (block_mark (v_length q.shape) blocks j) absent) false
    (ltb present (block_mark (v_length q.shape) blocks j) || any_beyond (block_coefficients (v_length q.shape) blocks j)))

-- of the blocks of k posts from j on
unfoldable pub bad_blocks : Party → List ℕ → ℕ → ℕ → Bool
bad_blocks q blocks j zero = false
bad_blocks q blocks j (suc k) = bad_block_of q blocks j || bad_blocks q blocks (suc j) k

abbrev pub bad_record : Party → List ℕ → Bool
bad_record q blocks = bad_blocks q blocks 1 q.shape.n

-- "For its own number the post takes the coefficients in its own row, otherwise the block of the record (an empty part for an
-- absent block)"
unfoldable pub sent : Party → List ℕ → List ℕ → ℕ → List ℕ
sent q row blocks j =
    cond (eqb j q.post) (coefficients q.shape row)
    (cond (eqb (block_mark (v_length q.shape) blocks j) present) (block_coefficients (v_length q.shape) blocks j) [])
