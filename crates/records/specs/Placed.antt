-- What putting a message into a record and taking it out leave, number by number: post j's block is its mark and the message, or zeros, and every other
-- number of the list is as it was, behind an absent block's mark too. Proved in proofs/Placed.antt.
use Rattle.std.specs.Prelude.{ℕ, ◌+◌, ◌*◌, ◌-◌, ◌≤◌, ◌<◌, ◌≡◌, List, length, get_or}
use Rattle.records.specs.Records.{place_refusal_of, put_refusal_of, put_record, removed_record}

-- where post j's block begins, and how long a block is
abbrev pub block_at : ℕ → ℕ → ℕ → ℕ
block_at t points j = (j - 1) * (points * t + 1 + 1)

pub record PutPlaced (t points : ℕ) (blocks : List ℕ) (j : ℕ) (message after : List ℕ) : Type 0 where
  pub mark : get_or after (block_at t points j) 0 ≡ 1
  pub numbers : (i : ℕ) → i < points * t + 1 → get_or after (block_at t points j + 1 + i) 0 ≡ get_or message i 0
  pub before : (i : ℕ) → i < block_at t points j → get_or after i 0 ≡ get_or blocks i 0
  pub behind : (i : ℕ) → block_at t points j + (points * t + 1 + 1) ≤ i → get_or after i 0 ≡ get_or blocks i 0
  pub as_long : length after ≡ length blocks

pub record RemovedPlaced (t points : ℕ) (blocks : List ℕ) (j : ℕ) (after : List ℕ) : Type 0 where
  pub zeros : (i : ℕ) → i < points * t + 1 + 1 → get_or after (block_at t points j + i) 0 ≡ 0
  pub before : (i : ℕ) → i < block_at t points j → get_or after i 0 ≡ get_or blocks i 0
  pub behind : (i : ℕ) → block_at t points j + (points * t + 1 + 1) ≤ i → get_or after i 0 ≡ get_or blocks i 0
  pub as_long : length after ≡ length blocks

pub record RecordPlaces : Type 0 where
  pub put : (n t points : ℕ) (blocks : List ℕ) (j : ℕ) (message : List ℕ) → put_refusal_of n t points blocks j message ≡ 0
      → PutPlaced t points blocks j message (put_record n t points blocks j message)
  pub removed : (n t points : ℕ) (blocks : List ℕ) (j : ℕ) → place_refusal_of n t points blocks j ≡ 0
      → RemovedPlaced t points blocks j (removed_record n t points blocks j)
