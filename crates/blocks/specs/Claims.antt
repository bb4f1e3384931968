-- Which numbers of a record an opening looks at, told by their places in it; proved in proofs/Reading.antt. Bounds and marks are
-- document 01's numbers.
use Rattle.std.specs.Prelude.{ℕ, ◌+◌, ◌*◌, ◌-◌, ◌≤◌, ◌<◌, ◌≡◌, ◌≢◌, ◌⊎◌, false, List, length, get_or}
use Rattle.shape.specs.Lengths.{record_length}
use Rattle.session.specs.declared.Party.{Party}
use Rattle.blocks.specs.Blocks.{bad_record, sent}

-- "n blocks, each a mark (0 absent, 1 present) and t+1 coefficients": post j's mark, and its i-th coefficient, i from 0 to t.
abbrev pub mark_of : Party → List ℕ → ℕ → ℕ
mark_of q blocks j = get_or blocks ((j - 1) * (q.shape.points * q.shape.t + 1 + 1)) 0

abbrev pub coefficient_of : Party → List ℕ → ℕ → ℕ → ℕ
coefficient_of q blocks j i = get_or blocks ((j - 1) * (q.shape.points * q.shape.t + 1 + 1) + 1 + i) 0

-- A post of 1 to n, but not the own one.
abbrev pub Other : Party → ℕ → Type 0
Other q j = (1 ≤ j) × (j ≤ q.shape.n) × (j ≢ q.post)

-- A block that 8 lets pass: absent, or present with t+1 elements.
pub record Sound (q : Party) (blocks : List ℕ) (j : ℕ) : Type 0 where
  pub mark_in_is : mark_of q blocks j ≤ 1
  pub elements : mark_of q blocks j ≡ 1 → (i : ℕ) → i ≤ q.shape.points * q.shape.t → coefficient_of q blocks j i < 2147483647

-- "Check 8 covers … each block's mark and each present block's coefficients except in the post's own block, also those behind
-- the place where the walk stops": a record passes exactly where the blocks of all other posts are sound.
pub record ReadsOthers (q : Party) (blocks : List ℕ) : Type 0 where
  pub passed : bad_record q blocks ≡ false → (j : ℕ) → Other q j → Sound q blocks j
  pub passes : ((j : ℕ) → Other q j → Sound q blocks j) → bad_record q blocks ≡ false

abbrev pub RecordRead : Type 0
RecordRead = (q : Party) (blocks : List ℕ) → ReadsOthers q blocks

-- Two records that differ only where nobody looks: "its own block is not looked at, its mark included"; "An absent block's
-- coefficients aren't looked at."
pub record Alike (q : Party) (a b : List ℕ) : Type 0 where
  pub marks : (j : ℕ) → Other q j → mark_of q a j ≡ mark_of q b j
  pub coefficients : (j : ℕ) → Other q j → mark_of q a j ≡ 1 → (i : ℕ) → i ≤ q.shape.points * q.shape.t
      → coefficient_of q a j i ≡ coefficient_of q b j i

-- Nothing else is asked: two records are alike where they have the same number at the place of every other post's mark, and at the
-- points · t + 1 places behind a mark of 1.
abbrev pub LookedAt : Party → List ℕ → ℕ → Type 0
LookedAt q blocks place =
    let w = q.shape.points * q.shape.t + 1 + 1 in
    (j : ℕ) × ((1 ≤ j) × (j ≤ q.shape.n) × (j ≢ q.post))
    × ((place ≡ (j - 1) * w) ⊎ ((get_or blocks ((j - 1) * w) 0 ≡ 1) × ((j - 1) * w < place) × (place < (j - 1) * w + w)))

abbrev pub AlikeIs : Type 0
AlikeIs = (q : Party) (a b : List ℕ) → ((place : ℕ) → LookedAt q a place → get_or a place 0 ≡ get_or b place 0) → Alike q a b

-- Check 8 and every post's part are the same for both.
abbrev pub PartsUnread : Type 0
PartsUnread =
    (q : Party) (row a b : List ℕ) → length a ≡ record_length q.shape → length b ≡ record_length q.shape → Alike q a b
    → (bad_record q a ≡ bad_record q b) × ((j : ℕ) → 1 ≤ j → j ≤ q.shape.n → sent q row a j ≡ sent q row b j)
