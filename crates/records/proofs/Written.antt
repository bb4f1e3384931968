-- A block as code writes it: the mark and then the message, or zeros; and the record around it.
use Prim.Native.Nat.{ℕ, suc, ◌+◌, ◌*◌, ◌-◌, ◌≤◌}
use mathlib.Core.Path.{◌≡◌, sym, ◌∙◌, ap}
use mathlib.Core.List.{List, [], ◌∷◌, ◌++◌, append-nil}
use native.Mathlib.Omega.{arith}
use lib.ListN.{length, take, drop, set, replicate, length-set, drop_of_length-le}
use lib.Seq.{length-take-le}
use borrow.Rule.Slice.PartMut.{put_mid, same_len_mid}
use Rattle.lists.proofs.Parts.{part_length, put_whole}
use Rattle.shape.specs.declared.Shape.{Shape}
use Rattle.shape.specs.Lengths.{block_length, record_length}
use Rattle.blocks.specs.Between.{PostIn}
use Rattle.records.specs.Records.{with_block, no_block}

-- the mark is stored, and the message goes behind it
module _ (mark : ℕ) (message : List ℕ) where
  pub behind_mark : (block : List ℕ) → length block ≡ suc (length message) → 1 ≤ length (set block 0 mark)
  behind_mark block e = omega (arith, length-set block 0 mark)

  pub message_fits : (block : List ℕ) → length block ≡ suc (length message)
      → length message ≡ length (take (length (set block 0 mark) - 1) (drop 1 (set block 0 mark)))
  message_fits [] e = absurd (omega arith)
  message_fits (x ∷ block) e =
      let k : suc (length block) - 1 ≡ length message = omega arith in
      sym (length-take-le (suc (length block) - 1) block (omega arith) ∙ k)

  pub filled : (block new : List ℕ) → length block ≡ suc (length message) → new ≡ message
      → put_mid 1 (length (set block 0 mark) - 1) (set block 0 mark) new ≡ mark ∷ message
  filled [] new e q = absurd (omega arith)
  filled (x ∷ block) new e q =
      let all : length block ≤ suc (length block) - 1 = omega arith in
      ap (λ (z : List ℕ). mark ∷ (new ++ z)) (drop_of_length-le block all) ∙ ap (λ (z : List ℕ). mark ∷ z) (append-nil new ∙ q)

  pub filled_same : (block new : List ℕ) (k : ℕ) → length new ≡ length (take k (drop 1 (set block 0 mark)))
      → length (put_mid 1 k (set block 0 mark) new) ≡ length block
  filled_same block new k e = same_len_mid 1 k (set block 0 mark) new e ∙ length-set block 0 mark

-- a block, as code has its place and its length
module _ (s : Shape) (blocks : List ℕ) (post from w : ℕ) (ef : from ≡ (post - 1) * block_length s) (ew : w ≡ block_length s) where
  pub block_put : (x y : List ℕ) → x ≡ y → put_mid from (from + w - from) blocks x ≡ with_block s post y blocks
  block_put x y e = rw (ef, ew) (put_whole ((post - 1) * block_length s) (block_length s) blocks x y e)

  pub block_cleared : (x : List ℕ) → PostIn s post → length blocks ≡ record_length s
      → x ≡ replicate (length (take (from + w - from) (drop from blocks))) 0
      → put_mid from (from + w - from) blocks x ≡ with_block s post (no_block s) blocks
  block_cleared x i l e =
      let k : from + w - from ≡ block_length s = omega arith in
      let wide : length (take (from + w - from) (drop from blocks)) ≡ block_length s =
      ap (λ (z : ℕ). length (take z (drop from blocks))) k ∙ part_length from (block_length s) blocks (omega (arith, i.room)) in
      block_put x (no_block s) (e ∙ ap (λ (z : ℕ). replicate z 0) wide)
