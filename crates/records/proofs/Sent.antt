-- What an opening takes of a post hangs on the post's block alone.
use Prim.Native.Nat.{ℕ, zero, suc, ◌+◌, ◌*◌, ◌-◌, ◌≤◌, ◌<◌}
use mathlib.Core.Path.{◌≡◌, refl, sym, ◌∙◌, ap}
use mathlib.Core.Logic.{◌≢◌}
use mathlib.Core.Bool.{cond}
use mathlib.Core.List.{List, [], ◌∷◌}
use native.Mathlib.Numerals.{add-one}
use native.Mathlib.Omega.{arith}
use borrow.Author.Tests.{ne_eqb}
use lib.Dec.{eqb}
use lib.ListN.{length, take, drop, get_or}
use lib.Seq.{drop-drop}
use Rattle.lists.proofs.Parts.{drop_front}
use Rattle.shape.specs.declared.Shape.{Shape}
use Rattle.shape.specs.Marks.{present}
use Rattle.shape.specs.Lengths.{v_length, block_length, record_length}
use Rattle.shape.specs.Row.{coefficients}
use Rattle.session.specs.declared.Party.{Party}
use Rattle.session.specs.Rows.{row_at}
use Rattle.session.proofs.RowLaws.{row_same, row_other}
use Rattle.blocks.specs.Blocks.{sent}
use Rattle.blocks.specs.Between.{PostIn}
use Rattle.records.specs.Records.{with_block}

-- a block's mark, and the coefficients behind it
mark_first : (k at : ℕ) (l : List ℕ) → get_or l at 0 ≡ get_or (take (suc k) (drop at l)) 0 0
mark_first k zero [] = refl
mark_first k zero (x ∷ l) = refl
mark_first k (suc at) [] = refl
mark_first k (suc at) (x ∷ l) = mark_first k at l

behind_mark : (k at : ℕ) (l : List ℕ) → take k (drop (at + 1) l) ≡ drop 1 (take (suc k) (drop at l))
behind_mark k at l =
    let e : 1 + k ≡ suc k = omega arith in
    ap (take k) (sym (drop-drop 1 at l)) ∙ sym (drop_front 1 k (drop at l)) ∙ ap (λ (z : ℕ). drop 1 (take z (drop at l))) e

-- what an opening takes of the block b: its coefficients, or an empty part
abbrev pub content : List ℕ → List ℕ
content b = cond (eqb (get_or b 0 0) present) (drop 1 b) []

module _ (q : Party) (row : List ℕ) where
  abbrev s : Shape
  s = q.shape

  abbrev by_block : ℕ → List ℕ → List ℕ
  by_block j b = cond (eqb j q.post) (coefficients s row) (content b)

  sent_is : (blocks : List ℕ) (j : ℕ) → sent q row blocks j ≡ by_block j (row_at (block_length s) blocks (j - 1))
  unfolding sent
  sent_is blocks j =
      rw (
        add-one (v_length s),
        mark_first (v_length s) ((j - 1) * suc (v_length s)) blocks,
        behind_mark (v_length s) ((j - 1) * suc (v_length s)) blocks,
      )

  -- post j's block is b now
  module _ (blocks b : List ℕ) (j : ℕ) (size : length blocks ≡ record_length s) (i : PostIn s j) (wide : length b ≡ block_length s) where
    in_record : j - 1 < s.n
    in_record = omega (arith, i.post_in)

    pub sent_written : j ≢ q.post → sent q row (with_block s j b blocks) j ≡ content b
    sent_written n =
        sent_is (with_block s j b blocks) j
        ∙ ap (by_block j) (row_same (block_length s) s.n blocks (j - 1) size in_record b wide)
        ∙ rw (ne_eqb j q.post n)

    pub sent_other : (k : ℕ) → 1 ≤ k → k ≢ j → sent q row (with_block s j b blocks) k ≡ sent q row blocks k
    sent_other k h n =
        sent_is (with_block s j b blocks) k
        ∙ ap (by_block k) (row_other (block_length s) s.n blocks (j - 1) size in_record b wide (k - 1) (λ e. n (omega (arith, i.post_in))))
        ∙ sym (sent_is blocks k)
