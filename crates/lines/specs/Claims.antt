-- What is claimed of the calls on lines; proved in proofs/Theorems.antt and proofs/Sending.antt.
use Rattle.std.specs.Prelude.{ℕ, ◌-◌, ◌≡◌, false, List, ◌++◌, length, take, drop, replicate}
use Rattle.shape.specs.Lengths.{shape, v_length, masks_length}
use Rattle.refusal.specs.Refusal.{Test, first, Decides, Keeps}
use Rattle.refusal.specs.Conditions.{outside}
use Rattle.forms.specs.Lines.{Message, deal, opening, masks, text}
use Rattle.forms.specs.Forms.{message}
use Rattle.lines.specs.declared.Written.{Written}
use Rattle.lines.specs.declared.Line.{Line}
use Rattle.lines.specs.Writing.{write_deal_refusal, write_opening_refusal, write_masks_refusal, write_refusal, written_as, part_as}
use Rattle.lines.specs.Reading.{read_refusal, line_as, list_as}
use Rattle.lines.specs.Table.{write_deal_table, write_opening_table, write_masks_table, read_table}

-- ---- demand 1
-- A writer with these tests, which was lent `part` for a line, gave `given` and left `after`.
pub record WriteLawful (tests : List Test) (line part : List ℕ) (given : Written) (after : List ℕ) : Type 0 where
  pub refusal : Decides tests
  pub untouched : (first tests ≡ 0 → ⊥) → (given ≡ record { refusal = first tests; len = 0 }) × (after ≡ part)
  pub answer : first tests ≡ 0 → given ≡ record { refusal = 0; len = length line }
  -- the first `len` bytes are the line, and "A written line leaves the rest of its part untouched."
  pub line_laid : first tests ≡ 0 → take given.len after ≡ line
  pub rest_kept : first tests ≡ 0 → drop given.len after ≡ drop given.len part

pub record LinesLawful : Type 0 where
  pub write_deal_is : (n t row c : ℕ) (part : List ℕ)
      → WriteLawful (write_deal_table n t row c (length part)) (text (deal row c)) part
      (written_as (write_deal_refusal n t row c (length part)) (text (deal row c)))
      (part_as (write_deal_refusal n t row c (length part)) (text (deal row c)) part)
  pub write_opening_is : (n t points row post : ℕ) (xs part : List ℕ)
      → WriteLawful (write_opening_table n t points row post xs (length part)) (text (opening row post xs)) part
      (written_as (write_opening_refusal n t points row post xs (length part)) (text (opening row post xs)))
      (part_as (write_opening_refusal n t points row post xs (length part)) (text (opening row post xs)) part)
  pub write_masks_is : (n t points row post : ℕ) (xs part : List ℕ)
      → WriteLawful (write_masks_table n t points row post xs (length part)) (text (masks row post xs)) part
      (written_as (write_masks_refusal n t points row post xs (length part)) (text (masks row post xs)))
      (part_as (write_masks_refusal n t points row post xs (length part)) (text (masks row post xs)) part)
  -- letter, row and post, or the refusal and zeros
  pub read_answer : (n t points : ℕ) (s out : List ℕ)
      → Keeps {A = Line} (read_table n t points s out)
      (record { refusal = 0; letter = (message (v_length (shape n t points)) s).letter; row = (message (v_length (shape n t points)) s).row; post = (message (v_length (shape n t points)) s).post })
      (record { refusal = first (read_table n t points s out); letter = 0; row = 0; post = 0 }) (line_as (read_refusal n t points s out) (message (v_length (shape n t points)) s))
  -- "from its start; the places behind are set to 0", or the list as it came
  pub read_list : (n t points : ℕ) (s out : List ℕ)
      → (let numbers = (message (v_length (shape n t points)) s).numbers in
      Keeps (read_table n t points s out) (numbers ++ replicate (length out - length numbers) 0) out
      (list_as (read_refusal n t points s out) (message (v_length (shape n t points)) s) out))

-- ---- demand 2
-- The bytes that a writer with this refusal laid for m, read into a list as long as masks: the reader says m again.
abbrev pub ReadBack : ℕ → ℕ → ℕ → ℕ → Message → List ℕ → List ℕ → Type 0
ReadBack n t points refusal m part out =
    let s = take (written_as refusal (text m)).len (part_as refusal (text m) part) in
    refusal ≡ 0 → length out ≡ masks_length (shape n t points)
    → (line_as (read_refusal n t points s out) (message (v_length (shape n t points)) s) ≡ line_as 0 m)
    × (list_as (read_refusal n t points s out) (message (v_length (shape n t points)) s) out ≡ list_as 0 m out)

pub record WritersReadBack : Type 0 where
  -- a `D` does not depend on the number of points: only its reader takes it
  pub deal_back : (n t points row c : ℕ) (part out : List ℕ) → outside 1 2 points ≡ false → ReadBack n t points (write_deal_refusal n t row c (length part)) (deal row c) part out
  pub opening_back : (n t points row post : ℕ) (xs part out : List ℕ)
      → ReadBack n t points (write_opening_refusal n t points row post xs (length part)) (opening row post xs) part out
  pub masks_back : (n t points row post : ℕ) (xs part out : List ℕ)
      → ReadBack n t points (write_masks_refusal n t points row post xs (length part)) (masks row post xs) part out

-- Every line that the reader takes is the one that the writer makes of what it says, where its part has room.
abbrev pub ReaderToWriter : Type 0
ReaderToWriter =
    (n t points : ℕ) (s out : List ℕ) → read_refusal n t points s out ≡ 0
    → (s ≡ text (message (v_length (shape n t points)) s)) × (write_refusal n t points (message (v_length (shape n t points)) s) (length s) ≡ 0)
