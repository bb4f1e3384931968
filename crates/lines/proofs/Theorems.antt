-- Demand 1 for lines: refusal 0 exactly when no condition of document 01's table applies, otherwise the smallest number that
-- does; nothing is then written or filled. And where a written line stands.
use Prim.Native.Nat.{ℕ, ◌+◌}
use mathlib.Core.Path.{◌≡◌, refl, sym, ◌∙◌, ap, subst}
use mathlib.Core.List.{List}
use native.Mathlib.Nat.{zero-add}
use native.Mathlib.Omega.{arith}
use lib.ListN.{length, take, drop}
use lib.Seq.{take_at, drop_at}
use Rattle.shape.specs.Lengths.{shape, v_length}
use Rattle.refusal.specs.Refusal.{Test, first, outcome, Ordered}
use Rattle.refusal.proofs.Decided.{decides, keeps}
use Rattle.csv_fields.specs.Fields.{overwrite, padded}
use Rattle.forms.specs.Lines.{deal, opening, masks, text}
use Rattle.forms.specs.Forms.{message}
use Rattle.lines.specs.declared.Written.{Written}
use Rattle.lines.specs.declared.Line.{Line}
use Rattle.lines.specs.Order.{line_refusal}
use Rattle.lines.specs.Writing.{not_written_of, written_as, part_as}
use Rattle.lines.specs.Reading.{no_line_of}
use Rattle.lines.specs.Table.{write_opening_table, write_masks_table, read_table}
use Rattle.lines.specs.Claims.{WriteLawful, LinesLawful}
use Rattle.lines.proofs.Tables.{line_tables}

-- a line that is not refused: it stands at the start, with the rest of the part behind it
module _ (refusal : ℕ) (line part : List ℕ) (e : refusal ≡ 0) where
  pub line_laid : take (written_as refusal line).len (part_as refusal line part) ≡ line
  unfolding outcome
  line_laid = rw e (take_at line (drop (0 + length line) part) (length line) refl)

  rest_kept : drop (written_as refusal line).len (part_as refusal line part) ≡ drop (written_as refusal line).len part
  unfolding outcome
  rest_kept =
      rw e (drop_at line (drop (0 + length line) part) (length line) refl ∙ ap (λ (k : ℕ). drop k part) (zero-add (length line)))

write_lawful : (tests : List Test) → Ordered 1 tests → (line part : List ℕ)
    → WriteLawful tests line part (written_as (first tests) line) (part_as (first tests) line part)
write_lawful tests o line part =
    let answer = keeps Written 1 tests o (record { refusal = 0; len = length line }) (not_written_of (first tests)) in
    let bytes = keeps (List ℕ) 1 tests o (overwrite 0 line part) part in
    record {
      refusal = decides 1 tests o;
      untouched = λ h. (answer.untouched h, bytes.untouched h);
      answer = answer.done;
      line_laid = line_laid (first tests) line part;
      rest_kept = rest_kept (first tests) line part;
    }

-- the same, of a writer whose own tests are those of a table
write_lawful_by : {tests table : List Test} → tests ≡ table → Ordered 1 table → (line part : List ℕ)
    → WriteLawful table line part (written_as (first tests) line) (part_as (first tests) line part)
write_lawful_by {tests} {table} e o line part =
    subst (λ (own : List Test). WriteLawful table line part (written_as (first own) line) (part_as (first own) line part)) (sym e)
    (write_lawful table o line part)

pub lines_lawful : LinesLawful
unfolding line_refusal
lines_lawful = record {
  write_deal_is = λ n t row c part.
      write_lawful_by (line_tables.write_deal_is n t row c (length part)) (omega arith) (text (deal row c)) part;
  write_opening_is = λ n t points row post xs part.
      write_lawful (write_opening_table n t points row post xs (length part)) (omega arith) (text (opening row post xs)) part;
  write_masks_is = λ n t points row post xs part.
      write_lawful (write_masks_table n t points row post xs (length part)) (omega arith) (text (masks row post xs)) part;
  read_answer = λ n t points s out.
      let m = message (v_length (shape n t points)) s in
      keeps Line 1 (read_table n t points s out) (omega arith) (record { refusal = 0; letter = m.letter; row = m.row; post = m.post })
      (no_line_of (first (read_table n t points s out)));
  read_list = λ n t points s out.
      keeps (List ℕ) 1 (read_table n t points s out) (omega arith) (padded (length out) (message (v_length (shape n t points)) s).numbers) out;
}
