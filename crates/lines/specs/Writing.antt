-- Writing a line: which refusal, and what a call leaves.
use Rattle.std.specs.Prelude.{cond, ℕ, List, [], ◌∷◌, length, get_or, eqb, ltb}
use Rattle.shape.specs.Bounds.{last_row_at}
use Rattle.shape.specs.Lengths.{shape, v_length, masks_length}
use Rattle.refusal.specs.Refusal.{Test, ◌when◌, outcome}
use Rattle.refusal.specs.Conditions.{wrong_length, beyond, any_beyond, posts_tests, party_tests}
use Rattle.csv_fields.specs.Fields.{written, overwrite}
use Rattle.forms.specs.Lines.{Message, deal, text, last_row_of}
use Rattle.lines.specs.declared.Written.{Written}
use Rattle.lines.specs.Order.{line_refusal}

-- 5, 6, 8 and 12 of a line with a post and `count` numbers.
abbrev pub posted_tests : ℕ → ℕ → ℕ → ℕ → List ℕ → ℕ → List Test
posted_tests letter count row post xs room =
    5 when wrong_length xs count
    ∷ 6 when ltb (last_row_of letter) row
    ∷ 8 when any_beyond xs
    ∷ 12 when ltb room (length (written letter (row ∷ post ∷ xs)))
    ∷ []

-- 6, 8 and 12 of a `D`.
abbrev pub dealt_tests : ℕ → ℕ → ℕ → List Test
dealt_tests row c room = 6 when ltb last_row_at row ∷ 8 when beyond c ∷ 12 when ltb room (length (text (deal row c))) ∷ []

abbrev pub write_deal_refusal : ℕ → ℕ → ℕ → ℕ → ℕ → ℕ
write_deal_refusal n t row c room = line_refusal (posts_tests n t) (dealt_tests row c room)

abbrev pub write_opening_refusal : ℕ → ℕ → ℕ → ℕ → ℕ → List ℕ → ℕ → ℕ
write_opening_refusal n t points row post xs room =
    line_refusal (party_tests n t post points) (posted_tests 79 (v_length (shape n t points)) row post xs room)

abbrev pub write_masks_refusal : ℕ → ℕ → ℕ → ℕ → ℕ → List ℕ → ℕ → ℕ
write_masks_refusal n t points row post xs room =
    line_refusal (party_tests n t post points) (posted_tests 77 (masks_length (shape n t points)) row post xs room)

-- The refusal of the call that writes a message, by its letter; a `D` does not depend on the number of points.
abbrev pub write_refusal : ℕ → ℕ → ℕ → Message → ℕ → ℕ
write_refusal n t points m room =
    cond (eqb m.letter 68) (write_deal_refusal n t m.row (get_or m.numbers 0 0) room)
    (cond (eqb m.letter 79) (write_opening_refusal n t points m.row m.post m.numbers room)
    (write_masks_refusal n t points m.row m.post m.numbers room))

abbrev pub not_written_of : ℕ → Written
not_written_of refusal = record { refusal = refusal; len = 0 }

-- The answer: the line's length, or the refusal and 0.
abbrev pub written_as : ℕ → List ℕ → Written
written_as refusal line = outcome refusal (record { refusal = 0; len = length line }) (not_written_of refusal)

-- The part: the line at its start and "the rest of its part untouched", or nothing written.
abbrev pub part_as : ℕ → List ℕ → List ℕ → List ℕ
part_as refusal line part = outcome refusal (overwrite 0 line part) part
