-- Reading a line: which refusal, and what a call leaves.
use Rattle.std.specs.Prelude.{ℕ, List, ◌∷◌, Bool, cond, length}
use Rattle.field.specs.Modulus.{p}
use Rattle.shape.specs.Lengths.{shape, v_length, masks_length}
use Rattle.refusal.specs.Refusal.{◌when◌, outcome}
use Rattle.refusal.specs.Conditions.{wrong_length, station_tests}
use Rattle.csv_fields.specs.Fields.{padded}
use Rattle.forms.specs.Lines.{Message}
use Rattle.forms.specs.Forms.{line_tests}
use Rattle.lines.specs.declared.Line.{Line}
use Rattle.lines.specs.Order.{line_refusal}

abbrev pub read_refusal : ℕ → ℕ → ℕ → List ℕ → List ℕ → ℕ
read_refusal n t points s out =
    line_refusal (station_tests n t points) (5 when wrong_length out (masks_length (shape n t points)) ∷ line_tests n (v_length (shape n t points)) s)

abbrev pub no_line_of : ℕ → Line
no_line_of refusal = record { refusal = refusal; letter = 0; row = 0; post = 0 }

-- What a line's numbers stay below: p, or 0 where its row or post is out of range.
abbrev pub limit_of_of : Bool → ℕ
limit_of_of misplaced = cond misplaced 0 p

-- The answer: letter, row and post, or the refusal and zeros.
abbrev pub line_as : ℕ → Message → Line
line_as refusal m = outcome refusal (record { refusal = 0; letter = m.letter; row = m.row; post = m.post }) (no_line_of refusal)

-- The list: "from its start; the places behind are set to 0", or as it was.
abbrev pub list_as : ℕ → Message → List ℕ → List ℕ
list_as refusal m out = outcome refusal (padded (length out) m.numbers) out
