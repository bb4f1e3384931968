-- Document 01, "Calls on a session", Masks: "For held a and b (perhaps the same) and an unused triple (marks 3, 4, 4): the
-- polynomials of a − l and of b − l'. The triple's first mark becomes 5, and a and b are remembered."
use Rattle.std.specs.Prelude.{ℕ, ◌+◌, ◌-◌, List, [], ◌∷◌, ◌++◌}
use Rattle.field.specs.Modulus.{p}
use Rattle.shape.specs.declared.Shape.{Shape}
use Rattle.shape.specs.Marks.{held, unused, further}
use Rattle.shape.specs.Lengths.{row_length, masks_length}
use Rattle.shape.specs.Row.{coefficients}
use Rattle.refusal.specs.Refusal.{Test, ◌when◌, first, outcome}
use Rattle.refusal.specs.Conditions.{wrong_length, any_beyond}
use Rattle.session.specs.declared.Session.{Session}
use Rattle.session.specs.declared.Answer.{Answer}
use Rattle.session.specs.Sessions.{shape_of, masked_triple, answer}
use Rattle.session.specs.Rows.{width, row_at, combined}
use Rattle.session.specs.Checks.{frame_tests, no_row, no_triple, wrong_mark_of, wrong_marks_of}

-- A row less another, element by element: −1 is p − 1.
abbrev pub less : List ℕ → List ℕ → List ℕ
less x y = combined (p - 1) x y

-- A factor row less a row of the triple.
abbrev pub mask_row : Shape → List ℕ → ℕ → ℕ → List ℕ
mask_row g rows factor r = less (row_at (row_length g) rows factor) (row_at (row_length g) rows r)

-- 7 of the factor rows and of a triple whose first row has mark m.
abbrev pub triple_marks_of : Session → ℕ → ℕ → ℕ → ℕ → List Test
triple_marks_of s a b r m =
    7 when wrong_mark_of s a held ∷ 7 when wrong_mark_of s b held ∷ wrong_marks_of s.marks r m further further

-- 8 of the factor rows and of l and l', in a list of rows of w numbers.
abbrev pub factor_numbers_of : ℕ → List ℕ → ℕ → ℕ → ℕ → List Test
factor_numbers_of w rows a b r =
    8 when any_beyond (row_at w rows a)
    ∷ 8 when any_beyond (row_at w rows b)
    ∷ 8 when any_beyond (row_at w rows r)
    ∷ 8 when any_beyond (row_at w rows (r + 1))
    ∷ []

abbrev pub mask_numbers : Session → List ℕ → ℕ → ℕ → ℕ → List Test
mask_numbers s rows a b r = factor_numbers_of (width s) rows a b r

-- 5 of the lent list, which the masks fill with 2(t+1) numbers, and 6.
abbrev pub masks_place_of : Session → ℕ → ℕ → ℕ → List ℕ → List Test
masks_place_of s a b r out =
    5 when wrong_length out (masks_length (shape_of s)) ∷ 6 when no_row a ∷ 6 when no_row b ∷ 6 when no_triple r ∷ []

-- l'' is not read.
abbrev pub masks_tests : Session → List ℕ → ℕ → ℕ → ℕ → List ℕ → List Test
masks_tests s rows a b r out =
    frame_tests s rows ++ masks_place_of s a b r out ++ triple_marks_of s a b r unused ++ mask_numbers s rows a b r

unfoldable pub masks_refusal_of : Session → List ℕ → ℕ → ℕ → ℕ → List ℕ → ℕ
masks_refusal_of s rows a b r out = first (masks_tests s rows a b r out)

abbrev pub masks_answer : Session → List ℕ → ℕ → ℕ → ℕ → List ℕ → Answer
masks_answer s rows a b r out = answer (masks_refusal_of s rows a b r out) 0 (masked_triple s r a b) s

-- the coefficients of a − l, then of b − l'
abbrev pub both_masks : Shape → List ℕ → ℕ → ℕ → ℕ → List ℕ
both_masks g rows a b r = coefficients g (mask_row g rows a r) ++ coefficients g (mask_row g rows b (r + 1))

unfoldable pub mask_numbers_of : Session → List ℕ → ℕ → ℕ → ℕ → List ℕ
mask_numbers_of s rows a b r = both_masks (shape_of s) rows a b r

abbrev pub masks_out_of : Session → List ℕ → ℕ → ℕ → ℕ → List ℕ → List ℕ
masks_out_of s rows a b r out = outcome (masks_refusal_of s rows a b r out) (mask_numbers_of s rows a b r) out
