-- Document 02, (viii), the second call: "The second takes only the triple and writes the product. The session remembers the two numbers
-- for each row, 0 when new and kept after the product; one at least p gets 8. ... After both calls the triple's rows are those the old
-- finish left, and its marks 6, 6, 2." It takes a triple marked 7, 4, 4. It reads neither factor row.
use Rattle.std.specs.Prelude.{ℕ, ◌+◌, List, [], ◌∷◌, ◌++◌}
use Rattle.field.specs.Arithmetic.{product}
use Rattle.shape.specs.Marks.{held, further, collected}
use Rattle.refusal.specs.Refusal.{Test, ◌when◌, first, outcome}
use Rattle.refusal.specs.Conditions.{beyond, any_beyond}
use Rattle.session.specs.declared.Session.{Session}
use Rattle.session.specs.declared.Answer.{Answer}
use Rattle.session.specs.Sessions.{factor_a_of, factor_b_of, opened_a_of, opened_b_of, finished_triple, answer}
use Rattle.session.specs.Rows.{width, sums_at_of, row_at, with_row, summed}
use Rattle.session.specs.Checks.{frame_tests, no_triple, wrong_mark_in, wrong_marks_of}

-- 8 of two remembered numbers and of l, l' and l'', in a list of rows of w numbers.
abbrev pub remembered_numbers_of : ℕ → List ℕ → ℕ → ℕ → ℕ → List Test
remembered_numbers_of w rows r y_a_of y_b_of =
    8 when beyond y_a_of
    ∷ 8 when beyond y_b_of
    ∷ 8 when any_beyond (row_at w rows r)
    ∷ 8 when any_beyond (row_at w rows (r + 1))
    ∷ 8 when any_beyond (row_at w rows (r + 2))
    ∷ []

-- Document 02, (xi): "a finish's second call gives 7 unless they are held", the factor rows.
abbrev pub factor_marks : List ℕ → ℕ → ℕ → List Test
factor_marks marks a b = 7 when wrong_mark_in marks a held ∷ 7 when wrong_mark_in marks b held ∷ []

-- 7
abbrev pub multiply_marks_of : Session → ℕ → List Test
multiply_marks_of s r = wrong_marks_of s.marks r collected further further ++ factor_marks s.marks (factor_a_of s r) (factor_b_of s r)

-- 7 and 8
abbrev pub multiply_own_of : Session → List ℕ → ℕ → List Test
multiply_own_of s rows r =
    multiply_marks_of s r ++ remembered_numbers_of (width s) rows r (opened_a_of s r) (opened_b_of s r)

abbrev pub multiply_tests : Session → List ℕ → ℕ → List Test
multiply_tests s rows r = frame_tests s rows ++ (6 when no_triple r ∷ []) ++ multiply_own_of s rows r

unfoldable pub multiply_refusal_of : Session → List ℕ → ℕ → ℕ
multiply_refusal_of s rows r = first (multiply_tests s rows r)

-- "l'' + y l' + y' l + y y'", by the sum of rows that linear writes: y y' is the fee of its second use (document
-- 02, (i): "The last step of a product uses the same sum of rows").
unfoldable pub product_row : Session → ℕ → ℕ → List ℕ → List ℕ → List ℕ → List ℕ
product_row s y_a_of y_b_of l l' l'' = summed (sums_at_of s) y_b_of (product y_a_of y_b_of) (summed (sums_at_of s) y_a_of 0 l'' l') l

-- The product of the triple at r, written into its third row, from y and y'.
unfoldable pub with_product : Session → ℕ → ℕ → ℕ → List ℕ → List ℕ
with_product s y_a_of y_b_of r rows =
    with_row (width s) (r + 2)
    (product_row s y_a_of y_b_of (row_at (width s) rows r) (row_at (width s) rows (r + 1)) (row_at (width s) rows (r + 2)))
    rows

-- The two numbers stay: `finished_triple` changes marks and the third row's set alone.
abbrev pub multiply_answer : Session → List ℕ → ℕ → Answer
multiply_answer s rows r = answer (multiply_refusal_of s rows r) 0 (finished_triple s r) s

abbrev pub multiply_rows_of : Session → List ℕ → ℕ → List ℕ
multiply_rows_of s rows r = outcome (multiply_refusal_of s rows r) (with_product s (opened_a_of s r) (opened_b_of s r) r rows) rows
