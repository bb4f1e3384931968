-- Document 02, (viii), the first call: "The first call opens y and y' and remembers them; the triple's first row then has mark 7." It
-- takes a triple marked 5, 4, 4 and two records, as a finish did; "A first call on mark 7 gets refusal 7." What it shares with the old
-- finish has that call's name.
use Rattle.std.specs.Prelude.{ℕ, ◌+◌, Result, Ok, Err, List, [], ◌∷◌, ◌++◌}
use Rattle.shape.specs.Marks.{masked}
use Rattle.refusal.specs.Refusal.{Test, ◌when◌, first, outcome}
use Rattle.refusal.specs.Conditions.{wrong_length}
use Rattle.refusal.specs.declared.Refusal.{Refusal}
use Rattle.refusal.specs.Numbers.{number}
use Rattle.session.specs.declared.Session.{Session}
use Rattle.session.specs.declared.Answer.{Answer}
use Rattle.session.specs.Sessions.{shape_of, factor_a_of, factor_b_of, collected_triple, answer}
use Rattle.session.specs.Checks.{frame_tests, no_row, no_triple}
use Rattle.opening.specs.Walking.{record_length, bad_record, too_few_of, disagree, opened}
use Rattle.product_masks.specs.Masks.{mask_row, triple_marks_of, mask_numbers}
use Rattle.collect.specs.declared.Numbers.{Numbers}

-- The rows that are opened: a − l and b − l', with the factor rows that the masks remembered.
abbrev pub mask_a : Session → List ℕ → ℕ → List ℕ
mask_a s rows r = mask_row (shape_of s) rows (factor_a_of s r) r

abbrev pub mask_b : Session → List ℕ → ℕ → List ℕ
mask_b s rows r = mask_row (shape_of s) rows (factor_b_of s r) (r + 1)

-- 5 of the two records, and 6.
abbrev pub finish_place : Session → ℕ → List ℕ → List ℕ → List Test
finish_place s r blocks_a blocks_b =
    5 when wrong_length blocks_a (record_length s) ∷ 5 when wrong_length blocks_b (record_length s) ∷ 6 when no_triple r ∷ []

-- 7: a remembered row above 95 gets it, as one that is not held does.
abbrev pub finish_marks : Session → ℕ → ℕ → ℕ → List Test
finish_marks s a b r = (7 when no_row a ∷ 7 when no_row b ∷ []) ++ triple_marks_of s a b r masked

-- 9, then 13, "in either record of a finish, after 9", for the rows x and x' that are opened.
abbrev pub unopened : Session → List ℕ → List ℕ → List ℕ → List ℕ → List Test
unopened s x x' blocks_a blocks_b =
    9 when too_few_of s x blocks_a ∷ 9 when too_few_of s x' blocks_b ∷ 13 when disagree s x blocks_a ∷ 13 when disagree s x' blocks_b ∷ []

-- Two numbers opened, or the refusal with 0 for both; and how the code has it.
pub record OpenedMasks : Type 0 where
  pub refusal : ℕ
  pub y_a : ℕ
  pub y_b : ℕ

abbrev pub shown : Result Numbers Refusal → OpenedMasks
shown (Ok y) = record { refusal = 0; y_a = y.y_a; y_b = y.y_b }
shown (Err r) = record { refusal = number r; y_a = 0; y_b = 0 }

abbrev pub found : ℕ → ℕ → ℕ → OpenedMasks
found refusal y_a_of y_b_of =
    outcome refusal (record { refusal = 0; y_a = y_a_of; y_b = y_b_of }) (record { refusal = refusal; y_a = 0; y_b = 0 })

-- The rows x and x', opened with their records, or 9, or 13.
abbrev pub opened_both : Session → List ℕ → List ℕ → List ℕ → List ℕ → OpenedMasks
opened_both s x x' blocks_a blocks_b = found (first (unopened s x x' blocks_a blocks_b)) (opened s x blocks_a) (opened s x' blocks_b)

-- y and y'
abbrev pub number_a : Session → List ℕ → ℕ → List ℕ → ℕ
number_a s rows r blocks_a = opened s (mask_a s rows r) blocks_a

abbrev pub number_b : Session → List ℕ → ℕ → List ℕ → ℕ
number_b s rows r blocks_b = opened s (mask_b s rows r) blocks_b

-- 8 of the factor rows, of l and l', and of both records. l'' is not read.
abbrev pub collect_numbers_of : Session → List ℕ → ℕ → ℕ → ℕ → List ℕ → List ℕ → List Test
collect_numbers_of s rows a b r blocks_a blocks_b = mask_numbers s rows a b r ++ (8 when bad_record s blocks_a ∷ 8 when bad_record s blocks_b ∷ [])

-- 7 and 8
abbrev pub collect_own_of : Session → List ℕ → ℕ → List ℕ → List ℕ → List Test
collect_own_of s rows r blocks_a blocks_b =
    finish_marks s (factor_a_of s r) (factor_b_of s r) r ++ collect_numbers_of s rows (factor_a_of s r) (factor_b_of s r) r blocks_a blocks_b

-- 1 to 8
abbrev pub collect_checks_of : Session → List ℕ → ℕ → List ℕ → List ℕ → List Test
collect_checks_of s rows r blocks_a blocks_b = frame_tests s rows ++ finish_place s r blocks_a blocks_b ++ collect_own_of s rows r blocks_a blocks_b

abbrev pub collect_tests : Session → List ℕ → ℕ → List ℕ → List ℕ → List Test
collect_tests s rows r blocks_a blocks_b =
    collect_checks_of s rows r blocks_a blocks_b ++ unopened s (mask_a s rows r) (mask_b s rows r) blocks_a blocks_b

unfoldable pub collect_refusal : Session → List ℕ → ℕ → List ℕ → List ℕ → ℕ
collect_refusal s rows r blocks_a blocks_b = first (collect_tests s rows r blocks_a blocks_b)

-- y and y', or the refusal with 0 for both.
abbrev pub opened_masks : Session → List ℕ → ℕ → List ℕ → List ℕ → OpenedMasks
opened_masks s rows r blocks_a blocks_b =
    found (collect_refusal s rows r blocks_a blocks_b) (number_a s rows r blocks_a) (number_b s rows r blocks_b)

-- No row is written.
abbrev pub collect_answer : Session → List ℕ → ℕ → List ℕ → List ℕ → Answer
collect_answer s rows r blocks_a blocks_b =
    answer (collect_refusal s rows r blocks_a blocks_b) 0 (collected_triple s r (number_a s rows r blocks_a) (number_b s rows r blocks_b)) s
