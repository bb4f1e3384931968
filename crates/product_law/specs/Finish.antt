-- Document 01, "Calls on a session", Finish: "Takes a triple marked 5, 4, 4 and two records, opens y = a − l and y' = b − l' as
-- above, and writes l'' + y l' + y' l + y y' into the third row (y y' is added to m1..mn only). Marks become 6, 6, 2." Document 02,
-- (viii), makes two calls of it, `collect` and `multiply`; its definition stays for the law in Claims.antt.
use Rattle.std.specs.Prelude.{ℕ, ◌+◌, List, [], ◌∷◌, ◌++◌}
use Rattle.refusal.specs.Refusal.{Test, ◌when◌, first, outcome}
use Rattle.refusal.specs.Conditions.{any_beyond}
use Rattle.session.specs.declared.Session.{Session}
use Rattle.session.specs.declared.Answer.{Answer}
use Rattle.session.specs.Sessions.{factor_a_of, factor_b_of, finished_triple, answer}
use Rattle.session.specs.Rows.{width, row_at}
use Rattle.session.specs.Checks.{frame_tests}
use Rattle.opening.specs.Walking.{bad_record, opened}
use Rattle.product_masks.specs.Masks.{mask_numbers}
use Rattle.collect.specs.Collect.{mask_a, mask_b, finish_place, finish_marks, unopened}
use Rattle.multiply.specs.Multiply.{with_product}

-- 8 of the factor rows, the triple and both records.
abbrev pub finish_numbers : Session → List ℕ → ℕ → ℕ → ℕ → List ℕ → List ℕ → List Test
finish_numbers s rows a b r blocks_a blocks_b =
    mask_numbers s rows a b r
    ++ (8 when any_beyond (row_at (width s) rows (r + 2)) ∷ 8 when bad_record s blocks_a ∷ 8 when bad_record s blocks_b ∷ [])

-- 7 and 8
abbrev pub finish_own : Session → List ℕ → ℕ → List ℕ → List ℕ → List Test
finish_own s rows r blocks_a blocks_b =
    finish_marks s (factor_a_of s r) (factor_b_of s r) r ++ finish_numbers s rows (factor_a_of s r) (factor_b_of s r) r blocks_a blocks_b

-- 1 to 8
abbrev pub finish_checks_of : Session → List ℕ → ℕ → List ℕ → List ℕ → List Test
finish_checks_of s rows r blocks_a blocks_b = frame_tests s rows ++ finish_place s r blocks_a blocks_b ++ finish_own s rows r blocks_a blocks_b

-- All: 9 and 13 last.
abbrev pub finish_tests : Session → List ℕ → ℕ → List ℕ → List ℕ → List Test
finish_tests s rows r blocks_a blocks_b =
    finish_checks_of s rows r blocks_a blocks_b ++ unopened s (mask_a s rows r) (mask_b s rows r) blocks_a blocks_b

unfoldable pub finish_refusal : Session → List ℕ → ℕ → List ℕ → List ℕ → ℕ
finish_refusal s rows r blocks_a blocks_b = first (finish_tests s rows r blocks_a blocks_b)

abbrev pub finish_answer : Session → List ℕ → ℕ → List ℕ → List ℕ → Answer
finish_answer s rows r blocks_a blocks_b =
    answer (finish_refusal s rows r blocks_a blocks_b) 0 (finished_triple s r) s

abbrev pub finish_rows : Session → List ℕ → ℕ → List ℕ → List ℕ → List ℕ
finish_rows s rows r blocks_a blocks_b =
    outcome (finish_refusal s rows r blocks_a blocks_b)
    (with_product s (opened s (mask_a s rows r) blocks_a) (opened s (mask_b s rows r) blocks_b) r rows)
    rows
