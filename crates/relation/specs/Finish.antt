-- Document 02, (v): "another finishes them and stores the sum in an empty row". Every check comes before the first write. Each product
-- term is finished as the pair of calls finishes a single product (document 02, (viii): "the relations, use the pair"); then the sum's
-- row, cleared, gets each term's coefficient times its row.
use Rattle.std.specs.Prelude.{ℕ, zero, suc, ◌+◌, ◌*◌, not, List, [], ◌∷◌, ◌++◌, eqb, replicate}
use Rattle.shape.specs.Marks.{empty, masked}
use Rattle.refusal.specs.Refusal.{Test, ◌when◌, first, outcome}
use Rattle.refusal.specs.Conditions.{wrong_length, beyond, any_beyond}
use Rattle.session.specs.declared.Session.{Session}
use Rattle.session.specs.declared.Answer.{Answer}
use Rattle.session.specs.Sessions.{shape_of, factor_a_of, factor_b_of, summed_row, collected_triple, finished_triple, answer}
use Rattle.session.specs.Rows.{width, sums_at_of, row_at, with_row, summed}
use Rattle.session.specs.Checks.{frame_tests, no_row, wrong_mark_of}
use Rattle.opening.specs.Walking.{record_length, bad_record, too_few_of, disagree, opened}
use Rattle.product_masks.specs.Masks.{mask_row, factor_numbers_of}
use Rattle.multiply.specs.Multiply.{with_product}
use Rattle.terms.specs.declared.Term.{Term}
use Rattle.terms.specs.declared.Terms.{Terms}
use Rattle.terms.specs.Listed.{plain, terms_of, factors_of}
use Rattle.relation.specs.Tests.{each_at_of, each, by_kind, bad_count, place_tests, mark_tests, named_twice_of}

-- "Masks and records follow one another by product term, those of a − l first": the j-th record of the lent list, from 0 on.
abbrev pub record_at : Session → List ℕ → ℕ → List ℕ
record_at s blocks j = row_at (record_length s) blocks j

abbrev pub record_a_of : Session → List ℕ → ℕ → List ℕ
record_a_of s blocks k = record_at s blocks (2 * k)

abbrev pub record_b_of : Session → List ℕ → ℕ → List ℕ
record_b_of s blocks k = record_at s blocks (2 * k + 1)

-- The rows that are opened for a product term: a − l and b − l'.
abbrev pub term_mask_a : Session → List ℕ → Term → List ℕ
term_mask_a s rows t = mask_row (shape_of s) rows t.row t.first

abbrev pub term_mask_b : Session → List ℕ → Term → List ℕ
term_mask_b s rows t = mask_row (shape_of s) rows t.second (t.first + 1)

-- The numbers that they open to with the term's two records, which start at place k: y and y'.
abbrev pub term_number_a : Session → List ℕ → List ℕ → ℕ → Term → ℕ
term_number_a s rows blocks k t = opened s (term_mask_a s rows t) (record_a_of s blocks k)

abbrev pub term_number_b : Session → List ℕ → List ℕ → ℕ → Term → ℕ
term_number_b s rows blocks k t = opened s (term_mask_b s rows t) (record_b_of s blocks k)

-- 5, by the product terms of the whole list, and 14.
abbrev pub finish_sizes : Session → Terms → List ℕ → List Test
finish_sizes s all blocks = 5 when wrong_length blocks (all.products * (2 * record_length s)) ∷ 14 when bad_count all.count ∷ []

-- 6, the sum's row last.
abbrev pub finish_places : Terms → ℕ → List Test
finish_places all d = each place_tests (terms_of all) ++ (6 when no_row d ∷ [])

-- 7: "one that at the finish doesn't remember the term's rows in order"
abbrev pub remember_tests : Session → Term → List Test
remember_tests s t =
    7 when not (eqb (factor_a_of s t.first) t.row) ∷ 7 when not (eqb (factor_b_of s t.first) t.second) ∷ []

-- 7, the sum's row last: "an empty row"
abbrev pub finish_marks : Session → Terms → ℕ → List Test
finish_marks s all d =
    each (mark_tests s masked) (terms_of all)
    ++ (7 when named_twice_of (factors_of all) ∷ (each (remember_tests s) (factors_of all) ++ (7 when wrong_mark_of s d empty ∷ [])))

-- 8, of a term: its coefficient, its row or rows, and a product's triple, in rows of w numbers.
abbrev pub term_number_tests : ℕ → List ℕ → Term → List Test
term_number_tests w rows t =
    8 when beyond t.coefficient
    ∷ by_kind (plain t) (8 when any_beyond (row_at w rows t.row) ∷ [])
    (factor_numbers_of w rows t.row t.second t.first ++ (8 when any_beyond (row_at w rows (t.first + 2)) ∷ []))

-- 8, of the two records of the product term at place k.
abbrev pub record_pair : Session → List ℕ → ℕ → List Test
record_pair s blocks k = 8 when bad_record s (record_a_of s blocks k) ∷ 8 when bad_record s (record_b_of s blocks k) ∷ []

-- 8, of the records of m product terms, from place k on.
unfoldable pub record_tests : Session → List ℕ → ℕ → ℕ → List Test
record_tests s blocks k zero = []
record_tests s blocks k (suc m) = record_pair s blocks k ++ record_tests s blocks (suc k) m

abbrev pub finish_numbers : Session → List ℕ → Terms → List ℕ → List Test
finish_numbers s rows all blocks =
    each (term_number_tests (width s) rows) (terms_of all) ++ record_tests s blocks 0 all.products

-- 9, of the two records of the product term at place k.
abbrev pub few_tests : Session → List ℕ → List ℕ → ℕ → Term → List Test
few_tests s rows blocks k t =
    9 when too_few_of s (term_mask_a s rows t) (record_a_of s blocks k) ∷ 9 when too_few_of s (term_mask_b s rows t) (record_b_of s blocks k) ∷ []

-- 13, of the two records of the product term at place k.
abbrev pub off_tests : Session → List ℕ → List ℕ → ℕ → Term → List Test
off_tests s rows blocks k t =
    13 when disagree s (term_mask_a s rows t) (record_a_of s blocks k) ∷ 13 when disagree s (term_mask_b s rows t) (record_b_of s blocks k) ∷ []

-- 9 of every record of these product terms, from place k on, then 13 of every one: "in either record of a finish, after 9".
abbrev pub open_tests : Session → List ℕ → List ℕ → ℕ → List Term → List Test
open_tests s rows blocks k ts = each_at_of (few_tests s rows blocks) k ts ++ each_at_of (off_tests s rows blocks) k ts

-- 6 to 8
abbrev pub finish_own : Session → List ℕ → Terms → ℕ → List ℕ → List Test
finish_own s rows all d blocks = finish_places all d ++ (finish_marks s all d ++ finish_numbers s rows all blocks)

-- 1 to 8
abbrev pub relation_finish_checks : Session → List ℕ → Terms → ℕ → List ℕ → List Test
relation_finish_checks s rows all d blocks = frame_tests s rows ++ (finish_sizes s all blocks ++ finish_own s rows all d blocks)

abbrev pub relation_finish_tests : Session → List ℕ → Terms → ℕ → List ℕ → List Test
relation_finish_tests s rows all d blocks =
    relation_finish_checks s rows all d blocks ++ open_tests s rows blocks 0 (factors_of all)

unfoldable pub relation_finish_refusal : Session → List ℕ → Terms → ℕ → List ℕ → ℕ
relation_finish_refusal s rows all d blocks = first (relation_finish_tests s rows all d blocks)

-- The products of the product terms, from place k on, written into their triples' third rows: y and y' are opened from the rows as
-- they came, with the term's two records.
unfoldable pub with_products : Session → List ℕ → List ℕ → ℕ → List Term → List ℕ → List ℕ
with_products s rows blocks k [] now = now
with_products s rows blocks k (t ∷ ts) now =
    with_products s rows blocks (suc k) ts
    (with_product s (term_number_a s rows blocks k t) (term_number_b s rows blocks k t) t.first now)

-- The row with a term's number: its row, or the product in its triple's third row.
abbrev pub number_row_of : Term → ℕ
number_row_of t = by_kind (plain t) t.row (t.first + 2)

-- Row d plus a term's coefficient times its row, by the sum of rows that linear writes, for one term after the other.
abbrev pub plus_term : Session → ℕ → Term → List ℕ → List ℕ
plus_term s d t rows =
    with_row (width s) d (summed (sums_at_of s) t.coefficient 0 (row_at (width s) rows d) (row_at (width s) rows (number_row_of t))) rows

unfoldable pub plus_terms : Session → ℕ → List Term → List ℕ → List ℕ
plus_terms s d [] rows = rows
plus_terms s d (t ∷ ts) rows = plus_terms s d ts (plus_term s d t rows)

-- Row d with 0 in every place.
abbrev pub cleared : Session → ℕ → List ℕ → List ℕ
cleared s d rows = with_row (width s) d (replicate (width s) 0) rows

-- The sum of the terms, in the place of row d.
abbrev pub with_sum : Session → ℕ → List Term → List ℕ → List ℕ
with_sum s d ts rows = plus_terms s d ts (cleared s d rows)

-- A session whose triple at r was collected, with y and y', and then multiplied.
abbrev pub pair_done : Session → ℕ → ℕ → ℕ → Session
pair_done s r y y' = finished_triple (collected_triple s r y y') r

-- The pair of calls on each product term's triple, from place k on: y and y' are remembered, the marks become 6, 6, 2.
unfoldable pub finished_terms : Session → List ℕ → List ℕ → ℕ → List Term → Session → Session
finished_terms s rows blocks k [] now = now
finished_terms s rows blocks k (t ∷ ts) now =
    finished_terms s rows blocks (suc k) ts (pair_done now t.first (term_number_a s rows blocks k t) (term_number_b s rows blocks k t))

-- The rows of a sum's terms.
abbrev pub number_rows : List Term → List ℕ
number_rows [] = []
number_rows (t ∷ ts) = number_row_of t ∷ number_rows ts

-- The sum's row is held. Document 02, (xi): it has the posts that all rows of the terms share, a product those of its factor rows.
abbrev pub relation_done : Session → List ℕ → List ℕ → List Term → List Term → ℕ → Session
relation_done s rows blocks fs ts d = summed_row (finished_terms s rows blocks 0 fs s) d (number_rows ts)

abbrev pub relation_finish_answer : Session → List ℕ → Terms → ℕ → List ℕ → Answer
relation_finish_answer s rows all d blocks =
    answer (relation_finish_refusal s rows all d blocks) 0 (relation_done s rows blocks (factors_of all) (terms_of all) d) s

abbrev pub relation_finish_rows : Session → List ℕ → Terms → ℕ → List ℕ → List ℕ
relation_finish_rows s rows all d blocks =
    outcome (relation_finish_refusal s rows all d blocks)
    (with_sum s d (terms_of all) (with_products s rows blocks 0 (factors_of all) rows))
    rows
