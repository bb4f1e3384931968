-- Document 02, (v): "One call makes the masks of all product terms". "Masks and records follow one another by product term, those
-- of a − l first." Each product term's masks are those of a single product.
use Rattle.std.specs.Prelude.{ℕ, ◌*◌, List, [], ◌∷◌, ◌++◌}
use Rattle.shape.specs.declared.Shape.{Shape}
use Rattle.shape.specs.Marks.{unused}
use Rattle.shape.specs.Lengths.{masks_length}
use Rattle.refusal.specs.Refusal.{Test, ◌when◌, first, outcome}
use Rattle.refusal.specs.Conditions.{wrong_length, beyond}
use Rattle.session.specs.declared.Session.{Session}
use Rattle.session.specs.declared.Answer.{Answer}
use Rattle.session.specs.Sessions.{shape_of, masked_triple, answer}
use Rattle.session.specs.Rows.{width}
use Rattle.session.specs.Checks.{frame_tests}
use Rattle.product_masks.specs.Masks.{factor_numbers_of, both_masks}
use Rattle.terms.specs.declared.Term.{Term}
use Rattle.terms.specs.declared.Terms.{Terms}
use Rattle.terms.specs.Listed.{plain, terms_of, factors_of}
use Rattle.relation.specs.Tests.{each, by_kind, bad_count, place_tests, mark_tests, named_twice_of}

-- 5, by the product terms of the whole list, and 14.
abbrev pub masks_sizes : Session → Terms → List ℕ → List Test
masks_sizes s all out = 5 when wrong_length out (all.products * masks_length (shape_of s)) ∷ 14 when bad_count all.count ∷ []

-- 7
abbrev pub masks_marks : Session → Terms → List Test
masks_marks s all = each (mark_tests s unused) (terms_of all) ++ (7 when named_twice_of (factors_of all) ∷ [])

-- 8, of a term's coefficient and, in rows of w numbers, of a product term's rows and of l and l'. The row of a plain term is not read.
abbrev pub mask_number_tests : ℕ → List ℕ → Term → List Test
mask_number_tests w rows t =
    8 when beyond t.coefficient ∷ by_kind (plain t) [] (factor_numbers_of w rows t.row t.second t.first)

-- 6 to 8
abbrev pub masks_own : Session → List ℕ → Terms → List Test
masks_own s rows all =
    each place_tests (terms_of all) ++ (masks_marks s all ++ each (mask_number_tests (width s) rows) (terms_of all))

abbrev pub relation_masks_tests : Session → List ℕ → Terms → List ℕ → List Test
relation_masks_tests s rows all out = frame_tests s rows ++ (masks_sizes s all out ++ masks_own s rows all)

unfoldable pub relation_masks_refusal : Session → List ℕ → Terms → List ℕ → ℕ
relation_masks_refusal s rows all out = first (relation_masks_tests s rows all out)

-- The session once the masks of all product terms were sent: each triple remembers its term's rows.
unfoldable pub masked_terms : Session → List Term → Session
masked_terms s [] = s
masked_terms s (t ∷ ts) = masked_terms (masked_triple s t.first t.row t.second) ts

-- The masks of the product terms, one term after the other.
unfoldable pub term_masks : Shape → List ℕ → List Term → List ℕ
term_masks g rows [] = []
term_masks g rows (t ∷ ts) = both_masks g rows t.row t.second t.first ++ term_masks g rows ts

abbrev pub relation_masks_answer : Session → List ℕ → Terms → List ℕ → Answer
relation_masks_answer s rows all out = answer (relation_masks_refusal s rows all out) 0 (masked_terms s (factors_of all)) s

abbrev pub relation_masks_out : Session → List ℕ → Terms → List ℕ → List ℕ
relation_masks_out s rows all out = outcome (relation_masks_refusal s rows all out) (term_masks (shape_of s) rows (factors_of all)) out
