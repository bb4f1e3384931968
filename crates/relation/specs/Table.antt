-- Documents 01's table and 02's (v), line by line, for a relation's two calls on a lent list of terms: one flat list of numbered
-- tests for each, with the lines of a term for every term. proofs/Tables.antt shows that the calls' own tests, which go by what the
-- walk over the list hands on, give the same refusal. Bounds and marks are the documents' numbers.
use Rattle.std.specs.Prelude.{ℕ, ◌+◌, ◌*◌, ◌-◌, ◌≡◌, Bool, false, not, ◌||◌, ◌&&◌, List, [], ◌∷◌, ◌++◌, map, eqb, ltb, length}
use Rattle.refusal.specs.Refusal.{Test, ◌when◌, first}
use Rattle.refusal.specs.Conditions.{outside, wrong_length, any_beyond}
use Rattle.session.specs.declared.Session.{Session}
use Rattle.session.specs.Sessions.{factor_a_of, factor_b_of}
use Rattle.session.specs.Rows.{width, row_at}
use Rattle.session.specs.Checks.{wrong_mark_of}
use Rattle.opening.specs.Walking.{record_length, bad_record, too_few_of, disagree}
use Rattle.terms.specs.declared.Term.{Term}
use Rattle.terms.specs.Listed.{products_of, collected}
use Rattle.relation.specs.Tests.{each_at_of, each, by_kind}
use Rattle.relation.specs.Masks.{relation_masks_refusal}
use Rattle.relation.specs.Finish.{record_a_of, record_b_of, term_mask_a, term_mask_b, relation_finish_refusal}

-- whether a number stands twice in a list
unfoldable pub is_among : ℕ → List ℕ → Bool
is_among x [] = false
is_among x (y ∷ ys) = eqb y x || is_among x ys

unfoldable pub repeats : List ℕ → Bool
repeats [] = false
repeats (x ∷ xs) = is_among x xs || repeats xs

-- the triples that the product terms name, by their first rows
abbrev pub triples_of : List Term → List ℕ
triples_of ts = map (λ t. t.first) (products_of ts)

-- "a second row or 255 for none"
abbrev pub single : Term → Bool
single t = eqb t.second 255

-- a term's lines
abbrev pub sixes : Term → List Test
sixes t = 6 when ltb 95 t.row ∷ by_kind (single t) [] (6 when ltb 95 t.second ∷ 6 when ltb 93 t.first ∷ [])

-- with mark m on the triple's first row: 3 for masks, 5 for a finish
abbrev pub sevens : Session → ℕ → Term → List Test
sevens s m t =
    by_kind (single t) (7 when wrong_mark_of s t.row 2 ∷ [])
    (7 when wrong_mark_of s t.row 2
    ∷ 7 when wrong_mark_of s t.second 2
    ∷ 7 when wrong_mark_of s t.first m
    ∷ 7 when wrong_mark_of s (t.first + 1) 4
    ∷ 7 when wrong_mark_of s (t.first + 2) 4
    ∷ [])

abbrev pub relation_masks_table : Session → List ℕ → List Term → List ℕ → List Test
relation_masks_table s rows ts out =
    1 when outside 2 255 s.n
    ∷ 2 when outside 1 (s.n - 1) s.t
    ∷ 3 when outside 1 s.n s.post
    ∷ 4 when (outside 1 2 s.points || (outside 1 2147483646 s.first || (eqb s.points 2 && outside 1 2147483646 s.second)))
    ∷ 5 when wrong_length rows (96 * width s)
    ∷ 5 when wrong_length out (length (products_of ts) * (2 * (s.points * s.t + 1)))
    ∷ 14 when outside 1 32 (length ts)
    ∷ (each sixes ts
    ++ ((each (sevens s 3) ts ++ (7 when repeats (triples_of ts) ∷ []))
    ++ each
    (λ t. 8 when ltb 2147483646 t.coefficient
    ∷ by_kind (single t) []
    (8 when any_beyond (row_at (width s) rows t.row)
    ∷ 8 when any_beyond (row_at (width s) rows t.second)
    ∷ 8 when any_beyond (row_at (width s) rows t.first)
    ∷ 8 when any_beyond (row_at (width s) rows (t.first + 1))
    ∷ []))
    ts))

abbrev pub relation_finish_table : Session → List ℕ → List Term → ℕ → List ℕ → List Test
relation_finish_table s rows ts d blocks =
    1 when outside 2 255 s.n
    ∷ 2 when outside 1 (s.n - 1) s.t
    ∷ 3 when outside 1 s.n s.post
    ∷ 4 when (outside 1 2 s.points || (outside 1 2147483646 s.first || (eqb s.points 2 && outside 1 2147483646 s.second)))
    ∷ 5 when wrong_length rows (96 * width s)
    ∷ 5 when wrong_length blocks (length (products_of ts) * (2 * record_length s))
    ∷ 14 when outside 1 32 (length ts)
    ∷ (((each sixes ts ++ (6 when ltb 95 d ∷ []))
    ++ ((each (sevens s 5) ts
    ++ (7 when repeats (triples_of ts)
    ∷ (each (λ t. 7 when not (eqb (factor_a_of s t.first) t.row) ∷ 7 when not (eqb (factor_b_of s t.first) t.second) ∷ []) (products_of ts)
    ++ (7 when wrong_mark_of s d 0 ∷ []))))
    ++ (each
    (λ t. 8 when ltb 2147483646 t.coefficient
    ∷ by_kind (single t) (8 when any_beyond (row_at (width s) rows t.row) ∷ [])
    (8 when any_beyond (row_at (width s) rows t.row)
    ∷ 8 when any_beyond (row_at (width s) rows t.second)
    ∷ 8 when any_beyond (row_at (width s) rows t.first)
    ∷ 8 when any_beyond (row_at (width s) rows (t.first + 1))
    ∷ 8 when any_beyond (row_at (width s) rows (t.first + 2))
    ∷ []))
    ts
    ++ each_at_of (λ k t. 8 when bad_record s (record_a_of s blocks k) ∷ 8 when bad_record s (record_b_of s blocks k) ∷ []) 0 (products_of ts))))
    ++ (each_at_of
    (λ k t. 9 when too_few_of s (term_mask_a s rows t) (record_a_of s blocks k) ∷ 9 when too_few_of s (term_mask_b s rows t) (record_b_of s blocks k) ∷ [])
    0 (products_of ts)
    ++ each_at_of
    (λ k t. 13 when disagree s (term_mask_a s rows t) (record_a_of s blocks k) ∷ 13 when disagree s (term_mask_b s rows t) (record_b_of s blocks k) ∷ [])
    0 (products_of ts)))

-- The calls' refusals are those of these tables.
pub record RelationTables : Type 0 where
  pub masks : (s : Session) (rows : List ℕ) (ts : List Term) (out : List ℕ)
      → relation_masks_refusal s rows (collected ts) out ≡ first (relation_masks_table s rows ts out)
  pub finish : (s : Session) (rows : List ℕ) (ts : List Term) (d : ℕ) (blocks : List ℕ)
      → relation_finish_refusal s rows (collected ts) d blocks ≡ first (relation_finish_table s rows ts d blocks)
