-- "stores the sum in an empty row": the sum's row, from the rows as the products left them. Proved in proofs/Summing.antt.
use Rattle.std.specs.Prelude.{ℕ, ◌+◌, ◌*◌, ◌≤◌, ◌≡◌, ◌≢◌, cond, List, [], ◌∷◌, eqb, length, replicate}
use Rattle.poly.specs.Counting.{All}
use Rattle.session.specs.declared.Session.{Session}
use Rattle.session.specs.Rows.{width, sums_at_of, row_at, summed}
use Rattle.terms.specs.declared.Term.{Term}
use Rattle.relation.specs.Finish.{with_sum}

-- A term's row: its row, "or 255 for none", else the product in the third row of its triple.
abbrev pub row_of : Term → ℕ
row_of t = cond (eqb t.second 255) t.row (t.first + 2)

-- Each term's coefficient times its row, one after the other, behind what was added so far; no fee.
abbrev pub added : Session → List ℕ → List ℕ → List Term → List ℕ
added s rows so_far [] = so_far
added s rows so_far (t ∷ ts) = added s rows (summed (sums_at_of s) t.coefficient 0 so_far (row_at (width s) rows (row_of t))) ts

-- From 0 in every place on, and nothing but the terms.
abbrev pub SumOfTerms : Type 0
SumOfTerms =
    (s : Session) (d : ℕ) (ts : List Term) (rows : List ℕ) → length rows ≡ 96 * width s → d ≤ 95
    → All (λ t. (row_of t ≤ 95) × (row_of t ≢ d)) ts → row_at (width s) (with_sum s d ts rows) d ≡ added s rows (replicate (width s) 0) ts
