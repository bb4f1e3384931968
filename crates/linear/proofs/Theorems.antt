-- A linear call keeps to the law of every call, and changes no row but the one that it writes.
use Prim.Native.Nat.{ℕ, ◌<◌}
use mathlib.Core.Path.{◌≡◌}
use mathlib.Core.List.{List, [], ◌∷◌}
use native.Mathlib.Omega.{arith}
use Rattle.shape.specs.Bounds.{row_count_of}
use Rattle.session.specs.Sessions.{shape_of, summed_row}
use Rattle.session.specs.Rows.{width, sums_at_of, row_at, with_row, summed}
use Rattle.session.proofs.Lawful.{lawful_by}
use Rattle.session.proofs.Passed.{row_below}
use Rattle.session.proofs.Kept.{others_kept, outcome_keeps}
use Rattle.sums.proofs.Summed.{length_row_summed}
use Rattle.linear.specs.Linear.{linear_refusal_of}
use Rattle.linear.specs.Claims.{LinearLawful, LinearKeepsOthers}
use Rattle.linear.proofs.Tables.{linear_table_lem}
use Rattle.linear.proofs.Passed as Passed
use Rattle.linear.proofs.Passed.{Summed}

pub linear_lawful : LinearLawful
unfolding linear_refusal_of
linear_lawful s rows r a b scale fee =
    lawful_by (linear_table_lem s rows r a b scale fee) (omega arith) 0 (summed_row s r (a ∷ b ∷ [])) s
    (with_row (width s) r (summed (sums_at_of s) scale fee (row_at (width s) rows a) (row_at (width s) rows b)) rows) rows

pub linear_keeps_others : LinearKeepsOthers
linear_keeps_others s rows r a b scale fee q ne =
    outcome_keeps (width s) (linear_refusal_of s rows r a b scale fee) (with_row (width s) r made rows) rows q
    (λ z. kept (Passed.summed s rows r a b scale fee z))
  where
    made : List ℕ
    made = summed (sums_at_of s) scale fee (row_at (width s) rows a) (row_at (width s) rows b)

    kept : Summed s rows r a b scale fee → row_at (width s) (with_row (width s) r made rows) q ≡ row_at (width s) rows q
    kept d =
        let z = d.framed.sized in
        let low : r < row_count_of = omega (arith, d.placed.row_in) in
        let into = row_below (shape_of s) r d.placed.row_in in
        let from-a = row_below (shape_of s) a d.placed.a_in in
        let from-b = row_below (shape_of s) b d.placed.b_in in
        let long = length_row_summed (shape_of s) rows z r a b scale into from-a from-b fee in
        others_kept (width s) row_count_of rows r made z.length_is low long q ne
