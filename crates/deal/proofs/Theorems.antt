-- A deal keeps to the law of every call, and changes no row but its own.
use Prim.Native.Nat.{ℕ, ◌<◌}
use mathlib.Core.Path.{◌≡◌, ◌∙◌}
use mathlib.Core.List.{List}
use native.Mathlib.Omega.{arith}
use Rattle.shape.specs.Bounds.{row_count_of}
use Rattle.shape.specs.Marks.{held}
use Rattle.session.specs.Sessions.{marked}
use Rattle.session.specs.Rows.{width, sums_at_of, row_at, with_row, plus_sums}
use Rattle.session.proofs.Lawful.{lawful_by}
use Rattle.session.proofs.RowLaws.{length_row}
use Rattle.session.proofs.Kept.{others_kept, outcome_keeps}
use Rattle.sums.proofs.Summed.{length_plus_sums}
use Rattle.deal.specs.Deal.{deal_refusal_of}
use Rattle.deal.specs.Claims.{DealLawful, DealKeepsOthers}
use Rattle.deal.proofs.Tables.{deal_table_lem}
use Rattle.deal.proofs.Passed.{Dealt, dealt}

pub deal_lawful : DealLawful
unfolding deal_refusal_of
deal_lawful s rows r c =
    lawful_by (deal_table_lem s rows r c) (omega arith) 0 (marked s r held) s
    (with_row (width s) r (plus_sums (sums_at_of s) c (row_at (width s) rows r)) rows) rows

pub deal_keeps_others : DealKeepsOthers
deal_keeps_others s rows r c q ne =
    outcome_keeps (width s) (deal_refusal_of s rows r c) (with_row (width s) r made rows) rows q (λ z. kept (dealt s rows r c z))
  where
    made : List ℕ
    made = plus_sums (sums_at_of s) c (row_at (width s) rows r)

    kept : Dealt s rows r c → row_at (width s) (with_row (width s) r made rows) q ≡ row_at (width s) rows q
    kept d =
        let size = d.framed.sized.length_is in
        let low : r < row_count_of = omega (arith, d.placed.row_in) in
        let long = length_plus_sums (sums_at_of s) c (row_at (width s) rows r) ∙ length_row (width s) row_count_of rows r size low in
        others_kept (width s) row_count_of rows r made size low long q ne
