-- A pack of three rows, copied in one go, is the three rows put one after the other.
use Prim.Native.Nat.{ℕ, ◌+◌, ◌*◌, ◌-◌, ◌≤◌}
use mathlib.Core.Path.{◌≡◌, sym, ◌∙◌, ap}
use mathlib.Core.List.{List}
use native.Mathlib.Nat.{zero-mul, one-mul, add-sub_cancel_left}
use native.Mathlib.Omega.{arith}
use lib.ListN.{length, take, drop}
use lib.Seq.{take_all}
use borrow.Rule.Slice.PartMut.{put_mid}
use Rattle.shape.specs.declared.Shape.{Shape}
use Rattle.shape.specs.Lengths.{row_length, triple_length}
use Rattle.session.specs.Rows.{row_at, with_row}
use Rattle.session.specs.Between.{Sized, TripleIn}
use Rattle.session.proofs.RowLaws.{next_row_put}
use Rattle.load.specs.Load.{with_triple}

module _ (w r : ℕ) (rows pack : List ℕ) (room : r * w + 3 * w ≤ length rows) (size : length pack ≡ 3 * w) where
  first_put : with_row w r (row_at w pack 0) rows ≡ put_mid (r * w) (1 * w) rows (take (1 * w) pack)
  first_put =
      ap (λ (z : ℕ). with_row w r (take w (drop z pack)) rows) (zero-mul w)
      ∙ ap (λ (z : ℕ). put_mid (r * w) z rows (take z pack)) (sym (one-mul w))

  pub triple_put : with_triple w r pack rows ≡ put_mid (r * w) (3 * w) rows pack
  unfolding with_triple
  triple_put =
      ap (λ (z : List ℕ). with_row w (r + 2) (row_at w pack 2) (with_row w (r + 1) (row_at w pack 1) z)) first_put
      ∙ ap (with_row w (r + 2) (row_at w pack 2)) (next_row_put w r 1 rows pack (omega arith) (omega arith))
      ∙ next_row_put w r 2 rows pack (omega arith) (omega arith)
      ∙ ap (put_mid (r * w) (3 * w) rows) (take_all (3 * w) pack (omega arith))

pub triple_loaded_lem : (g : Shape) (r from k : ℕ) (rows pack ys : List ℕ) → from ≡ r * row_length g → k ≡ triple_length g → Sized g rows
    → TripleIn g r → length pack ≡ triple_length g → ys ≡ pack → put_mid from (from + k - from) rows ys ≡ with_triple (row_length g) r pack rows
triple_loaded_lem g r from k rows pack ys ef ek z i size e =
    let w = row_length g in
    rw (ef, ek, add-sub_cancel_left (r * w) (3 * w), e) (sym (triple_put w r rows pack (omega (arith, z.length_is, i.room)) size))
