-- The two loads change no row but those that the pack goes to.
use Prim.Native.Nat.{ℕ, ◌+◌, ◌*◌, ◌<◌}
use mathlib.Core.Path.{◌≡◌, ◌∙◌}
use mathlib.Core.Logic.{◌≢◌}
use mathlib.Core.List.{List}
use native.Mathlib.Omega.{arith}
use lib.ListN.{length}
use Rattle.shape.specs.Bounds.{row_count_of}
use Rattle.session.specs.declared.Session.{Session}
use Rattle.session.specs.Rows.{width, row_at, with_row}
use Rattle.session.proofs.RowLaws.{length_row, length_with_row, row_other}
use Rattle.session.proofs.Kept.{others_kept, outcome_keeps}
use Rattle.load.specs.Load.{load_row_refusal_of, load_triple_refusal_of, with_triple}
use Rattle.load.specs.Claims.{LoadKeepsOthers}
use Rattle.load.proofs.Passed.{RowLoaded, row_loaded, triple_loaded_lem}

row_kept : (s : Session) (rows : List ℕ) (r : ℕ) (pack : List ℕ) (q : ℕ) → q ≢ r → RowLoaded s rows r pack
    → row_at (width s) (with_row (width s) r pack rows) q ≡ row_at (width s) rows q
row_kept s rows r pack q ne d =
    let low : r < row_count_of = omega (arith, d.row_in) in
    others_kept (width s) row_count_of rows r pack d.framed.sized.length_is low d.pack_long q ne

-- one row after the other
module _ (w : ℕ) (rows : List ℕ) (r : ℕ) (pack : List ℕ) (size : length rows ≡ row_count_of * w) (low : r + 2 < row_count_of) (long : length pack ≡ 3 * w) where
  part : (k : ℕ) → k < 3 → length (row_at w pack k) ≡ w
  part k h = length_row w 3 pack k long h

  abbrev one : List ℕ
  one = with_row w r (row_at w pack 0) rows

  one_size : length one ≡ row_count_of * w
  one_size = length_with_row w row_count_of rows r size (omega arith) (row_at w pack 0) (part 0 (omega arith)) ∙ size

  abbrev two : List ℕ
  two = with_row w (r + 1) (row_at w pack 1) one

  two_size : length two ≡ row_count_of * w
  two_size = length_with_row w row_count_of one (r + 1) one_size (omega arith) (row_at w pack 1) (part 1 (omega arith)) ∙ one_size

  triple_kept : (q : ℕ) → q ≢ r → q ≢ r + 1 → q ≢ r + 2 → row_at w (with_triple w r pack rows) q ≡ row_at w rows q
  unfolding with_triple
  triple_kept q n0 n1 n2 =
      row_other w row_count_of two (r + 2) two_size low (row_at w pack 2) (part 2 (omega arith)) q n2
      ∙ row_other w row_count_of one (r + 1) one_size (omega arith) (row_at w pack 1) (part 1 (omega arith)) q n1
      ∙ row_other w row_count_of rows r size (omega arith) (row_at w pack 0) (part 0 (omega arith)) q n0

pub load_keeps_others : LoadKeepsOthers
load_keeps_others = record {
  load_row = λ s rows r pack q ne.
      outcome_keeps (width s) (load_row_refusal_of s rows r pack) (with_row (width s) r pack rows) rows q
      (λ z. row_kept s rows r pack q ne (row_loaded s rows r pack z));
  load_triple_is = λ s rows r pack q n0 n1 n2.
      outcome_keeps (width s) (load_triple_refusal_of s rows r pack) (with_triple (width s) r pack rows) rows q
      (λ z. let d = triple_loaded_lem s rows r pack z in
      triple_kept (width s) rows r pack d.framed.sized.length_is (omega (arith, d.triple_in)) d.pack_long q n0 n1 n2);
}
