-- What the checks of the loads leave, by name: a record for each load that is not refused. They read no row.
use Prim.Native.Nat.{ℕ, ◌+◌, ◌≤◌}
use mathlib.Core.Path.{◌≡◌, refl, sym}
use mathlib.Core.Bool.{false}
use mathlib.Core.List.{List, [], ◌∷◌, ◌++◌}
use borrow.Author.Tests.{ltb-false}
use lib.ListN.{length}
use Rattle.shape.specs.Bounds.{last_row_at, last_triple}
use Rattle.shape.specs.Marks.{empty}
use Rattle.shape.specs.Lengths.{triple_length}
use Rattle.refusal.specs.Refusal.{Test, ◌when◌}
use Rattle.refusal.specs.Conditions.{wrong_length, any_beyond}
use Rattle.refusal.proofs.Laws.{equal}
use Rattle.session.specs.declared.Session.{Session}
use Rattle.session.specs.Sessions.{shape_of, mark}
use Rattle.session.specs.Rows.{width}
use Rattle.session.specs.Checks.{no_row, no_triple, wrong_mark_of, wrong_marks_of}
use Rattle.session.specs.Between.{Framed}
use Rattle.session.proofs.Calls.{allowed}
use Rattle.load.specs.Load.{load_row_refusal_of, load_triple_refusal_of}

-- a pack of this length
abbrev pub load_row_own : Session → ℕ → List ℕ → List Test
load_row_own s r pack = 5 when wrong_length pack (width s) ∷ 6 when no_row r ∷ 7 when wrong_mark_of s r empty ∷ 8 when any_beyond pack ∷ []

pub record RowLoaded (s : Session) (rows : List ℕ) (r : ℕ) (pack : List ℕ) : Type 0 where
  pub framed : Framed s rows
  pub pack_long : length pack ≡ width s
  pub row_in : r ≤ last_row_at
  pub is_empty : mark s r ≡ empty
  pub pack_low : any_beyond pack ≡ false

pub row_loaded : (s : Session) (rows : List ℕ) (r : ℕ) (pack : List ℕ) → load_row_refusal_of s rows r pack ≡ 0 → RowLoaded s rows r pack
unfolding load_row_refusal_of
row_loaded s rows r pack z =
    let (frame, (long, (low, (is, (elements, _))))) = allowed s rows (load_row_own s r pack) tt 0 (sym z) refl in
    record {
      framed = frame;
      pack_long = equal _ _ long;
      row_in = ltb-false last_row_at r low;
      is_empty = equal _ _ is;
      pack_low = elements;
    }

abbrev pub load_triple_own : Session → ℕ → List ℕ → List Test
load_triple_own s r pack =
    5 when wrong_length pack (triple_length (shape_of s))
    ∷ 6 when no_triple r
    ∷ (wrong_marks_of s.marks r empty empty empty ++ (8 when any_beyond pack ∷ []))

pub record TripleLoaded (s : Session) (rows : List ℕ) (r : ℕ) (pack : List ℕ) : Type 0 where
  pub framed : Framed s rows
  pub pack_long : length pack ≡ triple_length (shape_of s)
  pub triple_in : r ≤ last_triple
  pub first_empty : mark s r ≡ empty
  pub second_empty : mark s (r + 1) ≡ empty
  pub third_empty : mark s (r + 2) ≡ empty
  pub pack_low : any_beyond pack ≡ false

pub triple_loaded_lem : (s : Session) (rows : List ℕ) (r : ℕ) (pack : List ℕ) → load_triple_refusal_of s rows r pack ≡ 0 → TripleLoaded s rows r pack
unfolding load_triple_refusal_of
triple_loaded_lem s rows r pack z =
    let (frame, (long, (low, (one, (two, (three, (elements, _))))))) = allowed s rows (load_triple_own s r pack) tt 0 (sym z) refl in
    record {
      framed = frame;
      pack_long = equal _ _ long;
      triple_in = ltb-false last_triple r low;
      first_empty = equal _ _ one;
      second_empty = equal _ _ two;
      third_empty = equal _ _ three;
      pack_low = elements;
    }
