-- A session that the works loads straight: no load is refused, and what each leaves.
use Prim.Native.Nat.{ℕ, ◌+◌, ◌*◌, ◌≤◌, ◌<◌}
use mathlib.Core.Path.{◌≡◌, refl, sym, ◌∙◌, ap}
use mathlib.Core.Bool.{Bool, true, false, not, cond}
use mathlib.Core.List.{List}
use native.Mathlib.Nat.{mul-le-mul_right, add-mul}
use native.Mathlib.Omega.{arith}
use borrow.Author.Tests.{eq-eqb, eqb-false, le-ltb}
use lib.Dec.{eqb}
use lib.ListN.{length, get_or, set, replicate}
use Rattle.poly.specs.Counting.{Elements}
use Rattle.shape.specs.declared.Points.{Points}
use Rattle.shape.specs.Bounds.{row_count_of, last_row_at, last_triple, most_points}
use Rattle.shape.specs.Lengths.{row_length, rows_length, triple_length}
use Rattle.shape.specs.Marks.{empty, raw, unused, further}
use Rattle.refusal.specs.Refusal.{outcome, AllFail}
use Rattle.refusal.specs.Conditions.{wrong_length}
use Rattle.refusal.proofs.Laws.{not_refused}
use Rattle.factory.proofs.Laws.{elements_pass}
use Rattle.lists.proofs.Parts.{length_put}
use Rattle.session.specs.declared.Party.{Party}
use Rattle.session.specs.declared.Session.{Session}
use Rattle.session.specs.Sessions.{with_marks, as_many_of, session_of, session_tests, created}
use Rattle.session.specs.Rows.{with_row}
use Rattle.session.proofs.RowLaws.{length_with_row}
use Rattle.load.specs.Load.{load_row_tests, load_row_refusal_of, load_triple_tests, load_triple_refusal_of, with_triple}
use Rattle.load.proofs.Triples.{triple_put}
use Rattle.packrow.specs.Between.{PostIn}
use Rattle.packed_law.specs.Straight.{Loaded, new_post, row_loaded_of, triple_loaded}

-- ---- tests that fail
pub right_length : (l : List ℕ) (k : ℕ) → length l ≡ k → wrong_length l k ≡ false
right_length l k e = ap not (eq-eqb (length l) k e)

right_mark : (marks : List ℕ) (r m : ℕ) → get_or marks r empty ≡ m → not (eqb (get_or marks r empty) m) ≡ false
right_mark marks r m e = ap not (eq-eqb (get_or marks r empty) m e)

-- ---- the post's session with other marks
abbrev pub session_at : Party → List ℕ → Session
session_at q marks = with_marks (session_of q.shape.n q.shape.t q.post q.shape.points q.points) marks

abbrev pub at : Party → List ℕ → List ℕ → Loaded
at q marks rows = record { session = session_at q marks; rows = rows; refusal = 0 }

abbrev pub Passed : Party → Type 0
Passed q = AllFail (session_tests q.shape.n q.shape.t q.post q.shape.points q.points)

-- the post has as many check points as the session remembers
as_many : (q : Party) → PostIn q → as_many_of q.shape.points q.points ≡ q.points
as_many q is = go (eqb q.shape.points most_points) refl
  where
    two : (b : Bool) → Points
    two b = record { first = q.points.first; second = cond b q.points.second 0 }

    go : (b : Bool) → eqb q.shape.points most_points ≡ b → two b ≡ q.points
    go true e = refl
    go false e =
        let few : q.shape.points < most_points = omega (arith, is.valid.points_in_is.1, eqb-false q.shape.points most_points e) in
        ap (λ (x : ℕ). record { first = q.points.first; second = x }) (sym (is.lone few))

pub new_loaded : (q : Party) → PostIn q → Passed q → new_post q ≡ at q (replicate row_count_of empty) (replicate (rows_length q.shape) 0)
unfolding created outcome
new_loaded q is h =
    rw (not_refused (session_tests q.shape.n q.shape.t q.post q.shape.points q.points) h)
    (ap (λ (w : Points). at (with_points_lem w) (replicate row_count_of empty) (replicate (rows_length q.shape) 0)) (as_many q is))
  where
    with_points_lem : Points → Party
    with_points_lem w = record { shape = q.shape; post = q.post; points = w }

module _ (q : Party) (h : Passed q) (marks rows : List ℕ) (room : length rows ≡ rows_length q.shape) (row : ℕ) (pack : List ℕ)
    (elements : Elements pack) where
  module _ (long : length pack ≡ row_length q.shape) (low : row ≤ last_row_at) (free : get_or marks row empty ≡ empty) where
    pub row_passes : load_row_refusal_of (session_at q marks) rows row pack ≡ 0
    unfolding load_row_refusal_of
    row_passes =
        not_refused (load_row_tests (session_at q marks) rows row pack)
        (h.0, (h.1.0, (h.1.1.0, (h.1.1.1.0, (right_length rows _ room, (right_length pack _ long, (le-ltb last_row_at row low, (right_mark marks row empty free, (elements_pass pack elements, tt)))))))))

    pub row_is_loaded : row_loaded_of (at q marks rows) row pack ≡ at q (set marks row raw) (with_row (row_length q.shape) row pack rows)
    unfolding outcome
    row_is_loaded = rw row_passes

    pub row_room : length (with_row (row_length q.shape) row pack rows) ≡ rows_length q.shape
    row_room = length_with_row (row_length q.shape) row_count_of rows row room (omega arith) pack long ∙ room

  module _ (long : length pack ≡ triple_length q.shape) (low : row ≤ last_triple) (free : get_or marks row empty ≡ empty)
      (free-1 : get_or marks (row + 1) empty ≡ empty) (free-2 : get_or marks (row + 2) empty ≡ empty) where
    pub triple_passes : load_triple_refusal_of (session_at q marks) rows row pack ≡ 0
    unfolding load_triple_refusal_of
    triple_passes =
        not_refused (load_triple_tests (session_at q marks) rows row pack)
        (h.0, (h.1.0, (h.1.1.0, (h.1.1.1.0, (right_length rows _ room, (right_length pack _ long, (le-ltb last_triple row low, (right_mark marks row empty free, (right_mark marks (row + 1) empty free-1, (right_mark marks (row + 2) empty free-2, (elements_pass pack elements, tt)))))))))))

    pub triple_is_loaded : triple_loaded (at q marks rows) row pack
        ≡ at q (set (set (set marks row unused) (row + 1) further) (row + 2) further) (with_triple (row_length q.shape) row pack rows)
    unfolding outcome
    triple_is_loaded = rw triple_passes

    triple_fits : row * row_length q.shape + 3 * row_length q.shape ≤ length rows
    triple_fits =
        let w = row_length q.shape in
        omega (arith, room, mul-le-mul_right {m = row + 3} {n = row_count_of} w (omega arith), add-mul row 3 w)

    pub triple_room : length (with_triple (row_length q.shape) row pack rows) ≡ rows_length q.shape
    triple_room =
        let w = row_length q.shape in
        ap length (triple_put w row rows pack triple_fits long) ∙ length_put (row * w) (3 * w) rows pack triple_fits long ∙ room
