-- What holds where the shared checks refuse nothing.
use Prim.Native.Nat.{ℕ, zero, suc, ◌*◌, ◌≤◌, ◌<◌}
use mathlib.Core.Path.{◌≡◌, refl, sym, ◌∙◌, ap}
use mathlib.Core.Bool.{Bool, false}
use mathlib.Core.List.{List, [], ◌∷◌}
use native.Mathlib.Nat.{mul-le-mul_right, pos_of_ne-zero}
use native.Mathlib.Omega.{arith}
use borrow.Author.Tests.{ltb-false, eqb-false}
use lib.Dec.{eqb}
use lib.ListN.{length, take, drop_of_length-le}
use lib.Seq.{take-nil}
use Rattle.shape.specs.declared.Shape.{Shape}
use Rattle.shape.specs.declared.Points.{Points}
use Rattle.shape.specs.Bounds.{last_row_at, last_triple}
use Rattle.shape.specs.Lengths.{shape, Valid, row_length, rows_length}
use Rattle.refusal.specs.Refusal.{◌when◌, first, or_else, AllFail}
use Rattle.refusal.specs.Conditions.{posts_tests, bad_points, outside, wrong_length, beyond, any_beyond}
use Rattle.refusal.proofs.Laws.{or_false, inside, equal, all_fail, first_join}
use Rattle.refusal.proofs.Endings.{or_else_first}
use Rattle.refusal.proofs.Elements.{below_p}
use Rattle.refusal.proofs.Groups.{first_chain, stopped, went_on}
use Rattle.refusal.proofs.Ranges.{posts_valid, points_good}
use Rattle.session.specs.declared.Session.{Session}
use Rattle.session.specs.Sessions.{points_of, shape_of, session_tests}
use Rattle.session.specs.Checks.{frame_tests, no_row, no_triple}
use Rattle.session.specs.Rows.{row_at}
use Rattle.session.specs.Between.{Sized, Framed, RowIn, TripleIn}

pub framed : (s : Session) (rows : List ℕ) → AllFail (frame_tests s rows) → Framed s rows
framed s rows h =
    let good = points_good s.points (points_of s) h.1.1.1.0 in
    let w = or_false (eqb s.first 0) (beyond s.first) good.1 in
    record {
      sized = record { valid = posts_valid s.n s.t s.points (h.0, (h.1.0, tt)) good.0; length_is = equal _ _ h.1.1.1.1.0 };
      post_in = inside 1 s.n s.post h.1.1.0;
      point_in_is = (pos_of_ne-zero (eqb-false s.first 0 w.0), below_p s.first w.1);
    }

module _ (s : Shape) (r : ℕ) where
  pub row_below : r ≤ last_row_at → RowIn s r
  row_below h = record { row_in = h; room = mul-le-mul_right (row_length s) h }

  pub row_in : no_row r ≡ false → RowIn s r
  row_in e = row_below (ltb-false last_row_at r e)

  pub triple_in : no_triple r ≡ false → TripleIn s r
  triple_in e = let h = ltb-false last_triple r e in record { triple_in = h; room = mul-le-mul_right (row_length s) h }

-- the settings of a session that 1 to 4 leave make a valid shape
pub settled : (n t post points : ℕ) (w : Points) (r : ℕ) → r ≡ first (session_tests n t post points w) → r ≡ 0 → Valid (shape n t points)
settled n t post points w r e z =
    let h = all_fail (session_tests n t post points w) tt (sym e ∙ z) in
    posts_valid n t points (h.0, (h.1.0, tt)) (points_good points w h.1.1.1.0).0

pub settings_joined : (n t post points : ℕ) (w : Points) (a b c d r : ℕ) → a ≡ first (posts_tests n t) → b ≡ first (3 when outside 1 n post ∷ [])
    → c ≡ first (4 when bad_points points w ∷ []) → d ≡ or_else b c → r ≡ or_else a d → r ≡ first (session_tests n t post points w)
settings_joined n t post points w a b c d r ea eb ec ed er =
    let own = 3 when outside 1 n post ∷ 4 when bad_points points w ∷ [] in
    cc (first_join (posts_tests n t) own tt, first_chain own tt)

or_next : (a d : ℕ) → a ≡ 0 → d ≡ or_else a d
or_next zero d e = refl
or_next (suc k) d e = absurd (omega arith)

-- the settings stop at 1 and 2, or at 3, or go on to 4
module _ (n t post points : ℕ) (w : Points) (a : ℕ) (ea : a ≡ first (posts_tests n t)) where
  pub settings_first : (a ≡ 0 → ⊥) → a ≡ first (session_tests n t post points w)
  settings_first fails = or_else_first a _ fails ∙ settings_joined n t post points w a _ _ _ _ ea refl refl refl refl

  module _ (b : ℕ) (eb : b ≡ first (3 when outside 1 n post ∷ [])) (za : a ≡ 0) where
    pub settings_second : (b ≡ 0 → ⊥) → b ≡ first (session_tests n t post points w)
    settings_second fails =
        or_else_first b _ fails ∙ or_next a _ za ∙ settings_joined n t post points w a b _ _ _ ea eb refl refl refl

    pub settings_third : (c : ℕ) → c ≡ first (4 when bad_points points w ∷ []) → b ≡ 0 → c ≡ first (session_tests n t post points w)
    settings_third c ec zb = or_next b c zb ∙ or_next a _ za ∙ settings_joined n t post points w a b c _ _ ea eb ec refl refl

-- the frame stops at 1 to 4, or goes on to 5
module _ (s : Session) (rows : List ℕ) (r : ℕ) (e : r ≡ first (session_tests s.n s.t s.post s.points (points_of s))) where
  pub frame_stopped : (r ≡ 0 → ⊥) → r ≡ first (frame_tests s rows)
  frame_stopped =
      stopped (session_tests s.n s.t s.post s.points (points_of s)) (5 when wrong_length rows (rows_length (shape_of s)) ∷ []) tt r e

  module _ (z : r ≡ 0) (g : Shape) (h : g ≡ shape_of s) where
    pub frame_valid : Valid g
    frame_valid = rw h (settled s.n s.t s.post s.points (points_of s) r e z)

    pub frame_sized : (w q : ℕ) → w ≡ rows_length g → q ≡ first (5 when wrong_length rows w ∷ []) → q ≡ first (frame_tests s rows)
    frame_sized w q ew eq =
        went_on (session_tests s.n s.t s.post s.points (points_of s)) (5 when wrong_length rows (rows_length (shape_of s)) ∷ []) tt r e q z
        (rw (ew, h) at eq)

eight : Bool → ℕ
eight b = first (8 when b ∷ [])

-- past the last row there is none
pub no_row_none : (s : Shape) (rows : List ℕ) (r : ℕ) → Sized s rows → last_row_at < r
    → 0 ≡ first (8 when any_beyond (row_at (row_length s) rows r) ∷ [])
unfolding any_beyond eight
no_row_none s rows r z h =
    let w = row_length s in
    let k : rows_length s ≤ r * w = mul-le-mul_right w h in
    let e : length rows ≤ r * w = omega (arith, z.length_is) in
    sym (ap (λ (l : List ℕ). eight (any_beyond (take w l))) (drop_of_length-le rows e) ∙ ap (λ (l : List ℕ). eight (any_beyond l)) (take-nil w))
