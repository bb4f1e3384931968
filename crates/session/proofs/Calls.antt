-- Every call on a session: its frame's tests, then its own. What its code has to show, and what it may go by.
use Prim.Native.Nat.{ℕ}
use mathlib.Core.Path.{◌≡◌, sym, ◌∙◌}
use mathlib.Core.List.{List, ◌++◌}
use Rattle.shape.specs.declared.Shape.{Shape}
use Rattle.shape.specs.Lengths.{Valid}
use Rattle.refusal.specs.Refusal.{Test, first, AllFail}
use Rattle.refusal.proofs.Laws.{Numbered, all_fail}
use Rattle.refusal.proofs.Groups.{stopped, went_on, fail_parts}
use Rattle.session.specs.declared.Session.{Session}
use Rattle.session.specs.Sessions.{shape_of}
use Rattle.session.specs.Checks.{frame_tests}
use Rattle.session.specs.Between.{Framed, Sized}
use Rattle.session.proofs.Passed.{framed}

module _ (s : Session) (rows : List ℕ) (r : ℕ) (e : r ≡ first (frame_tests s rows)) (z : r ≡ 0) where
  pub frame_passed : Framed s rows
  frame_passed = framed s rows (all_fail (frame_tests s rows) tt (sym e ∙ z))

  -- the session's shape, as the code has it
  pub shape_sized : (g : Shape) → g ≡ shape_of s → Sized g rows
  shape_sized g h = rw h frame_passed.sized

  pub shape_valid : (g : Shape) → g ≡ shape_of s → Valid g
  shape_valid g h = (shape_sized g h).valid

-- what holds of a session's own shape holds of the shape that the code made of it
module _ (s : Session) (g : Shape) (e : g ≡ shape_of s) where
  pub same_valid : Valid (shape_of s) → Valid g
  same_valid v = rw e v

  pub same_sized : (rows : List ℕ) → Framed s rows → Sized g rows
  same_sized rows f = rw e f.sized

module _ (s : Session) (rows : List ℕ) (own : List Test) where
  pub stopped_at_frame : (r : ℕ) → r ≡ first (frame_tests s rows) → (r ≡ 0 → ⊥) → r ≡ first (frame_tests s rows ++ own)
  stopped_at_frame r e = stopped (frame_tests s rows) own tt r e

  pub past_frame : (r q : ℕ) → r ≡ first (frame_tests s rows) → r ≡ 0 → q ≡ first own → q ≡ first (frame_tests s rows ++ own)
  past_frame r q e z h = went_on (frame_tests s rows) own tt r e q z h

  pub allowed : Numbered own → (r : ℕ) → r ≡ first (frame_tests s rows ++ own) → r ≡ 0 → Framed s rows × AllFail own
  allowed n r e z =
      let h = fail_parts (frame_tests s rows) own (all_fail (frame_tests s rows ++ own) n (sym e ∙ z)) in
      (framed s rows h.0, h.1)
