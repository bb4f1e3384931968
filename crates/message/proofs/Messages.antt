-- The refusal of an opening message from the checks that its code joins, and what holds where there is none.
use Prim.Native.Nat.{ℕ, ◌≤◌, ◌<◌}
use mathlib.Core.Path.{◌≡◌, refl, sym, ◌∙◌, ap₂}
use mathlib.Core.Bool.{Bool, true, false}
use mathlib.Core.List.{List, [], ◌∷◌, ◌++◌}
use native.Mathlib.Omega.{arith}
use lib.Dec.{ltb}
use borrow.Author.Tests.{lt-ltb, le-ltb}
use lib.ListN.{length, take}
use lib.Seq.{length-take-le}
use Rattle.shape.specs.declared.Shape.{Shape}
use Rattle.shape.specs.Marks.{held}
use Rattle.shape.specs.Lengths.{v_length, row_length, message_length}
use Rattle.shape.specs.Row.{coefficients}
use Rattle.refusal.specs.Refusal.{Test, ◌when◌, first, or_else}
use Rattle.refusal.specs.Conditions.{wrong_length, any_beyond}
use Rattle.refusal.proofs.Groups.{chained, stopped, went_on}
use Rattle.refusal.proofs.Endings.{refused, accepted}
use Rattle.callers.specs.Sets.{bars}
use Rattle.session.specs.declared.Session.{Session}
use Rattle.session.specs.Sessions.{shape_of, barred_from}
use Rattle.session.specs.Rows.{width, row_at}
use Rattle.session.specs.Checks.{frame_tests, no_row, wrong_mark_of}
use Rattle.session.specs.Between.{Sized, RowIn}
use Rattle.session.proofs.Passed.{row_below}
use Rattle.session.proofs.Calls.{stopped_at_frame, past_frame}
use Rattle.message.specs.Between.{message_own_tests}
use Rattle.message.specs.Message.{message_checks_of, message_early, message_refusal_of, message_out_of}
use Rattle.message.proofs.Passed.{MessageMade, message_made, checks_passed}

module _ (s : Session) (rows : List ℕ) (r : ℕ) (out : List ℕ) (f : ℕ) (e : f ≡ first (frame_tests s rows)) where
  pub message_stopped : (f ≡ 0 → ⊥) → f ≡ message_early s rows r out
  unfolding message_early
  message_stopped n = stopped_at_frame s rows (message_own_tests s rows r out) f e n

  pub message_checked : (z : ℕ) → f ≡ 0 → z ≡ first (message_own_tests s rows r out) → z ≡ message_early s rows r out
  unfolding message_early
  message_checked z n h = past_frame s rows (message_own_tests s rows r out) f z e n h

-- 15
module _ (s : Session) (r caller : ℕ) where
  pub caller_low : caller < 1 → 15 ≡ first (15 when barred_from s r caller ∷ [])
  caller_low h = let k : ltb caller 1 ≡ true = lt-ltb caller 1 h in rw k refl

  module _ (lo : 1 ≤ caller) where
    pub caller_high : s.n < caller → 15 ≡ first (15 when barred_from s r caller ∷ [])
    caller_high h = let k : ltb s.n caller ≡ true = lt-ltb s.n caller h in let l : ltb caller 1 ≡ false = le-ltb caller 1 lo in rw (l, k) refl

    module _ (hi : caller ≤ s.n) (b : Bool) (e : b ≡ bars s.barred r caller) where
      pub caller_barred : b ≡ true → 15 ≡ first (15 when barred_from s r caller ∷ [])
      caller_barred z =
          let k : ltb s.n caller ≡ false = le-ltb s.n caller hi in
          let l : ltb caller 1 ≡ false = le-ltb caller 1 lo in
          let m : bars s.barred r caller ≡ true = sym e ∙ z in rw (l, k, m) refl

      pub caller_there : b ≡ false → 0 ≡ first (15 when barred_from s r caller ∷ [])
      caller_there z =
          let k : ltb s.n caller ≡ false = le-ltb s.n caller hi in
          let l : ltb caller 1 ≡ false = le-ltb caller 1 lo in
          let m : bars s.barred r caller ≡ false = sym e ∙ z in rw (l, k, m) refl

-- with 15 behind them
module _ (s : Session) (rows : List ℕ) (r caller : ℕ) (out : List ℕ) where
  pub message_refused : (f : ℕ) → f ≡ message_early s rows r out → (f ≡ 0 → ⊥) → f ≡ message_refusal_of s rows r caller out
  unfolding message_refusal_of message_early
  message_refused f e n = stopped (message_checks_of s rows r out) (15 when barred_from s r caller ∷ []) tt f e n

  pub message_called : (f g : ℕ) → f ≡ message_early s rows r out → f ≡ 0 → g ≡ first (15 when barred_from s r caller ∷ []) → g ≡ message_refusal_of s rows r caller out
  unfolding message_refusal_of message_early
  message_called f g e z h = went_on (message_checks_of s rows r out) (15 when barred_from s r caller ∷ []) tt f e g z h

  module _ (f : ℕ) (e : f ≡ message_early s rows r out) (z : f ≡ 0) where
    made : MessageMade s rows r out
    unfolding message_early
    made = checks_passed s rows r out (sym e ∙ z)

    pub checked_row : r < 96
    checked_row = omega (arith, made.placed.row_in)

    pub checked_posts : s.n ≤ 255
    checked_posts = omega (arith, made.framed.sized.valid.n_in)

  pub message_untouched : (f : ℕ) → f ≡ message_refusal_of s rows r caller out → (f ≡ 0 → ⊥) → out ≡ message_out_of s rows r caller out
  message_untouched f e n = refused f (message_refusal_of s rows r caller out) (coefficients (shape_of s) (row_at (width s) rows r)) out e n

  module _ (f : ℕ) (e : f ≡ message_refusal_of s rows r caller out) (n : f ≡ 0) where
    passed : MessageMade s rows r out
    passed = message_made s rows r caller out (sym e ∙ n)

    module _ (g : Shape) (eg : g ≡ shape_of s) where
      pub message_sized : Sized g rows
      message_sized = rw eg passed.framed.sized

      pub message_in : RowIn g r
      message_in = row_below g r passed.placed.row_in

      pub message_long : length out ≡ v_length g
      message_long = rw eg passed.placed.out_long

      pub message_written : (new : List ℕ) → new ≡ coefficients g (row_at (row_length g) rows r) → new ≡ message_out_of s rows r caller out
      message_written new eo =
          accepted f (message_refusal_of s rows r caller out) new (coefficients (shape_of s) (row_at (width s) rows r)) out e n (rw eg at eo)

-- the first numbers of a row
module _ (g : Shape) (row : List ℕ) (k : ℕ) (ek : k ≡ v_length g) where
  pub front_long : length row ≡ row_length g → k ≡ length (take k row)
  front_long l = sym (length-take-le k row (omega arith))

  pub front_size : (out : List ℕ) → length row ≡ row_length g → length out ≡ v_length g → length (take k row) ≡ length out
  front_size out l h = sym (front_long l) ∙ ek ∙ sym h

  pub front_copied : (out x : List ℕ) → out ≡ take k row → row ≡ x → out ≡ coefficients g x
  front_copied out x e q = e ∙ ap₂ take ek q
