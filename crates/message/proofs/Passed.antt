-- What the checks of an opening message leave, by name: a record for one that is not refused, and one for the checks before those of the row.
use Prim.Native.Nat.{ℕ, ◌≤◌}
use mathlib.Core.Path.{◌≡◌, refl, sym}
use mathlib.Core.Bool.{Bool, false}
use mathlib.Core.List.{List, [], ◌∷◌, ◌++◌}
use borrow.Author.Tests.{ltb-false}
use lib.ListN.{length}
use Rattle.shape.specs.Bounds.{last_row_at}
use Rattle.shape.specs.Marks.{held}
use Rattle.shape.specs.Lengths.{message_length}
use Rattle.refusal.specs.Refusal.{Test, ◌when◌, first, AllFail}
use Rattle.refusal.specs.Conditions.{wrong_length, any_beyond}
use Rattle.refusal.proofs.Laws.{equal, all_fail, not_refused}
use Rattle.refusal.proofs.Groups.{fail_parts}
use Rattle.session.specs.declared.Session.{Session}
use Rattle.session.specs.Sessions.{shape_of, mark, barred_from}
use Rattle.session.specs.Rows.{width, row_at}
use Rattle.session.specs.Checks.{no_row, wrong_mark_of}
use Rattle.session.specs.Between.{Framed}
use Rattle.session.proofs.Calls.{allowed}
use Rattle.message.specs.Message.{message_checks_of, message_tests, message_refusal_of}

-- 5 to 7
abbrev pub message_place : Session → ℕ → List ℕ → List Test
message_place s r out = 5 when wrong_length out (message_length (shape_of s)) ∷ 6 when no_row r ∷ 7 when wrong_mark_of s r held ∷ []

-- 8 of the row, and what comes behind
abbrev pub message_late : Bool → List Test
message_late high = 8 when high ∷ []

pub record MessagePlaced (s : Session) (r : ℕ) (out : List ℕ) : Type 0 where
  pub out_long : length out ≡ message_length (shape_of s)
  pub row_in : r ≤ last_row_at
  pub is_held : mark s r ≡ held

pub message_placed : (s : Session) (r : ℕ) (out : List ℕ) → AllFail (message_place s r out) → MessagePlaced s r out
message_placed s r out h =
    let (long, (low, (is, _))) = h in
    record { out_long = equal _ _ long; row_in = ltb-false last_row_at r low; is_held = equal _ _ is }

pub record MessageMade (s : Session) (rows : List ℕ) (r : ℕ) (out : List ℕ) : Type 0 where
  pub framed : Framed s rows
  pub placed : MessagePlaced s r out
  pub row_low : any_beyond (row_at (width s) rows r) ≡ false

pub checks_passed : (s : Session) (rows : List ℕ) (r : ℕ) (out : List ℕ) → first (message_checks_of s rows r out) ≡ 0 → MessageMade s rows r out
checks_passed s rows r out z =
    let late = message_late (any_beyond (row_at (width s) rows r)) in
    let (frame, own) = allowed s rows (message_place s r out ++ late) tt 0 (sym z) refl in
    let (place, (high, _)) = fail_parts (message_place s r out) late own in
    record { framed = frame; placed = message_placed s r out place; row_low = high }

-- 1 to 8, and 15
pub message_split : (s : Session) (rows : List ℕ) (r caller : ℕ) (out : List ℕ) → message_refusal_of s rows r caller out ≡ 0
    → (first (message_checks_of s rows r out) ≡ 0) × (barred_from s r caller ≡ false)
unfolding message_refusal_of
message_split s rows r caller out z =
    let q = fail_parts (message_checks_of s rows r out) (15 when barred_from s r caller ∷ []) (all_fail (message_tests s rows r caller out) tt z) in
    (not_refused (message_checks_of s rows r out) q.0, q.1.0)

pub message_made : (s : Session) (rows : List ℕ) (r caller : ℕ) (out : List ℕ) → message_refusal_of s rows r caller out ≡ 0 → MessageMade s rows r out
message_made s rows r caller out z = checks_passed s rows r out (message_split s rows r caller out z).0
