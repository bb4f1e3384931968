-- What the checks of a deal leave, by name: a record for a deal that is not refused, and one for the checks before those of the row.
use Prim.Native.Nat.{ℕ, ◌≤◌, ◌<◌}
use mathlib.Core.Path.{◌≡◌, refl, sym}
use mathlib.Core.Bool.{Bool, false}
use mathlib.Core.List.{List, [], ◌∷◌, ◌++◌}
use borrow.Author.Tests.{ltb-false}
use Rattle.field.specs.Modulus.{p}
use Rattle.shape.specs.Bounds.{last_row_at}
use Rattle.shape.specs.Marks.{raw}
use Rattle.refusal.specs.Refusal.{Test, ◌when◌, AllFail}
use Rattle.refusal.specs.Conditions.{beyond, any_beyond}
use Rattle.refusal.proofs.Laws.{equal}
use Rattle.refusal.proofs.Elements.{below_p}
use Rattle.refusal.proofs.Groups.{fail_parts}
use Rattle.session.specs.declared.Session.{Session}
use Rattle.session.specs.Sessions.{mark}
use Rattle.session.specs.Rows.{width, row_at}
use Rattle.session.specs.Checks.{no_row, wrong_mark_of}
use Rattle.session.specs.Between.{Framed}
use Rattle.session.proofs.Calls.{allowed}
use Rattle.deal.specs.Deal.{deal_refusal_of}

-- 6, 7, and 8 of c
abbrev pub deal_place : Session → ℕ → ℕ → List Test
deal_place s r c = 6 when no_row r ∷ 7 when wrong_mark_of s r raw ∷ 8 when beyond c ∷ []

-- 8 of the row, and what comes behind
abbrev pub deal_late : Bool → List Test
deal_late high = 8 when high ∷ []

pub record DealPlaced (s : Session) (r c : ℕ) : Type 0 where
  pub row_in : r ≤ last_row_at
  pub is_raw : mark s r ≡ raw
  pub number_low : c < p

pub deal_placed : (s : Session) (r c : ℕ) → AllFail (deal_place s r c) → DealPlaced s r c
deal_placed s r c h =
    let (low, (is, (number, _))) = h in
    record { row_in = ltb-false last_row_at r low; is_raw = equal _ _ is; number_low = below_p c number }

pub record Dealt (s : Session) (rows : List ℕ) (r c : ℕ) : Type 0 where
  pub framed : Framed s rows
  pub placed : DealPlaced s r c
  pub row_low : any_beyond (row_at (width s) rows r) ≡ false

pub dealt : (s : Session) (rows : List ℕ) (r c : ℕ) → deal_refusal_of s rows r c ≡ 0 → Dealt s rows r c
unfolding deal_refusal_of
dealt s rows r c z =
    let late = deal_late (any_beyond (row_at (width s) rows r)) in
    let (frame, own) = allowed s rows (deal_place s r c ++ late) tt 0 (sym z) refl in
    let (place, (high, _)) = fail_parts (deal_place s r c) late own in
    record { framed = frame; placed = deal_placed s r c place; row_low = high }
