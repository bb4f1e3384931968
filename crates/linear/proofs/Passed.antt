-- What the checks of a sum leave, by name: a record for one that is not refused, and one for the checks before those of the rows.
use Prim.Native.Nat.{ℕ, ◌≤◌, ◌<◌}
use mathlib.Core.Path.{◌≡◌, refl, sym}
use mathlib.Core.Bool.{Bool, false}
use mathlib.Core.List.{List, [], ◌∷◌, ◌++◌}
use borrow.Author.Tests.{ltb-false}
use Rattle.field.specs.Modulus.{p}
use Rattle.shape.specs.Bounds.{last_row_at}
use Rattle.shape.specs.Marks.{empty, held}
use Rattle.refusal.specs.Refusal.{Test, ◌when◌, AllFail}
use Rattle.refusal.specs.Conditions.{beyond, any_beyond}
use Rattle.refusal.proofs.Laws.{equal}
use Rattle.refusal.proofs.Elements.{below_p}
use Rattle.refusal.proofs.Groups.{fail_parts}
use Rattle.session.specs.declared.Session.{Session}
use Rattle.session.specs.Sessions.{mark}
use Rattle.session.specs.Rows.{width, row_at}
use Rattle.session.specs.Checks.{no_row}
use Rattle.session.specs.Between.{Framed}
use Rattle.session.proofs.Calls.{allowed}
use Rattle.linear.specs.Linear.{linear_marks_of, linear_refusal_of}

-- 6, 7, and 8 of the scale and the fee
abbrev pub linear_place : Session → ℕ → ℕ → ℕ → ℕ → ℕ → List Test
linear_place s r a b scale fee =
    (6 when no_row r ∷ 6 when no_row a ∷ 6 when no_row b ∷ linear_marks_of s.marks r a b) ++ (8 when beyond scale ∷ 8 when beyond fee ∷ [])

-- 8 of the rows, and what comes behind
abbrev pub linear_late : Bool → Bool → List Test
linear_late high-a high-b = 8 when high-a ∷ 8 when high-b ∷ []

pub record LinearPlaced (s : Session) (r a b scale fee : ℕ) : Type 0 where
  pub row_in : r ≤ last_row_at
  pub a_in : a ≤ last_row_at
  pub b_in : b ≤ last_row_at
  pub is_empty : mark s r ≡ empty
  pub a_held : mark s a ≡ held
  pub b_held : mark s b ≡ held
  pub scale_low : scale < p
  pub fee_low : fee < p

pub linear_placed : (s : Session) (r a b scale fee : ℕ) → AllFail (linear_place s r a b scale fee) → LinearPlaced s r a b scale fee
linear_placed s r a b scale fee h =
    let (low, (low-a, (low-b, (is, (is_a, (is_b, (factor, (more, _)))))))) = h in
    record {
      row_in = ltb-false last_row_at r low;
      a_in = ltb-false last_row_at a low-a;
      b_in = ltb-false last_row_at b low-b;
      is_empty = equal _ _ is;
      a_held = equal _ _ is_a;
      b_held = equal _ _ is_b;
      scale_low = below_p scale factor;
      fee_low = below_p fee more;
    }

pub record Summed (s : Session) (rows : List ℕ) (r a b scale fee : ℕ) : Type 0 where
  pub framed : Framed s rows
  pub placed : LinearPlaced s r a b scale fee
  pub a_low : any_beyond (row_at (width s) rows a) ≡ false
  pub b_low : any_beyond (row_at (width s) rows b) ≡ false

pub summed : (s : Session) (rows : List ℕ) (r a b scale fee : ℕ) → linear_refusal_of s rows r a b scale fee ≡ 0 → Summed s rows r a b scale fee
unfolding linear_refusal_of
summed s rows r a b scale fee z =
    let late = linear_late (any_beyond (row_at (width s) rows a)) (any_beyond (row_at (width s) rows b)) in
    let (frame, own) = allowed s rows (linear_place s r a b scale fee ++ late) tt 0 (sym z) refl in
    let (place, (high-a, (high-b, _))) = fail_parts (linear_place s r a b scale fee) late own in
    record { framed = frame; placed = linear_placed s r a b scale fee place; a_low = high-a; b_low = high-b }
