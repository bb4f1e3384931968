-- Between the functions of a turn's code, which hand on the station's shape and the marks in place of the session. No theorem is stated
-- with these.
use Rattle.std.specs.Prelude.{ℕ, ◌≤◌, cond, List, ltb, Option, Some, None, Result, Ok, Err}
use Rattle.shape.specs.declared.Shape.{Shape}
use Rattle.shape.specs.Bounds.{row_count_of, last_row_at}
use Rattle.shape.specs.Marks.{held}
use Rattle.shape.specs.Lengths.{row_length, sums_at_of}
use Rattle.refusal.specs.declared.Refusal.{Refusal}
use Rattle.refusal.specs.Numbers.{number}
use Rattle.refusal.specs.Refusal.{first, outcome}
use Rattle.session.specs.declared.Session.{Session}
use Rattle.session.specs.declared.Answer.{Answer}
use Rattle.session.specs.Sessions.{marked, holding}
use Rattle.session.specs.Rows.{row_at, with_row, plus_sums}
use Rattle.deal.specs.Between.{row_tests}
use Rattle.dealers.specs.State.{chosen, line_in}
use Rattle.dealers.specs.Calls.{whose, counted_state}
use Rattle.dealers.specs.Between.{Heard, said_by_of}

-- What a turn comes to: its refusal's number, and the row that is then held, 96 for none.
pub record Dealt : Type 0 where
  pub refusal : ℕ
  pub row : ℕ

abbrev pub none_dealt_of : ℕ → Dealt
none_dealt_of refusal = record { refusal = refusal; row = row_count_of }

abbrev pub row_dealt : ℕ → ℕ → Dealt
row_dealt refusal r = outcome refusal (record { refusal = 0; row = r }) (none_dealt_of refusal)

abbrev pub dealt_as : Result (Option ℕ) Refusal → Dealt
dealt_as (Ok (Some r)) = record { refusal = 0; row = r }
dealt_as (Ok None) = none_dealt_of 0
dealt_as (Err r) = none_dealt_of (number r)

-- A row that a turn dealt is one.
abbrev pub RowDealt : Result (Option ℕ) Refusal → Type 0
RowDealt (Ok (Some r)) = r ≤ last_row_at
RowDealt (Ok None) = Unit {0}
RowDealt (Err r) = Unit {0}

-- A row and a number, dealt.
abbrev pub line_dealt : Shape → List ℕ → List ℕ → ℕ → ℕ → Dealt
line_dealt g marks rows r c = row_dealt (first (row_tests g marks rows r c)) r

abbrev pub line_rows : Shape → List ℕ → List ℕ → ℕ → ℕ → List ℕ
line_rows g marks rows r c =
    outcome (first (row_tests g marks rows r c)) (with_row (row_length g) r (plus_sums (sums_at_of g) c (row_at (row_length g) rows r)) rows) rows

-- What a line says, dealt.
abbrev pub said_dealt : Shape → List ℕ → List ℕ → Heard → Dealt
said_dealt g marks rows m = outcome m.refusal (line_dealt g marks rows m.row m.c) (none_dealt_of m.refusal)

abbrev pub said_rows : Shape → List ℕ → List ℕ → Heard → List ℕ
said_rows g marks rows m = outcome m.refusal (line_rows g marks rows m.row m.c) rows

-- A turn with this refusal of session, rows and state.
abbrev pub turn_dealt : Shape → List ℕ → List ℕ → List ℕ → ℕ → Dealt
turn_dealt g marks rows state refusal =
    outcome refusal (whose (chosen state) (none_dealt_of 0) (λ d. said_dealt g marks rows (said_by_of (line_in state d)))) (none_dealt_of refusal)

abbrev pub turn_dealt_rows : Shape → List ℕ → List ℕ → List ℕ → ℕ → List ℕ
turn_dealt_rows g marks rows state refusal =
    outcome refusal (whose (chosen state) rows (λ d. said_rows g marks rows (said_by_of (line_in state d)))) rows

abbrev pub turn_dealt_state : List ℕ → ℕ → List ℕ
turn_dealt_state state refusal = outcome refusal (counted_state state) state

-- How a turn ends: the row that was dealt is held.
abbrev pub answer_by : Session → Dealt → Answer
answer_by s d = holding d.refusal 0 (cond (ltb d.row row_count_of) (marked s d.row held) s)
