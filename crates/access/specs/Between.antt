-- What the functions of the A line hand to one another.
use Rattle.std.specs.Prelude.{Option, Some, None, ℕ, zero, suc, ◌+◌, Bool, true, false, not, ◌||◌, ◌&&◌, cond, List, [], ◌∷◌, eqb, ltb, length, get_or}
use Rattle.refusal.specs.Refusal.{Test, ◌when◌, first, outcome}
use Rattle.refusal.specs.Conditions.{outside}
use Rattle.session.specs.declared.Session.{Session}
use Rattle.session.specs.Sessions.{points_of, session_tests}
use Rattle.session.specs.Checks.{no_row}
use Rattle.csv_fields.specs.declared.Run.{Run}
use Rattle.csv_fields.specs.Fields.{Parsed, parsed, malformed, fields_at, run_of}
use Rattle.access.specs.declared.Posts.{Posts}
use Rattle.access.specs.declared.Read.{Read}
use Rattle.access.specs.Access.{rising, any_outside, every_post, admitted, admitted_all}

-- A walk over posts after one field more.
abbrev pub further : ℕ → Posts → Option Run → Posts
further n p (Some r) =
    record {
      at = r.next;
      begun = true;
      low = r.largest;
      rising = p.rising && (not p.begun || ltb p.low r.largest);
      out = p.out || outside 1 n r.largest;
      words = admitted p.words r.largest;
    }
further n p None =
    record { at = p.at; begun = p.begun; low = p.low; rising = false; out = p.out; words = p.words }

-- And after k of them.
unfoldable pub walked : ℕ → ℕ → List ℕ → Posts → Posts
walked zero n s p = p
walked (suc k) n s p = walked k n s (further n p (run_of (fields_at 1 s p.at)))

abbrev pub start : ℕ → Posts
start at = record { at = at; begun = false; low = 0; rising = true; out = false; words = every_post }

-- ---- what a line says

-- The refusal of a line whose form is right, which knows no session's marks: posts that do not rise, then a row or a post that is none.
abbrev pub line_tests : Bool → Bool → ℕ → List Test
line_tests risen out row = 10 when not risen ∷ 11 when (no_row row || out) ∷ []

-- 10
abbrev pub unread : Read
unread = record { refusal = 10; row = 0; words = every_post }

-- 11
abbrev pub beyond : Read
beyond = record { refusal = 11; row = 0; words = every_post }

unfoldable pub told : Bool → Bool → ℕ → List ℕ → Read
told risen out row words =
    outcome (first (line_tests risen out row)) (record { refusal = 0; row = row; words = words })
    (record { refusal = first (line_tests risen out row); row = 0; words = every_post })

abbrev pub read_of : ℕ → Parsed → Read
read_of n (parsed [] next) = unread
read_of n (parsed (r ∷ cs) next) = told (rising cs) (any_outside n cs) r (admitted_all every_post cs)
read_of n malformed = unread

-- What a walk says that has come to a position, where the line must end.
unfoldable pub ended_of : List ℕ → ℕ → Posts → Read
ended_of s row p = cond (eqb (get_or s p.at 0) 10 && eqb (length s) (p.at + 1)) (told p.rising p.out row p.words) unread

-- 1 to 4, of a session.
abbrev pub settings_of : Session → List Test
settings_of s = session_tests s.n s.t s.post s.points (points_of s)
