-- Between the functions of the code: the answer to a start line, which has no session where it is refused. No theorem is stated
-- with these.
use Rattle.std.specs.Prelude.{ℕ, Option, Some, None, List, cond, length, ltb}
use Rattle.shape.specs.declared.Points.{Points}
use Rattle.refusal.specs.Refusal.{first}
use Rattle.session.specs.declared.Answer.{Answer}
use Rattle.session.specs.Sessions.{as_many_of, no_points, session_of, holding, answer}
use Rattle.street_store.specs.Sizes.{longest_line}
use Rattle.street_reading.specs.declared.Settings.{Settings}
use Rattle.street_reading.specs.Starting.{start_said}
use Rattle.street_startlines.specs.Steps.{start_tests}

abbrev pub begin_answer : ℕ → ℕ → ℕ → ℕ → Points → Answer
begin_answer n t post points w =
    answer (first (start_tests n t post points w)) 0 (session_of n t post points (as_many_of points w)) (session_of 0 0 0 0 no_points)

abbrev pub settings_answer : Option Settings → Answer
settings_answer (Some f) = begin_answer f.n f.t f.post f.points (record { first = f.first; second = f.second })
settings_answer None = holding 10 0 (session_of 0 0 0 0 no_points)

unfoldable pub start_answer : List ℕ → Answer
start_answer s = cond (ltb longest_line (length s)) (holding 10 0 (session_of 0 0 0 0 no_points)) (settings_answer (start_said s))
