-- Document 01's table, line by line, for a new session; proofs/Tables.antt shows that the call's own tests are this list.
use Rattle.std.specs.Prelude.{ℕ, ◌-◌, ◌≡◌, ◌||◌, ◌&&◌, List, [], ◌∷◌, eqb}
use Rattle.shape.specs.declared.Points.{Points}
use Rattle.refusal.specs.Refusal.{Test, ◌when◌}
use Rattle.refusal.specs.Conditions.{outside}
use Rattle.session.specs.Sessions.{session_tests}

abbrev pub new_table : ℕ → ℕ → ℕ → ℕ → Points → List Test
new_table n t post points w =
    1 when outside 2 255 n
    ∷ 2 when outside 1 (n - 1) t
    ∷ 3 when outside 1 n post
    ∷ 4 when (outside 1 2 points || (outside 1 2147483646 w.first || (eqb points 2 && outside 1 2147483646 w.second)))
    ∷ []

abbrev pub SessionTable : Type 0
SessionTable = (n t post points : ℕ) (w : Points) → session_tests n t post points w ≡ new_table n t post points w
