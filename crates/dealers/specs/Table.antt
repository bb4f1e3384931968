-- The order of the tests, flat: document 01's table with document 02's 16, 17 and 10. Bounds, marks and bytes are figures, and the line is
-- read as the reader of broadcast lines reads it at this station. proofs/Laws.antt shows that the calls' refusals are the first of these.
use Rattle.std.specs.Prelude.{ℕ, zero, suc, ◌*◌, ◌-◌, ◌≡◌, Bool, false, not, ◌||◌, ◌&&◌, List, [], ◌∷◌, ◌++◌, eqb, ltb, length, get_or}
use Rattle.refusal.specs.Refusal.{Test, ◌when◌}
use Rattle.refusal.specs.Conditions.{outside, wrong_length, any_beyond}
use Rattle.shape.specs.Lengths.{v_length}
use Rattle.session.specs.declared.Session.{Session}
use Rattle.session.specs.Sessions.{shape_of}
use Rattle.session.specs.Rows.{width, row_at}
use Rattle.session.specs.Checks.{wrong_mark_of}
use Rattle.forms.specs.Lines.{Message}
use Rattle.forms.specs.Forms.{form_of, is_malformed, message, beyond_range}
use Rattle.dealers.specs.State.{chosen, line_in}

abbrev pub byte : List ℕ → ℕ → ℕ
byte state i = get_or state i 0

-- "a last dealer outside 1..8 or a place over 16 bytes": the places' lengths are the bytes 1, 18, .., 120
abbrev pub wrong_state : List ℕ → Bool
wrong_state state =
    outside 1 8 (byte state 0)
    || (ltb 16 (byte state 1) || (ltb 16 (byte state 18) || (ltb 16 (byte state 35) || (ltb 16 (byte state 52)
    || (ltb 16 (byte state 69) || (ltb 16 (byte state 86) || (ltb 16 (byte state 103) || ltb 16 (byte state 120))))))))

-- A state that 5 and 16 leave.
pub record SoundState (state : List ℕ) : Type 0 where
  pub long : length state ≡ 137
  pub fine : wrong_state state ≡ false

abbrev pub new_table : List ℕ → List Test
new_table state = 5 when wrong_length state 137 ∷ []

abbrev pub place_table : List ℕ → ℕ → ℕ → List Test
place_table state d len =
    5 when wrong_length state 137
    ∷ 16 when wrong_state state
    ∷ 16 when outside 1 8 d
    ∷ 17 when not (eqb (byte state (17 * d - 16)) 0)
    ∷ 10 when outside 1 16 len
    ∷ []

-- what a line says to this station's reader
abbrev pub read_here : Session → List ℕ → Message
read_here s line = message (v_length (shape_of s)) line

-- of a line taken; 68 is `D`
abbrev pub line_table : Session → List ℕ → List ℕ → List Test
line_table s rows line =
    10 when not (eqb (get_or line 0 0) 68)
    ∷ 10 when is_malformed (form_of (v_length (shape_of s)) line)
    ∷ 11 when beyond_range s.n (read_here s line)
    ∷ 6 when ltb 95 (read_here s line).row
    ∷ 7 when wrong_mark_of s (read_here s line).row 1
    ∷ 8 when ltb 2147483646 (get_or (read_here s line).numbers 0 0)
    ∷ 8 when any_beyond (row_at (width s) rows (read_here s line).row)
    ∷ []

-- "A turn refused with 1 to 5 or 16 takes no line and isn't counted."
abbrev pub count_table : Session → List ℕ → List ℕ → List Test
count_table s rows state =
    1 when outside 2 255 s.n
    ∷ 2 when outside 1 (s.n - 1) s.t
    ∷ 3 when outside 1 s.n s.post
    ∷ 4 when (outside 1 2 s.points || (outside 1 2147483646 s.first || (eqb s.points 2 && outside 1 2147483646 s.second)))
    ∷ 5 when wrong_length rows (96 * width s)
    ∷ 5 when wrong_length state 137
    ∷ 16 when wrong_state state
    ∷ []

-- once counted: where no line waits there is nothing more to ask
abbrev pub taken_table : Session → List ℕ → List ℕ → ℕ → List Test
taken_table s rows state zero = []
taken_table s rows state (suc d) = line_table s rows (line_in state (suc d))

abbrev pub turn_table : Session → List ℕ → List ℕ → List Test
turn_table s rows state = count_table s rows state ++ taken_table s rows state (chosen state)
