-- Between the functions of the code: the letters. No theorem is stated with this.
use Rattle.std.specs.Prelude.{ℕ, Bool, ◌||◌, eqb}

-- The letters whose lines may change the session.
abbrev pub is_change : ℕ → Bool
is_change l = eqb l 82 || (eqb l 84 || (eqb l 70 || (eqb l 76 || (eqb l 88 || (eqb l 68 || (eqb l 65 || eqb l 83))))))
