-- Document 02, (iv): a 13 comes "in either record of a finish, after 9".
use Rattle.std.specs.Prelude.{ℕ, cond, eqb}
use Rattle.refusal.specs.Refusal.{or_else}

-- The refusal of two openings: a 9 of either comes before a 13 of either.
abbrev pub either_of : ℕ → ℕ → ℕ
either_of a b = cond (eqb b 9) 9 (or_else a b)
