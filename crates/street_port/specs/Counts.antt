-- How printed bytes are counted.
use Rattle.std.specs.Prelude.{ℕ, ◌%◌, ◌^◌}

-- A count of printed bytes has 64 bits.
abbrev pub wrapped : ℕ → ℕ
wrapped n = n % 2 ^ 64
