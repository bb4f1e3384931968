-- How much is read at a time.
use Rattle.std.specs.Prelude.{ℕ}

-- The bytes of a chunk.
abbrev pub chunk_size : ℕ
chunk_size = 2048
