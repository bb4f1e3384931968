-- Between the functions that write ten digits at once. No theorem is stated with these.
use Rattle.std.specs.Prelude.{ℕ, ◌+◌, ◌*◌, List, [], ◌∷◌}

-- Four numbers in the quarters of one of 64 bits, the first in the lowest.
abbrev pub quarters : ℕ → ℕ → ℕ → ℕ → ℕ
quarters a b c d = a + b * 65536 + c * 4294967296 + d * 281474976710656

-- Bytes in one number, the first in the lowest.
unfoldable pub packed : List ℕ → ℕ
packed [] = 0
packed (b ∷ bs) = b + 256 * packed bs
