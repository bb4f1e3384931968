-- Document 01, "Field, posts, rows": the number p. "An element is a whole number 0 to p − 1."
use Rattle.std.specs.Prelude.{ℕ}

abbrev pub p : ℕ
p = 2147483647
