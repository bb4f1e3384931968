-- After which chunk the program stops, and whether something failed.
use Rattle.std.specs.Prelude.{Bool, true, not, cond, eqb}
use Rattle.street_chunks.specs.declared.Served.{Served}

-- A chunk is the last where it is empty or its answers were not taken.
abbrev pub stops_at : Served → Bool
stops_at s = cond (eqb s.got.count 0) true (not s.printed.whole)

-- Reading or printing failed: nothing is known of the end of a line, or its answer cannot be printed.
abbrev pub broken_off_of : Served → Bool
broken_off_of s = cond s.got.failed true (not s.printed.whole)
