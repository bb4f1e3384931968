-- Document 01, "Field, posts, rows": "Each row has a mark".
use Rattle.std.specs.Prelude.{ℕ}
use Rattle.shape.specs.declared.Mark.{Mark}
use Rattle.shape.specs.declared.Mark.TheVariants.{Empty, Raw, Held, Unused, Further, Masked, Spent, Collected}

-- "0 empty; 1 raw (random, not dealt); 2 held"
abbrev pub empty : ℕ
empty = 0

abbrev pub raw : ℕ
raw = 1

abbrev pub held : ℕ
held = 2

-- "3 first row of an unused triple; 4 its second or third row". A Beaver triple: the rows of l, l' and l'', "such that l'' = ll'" (the
-- source, section 3.2).
abbrev pub unused : ℕ
unused = 3

abbrev pub further : ℕ
further = 4

-- "5 first row of a triple whose masks were sent; 6 spent"
abbrev pub masked : ℕ
masked = 5

abbrev pub spent : ℕ
spent = 6

-- document 02, (viii): "The first call opens y and y' and remembers them; the triple's first row then has mark 7."
abbrev pub collected : ℕ
collected = 7

-- of a record's block: "a mark (0 absent, 1 present)"
abbrev pub absent : ℕ
absent = 0

abbrev pub present : ℕ
present = 1

-- The number of a mark that code names.
abbrev pub mark_number : Mark → ℕ
mark_number Empty = empty
mark_number Raw = raw
mark_number Held = held
mark_number Unused = unused
mark_number Further = further
mark_number Masked = masked
mark_number Spent = spent
mark_number Collected = collected
