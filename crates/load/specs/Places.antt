-- "a triple goes to three empty rows r, r+1, r+2": the pack's numbers, l, l' and l'' one after the other, stand from the first of these rows on.
-- Proved in proofs/Placed.antt.
use Rattle.std.specs.Prelude.{ℕ, ◌+◌, ◌*◌, ◌≤◌, ◌<◌, ◌≡◌, List, length, get_or}
use Rattle.load.specs.Load.{with_triple}

abbrev pub TriplePlaces : Type 0
TriplePlaces =
    (w r : ℕ) (pack rows : List ℕ) → r * w + 3 * w ≤ length rows → length pack ≡ 3 * w → (i : ℕ) → i < 3 * w
    → get_or (with_triple w r pack rows) (r * w + i) 0 ≡ get_or pack i 0
