-- Between the functions of the code. No theorem is stated with these.
use Rattle.std.specs.Prelude.{ℕ, ◌+◌, ◌*◌, List, get_or}

-- the products of the numbers i and i + 1 of two lists, added up
abbrev pub two_products_of : List ℕ → List ℕ → ℕ → ℕ
two_products_of cs ws i = get_or cs i 0 * get_or ws i 0 + get_or cs (i + 1) 0 * get_or ws (i + 1) 0
