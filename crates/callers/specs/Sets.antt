-- Document 02, (xi): "Each row gets a set of posts that may call for its opening", kept as the posts that may not: eight numbers of 32 bits
-- a row, in one array. A new session's are zeros: "without that line it is all posts".
use Rattle.std.specs.Prelude.{ℕ, zero, suc, ◌+◌, ◌*◌, ◌-◌, ◌/◌, ◌%◌, ◌^◌, ◌≤◌, ◌<◌, ◌≡◌, ◌≢◌, Bool, false, ◌||◌, List, [], ◌∷◌, eqb, length, get_or, set}
use Rattle.std.specs.Int.Bits.{bit_or}

abbrev pub sets_length : ℕ
sets_length = 768

abbrev pub bit_at : ℕ → ℕ → Bool
bit_at word k = eqb (word / 2 ^ k % 2) 1

-- Row r bars post c, which is 1 to 255.
abbrev pub bars : List ℕ → ℕ → ℕ → Bool
bars sets r c = bit_at (get_or sets (8 * r + (c - 1) / 32) 0) ((c - 1) % 32)

-- "A row made from others has the posts that all of them share": row d bars whom row a or row b bars. The first k numbers of it.
unfoldable pub shared : ℕ → List ℕ → ℕ → ℕ → ℕ → List ℕ
shared zero sets d a b = sets
shared (suc k) sets d a b =
    set (shared k sets d a b) (8 * d + k) (bit_or (get_or (shared k sets d a b) (8 * a + k) 0) (get_or (shared k sets d a b) (8 * b + k) 0))

abbrev pub SharesBoth : Type 0
SharesBoth =
    (sets : List ℕ) (d a b c : ℕ) → length sets ≡ sets_length → d < 96 → 1 ≤ c → c ≤ 255
    → (bars (shared 8 sets d a b) d c ≡ bars sets a c || bars sets b c)
    × ((r : ℕ) → r ≢ d → bars (shared 8 sets d a b) r c ≡ bars sets r c)

-- And number by number, the last bit too, which is no post's: the eight numbers of row d are those of the two rows joined bit by bit, and every other is
-- as it was.
abbrev pub SharesWords : Type 0
SharesWords =
    (sets : List ℕ) (d a b j : ℕ) → length sets ≡ 768 → d < 96 → j < 8
    → (get_or (shared 8 sets d a b) (8 * d + j) 0 ≡ bit_or (get_or sets (8 * a + j) 0) (get_or sets (8 * b + j) 0))
    × ((r : ℕ) → r ≢ d → get_or (shared 8 sets d a b) (8 * r + j) 0 ≡ get_or sets (8 * r + j) 0)

-- The same over rows: nobody is barred from row d (there is no row 96, which bars nobody), then whom each of these rows bars.
abbrev pub unbarred : List ℕ → ℕ → List ℕ
unbarred sets d = shared 8 sets d 96 96

abbrev pub joining : ℕ → List ℕ → List ℕ → List ℕ
joining d [] sets = sets
joining d (a ∷ rest) sets = joining d rest (shared 8 sets d d a)

abbrev pub shared_all : List ℕ → ℕ → List ℕ → List ℕ
shared_all sets d rows = joining d rows (unbarred sets d)

-- Row d bars just whom one of these rows bars, which are others; every other row bars whom it barred.
abbrev pub any_bars : List ℕ → ℕ → List ℕ → Bool
any_bars sets c [] = false
any_bars sets c (a ∷ rows) = bars sets a c || any_bars sets c rows

abbrev pub Others : ℕ → List ℕ → Type 0
Others d [] = Unit {0}
Others d (a ∷ rows) = (a ≢ d) × Others d rows

abbrev pub SharesAll : Type 0
SharesAll =
    (sets : List ℕ) (d : ℕ) (rows : List ℕ) (c : ℕ) → length sets ≡ sets_length → d < 96 → Others d rows → 1 ≤ c → c ≤ 255
    → (bars (shared_all sets d rows) d c ≡ any_bars sets c rows)
    × ((r : ℕ) → r ≢ d → bars (shared_all sets d rows) r c ≡ bars sets r c)
