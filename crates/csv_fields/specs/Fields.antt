-- Document 01, "Broadcast lines": "fields parted by commas". Here every field stands behind its comma.
use Rattle.std.specs.Prelude.{Option, Some, None, ℕ, zero, suc, ◌+◌, ◌-◌, ◌<◌, List, [], ◌∷◌, ◌++◌, ◌&&◌, cond, length, get_or, take, drop, replicate, eqb, ltb}
use Rattle.decimal.specs.declared.Field.{Field}
use Rattle.csv_fields.specs.declared.Run.{Run}
use Rattle.decimal.specs.Numeral.{tens, numeral, field_at}

-- A comma and a number.
abbrev pub field : ℕ → List ℕ
field x = 44 ∷ numeral x

unfoldable pub fields : List ℕ → List ℕ
fields [] = []
fields (x ∷ xs) = field x ++ fields xs

-- "one line feed at the end": a line is a letter, fields and a line feed.
abbrev pub written : ℕ → List ℕ → List ℕ
written letter xs = letter ∷ (fields xs ++ (10 ∷ []))

-- Every number of a list has a numeral of at most 10 digits.
abbrev pub Small : List ℕ → Type 0
Small [] = Unit {0}
Small (x ∷ xs) = (x < tens 10) × Small xs

-- The list l with w written over it from a position on.
abbrev pub overwrite : ℕ → List ℕ → List ℕ → List ℕ
overwrite at w l = take at l ++ (w ++ drop (at + length w) l)

-- Number fields in a row: what they say, and the position behind them.
pub data Parsed : Type 0 where
  parsed : List ℕ → ℕ → Parsed
  malformed : Parsed

abbrev pub push : ℕ → Parsed → Parsed
push x (parsed xs next) = parsed (x ∷ xs) next
push x malformed = malformed

-- What stands behind a field, if it is one.
abbrev pub behind : Option Field → (ℕ → ℕ → Parsed) → Parsed
behind (Some f) rest = rest f.value f.next
behind None rest = malformed

-- The k number fields from a position of a line.
unfoldable pub fields_at : ℕ → List ℕ → ℕ → Parsed
fields_at zero s at = parsed [] at
fields_at (suc k) s at = cond (eqb (get_or s at 0) 44) (behind (field_at s (at + 1)) (λ x next. push x (fields_at k s next))) malformed

-- "one line feed at the end": fields that a line feed follows, and nothing more.
abbrev pub ended : List ℕ → Parsed → Parsed
ended s (parsed xs next) = cond (eqb (get_or s next 0) 10 && eqb (length s) (next + 1)) (parsed xs next) malformed
ended s malformed = malformed

abbrev pub numbers_of_of : Parsed → List ℕ
numbers_of_of (parsed xs next) = xs
numbers_of_of malformed = []

-- The largest of m and the numbers of a list.
abbrev pub largest_from : ℕ → List ℕ → ℕ
largest_from m [] = m
largest_from m (x ∷ xs) = largest_from (cond (ltb m x) x m) xs

-- The largest number of fields, and the position behind them.
abbrev pub run : ℕ → ℕ → Option Run
run largest next = Some (record { largest = largest; next = next })

-- What a first pass over fields tells of them.
abbrev pub run_from : ℕ → Parsed → Option Run
run_from m (parsed xs next) = run (largest_from m xs) next
run_from m malformed = None

abbrev pub run_of : Parsed → Option Run
run_of o = run_from 0 o

-- Every number of a list fits 32 bits.
abbrev pub Fits32 : List ℕ → Type 0
Fits32 [] = Unit {0}
Fits32 (x ∷ xs) = (x < 4294967296) × Fits32 xs

-- Fields whose numbers a list of 32-bit numbers can take.
abbrev pub Fillable : Parsed → Type 0
Fillable (parsed xs next) = Fits32 xs
Fillable malformed = ⊥

-- "the places behind are set to 0": k places, of which l takes the first.
abbrev pub padded : ℕ → List ℕ → List ℕ
padded k l = l ++ replicate (k - length l) 0
