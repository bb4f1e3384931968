-- The longest line: a formula in n and the number of coefficients, and the line that has it.
use Prim.Native.Nat.{ℕ, zero, suc, ◌+◌, ◌*◌, ◌-◌, ◌≤◌}
use mathlib.Core.Path.{◌≡◌, refl}
use mathlib.Core.List.{[], ◌∷◌, ◌++◌}
use mathlib.Core.Bool.{Bool, true, false, cond}
use native.Mathlib.Nat.{mul-le-mul, le_refl}
use native.Mathlib.Omega.{arith}
use borrow.Author.Tests.{le-ltb}
use lib.ListN.{length, replicate, length-append, length-replicate}
use lib.Dec.{eqb}
use Rattle.shape.specs.Bounds.{most_posts, last_row_at, last_triple}
use Rattle.shape.specs.Lengths.{shape, v_length}
use Rattle.refusal.specs.Conditions.{outside, any_beyond}
use Rattle.refusal.proofs.Laws.{inside}
use Rattle.decimal.specs.Numeral.{size_within, size}
use Rattle.decimal.proofs.Sizes.{size_pos, size_grows}
use Rattle.csv_fields.specs.Fields.{field, fields, written}
use Rattle.csv_fields.proofs.Overwriting.{length_field, length_fields_le}
use Rattle.csv_fields.proofs.Laying.{length_written}
use Rattle.forms.specs.Claims.{longest, NoneLonger, OneAsLong, LongestLines, AtMostLongest}
use Rattle.forms.proofs.Ranges.{last_row_le}
use Rattle.forms.proofs.RoundTrip.{WithinBounds, in_range}

-- one field
one_field : (x : ℕ) → length (fields (x ∷ [])) ≡ 1 + size x
unfolding fields
one_field x = omega (arith, length-append (field x) [], length_field x)

two_fields : (x y : ℕ) → length (fields (x ∷ y ∷ [])) ≡ 2 + size x + size y
unfolding fields
two_fields x y = omega (arith, length-append (field x) (field y ++ []), length-append (field y) [], length_field x, length_field y)

size_last_row : size last_row_at ≡ 2
unfolding size_within
size_last_row = refl

-- no line that posts send is longer
pub none_longer : NoneLonger
none_longer n k m l h = go (eqb m.letter 68) (eqb m.letter 79) h.count r.post
  where
    r : WithinBounds n m
    r = in_range n m h.in_range

    row : size m.row ≤ 2
    row = omega (arith, size_last_row, size_grows 9 m.row last_row_at (omega (arith, r.row, last_row_le m.letter)))

    go : (x y : Bool) → length m.numbers ≡ cond x 1 (cond y k (2 * k)) → cond x false (outside 1 n m.post) ≡ false
        → length (written m.letter (cond x (m.row ∷ m.numbers) (m.row ∷ m.post ∷ m.numbers))) ≤ longest n k
    go true y c p =
        omega (arith, length_written m.letter (m.row ∷ []) m.numbers, one_field m.row, length_fields_le m.numbers, row, size_pos 9 n)
    go false true c p =
        let q = size_grows 9 m.post n (inside 1 n m.post p).1 in
        omega (arith, length_written m.letter (m.row ∷ m.post ∷ []) m.numbers, two_fields m.row m.post, length_fields_le m.numbers, row)
    go false false c p =
        let q = size_grows 9 m.post n (inside 1 n m.post p).1 in
        omega (arith, length_written m.letter (m.row ∷ m.post ∷ []) m.numbers, two_fields m.row m.post, length_fields_le m.numbers, row)

-- and one is as long: the last triple's masks from the last post, with every coefficient p - 1
ten_digits_is : (j : ℕ) → length (fields (replicate j 2147483646)) ≡ 11 * j
unfolding fields size_within
ten_digits_is zero = refl
ten_digits_is (suc j) =
    omega (arith, length-append (field 2147483646) (fields (replicate j 2147483646)), length_field 2147483646, ten_digits_is j)

elements : (j : ℕ) → any_beyond (replicate j 2147483646) ≡ false
unfolding any_beyond
elements zero = refl
elements (suc j) = elements j

pub one_as_long : OneAsLong
unfolding size_within
one_as_long n k h = (
  record {
    letter_is = refl;
    count = length-replicate (2 * k) 2147483646;
    no_post = λ q. absurd (omega arith);
    in_range = rw (le-ltb n 1 h, le-ltb n n (omega arith)) (elements (2 * k));
  },
  omega (arith, length_written 77 (last_triple ∷ n ∷ []) (replicate (2 * k) 2147483646), two_fields last_triple n, ten_digits_is (2 * k)),
)

pub longest_lines : LongestLines
unfolding size_within
longest_lines = (refl, refl, refl)

-- fewer posts, or fewer coefficients, make no line longer
longest_grows : (n m k j : ℕ) → n ≤ m → k ≤ j → longest n k ≤ longest m j
longest_grows n m k j h g = omega (arith, size_grows 9 n m h)

pub at_most_longest : AtMostLongest
at_most_longest n t points m h g s =
    let k = v_length (shape n t points) in
    let reach = mul-le-mul {n₁ = points} {m₁ = t} {n₂ = points} {m₂ = most_posts - 1} (le_refl points) (omega arith) in
    omega (arith, none_longer n k m (omega arith) s, longest_grows n most_posts k (points * (most_posts - 1) + 1) h (omega (arith, reach)))
