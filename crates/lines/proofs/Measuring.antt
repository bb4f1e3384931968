-- Whether a part has room for a line with a post.
use Prim.Native.Nat.{ℕ, ◌+◌, ◌*◌, ◌≤◌}
use mathlib.Core.Path.{◌≡◌, refl, ap, sym}
use mathlib.Core.List.{List, [], ◌∷◌, ◌++◌}
use mathlib.Core.Bool.{false}
use native.Mathlib.Omega.{arith}
use borrow.Author.Tests.{le-ltb}
use lib.ListN.{length, length-append}
use lib.Dec.{ltb}
use Rattle.shape.specs.Bounds.{most_posts, last_row_at}
use Rattle.decimal.specs.Numeral.{size_within, size}
use Rattle.decimal.proofs.Sizes.{size_grows}
use Rattle.csv_fields.specs.Fields.{field, fields, written}
use Rattle.csv_fields.proofs.Overwriting.{length_field, length_fields_le}
use Rattle.csv_fields.proofs.Laying.{length_written}

two_fields : (x y : ℕ) → length (fields (x ∷ y ∷ [])) ≡ 2 + size x + size y
unfolding fields
two_fields x y = omega (arith, length-append (field x) (field y ++ []), length-append (field y) [], length_field x, length_field y)

size_last_row : size last_row_at ≡ 2
unfolding size_within
size_last_row = refl

size_most_posts : size most_posts ≡ 3
unfolding size_within
size_most_posts = refl

module _ (room row post : ℕ) (xs : List ℕ) where
  pub roomy : row ≤ last_row_at → post ≤ most_posts → 9 + 11 * length xs ≤ room → false ≡ ltb room (length (written 0 (row ∷ post ∷ xs)))
  roomy h g r =
      let u : size row ≤ 2 = omega (arith, size_last_row, size_grows 9 row last_row_at h) in
      let v : size post ≤ 3 = omega (arith, size_most_posts, size_grows 9 post most_posts g) in
      sym (le-ltb room (length (written 0 (row ∷ post ∷ xs)))
      (omega (arith, length_written 0 (row ∷ post ∷ []) xs, two_fields row post, length_fields_le xs)))

  pub measured : (m : ℕ) → m ≡ length (written 0 ((row ∷ post ∷ []) ++ xs)) → ltb room m ≡ ltb room (length (written 0 (row ∷ post ∷ xs)))
  measured m e = ap (ltb room) e
