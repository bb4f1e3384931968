-- The masks, number by number.
use Prim.Native.Nat.{ℕ, ◌+◌, ◌*◌, ◌-◌, ◌≤◌, ◌<◌}
use mathlib.Core.Path.{◌≡◌, sym, ◌∙◌, ap, ap₂}
use mathlib.Core.List.{List, ◌++◌}
use native.Mathlib.Omega.{arith}
use lib.ListN.{length, get_or, take, length-append, get_or-append}
use lib.Seq.{get_or-take, get_or-append-add, length-take-le}
use Rattle.field.specs.Arithmetic.{sum, product}
use Rattle.field.specs.Modulus.{p}
use Rattle.session.specs.declared.Session.{Session}
use Rattle.session.specs.Rows.{width, row_at}
use Rattle.session.proofs.RowLaws.{length_row}
use Rattle.session.proofs.Placed.{places}
use Rattle.product_masks.specs.Masks.{less, mask_numbers_of}
use Rattle.product_masks.specs.Places.{MasksPlaced, MaskPlaces}

module _ (s : Session) (rows : List ℕ) (size : length rows ≡ 96 * width s) where
  abbrev w : ℕ
  w = width s

  -- the coefficients of row x less row y
  abbrev half : ℕ → ℕ → List ℕ
  half x y = take (s.points * s.t + 1) (less (row_at w rows x) (row_at w rows y))

  row_long : (x : ℕ) → x ≤ 95 → length (row_at w rows x) ≡ w
  row_long x h = length_row w 96 rows x size (omega arith)

  less_long : (x y : ℕ) → x ≤ 95 → y ≤ 95 → length (less (row_at w rows x) (row_at w rows y)) ≡ w
  less_long x y h g =
      (places.combined_rows (p - 1) (row_at w rows x) (row_at w rows y) (row_long x h ∙ sym (row_long y g))).as_long ∙ row_long x h

  half_long : (x y : ℕ) → x ≤ 95 → y ≤ 95 → length (half x y) ≡ s.points * s.t + 1
  half_long x y h g = length-take-le (s.points * s.t + 1) (less (row_at w rows x) (row_at w rows y)) (omega (arith, less_long x y h g))

  half_at : (x y : ℕ) → x ≤ 95 → y ≤ 95 → (i : ℕ) → i < s.points * s.t + 1
      → get_or (half x y) i 0 ≡ sum (get_or rows (x * w + i) 0) (product 2147483646 (get_or rows (y * w + i) 0))
  half_at x y h g i l =
      let low : i < w = omega arith in
      get_or-take (s.points * s.t + 1) (less (row_at w rows x) (row_at w rows y)) i 0 l
      ∙ (places.combined_rows (p - 1) (row_at w rows x) (row_at w rows y) (row_long x h ∙ sym (row_long y g))).each i (omega (arith, row_long x h))
      ∙ ap₂ (λ (m n : ℕ). sum m (product 2147483646 n)) ((places.rows w rows x).read i low) ((places.rows w rows y).read i low)

  placed : (a b r : ℕ) → a ≤ 95 → b ≤ 95 → r ≤ 93 → MasksPlaced s rows a b r
  unfolding mask_numbers_of
  placed a b r ha hb hr =
      let long_a = half_long a r ha (omega arith) in
      let long_b = half_long b (r + 1) hb (omega arith) in
      record {
        of_a = λ i h. get_or-append (half a r) (half b (r + 1)) 0 i (omega (arith, long_a)) ∙ half_at a r ha (omega arith) i h;
        of_b = λ i h.
            ap (λ (n : ℕ). get_or (half a r ++ half b (r + 1)) (n + i) 0) (sym long_a)
            ∙ get_or-append-add (half a r) (half b (r + 1)) i 0
            ∙ half_at b (r + 1) hb (omega arith) i h;
        long = length-append (half a r) (half b (r + 1)) ∙ omega (arith, long_a, long_b);
      }

pub mask_places : MaskPlaces
mask_places s rows a b r size ha hb hr = placed s rows size a b r ha hb hr
