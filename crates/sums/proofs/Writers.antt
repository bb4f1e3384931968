-- The turns of the loops that copy a part, add to each of its numbers, or combine two.
use Prim.Native.Nat.{ℕ, zero, suc, ◌+◌, ◌≤◌, ◌<◌}
use mathlib.Core.Path.{◌≡◌, refl, sym, ◌∙◌, ap}
use mathlib.Core.List.{List, [], ◌∷◌, ◌++◌, map}
use native.Mathlib.Nat.{le_of_suc-le-suc, not-suc-le-zero}
use native.Mathlib.Omega.{arith}
use lib.ListN.{length, get_or, set, take, drop, length-map}
use Rattle.field.specs.Arithmetic.{sum, product}
use Rattle.session.specs.Rows.{combined}
use Rattle.lists.proofs.Filled.{filled_more, filled_read, filled_end}

get_or_mapped : (f : ℕ → ℕ) (l : List ℕ) (i : ℕ) → i < length l → get_or (map f l) i 0 ≡ f (get_or l i 0)
get_or_mapped f [] i h = absurd (not-suc-le-zero h)
get_or_mapped f (x ∷ l) zero h = refl
get_or_mapped f (x ∷ l) (suc i) h = get_or_mapped f l i (le_of_suc-le-suc h)

pub length_combined : (s : ℕ) (xs ys : List ℕ) → length xs ≡ length ys → length (combined s xs ys) ≡ length xs
unfolding combined
length_combined s [] ys e = refl
length_combined s (x ∷ xs) [] e = sym e
length_combined s (x ∷ xs) (y ∷ ys) e = ap suc (length_combined s xs ys (let q : suc (length xs) ≡ suc (length ys) = e in omega arith))

pub get_or_combined : (s : ℕ) (xs ys : List ℕ) (i : ℕ) → i < length xs → length xs ≡ length ys
    → get_or (combined s xs ys) i 0 ≡ sum (get_or xs i 0) (product s (get_or ys i 0))
unfolding combined
get_or_combined s [] ys i h e = absurd (not-suc-le-zero h)
get_or_combined s (x ∷ xs) [] i h e = absurd (omega arith)
get_or_combined s (x ∷ xs) (y ∷ ys) zero h e = refl
get_or_combined s (x ∷ xs) (y ∷ ys) (suc i) h e =
    get_or_combined s xs ys i (le_of_suc-le-suc h) (let q : suc (length xs) ≡ suc (length ys) = e in omega arith)

module _ (f : ℕ → ℕ) (l m : List ℕ) (i : ℕ) where
  pub mapped_more : (v : ℕ) → i < length l → m ≡ take i (map f l) ++ drop i l → v ≡ f (get_or m i 0)
      → set m i v ≡ take (i + 1) (map f l) ++ drop (i + 1) l
  mapped_more v h inv q =
      let e = length-map l f in
      let k : i < length (map f l) = omega arith in
      filled_more (map f l) l m i v k e inv (q ∙ ap f (filled_read (map f l) l m i k e inv) ∙ sym (get_or_mapped f l i h))

  pub mapped_end : length l ≤ i → m ≡ take i (map f l) ++ drop i l → m ≡ map f l
  mapped_end h inv = let e = length-map l f in filled_end (map f l) l m i (omega arith) e inv

module _ (s : ℕ) (xs ys before m : List ℕ) (i : ℕ) where
  pub combined_more : (v : ℕ) → i < length before → length xs ≡ length before → length ys ≡ length before
      → m ≡ take i (combined s xs ys) ++ drop i before → v ≡ sum (get_or xs i 0) (product s (get_or ys i 0))
      → set m i v ≡ take (i + 1) (combined s xs ys) ++ drop (i + 1) before
  combined_more v h ex ey inv ev =
      let e : length (combined s xs ys) ≡ length xs = length_combined s xs ys (ex ∙ sym ey) in
      filled_more (combined s xs ys) before m i v (omega arith) (e ∙ ex) inv
      (ev ∙ sym (get_or_combined s xs ys i (omega arith) (ex ∙ sym ey)))

  pub combined_end : length before ≤ i → length xs ≡ length before → length ys ≡ length before
      → m ≡ take i (combined s xs ys) ++ drop i before → m ≡ combined s xs ys
  combined_end h ex ey inv =
      let e : length (combined s xs ys) ≡ length xs = length_combined s xs ys (ex ∙ sym ey) in
      filled_end (combined s xs ys) before m i (omega arith) (e ∙ ex) inv
