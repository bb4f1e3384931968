-- Document 01, "From the factory", and document 02, (ix): where each number of a post's row comes from in the draw, at every n, t and number of points:
-- "t+1 coefficients of f, then" points · t + 1 "for each of v1 to vn"; "the coefficients of its own polynomial vi, constant first"; the check values, both of a
-- sender following one another; "mj = vj(0) + f(j)". Lengths are figures. Without it a draw whose polynomials stand in another order from n = 5 on was
-- met by every statement. Proved in proofs/Drawn.antt.
use Rattle.std.specs.Prelude.{ℕ, suc, ◌+◌, ◌*◌, ◌-◌, ◌/◌, ◌%◌, ◌≡◌, List, [], ◌∷◌, ◌++◌, take, drop, get_or}
use Rattle.field.specs.Arithmetic.{sum, product}
use Rattle.poly.specs.Polynomial.{value}
use Rattle.shape.specs.declared.Points.{Points}
use Rattle.shape.specs.Lengths.{shape}
use Rattle.shape.specs.Row.{point_at}
use Rattle.parts.specs.Draw.{each_from, part, first_draw, second_draw, third_draw}
use Rattle.packs.specs.Packs.{packs, triple_packs}

module _ (n t points : ℕ) (draw : List ℕ) where
  -- vj, j from 1 on
  abbrev pub of_post : ℕ → List ℕ
  of_post j = take (points * t + 1) (drop (t + 1 + (j - 1) * (points * t + 1)) draw)

  -- the m-th check value at the points w, m from 0 on
  abbrev pub checked_at : Points → ℕ → ℕ
  checked_at w m = value (of_post (suc (m / points))) (point_at w (m % points))

  abbrev pub summed_for : ℕ → ℕ
  summed_for j = sum (get_or (of_post j) 0 0) (value (take (t + 1) draw) j)

pub record DrawPlaced : Type 0 where
  pub row : (n t points i : ℕ) (w : Points) (draw : List ℕ)
      → part (shape n t points) i w draw
      ≡ of_post n t points draw i ++ (each_from 0 (points * n) (checked_at n t points draw w) ++ each_from 1 n (summed_for n t points draw))
  -- so many of them, one after the other
  pub no_more : (j : ℕ) (f : ℕ → ℕ) → each_from j 0 f ≡ []
  pub one_more : (j m : ℕ) (f : ℕ → ℕ) → each_from j (suc m) f ≡ f j ∷ each_from (suc j) m f
  -- a post's first point, and its second
  -- "Three such draws for l, l' and l'', but the third lacks f's constant, which is f(0) of l × f(0) of l'", and "all posts' rows of l, then of l', then of
  -- l''": without it l and l' exchanged from some n on were met by every statement
  pub triple : (n t points : ℕ) (ws draw : List ℕ)
      → (let d = t + 1 + n * (points * t + 1) in
      triple_packs (shape n t points) ws draw
      ≡ packs (shape n t points) ws (take d draw)
      ++ (packs (shape n t points) ws (take d (drop d draw))
      ++ packs (shape n t points) ws (product (get_or draw 0 0) (get_or draw d 0) ∷ drop (d + d) draw)))
  pub draws : (d : ℕ) (draw : List ℕ)
      → (first_draw d draw ≡ take d draw) × (second_draw d draw ≡ take d (drop d draw))
      × (third_draw d draw ≡ product (get_or draw 0 0) (get_or draw d 0) ∷ drop (d + d) draw)
  pub points_in_order : (w : Points) → (point_at w 0 ≡ w.first) × (point_at w 1 ≡ w.second)
