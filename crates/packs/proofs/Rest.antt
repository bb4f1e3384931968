-- A draw as its first number and the rest: f's further coefficients, then v1 to vn.
use Prim.Native.Nat.{ℕ, zero, suc, ◌+◌, ◌*◌, ◌-◌, ◌≤◌, ◌<◌}
use mathlib.Core.Path.{◌≡◌, refl, sym, ◌∙◌, ap, ap₂}
use mathlib.Core.List.{List, [], ◌∷◌, ◌++◌}
use native.Mathlib.Numerals.{add-one}
use native.Mathlib.Nat.{zero-mul, mul-le-mul_right}
use native.Mathlib.Omega.{arith}
use lib.ListN.{length, take, drop, get_or, length-drop, take-append-drop}
use lib.Seq.{length-take-le, take_all}
use Rattle.shape.specs.declared.Shape.{Shape}
use Rattle.shape.specs.declared.Points.{Points}
use Rattle.shape.specs.Lengths.{f_length, v_length, sums_at_of, row_length, draw_length, packs_length}
use Rattle.packs.specs.Packs.{points_at_of, points_from, parts_from, packs}
use Rattle.parts.specs.Between.{sums, Higher}
use Rattle.packs.specs.Between.{first_sums, parts_with, points_on_of, PostsRoom, Fine}
use Rattle.parts.specs.Draw.{part}
use Rattle.parts.proofs.Parts.{part_split}
use Rattle.packs.proofs.Passed.{first_sums_of}

-- f's coefficients in front of v1 to vn
parts_split : (s : Shape) (f vs : List ℕ) → length f ≡ f_length s → (u v : ℕ → Points) → ((i : ℕ) → u (suc i) ≡ v i) → (i m : ℕ)
    → parts_from s (f ++ vs) u (suc i) m ≡ parts_with s vs (sums s f vs) v i m
unfolding parts_from parts_with
parts_split s f vs sized u v same i zero = refl
parts_split s f vs sized u v same i (suc m) =
    ap₂ ◌++◌ (ap (λ (w : Points). part s (suc i) w (f ++ vs)) (same i) ∙ part_split s f vs sized i (v i)) (parts_split s f vs sized u v same (suc i) m)

-- no posts, no parts
none_written : (s : Shape) (draw out : List ℕ) (w : ℕ → Points) (i m : ℕ) → m < 1 → length out ≡ m * row_length s
    → out ≡ parts_from s draw w i m
unfolding parts_from
none_written s draw [] w i zero h e = refl
none_written s draw (x ∷ out) w i zero h e = absurd (omega (arith, e, zero-mul (row_length s)))
none_written s draw out w i (suc m) h e = absurd (omega arith)

pub none_there : (s : Shape) (i count c : ℕ) (points rest out : List ℕ) → PostsRoom s i count points rest out → count < 1
    → out ≡ parts_from s (c ∷ rest) (points_from s points i) (i + 1) count
none_there s i count c points rest out room h = none_written s (c ∷ rest) out (points_from s points i) (i + 1) count h room.room

-- `write_posts` cuts the rest behind f
module _ (s : Shape) (i count f : ℕ) (points rest out : List ℕ) (room : PostsRoom s i count points rest out) (ef : f ≡ f_length s) where
  rest_length : length rest ≡ (f - 1) + s.n * v_length s
  rest_length = omega (arith, room.drawn, ef)

  pub higher_length : length (take (f - 1) rest) ≡ f - 1
  higher_length = length-take-le (f - 1) rest (omega (arith, rest_length))

  pub higher_fits : Higher s (take (f - 1) rest)
  higher_fits = omega (arith, higher_length, ef)

  rest_split : take (length rest - (f - 1)) (drop (f - 1) rest) ≡ drop (f - 1) rest
  rest_split = take_all (length rest - (f - 1)) (drop (f - 1) rest) (omega (arith, length-drop (f - 1) rest))

  pub vs_drawn : length (take (length rest - (f - 1)) (drop (f - 1) rest)) ≡ s.n * v_length s
  vs_drawn = ap length rest_split ∙ omega (arith, length-drop (f - 1) rest, rest_length)

  module _ (w : ℕ) (ew : w ≡ row_length s) (some : 1 ≤ count) where
    pub first_inside : w ≤ length out
    first_inside = omega (arith, ew, room.room, mul-le-mul_right {m = 1} {n = count} (row_length s) some)

    pub first_lent : length (take w out) ≡ w
    first_lent = length-take-le w out first_inside

    pub first_row : length (take w out) ≡ row_length s
    first_row = first_lent ∙ ew

    -- the sums stand in the first row
    sums_first : (ys m : List ℕ) → length ys ≡ length (take w out) → drop (sums_at_of s) ys ≡ m → first_sums s (ys ++ drop w out) ≡ m
    sums_first ys m same e =
        let sized : length ys ≡ row_length s = same ∙ first_row in
        first_sums_of s ys (drop w out) (omega (arith, sized))
        ∙ take_all s.n (drop (sums_at_of s) ys) (omega (arith, length-drop (sums_at_of s) ys, sized)) ∙ e

    pub posts_written : (c : ℕ) (ys l : List ℕ) → length ys ≡ length (take w out)
        → drop (sums_at_of s) ys ≡ sums s (c ∷ take (f - 1) rest) (take (length rest - (f - 1)) (drop (f - 1) rest))
        → l ≡ parts_with s (take (length rest - (f - 1)) (drop (f - 1) rest)) (first_sums s (ys ++ drop w out)) (points_on_of s points i) i count
        → l ≡ parts_from s (c ∷ rest) (points_from s points i) (i + 1) count
    posts_written c ys l same e g =
        let vs = take (length rest - (f - 1)) (drop (f - 1) rest) in
        let whole : (c ∷ take (f - 1) rest) ++ vs ≡ c ∷ rest =
        ap (λ (r : List ℕ). c ∷ (take (f - 1) rest ++ r)) rest_split ∙ ap (λ (r : List ℕ). c ∷ r) (take-append-drop (f - 1) rest) in
        g ∙ ap (λ (k : List ℕ). parts_with s vs k (points_on_of s points i) i count) (sums_first ys _ same e)
        ∙ sym
        (parts_split s (c ∷ take (f - 1) rest) vs (sym (add-one _) ∙ higher_fits) (points_from s points i) (points_on_of s points i)
        (λ x. ap (points_at_of s.points points) (one_less x)) i count)
        ∙ ap₂ (λ (d : List ℕ) (j : ℕ). parts_from s d (points_from s points i) j count) whole (sym (add-one i))
      where
        one_less : (x : ℕ) → suc x - (i + 1) ≡ x - i
        one_less x = omega arith

-- the draw of a row, whose first number stands in it
pub rest_of : (draw : List ℕ) → 0 < length draw → get_or draw 0 0 ∷ take (length draw - 1) (drop 1 draw) ≡ draw
rest_of [] h = absurd (omega arith)
rest_of (x ∷ xs) h = ap (λ (r : List ℕ). x ∷ r) (take_all (length (x ∷ xs) - 1) xs (omega arith))

module _ (s : Shape) (points draw out : List ℕ) (fine : Fine s points draw (draw_length s) out (packs_length s)) where
  pub some_drawn : 0 < length draw
  some_drawn = omega (arith, fine.draw_length_is)

  pub row_room : PostsRoom s 0 s.n points (take (length draw - 1) (drop 1 draw)) out
  row_room = record {
    valid = fine.valid;
    posts = omega arith;
    pointed = fine.points_length;
    drawn = add-one _ ∙ ap length (rest_of draw some_drawn) ∙ fine.draw_length_is;
    room = fine.out_length;
  }

  pub row_written : (l : List ℕ) → l ≡ parts_from s (get_or draw 0 0 ∷ take (length draw - 1) (drop 1 draw)) (points_from s points 0) (0 + 1) s.n
      → l ≡ packs s points draw
  row_written l e = e ∙ ap (λ (d : List ℕ). packs s points d) (rest_of draw some_drawn)
