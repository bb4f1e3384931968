-- What two draws with one record have in common: the listed posts' polynomials, the check values at their points, the public sums, f at the
-- posts, and the dealer's number.
use Prim.Native.Nat.{ℕ, zero, suc, ◌+◌, ◌*◌, ◌-◌, ◌≤◌, ◌<◌}
use mathlib.Core.Path.{◌≡◌, refl, sym, ◌∙◌, ap, ap₂, subst}
use mathlib.Core.List.{List, [], ◌∷◌, ◌++◌}
use native.Mathlib.Nat.{mul_comm, add-zero, mod-eq_of_lt, div-eq_of_lt, mul-add-mod_self_right, mul-add-div_right}
use native.Mathlib.Omega.{arith}
use lib.ListN.{length, take, drop, get_or, length-drop}
use lib.Seq.{take_at, drop_at, length-take-le}
use Rattle.field.specs.Modulus.{p}
use Rattle.field.specs.Arithmetic.{difference, sum}
use Rattle.field.specs.Element.{Element, element}
use Rattle.field.proofs.Expression.{A, B, ◌:+◌, ◌:-◌, Same}
use Rattle.field.proofs.Solver.{solve}
use Rattle.field.proofs.Elements.{𝓡, element_sum, element_injective}
use Rattle.poly.specs.Counting.{All, Elements}
use Rattle.poly.specs.Polynomial.{value}
use Rattle.poly.proofs.Bounds.{value_below}
use Rattle.poly.proofs.Lists.{all_zip}
use Rattle.shape.specs.declared.Shape.{Shape}
use Rattle.shape.specs.declared.Points.{Points}
use Rattle.shape.specs.Row.{point_at}
use Rattle.packs.specs.Packs.{points_at_of}
use Rattle.parts.proofs.Turns.{block_room}
use Rattle.shape.specs.Bounds.{last_row_at}
use Rattle.shape.specs.Lengths.{shape, f_length, v_length, checks_length, draw_length}
use Rattle.parts.specs.Draw.{drawn_f, drawn_v, each_from, part, check_of, sum_of}
use Rattle.parts.proofs.Laws.{drawn_room, length_each}
use Rattle.vectors.proofs.Draws.{element_at}
use Rattle.runs.specs.Draws.{Raw, when_raw, drawn_length, raw_draw}
use Rattle.otherdraw.proofs.Passed.{Given}
use Rattle.otherdraw_law.specs.OneRow.{Setting, plan_in, Behind, draw_of}
use Rattle.otherdraw_law.proofs.Told.{drawn_row, raw_there, packs_same, numbers_same}
open 𝓡 use {add as ◌⊕◌, neg}

infixl 65 ◌⊕◌
-- ---- a part taken apart

number_at : (f : ℕ → ℕ) (j m k : ℕ) → k < m → get_or (each_from j m f) k 0 ≡ f (j + k)
unfolding each_from
number_at f j zero k h = absurd (omega arith)
number_at f j (suc m) zero h = ap f (omega arith)
number_at f j (suc m) (suc k) h = number_at f (suc j) m k (omega arith) ∙ ap f (omega arith)

each_equal : (b : ℕ) (f g : ℕ → ℕ) (n : ℕ) → each_from b n f ≡ each_from b n g → (j : ℕ) → b ≤ j → j < b + n → f j ≡ g j
each_equal b f g n e j lo hi =
    let one : b + (j - b) ≡ j = omega arith in
    ap f (sym one) ∙ sym (number_at f b n (j - b) (omega arith)) ∙ ap (λ (l : List ℕ). get_or l (j - b) 0) e ∙ number_at g b n (j - b) (omega arith) ∙ ap g one

pub length_v : (s : Shape) (draw : List ℕ) → length draw ≡ draw_length s → (j : ℕ) → 1 ≤ j → j ≤ s.n → length (drawn_v s draw j) ≡ v_length s
length_v s draw e j lo hi =
    length-take-le (v_length s) _ (omega (arith, drawn_room s draw e j (omega arith), length-drop (f_length s + (j - 1) * v_length s) draw))

module _ (s : Shape) (i : ℕ) (w : Points) (a b : List ℕ) (la : length a ≡ draw_length s) (lb : length b ≡ draw_length s) (lo : 1 ≤ i) (hi : i ≤ s.n)
    (e : part s i w a ≡ part s i w b) where
  part_own : drawn_v s a i ≡ drawn_v s b i
  unfolding part
  part_own =
      sym (take_at (drawn_v s a i) _ (v_length s) (length_v s a la i lo hi)) ∙ ap (take (v_length s)) e
      ∙ take_at (drawn_v s b i) _ (v_length s) (length_v s b lb i lo hi)

  rest : (each_from 0 (checks_length s) (check_of s w a) ++ each_from 1 s.n (sum_of s a))
      ≡ (each_from 0 (checks_length s) (check_of s w b) ++ each_from 1 s.n (sum_of s b))
  unfolding part
  rest =
      sym (drop_at (drawn_v s a i) _ (v_length s) (length_v s a la i lo hi)) ∙ ap (drop (v_length s)) e
      ∙ drop_at (drawn_v s b i) _ (v_length s) (length_v s b lb i lo hi)

  all_checks : (m : ℕ) → m < checks_length s → check_of s w a m ≡ check_of s w b m
  all_checks m low =
      each_equal 0 (check_of s w a) (check_of s w b) (checks_length s)
      (sym (take_at (each_from 0 (checks_length s) (check_of s w a)) _ (checks_length s) (length_each _ 0 (checks_length s))) ∙ ap (take (checks_length s)) rest
      ∙ take_at (each_from 0 (checks_length s) (check_of s w b)) _ (checks_length s) (length_each _ 0 (checks_length s)))
      m (omega arith) (omega arith)

  -- the h-th of sender j's
  pub part_checks : (h : ℕ) → h < s.points → (j : ℕ) → 1 ≤ j → j ≤ s.n → value (drawn_v s a j) (point_at w h) ≡ value (drawn_v s b j) (point_at w h)
  part_checks h low zero lo' hi' = absurd (omega arith)
  part_checks h low (suc j) lo' hi' =
      sym (at a) ∙ all_checks (j * s.points + h) (omega (arith, low, block_room j s.n s.points (s.n * s.points) (omega arith) refl, mul_comm s.points s.n)) ∙ at b
    where
      at : (l : List ℕ) → check_of s w l (j * s.points + h) ≡ value (drawn_v s l (suc j)) (point_at w h)
      at l =
          ap₂ (λ (x y : ℕ). value (drawn_v s l (suc x)) (point_at w y))
          (mul-add-div_right (omega arith) j h ∙ ap (λ (z : ℕ). j + z) (div-eq_of_lt low) ∙ add-zero j)
          (mul-add-mod_self_right j s.points h ∙ mod-eq_of_lt low)

  part_sums : (j : ℕ) → 1 ≤ j → j ≤ s.n → sum_of s a j ≡ sum_of s b j
  part_sums j lo' hi' =
      each_equal 1 (sum_of s a) (sum_of s b) s.n
      (sym (drop_at (each_from 0 (checks_length s) (check_of s w a)) _ (checks_length s) (length_each _ 0 (checks_length s))) ∙ ap (drop (checks_length s)) rest
      ∙ drop_at (each_from 0 (checks_length s) (check_of s w b)) _ (checks_length s) (length_each _ 0 (checks_length s)))
      j lo' (omega arith)

-- the same added, the same sum
pub sum_cancel : (a x y : ℕ) → x < p → y < p → sum a x ≡ sum a y → x ≡ y
unfolding Same
sum_cancel a x y lx ly e =
    element_injective x y lx ly
    (solve 𝓡 (element x ∷ element a ∷ []) A (B :+ A :- B) refl
    ∙ ap (λ (z : Element). z ⊕ neg (element a)) (sym (element_sum a x) ∙ ap element e ∙ element_sum a y)
    ∙ solve 𝓡 (element y ∷ element a ∷ []) (B :+ A :- B) A refl)

-- ---- a draw behind another secret

module _ (S : Setting) (row : S.r ≤ last_row_at) (draw : List ℕ) (secret wanted : ℕ) (g : Given S.n S.t S.points S.ws draw secret wanted S.posts)
    (other : List ℕ) (b : Behind S draw secret wanted other) where
  abbrev s : Shape
  s = shape S.n S.t S.points

  drawn : (length other ≡ draw_length s) × Elements other
  unfolding draw_of raw_draw
  drawn =
      let h = b.is_draw.raws.each S.r (omega arith) in
      let e = drawn_there in
      (ap length (sym e) ∙ h.0 ∙ ap (λ (k : Raw). when_raw k (drawn_length (plan_in S)) 0) (raw_there S row), subst Elements e h.1)
    where
      drawn_there : get_or (draw_of S.r S.ws other).raws S.r [] ≡ other
      drawn_there = drawn_row S.r S.ws other row

  pub long : length other ≡ draw_length s
  long = drawn.0

  pub low : Elements other
  low = drawn.1

  abbrev point : ℕ → Points
  point i = points_at_of S.points S.ws (i - 1)

  pub own_same : All (λ i. drawn_v s other i ≡ drawn_v s draw i) S.posts
  own_same = all_zip (λ i h e. part_own s i (point i) other draw long g.draw_length_is h.0 h.1 e) S.posts g.posts_in (packs_same S row draw other secret wanted b)

  pub checks_same : All (λ i. (h : ℕ) → h < S.points → (j : ℕ) → 1 ≤ j → j ≤ S.n
      → value (drawn_v s other j) (point_at (points_at_of S.points S.ws (i - 1)) h) ≡ value (drawn_v s draw j) (point_at (points_at_of S.points S.ws (i - 1)) h)) S.posts
  checks_same = all_zip (λ i h e. part_checks s i (point i) other draw long g.draw_length_is h.0 h.1 e) S.posts g.posts_in (packs_same S row draw other secret wanted b)

  pub sums_same : All (λ i. (j : ℕ) → 1 ≤ j → j ≤ S.n → sum_of s other j ≡ sum_of s draw j) S.posts
  sums_same = all_zip (λ i h e. part_sums s i (point i) other draw long g.draw_length_is h.0 h.1 e) S.posts g.posts_in (packs_same S row draw other secret wanted b)

  pub f_same : All (λ i. value (drawn_f s other) i ≡ value (drawn_f s draw) i) S.posts
  f_same = all_zip f_at S.posts g.posts_in (all_zip (λ i x y. (x, y)) S.posts own_same sums_same)
    where
      f_at : (i : ℕ) → (1 ≤ i) × (i ≤ S.n) → (drawn_v s other i ≡ drawn_v s draw i) × ((j : ℕ) → 1 ≤ j → j ≤ S.n → sum_of s other j ≡ sum_of s draw j)
          → value (drawn_f s other) i ≡ value (drawn_f s draw) i
      f_at i h e =
          sum_cancel (get_or (drawn_v s draw i) 0 0) _ _ (value_below (drawn_f s other) i) (value_below (drawn_f s draw) i)
          (ap (λ (v : List ℕ). sum (get_or v 0 0) (value (drawn_f s other) i)) (sym e.0) ∙ e.1 i h.0 h.1)

  pub constant_same : difference wanted (get_or other 0 0) ≡ difference secret (get_or draw 0 0)
  constant_same =
      numbers_same S row draw other secret wanted b (omega (arith, g.valid.n_in)) g.secret_low g.wanted_low (element_at draw g.draw_elements 0)
      (element_at other low 0)
