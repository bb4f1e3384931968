-- f and the v's of the other draw, taken out of it.
use Prim.Native.Nat.{ℕ, zero, suc, ◌+◌, ◌*◌, ◌-◌, ◌≤◌, ◌<◌}
use mathlib.Core.Path.{◌≡◌, refl, sym, ◌∙◌, ap}
use mathlib.Core.Bool.{Bool, true, false, cond}
use mathlib.Core.List.{List, ◌++◌}
use native.Mathlib.Nat.{suc-mul, zero-mul}
use native.Mathlib.Omega.{arith}
use lib.ListN.{length, take, drop}
use lib.Seq.{take_at, drop_at, drop-drop, length-take-le}
use Rattle.shape.specs.declared.Shape.{Shape}
use Rattle.shape.specs.Lengths.{f_length, v_length, draw_length}
use Rattle.sums.proofs.Writers.{length_combined}
use Rattle.parts.specs.Draw.{drawn_f, drawn_v}
use Rattle.vanishing.specs.Vanishing.{vanishing, distinct}
use Rattle.otherdraw.specs.Other.{no_posts, other_f, other_v, other_vs, moved}
use Rattle.vanishing.proofs.Vanish.{length_vanishing}
use Rattle.otherdraw_law.proofs.Sees.{length_v}

module _ (s : Shape) (posts points : List ℕ) (δ : ℕ) (draw : List ℕ) (long : length draw ≡ draw_length s) where
  abbrev k : ℕ
  k = v_length s

  length_old_f : length (drawn_f s draw) ≡ f_length s
  length_old_f = length-take-le (f_length s) draw (omega (arith, long))

  length_f : length (other_f s posts points δ draw) ≡ f_length s
  length_f =
      length_combined δ (drawn_f s draw) (vanishing (f_length s) posts) (length_old_f ∙ sym (length_vanishing (f_length s) posts)) ∙ length_old_f

  length_other_v : (j : ℕ) → 1 ≤ j → j ≤ s.n → length (other_v s posts points δ draw j) ≡ v_length s
  length_other_v j lo hi =
      length_combined _ (drawn_v s draw j) (vanishing (v_length s) (distinct points))
      (length_v s draw long j lo hi ∙ sym (length_vanishing (v_length s) (distinct points))) ∙ length_v s draw long j lo hi

  pub f_is : drawn_f s (moved s posts points δ draw) ≡ other_f s posts points δ draw
  unfolding moved
  f_is = take_at (other_f s posts points δ draw) _ (f_length s) length_f

  rest_is : drop (f_length s) (moved s posts points δ draw) ≡ cond (no_posts posts) (drop (f_length s) draw) (other_vs s posts points δ draw 1 s.n)
  unfolding moved
  rest_is = drop_at (other_f s posts points δ draw) _ (f_length s) length_f

  -- the v of post j + i, of those of m posts from j on
  vs_at : (i j m : ℕ) → 1 ≤ j → i < m → j + m ≤ suc s.n → take (v_length s) (drop (i * v_length s) (other_vs s posts points δ draw j m)) ≡ other_v s posts points δ draw (j + i)
  unfolding other_vs
  vs_at i j zero lo h e = absurd (omega arith)
  vs_at zero j (suc m) lo h e =
      ap (λ (x : ℕ). take k (drop x (other_v s posts points δ draw j ++ other_vs s posts points δ draw (suc j) m))) (zero-mul k)
      ∙ take_at (other_v s posts points δ draw j) _ k (length_other_v j lo (omega arith)) ∙ ap (other_v s posts points δ draw) (omega arith)
  vs_at (suc i) j (suc m) lo h e =
      ap (λ (x : ℕ). take k (drop x (other_v s posts points δ draw j ++ other_vs s posts points δ draw (suc j) m))) (let q : suc i * k ≡ k + i * k = omega (arith, suc-mul i k) in q)
      ∙ ap (take k) (sym (drop-drop (i * k) k (other_v s posts points δ draw j ++ other_vs s posts points δ draw (suc j) m)))
      ∙ ap (λ (l : List ℕ). take k (drop (i * k) l)) (drop_at (other_v s posts points δ draw j) _ k (length_other_v j lo (omega arith)))
      ∙ vs_at i (suc j) m (omega arith) (omega arith) (omega arith) ∙ ap (other_v s posts points δ draw) (omega arith)

  v_rest : (j : ℕ) (l rest : List ℕ) → drop (f_length s) l ≡ rest → drawn_v s l j ≡ take (v_length s) (drop ((j - 1) * v_length s) rest)
  v_rest j l rest e = ap (take k) (sym (drop-drop ((j - 1) * k) (f_length s) l)) ∙ ap (λ (x : List ℕ). take k (drop ((j - 1) * k) x)) e

  pub v_is : no_posts posts ≡ false → (j : ℕ) → 1 ≤ j → j ≤ s.n → drawn_v s (moved s posts points δ draw) j ≡ other_v s posts points δ draw j
  v_is e j lo hi =
      v_rest j (moved s posts points δ draw) (other_vs s posts points δ draw 1 s.n)
      (rest_is ∙ ap (λ (b : Bool). cond b (drop (f_length s) draw) (other_vs s posts points δ draw 1 s.n)) e)
      ∙ vs_at (j - 1) 1 s.n (omega arith) (omega arith) (omega arith) ∙ ap (other_v s posts points δ draw) (omega arith)

  pub v_stays : no_posts posts ≡ true → (j : ℕ) → drawn_v s (moved s posts points δ draw) j ≡ drawn_v s draw j
  v_stays e j =
      v_rest j (moved s posts points δ draw) (drop (f_length s) draw)
      (rest_is ∙ ap (λ (b : Bool). cond b (drop (f_length s) draw) (other_vs s posts points δ draw 1 s.n)) e)
      ∙ sym (v_rest j draw (drop (f_length s) draw) refl)

  pub rest_stays : no_posts posts ≡ true → drop (f_length s) (moved s posts points δ draw) ≡ drop (f_length s) draw
  rest_stays e = rest_is ∙ ap (λ (b : Bool). cond b (drop (f_length s) draw) (other_vs s posts points δ draw 1 s.n)) e
