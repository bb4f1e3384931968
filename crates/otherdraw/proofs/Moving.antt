-- The whole draw moved: f's part, and then the rest as it is, or the v's changed.
use Prim.Native.Nat.{ℕ, zero, suc, ◌+◌, ◌*◌, ◌-◌, ◌≤◌, ◌<◌}
use mathlib.Core.Path.{◌≡◌, refl, sym, ◌∙◌, ap, ap₂, subst}
use mathlib.Core.Bool.{true, false, cond, false≢true}
use mathlib.Core.List.{List, [], ◌∷◌, ◌++◌}
use native.Mathlib.Nat.{suc-mul, zero-mul}
use native.Mathlib.Numerals.{add-one}
use native.Mathlib.Omega.{arith}
use borrow.Author.Tests.{eqb-true}
use lib.Dec.{eqb}
use lib.ListN.{length, get_or, take, drop, length-drop, length-append}
use lib.Seq.{length-take-le, take_at}
use Rattle.field.specs.Modulus.{p}
use Rattle.field.specs.Arithmetic.{difference, product}
use Rattle.poly.specs.Polynomial.{value}
use Rattle.poly.proofs.Lists.{all_map, all_at, all_join}
use Rattle.shape.specs.declared.Shape.{Shape}
use Rattle.shape.specs.Lengths.{f_length, v_length}
use Rattle.session.specs.Rows.{combined}
use Rattle.sums.proofs.Writers.{length_combined}
use Rattle.vanishing.specs.Vanishing.{vanishing, distinct}
use Rattle.vanishing.specs.Between.{Nonzero}
use Rattle.vanishing.proofs.Vanish.{length_vanishing}
use Rattle.vanishing.proofs.Theorems.{vanishes}
use Rattle.otherdraw.specs.Other.{no_posts, other_f, other_vs, points_of, moved}
use Rattle.otherdraw.specs.Between.{changed, vs_with, Rooted, Changing, Seeing}

-- the check points of the listed posts are not 0, as those of all posts
points_nonzero : (k : ℕ) (ws posts : List ℕ) → Nonzero ws → Nonzero (points_of k ws posts)
unfolding points_of
points_nonzero k ws [] a = tt
points_nonzero k ws (i ∷ is) a =
    all_join (λ x. (1 ≤ x) × (x < p)) (take k (drop ((i - 1) * k) ws)) (points_of k ws is) (nonzero_take k (drop ((i - 1) * k) ws) (nonzero_drop ((i - 1) * k) ws a))
    (points_nonzero k ws is a)
  where
    nonzero_take : (m : ℕ) (l : List ℕ) → Nonzero l → Nonzero (take m l)
    nonzero_take zero l a = tt
    nonzero_take (suc m) [] a = tt
    nonzero_take (suc m) (x ∷ l) a = (a.0, nonzero_take m l a.1)

    nonzero_drop : (m : ℕ) (l : List ℕ) → Nonzero l → Nonzero (drop m l)
    nonzero_drop zero l a = a
    nonzero_drop (suc m) [] a = tt
    nonzero_drop (suc m) (x ∷ l) a = nonzero_drop m l a.1

pub known_nonzero : (s : Shape) (ws posts root draw known factor powers out k : List ℕ) → Seeing s ws posts root draw known factor powers out
    → k ≡ points_of s.points ws posts → Nonzero k
known_nonzero s ws posts root draw known factor powers out k r e = subst Nonzero (sym e) (points_nonzero s.points ws posts r.gathering.ws_nonzero)

-- nor are the posts
pub posts_nonzero : (s : Shape) (ws posts root draw known factor powers out : List ℕ) → Seeing s ws posts root draw known factor powers out → Nonzero posts
posts_nonzero s ws posts root draw known factor powers out r =
    all_map (λ i h. (h.0, omega (arith, h.1, r.gathering.valid.n_in))) posts r.gathering.posts_in

-- rooms written, and then read
module _ (s : Shape) (δ : ℕ) (ws posts root draw known factor powers out k f new : List ℕ) (r : Seeing s ws posts root draw known factor powers out)
    (ρ : Rooted root posts) (ek : k ≡ points_of s.points ws posts) (ef : f ≡ vanishing (length factor) (distinct k)) where
  factor_long : length f ≡ length factor
  factor_long = ap length ef ∙ length_vanishing (length factor) (distinct k)

  pub seen_changing : Changing s.n (length root) posts root f draw powers out
  seen_changing =
      record {
        most = r.gathering.valid.n_in.1;
        valued = (omega (arith, r.root_length, r.powers_length), omega (arith, r.root_length, r.gathering.valid.t_in, r.gathering.valid.n_in));
        long = r.draw_length_is ∙ ap₂ (λ (a b : ℕ). a + s.n * b) (sym r.root_length) (sym (factor_long ∙ r.factor_length));
        same = r.draw_length_is ∙ sym r.out_length;
        rooted = ρ;
        elements = r.draw_elements;
      }

  pub seen_changed : new ≡ take (length root) out ++ vs_with (length f) root f δ draw (length root) 0 s.n
      → new ≡ take (length root) out ++ vs_with (length factor) root (vanishing (length factor) (distinct (points_of s.points ws posts))) δ draw (length root) 0 s.n
  seen_changed e =
      e
      ∙ ap₂ (λ (m : ℕ) (l : List ℕ). take (length root) out ++ vs_with m root l δ draw (length root) 0 s.n) factor_long
      (ef ∙ ap (λ (l : List ℕ). vanishing (length factor) (distinct l)) ek)

-- the v's one after the other, by place and by post
vs_are : (s : Shape) (posts points : List ℕ) (δ : ℕ) (draw : List ℕ) (m i at : ℕ) → at ≡ f_length s + i * v_length s
    → vs_with (v_length s) (vanishing (f_length s) posts) (vanishing (v_length s) (distinct points)) δ draw at i m ≡ other_vs s posts points δ draw (suc i) m
unfolding vs_with other_vs
vs_are s posts points δ draw zero i at e = refl
vs_are s posts points δ draw (suc m) i at e =
    let before : suc i - 1 ≡ i = omega arith in
    ap₂ ◌++◌
    (ap₂ (λ (j x : ℕ). combined (difference 0 (product δ (value (vanishing (f_length s) posts) j))) (take (v_length s) (drop x draw)) (vanishing (v_length s) (distinct points)))
    (add-one i) (e ∙ ap (λ (x : ℕ). f_length s + x * v_length s) (sym before)))
    (vs_are s posts points δ draw m (suc i) (at + v_length s) (omega (arith, e, suc-mul i (v_length s))))

module _ (s : Shape) (δ : ℕ) (ws posts root draw known factor powers out o : List ℕ) (g : Seeing s ws posts root draw known factor powers out)
    (eo : o ≡ changed 0 δ (vanishing (length root) posts) draw out) where
  L : List ℕ
  L = vanishing (length root) posts

  long : length (vanishing (length root) posts) ≡ length root
  long = length_vanishing (length root) posts

  room : length root ≤ length draw
  room = omega (arith, g.root_length, g.draw_length_is)

  f_new : List ℕ
  f_new = combined δ (take (length root) draw) (vanishing (length root) posts)

  f_long : length f_new ≡ length root
  unfolding f_new
  f_long =
      let l : length (take (length root) draw) ≡ length root = length-take-le (length root) draw room in
      length_combined δ (take (length root) draw) (vanishing (length root) posts) (l ∙ sym long) ∙ l

  o_is : o ≡ f_new ++ drop (length root) out
  unfolding f_new
  o_is = eo ∙ ap (λ (k : ℕ). combined δ (take k draw) (vanishing (length root) posts) ++ drop k out) long

  pub o_long : length draw ≡ length o
  o_long =
      sym
      (ap length o_is ∙ length-append f_new (drop (length root) out)
      ∙ (let q : length f_new + length (drop (length root) out) ≡ length draw = omega (arith, f_long, length-drop (length root) out, g.draw_length_is, g.out_length, g.root_length) in q))

  front : take (length root) o ≡ f_new
  front = ap (take (length root)) o_is ∙ take_at f_new _ (length root) f_long

  f_is : f_new ≡ other_f s posts (points_of s.points ws posts) δ draw
  unfolding f_new
  f_is = ap (λ (k : ℕ). combined δ (take k draw) (vanishing k posts)) g.root_length

  pub moved_room : length root ≤ length draw
  moved_room = room

  moved_seeing : (r : List ℕ) → r ≡ vanishing (length root) posts → Seeing s ws posts r draw known factor powers o
  moved_seeing r er =
      record {
        gathering = g.gathering;
        root_length = ap length er ∙ long ∙ g.root_length;
        factor_length = g.factor_length;
        powers_length = g.powers_length;
        draw_length_is = g.draw_length_is;
        draw_elements = g.draw_elements;
        out_length = sym o_long ∙ g.draw_length_is;
      }

  moved_rooted : (r : List ℕ) → r ≡ vanishing (length root) posts → Rooted r posts
  moved_rooted r er k h =
      ap (λ (l : List ℕ). value l (get_or posts k 0)) er
      ∙ vanishes.at_each (length root) posts (omega (arith, g.gathering.few, g.root_length))
      (λ i hi. let a = all_at (λ j. (1 ≤ j) × (j ≤ s.n)) posts i 0 hi g.gathering.posts_in in (a.0, omega (arith, a.1, g.gathering.valid.n_in)))
      k h

  pub moved_seen : (r : List ℕ) → r ≡ vanishing (length root) posts → Seeing s ws posts r draw known factor powers o × Rooted r posts
  moved_seen r er = (moved_seeing r er, moved_rooted r er)

  pub moved_none : (new : List ℕ) → eqb (length posts) 0 ≡ true → new ≡ take (length root) o ++ drop (length root) draw → new ≡ moved s posts (points_of s.points ws posts) δ draw
  unfolding moved
  moved_none new h e = e ∙ ap₂ ◌++◌ (front ∙ f_is) (ap (λ (k : ℕ). drop k draw) g.root_length ∙ sym (none posts h))
    where
      none : (xs : List ℕ) → eqb (length xs) 0 ≡ true → cond (no_posts xs) (drop (f_length s) draw) (other_vs s posts (points_of s.points ws posts) δ draw 1 s.n) ≡ drop (f_length s) draw
      none [] h = refl
      none (x ∷ xs) h = let z : length (x ∷ xs) ≡ 0 = eqb-true (length (x ∷ xs)) 0 h in absurd (omega arith)

  pub moved_some : (r new : List ℕ) → r ≡ vanishing (length root) posts → eqb (length posts) 0 ≡ false
      → new ≡ take (length r) o ++ vs_with (length factor) r (vanishing (length factor) (distinct (points_of s.points ws posts))) δ draw (length r) 0 s.n
      → new ≡ moved s posts (points_of s.points ws posts) δ draw
  unfolding moved
  moved_some r new er h e =
      e
      ∙ ap (λ (l : List ℕ). take (length l) o ++ vs_with (length factor) l (vanishing (length factor) (distinct (points_of s.points ws posts))) δ draw (length l) 0 s.n) er
      ∙ ap (λ (a : ℕ). take a o ++ vs_with (length factor) (vanishing (length root) posts) (vanishing (length factor) (distinct (points_of s.points ws posts))) δ draw a 0 s.n) long
      ∙ ap₂ ◌++◌ (front ∙ f_is)
      (ap₂ (λ (a b : ℕ). vs_with b (vanishing a posts) (vanishing b (distinct (points_of s.points ws posts))) δ draw a 0 s.n) g.root_length g.factor_length
      ∙ vs_are s posts (points_of s.points ws posts) δ draw s.n 0 (f_length s) (let q : f_length s ≡ f_length s + 0 * v_length s = omega (arith, zero-mul (v_length s)) in q)
      ∙ sym (some posts h))
    where
      some : (xs : List ℕ) → eqb (length xs) 0 ≡ false → cond (no_posts xs) (drop (f_length s) draw) (other_vs s posts (points_of s.points ws posts) δ draw 1 s.n) ≡ other_vs s posts (points_of s.points ws posts) δ draw 1 s.n
      some [] h = absurd (false≢true (sym h))
      some (x ∷ xs) h = refl
