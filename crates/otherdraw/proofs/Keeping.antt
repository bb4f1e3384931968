-- A listed post's v is kept: what f changes by is 0 there, and so is what its v changes by.
use Prim.Native.Nat.{ℕ, suc, ◌+◌, ◌-◌, ◌%◌, ◌≤◌, ◌<◌}
use mathlib.Core.Path.{◌≡◌, refl, sym, ◌∙◌, ap, ap₂}
use mathlib.Core.Bool.{Bool, true, false, ◌&&◌, false≢true}
use mathlib.Core.List.{List, [], ◌∷◌, ◌++◌}
use native.Mathlib.Nat.{zero-mul, mul-zero as mul-zero-nat}
use native.Mathlib.Omega.{arith}
use borrow.Author.Tests.{ltb-true, eqb-true, eq-eqb, ne_eqb, lt-ltb, le-ltb}
use mir.Syntax.{w64}
use mir.Val.{Fits}
use lib.Dec.{eqb, ltb}
use lib.ListN.{length, get_or, take, drop, length-drop}
use lib.Seq.{length-take-le}
use Rattle.field.specs.Modulus.{p}
use Rattle.field.specs.Arithmetic.{sum, difference, product}
use Rattle.field.proofs.Modular.{sum_comm, sum_zero}
use Rattle.poly.specs.Polynomial.{value}
use Rattle.poly.specs.Counting.{Elements}
use Rattle.parts.proofs.Laws.{elements_take, elements_drop}
use Rattle.session.specs.Rows.{combined}
use Rattle.otherdraw.specs.Between.{handed, changed, scale_of, is_next_of, Rooted}

-- ---- whether a post is the next

module _ (i next : ℕ) (posts : List ℕ) where
  pub next_over : length posts ≤ next → false ≡ is_next_of i next posts
  unfolding is_next_of
  next_over h = ap (λ (b : Bool). b && eqb (get_or posts next 0) (i + 1)) (sym (le-ltb next (length posts) h))

  pub next_found : (w : ℕ) → next < length posts → w ≡ get_or posts next 0 → w ≡ i + 1 → true ≡ is_next_of i next posts
  unfolding is_next_of
  next_found w h e q = ap₂ ◌&&◌ (sym (lt-ltb next (length posts) h)) (sym (eq-eqb (get_or posts next 0) (i + 1) (sym e ∙ q)))

  pub next_other : (w : ℕ) → next < length posts → w ≡ get_or posts next 0 → (w ≡ i + 1 → ⊥) → false ≡ is_next_of i next posts
  unfolding is_next_of
  next_other w h e n = ap₂ ◌&&◌ (sym (lt-ltb next (length posts) h)) (sym (ne_eqb (get_or posts next 0) (i + 1) (λ q. n (e ∙ q))))

  module _ (r : Bool) (q : r ≡ is_next_of i next posts) (e : r ≡ true) where
    there : (next < length posts) × (get_or posts next 0 ≡ i + 1)
    unfolding is_next_of
    there = go (ltb next (length posts)) refl (sym q ∙ e)
      where
        go : (b : Bool) → ltb next (length posts) ≡ b → (b && eqb (get_or posts next 0) (i + 1)) ≡ true → (next < length posts) × (get_or posts next 0 ≡ i + 1)
        go true h f = (ltb-true next (length posts) h, eqb-true (get_or posts next 0) (i + 1) f)
        go false h f = absurd (false≢true f)

    pub next_fits : length posts < 18446744073709551616 → Fits w64 (next + 1)
    next_fits l = record { fits = omega (arith, there.0, l) }

    pub next_rooted : (root : List ℕ) → Rooted root posts → value root (i + 1) ≡ 0
    next_rooted root ρ = ap (value root) (sym there.1) ∙ ρ next there.0

-- ---- nothing is added

nothing : (x s y : ℕ) → x < p → s ≡ 0 → sum x (product s y) ≡ x
unfolding product
nothing x s y h e =
    ap (λ (z : ℕ). sum x (product z y)) e ∙ ap (λ (z : ℕ). sum x (z % p)) (zero-mul y) ∙ sum_comm x 0 ∙ sum_zero x h

scale_nothing : (δ : ℕ) (root : List ℕ) (i : ℕ) → value root (i + 1) ≡ 0 → scale_of δ root i ≡ 0
unfolding difference product
scale_nothing δ root i e = ap (λ (y : ℕ). difference 0 (product δ y)) e ∙ ap (λ (y : ℕ). (0 + (p - y % p % p)) % p) (mul-zero-nat δ)

kept : (s : ℕ) (xs ys : List ℕ) → s ≡ 0 → Elements xs → length xs ≡ length ys → combined s xs ys ≡ xs
unfolding combined
kept s [] ys e a l = refl
kept s (x ∷ xs) [] e a l = absurd (omega (arith, l))
kept s (x ∷ xs) (y ∷ ys) e a l =
    ap₂ ◌∷◌ (nothing x s y a.0 e) (kept s xs ys e a.1 (let q : suc (length xs) ≡ suc (length ys) = l in omega arith))

pub v_kept : (i at next δ : ℕ) (posts root factor draw out new : List ℕ) (r : Bool) → r ≡ is_next_of i next posts → r ≡ true → Rooted root posts → Elements draw
    → at + length factor ≤ length draw → new ≡ handed (length factor) at at draw out → new ≡ changed at (scale_of δ root i) factor draw out
v_kept i at next δ posts root factor draw out new r q e ρ a room en =
    en
    ∙ ap (λ (x : List ℕ). take at out ++ (x ++ drop (length factor) (drop at out)))
    (sym
    (kept (scale_of δ root i) (take (length factor) (drop at draw)) factor (scale_nothing δ root i (next_rooted i next posts r q e root ρ))
    (elements_take (length factor) (drop at draw) (elements_drop at draw a))
    (length-take-le (length factor) (drop at draw) (omega (arith, room, length-drop at draw)))))
