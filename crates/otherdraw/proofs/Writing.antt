-- The turns of the writers: check points gathered, and the v's changed one after the other.
use Prim.Native.Nat.{ℕ, suc, ◌+◌, ◌*◌, ◌-◌, ◌≤◌, ◌<◌}
use mathlib.Core.Path.{◌≡◌, sym, ◌∙◌, ap, ap₂}
use mathlib.Core.List.{List, [], ◌++◌, append_assoc, append-nil}
use native.Mathlib.Nat.{suc-mul, mul-le-mul_right, mul_comm}
use native.Mathlib.Numerals.{add-one}
use native.Mathlib.Omega.{arith}
use mir.Syntax.{w64}
use mir.Val.{Fits}
use lib.ListN.{length, get_or, take, drop, length-drop, length-append, drop_of_length-le}
use lib.Seq.{length-take-le, take_at, take_all, drop-cons}
use borrow.Rule.Slice.PartMut.{put_mid}
use Rattle.field.specs.Arithmetic.{difference, product}
use Rattle.poly.specs.Polynomial.{value, weighted, powers as powersOf}
use Rattle.poly.proofs.Lists.{all_at}
use Rattle.shape.specs.declared.Shape.{Shape}
use Rattle.session.specs.Rows.{combined}
use Rattle.parts.proofs.Turns.{weighed}
use Rattle.sums.proofs.Writers.{length_combined}
use Rattle.lists.proofs.Parts.{length_put}
use Rattle.vanishing.specs.Vanishing.{vanishing}
use Rattle.otherdraw.specs.Other.{points_of}
use Rattle.otherdraw.specs.Between.{handed, changed, scale_of, vs_with, Valued, Gathering}

-- ---- check points gathered

pub part_handed : (k a b : ℕ) (from to ys : List ℕ) → ys ≡ take (a + k - a) (drop a from) → put_mid b (b + k - b) to ys ≡ handed k a b from to
part_handed k a b from to ys e =
    let w : a + k - a ≡ k = omega arith in
    let v : b + k - b ≡ k = omega arith in
    ap₂ (λ (m : ℕ) (x : List ℕ). take b to ++ (x ++ drop m (drop b to))) v (e ∙ ap (λ (m : ℕ). take m (drop a from)) w)

module _ (s : Shape) (ws posts known₀ : List ℕ) (g : Gathering s ws posts known₀) where
  all_posts_is : length posts * s.points ≤ s.points * s.t
  all_posts_is = omega (arith, mul-le-mul_right {m = length posts} {n = s.t} s.points g.few, mul_comm s.points s.t)

  module _ (i : ℕ) (h : i < length posts) where
    there : (1 ≤ get_or posts i 0) × (get_or posts i 0 ≤ s.n)
    there = all_at (λ j. (1 ≤ j) × (j ≤ s.n)) posts i 0 h g.posts_in

    module _ (post : ℕ) (e : post ≡ get_or posts i 0) where
      pub post_low : 1 ≤ post
      post_low = omega (arith, e, there)

      pub post_room : (post - 1) * s.points + s.points ≤ length ws
      post_room =
          let q : suc (post - 1) ≤ s.n = omega (arith, e, there) in
          omega (arith, suc-mul (post - 1) s.points, mul-le-mul_right {m = suc (post - 1)} {n = s.n} s.points q, mul_comm s.points s.n, g.ws_length)

      pub post_fits : Fits w64 ((post - 1) * s.points)
      post_fits = record { fits = omega (arith, post_room, g.ws_length, g.valid.checks_in, g.valid.n_in) }

    module _ (at : ℕ) (q : at ≡ i * s.points) where
      inside : at + s.points ≤ length posts * s.points
      inside = omega (arith, q, suc-mul i s.points, mul-le-mul_right {m = suc i} {n = length posts} s.points (let l : suc i ≤ length posts = omega arith in l))

      pub known_room : (known : List ℕ) → length known ≡ length known₀ → at + s.points ≤ length known
      known_room known long = omega (arith, long, g.known_length, inside)

      pub known_fits : Fits w64 (at + s.points)
      known_fits = record { fits = omega (arith, inside, all_posts_is, g.valid.reach_in, g.valid.t_in, g.valid.n_in) }

      pub known_next : at + s.points ≡ (i + 1) * s.points
      known_next = let e : (i + 1) * s.points ≡ i * s.points + s.points = ap (λ (x : ℕ). x * s.points) (add-one i) ∙ suc-mul i s.points in omega (arith, q, e)

-- what is written, and the points to come
abbrev pub Gathered : ℕ → List ℕ → List ℕ → List ℕ → ℕ → ℕ → Type 0
Gathered k ws posts known at i = take at known ++ points_of k ws (drop i posts) ≡ points_of k ws posts

module _ (k : ℕ) (ws posts known : List ℕ) (at i : ℕ) where
  pub gather_turn : (post : ℕ) (new : List ℕ) → i < length posts → post ≡ get_or posts i 0 → (post - 1) * k + k ≤ length ws → at + k ≤ length known
      → new ≡ handed k ((post - 1) * k) at ws known → Gathered k ws posts known at i → Gathered k ws posts new (at + k) (i + 1)
  unfolding points_of
  gather_turn post new h ep from room en inv =
      ap₂ (λ (l : List ℕ) (j : ℕ). l ++ points_of k ws (drop j posts)) front (add-one i)
      ∙ append_assoc (take at known) x (points_of k ws (drop (suc i) posts))
      ∙ ap (λ (j : ℕ). take at known ++ (take k (drop ((j - 1) * k) ws) ++ points_of k ws (drop (suc i) posts))) ep
      ∙ ap (λ (l : List ℕ). take at known ++ points_of k ws l) (sym (drop-cons posts i 0 h)) ∙ inv
    where
      x : List ℕ
      x = take k (drop ((post - 1) * k) ws)

      long : length x ≡ k
      long = length-take-le k (drop ((post - 1) * k) ws) (omega (arith, from, length-drop ((post - 1) * k) ws))

      start : length (take at known) ≡ at
      start = length-take-le at known (omega (arith, room))

      front : take (at + k) new ≡ take at known ++ x
      front =
          ap (take (at + k)) (en ∙ sym (append_assoc (take at known) x _))
          ∙ take_at (take at known ++ x) _ (at + k) (length-append (take at known) x ∙ ap₂ ◌+◌ start long)

  pub gather_kept : (a : ℕ) (new : List ℕ) (m : ℕ) → a + k ≤ length ws → at + k ≤ length known → new ≡ handed k a at ws known → length known ≡ m → length new ≡ m
  gather_kept a new m from room en e =
      ap length en ∙ length_put at k known (take k (drop a ws)) room (length-take-le k (drop a ws) (omega (arith, from, length-drop a ws))) ∙ e

  gather_end : length posts ≤ i → i ≤ length posts → at ≡ i * k → length known ≡ length posts * k → Gathered k ws posts known at i → known ≡ points_of k ws posts
  unfolding points_of
  gather_end h l q long inv =
      sym (append-nil known) ∙ ap₂ (λ (x y : List ℕ). x ++ points_of k ws y) (sym (take_all at known (omega (arith, q, long, all)))) (sym (drop_of_length-le posts h)) ∙ inv
    where
      all : i * k ≡ length posts * k
      all = let w : i ≡ length posts = omega arith in ap (λ (x : ℕ). x * k) w

pub gather_all : (s : Shape) (ws posts known₀ : List ℕ) → Gathering s ws posts known₀ → (known : List ℕ) (at i : ℕ) → length posts ≤ i → i ≤ length posts
    → at ≡ i * s.points → length known ≡ length known₀ → Gathered s.points ws posts known at i → known ≡ points_of s.points ws posts
gather_all s ws posts known₀ g known at i h l q long inv = gather_end s.points ws posts known at i h l q (long ∙ g.known_length) inv

-- ---- a part changed

pub part_changed : (at scale : ℕ) (factor draw out ys : List ℕ) → ys ≡ combined scale (take (at + length factor - at) (drop at draw)) factor
    → put_mid at (at + length factor - at) out ys ≡ changed at scale factor draw out
part_changed at scale factor draw out ys e =
    let w : at + length factor - at ≡ length factor = omega arith in
    ap₂ (λ (k : ℕ) (x : List ℕ). take at out ++ (x ++ drop k (drop at out))) w
    (e ∙ ap (λ (k : ℕ). combined scale (take k (drop at draw)) factor) w)

-- ---- one v after the other

module _ (n k : ℕ) (root factor : List ℕ) (δ : ℕ) (draw : List ℕ) (at₀ : ℕ) (out₀ : List ℕ) where
  -- what is written, and the v's to come
  abbrev pub Standing : List ℕ → ℕ → ℕ → Type 0
  Standing out at i = take at out ++ vs_with k root factor δ draw at i (n - i) ≡ take at₀ out₀ ++ vs_with k root factor δ draw at₀ 0 n

  pub vs_start : Standing out₀ at₀ 0
  vs_start = let e : n - 0 ≡ n = omega arith in ap (λ (m : ℕ). take at₀ out₀ ++ vs_with k root factor δ draw at₀ 0 m) e

  module _ (out : List ℕ) (at i : ℕ) where
    pub vs_room : length draw ≡ at₀ + n * k → i < n → at ≡ at₀ + i * k → at + k ≤ length draw
    vs_room e h q = omega (arith, e, q, suc-mul i k, mul-le-mul_right k (let l : suc i ≤ n = omega arith in l))

    pub vs_fits : length draw ≡ at₀ + n * k → i < n → at ≡ at₀ + i * k → length draw < 18446744073709551616 → Fits w64 (at + k)
    vs_fits e h q l = record { fits = omega (arith, vs_room e h q, l) }

    pub vs_next : at ≡ at₀ + i * k → at + k ≡ at₀ + (i + 1) * k
    vs_next q = let e : (i + 1) * k ≡ i * k + k = ap (λ (x : ℕ). x * k) (add-one i) ∙ suc-mul i k in omega (arith, q, e)

    pub vs_turn : (new : List ℕ) → i < n → length factor ≡ k → at + k ≤ length draw → length draw ≡ length out → new ≡ changed at (scale_of δ root i) factor draw out
        → Standing out at i → Standing new (at + k) (i + 1)
    unfolding vs_with
    vs_turn new h ef room long en inv =
        ap₂ ◌++◌ front (ap₂ (λ (j m : ℕ). vs_with k root factor δ draw (at + k) j m) (add-one i) less)
        ∙ append_assoc (take at out) x (vs_with k root factor δ draw (at + k) (suc i) m)
        ∙ ap (λ (j : ℕ). take at out ++ vs_with k root factor δ draw at i j) (sym more) ∙ inv
      where
        m : ℕ
        m = n - suc i

        less : n - (i + 1) ≡ m
        less = omega arith

        more : n - i ≡ suc m
        more = omega arith

        x : List ℕ
        x = combined (scale_of δ root i) (take k (drop at draw)) factor

        x_is : combined (scale_of δ root i) (take (length factor) (drop at draw)) factor ≡ x
        x_is = ap (λ (j : ℕ). combined (scale_of δ root i) (take j (drop at draw)) factor) ef

        long_x : length x ≡ k
        long_x =
            let l : length (take k (drop at draw)) ≡ k = length-take-le k (drop at draw) (omega (arith, room, length-drop at draw)) in
            length_combined _ (take k (drop at draw)) factor (l ∙ sym ef) ∙ l

        start : length (take at out) ≡ at
        start = length-take-le at out (omega (arith, room, long))

        front : take (at + k) new ≡ take at out ++ x
        front =
            ap (take (at + k)) (en ∙ ap (λ (l : List ℕ). take at out ++ (l ++ drop (length factor) (drop at out))) x_is ∙ sym (append_assoc (take at out) x _))
            ∙ take_at (take at out ++ x) _ (at + k) (length-append (take at out) x ∙ ap₂ ◌+◌ start long_x)

    pub vs_kept : (new : List ℕ) (scale : ℕ) → length factor ≡ k → at + k ≤ length draw → length draw ≡ length out → new ≡ changed at scale factor draw out → length draw ≡ length new
    vs_kept new scale ef room long en =
        let l : length (take (length factor) (drop at draw)) ≡ length factor = length-take-le (length factor) (drop at draw) (omega (arith, room, ef, length-drop at draw)) in
        long
        ∙ sym
        (ap length en
        ∙ length_put at (length factor) out (combined scale (take (length factor) (drop at draw)) factor) (omega (arith, room, long, ef))
        (length_combined scale (take (length factor) (drop at draw)) factor l ∙ l))

    pub vs_end : length draw ≡ at₀ + n * k → n ≤ i → i ≤ n → at ≡ at₀ + i * k → length draw ≡ length out → Standing out at i
        → out ≡ take at₀ out₀ ++ vs_with k root factor δ draw at₀ 0 n
    unfolding vs_with
    vs_end e h l q long inv =
        sym (append-nil out) ∙ ap (λ (x : List ℕ). x ++ []) (sym (take_all at out (omega (arith, all, e, q, long))))
        ∙ ap (λ (m : ℕ). take at out ++ vs_with k root factor δ draw at i m) (sym none) ∙ inv
      where
        none : n - i ≡ 0
        none = omega arith

        all : i * k ≡ n * k
        all = let w : i ≡ n = omega arith in ap (λ (x : ℕ). x * k) w

-- ---- the value by powers, and the scale

pub value_weighed : (root powers new : List ℕ) (x r : ℕ) → Valued root powers → new ≡ powersOf x (length powers) → r ≡ weighted root new → r ≡ value root x
value_weighed root powers new x r h e q = weighed root powers new x r h.0 e q

pub scale_is : (i δ : ℕ) (root : List ℕ) (post v y scale : ℕ) → post ≡ i + 1 → v ≡ value root post → y ≡ product δ v → scale ≡ difference 0 y
    → scale ≡ scale_of δ root i
scale_is i δ root post v y scale ep ev ey es = es ∙ ap (difference 0) (ey ∙ ap (product δ) (ev ∙ ap (value root) ep))

pub v_changed : (at scale new-scale : ℕ) (factor draw out new : List ℕ) → scale ≡ new-scale → new ≡ changed at scale factor draw out
    → new ≡ changed at new-scale factor draw out
v_changed at scale new-scale factor draw out new es en = en ∙ ap (λ (c : ℕ). changed at c factor draw out) es

-- ---- f, and the rest

pub f_changed : (δ k : ℕ) (posts draw root out new : List ℕ) → root ≡ vanishing k posts → new ≡ changed 0 δ root draw out
    → new ≡ changed 0 δ (vanishing k posts) draw out
f_changed δ k posts draw root out new e h = h ∙ ap (λ (l : List ℕ). changed 0 δ l draw out) e

pub rest_copied : (from : ℕ) (draw out ys : List ℕ) → from ≤ length draw → length draw ≡ length out
    → ys ≡ take (length draw - from) (drop from draw) → put_mid from (length out - from) out ys ≡ take from out ++ drop from draw
rest_copied from draw out ys h e q =
    ap (λ (x : List ℕ). take from out ++ x)
    (ap₂ ◌++◌ (q ∙ take_all (length draw - from) (drop from draw) (omega (arith, length-drop from draw)))
    (drop_of_length-le (drop from out) (let l : length (drop from out) ≤ length out - from = omega (arith, length-drop from out) in l)) ∙ append-nil (drop from draw))
