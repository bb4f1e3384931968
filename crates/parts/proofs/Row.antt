-- A row as it is written: the powers of a point stand in front, the check values behind them, the public sums last.
use Prim.Native.Nat.{ℕ, ◌+◌, ◌*◌, ◌-◌, ◌/◌, ◌%◌, ◌≤◌, ◌<◌}
use mathlib.Core.Path.{◌≡◌, refl, sym, ◌∙◌, ap, ap₂}
use mathlib.Core.Bool.{Bool, cond}
use mathlib.Core.List.{List, ◌++◌, append-nil}
use native.Mathlib.Nat.{mul_comm, mul-le-mul, le_refl, mod-one, div-one, mod-lt}
use native.Mathlib.Decide.{ℕ_discrete, dec_le}
use native.Mathlib.Omega.{arith}
use borrow.Author.Tests.{eq-eqb, ne_eqb}
use mir.Syntax.{w64}
use mir.Val.{Fits}
use lib.ListN.{length, take, drop, get_or, set, length-drop, length-set, length-append, drop_of_length-le}
use lib.Seq.{length-take-le, take_all, take_at, drop_at, drop-append-le, drop-append-add, drop-drop, take-set-le, drop-set-add}
use borrow.Rule.Slice.PartMut.{put_mid}
use Rattle.poly.specs.Polynomial.{powers, weighted}
use Rattle.poly.specs.Counting.{Elements}
use Rattle.shape.specs.declared.Shape.{Shape}
use Rattle.shape.specs.declared.Points.{Points}
use Rattle.shape.specs.Lengths.{Valid, v_length, checks_length, sums_at_of, row_length}
use Rattle.shape.specs.Row.{point_at}
use Rattle.parts.specs.Draw.{each_from}
use Rattle.parts.specs.Between.{v_of, value_of, weighed_at, check_at, check_values, woven, sum_at, sums, part_with, ChecksRoom}
use Rattle.parts.proofs.Turns.{block_room, fill_start, fill_turn, fill_end, weighed_is, elements_filled, each_agree, checks_weighed}
use Rattle.parts.proofs.Weaving.{each_long, each_at, each_is, partly, woven_start, woven_turn, woven_done}

-- the loop of `weigh_each`: the powers are kept, and i check values are written behind them
pub record Weighing (s : Shape) (h : ℕ) (vs old out : List ℕ) (i : ℕ) : Type 0 where
  pub inside : h < s.points
  pub sized : length out ≡ sums_at_of s
  pub kept : take (v_length s) out ≡ take (v_length s) old
  pub written : (m : ℕ) → m < checks_length s
      → get_or (drop (v_length s) out) m 0 ≡ partly s.points h inside (weighed_at s (take (v_length s) old) vs) (drop (v_length s) old) i m

-- the h-th check value of post i + 1 has a place
pub place_in : (s : Shape) (h i : ℕ) → h < s.points → i < s.n → i * s.points + h < checks_length s
place_in s h i l k = omega (arith, block_room i s.n s.points (s.n * s.points) k refl, mul_comm s.points s.n)

module _ (s : Shape) (h : ℕ) (vs old : List ℕ) where
  abbrev weight : ℕ → ℕ
  weight = weighed_at s (take (v_length s) old) vs

  pub weighing_start : length old ≡ sums_at_of s → h < s.points → Weighing s h vs old old 0
  weighing_start e l = record {
    inside = l;
    sized = e;
    kept = refl;
    written = λ m low. woven_start s.points h l weight (drop (v_length s) old) m;
  }

  module _ (out : List ℕ) (i k : ℕ) (ek : k ≡ v_length s) (t : Weighing s h vs old out i) where
    pub weighing_step : i < s.n → i * s.points + h < checks_length s
    weighing_step l = place_in s h i t.inside l

    pub weighing_fits : Valid s → i < s.n → Fits w64 (i * s.points)
    weighing_fits v l = record { fits = omega (arith, weighing_step l, v.checks_in, v.n_in) }

    pub weighing_place : Valid s → i < s.n → Fits w64 (i * s.points + h)
    weighing_place v l = record { fits = omega (arith, weighing_step l, v.checks_in, v.n_in) }

    pub weighing_bytes : Valid s → i < s.n → Fits w64 ((k + (i * s.points + h)) * 4)
    weighing_bytes v l = record { fits = omega (arith, weighing_step l, ek, v.checks_in, v.reach_in, v.t_in, v.n_in) }

    pub weighing_at : Valid s → i < s.n → Fits w64 (k + (i * s.points + h))
    weighing_at v l = record { fits = omega (arith, weighing_step l, ek, v.checks_in, v.reach_in, v.t_in, v.n_in) }

    pub weighing_in : k ≤ length out
    weighing_in = omega (arith, t.sized, ek)

    pub weighing_lent : length (take k out) ≡ k
    weighing_lent = length-take-le k out weighing_in

    pub weighing_room : i < s.n → k + (i * s.points + h) < length out
    weighing_room l = omega (arith, t.sized, ek, weighing_step l)

    pub weighing_powers : (q : List ℕ) → length q ≡ v_length s → length q ≤ length (take k out)
    weighing_powers q e = omega (arith, e, ek, length-take-le k out weighing_in)

    pub weighing_elements : Elements (take (v_length s) old) → Elements (take k out)
    weighing_elements es = rw (ek, t.kept) es

    pub weighing_turn : (q : List ℕ) (r : ℕ) → i < s.n → q ≡ v_of s vs i → r ≡ weighted q (take k out)
        → Weighing s h vs old (set out (k + (i * s.points + h)) r) (i + 1)
    weighing_turn q r l e f =
        let at : ℕ = i * s.points + h in
        let many : length (drop (v_length s) out) ≡ checks_length s = omega (arith, length-drop (v_length s) out, t.sized) in
        let same : r ≡ weighted q (take (v_length s) old) = rw (ek, t.kept) at f in
        rw ek (record {
          inside = t.inside;
          sized = length-set out (v_length s + at) r ∙ t.sized;
          kept = take-set-le (v_length s) out (v_length s + at) r (omega arith) ∙ t.kept;
          written = λ m low.
              ap (λ (x : List ℕ). get_or x m 0) (drop-set-add (v_length s) out at r)
              ∙ woven_turn s.points h t.inside weight (drop (v_length s) old) s.n i r (drop (v_length s) out) many (weighing_step l)
              t.written (weighed_is s vs (take (v_length s) old) q i r e same) m low;
        })

  pub weighing_end : (out : List ℕ) (i : ℕ) → s.n ≤ i → Weighing s h vs old out i
      → drop (v_length s) out ≡ each_from 0 (checks_length s) (woven s.points h weight (drop (v_length s) old))
  weighing_end out i l t =
      each_is (drop (v_length s) out) (checks_length s) (woven s.points h weight (drop (v_length s) old))
      (omega (arith, length-drop (v_length s) out, t.sized))
      (λ m low. t.written m low ∙ woven_done s.points h t.inside weight (drop (v_length s) old) s.n i m l low)

-- the loop of `write_sums`: i sums are written at their place; the powers in front are changed meanwhile
pub record Summing (s : Shape) (f vs out : List ℕ) (i : ℕ) : Type 0 where
  pub sized : length out ≡ row_length s
  pub written : take i (drop (sums_at_of s) out) ++ each_from i (s.n - i) (sum_at s f vs) ≡ sums s f vs

module _ (s : Shape) (f vs : List ℕ) where
  pub summing_start : (out : List ℕ) → length out ≡ row_length s → Summing s f vs out 0
  summing_start out e = record { sized = e; written = fill_start (sum_at s f vs) s.n (drop (sums_at_of s) out) }

  module _ (out : List ℕ) (i k at : ℕ) (ek : k ≡ v_length s) (ea : at ≡ sums_at_of s) (t : Summing s f vs out i) where
    pub summing_lent : length (take k out) ≡ k
    summing_lent = length-take-le k out (omega (arith, t.sized, ek))

    pub summing_powers : length (take k out) ≡ v_length s
    summing_powers = summing_lent ∙ ek

    module _ (ys : List ℕ) (same : length ys ≡ length (take k out)) where
      pub summing_length : length (ys ++ drop k out) ≡ row_length s
      summing_length = omega (arith, length-append ys (drop k out), length-drop k out, same, summing_lent, t.sized, ek)

      pub summing_room : i < s.n → at + i < length (ys ++ drop k out)
      summing_room h = omega (arith, summing_length, ea)

      -- the powers stand before the sums
      sums_kept : drop (sums_at_of s) (ys ++ drop k out) ≡ drop (sums_at_of s) out
      sums_kept =
          let a : sums_at_of s ≡ length ys + checks_length s = omega (arith, same, summing_powers) in
          let b : k + checks_length s ≡ sums_at_of s = omega (arith, ek) in
          ap (λ (m : ℕ). drop m (ys ++ drop k out)) a ∙ drop-append-add ys (drop k out) (checks_length s) ∙ drop-drop (checks_length s) k out
          ∙ ap (λ (m : ℕ). drop m out) b

      pub summing_turn : (r : ℕ) → i < s.n → r ≡ sum_at s f vs i → Summing s f vs (set (ys ++ drop k out) (at + i) r) (i + 1)
      summing_turn r h e =
          let many : length (drop (sums_at_of s) out) ≡ s.n = omega (arith, length-drop (sums_at_of s) out, t.sized) in
          rw ea (record {
            sized = length-set (ys ++ drop k out) (sums_at_of s + i) r ∙ summing_length;
            written = rw (drop-set-add (sums_at_of s) (ys ++ drop k out) i r, sums_kept)
                (fill_turn (sum_at s f vs) s.n (drop (sums_at_of s) out) i r h many t.written e);
          })

  pub summing_end : (out : List ℕ) (i : ℕ) → s.n ≤ i → Summing s f vs out i → drop (sums_at_of s) out ≡ sums s f vs
  summing_end out i h t =
      fill_end (sum_at s f vs) s.n (drop (sums_at_of s) out) i h (omega (arith, length-drop (sums_at_of s) out, t.sized)) t.written

-- `write_check_values`, by Horner's rule or with the powers in front
module _ (s : Shape) (out : List ℕ) (k : ℕ) (ek : k ≡ v_length s) (room : ChecksRoom s out) where
  pub checks_lent : length (take k out) ≡ k
  checks_lent = length-take-le k out (omega (arith, room, ek))

  -- so few coefficients are with one point
  module _ (valid : Valid s) (few : k ≡ 2) where
    one_point_is : s.points ≡ 1
    one_point_is = go (dec_le 2 s.points)
      where
        go : Dec (2 ≤ s.points) → s.points ≡ 1
        go (yes two) =
            absurd (omega (arith, few, ek, valid.t_in, mul-le-mul {n₁ = 2} {m₁ = s.t} {n₂ = s.points} {m₂ = s.t} two (le_refl s.t)))
        go (no n) = omega (arith, valid.points_in_is)

    one_each : checks_length s ≡ s.n
    one_each = ap (λ (i : ℕ). i * s.n) one_point_is ∙ omega arith

    pub horner_room : length (take (length out - k) (drop k out)) ≡ s.n
    horner_room =
        ap length (take_all (length out - k) (drop k out) (omega (arith, length-drop k out)))
        ∙ omega (arith, length-drop k out, room, ek, one_each)

    pub horner_written : (ys vs : List ℕ) (w : Points) → ys ≡ each_from 0 s.n (value_of s w.first vs)
        → drop (v_length s) (put_mid k (length out - k) out ys) ≡ check_values s w vs
    unfolding check_at
    horner_written ys vs w e =
        let none : length (drop k out) ≤ length out - k = omega (arith, length-drop k out) in
        rw (← ek, drop_at (take k out) (ys ++ drop (length out - k) (drop k out)) k checks_lent, drop_of_length-le (drop k out) none)
        (append-nil ys ∙ e ∙ ap (λ (m : ℕ). each_from 0 m (value_of s w.first vs)) (sym one_each)
        ∙ each_agree (value_of s w.first vs) (check_at s w vs)
        (λ m. ap₂ (λ (x i : ℕ). value_of s (point_at w x) vs i) (sym (ap (λ (i : ℕ). m % i) one_point_is ∙ mod-one m)) (sym (ap (λ (i : ℕ). m / i) one_point_is ∙ div-one m)))
        0 (checks_length s))

  module _ (zs : List ℕ) (same : length zs ≡ length (take k out)) where
    pub filled_room : ChecksRoom s (zs ++ drop k out)
    filled_room = omega (arith, length-append zs (drop k out), length-drop k out, same, checks_lent, room, ek)

    filled_front : take (v_length s) (zs ++ drop k out) ≡ zs
    filled_front = take_at zs (drop k out) (v_length s) (same ∙ checks_lent ∙ ek)

    pub filled_elements : (w : ℕ) → zs ≡ powers w (length (take k out)) → Elements (take (v_length s) (zs ++ drop k out))
    filled_elements w e = rw filled_front (elements_filled (take k out) zs w e)

    pub checks_written : (vs last : List ℕ) (w h : ℕ) → zs ≡ powers w (length (take k out))
        → drop (v_length s) last
        ≡ each_from 0 (checks_length s) (woven s.points h (weighed_at s (take (v_length s) (zs ++ drop k out)) vs) (drop (v_length s) (zs ++ drop k out)))
        → drop (v_length s) last ≡ each_from 0 (checks_length s) (woven s.points h (value_of s w vs) (drop (v_length s) out))
    checks_written vs last w h e f =
        f ∙ checks_weighed s vs (take (v_length s) (zs ++ drop k out)) w (filled_front ∙ e ∙ ap (powers w) (checks_lent ∙ ek)) h
        (drop (v_length s) (zs ++ drop k out)) (checks_length s)
        ∙ ap (λ (x : List ℕ). each_from 0 (checks_length s) (woven s.points h (value_of s w vs) x))
        (drop_at zs (drop k out) (v_length s) (same ∙ checks_lent ∙ ek) ∙ ap (λ (m : ℕ). drop m out) ek)

-- one pass, or two
module _ (s : Shape) (out vs : List ℕ) (w : Points) (valid : Valid s) where
  pub one_pass : (last : List ℕ) → s.points < 2
      → drop (v_length s) last ≡ each_from 0 (checks_length s) (woven s.points 0 (value_of s w.first vs) (drop (v_length s) out))
      → drop (v_length s) last ≡ check_values s w vs
  unfolding woven check_at
  one_pass last one e =
      let k1 : s.points ≡ 1 = omega (arith, valid.points_in_is, one) in
      e ∙ each_agree _ (check_at s w vs)
      (λ m.
      let z : m % s.points ≡ 0 = ap (λ (i : ℕ). m % i) k1 ∙ mod-one m in
      ap (λ (b : Bool). cond b (value_of s w.first vs (m / s.points)) (get_or (drop (v_length s) out) m 0)) (eq-eqb (m % s.points) 0 z)
      ∙ ap (λ (i : ℕ). value_of s (point_at w i) vs (m / s.points)) (sym z)) 0 (checks_length s)

  pub two_passes : (mid last : List ℕ) → 2 ≤ s.points
      → drop (v_length s) mid ≡ each_from 0 (checks_length s) (woven s.points 0 (value_of s w.first vs) (drop (v_length s) out))
      → drop (v_length s) last ≡ each_from 0 (checks_length s) (woven s.points 1 (value_of s w.second vs) (drop (v_length s) mid))
      → drop (v_length s) last ≡ check_values s w vs
  unfolding woven check_at
  two_passes mid last two e f =
      f ∙ each_is (each_from 0 (checks_length s) (woven s.points 1 (value_of s w.second vs) (drop (v_length s) mid))) (checks_length s) (check_at s w vs)
      (each_long _ 0 (checks_length s))
      (λ m low. each_at _ 0 (checks_length s) m low ∙ at_place m low)
    where
      k2 : s.points ≡ 2
      k2 = omega (arith, valid.points_in_is, two)

      at_place : (m : ℕ) → m < checks_length s → woven s.points 1 (value_of s w.second vs) (drop (v_length s) mid) (0 + m) ≡ check_at s w vs m
      at_place m low = ap (woven s.points 1 (value_of s w.second vs) (drop (v_length s) mid)) first ∙ go (ℕ_discrete (m % s.points) 1)
        where
          first : 0 + m ≡ m
          first = omega arith

          below : m % s.points < 2
          below = rw k2 (mod-lt m {m = 2} (omega arith))

          go : Dec (m % s.points ≡ 1) → woven s.points 1 (value_of s w.second vs) (drop (v_length s) mid) m ≡ check_at s w vs m
          go (yes z) =
              ap (λ (b : Bool). cond b (value_of s w.second vs (m / s.points)) (get_or (drop (v_length s) mid) m 0)) (eq-eqb (m % s.points) 1 z)
              ∙ ap (λ (i : ℕ). value_of s (point_at w i) vs (m / s.points)) (sym z)
          go (no n) =
              let z : m % s.points ≡ 0 = omega (arith, below, n) in
              ap (λ (b : Bool). cond b (value_of s w.second vs (m / s.points)) (get_or (drop (v_length s) mid) m 0)) (ne_eqb (m % s.points) 1 n)
              ∙ ap (λ (x : List ℕ). get_or x m 0) e ∙ each_at _ 0 (checks_length s) m low
              ∙ ap (woven s.points 0 (value_of s w.first vs) (drop (v_length s) out)) first
              ∙ ap (λ (b : Bool). cond b (value_of s w.first vs (m / s.points)) (get_or (drop (v_length s) out) m 0)) (eq-eqb (m % s.points) 0 z)
              ∙ ap (λ (i : ℕ). value_of s (point_at w i) vs (m / s.points)) (sym z)

-- `write_part`: the powers, then the own coefficients, before the check values and the sums
module _ (s : Shape) (out : List ℕ) (k at : ℕ) (ek : k ≡ v_length s) (ea : at ≡ sums_at_of s) (sized : length out ≡ row_length s) where
  pub front_lent : length (take at out) ≡ at
  front_lent = length-take-le at out (omega (arith, sized, ea))

  pub front_room : ChecksRoom s (take at out)
  front_room = front_lent ∙ ea

  module _ (ys : List ℕ) (same : length ys ≡ length (take at out)) where
    pub own_lent : length (take k (ys ++ drop at out)) ≡ k
    own_lent =
        length-take-le k (ys ++ drop at out) (omega (arith, length-append ys (drop at out), same, front_lent, ek, ea))

    pub own_fits : (q : List ℕ) → length q ≡ v_length s → length q ≡ length (take k (ys ++ drop at out))
    own_fits q e = e ∙ sym (own_lent ∙ ek)

    pub part_written : (i : ℕ) (w : Points) (vs q zs : List ℕ) → drop (v_length s) ys ≡ check_values s w vs → q ≡ v_of s vs i → zs ≡ q
        → zs ++ drop k (ys ++ drop at out) ≡ part_with s vs (drop (sums_at_of s) out) i w
    part_written i w vs q zs checks own copied =
        let room : v_length s ≤ length ys = omega (arith, same, front_lent, ea) in
        rw (copied, own, ek, ea, drop-append-le (v_length s) ys (drop (sums_at_of s) out) room, checks)
