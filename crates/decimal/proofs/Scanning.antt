-- The walk over the digits of a line: its turns and ends.
use Prim.Native.Nat.{ℕ, suc, ◌+◌, ◌-◌, ◌*◌, ◌≤◌, ◌<◌}
use mathlib.Core.Path.{◌≡◌, refl, ap}
use mathlib.Core.List.{List}
use mathlib.Core.Bool.{Bool, true, false, cond}
use native.Mathlib.Omega.{arith}
use native.Mathlib.Numerals.{add-one}
use borrow.Author.Tests.{le-leb, lt-leb, eq-eqb, ne_eqb, ltb-true, ltb-false}
use mir.Syntax.{w64}
use mir.Val.{Fits}
use lib.ListN.{length, get_or, take, drop, drop_of_length-le}
use lib.Seq.{drop-cons}
use lib.Dec.{ltb}
use Rattle.std.specs.Prelude.{None}
use Rattle.std.specs.Char.{is_ascii_digit}
use Rattle.decimal.specs.Numeral.{tens, most_digits, is_digit_of, leading, value_after, number, field_of, field_at}
use Rattle.decimal.specs.Between.{WalkEnd, DigitsAt}
use Rattle.decimal.proofs.Digits.{tens_grow, digit_is}
use Rattle.decimal.proofs.Positions.{head_at}

-- ---- where digits end
module _ (s : List ℕ) (i : ℕ) where
  none_at : i < length s → is_ascii_digit (get_or s i 0) ≡ false → leading (drop i s) ≡ 0
  unfolding leading
  none_at h e = rw (drop-cons s i 0 h, e)

  none_behind : length s ≤ i → leading (drop i s) ≡ 0
  unfolding leading
  none_behind h = rw (drop_of_length-le s h)

  one_more : i < length s → is_ascii_digit (get_or s i 0) ≡ true → leading (drop i s) ≡ suc (leading (drop (i + 1) s))
  unfolding leading
  one_more h e = rw (drop-cons s i 0 h, e, add-one i)

-- ---- where a walk ends
module _ (len at : ℕ) where
  pub walk_whole : at < len → len - at ≤ most_digits → WalkEnd len at len
  walk_whole h g = record { from = omega arith; near = omega arith; within = λ q. omega arith; whole = λ q. omega arith }

  pub walk_part : most_digits < len - at → WalkEnd len at (at + most_digits + 1)
  walk_part h = record { from = omega arith; near = omega arith; within = λ q. omega arith; whole = λ q. absurd (omega arith) }

-- ---- the walk: sum is what the digits from `at` to i say, and the digits behind them say the rest
pub record Walked (s : List ℕ) (at end sum i : ℕ) : Type 0 where
  pub walk : WalkEnd (length s) at end
  pub from : at ≤ i
  pub upto : i ≤ end
  pub leads : i + leading (drop i s) ≡ at + leading (drop at s)
  pub small : sum < tens (i - at)
  pub says : value_after sum (take (leading (drop i s)) (drop i s)) ≡ value_after 0 (take (leading (drop at s)) (drop at s))

pub walked_start : (s : List ℕ) (at end : ℕ) → WalkEnd (length s) at end → Walked s at end 0 at
walked_start s at end w =
    let z : at - at ≡ 0 = omega arith in
    record { walk = w; from = omega arith; upto = w.from; leads = refl; small = rw z (omega arith); says = refl }

module _ (s : List ℕ) (at end sum i : ℕ) (inv : Walked s at end sum i) where
  -- the digits end at i
  at_end : leading (drop i s) ≡ 0 → DigitsAt s at sum i
  unfolding value_after
  at_end z =
      let e : i ≡ at + leading (drop at s) = omega (arith, inv.leads) in
      record { from = inv.from; few = λ h. (e, rw z at inv.says); many = λ h. omega arith }

  pub walked_within : i < end → i < length s
  walked_within h = omega (arith, inv.walk.within (omega (arith, inv.from)))

  pub walked_stop : i < end → is_ascii_digit (get_or s i 0) ≡ false → DigitsAt s at sum i
  walked_stop h e = at_end (none_at s i (walked_within h) e)

  pub walked_end : end ≤ i → DigitsAt s at sum i
  walked_end h = by_place (ltb (at + most_digits) i) refl
    where
      by_place : (t : Bool) → ltb (at + most_digits) i ≡ t → DigitsAt s at sum i
      by_place true e =
          let g : at + most_digits < i = ltb-true (at + most_digits) i e in
          record { from = inv.from; few = λ q. absurd (omega arith); many = λ q. omega (arith, inv.leads) }
      by_place false e =
          let g : i ≤ at + most_digits = ltb-false (at + most_digits) i e in
          at_end (none_behind s i (omega (arith, inv.upto, inv.walk.whole (omega (arith, inv.upto)))))

  pub walked_done : end ≤ i → DigitsAt s at sum end
  walked_done h = let e : i ≡ end = omega (arith, inv.upto) in rw e at (walked_end h)

  -- eleven digits fit 64 bits: a walk never wraps
  walked_bound : i < end → sum < 10000000000
  walked_bound h =
      let m : 10 - (i - at) + (i - at) ≡ 10 = omega (arith, inv.walk.near) in
      omega (arith, inv.small, tens_grow (i - at) (10 - (i - at)), ap tens m)

  pub walked_mul : i < end → Fits w64 (sum * 10)
  walked_mul h = omega (arith, walked_bound h)

  pub walked_add : (w : ℕ) → i < end → is_ascii_digit (get_or s i 0) ≡ true → w ≡ get_or s i 0 - 48 → Fits w64 (sum * 10 + w)
  walked_add w h g e = omega (arith, walked_bound h, digit_is (get_or s i 0) g)

  pub walked_more : (w : ℕ) → i < end → is_ascii_digit (get_or s i 0) ≡ true → w ≡ get_or s i 0 - 48 → Walked s at end (sum * 10 + w) (i + 1)
  unfolding value_after
  walked_more w h g e =
      let n = one_more s i (walked_within h) g in
      let b = digit_is (get_or s i 0) g in
      let k : i + 1 - at ≡ suc (i - at) = omega (arith, inv.from) in
      record {
        walk = inv.walk;
        from = omega (arith, inv.from);
        upto = omega arith;
        leads = omega (arith, inv.leads);
        small = rw k (omega (arith, inv.small));
        says = rw e (rw (n, drop-cons s i 0 (walked_within h), ← add-one i) at inv.says);
      }

-- ---- a digit stands at i
pub record DigitAt (s : List ℕ) (i : ℕ) : Type 0 where
  pub within : i < length s
  pub from_zero : 48 ≤ get_or s i 0
  pub to_nine : get_or s i 0 ≤ 57
  pub next : leading (drop i s) ≡ suc (leading (drop (i + 1) s))

digit_at : (s : List ℕ) (i : ℕ) → 1 ≤ leading (drop i s) → DigitAt s i
unfolding leading
digit_at s i h = by_place (ltb i (length s)) refl
  where
    digit : i < length s → (t : Bool) → is_digit_of (get_or s i 0) ≡ t → 1 ≤ cond t (suc (leading (drop (suc i) s))) 0 → DigitAt s i
    digit w true e h =
        let d = digit_is (get_or s i 0) e in
        record { within = w; from_zero = d.0; to_nine = d.1; next = rw (drop-cons s i 0 w, e, add-one i) }
    digit w false e h = absurd (omega arith)

    by_place : (t : Bool) → ltb i (length s) ≡ t → DigitAt s i
    by_place true e = let w = ltb-true i (length s) e in digit w (is_digit_of (get_or s i 0)) refl (rw (drop-cons s i 0 w) at h)
    by_place false e = absurd (omega (arith, rw (drop_of_length-le s (ltb-false i (length s) e)) at h))

-- ---- the number at a position, by how many digits there are and which is first
module _ (s : List ℕ) (at v end : ℕ) (d : DigitsAt s at v end) where
  some_lead : 1 ≤ end - at → 1 ≤ leading (drop at s)
  some_lead h = by_place (ltb (at + most_digits) end) refl
    where
      by_place : (t : Bool) → ltb (at + most_digits) end ≡ t → 1 ≤ leading (drop at s)
      by_place true e = omega (arith, d.many (ltb-true (at + most_digits) end e))
      by_place false e = omega (arith, (d.few (ltb-false (at + most_digits) end e)).0)

  pub field_within : 1 ≤ end - at → at < length s
  field_within h = (digit_at s at (some_lead h)).within

  pub field_none : end - at < 1 → None ≡ field_at s at
  unfolding field_of
  field_none h = let e = (d.few (omega (arith, d.from))).0 in rw (lt-leb 1 (leading (drop at s)) (omega arith))

  pub field_long : most_digits < end - at → None ≡ field_at s at
  unfolding field_of
  field_long h =
      let m = d.many (omega arith) in
      rw (le-leb 1 (leading (drop at s)) (omega arith), lt-leb (leading (drop at s)) most_digits (omega arith))

  module _ (g : 1 ≤ end - at) (h : end - at ≤ most_digits) where
    e : end ≡ at + leading (drop at s)
    e = (d.few (omega arith)).0

    w : v ≡ value_after 0 (take (leading (drop at s)) (drop at s))
    w = (d.few (omega arith)).1

    pub field_zero : (end - at ≡ 1 → ⊥) → get_or s at 0 ≡ 48 → None ≡ field_at s at
    unfolding field_of
    field_zero k z =
        let n : leading (drop at s) ≡ 1 → ⊥ = λ q. k (omega (arith, e)) in
        rw (
          le-leb 1 (leading (drop at s)) (omega (arith, e)),
          le-leb (leading (drop at s)) most_digits (omega (arith, e)),
          ne_eqb (leading (drop at s)) 1 n,
          ← head_at s at,
          z,
        )

    pub field_digit : end - at ≡ 1 → number v end ≡ field_at s at
    unfolding field_of
    field_digit k =
        rw (
          le-leb 1 (leading (drop at s)) (omega (arith, e)),
          le-leb (leading (drop at s)) most_digits (omega (arith, e)),
          eq-eqb (leading (drop at s)) 1 (omega (arith, e)),
          w,
          e,
        )

    pub field_digits : (end - at ≡ 1 → ⊥) → (get_or s at 0 ≡ 48 → ⊥) → number v end ≡ field_at s at
    unfolding field_of
    field_digits k z =
        let n : leading (drop at s) ≡ 1 → ⊥ = λ q. k (omega (arith, e)) in
        rw (
          le-leb 1 (leading (drop at s)) (omega (arith, e)),
          le-leb (leading (drop at s)) most_digits (omega (arith, e)),
          ne_eqb (leading (drop at s)) 1 n,
          ← head_at s at,
          ne_eqb (get_or s at 0) 48 z,
          w,
          e,
        )
