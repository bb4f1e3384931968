-- Eight digits at once, and up to three behind them.
use Prim.Native.Nat.{ℕ, suc, ◌+◌, ◌-◌, ◌*◌, ◌≤◌, ◌<◌}
use mathlib.Core.Path.{◌≡◌, refl, ap, sym, ◌∙◌}
use mathlib.Core.List.{List, [], ◌∷◌, ◌++◌}
use mathlib.Core.Bool.{Bool, true, false}
use native.Mathlib.Omega.{arith}
use borrow.Author.Tests.{ltb-true, ltb-false}
use mir.Syntax.{w64}
use mir.Val.{Fits}
use lib.ListN.{length, get_or, take, drop, length-drop, take-append-drop}
use lib.Seq.{drop-drop, length-take-le}
use lib.Dec.{ltb}
use Rattle.std.specs.Char.{is_ascii_digit}
use Rattle.decimal.specs.Numeral.{most_digits, leading, value_after}
use Rattle.decimal.specs.Between.{WalkEnd, DigitsAt, Digits, bytes_of, BehindEight, BehindNine}
use Rattle.decimal.proofs.Digits.{leading_append, value_below}
use Rattle.decimal.proofs.Scanning.{walk_part, walk_whole, Walked, walked_stop, walked_end, walked_mul, walked_add, walked_more}

pub behind_eight_lem : (s : List ℕ) (at x v : ℕ) → bytes_of 8 x ≡ take 8 (drop at s) → Digits (bytes_of 8 x) → v ≡ value_after 0 (bytes_of 8 x)
    → most_digits ≤ length s → at ≤ length s - most_digits → BehindEight s at v
behind_eight_lem s at x v e d q h g = record { room = omega arith; digits = rw e at d; says = rw e at q }

value_append : (a : ℕ) (ds es : List ℕ) → value_after a (ds ++ es) ≡ value_after (value_after a ds) es
unfolding value_after
value_append a [] es = refl
value_append a (d ∷ ds) es = value_append (a * 10 + (d - 48)) ds es

take_more : (ds es : List ℕ) (k : ℕ) → take (length ds + k) (ds ++ es) ≡ ds ++ take k es
take_more [] es k = let e : 0 + k ≡ k = omega arith in rw e
take_more (d ∷ ds) es k = let e : suc (length ds) + k ≡ suc (length ds + k) = omega arith in rw e (ap (λ (l : List ℕ). d ∷ l) (take_more ds es k))

module _ (s : List ℕ) (at v : ℕ) (p : BehindEight s at v) where
  -- where a walk from here would end: at ten digits, or behind an eleventh byte
  record Far : Type 0 where
    pub end : ℕ
    pub walk : WalkEnd (length s) at end
    pub ten : at + most_digits ≤ end
    pub more : at + 10 < length s → at + 10 < end
    pub no_more : length s ≤ at + 10 → end ≤ at + 10

  far : Far
  far = by_place (ltb (at + most_digits) (length s)) refl
    where
      by_place : (t : Bool) → ltb (at + most_digits) (length s) ≡ t → Far
      by_place true e =
          let h = ltb-true (at + most_digits) (length s) e in
          record { end = at + most_digits + 1; walk = walk_part (length s) at (omega arith); ten = omega arith; more = λ q. omega arith; no_more = λ q. absurd (omega arith) }
      by_place false e =
          let h = ltb-false (at + most_digits) (length s) e in
          record { end = length s; walk = walk_whole (length s) at (omega (arith, p.room)) (omega arith); ten = p.room; more = λ q. q; no_more = λ q. q }

  abbrev end : ℕ
  end = far.end

  eight_walked : Walked s at end v (at + 8)
  eight_walked =
      let ds : List ℕ = take 8 (drop at s) in
      let n : length ds ≡ 8 = length-take-le 8 (drop at s) (rw (length-drop at s) (omega (arith, p.room))) in
      let e : drop at s ≡ ds ++ drop (at + 8) s = sym (take-append-drop 8 (drop at s)) ∙ ap (λ (l : List ℕ). ds ++ l) (drop-drop 8 at s) in
      let l : leading (drop at s) ≡ length ds + leading (drop (at + 8) s) = ap leading e ∙ leading_append ds (drop (at + 8) s) p.digits in
      let z : at + 8 - at ≡ 8 = omega arith in
      let t : take (leading (drop at s)) (drop at s) ≡ ds ++ take (leading (drop (at + 8) s)) (drop (at + 8) s) =
      ap (λ (k : ℕ). take k (drop at s)) l ∙ ap (take (length ds + leading (drop (at + 8) s))) e ∙ take_more ds (drop (at + 8) s) (leading (drop (at + 8) s)) in
      record {
        walk = far.walk;
        from = omega arith;
        upto = omega (arith, far.ten);
        leads = omega (arith, l, n);
        small = rw (z, p.says) (rw n at (value_below ds 0 0 p.digits (omega arith)));
        says = rw p.says (sym (ap (value_after 0) t ∙ value_append 0 ds (take (leading (drop (at + 8) s)) (drop (at + 8) s))));
      }

  pub eight_stop : is_ascii_digit (get_or s (at + 8) 0) ≡ false → DigitsAt s at v (at + 8)
  eight_stop h = walked_stop s at end v (at + 8) eight_walked (omega (arith, far.ten)) h

  module _ (x : ℕ) (g : is_ascii_digit (get_or s (at + 8) 0) ≡ true) where
    pub nine_mul : Fits w64 (v * 10)
    nine_mul = walked_mul s at end v (at + 8) eight_walked (omega (arith, far.ten))

    module _ (e : x ≡ get_or s (at + 8) 0 - 48) where
      pub nine_add : Fits w64 (v * 10 + x)
      nine_add = walked_add s at end v (at + 8) eight_walked x (omega (arith, far.ten)) g e

      pub behind_nine_is : BehindNine s at (v * 10 + x)
      behind_nine_is = record { eight = v; front = p; digit = g; says = ap (λ (d : ℕ). v * 10 + d) e }

as_said : (s : List ℕ) (at end v x i : ℕ) → v ≡ x → Walked s at end x i → Walked s at end v i
as_said s at end v x i e w = rw e w

module _ (s : List ℕ) (at v : ℕ) (p : BehindNine s at v) where
  abbrev last : Far s at p.eight p.front
  last = far s at p.eight p.front

  abbrev stop : ℕ
  stop = last.end

  nine_walked : Walked s at stop v (at + 9)
  nine_walked =
      let i : at + 8 + 1 ≡ at + 9 = omega arith in
      let d : ℕ = get_or s (at + 8) 0 - 48 in
      let w = eight_walked s at p.eight p.front in
      as_said s at stop v (p.eight * 10 + d) (at + 9) p.says
      (rw i at (walked_more s at stop p.eight (at + 8) w d (omega (arith, last.ten)) p.digit refl))

  pub nine_stop : is_ascii_digit (get_or s (at + 9) 0) ≡ false → DigitsAt s at v (at + 9)
  nine_stop h = walked_stop s at stop v (at + 9) nine_walked (omega (arith, last.ten)) h

  module _ (y : ℕ) (f : is_ascii_digit (get_or s (at + 9) 0) ≡ true) where
    pub ten_mul : Fits w64 (v * 10)
    ten_mul = walked_mul s at stop v (at + 9) nine_walked (omega (arith, last.ten))

    module _ (d : y ≡ get_or s (at + 9) 0 - 48) where
      pub ten_add : Fits w64 (v * 10 + y)
      ten_add = walked_add s at stop v (at + 9) nine_walked y (omega (arith, last.ten)) f d

      ten_walked : Walked s at stop (v * 10 + y) (at + 10)
      ten_walked =
          let i : at + 9 + 1 ≡ at + 10 = omega arith in
          rw i at (walked_more s at stop v (at + 9) nine_walked y (omega (arith, last.ten)) f d)

      pub ten_last : length s ≤ at + 10 → DigitsAt s at (v * 10 + y) (at + 10)
      ten_last h = walked_end s at stop (v * 10 + y) (at + 10) ten_walked (last.no_more h)

      module _ (l : at + 10 < length s) where
        pub ten_stop : is_ascii_digit (get_or s (at + 10) 0) ≡ false → DigitsAt s at (v * 10 + y) (at + 10)
        ten_stop h = walked_stop s at stop (v * 10 + y) (at + 10) ten_walked (last.more l) h

        -- an eleventh digit: what is said does not matter
        pub too_many : is_ascii_digit (get_or s (at + 10) 0) ≡ true → DigitsAt s at (v * 10 + y) (at + 10 + 1)
        too_many h =
            let w = walked_more s at stop (v * 10 + y) (at + 10) ten_walked (get_or s (at + 10) 0 - 48) (last.more l) h refl in
            record { from = omega arith; few = λ q. absurd (omega arith); many = λ q. omega (arith, w.leads) }
