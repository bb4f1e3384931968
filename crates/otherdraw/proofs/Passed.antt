-- What the call's tests leave, by name: where it is not refused, and where it gives 19.
use Prim.Native.Nat.{ℕ, zero, suc, ◌≤◌, ◌<◌}
use mathlib.Core.Path.{◌≡◌, refl, sym}
use mathlib.Core.Bool.{Bool, true, false, not, ◌||◌, ◌&&◌, false≢true}
use mathlib.Core.Logic.{◌≢◌, ◌⊎◌}
use mathlib.Core.List.{List, [], ◌∷◌, ◌++◌}
use native.Mathlib.Omega.{arith}
use borrow.Author.Tests.{ltb-true, ltb-false, eqb-false}
use lib.Dec.{eqb, ltb}
use lib.ListN.{length}
use Rattle.field.specs.Modulus.{p}
use Rattle.poly.specs.Counting.{All, Distinct, Elements}
use Rattle.poly.proofs.Lists.{all_map}
use Rattle.shape.specs.Lengths.{shape, Valid, checks_length, draw_length}
use Rattle.refusal.specs.Refusal.{Test, ◌when◌, first, AllFail}
use Rattle.refusal.specs.Conditions.{beyond, bad_point, station_tests}
use Rattle.refusal.proofs.Laws.{all_fail, not_refused as passed, or_false, equal}
use Rattle.refusal.proofs.Elements.{below_p}
use Rattle.refusal.proofs.Groups.{fail_parts}
use Rattle.refusal.proofs.Ranges.{station_valid}
use Rattle.factory.specs.Calls.{any_bad_point, lists_tests}
use Rattle.factory.proofs.Laws.{passes_elements}
use Rattle.otherdraw.proofs.Few.{few_or_equal}
use Rattle.otherdraw.specs.Other.{not_rising, too_many_of, other_tests, other_refusal_of}

-- ---- the parts

good_points : (ws : List ℕ) → any_bad_point ws ≡ false → All (λ w. (1 ≤ w) × (w < p)) ws
unfolding any_bad_point
good_points [] e = tt
good_points (w ∷ ws) e =
    let (one, rest) = or_false (bad_point w) (any_bad_point ws) e in
    let (none, low) = or_false (eqb w 0) (beyond w) one in
    ((let n : w ≢ 0 = eqb-false w 0 none in go w n, below_p w low), good_points ws rest)
  where
    go : (w : ℕ) → w ≢ 0 → 1 ≤ w
    go zero n = absurd (n refl)
    go (suc w) n = omega arith

-- rising posts behind `last`, up to n
rising : (n last : ℕ) (posts : List ℕ) → not_rising n last posts ≡ false → All (λ i. (last < i) × (i ≤ n)) posts × Distinct posts
unfolding not_rising
rising n last [] e = (tt, tt)
rising n last (i ∷ is) e =
    let (up, rest) = or_false (not (ltb last i)) (ltb n i || not_rising n i is) e in
    let (in-n, more) = or_false (ltb n i) (not_rising n i is) rest in
    let above : last < i = ltb-true last i (not_false (ltb last i) up) in
    let (all, apart) = rising n i is more in (
      ((above, ltb-false n i in-n), all_map (λ j h. (omega (arith, above, h.0), h.1)) is all),
      (all_map (λ j h e. omega (arith, h.0, e)) is all, apart),
    )
  where
    not_false : (b : Bool) → not b ≡ false → b ≡ true
    not_false true e = refl
    not_false false e = absurd (false≢true (sym e))

-- ---- all

pub record Given (n t points : ℕ) (ws draw : List ℕ) (secret wanted : ℕ) (posts : List ℕ) : Type 0 where
  pub valid : Valid (shape n t points)
  pub station_fine : first (station_tests n t points) ≡ 0
  pub points_good : All (λ w. (1 ≤ w) × (w < p)) ws
  pub points_length : length ws ≡ checks_length (shape n t points)
  pub draw_length_is : length draw ≡ draw_length (shape n t points)
  pub draw_elements : Elements draw
  pub secret_low : secret < p
  pub wanted_low : wanted < p
  pub posts_in : All (λ i. (1 ≤ i) × (i ≤ n)) posts
  pub posts_apart : Distinct posts

module _ (n t points : ℕ) (ws draw : List ℕ) (secret wanted : ℕ) (posts out : List ℕ) where
  -- all but the last
  abbrev early : List Test
  early =
      station_tests n t points
      ++ (lists_tests (checks_length (shape n t points)) ws draw (draw_length (shape n t points)) out (draw_length (shape n t points))
      ++ (8 when beyond secret ∷ 8 when beyond wanted ∷ 18 when not_rising n 0 posts ∷ []))

  given : AllFail early → Given n t points ws draw secret wanted posts
  given h =
      let (one, (two, (count, (four, (five, (six, (seven, (eight, (nine, (ten, (rise, _))))))))))) = h in
      let (posts_in, apart) = rising n 0 posts rise in
      record {
        valid = station_valid n t points (one, (two, (count, tt)));
        station_fine = passed (station_tests n t points) (one, (two, (count, tt)));
        points_good = good_points ws four;
        points_length = equal (length ws) (checks_length (shape n t points)) five;
        draw_length_is = equal (length draw) (draw_length (shape n t points)) six;
        draw_elements = passes_elements draw eight;
        secret_low = below_p secret nine;
        wanted_low = below_p wanted ten;
        posts_in = all_map (λ i k. (omega (arith, k.0), k.1)) posts posts_in;
        posts_apart = apart;
      }

  many_and_apart : too_many_of t secret wanted posts ≡ true → (secret ≢ wanted) × (t < length posts)
  many_and_apart e = go (eqb secret wanted) refl e
    where
      go : (b : Bool) → eqb secret wanted ≡ b → (not b && ltb t (length posts)) ≡ true → (secret ≢ wanted) × (t < length posts)
      go true q f = absurd (false≢true f)
      go false q f = (eqb-false secret wanted q, ltb-true t (length posts) f)

  pub not_refused : other_refusal_of n t points ws draw secret wanted posts out ≡ 0
      → Given n t points ws draw secret wanted posts × ((secret ≡ wanted) ⊎ (length posts ≤ t))
  unfolding other_refusal_of
  not_refused z =
      let (a, (b, _)) = fail_parts early (19 when too_many_of t secret wanted posts ∷ []) (all_fail (other_tests n t points ws draw secret wanted posts out) tt z) in
      (given a, few_or_equal t secret wanted posts b)

  pub out_fits : other_refusal_of n t points ws draw secret wanted posts out ≡ 0 → length out ≡ draw_length (shape n t points)
  unfolding other_refusal_of
  out_fits z =
      let (a, _) = fail_parts early (19 when too_many_of t secret wanted posts ∷ []) (all_fail (other_tests n t points ws draw secret wanted posts out) tt z) in
      let (one, (two, (count, (four, (five, (six, (seven, _))))))) = a in
      equal (length out) (draw_length (shape n t points)) seven

  -- the last of tests whose other numbers are smaller
  Smaller : List Test → Type 0
  Smaller [] = Unit {0}
  Smaller (k when b ∷ ts) = (k < 19) × Smaller ts

  last_one : (ts : List Test) (b : Bool) → Smaller ts → first (ts ++ (19 when b ∷ [])) ≡ 19 → AllFail ts × (b ≡ true)
  unfolding Smaller
  last_one [] true s e = (tt, refl)
  last_one [] false s e = absurd (omega arith)
  last_one (k when true ∷ ts) b s e = absurd (omega (arith, s.0))
  last_one (k when false ∷ ts) b s e = let (a, q) = last_one ts b s.1 e in ((refl, a), q)

  pub nineteen : other_refusal_of n t points ws draw secret wanted posts out ≡ 19
      → Given n t points ws draw secret wanted posts × (secret ≢ wanted) × (t < length posts)
  unfolding other_refusal_of Smaller
  nineteen e =
      let five : 5 < 19 = omega arith in
      let eight : 8 < 19 = omega arith in
      let (a, b) = last_one early (too_many_of t secret wanted posts)
      (omega arith, (omega arith, (omega arith, (omega arith, (five, (five, (five, (eight, (eight, (eight, (omega arith, tt))))))))))) e in
      let (differ, many) = many_and_apart b in
      (given a, differ, many)
