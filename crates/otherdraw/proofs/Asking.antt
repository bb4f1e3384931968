-- The tests of the call: the walk over rising posts, how many there are, and the tests joined.
use Prim.Native.Nat.{ℕ, suc, ◌+◌, ◌≤◌, ◌<◌}
use mathlib.Core.Path.{◌≡◌, sym, ◌∙◌, ap, ap₂}
use mathlib.Core.Bool.{Bool, not, ◌||◌}
use mathlib.Core.List.{List, [], ◌∷◌, ◌++◌}
use native.Mathlib.Numerals.{add-one}
use native.Mathlib.Omega.{arith}
use borrow.Author.Tests.{lt-ltb, le-ltb}
use lib.Dec.{ltb}
use lib.ListN.{length, get_or, drop, drop_of_length-le}
use lib.Seq.{drop-cons}
use Rattle.std.specs.Prelude.{Result}
use Rattle.std.specs.Result.{result_and}
use Rattle.shape.specs.Lengths.{shape, checks_length, draw_length}
use Rattle.refusal.specs.declared.Refusal.{Refusal}
use Rattle.refusal.specs.Numbers.{refused}
use Rattle.refusal.specs.Refusal.{Test, ◌when◌, first}
use Rattle.refusal.specs.Conditions.{beyond, station_tests}
use Rattle.refusal.proofs.Groups.{stopped, went_on}
use Rattle.refusal.proofs.Checks.{both_asked}
use Rattle.factory.specs.Calls.{lists_tests}
use Rattle.otherdraw.specs.Other.{not_rising, too_many_of, own_tests, other_refusal_of}

-- ---- rising posts

module _ (n last : ℕ) (l : List ℕ) (i : ℕ) (b : Bool) where
  pub falls : i < length l → get_or l i 0 ≤ last → not_rising n last (drop i l) ≡ b → 18 ≡ first (18 when b ∷ [])
  unfolding not_rising
  falls h f inv =
      ap (λ (c : Bool). first (18 when c ∷ []))
      (ap (λ (c : Bool). not c || (ltb n (get_or l i 0) || not_rising n (get_or l i 0) (drop (suc i) l))) (sym (le-ltb last (get_or l i 0) f))
      ∙ ap (not_rising n last) (sym (drop-cons l i 0 h)) ∙ inv)

  pub leaves : (w : ℕ) → i < length l → last < get_or l i 0 → w ≡ get_or l i 0 → n < w → not_rising n last (drop i l) ≡ b → 18 ≡ first (18 when b ∷ [])
  unfolding not_rising
  leaves w h f e less inv =
      let g : n < get_or l i 0 = omega (arith, e, less) in
      ap (λ (c : Bool). first (18 when c ∷ []))
      (ap₂ (λ (c d : Bool). not c || (d || not_rising n (get_or l i 0) (drop (suc i) l))) (sym (lt-ltb last (get_or l i 0) f)) (sym (lt-ltb n (get_or l i 0) g))
      ∙ ap (not_rising n last) (sym (drop-cons l i 0 h)) ∙ inv)

  pub rises : (w : ℕ) → i < length l → last < get_or l i 0 → w ≡ get_or l i 0 → w ≤ n → not_rising n last (drop i l) ≡ b → not_rising n (get_or l i 0) (drop (i + 1) l) ≡ b
  unfolding not_rising
  rises w h f e most inv =
      let g : get_or l i 0 ≤ n = omega (arith, e, most) in
      ap (λ (k : ℕ). not_rising n (get_or l i 0) (drop k l)) (add-one i)
      ∙ ap₂ (λ (c d : Bool). not c || (d || not_rising n (get_or l i 0) (drop (suc i) l))) (sym (lt-ltb last (get_or l i 0) f)) (sym (le-ltb n (get_or l i 0) g))
      ∙ ap (not_rising n last) (sym (drop-cons l i 0 h)) ∙ inv

  pub rose : length l ≤ i → not_rising n last (drop i l) ≡ b → 0 ≡ first (18 when b ∷ [])
  unfolding not_rising
  rose h inv = ap (λ (c : Bool). first (18 when c ∷ [])) (ap (not_rising n last) (sym (drop_of_length-le l h)) ∙ inv)

-- ---- the tests joined

pub own_joined : {A : Type 0} (n t secret wanted : ℕ) (posts : List ℕ) (a b c d u v r : Result A Refusal)
    → refused a ≡ first (8 when beyond secret ∷ []) → refused b ≡ first (8 when beyond wanted ∷ []) → refused c ≡ first (18 when not_rising n 0 posts ∷ [])
    → refused d ≡ first (19 when too_many_of t secret wanted posts ∷ []) → u ≡ result_and a b → v ≡ result_and u c → r ≡ result_and v d
    → refused r ≡ first (own_tests n t secret wanted posts)
own_joined n t secret wanted posts a b c d u v r ea eb ec ed eu ev er =
    let one = 8 when beyond secret in
    let two = 8 when beyond wanted in
    let three = 18 when not_rising n 0 posts in
    both_asked (one ∷ two ∷ three ∷ []) (19 when too_many_of t secret wanted posts ∷ []) tt v d r
    (both_asked (one ∷ two ∷ []) (three ∷ []) tt u c v (both_asked (one ∷ []) (two ∷ []) tt a b u ea eb eu) ec ev) ed er

module _ (n t points : ℕ) (ws draw : List ℕ) (secret wanted : ℕ) (posts out : List ℕ) (r : ℕ) (e : r ≡ first (station_tests n t points)) where
  abbrev listed : ℕ → ℕ → List Test
  listed c long = lists_tests c ws draw long out long

  pub other_stopped : (r ≡ 0 → ⊥) → r ≡ other_refusal_of n t points ws draw secret wanted posts out
  unfolding other_refusal_of
  other_stopped h =
      stopped (station_tests n t points) (listed (checks_length (shape n t points)) (draw_length (shape n t points)) ++ own_tests n t secret wanted posts) tt r e h

  pub other_went_on : {A : Type 0} → r ≡ 0 → (c long : ℕ) (a b q : Result A Refusal) → c ≡ checks_length (shape n t points) → long ≡ draw_length (shape n t points)
      → refused a ≡ first (lists_tests c ws draw long out long) → refused b ≡ first (own_tests n t secret wanted posts) → q ≡ result_and a b
      → refused q ≡ other_refusal_of n t points ws draw secret wanted posts out
  unfolding other_refusal_of
  other_went_on z c long a b q ec el ea eb eq =
      went_on (station_tests n t points) (listed (checks_length (shape n t points)) (draw_length (shape n t points)) ++ own_tests n t secret wanted posts) tt r e
      (refused q) z (rw (← el, ← ec) (both_asked (listed c long) (own_tests n t secret wanted posts) tt a b q ea eb eq))
