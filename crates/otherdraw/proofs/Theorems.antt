-- The call's own tests are the table, its refusal the first of them, and a refused call leaves its list; what 18 means of a list of posts.
use Prim.Native.Nat.{ℕ, zero, suc, ◌≤◌, ◌<◌}
use mathlib.Core.Path.{◌≡◌, refl, sym, ◌∙◌, ap, ap₂}
use mathlib.Core.Bool.{Bool, true, false, not, ◌||◌, false≢true}
use mathlib.Core.List.{List, [], ◌∷◌}
use native.Mathlib.Omega.{arith}
use borrow.Author.Tests.{lt-ltb, le-ltb, ltb-true, ltb-false}
use lib.Dec.{ltb}
use lib.ListN.{length, get_or}
use Rattle.refusal.specs.Refusal.{first}
use Rattle.refusal.specs.Conditions.{outside}
use Rattle.refusal.proofs.Laws.{or_false, inside}
use Rattle.refusal.proofs.Figures.{beyond_figures}
use Rattle.refusal.proofs.Decided.{keeps_by}
use Rattle.otherdraw.specs.Other.{not_rising, other_tests, other_draw, other_refusal_of}
use Rattle.otherdraw.specs.Table.{falls, leaves, other_table}
use Rattle.otherdraw.specs.Claims.{OtherLawful, RisingMeans}

not_false : (b : Bool) → not b ≡ false → b ≡ true
not_false true e = refl
not_false false e = absurd (false≢true (sym e))

-- ---- rising posts behind `last`

-- by place: each is in last + 1..n, and above the one before
inside_at : (n last : ℕ) (posts : List ℕ) → not_rising n last posts ≡ false → (i : ℕ) → i < length posts → (last < get_or posts i 0) × (get_or posts i 0 ≤ n)
unfolding not_rising
inside_at n last [] e i h = absurd (omega arith)
inside_at n last (j ∷ js) e i h =
    let (up, rest) = or_false (not (ltb last j)) (ltb n j || not_rising n j js) e in
    let (most, more) = or_false (ltb n j) (not_rising n j js) rest in
    let above : last < j = ltb-true last j (not_false (ltb last j) up) in
    go above (ltb-false n j most) (inside_at n j js more) i h
  where
    go : last < j → j ≤ n → ((i : ℕ) → i < length js → (j < get_or js i 0) × (get_or js i 0 ≤ n)) → (i : ℕ) → i < length (j ∷ js)
        → (last < get_or (j ∷ js) i 0) × (get_or (j ∷ js) i 0 ≤ n)
    go above most rest zero h = (above, most)
    go above most rest (suc i) h = let (a, b) = rest i (omega arith) in (omega (arith, above, a), b)

rising_at : (n last : ℕ) (posts : List ℕ) → not_rising n last posts ≡ false → (i : ℕ) → suc i < length posts → get_or posts i 0 < get_or posts (suc i) 0
unfolding not_rising
rising_at n last [] e i h = absurd (omega arith)
rising_at n last (j ∷ js) e zero h =
    let (up, rest) = or_false (not (ltb last j)) (ltb n j || not_rising n j js) e in
    (inside_at n j js (or_false (ltb n j) (not_rising n j js) rest).1 0 (omega arith)).0
rising_at n last (j ∷ js) e (suc i) h =
    let (up, rest) = or_false (not (ltb last j)) (ltb n j || not_rising n j js) e in
    rising_at n j js (or_false (ltb n j) (not_rising n j js) rest).1 i (omega arith)

rising_rest : (n last : ℕ) (posts : List ℕ) → ((i : ℕ) → i < length posts → get_or posts i 0 ≤ n) → (0 < length posts → last < get_or posts 0 0)
    → ((i : ℕ) → suc i < length posts → get_or posts i 0 < get_or posts (suc i) 0) → not_rising n last posts ≡ false
unfolding not_rising
rising_rest n last [] a f r = refl
rising_rest n last (j ∷ js) a f r =
    ap₂ (λ (b c : Bool). not b || (c || not_rising n j js)) (lt-ltb last j (f (omega arith))) (le-ltb n j (a 0 (omega arith)))
    ∙ rising_rest n j js (λ i h. a (suc i) (omega arith)) (λ h. r 0 (omega arith)) (λ i h. r (suc i) (omega arith))

pub rising_means : RisingMeans
rising_means = record {
  rising_passes = λ n posts a r. rising_rest n 0 posts (λ i h. (a i h).1) (λ h. (a 0 h).0) r;
  passes_inside = λ n posts e i h. let (a, b) = inside_at n 0 posts e i h in (omega (arith, a), b);
  passes_rising = λ n posts e. rising_at n 0 posts e;
}

-- ---- 18 in the table's words

falls_at : (posts : List ℕ) → falls posts ≡ false → (i : ℕ) → suc i < length posts → get_or posts i 0 < get_or posts (suc i) 0
unfolding falls
falls_at [] e i h = absurd (omega arith)
falls_at (j ∷ []) e i h = absurd (omega arith)
falls_at (j ∷ k ∷ js) e zero h = ltb-true j k (not_false (ltb j k) (or_false (not (ltb j k)) (falls (k ∷ js)) e).0)
falls_at (j ∷ k ∷ js) e (suc i) h = falls_at (k ∷ js) (or_false (not (ltb j k)) (falls (k ∷ js)) e).1 i (omega arith)

falls_not : (posts : List ℕ) → ((i : ℕ) → suc i < length posts → get_or posts i 0 < get_or posts (suc i) 0) → falls posts ≡ false
unfolding falls
falls_not [] r = refl
falls_not (j ∷ []) r = refl
falls_not (j ∷ k ∷ js) r =
    ap (λ (b : Bool). not b || falls (k ∷ js)) (lt-ltb j k (r 0 (omega arith))) ∙ falls_not (k ∷ js) (λ i h. r (suc i) (omega arith))

leaves_at : (n : ℕ) (posts : List ℕ) → leaves n posts ≡ false → (i : ℕ) → i < length posts → (1 ≤ get_or posts i 0) × (get_or posts i 0 ≤ n)
unfolding leaves
leaves_at n [] e i h = absurd (omega arith)
leaves_at n (j ∷ js) e zero h = inside 1 n j (or_false (outside 1 n j) (leaves n js) e).0
leaves_at n (j ∷ js) e (suc i) h = leaves_at n js (or_false (outside 1 n j) (leaves n js) e).1 i (omega arith)

leaves_not : (n : ℕ) (posts : List ℕ) → ((i : ℕ) → i < length posts → (1 ≤ get_or posts i 0) × (get_or posts i 0 ≤ n)) → leaves n posts ≡ false
unfolding leaves
leaves_not n [] a = refl
leaves_not n (j ∷ js) a =
    let (lo, hi) = a 0 (omega arith) in
    ap₂ (λ (b c : Bool). b || c) (ap₂ (λ (b c : Bool). b || c) (le-ltb j 1 lo) (le-ltb n j hi)) (leaves_not n js (λ i h. a (suc i) (omega arith)))

-- two tests that pass the same are one
same_test : (a b : Bool) → (a ≡ false → b ≡ false) → (b ≡ false → a ≡ false) → a ≡ b
same_test true true f g = refl
same_test false false f g = refl
same_test true false f g = g refl
same_test false true f g = sym (f refl)

eighteen : (n : ℕ) (posts : List ℕ) → not_rising n 0 posts ≡ (falls posts || leaves n posts)
eighteen n posts =
    same_test (not_rising n 0 posts) (falls posts || leaves n posts)
    (λ e. ap₂ (λ (b c : Bool). b || c) (falls_not posts (rising_means.passes_rising n posts e)) (leaves_not n posts (rising_means.passes_inside n posts e)))
    (λ e. let (f, l) = or_false (falls posts) (leaves n posts) e in rising_means.rising_passes n posts (leaves_at n posts l) (falls_at posts f))

-- ---- the table

module _ (n t points : ℕ) (ws draw : List ℕ) (secret wanted : ℕ) (posts out : List ℕ) where
  tests_are : other_tests n t points ws draw secret wanted posts out ≡ other_table n t points ws draw secret wanted posts out
  tests_are = rw (beyond_figures secret, beyond_figures wanted, eighteen n posts)

pub other_lawful : OtherLawful
unfolding other_refusal_of
other_lawful = record {
  refusal = λ n t points ws draw secret wanted posts out. ap first (tests_are n t points ws draw secret wanted posts out);
  draw = λ n t points ws draw secret wanted posts out.
      keeps_by {A = List ℕ} (tests_are n t points ws draw secret wanted posts out) (omega arith) (other_draw n t points ws draw secret wanted posts)
      (λ k. out);
}
