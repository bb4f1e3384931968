-- Rising numbers: each lies between the one before and the last, no two are equal, and the missing ones lie among them.
use Prim.Native.Nat.{ℕ, suc, ◌+◌, ◌-◌, ◌≤◌, ◌<◌}
use mathlib.Core.Path.{◌≡◌, refl, ◌∙◌, ap}
use mathlib.Core.List.{List, [], ◌∷◌, ◌++◌}
use native.Mathlib.Nat.{le_of_suc-le-suc, not-suc-le-zero}
use native.Mathlib.Omega.{arith}
use lib.ListN.{length, take, drop, get_or}
use Rattle.field.specs.Modulus.{p}
use Rattle.inverses.specs.InverseTable.{most}
use Rattle.poly.specs.Counting.{All, Distinct, Elements}
use Rattle.barycentric.specs.Nodes.{Rising, last_of, missing, following}
use Rattle.poly.proofs.Lists.{all_map, all_zip, all_join}

pub rising_most : (a : ℕ) (xs : List ℕ) → Rising a xs → a ≤ last_of a xs
rising_most a [] r = omega arith
rising_most a (x ∷ xs) r = let ih = rising_most x xs r.1 in omega (arith, r.0)

pub rising_next : (a : ℕ) (xs : List ℕ) (i : ℕ) → Rising a xs → i < length xs → last_of a (take i xs) < get_or xs i 0
rising_next a [] i r h = absurd (not-suc-le-zero h)
rising_next a (x ∷ xs) ℕ.zero r h = r.0
rising_next a (x ∷ xs) (suc i) r h = rising_next x xs i r.1 (le_of_suc-le-suc h)

pub rising_count : (a : ℕ) (xs : List ℕ) (i : ℕ) → Rising a xs → i ≤ length xs → a + i ≤ last_of a (take i xs)
rising_count a xs ℕ.zero r h = omega arith
rising_count a [] (suc i) r h = absurd (not-suc-le-zero h)
rising_count a (x ∷ xs) (suc i) r h = let ih = rising_count x xs i r.1 (le_of_suc-le-suc h) in omega (arith, r.0)

pub rising_last : (a : ℕ) (xs : List ℕ) (i : ℕ) → Rising a xs → i < length xs → get_or xs i 0 ≤ last_of a xs
rising_last a [] i r h = absurd (not-suc-le-zero h)
rising_last a (x ∷ xs) ℕ.zero r h = rising_most x xs r.1
rising_last a (x ∷ xs) (suc i) r h = rising_last x xs i r.1 (le_of_suc-le-suc h)

pub last_of_take : (a : ℕ) (xs : List ℕ) (i : ℕ) → i < length xs → last_of a (take (suc i) xs) ≡ get_or xs i 0
last_of_take a [] i h = absurd (not-suc-le-zero h)
last_of_take a (x ∷ xs) ℕ.zero h = refl
last_of_take a (x ∷ xs) (suc i) h = last_of_take x xs i (le_of_suc-le-suc h)

pub rising_above : (a : ℕ) (xs : List ℕ) → Rising a xs → All (λ x. a < x) xs
rising_above a [] r = tt
rising_above a (x ∷ xs) r = (r.0, all_map (λ y h. omega (arith, r.0)) xs (rising_above x xs r.1))

pub rising_distinct : (a : ℕ) (xs : List ℕ) → Rising a xs → Distinct xs
rising_distinct a [] r = tt
rising_distinct a (x ∷ xs) r = (all_map (λ y h e. absurd (omega arith)) xs (rising_above x xs r.1), rising_distinct x xs r.1)

pub rising_below : (a : ℕ) (xs : List ℕ) → Rising a xs → All (λ x. x ≤ last_of a xs) xs
rising_below a [] r = tt
rising_below a (x ∷ xs) r = (rising_most x xs r.1, rising_below x xs r.1)

pub rising_elements : (a : ℕ) (xs : List ℕ) → Rising a xs → last_of a xs < p → Elements xs
rising_elements a xs r h = all_map (λ x l. omega arith) xs (rising_below a xs r)

pub following_between : (a n : ℕ) → All (λ g. (a < g) × (g ≤ a + n)) (following a n)
unfolding following
following_between a ℕ.zero = tt
following_between a (suc n) = ((omega arith, omega arith), all_map (λ g h. (omega (arith, h.0), omega (arith, h.1))) (following (suc a) n) (following_between (suc a) n))

pub missing_between : (a : ℕ) (xs : List ℕ) → Rising a xs → All (λ g. (a < g) × (g < last_of a xs)) (missing a xs)
unfolding missing
missing_between a [] r = tt
missing_between a (x ∷ xs) r =
    let m = rising_most x xs r.1 in
    all_join (λ g. (a < g) × (g < last_of x xs)) (following a (x - suc a)) (missing x xs)
    (all_map (λ g h. (h.0, omega (arith, h.1, r.0))) (following a (x - suc a)) (following_between a (x - suc a)))
    (all_map (λ g h. (omega (arith, h.0, r.0), h.1)) (missing x xs) (missing_between x xs r.1))

-- the next number is a node, or it is missing
pub missing_node : (a x : ℕ) (xs : List ℕ) → x ≡ a + 1 → missing a (x ∷ xs) ≡ missing x xs
unfolding missing following
missing_node a x xs e = let q : x - suc a ≡ 0 = omega arith in ap (λ (k : ℕ). following a k ++ missing x xs) q

pub missing_gap : (a x : ℕ) (xs : List ℕ) → a + 1 < x → missing a (x ∷ xs) ≡ (a + 1) ∷ missing (a + 1) (x ∷ xs)
unfolding missing following
missing_gap a x xs h =
    let q : x - suc a ≡ suc (x - suc (suc a)) = omega arith in
    let n : suc a ≡ a + 1 = omega arith in
    ap (λ (k : ℕ). following a k ++ missing x xs) q
    ∙ ap (λ (k : ℕ). k ∷ (following k (x - suc k) ++ missing x xs)) n

-- the first numbers and the further ones
pub rising_take : (a : ℕ) (xs : List ℕ) (k : ℕ) → Rising a xs → Rising a (take k xs)
rising_take a xs ℕ.zero r = tt
rising_take a [] (suc k) r = tt
rising_take a (x ∷ xs) (suc k) r = (r.0, rising_take x xs k r.1)

rising_drop : (a : ℕ) (xs : List ℕ) (k : ℕ) → Rising a xs → Rising (last_of a (take k xs)) (drop k xs)
rising_drop a xs ℕ.zero r = r
rising_drop a [] (suc k) r = tt
rising_drop a (x ∷ xs) (suc k) r = rising_drop x xs k r.1

last_of_drop : (a : ℕ) (xs : List ℕ) (k : ℕ) → last_of (last_of a (take k xs)) (drop k xs) ≡ last_of a xs
last_of_drop a xs ℕ.zero = refl
last_of_drop a [] (suc k) = refl
last_of_drop a (x ∷ xs) (suc k) = last_of_drop x xs k

pub rising_further : (a : ℕ) (xs : List ℕ) (k : ℕ) → Rising a xs
    → All (λ z. (suc (last_of a (take k xs)) ≤ z) × (z ≤ last_of a xs)) (drop k xs)
rising_further a xs k r =
    all_zip (λ z b c. (b, omega (arith, c, last_of_drop a xs k))) (drop k xs) (rising_above (last_of a (take k xs)) (drop k xs) (rising_drop a xs k r))
    (rising_below (last_of a (take k xs)) (drop k xs) (rising_drop a xs k r))

pub missing_small : (xs gs : List ℕ) → Rising 0 xs → last_of 0 xs ≤ most → gs ≡ missing 0 xs → All (λ g. g ≤ most) gs
missing_small xs gs r h e = rw e (all_map (λ g b. omega (arith, b.1)) (missing 0 xs) (missing_between 0 xs r))
