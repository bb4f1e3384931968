-- Posts that rise, and posts of a station, place by place.
use Prim.Native.Nat.{ℕ, zero, suc, ◌≤◌, ◌<◌}
use mathlib.Core.Path.{◌≡◌, refl, ap, sym}
use mathlib.Core.Bool.{Bool, true, false, ◌&&◌, ◌||◌, cond}
use mathlib.Core.List.{List, [], ◌∷◌}
use native.Mathlib.Omega.{arith}
use borrow.Author.Tests.{lt-ltb, le-ltb, ltb-true, ltb-false}
use lib.Dec.{ltb}
use lib.ListN.{length, get_or}
use Rattle.access.specs.Access.{rising_from, rising, any_outside}
use Rattle.access.specs.Claims.{PostsMean}

differ : {A : Type 0} → false ≡ true → A
differ e = let z : ◌≡◌ {A = ℕ} 1 0 = ap (λ (b : Bool). cond b 0 1) e in absurd (omega (arith, z))

-- ---- rising
from_rises : (low : ℕ) (xs : List ℕ) → rising_from low xs ≡ true → (i : ℕ) → i < length xs → get_or (low ∷ xs) i 0 < get_or xs i 0
from_rises low [] e i h = absurd (omega (arith, h))
from_rises low (y ∷ ys) e i h = go (ltb low y) refl e (λ e i h. from_rises y ys e i h) i h
  where
    go : (b : Bool) → ltb low y ≡ b → (b && rising_from y ys) ≡ true
        → (rising_from y ys ≡ true → (i : ℕ) → i < length ys → get_or (y ∷ ys) i 0 < get_or ys i 0) → (i : ℕ) → i < suc (length ys)
        → get_or (low ∷ y ∷ ys) i 0 < get_or (y ∷ ys) i 0
    go true q e rest zero h = ltb-true low y q
    go true q e rest (suc i) h = rest e i (omega (arith, h))
    go false q e rest i h = differ e

from_risen : (low : ℕ) (xs : List ℕ) → ((i : ℕ) → i < length xs → get_or (low ∷ xs) i 0 < get_or xs i 0) → rising_from low xs ≡ true
from_risen low [] h = refl
from_risen low (y ∷ ys) h =
    rw (lt-ltb low y (h 0 (omega arith)), from_risen y ys (λ i l. h (suc i) (omega (arith, l))))

rises : (cs : List ℕ) → rising cs ≡ true → (i : ℕ) → suc i < length cs → get_or cs i 0 < get_or cs (suc i) 0
rises [] e i h = absurd (omega (arith, h))
rises (x ∷ xs) e i h = from_rises x xs e i (omega (arith, h))

risen : (cs : List ℕ) → ((i : ℕ) → suc i < length cs → get_or cs i 0 < get_or cs (suc i) 0) → rising cs ≡ true
risen [] h = refl
risen (x ∷ xs) h = from_risen x xs (λ i l. h i (omega (arith, l)))

-- ---- inside
all_inside : (n : ℕ) (cs : List ℕ) → any_outside n cs ≡ false → (i : ℕ) → i < length cs → (1 ≤ get_or cs i 0) × (get_or cs i 0 ≤ n)
all_inside n [] e i h = absurd (omega (arith, h))
all_inside n (c ∷ cs) e i h = go (ltb c 1) (ltb n c) refl refl e (λ e i h. all_inside n cs e i h) i h
  where
    go : (a b : Bool) → ltb c 1 ≡ a → ltb n c ≡ b → ((a || b) || any_outside n cs) ≡ false
        → (any_outside n cs ≡ false → (i : ℕ) → i < length cs → (1 ≤ get_or cs i 0) × (get_or cs i 0 ≤ n)) → (i : ℕ) → i < suc (length cs)
        → (1 ≤ get_or (c ∷ cs) i 0) × (get_or (c ∷ cs) i 0 ≤ n)
    go true b qa qb e rest i h = differ (sym e)
    go false true qa qb e rest i h = differ (sym e)
    go false false qa qb e rest zero h = (ltb-false c 1 qa, ltb-false n c qb)
    go false false qa qb e rest (suc i) h = rest e i (omega (arith, h))

none_outside : (n : ℕ) (cs : List ℕ) → ((i : ℕ) → i < length cs → (1 ≤ get_or cs i 0) × (get_or cs i 0 ≤ n)) → any_outside n cs ≡ false
none_outside n [] h = refl
none_outside n (c ∷ cs) h =
    let o = h 0 (omega arith) in
    rw (le-ltb c 1 o.0, le-ltb n c o.1, none_outside n cs (λ i l. h (suc i) (omega (arith, l))))

pub posts_mean : PostsMean
posts_mean = record { rises = rises; risen = risen; all_inside = all_inside; none_outside = none_outside }
