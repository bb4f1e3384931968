-- What holds of all of a list.
use Prim.Native.Nat.{ℕ, suc, ◌<◌}
use mathlib.Core.Path.{◌≡◌, refl, ap₂}
use mathlib.Core.List.{List, [], ◌∷◌, ◌++◌, map}
use native.Mathlib.Nat.{le_of_suc-le-suc, not-suc-le-zero}
use lib.ListN.{length, get_or}
use Rattle.poly.specs.Counting.{All}

module _ {R : Type 0} {P Q : R → Type 0} where
  pub all_map : ((s : R) → P s → Q s) → (rs : List R) → All P rs → All Q rs
  all_map f [] a = tt
  all_map f (r ∷ rs) a = (f r a.0, all_map f rs a.1)

pub all_zip : {R : Type 0} {P Q S : R → Type 0} → ((s : R) → P s → Q s → S s) → (rs : List R) → All P rs → All Q rs → All S rs
all_zip f [] a b = tt
all_zip f (r ∷ rs) a b = (f r a.0 b.0, all_zip f rs a.1 b.1)

pub all_of : {R : Type 0} {P : R → Type 0} → ((s : R) → P s) → (rs : List R) → All P rs
all_of f [] = tt
all_of f (r ∷ rs) = (f r, all_of f rs)

pub all_first : {R : Type 0} (P : R → Type 0) (rs ss : List R) → All P (rs ++ ss) → All P rs
all_first P [] ss a = tt
all_first P (r ∷ rs) ss a = (a.0, all_first P rs ss a.1)

pub all_second : {R : Type 0} (P : R → Type 0) (rs ss : List R) → All P (rs ++ ss) → All P ss
all_second P [] ss a = a
all_second P (r ∷ rs) ss a = all_second P rs ss a.1

pub all_mapped : {R S : Type 0} (P : S → Type 0) (f : R → S) (rs : List R) → All P (map f rs) → All (λ r. P (f r)) rs
all_mapped P f [] a = tt
all_mapped P f (r ∷ rs) a = (a.0, all_mapped P f rs a.1)

pub all_under : {R S : Type 0} (P : S → Type 0) (f : R → S) (rs : List R) → All (λ r. P (f r)) rs → All P (map f rs)
all_under P f [] a = tt
all_under P f (r ∷ rs) a = (a.0, all_under P f rs a.1)

-- functions that agree on a list
pub map_same : {R S : Type 0} (f g : R → S) (rs : List R) → All (λ r. f r ≡ g r) rs → map f rs ≡ map g rs
map_same f g [] a = refl
map_same f g (r ∷ rs) a = ap₂ ◌∷◌ a.0 (map_same f g rs a.1)

pub map_equal : {R S : Type 0} (f g : R → S) (rs : List R) → map f rs ≡ map g rs → All (λ r. f r ≡ g r) rs
map_equal f g [] e = tt
map_equal f g (r ∷ rs) e =
    let h : f r ≡ g r = cc in
    let t : map f rs ≡ map g rs = cc in
    (h, map_equal f g rs t)

pub all_join : {R : Type 0} (P : R → Type 0) (rs ss : List R) → All P rs → All P ss → All P (rs ++ ss)
all_join P [] ss a b = b
all_join P (r ∷ rs) ss a b = (a.0, all_join P rs ss a.1 b)

-- what holds of all holds at a place
pub all_at : {R : Type 0} (P : R → Type 0) (rs : List R) (i : ℕ) (d : R) → i < length rs → All P rs → P (get_or rs i d)
all_at P [] i d h a = absurd (not-suc-le-zero h)
all_at P (r ∷ rs) ℕ.zero d h a = a.0
all_at P (r ∷ rs) (suc i) d h a = all_at P rs i d (le_of_suc-le-suc h) a.1
