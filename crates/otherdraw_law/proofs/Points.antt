-- The check points of the posts in a list: what holds of all of them holds of each point of each post, and back.
use Prim.Native.Nat.{ℕ, zero, suc, ◌+◌, ◌*◌, ◌-◌, ◌≤◌, ◌<◌}
use mathlib.Core.Path.{◌≡◌, refl, sym, ◌∙◌, ap, subst}
use mathlib.Core.Bool.{Bool, cond}
use mathlib.Core.List.{List, [], ◌∷◌}
use native.Mathlib.Nat.{mul_comm, suc-mul, zero-mul}
use native.Mathlib.Omega.{arith}
use borrow.Author.Tests.{eq-eqb}
use lib.ListN.{length, take, drop, get_or, length-append}
use Rattle.poly.specs.Counting.{All}
use Rattle.poly.proofs.Lists.{all_first, all_second, all_join}
use Rattle.parts.proofs.Turns.{block_room}
use Rattle.shape.specs.Bounds.{most_points}
use Rattle.shape.specs.Row.{point_at}
use Rattle.packs.specs.Packs.{points_at_of}
use Rattle.otherdraw.specs.Other.{points_of}

-- ---- the first k numbers of a list

module _ (P : ℕ → Type 0) where
  firsts_all : (k : ℕ) (xs : List ℕ) → ((h : ℕ) → h < k → P (get_or xs h 0)) → All P (take k xs)
  firsts_all zero xs f = tt
  firsts_all (suc k) [] f = tt
  firsts_all (suc k) (x ∷ xs) f = (f 0 (omega arith), firsts_all k xs (λ h low. f (suc h) (omega arith)))

  firsts_each : (k : ℕ) (xs : List ℕ) → k ≤ length xs → All P (take k xs) → (h : ℕ) → h < k → P (get_or xs h 0)
  firsts_each zero xs room a h low = absurd (omega arith)
  firsts_each (suc k) [] room a h low = absurd (omega arith)
  firsts_each (suc k) (x ∷ xs) room a zero low = a.0
  firsts_each (suc k) (x ∷ xs) room a (suc h) low = firsts_each k xs (omega arith) a.1 h (omega arith)

length_firsts : (k : ℕ) (xs : List ℕ) → length (take k xs) ≤ k
length_firsts zero xs = omega arith
length_firsts (suc k) [] = omega arith
length_firsts (suc k) (x ∷ xs) = let e = length_firsts k xs in omega arith

later : (m : ℕ) (xs : List ℕ) (h : ℕ) → get_or (drop m xs) h 0 ≡ get_or xs (m + h) 0
later zero xs h = let e : h ≡ 0 + h = omega arith in ap (λ (z : ℕ). get_or xs z 0) e
later (suc m) [] h = refl
later (suc m) (x ∷ xs) h = let e : suc (m + h) ≡ suc m + h = omega arith in later m xs h ∙ ap (λ (z : ℕ). get_or (x ∷ xs) z 0) e

-- ---- a post's points

pub point_is : (k : ℕ) (ws : List ℕ) (j h : ℕ) → k ≤ most_points → h < k → point_at (points_at_of k ws j) h ≡ get_or ws (j * k + h) 0
point_is k ws j zero few low = let e : j * k ≡ j * k + 0 = omega arith in ap (λ (z : ℕ). get_or ws z 0) e
point_is k ws j (suc h) few low =
    let two : k ≡ most_points = omega arith in
    let one : h ≡ 0 = omega arith in
    ap (λ (b : Bool). cond b (get_or ws (j * k + 1) 0) 0) (eq-eqb k most_points two) ∙ ap (λ (z : ℕ). get_or ws (j * k + suc z) 0) (sym one)

module _ (P : ℕ → Type 0) (k : ℕ) (ws : List ℕ) (few : k ≤ most_points) where
  abbrev Each : ℕ → Type 0
  Each i = (h : ℕ) → h < k → P (point_at (points_at_of k ws (i - 1)) h)

  pub points_all : (posts : List ℕ) → All (λ i. (h : ℕ) → h < k → P (point_at (points_at_of k ws (i - 1)) h)) posts → All P (points_of k ws posts)
  unfolding points_of
  points_all [] a = tt
  points_all (i ∷ is) a =
      all_join P (take k (drop ((i - 1) * k) ws)) (points_of k ws is)
      (firsts_all P k (drop ((i - 1) * k) ws)
      (λ h low. subst P (point_is k ws (i - 1) h few low ∙ sym (later ((i - 1) * k) ws h)) (a.0 h low)))
      (points_all is a.1)

  module _ (n : ℕ) (long : length ws ≡ k * n) where
    room : (i : ℕ) → (1 ≤ i) × (i ≤ n) → k ≤ length (drop ((i - 1) * k) ws)
    room i b = go ((i - 1) * k) ws (omega (arith, long, block_room (i - 1) n k (n * k) (omega (arith, b)) refl, mul_comm k n))
      where
        go : (m : ℕ) (xs : List ℕ) → m + k ≤ length xs → k ≤ length (drop m xs)
        go zero xs h = omega arith
        go (suc m) [] h = absurd (omega arith)
        go (suc m) (x ∷ xs) h = go m xs (omega arith)

    pub points_each : (posts : List ℕ) → All (λ i. (1 ≤ i) × (i ≤ n)) posts → All P (points_of k ws posts)
        → All (λ i. (h : ℕ) → h < k → P (point_at (points_at_of k ws (i - 1)) h)) posts
    unfolding points_of
    points_each [] b a = tt
    points_each (i ∷ is) b a =
        let here = all_first P (take k (drop ((i - 1) * k) ws)) (points_of k ws is) a in
        let rest = all_second P (take k (drop ((i - 1) * k) ws)) (points_of k ws is) a in (
          λ h low. subst P (later ((i - 1) * k) ws h ∙ sym (point_is k ws (i - 1) h few low)) (firsts_each P k (drop ((i - 1) * k) ws) (room i b.0) here h low),
          points_each is b.1 rest,
        )

-- at most k of each post
pub length_points : (k : ℕ) (ws posts : List ℕ) → length (points_of k ws posts) ≤ length posts * k
unfolding points_of
length_points k ws [] = omega (arith, zero-mul k)
length_points k ws (i ∷ is) =
    let e = length-append (take k (drop ((i - 1) * k) ws)) (points_of k ws is) in
    omega (arith, e, length_firsts k (drop ((i - 1) * k) ws), length_points k ws is, suc-mul (length is) k)
