-- What set an A line leaves: of its row the posts that are not listed are barred, bit by bit.
use Prim.Native.Nat.{ℕ, zero, suc, ◌+◌, ◌*◌, ◌-◌, ◌/◌, ◌%◌, ◌^◌, ◌≤◌, ◌<◌, min}
use mathlib.Core.Path.{◌≡◌, refl, sym, ◌∙◌, ap, ap₂}
use mathlib.Core.Logic.{◌≢◌}
use mathlib.Core.Bool.{Bool, true, false, not, ◌||◌, ◌&&◌, cond}
use mathlib.Core.List.{List, [], ◌∷◌}
use native.Mathlib.Decide.{ℕ_discrete}
use native.Mathlib.Omega.{arith}
use borrow.Author.Tests.{le-ltb, eq-eqb, ne_eqb}
use lib.Bits.{bit_and, and_step, and_shr}
use lib.Dec.{eqb}
use lib.ListN.{length, get_or, set, length-set, length-replicate, get_or-replicate}
use lib.Seq.{get_or-set_same, get_or-set_other}
use Rattle.refusal.specs.Conditions.{outside}
use Rattle.refusal.proofs.Laws.{inside}
use Rattle.callers.specs.Sets.{bit_at}
use Rattle.access.specs.Access.{access_fields, access_row, access_posts, access_sets, every_post, admitted, admitted_all, placed}
use Rattle.access.specs.Claims.{listed, SetListed}

-- ---- one bit

both : (x y : ℕ) → x < 2 → y < 2 → eqb (min x y) 1 ≡ eqb x 1 && eqb y 1
both zero zero hx hy = refl
both zero (suc zero) hx hy = refl
both (suc zero) zero hx hy = refl
both (suc zero) (suc zero) hx hy = refl
both (suc (suc x)) y hx hy = absurd (omega arith)
both zero (suc (suc y)) hx hy = absurd (omega arith)
both (suc zero) (suc (suc y)) hx hy = absurd (omega arith)

bit_and_lem : (a b k : ℕ) → bit_at (bit_and a b) k ≡ bit_at a k && bit_at b k
bit_and_lem a b k =
    let x = a / 2 ^ k in
    let y = b / 2 ^ k in
    ap (λ (z : ℕ). eqb (z % 2) 1) (and_shr a b k ∙ and_step x y)
    ∙ ap (λ (z : ℕ). eqb z 1) (two_mod (bit_and (x / 2) (y / 2)) (min (x % 2) (y % 2)) (small (x % 2) (y % 2) (omega arith) (omega arith)))
    ∙ both (x % 2) (y % 2) (omega arith) (omega arith)
  where
    small : (x y : ℕ) → x < 2 → y < 2 → min x y < 2
    small x y hx hy = omega arith

    two_mod : (q r : ℕ) → r < 2 → (q * 2 + r) % 2 ≡ r
    two_mod q r h = omega arith

-- by one test over all bits, which antt computes: a number of ones but for bit j has the others
unfoldable same : Bool → Bool → Bool
same true b = b
same false b = not b

same_is : (a b : Bool) → same a b ≡ true → a ≡ b
unfolding same
same_is true true e = refl
same_is true false e = sym e
same_is false true e = e
same_is false false e = refl

unfoldable below : ℕ → (ℕ → Bool) → Bool
below zero test = true
below (suc k) test = test k && below k test

and_left : (a b : Bool) → a && b ≡ true → a ≡ true
and_left true b e = refl
and_left false b e = e

and_right : (a b : Bool) → a && b ≡ true → b ≡ true
and_right true b e = e
and_right false true e = refl
and_right false false e = e

below_at : (m : ℕ) (test : ℕ → Bool) → below m test ≡ true → (k : ℕ) → k < m → test k ≡ true
unfolding below
below_at zero test e k h = absurd (omega arith)
below_at (suc m) test e k h = go (ℕ_discrete k m) (λ n. below_at m test (and_right (test m) (below m test) e) k (omega arith))
  where
    go : Dec (k ≡ m) → (k ≢ m → test k ≡ true) → test k ≡ true
    go (yes q) later = ap test q ∙ and_left (test m) (below m test) e
    go (no n) later = later n

abbrev lacks : ℕ → ℕ → Bool
lacks j k = same (bit_at (4294967295 - 2 ^ j) k) (not (eqb k j))

all_lack : below 32 (λ j. below 32 (lacks j)) ≡ true
unfolding below same
all_lack = refl

without : (j k : ℕ) → j < 32 → k < 32 → bit_at (4294967295 - 2 ^ j) k ≡ not (eqb k j)
without j k lj lk = same_is _ _ (below_at 32 (lacks j) (below_at 32 (λ j. below 32 (lacks j)) all_lack j lj) k lk)

all_ones : below 32 (bit_at 4294967295) ≡ true
unfolding below
all_ones = refl

-- ---- eight numbers

clash : (t : Bool) → t ≡ true → t ≡ false → ⊥
clash t e g = let w : true ≡ false = sym e ∙ g in let v : ◌≡◌ {A = ℕ} 0 1 = cc in omega arith

inside_passes : (x : ℕ) → 1 ≤ x → x ≤ 256 → outside 1 256 x ≡ false
inside_passes x lo hi = ap₂ ◌||◌ (le-ltb x 1 lo) (le-ltb 256 x hi)

abbrev bars_in : List ℕ → ℕ → Bool
bars_in words c = bit_at (get_or words ((c - 1) / 32) 0) ((c - 1) % 32)

and_swap : (a b : Bool) → a && b ≡ b && a
and_swap true true = refl
and_swap true false = refl
and_swap false true = refl
and_swap false false = refl

length_admitted : (words : List ℕ) (x : ℕ) → length (admitted words x) ≡ length words
unfolding admitted
length_admitted words x = go (outside 1 256 x)
  where
    go : (t : Bool)
        → length (cond t words (set words ((x - 1) / 32) (bit_and (get_or words ((x - 1) / 32) 0) (4294967295 - 2 ^ ((x - 1) % 32))))) ≡ length words
    go true = refl
    go false = length-set words ((x - 1) / 32) _

module _ (words : List ℕ) (x c : ℕ) (long : length words ≡ 8) (lo : 1 ≤ c) (hi : c ≤ 255) where
  -- the bit of x is cleared
  cleared : 1 ≤ x → x ≤ 256
      → bars_in (set words ((x - 1) / 32) (bit_and (get_or words ((x - 1) / 32) 0) (4294967295 - 2 ^ ((x - 1) % 32)))) c ≡ (not (eqb c x) && bars_in words c)
  cleared lx hx = go (ℕ_discrete ((c - 1) / 32) ((x - 1) / 32)) (ℕ_discrete c x)
    where
      new : List ℕ
      new = set words ((x - 1) / 32) (bit_and (get_or words ((x - 1) / 32) 0) (4294967295 - 2 ^ ((x - 1) % 32)))

      here : (c - 1) / 32 ≡ (x - 1) / 32 → (t : Bool) → eqb ((c - 1) % 32) ((x - 1) % 32) ≡ t → bars_in new c ≡ (not t && bars_in words c)
      here e t q =
          ap (λ (j : ℕ). bit_at (get_or new j 0) ((c - 1) % 32)) e
          ∙ ap (λ (w : ℕ). bit_at w ((c - 1) % 32)) (get_or-set_same words ((x - 1) / 32) _ 0 (omega arith))
          ∙ bit_and_lem (get_or words ((x - 1) / 32) 0) (4294967295 - 2 ^ ((x - 1) % 32)) ((c - 1) % 32)
          ∙ ap₂ ◌&&◌ (ap (λ (j : ℕ). bit_at (get_or words j 0) ((c - 1) % 32)) (sym e))
          (without ((x - 1) % 32) ((c - 1) % 32) (omega arith) (omega arith) ∙ ap not q)
          ∙ and_swap (bars_in words c) (not t)

      go : Dec ((c - 1) / 32 ≡ (x - 1) / 32) → Dec (c ≡ x) → bars_in new c ≡ (not (eqb c x) && bars_in words c)
      go (yes e) (yes q) =
          here e true (eq-eqb ((c - 1) % 32) ((x - 1) % 32) (omega arith)) ∙ ap (λ (t : Bool). not t && bars_in words c) (sym (eq-eqb c x q))
      go (yes e) (no n) =
          here e false (ne_eqb ((c - 1) % 32) ((x - 1) % 32) (λ z. n (omega arith))) ∙ ap (λ (t : Bool). not t && bars_in words c) (sym (ne_eqb c x n))
      go (no n) d =
          ap (λ (w : ℕ). bit_at w ((c - 1) % 32)) (get_or-set_other words ((x - 1) / 32) ((c - 1) / 32) _ 0 n)
          ∙ ap (λ (t : Bool). not t && bars_in words c) (sym (ne_eqb c x (λ q. n (ap (λ (z : ℕ). (z - 1) / 32) q))))

  admits_one : bars_in (admitted words x) c ≡ (not (eqb c x) && bars_in words c)
  unfolding admitted
  admits_one = go (outside 1 256 x) refl
    where
      new : List ℕ
      new = set words ((x - 1) / 32) (bit_and (get_or words ((x - 1) / 32) 0) (4294967295 - 2 ^ ((x - 1) % 32)))

      go : (t : Bool) → outside 1 256 x ≡ t → bars_in (cond t words new) c ≡ (not (eqb c x) && bars_in words c)
      go true e = ap (λ (t : Bool). not t && bars_in words c) (sym (ne_eqb c x (λ q. clash (outside 1 256 x) e (inside_passes x (omega arith) (omega arith)))))
      go false e = let k = inside 1 256 x e in cleared k.0 k.1

or_and : (a b c : Bool) → (not b && (not a && c)) ≡ (not (a || b) && c)
or_and true true c = refl
or_and true false c = refl
or_and false true c = refl
or_and false false c = refl

admits_all : (words xs : List ℕ) (c : ℕ) → length words ≡ 8 → 1 ≤ c → c ≤ 255 → bars_in (admitted_all words xs) c ≡ (not (listed c xs) && bars_in words c)
admits_all words [] c long lo hi = refl
admits_all words (x ∷ xs) c long lo hi =
    admits_all (admitted words x) xs c (length_admitted words x ∙ long) lo hi
    ∙ ap (λ (t : Bool). not (listed c xs) && t) (admits_one words x c long lo hi) ∙ or_and (eqb c x) (listed c xs) (bars_in words c)

and_true : (a b : Bool) → b ≡ true → (a && b) ≡ a
and_true true b e = e
and_true false b e = refl

-- ---- the numbers of a row

module _ (sets : List ℕ) (r : ℕ) (words : List ℕ) where
  pub length_placed : (k : ℕ) → length (placed k sets r words) ≡ length sets
  unfolding placed
  length_placed zero = refl
  length_placed (suc k) = length-set (placed k sets r words) (8 * r + k) _ ∙ length_placed k

  other : (k : ℕ) → k ≤ 8 → (q j : ℕ) → q ≢ r → j < 8 → get_or (placed k sets r words) (8 * q + j) 0 ≡ get_or sets (8 * q + j) 0
  unfolding placed
  other zero h q j n l = refl
  other (suc k) h q j n l =
      get_or-set_other (placed k sets r words) (8 * r + k) (8 * q + j) _ 0 (λ e. n (omega arith)) ∙ other k (omega arith) q j n l

  own : (k : ℕ) → k ≤ 8 → length sets ≡ 768 → r < 96 → (j : ℕ) → j < k → get_or (placed k sets r words) (8 * r + j) 0 ≡ get_or words j 0
  unfolding placed
  own zero h l lr j lt = absurd (omega arith)
  own (suc k) h l lr j lt = go (ℕ_discrete j k) (λ ne. own k (omega arith) l lr j (omega arith))
    where
      go : Dec (j ≡ k) → (j ≢ k → get_or (placed k sets r words) (8 * r + j) 0 ≡ get_or words j 0)
          → get_or (placed (suc k) sets r words) (8 * r + j) 0 ≡ get_or words j 0
      go (yes e) later =
          ap (λ (x : ℕ). get_or (placed (suc k) sets r words) (8 * r + x) 0) e
          ∙ get_or-set_same (placed k sets r words) (8 * r + k) _ 0 (omega (arith, length_placed k)) ∙ ap (λ (x : ℕ). get_or words x 0) (sym e)
      go (no ne) later = get_or-set_other (placed k sets r words) (8 * r + k) (8 * r + j) _ 0 (λ q. ne (omega arith)) ∙ later ne

pub length_access : (line sets : List ℕ) → length (access_sets line sets) ≡ length sets
length_access line sets = length_placed sets (access_row (access_fields line)) _ 8

pub set_listed : SetListed
set_listed line sets c l lo hi =
    let r = access_row (access_fields line) in
    let posts = access_posts (access_fields line) in
    let words = admitted_all every_post posts in
    let j = (c - 1) / 32 in
    let k = (c - 1) % 32 in
    let lj : j < 8 = omega arith in
    let lk : k < 32 = omega arith in (
      λ lr. ap (λ (x : ℕ). bit_at x k) (own sets r words 8 (omega arith) l lr j lj)
          ∙ admits_all every_post posts c (length-replicate {A = ℕ} 8 4294967295) lo hi
          ∙ and_true (not (listed c posts)) (bars_in every_post c)
          (ap (λ (x : ℕ). bit_at x k) (get_or-replicate 8 j 4294967295 0 lj) ∙ below_at 32 (bit_at 4294967295) all_ones k lk),
      λ q n. ap (λ (x : ℕ). bit_at x k) (other sets r words 8 (omega arith) q j n lj),
    )
