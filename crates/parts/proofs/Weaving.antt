-- Numbers that are written with steps of k: the m-th is of turn m / k, where m % k is h.
use Prim.Native.Nat.{ℕ, zero, suc, ◌+◌, ◌*◌, ◌/◌, ◌%◌, ◌≤◌, ◌<◌}
use mathlib.Core.Path.{◌≡◌, refl, sym, ◌∙◌, ap, ap₂}
use mathlib.Core.Bool.{Bool, true, false, cond, ◌&&◌}
use mathlib.Core.Logic.{◌≢◌}
use mathlib.Core.List.{List}
use native.Mathlib.Nat.{mul-add-mod_self_right, mul-add-div_right, mod-eq_of_lt, div-eq_of_lt, div-add-mod', div-lt_iff_lt-mul, mul_comm}
use native.Mathlib.Decide.{ℕ_discrete, dec_le}
use native.Mathlib.Omega.{arith}
use borrow.Author.Tests.{lt-ltb, le-ltb, eq-eqb, ne_eqb}
use lib.Dec.{ltb, eqb}
use lib.ListN.{length, get_or, set}
use lib.Seq.{get_or-set_same, get_or-set_other, ext_get_or}
use Rattle.parts.specs.Draw.{each_from}
use Rattle.parts.specs.Between.{woven}

pub each_long : (f : ℕ → ℕ) (j m : ℕ) → length (each_from j m f) ≡ m
unfolding each_from
each_long f j zero = refl
each_long f j (suc m) = ap suc (each_long f (suc j) m)

pub each_at : (f : ℕ → ℕ) (j n i : ℕ) → i < n → get_or (each_from j n f) i 0 ≡ f (j + i)
unfolding each_from
each_at f j zero i h = absurd (omega arith)
each_at f j (suc n) zero h = ap f (omega arith)
each_at f j (suc n) (suc i) h = each_at f (suc j) n i (omega arith) ∙ ap f next
  where
    next : suc j + i ≡ j + suc i
    next = omega arith

-- a list is the one of its numbers
pub each_is : (l : List ℕ) (n : ℕ) (f : ℕ → ℕ) → length l ≡ n → ((m : ℕ) → m < n → get_or l m 0 ≡ f m) → l ≡ each_from 0 n f
each_is l n f e h =
    ext_get_or 0 l (each_from 0 n f) (e ∙ sym (each_long f 0 n))
    (λ m low. h m (omega (arith, e)) ∙ sym (each_at f 0 n m (omega (arith, e)) ∙ ap f (first m)))
  where
    first : (m : ℕ) → 0 + m ≡ m
    first m = omega arith

module _ (k h : ℕ) (hk : h < k) (f : ℕ → ℕ) (old : List ℕ) where
  -- what stands at m when the turns before i have written
  pub partly : ℕ → ℕ → ℕ
  partly i m = cond (eqb (m % k) h && ltb (m / k) i) (f (m / k)) (get_or old m 0)

  positive : 0 < k
  positive = omega arith

  by : (i m : ℕ) (b : Bool) → (eqb (m % k) h && ltb (m / k) i) ≡ b → partly i m ≡ cond b (f (m / k)) (get_or old m 0)
  unfolding partly
  by i m b e = ap (λ (c : Bool). cond c (f (m / k)) (get_or old m 0)) e

  none : (b : Bool) → (b && false) ≡ false
  none true = refl
  none false = refl

  pub woven_start : (m : ℕ) → get_or old m 0 ≡ partly 0 m
  woven_start m = sym (by 0 m false (ap (λ (b : Bool). eqb (m % k) h && b) (le-ltb (m / k) 0 (omega arith)) ∙ none (eqb (m % k) h)))

  pub woven_here : (i : ℕ) → partly (i + 1) (i * k + h) ≡ f i
  woven_here i =
      let r : (i * k + h) % k ≡ h = mul-add-mod_self_right i k h ∙ mod-eq_of_lt hk in
      let q : (i * k + h) / k ≡ i = mul-add-div_right positive i h ∙ ap (λ (z : ℕ). i + z) (div-eq_of_lt hk) ∙ omega arith in
      by (i + 1) (i * k + h) true (ap₂ ◌&&◌ (eq-eqb ((i * k + h) % k) h r) (lt-ltb ((i * k + h) / k) (i + 1) (omega (arith, q)))) ∙ ap f q

  pub woven_there : (i m : ℕ) → m ≢ i * k + h → partly i m ≡ partly (i + 1) m
  woven_there i m ne = go (ℕ_discrete (m % k) h)
    where
      go : Dec (m % k ≡ h) → partly i m ≡ partly (i + 1) m
      go (no n) = by i m false (ap (λ (b : Bool). b && ltb (m / k) i) (ne_eqb (m % k) h n)) ∙ sym (by (i + 1) m false (ap (λ (b : Bool). b && ltb (m / k) (i + 1)) (ne_eqb (m % k) h n)))
      go (yes e) = side (dec_le (i + 1) (m / k)) (ℕ_discrete (m / k) i)
        where
          whole : m / k * k + h ≡ m
          whole = ap (λ (z : ℕ). m / k * k + z) (sym e) ∙ div-add-mod' m k

          side : Dec (i + 1 ≤ m / k) → Dec (m / k ≡ i) → partly i m ≡ partly (i + 1) m
          side (yes b) d =
              by i m false (ap₂ ◌&&◌ (eq-eqb (m % k) h e) (le-ltb (m / k) i (omega arith)))
              ∙ sym (by (i + 1) m false (ap₂ ◌&&◌ (eq-eqb (m % k) h e) (le-ltb (m / k) (i + 1) b)))
          side (no b) (yes d) = absurd (ne (sym whole ∙ ap (λ (z : ℕ). z * k + h) d))
          side (no b) (no d) =
              by i m true (ap₂ ◌&&◌ (eq-eqb (m % k) h e) (lt-ltb (m / k) i (omega arith)))
              ∙ sym (by (i + 1) m true (ap₂ ◌&&◌ (eq-eqb (m % k) h e) (lt-ltb (m / k) (i + 1) (omega arith))))

  all_of : (b : Bool) → (b && true) ≡ b
  all_of true = refl
  all_of false = refl

  pub woven_done : (n i m : ℕ) → n ≤ i → m < k * n → partly i m ≡ woven k h f old m
  unfolding woven
  woven_done n i m l low =
      let q : m / k < n = (div-lt_iff_lt-mul positive).1 (rw (mul_comm k n) at low) in
      by i m (eqb (m % k) h) (ap (λ (b : Bool). eqb (m % k) h && b) (lt-ltb (m / k) i (omega arith)) ∙ all_of (eqb (m % k) h))

  -- one turn, of a list
  pub woven_turn : (n i v : ℕ) (l : List ℕ) → length l ≡ k * n → i * k + h < k * n → ((m : ℕ) → m < k * n → get_or l m 0 ≡ partly i m)
      → v ≡ f i → (m : ℕ) → m < k * n → get_or (set l (i * k + h) v) m 0 ≡ partly (i + 1) m
  woven_turn n i v l e inside is ev m low = go (ℕ_discrete m (i * k + h))
    where
      go : Dec (m ≡ i * k + h) → get_or (set l (i * k + h) v) m 0 ≡ partly (i + 1) m
      go (yes d) =
          ap (λ (z : ℕ). get_or (set l (i * k + h) v) z 0) d ∙ get_or-set_same l (i * k + h) v 0 (omega (arith, e)) ∙ ev ∙ sym (woven_here i)
          ∙ ap (partly (i + 1)) (sym d)
      go (no d) = get_or-set_other l (i * k + h) m v 0 d ∙ is m low ∙ woven_there i m d
