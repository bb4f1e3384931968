-- What a row bars that is made from two others: bit by bit.
use Prim.Native.Nat.{ℕ, zero, suc, ◌+◌, ◌*◌, ◌-◌, ◌/◌, ◌%◌, ◌^◌, ◌≤◌, ◌<◌, max}
use mathlib.Core.Path.{◌≡◌, refl, sym, ◌∙◌, ap, ap₂}
use mathlib.Core.Logic.{◌≢◌}
use mathlib.Core.Bool.{Bool, true, false, ◌||◌}
use mathlib.Core.List.{List, [], ◌∷◌}
use native.Mathlib.Nat.{zero-div}
use native.Mathlib.Numerals.{add-one}
use native.Mathlib.Decide.{ℕ_discrete}
use native.Mathlib.Omega.{arith}
use lib.Dec.{eqb}
use lib.Bits.{bit_or, or_step, or_shr}
use lib.ListN.{length, get_or, set, length-set, get_or-eq_default}
use lib.Seq.{get_or-set_same, get_or-set_other}
use Rattle.callers.specs.Sets.{sets_length, bit_at, bars, shared, SharesBoth, SharesWords, unbarred, joining, shared_all, any_bars, Others, SharesAll}

-- ---- one bit of two words joined

both : (x y : ℕ) → x < 2 → y < 2 → eqb (max x y) 1 ≡ eqb x 1 || eqb y 1
both zero zero hx hy = refl
both zero (suc zero) hx hy = refl
both (suc zero) zero hx hy = refl
both (suc zero) (suc zero) hx hy = refl
both (suc (suc x)) y hx hy = absurd (omega arith)
both zero (suc (suc y)) hx hy = absurd (omega arith)
both (suc zero) (suc (suc y)) hx hy = absurd (omega arith)

two_mod : (q r : ℕ) → r < 2 → (q * 2 + r) % 2 ≡ r
two_mod q r h = omega arith

pub bit_or_lem : (a b k : ℕ) → bit_at (bit_or a b) k ≡ bit_at a k || bit_at b k
bit_or_lem a b k =
    let x = a / 2 ^ k in
    let y = b / 2 ^ k in
    ap (λ (z : ℕ). eqb (z % 2) 1) (or_shr a b k ∙ or_step x y)
    ∙ ap (λ (z : ℕ). eqb z 1) (two_mod (bit_or (x / 2) (y / 2)) (max (x % 2) (y % 2)) (small (x % 2) (y % 2) (omega arith) (omega arith)))
    ∙ both (x % 2) (y % 2) (omega arith) (omega arith)
  where
    small : (x y : ℕ) → x < 2 → y < 2 → max x y < 2
    small x y hx hy = omega arith

-- ---- the words

module _ (sets : List ℕ) (d a b : ℕ) where
  pub length_shared : (k : ℕ) → length (shared k sets d a b) ≡ length sets
  unfolding shared
  length_shared zero = refl
  length_shared (suc k) = length-set (shared k sets d a b) (8 * d + k) _ ∙ length_shared k

  -- a word of another row stays
  other : (k : ℕ) → k ≤ 8 → (r j : ℕ) → r ≢ d → j < 8 → get_or (shared k sets d a b) (8 * r + j) 0 ≡ get_or sets (8 * r + j) 0
  unfolding shared
  other zero h r j n l = refl
  other (suc k) h r j n l =
      get_or-set_other (shared k sets d a b) (8 * d + k) (8 * r + j) _ 0 (λ e. n (omega arith)) ∙ other k (omega arith) r j n l

  -- and one that is not written yet, of any row
  ahead : (k : ℕ) → k ≤ 8 → (r j : ℕ) → k ≤ j → j < 8 → get_or (shared k sets d a b) (8 * r + j) 0 ≡ get_or sets (8 * r + j) 0
  unfolding shared
  ahead zero h r j n l = refl
  ahead (suc k) h r j n l =
      get_or-set_other (shared k sets d a b) (8 * d + k) (8 * r + j) _ 0 (λ e. omega arith) ∙ ahead k (omega arith) r j (omega arith) l

  -- a word that was written
  own : (k : ℕ) → k ≤ 8 → length sets ≡ sets_length → d < 96 → (j : ℕ) → j < k
      → get_or (shared k sets d a b) (8 * d + j) 0 ≡ bit_or (get_or sets (8 * a + j) 0) (get_or sets (8 * b + j) 0)
  unfolding shared
  own zero h l ld j lt = absurd (omega arith)
  own (suc k) h l ld j lt = go (ℕ_discrete j k) (λ ne. own k (omega arith) l ld j (omega arith))
    where
      go : Dec (j ≡ k) → (j ≢ k → get_or (shared k sets d a b) (8 * d + j) 0 ≡ bit_or (get_or sets (8 * a + j) 0) (get_or sets (8 * b + j) 0))
          → get_or (shared (suc k) sets d a b) (8 * d + j) 0 ≡ bit_or (get_or sets (8 * a + j) 0) (get_or sets (8 * b + j) 0)
      go (yes e) later =
          ap (λ (x : ℕ). get_or (shared (suc k) sets d a b) (8 * d + x) 0) e
          ∙ get_or-set_same (shared k sets d a b) (8 * d + k) _ 0 (omega (arith, length_shared k))
          ∙ ap₂ bit_or (ahead k (omega arith) a k (omega arith) (omega arith)) (ahead k (omega arith) b k (omega arith) (omega arith))
          ∙ ap (λ (x : ℕ). bit_or (get_or sets (8 * a + x) 0) (get_or sets (8 * b + x) 0)) (sym e)
      go (no ne) later = get_or-set_other (shared k sets d a b) (8 * d + k) (8 * d + j) _ 0 (λ q. ne (omega arith)) ∙ later ne

pub shares_both : SharesBoth
shares_both sets d a b c l ld lo hi =
    let j = (c - 1) / 32 in
    let lj : j < 8 = omega arith in (
      ap (λ (x : ℕ). bit_at x ((c - 1) % 32)) (own sets d a b 8 (omega arith) l ld j lj)
          ∙ bit_or_lem (get_or sets (8 * a + j) 0) (get_or sets (8 * b + j) 0) ((c - 1) % 32),
      λ r n. ap (λ (x : ℕ). bit_at x ((c - 1) % 32)) (other sets d a b 8 (omega arith) r j n lj),
    )

pub shares_words : SharesWords
shares_words sets d a b j l ld lj = (own sets d a b 8 (omega arith) l ld j lj, λ r n. other sets d a b 8 (omega arith) r j n lj)

-- ---- over rows

-- there is no row 96
none_bars : (sets : List ℕ) (c : ℕ) → length sets ≡ sets_length → bars sets 96 c ≡ false
none_bars sets c l = ap (λ (x : ℕ). bit_at x ((c - 1) % 32)) (get_or-eq_default sets 0 (omega arith)) ∙ no_bit ((c - 1) % 32)
  where
    no_bit : (k : ℕ) → bit_at 0 k ≡ false
    no_bit k = ap (λ (x : ℕ). eqb (x % 2) 1) (zero-div (2 ^ k))

or_swap : (x y z : Bool) → (x || y) || z ≡ x || (y || z)
or_swap true y z = refl
or_swap false y z = refl

or_none : (x : Bool) → x || false ≡ x
or_none true = refl
or_none false = refl

-- what rows bar does not depend on row d, if it is none of them
any_kept : (now sets : List ℕ) (d c : ℕ) (rows : List ℕ) → Others d rows → ((r : ℕ) → r ≢ d → bars now r c ≡ bars sets r c) → any_bars now c rows ≡ any_bars sets c rows
any_kept now sets d c [] o h = refl
any_kept now sets d c (a ∷ rows) o h = ap₂ ◌||◌ (h a o.0) (any_kept now sets d c rows o.1 h)

pub length_joining : (d : ℕ) (rows sets : List ℕ) → length (joining d rows sets) ≡ length sets
length_joining d [] sets = refl
length_joining d (a ∷ rows) sets = length_joining d rows (shared 8 sets d d a) ∙ length_shared sets d d a 8

pub length_all : (sets : List ℕ) (d : ℕ) (rows : List ℕ) → length (shared_all sets d rows) ≡ length sets
length_all sets d rows = length_joining d rows (unbarred sets d) ∙ length_shared sets d 96 96 8

joins : (d c : ℕ) → d < 96 → 1 ≤ c → c ≤ 255 → (rows sets : List ℕ) → length sets ≡ sets_length → Others d rows
    → (bars (joining d rows sets) d c ≡ bars sets d c || any_bars sets c rows) × ((r : ℕ) → r ≢ d → bars (joining d rows sets) r c ≡ bars sets r c)
joins d c ld lo hi [] sets l o = (sym (or_none (bars sets d c)), λ r n. refl)
joins d c ld lo hi (a ∷ rows) sets l o =
    let one = shares_both sets d d a c l ld lo hi in
    let rest = joins d c ld lo hi rows (shared 8 sets d d a) (length_shared sets d d a 8 ∙ l) o.1 in (
      rest.0 ∙ ap₂ ◌||◌ one.0 (any_kept (shared 8 sets d d a) sets d c rows o.1 one.1) ∙ or_swap (bars sets d c) (bars sets a c) (any_bars sets c rows),
      λ r n. rest.1 r n ∙ one.1 r n,
    )

pub shares_all : SharesAll
shares_all sets d rows c l ld o lo hi =
    let clear = shares_both sets d 96 96 c l ld lo hi in
    let rest = joins d c ld lo hi rows (unbarred sets d) (length_shared sets d 96 96 8 ∙ l) o in (
      rest.0
          ∙ ap₂ ◌||◌ (clear.0 ∙ ap₂ ◌||◌ (none_bars sets c l) (none_bars sets c l)) (any_kept (unbarred sets d) sets d c rows o clear.1),
      λ r n. rest.1 r n ∙ clear.1 r n,
    )

-- ---- the loop

pub shared_start : (sets : List ℕ) (d a b : ℕ) → sets ≡ shared 0 sets d a b
unfolding shared
shared_start sets d a b = refl

pub shared_more : (sets now : List ℕ) (d a b k x y : ℕ) → now ≡ shared k sets d a b → x ≡ get_or now (8 * a + k) 0 → y ≡ get_or now (8 * b + k) 0
    → set now (8 * d + k) (bit_or x y) ≡ shared (k + 1) sets d a b
unfolding shared
shared_more sets now d a b k x y e ex ey =
    ap₂ (λ (v w : ℕ). set now (8 * d + k) (bit_or v w)) ex ey
    ∙ ap (λ (l : List ℕ). set l (8 * d + k) (bit_or (get_or l (8 * a + k) 0) (get_or l (8 * b + k) 0))) e ∙ ap (λ (n : ℕ). shared n sets d a b) (sym (add-one k))

pub shared_end : (sets now : List ℕ) (d a b k : ℕ) → k ≤ 8 → 8 ≤ k → now ≡ shared k sets d a b → now ≡ shared 8 sets d a b
shared_end sets now d a b k lo hi e = let z : k ≡ 8 = omega arith in e ∙ ap (λ (n : ℕ). shared n sets d a b) z

-- ---- one share after the other

pub length_kept : (sets now : List ℕ) (d a b : ℕ) → now ≡ shared 8 sets d a b → length sets ≡ sets_length → length now ≡ sets_length
length_kept sets now d a b e l = ap length e ∙ length_shared sets d a b 8 ∙ l

pub all_kept : (sets now : List ℕ) (d : ℕ) (rows : List ℕ) → now ≡ shared_all sets d rows → length sets ≡ sets_length → length now ≡ sets_length
all_kept sets now d rows e l = ap length e ∙ length_all sets d rows ∙ l

pub one_end : (sets one two : List ℕ) (d a : ℕ) → one ≡ shared 8 sets d 96 96 → two ≡ shared 8 one d d a → two ≡ shared_all sets d (a ∷ [])
one_end sets one two d a e e' = e' ∙ ap (λ (l : List ℕ). shared 8 l d d a) e

pub both_end : (sets one two : List ℕ) (d a b : ℕ) → one ≡ shared_all sets d (a ∷ []) → two ≡ shared 8 one d d b → two ≡ shared_all sets d (a ∷ b ∷ [])
both_end sets one two d a b e e' = e' ∙ ap (λ (l : List ℕ). shared 8 l d d b) e
