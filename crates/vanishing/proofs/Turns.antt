-- The turns of the loops: the search for a number, the product with z − x, the division, and the products of all.
use Prim.Native.Nat.{ℕ, zero, suc, ◌+◌, ◌≤◌, ◌<◌}
use mathlib.Core.Path.{◌≡◌, refl, sym, ◌∙◌, ap, ap₂, subst}
use mathlib.Core.Bool.{Bool, true, false, cond, ◌||◌}
use mathlib.Core.List.{List, [], ◌∷◌, ◌++◌, map}
use native.Mathlib.Numerals.{add-one}
use native.Mathlib.Omega.{arith}
use borrow.Author.Tests.{eq-eqb, ne_eqb}
use lib.Dec.{eqb, lit≤}
use lib.ListN.{length, get_or, set, take, drop, replicate, drop_of_length-le, length-map}
use lib.Seq.{drop-cons, length-take-le}
use Rattle.field.specs.Modulus.{p}
use Rattle.field.specs.Arithmetic.{difference, product, inverse}
use Rattle.field.proofs.Modular.{difference_below}
use Rattle.lists.proofs.Filled.{Filled, filled_more, filled_read, filled_end}
use Rattle.vanishing.specs.Vanishing.{one, vanishing, occurs, distinct}
use Rattle.vanishing.specs.Between.{Ends, Low, Nonzero, line_at, times_line_of, times_factor_of, times_factors}
use Rattle.vanishing.proofs.Vanish.{length_one, ends_more, one_ends}
use Rattle.vanishing.proofs.Distinct.{to_distinct}
use Rattle.vanishing.proofs.Factors.{line_short, factor_ends, factor_low, one_low, divided}

-- ---- a number is searched for

pub now_found : (found : Bool) (x y : ℕ) → x ≡ y → true ≡ (found || eqb x y)
now_found true x y e = refl
now_found false x y e = sym (eq-eqb x y e)

pub not_now : (found : Bool) (x y : ℕ) → (x ≡ y → ⊥) → found ≡ (found || eqb x y)
not_now true x y n = refl
not_now false x y n = sym (ne_eqb x y n)

module _ (x : ℕ) (l : List ℕ) (i : ℕ) (b found : Bool) where
  pub occurs_turn : (new : Bool) → i < length l → new ≡ (found || eqb x (get_or l i 0)) → (found || occurs x (drop i l)) ≡ b
      → (new || occurs x (drop (i + 1) l)) ≡ b
  unfolding occurs
  occurs_turn new h e inv =
      ap₂ (λ (c : Bool) (k : ℕ). c || occurs x (drop k l)) e (add-one i) ∙ go found ∙ ap (λ (k : List ℕ). found || occurs x k) (sym (drop-cons l i 0 h)) ∙ inv
    where
      go : (f : Bool) → ((f || eqb x (get_or l i 0)) || occurs x (drop (suc i) l)) ≡ (f || (eqb x (get_or l i 0) || occurs x (drop (suc i) l)))
      go true = refl
      go false = refl

  pub occurs_ended : length l ≤ i → (found || occurs x (drop i l)) ≡ b → found ≡ b
  unfolding occurs
  occurs_ended h inv = go found ∙ ap (λ (k : List ℕ). found || occurs x k) (sym (drop_of_length-le l h)) ∙ inv
    where
      go : (f : Bool) → f ≡ (f || false)
      go true = refl
      go false = refl

-- ---- times z + k

length_line : (k b : ℕ) (cs : List ℕ) → length (times_line_of k b cs) ≡ length cs
unfolding times_line_of
length_line k b [] = refl
length_line k b (c ∷ cs) = ap suc (length_line k c cs)

-- the coefficient before the i-th, 0 before the first
abbrev pub before_at : List ℕ → ℕ → ℕ
before_at cs i = get_or (0 ∷ cs) i 0

line_there : (k b : ℕ) (cs : List ℕ) (i : ℕ) → i < length cs → get_or (times_line_of k b cs) i 0 ≡ line_at k (get_or cs i 0) (get_or (b ∷ cs) i 0)
unfolding times_line_of
line_there k b [] i h = absurd (omega arith)
line_there k b (c ∷ cs) zero h = refl
line_there k b (c ∷ cs) (suc i) h = line_there k c cs i (omega arith)

-- list₀ is what stood there, and `before` its number before the i-th
abbrev pub Lining : ℕ → List ℕ → ℕ → ℕ → List ℕ → Type 0
Lining k list₀ before i list = Filled (times_line_of k 0 list₀) list₀ i list × (before ≡ before_at list₀ i)

module _ (k : ℕ) (list₀ list : List ℕ) (i : ℕ) where
  pub line_more : (before v : ℕ) → i < length list₀ → list ≡ take i (times_line_of k 0 list₀) ++ drop i list₀ → before ≡ before_at list₀ i
      → v ≡ line_at k (get_or list i 0) before → set list i v ≡ take (i + 1) (times_line_of k 0 list₀) ++ drop (i + 1) list₀
  line_more before v h inv eb ev =
      let long = length_line k 0 list₀ in
      filled_more (times_line_of k 0 list₀) list₀ list i v (omega arith) long inv
      (ev ∙ ap₂ (line_at k) (filled_read (times_line_of k 0 list₀) list₀ list i (omega arith) long inv) eb ∙ sym (line_there k 0 list₀ i h))

  pub line_next : (c : ℕ) → i < length list₀ → list ≡ take i (times_line_of k 0 list₀) ++ drop i list₀ → c ≡ get_or list i 0 → c ≡ before_at list₀ (i + 1)
  line_next c h inv e =
      let long = length_line k 0 list₀ in
      e ∙ filled_read (times_line_of k 0 list₀) list₀ list i (omega arith) long inv ∙ ap (before_at list₀) (sym (add-one i))

  pub line_end_is : length list₀ ≤ i → list ≡ take i (times_line_of k 0 list₀) ++ drop i list₀ → list ≡ times_line_of k 0 list₀
  line_end_is h inv = let long = length_line k 0 list₀ in filled_end (times_line_of k 0 list₀) list₀ list i (omega arith) long inv

-- what is read in a turn is at most p
low_at : (cs : List ℕ) (i : ℕ) → Low cs → get_or cs i 0 ≤ p
low_at [] i a = lit≤ tt
low_at (c ∷ cs) zero a = a.0
low_at (c ∷ cs) (suc i) a = low_at cs i a.1

pub read_low : (k : ℕ) (list₀ list : List ℕ) (i c : ℕ) → Low list₀ → i < length list₀ → list ≡ take i (times_line_of k 0 list₀) ++ drop i list₀ → c ≡ get_or list i 0
    → c ≤ p
read_low k list₀ list i c a h inv e =
    let long = length_line k 0 list₀ in
    omega (arith, e ∙ filled_read (times_line_of k 0 list₀) list₀ list i (omega arith) long inv, low_at list₀ i a)

pub before_low : (list₀ : List ℕ) (i before : ℕ) → Low list₀ → before ≡ before_at list₀ i → before ≤ p
before_low list₀ i before a e = omega (arith, e, low_at (0 ∷ list₀) i (lit≤ tt, a))

-- ---- times z − x

pub negative_low : (a x k : ℕ) → k ≡ difference a x → k < p
negative_low a x k e = omega (arith, e, difference_below a x)

pub part_low : (m : ℕ) (l : List ℕ) → Low l → Low (take m l)
part_low zero l a = tt
part_low (suc m) [] a = tt
part_low (suc m) (x ∷ l) a = (a.0, part_low m l a.1)

pub turn_low : (x : ℕ) (list new : List ℕ) → Low list → new ≡ times_factor_of x list → Low new
turn_low x list new a e = subst Low (sym e) (factor_low x list a)

pub once_low : (x : ℕ) (c : Bool) (list new : List ℕ) → Low list → new ≡ cond c list (times_factor_of x list) → Low new
once_low x true list new a e = subst Low (sym e) a
once_low x false list new a e = turn_low x list new a e

pub start_low : (list : List ℕ) (k : ℕ) → list ≡ one k → Low list
start_low list k e = subst Low (sym e) (one_low k)

length_factor : (x : ℕ) (cs : List ℕ) → length (times_factor_of x cs) ≡ length cs
length_factor x cs = length_line (difference 0 x) 0 cs

pub whole_factor : (x k : ℕ) (list new : List ℕ) → k ≡ difference 0 x → new ≡ times_line_of k 0 list → new ≡ times_factor_of x list
whole_factor x k list new e h = h ∙ ap (λ (j : ℕ). times_line_of j 0 list) e

-- a part of the list is enough
pub short_factor : (x k m : ℕ) (list ys : List ℕ) → k ≡ difference 0 x → 1 ≤ m → Ends m list → ys ≡ times_line_of k 0 (take (m + 1) list)
    → ys ++ drop (m + 1) list ≡ times_factor_of x list
short_factor x k zero list ys ek h e q = absurd (omega arith)
short_factor x k (suc m) list ys ek h e q =
    ap₂ (λ (j : ℕ) (l : List ℕ). l ++ drop j list) (add-one (suc m)) (q ∙ ap₂ (λ (i j : ℕ). times_line_of i 0 (take j list)) ek (add-one (suc m)))
    ∙ line_short (suc m) (difference 0 x) 0 list e

pub part_lent : (m : ℕ) (list : List ℕ) → m < length list → m + 1 ≡ length (take (m + 1) list)
part_lent m list h = sym (length-take-le (m + 1) list (omega arith))

-- ---- divided

get_or_mapped : (f : ℕ → ℕ) (l : List ℕ) (i : ℕ) → i < length l → get_or (map f l) i 0 ≡ f (get_or l i 0)
get_or_mapped f [] i h = absurd (omega arith)
get_or_mapped f (x ∷ l) zero h = refl
get_or_mapped f (x ∷ l) (suc i) h = get_or_mapped f l i (omega arith)

module _ (l m : List ℕ) (i : ℕ) where
  over : List ℕ
  over = map (product (inverse (get_or l 0 0))) l

  pub divided_more : (k v : ℕ) → i < length l → m ≡ take i (map (product (inverse (get_or l 0 0))) l) ++ drop i l → k ≡ inverse (get_or l 0 0)
      → v ≡ product k (get_or m i 0) → set m i v ≡ take (i + 1) (map (product (inverse (get_or l 0 0))) l) ++ drop (i + 1) l
  unfolding over
  divided_more k v h inv ek ev =
      let e = length-map l (product (inverse (get_or l 0 0))) in
      filled_more over l m i v (omega arith) e inv
      (ev ∙ ap₂ product ek (filled_read over l m i (omega arith) e inv) ∙ sym (get_or_mapped (product (inverse (get_or l 0 0))) l i h))

  pub divided_end : length l ≤ i → m ≡ take i (map (product (inverse (get_or l 0 0))) l) ++ drop i l → m ≡ map (product (inverse (get_or l 0 0))) l
  unfolding over
  divided_end h inv = let e = length-map l (product (inverse (get_or l 0 0))) in filled_end over l m i (omega arith) e inv

-- ---- the constant 1

pub one_start : (m : List ℕ) (k : ℕ) → 1 ≤ k → m ≡ replicate k 0 → set m 0 1 ≡ one k
unfolding one
one_start m zero h e = absurd (omega arith)
one_start m (suc k) h e = ap (λ (l : List ℕ). set l 0 1) e

-- ---- all factors

module _ (numbers : List ℕ) (i : ℕ) (list b : List ℕ) where
  pub roots_turn : (new : List ℕ) → i < length numbers → new ≡ times_factor_of (get_or numbers i 0) list → times_factors (drop i numbers) list ≡ b
      → times_factors (drop (i + 1) numbers) new ≡ b
  unfolding times_factors
  roots_turn new h e inv =
      ap₂ (λ (k : ℕ) (l : List ℕ). times_factors (drop k numbers) l) (add-one i) e ∙ ap (λ (xs : List ℕ). times_factors xs list) (sym (drop-cons numbers i 0 h)) ∙ inv

  pub roots_done : length numbers ≤ i → times_factors (drop i numbers) list ≡ b → list ≡ b
  unfolding times_factors
  roots_done h inv = ap (λ (xs : List ℕ). times_factors xs list) (sym (drop_of_length-le numbers h)) ∙ inv

  -- each number once
  pub once_turn : (new : List ℕ) → i < length numbers
      → new ≡ cond (occurs (get_or numbers i 0) (drop (i + 1) numbers)) list (times_factor_of (get_or numbers i 0) list)
      → times_factors (distinct (drop i numbers)) list ≡ b → times_factors (distinct (drop (i + 1) numbers)) new ≡ b
  unfolding times_factors distinct
  once_turn new h e inv =
      ap₂ (λ (k : ℕ) (l : List ℕ). times_factors (distinct (drop k numbers)) l) (add-one i)
      (e ∙ ap (λ (k : ℕ). cond (occurs (get_or numbers i 0) (drop k numbers)) list (times_factor_of (get_or numbers i 0) list)) (add-one i))
      ∙ go (occurs (get_or numbers i 0) (drop (suc i) numbers)) ∙ ap (λ (xs : List ℕ). times_factors (distinct xs) list) (sym (drop-cons numbers i 0 h)) ∙ inv
    where
      go : (c : Bool) → times_factors (distinct (drop (suc i) numbers)) (cond c list (times_factor_of (get_or numbers i 0) list))
          ≡ times_factors (cond c (distinct (drop (suc i) numbers)) (get_or numbers i 0 ∷ distinct (drop (suc i) numbers))) list
      go true = refl
      go false = refl

  pub once_done : length numbers ≤ i → times_factors (distinct (drop i numbers)) list ≡ b → list ≡ b
  unfolding times_factors distinct
  once_done h inv = ap (λ (xs : List ℕ). times_factors (distinct xs) list) (sym (drop_of_length-le numbers h)) ∙ inv

-- a coefficient more with each factor
pub turn_ends : (i x : ℕ) (list new : List ℕ) → Ends (i + 1) list → new ≡ times_factor_of x list → Ends (i + 1 + 1) new
turn_ends i x list new h e = rw (e, add-one (i + 1), add-one i) (factor_ends i x list (rw (add-one i) at h))

pub once_ends : (i x : ℕ) (c : Bool) (list new : List ℕ) → Ends (i + 1) list → new ≡ cond c list (times_factor_of x list) → Ends (i + 1 + 1) new
once_ends i x true list new h e = rw (e, add-one (i + 1)) (ends_more (i + 1) list h)
once_ends i x false list new h e = turn_ends i x list new h e

pub start_ends : (list : List ℕ) (k : ℕ) → list ≡ one k → Ends (0 + 1) list
start_ends list k e = rw e (one_ends k)

pub same_root : (x : ℕ) (list new : List ℕ) (k : ℕ) → length list ≡ k → new ≡ times_factor_of x list → length new ≡ k
same_root x list new k e h = ap length h ∙ length_factor x list ∙ e

-- the end, of a product that began with 1: what is divided by its constant is the product of 1 − z/x
pub roots_all : (numbers list list₀ new : List ℕ) (i k : ℕ) → 1 ≤ k → Nonzero numbers → list₀ ≡ one k → length numbers ≤ i
    → times_factors (drop i numbers) list ≡ times_factors numbers list₀ → new ≡ map (product (inverse (get_or list 0 0))) list → new ≡ vanishing k numbers
roots_all numbers list list₀ new i k some good e h inv q =
    q
    ∙ ap (λ (l : List ℕ). map (product (inverse (get_or l 0 0))) l) (roots_done numbers i list (times_factors numbers list₀) h inv ∙ ap (times_factors numbers) e)
    ∙ divided k numbers some good

pub once_all : (numbers list list₀ new : List ℕ) (i k : ℕ) → 1 ≤ k → Nonzero numbers → list₀ ≡ one k → length numbers ≤ i
    → times_factors (distinct (drop i numbers)) list ≡ times_factors (distinct numbers) list₀ → new ≡ map (product (inverse (get_or list 0 0))) list
    → new ≡ vanishing k (distinct numbers)
once_all numbers list list₀ new i k some good e h inv q =
    q
    ∙ ap (λ (l : List ℕ). map (product (inverse (get_or l 0 0))) l)
    (once_done numbers i list (times_factors (distinct numbers) list₀) h inv ∙ ap (times_factors (distinct numbers)) e)
    ∙ divided k (distinct numbers) some (to_distinct (λ x. (1 ≤ x) × (x < p)) numbers good)

pub one_room : (list₀ : List ℕ) (k : ℕ) → list₀ ≡ one k → 1 ≤ k → (list : List ℕ) → length list ≡ length list₀ → 1 ≤ length list
one_room list₀ k e h list same = omega (arith, same ∙ ap length e ∙ length_one k)

pub same_once : (x : ℕ) (c : Bool) (list new : List ℕ) (k : ℕ) → length list ≡ k → new ≡ cond c list (times_factor_of x list) → length new ≡ k
same_once x true list new k e h = ap length h ∙ e
same_once x false list new k e h = ap length h ∙ length_factor x list ∙ e

pub once_occurs : (x : ℕ) (r c : Bool) (list : List ℕ) → r ≡ c → r ≡ true → list ≡ cond c list (times_factor_of x list)
once_occurs x r c list q e = ap (λ (b : Bool). cond b list (times_factor_of x list)) (sym e ∙ q)

pub once_new : (x : ℕ) (r c : Bool) (list new : List ℕ) → r ≡ c → r ≡ false → new ≡ times_factor_of x list → new ≡ cond c list (times_factor_of x list)
once_new x r c list new q e h = h ∙ ap (λ (b : Bool). cond b list (times_factor_of x list)) (sym e ∙ q)
