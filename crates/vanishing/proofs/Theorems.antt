-- What `vanishing` and `distinct` are, by values and places.
use Prim.Native.Nat.{ℕ, zero, suc, ◌≤◌, ◌<◌}
use mathlib.Core.Path.{◌≡◌, refl, sym, ◌∙◌, ap}
use mathlib.Core.Logic.{◌≢◌}
use mathlib.Core.List.{List, [], ◌∷◌}
use native.Mathlib.Omega.{arith}
use lib.Dec.{lit<, lit≤}
use lib.ListN.{length, get_or}
use Rattle.field.specs.Element.{Element, element, 0ᴱ}
use Rattle.field.proofs.Elements.{𝓡, element_zero, element_one, element_injective}
use Rattle.poly.specs.Polynomial.{value}
use Rattle.poly.specs.Counting.{All, Elements}
use Rattle.poly.proofs.Bounds.{value_below}
use Rattle.poly.proofs.Coefficients.{ev}
use Rattle.poly.proofs.Lists.{all_at}
use Rattle.poly.proofs.Numbers.{to_elements, element_value_lem}
use Rattle.vanishing.specs.Vanishing.{vanishing, distinct}
use Rattle.vanishing.specs.Claims.{Vanishes, EachOnce}
use Rattle.vanishing.proofs.Vanish.{Ends, length_vanishing, vanishing_ends, vanishing_at_zero, vanishing_at_nodes}
use Rattle.vanishing.proofs.Factors.{vanishing_elements}
use Rattle.vanishing.proofs.Distinct.{of_distinct, to_distinct, apart}

-- a list by places
all_of : (P : ℕ → Type 0) (xs : List ℕ) → ((i : ℕ) → i < length xs → P (get_or xs i 0)) → All P xs
all_of P [] h = tt
all_of P (x ∷ xs) h = (h 0 (omega arith), all_of P xs (λ i k. h (suc i) (omega arith)))

ends_at : (k : ℕ) (cs : List ℕ) → Ends k cs → (i : ℕ) → k ≤ i → get_or cs i 0 ≡ 0
ends_at zero [] e i h = refl
ends_at zero (c ∷ cs) e zero h = e.0
ends_at zero (c ∷ cs) e (suc i) h = ends_at zero cs e.1 i (omega arith)
ends_at (suc k) [] e i h = refl
ends_at (suc k) (c ∷ cs) e zero h = absurd (omega arith)
ends_at (suc k) (c ∷ cs) e (suc i) h = ends_at k cs e i (omega arith)

element_at : (cs : List ℕ) → Elements cs → (i : ℕ) → get_or cs i 0 ≤ 2147483646
element_at [] a i = lit≤ tt
element_at (c ∷ cs) a zero = omega (arith, a.0)
element_at (c ∷ cs) a (suc i) = element_at cs a.1 i

nonzero : (xs : List ℕ) → All (λ x. (1 ≤ x) × (x ≤ 2147483646)) xs → All (λ x. x ≢ 0ᴱ) (to_elements xs)
nonzero [] a = tt
nonzero (x ∷ xs) a = ((λ z. omega (arith, a.0.0, element_injective x 0 (omega (arith, a.0.1)) (lit< tt) (z ∙ sym element_zero))), nonzero xs a.1)

-- of elements, at each number
mapped : (P : Element → Type 0) (xs : List ℕ) → All P (to_elements xs) → All (λ x. P (element x)) xs
mapped P [] a = tt
mapped P (x ∷ xs) a = (a.0, mapped P xs a.1)

value_is : (cs : List ℕ) (x r : ℕ) → r < 2147483647 → ev 𝓡 (to_elements cs) (element x) ≡ element r → value cs x ≡ r
value_is cs x r h e = element_injective (value cs x) r (value_below cs x) (omega (arith, h)) (element_value_lem cs x ∙ e)

at_zero : (m : ℕ) (xs : List ℕ) → length xs < m → value (vanishing m xs) 0 ≡ 1
at_zero m xs few =
    value_is (vanishing m xs) 0 1 (omega arith)
    (ap (ev 𝓡 (to_elements (vanishing m xs))) element_zero ∙ vanishing_at_zero m xs few ∙ sym element_one)

at_each : (m : ℕ) (xs : List ℕ) → length xs < m → All (λ x. (1 ≤ x) × (x ≤ 2147483646)) xs → (i : ℕ) → i < length xs → value (vanishing m xs) (get_or xs i 0) ≡ 0
at_each m xs few a i h =
    value_is (vanishing m xs) (get_or xs i 0) 0 (omega arith)
    (all_at (λ x. ev 𝓡 (to_elements (vanishing m xs)) (element x) ≡ 0ᴱ) xs i 0 h
    (mapped (λ x. ev 𝓡 (to_elements (vanishing m xs)) x ≡ 0ᴱ) xs (vanishing_at_nodes m xs few (nonzero xs a)))
    ∙ sym element_zero)

pub vanishes : Vanishes
vanishes = record {
  long = length_vanishing;
  ends = λ m xs i h. ends_at (suc (length xs)) (vanishing m xs) (vanishing_ends m xs) i (omega arith);
  elements = λ m xs i. element_at (vanishing m xs) (vanishing_elements m xs) i;
  at_zero = at_zero;
  at_each = λ m xs few a. at_each m xs few (all_of (λ x. (1 ≤ x) × (x ≤ 2147483646)) xs a);
}

-- it stands at some place
abbrev In : List ℕ → ℕ → Type 0
In ys x = (j : ℕ) × (j < length ys) × (get_or ys j 0 ≡ x)

all_in : (ys : List ℕ) → All (In ys) ys
all_in ys = all_of (In ys) ys (λ i h. (i, h, refl))

pub each_once : EachOnce
each_once = record {
  once = apart;
  one_of = λ xs i h. all_at (In xs) (distinct xs) i 0 h (to_distinct (In xs) xs (all_in xs));
  among = λ xs i h. all_at (In (distinct xs)) xs i 0 h (of_distinct (In (distinct xs)) xs (all_in (distinct xs)));
}
