-- Expressions over a commutative ring and their normal form: the part of the ring solver that computes.
-- A normal form is a sum of monomials in rising order; a monomial is the rising list of its variables, with a natural
-- coefficient. A difference is held as two sums, of what is added and of what is taken away, so that no law of negation is
-- needed to compute it.
use mathlib.Core.Path.{◌≡◌}
use mathlib.Core.List.{List, [], ◌∷◌}
use Prim.Native.Nat.{ℕ, ◌+◌, ◌*◌, Ordering, compare}

pub data Expression : Type 0 where
  var : ℕ → Expression
  𝟘 : Expression
  𝟙 : Expression
  ◌:+◌ : Expression → Expression → Expression
  ◌:*◌ : Expression → Expression → Expression
  ◌:-◌ : Expression → Expression → Expression
  :-◌ : Expression → Expression

infixl 65 ◌:+◌ ◌:-◌
infixl 70 ◌:*◌
infix 75 :-◌
-- names for the first variables
abbrev pub A : Expression
A = var 0

abbrev pub B : Expression
B = var 1

abbrev pub C : Expression
C = var 2

abbrev pub D : Expression
D = var 3

abbrev pub E : Expression
E = var 4

abbrev pub F : Expression
F = var 5

abbrev pub G : Expression
G = var 6

pub data Sum : Type 0 where
  none : Sum
  term : ℕ → List ℕ → Sum → Sum

unfoldable pub compare_monomials : List ℕ → List ℕ → Ordering
compare_monomials [] [] = Ordering.eq
compare_monomials [] (y ∷ ys) = Ordering.lt
compare_monomials (x ∷ xs) [] = Ordering.gt
compare_monomials (x ∷ xs) (y ∷ ys) =
    elim (compare x y) [ Ordering.lt ↦ Ordering.lt | Ordering.eq ↦ compare_monomials xs ys | Ordering.gt ↦ Ordering.gt ]

unfoldable pub insert_variable : ℕ → List ℕ → List ℕ
insert_variable k [] = k ∷ []
insert_variable k (x ∷ xs) =
    elim (compare k x) [ Ordering.lt ↦ k ∷ x ∷ xs | Ordering.eq ↦ k ∷ x ∷ xs | Ordering.gt ↦ x ∷ insert_variable k xs ]

unfoldable pub times_monomial : List ℕ → List ℕ → List ℕ
times_monomial [] m = m
times_monomial (k ∷ ks) m = insert_variable k (times_monomial ks m)

unfoldable pub insert_term : ℕ → List ℕ → Sum → Sum
insert_term c m none = term c m none
insert_term c m (term d n s) =
    elim (compare_monomials m n) [
      | Ordering.lt ↦ term c m (term d n s)
      | Ordering.eq ↦ term (c + d) n s
      | Ordering.gt ↦ term d n (insert_term c m s)
    ]

unfoldable pub plus : Sum → Sum → Sum
plus none s = s
plus (term c m r) s = insert_term c m (plus r s)

unfoldable pub times_term : ℕ → List ℕ → Sum → Sum
times_term c m none = none
times_term c m (term d n s) = insert_term (c * d) (times_monomial m n) (times_term c m s)

unfoldable pub times : Sum → Sum → Sum
times none s = none
times (term c m r) s = plus (times_term c m s) (times r s)

pub record Difference : Type 0 where
  pub added : Sum
  pub taken : Sum

unfoldable pub plus_d : Difference → Difference → Difference
plus_d x y = record { added = plus x.added y.added; taken = plus x.taken y.taken }

unfoldable pub minus_d : Difference → Difference → Difference
minus_d x y = record { added = plus x.added y.taken; taken = plus x.taken y.added }

unfoldable pub times_d : Difference → Difference → Difference
times_d x y =
    record {
      added = plus (times x.added y.added) (times x.taken y.taken);
      taken = plus (times x.added y.taken) (times x.taken y.added);
    }

unfoldable pub normal : Expression → Difference
normal (var k) = record { added = term 1 (k ∷ []) none; taken = none }
normal 𝟘 = record { added = none; taken = none }
normal 𝟙 = record { added = term 1 [] none; taken = none }
normal (a :+ b) = plus_d (normal a) (normal b)
normal (a :* b) = times_d (normal a) (normal b)
normal (a :- b) = minus_d (normal a) (normal b)
normal (:- a) = let x = normal a in record { added = x.taken; taken = x.added }

-- The difference of the two has nothing left: `refl` proves it where `unfolding Same` opens the normaliser.
unfoldable pub Same : Expression → Expression → Type 0
unfolding normal plus_d minus_d times_d plus times times_term times_monomial insert_term insert_variable compare_monomials
Same e f = let d = minus_d (normal e) (normal f) in d.added ≡ d.taken
