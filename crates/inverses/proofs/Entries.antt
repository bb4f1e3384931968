-- The table's rule at each of its entries, from one test over the whole table, which antt computes.
use Prim.Native.Nat.{ℕ, zero, suc, ◌≤◌, ◌<◌}
use mathlib.Core.Path.{◌≡◌, ◌∙◌, sym, ap, subst}
use mathlib.Core.Bool.{Bool, true, false}
use mathlib.Core.Logic.{inl, inr}
use mathlib.Core.List.{List}
use native.Mathlib.Nat.{eq-or-lt_of_le, le_of_suc-le-suc}
use native.Mathlib.Numerals.{add-one}
use native.Mathlib.Omega.{arith}
use lib.Dec.{T, eqb, eqb→eq, ltb, ltb→lt}
use lib.ListN.{length, get_or}
use Rattle.field.specs.Modulus.{p}
use Rattle.field.specs.Arithmetic.{product}
use Rattle.inverses.specs.InverseTable.{most, Inverts}

-- the entries up to place n are elements, and each times its index is 1
abbrev right : List ℕ → ℕ → Bool
right l k = elim (ltb (get_or l k 0) p) [ true ↦ eqb (product (get_or l k 0) (suc k)) 1 | false ↦ false ]

abbrev pub inverts : ℕ → List ℕ → Bool
inverts zero l = right l 0
inverts (suc n) l = elim (right l (suc n)) [ true ↦ inverts n l | false ↦ false ]

both : (a b : Bool) → T (elim a [ true ↦ b | false ↦ false ]) → T a × T b
both true b t = (tt, t)
both false b t = absurd t

right_at : (n : ℕ) (l : List ℕ) (k : ℕ) → k ≤ n → T (inverts n l) → T (right l k)
right_at zero l k h t =
    let q : 0 ≡ k = omega arith in
    subst (λ (i : ℕ). T (right l i)) q t
right_at (suc n) l k h t =
    elim (eq-or-lt_of_le h) [
      | inl q ↦ subst (λ (i : ℕ). T (right l i)) (sym q) (both (right l (suc n)) (inverts n l) t).0
      | inr i ↦ right_at n l k (le_of_suc-le-suc i) (both (right l (suc n)) (inverts n l) t).1
    ]

module _ (n : ℕ) (l : List ℕ) (t : T (inverts n l)) (e : length l ≡ suc n) (short : n < most) where
  parts : (i : ℕ) → i < length l → T (ltb (get_or l i 0) p) × T (eqb (product (get_or l i 0) (suc i)) 1)
  parts i h = both (ltb (get_or l i 0) p) (eqb (product (get_or l i 0) (suc i)) 1) (right_at n l i (omega arith) t)

  pub table_inverts : Inverts l
  table_inverts = record {
    short = omega arith;
    elements = λ i h. ltb→lt (get_or l i 0) p (parts i h).0;
    times = λ i h. ap (product (get_or l i 0)) (add-one i) ∙ eqb→eq (product (get_or l i 0) (suc i)) 1 (parts i h).1;
  }
