-- The dealer's number, refused or not.
use Prim.Native.Nat.{ℕ, ◌+◌, ◌-◌, ◌%◌, ◌≤◌, ◌<◌}
use mathlib.Core.Path.{◌≡◌, sym, ◌∙◌, ap}
use mathlib.Core.List.{[], ◌∷◌}
use native.Mathlib.Nat.{mod-eq_of_lt}
use native.Mathlib.Omega.{arith}
use Rattle.std.specs.Prelude.{Result, Ok, Err}
use Rattle.std.specs.Result.{result_and}
use Rattle.field.specs.Modulus.{p}
use Rattle.field.specs.Arithmetic.{sum, difference}
use Rattle.refusal.specs.declared.Refusal.{Refusal}
use Rattle.refusal.specs.Numbers.{refused}
use Rattle.refusal.specs.Refusal.{◌when◌, first}
use Rattle.refusal.specs.Conditions.{beyond}
use Rattle.refusal.proofs.Laws.{all_fail}
use Rattle.refusal.proofs.Elements.{below_p}
use Rattle.refusal.proofs.Checks.{numbered, both_asked}
use Rattle.refusal.proofs.Endings.{refused as refusal_ends, accepted}
use Rattle.factory.specs.Calls.{dealer_tests, dealer_refusal, dealer_number_of}
use Rattle.factory.specs.declared.Number.{Number}

abbrev number : ℕ → ℕ → Number
number r v = record { refusal = r; value = v }

module _ {A : Type 0} (u constant : ℕ) (a b checked : Result A Refusal) (first-test : refused a ≡ first (8 when beyond u ∷ []))
    (second-test : refused b ≡ first (8 when beyond constant ∷ [])) (both : checked ≡ result_and a b) where
  refusal_is : refused checked ≡ dealer_refusal u constant
  unfolding dealer_refusal
  refusal_is = both_asked (8 when beyond u ∷ []) (8 when beyond constant ∷ []) tt a b checked first-test second-test both

  abbrev given : Number
  given = number 0 (difference u constant)

  pub number_refused : (d : Refusal) (r : ℕ) → checked ≡ Err d → r ≡ refused checked → number r 0 ≡ dealer_number_of u constant
  number_refused d r c e =
      ap (λ (k : ℕ). number k 0) (e ∙ refusal_is)
      ∙ refusal_ends (refused checked) (dealer_refusal u constant) given (number (dealer_refusal u constant) 0) refusal_is
      (λ z. numbered d ⊥ (ap refused (sym c) ∙ z))

  module _ (x : A) (c : checked ≡ Ok x) where
    passed : dealer_refusal u constant ≡ 0
    passed = sym refusal_is ∙ ap refused c

    constant_below : constant < p
    unfolding dealer_refusal
    constant_below = below_p constant (all_fail (dealer_tests u constant) tt passed).1.0

    pub constant_most : constant ≤ p
    constant_most = omega (arith, constant_below)

    -- the difference of elements
    pub number_given : (v : ℕ) → v ≡ sum u (p - constant) → number 0 v ≡ dealer_number_of u constant
    unfolding sum difference
    number_given v e =
        accepted (refused checked) (dealer_refusal u constant) (number 0 v) given (number (dealer_refusal u constant) 0) refusal_is (ap refused c)
        (ap (number 0) (e ∙ ap (λ (x : ℕ). (u + (p - x)) % p) (sym (mod-eq_of_lt constant_below))))
