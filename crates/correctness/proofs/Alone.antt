-- Words of the statements that leave no choice: a record has too few or enough, and a triple one y and one y'.
use Prim.Native.Nat.{ℕ}
use mathlib.Core.Path.{◌≡◌, sym, ◌∙◌, ap, subst}
use mathlib.Core.Bool.{Bool, true, false}
use mathlib.Core.Logic.{◌⊎◌, inl, inr}
use borrow.Author.Tests.{ltb-true, ltb-false}
use lib.Dec.{ltb}
use Rattle.shape.specs.Lengths.{needed}
use Rattle.field.specs.Arithmetic as Arithmetic
use Rattle.session.specs.Sessions.{shape_of}
use Rattle.correctness.specs.Ledger.{Meaning, nothing, dealt, summed, product, Plain}
use Rattle.correctness.specs.Claim.{how_many, TooFew, Enough, FewOrEnough, OneRemembered}
use Rattle.correctness.proofs.Meanings.{one_number}

pub few_or_enough : FewOrEnough
few_or_enough s row blocks = go (ltb (how_many s row blocks) (needed (shape_of s))) refl
  where
    refl : ltb (how_many s row blocks) (needed (shape_of s)) ≡ ltb (how_many s row blocks) (needed (shape_of s))
    refl = λ i. ltb (how_many s row blocks) (needed (shape_of s))

    go : (b : Bool) → ltb (how_many s row blocks) (needed (shape_of s)) ≡ b → TooFew s row blocks ⊎ Enough s row blocks
    go true e = inl (ltb-true _ _ e)
    go false e = inr (ltb-false _ _ e)

-- the factors of a product
abbrev first_of : Meaning → ℕ
first_of nothing = 0
first_of (dealt u) = 0
first_of (summed t ts) = 0
first_of (product r a b) = a

abbrev second_of : Meaning → ℕ
second_of nothing = 0
second_of (dealt u) = 0
second_of (summed t ts) = 0
second_of (product r a b) = b

pub one_remembered : OneRemembered
one_remembered plan draw L s s' r h h' =
    let e = sym h.factors ∙ h'.factors in
    let x = one_number L h.a _ _ h.plain_a (subst (λ (q : ℕ). Plain L q h'.number_a_is) (sym (ap first_of e)) h'.plain_a) in
    let y = one_number L h.b _ _ h.plain_b (subst (λ (q : ℕ). Plain L q h'.number_b_is) (sym (ap second_of e)) h'.plain_b) in
    (h.is_y ∙ (ap (λ (m : ℕ). Arithmetic.difference m _) x ∙ sym h'.is_y), h.is_y' ∙ (ap (λ (m : ℕ). Arithmetic.difference m _) y ∙ sym h'.is_y'))
