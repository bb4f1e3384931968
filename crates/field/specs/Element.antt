-- The p elements as a type of their own, on which the laws of a field hold as equations.
use Prim.Native.Nat.{ℕ, ◌+◌, ◌*◌, ◌-◌, ◌%◌, Fin}
use Rattle.std.proofs.Common.{mod-lt, lit<}
use Rattle.field.specs.Modulus.{p}
use Rattle.field.specs.Arithmetic.{inverse}

-- A number with the proof that it is below p; its number is `x.0`.
abbrev pub Element : Type 0
Element = Fin p

-- The element that a plain number stands for: the bridge from contracts, which speak of numbers, to laws.
unfoldable pub element : ℕ → Element
element x = (x % p, mod-lt x (lit< tt))

-- "sums and products are taken modulo p"
unfoldable pub ◌⊕◌ : Element → Element → Element
x ⊕ y = element (x.0 + y.0)

unfoldable pub ◌⊗◌ : Element → Element → Element
x ⊗ y = element (x.0 * y.0)

infixl 65 ◌⊕◌
infixl 70 ◌⊗◌
unfoldable pub negative : Element → Element
negative x = element (p - x.0)

unfoldable pub reciprocal : Element → Element
reciprocal x = element (inverse x.0)

unfoldable pub 0ᴱ : Element
0ᴱ = element 0

unfoldable pub 1ᴱ : Element
1ᴱ = element 1
