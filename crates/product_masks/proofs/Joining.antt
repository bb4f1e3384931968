-- Two groups of checks, joined as the code asks them.
use Prim.Native.Nat.{ℕ}
use mathlib.Core.Path.{◌≡◌, sym, ◌∙◌, ap₂}
use mathlib.Core.List.{List, ◌++◌}
use Rattle.refusal.specs.Refusal.{Test, first, or_else}
use Rattle.refusal.proofs.Laws.{Numbered, first_join}

pub joined : (xs ys : List Test) → Numbered xs → (a b c : ℕ) → a ≡ first xs → b ≡ first ys → c ≡ or_else a b
    → c ≡ first (xs ++ ys)
joined xs ys n a b c ea eb ec = ec ∙ ap₂ or_else ea eb ∙ sym (first_join xs ys n)
