-- A list that a loop copies from the front.
use Rattle.std.proofs.Common.{ℕ, ◌+◌, ◌<◌, ◌≤◌, ◌≡◌, List, [], ◌∷◌, ◌++◌, length, get_or, take, sym, ◌∙◌, ap₂, add-one, arith}
use Rattle.std.proofs.Math.ListN.{set}
use Rattle.std.proofs.Math.Seq.{take-suc, take-suc-set, take_all}

module _ {A : Type 0} (from to : List A) (i : ℕ) where
  pub copied_more : (v : A) → i < length from → length from ≡ length to → v ≡ get_or from i v → take i to ≡ take i from
      → take (i + 1) (set to i v) ≡ take (i + 1) from
  copied_more v h e q inv =
      let j : i < length to = omega arith in
      rw (add-one i, take-suc-set to i v j, take-suc from i v h) (ap₂ (λ (l : List A) (x : A). l ++ (x ∷ [])) inv q)

  pub copied_end : length from ≤ i → length from ≡ length to → take i to ≡ take i from → to ≡ from
  copied_end h e inv =
      let j : length to ≤ i = omega arith in
      sym (take_all i to j) ∙ inv ∙ take_all i from h
