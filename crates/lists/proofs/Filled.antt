-- A list that a loop fills from the front with the elements of another, one store a turn: the one scheme for every writer.
use Prim.Native.Nat.{ℕ, suc, ◌+◌, ◌≤◌, ◌<◌}
use mathlib.Core.Path.{◌≡◌, sym, ◌∙◌, ap}
use mathlib.Core.List.{List, [], ◌∷◌, ◌++◌, append_assoc, append-nil}
use native.Mathlib.Numerals.{add-one}
use native.Mathlib.Omega.{arith}
use lib.ListN.{length, get_or, set, take, drop, drop_of_length-le}
use lib.Seq.{set_at, get_or_at, drop-cons, take-suc, take_all, length-take-le}

-- m holds the first i elements of the target, and then what stood in it before
abbrev pub Filled : List ℕ → List ℕ → ℕ → List ℕ → Type 0
Filled target before i m = (length m ≡ length before) × (m ≡ take i target ++ drop i before)

module _ (target before m : List ℕ) (i : ℕ) where
  pub filled_more : (v : ℕ) → i < length target → length target ≡ length before → m ≡ take i target ++ drop i before
      → v ≡ get_or target i 0 → set m i v ≡ take (i + 1) target ++ drop (i + 1) before
  filled_more v h e inv q =
      let l : i < length before = omega arith in
      rw (inv, q, add-one i, drop-cons before i 0 l, set_at (take i target) (get_or before i 0) (drop (suc i) before) (get_or target i 0) i (length-take-le i target (omega arith)), take-suc target i 0 h)
      (sym (append_assoc (take i target) (get_or target i 0 ∷ []) (drop (suc i) before)))

  -- what stands at i is not written yet
  pub filled_read : i < length target → length target ≡ length before → m ≡ take i target ++ drop i before → get_or m i 0 ≡ get_or before i 0
  filled_read h e inv =
      let l : i < length before = omega arith in
      rw (inv, drop-cons before i 0 l)
      (get_or_at (take i target) (get_or before i 0) (drop (suc i) before) 0 i (length-take-le i target (omega arith)))

  pub filled_end : length target ≤ i → length target ≡ length before → m ≡ take i target ++ drop i before → m ≡ target
  filled_end h e inv =
      let l : length before ≤ i = omega arith in
      inv ∙ ap (λ (z : List ℕ). take i target ++ z) (drop_of_length-le before l) ∙ append-nil (take i target) ∙ take_all i target h
