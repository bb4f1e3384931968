-- The start of a list with room to spare, as the walk and its powers use it.
use Prim.Native.Nat.{ℕ, ◌≤◌}
use mathlib.Core.Path.{◌≡◌, sym, ◌∙◌}
use mathlib.Core.List.{List}
use native.Mathlib.Omega.{arith}
use lib.ListN.{length, take}
use lib.Seq.{length-take-le}

pub front_length : (k m : ℕ) (l : List ℕ) → k ≤ m → length l ≡ m → k ≡ length (take k l)
front_length k m l h e = sym (length-take-le k l (omega arith))

pub front_size : (k m j : ℕ) (l : List ℕ) → k ≡ j → k ≤ m → length l ≡ m → length (take k l) ≡ j
front_size k m j l h i e = length-take-le k l (omega arith) ∙ h
