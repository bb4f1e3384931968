-- Two numbers behind commas and a line feed have room in 32 bytes.
use Prim.Native.Nat.{ℕ, ◌+◌, ◌≤◌, ◌<◌}
use mathlib.Core.Path.{◌≡◌, sym}
use mathlib.Core.List.{List}
use native.Mathlib.Omega.{arith}
use mir.Syntax.{w64}
use mir.Val.{Fits}
use lib.ListN.{length, take}
use lib.Seq.{length-take-le}
use Rattle.csv_fields.specs.Fields.{fields}
use Rattle.csv_fields.proofs.Overwriting.{length_fields_le}

module _ (xs : List ℕ) (two : length xs ≡ 2) where
  pub two_fit : (out : List ℕ) → length out ≡ 32 → 0 + length (fields xs) ≤ length out
  two_fit out e = omega (arith, length_fields_le xs)

  module _ (end : ℕ) (behind : end ≡ 0 + length (fields xs)) where
    pub feed_fits : (out out' : List ℕ) → length out ≡ 32 → length out' ≡ length out → end < length out'
    feed_fits out out' e same = omega (arith, length_fields_le xs)

    pub end_fits : Fits w64 (end + 1)
    end_fits = omega (arith, length_fields_le xs)

    pub end_within : end + 1 ≤ 32
    end_within = omega (arith, length_fields_le xs)

pub front_size : (k : ℕ) (l : List ℕ) → k ≤ 32 → length l ≡ 32 → k ≡ length (take k l)
front_size k l h e = sym (length-take-le k l (omega arith))
