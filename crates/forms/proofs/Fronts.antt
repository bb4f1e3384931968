-- Numbers at the front of a list, and zeros behind, if all of them stay below a limit.
use Prim.Native.Nat.{ℕ, ◌-◌, ◌≤◌}
use mathlib.Core.Path.{◌≡◌, ap, sym, ◌∙◌}
use mathlib.Core.List.{List, ◌++◌, append-nil}
use mathlib.Core.Bool.{Bool, true, false, cond}
use native.Mathlib.Omega.{arith}
use borrow.Rule.Slice.PartMut.{put_mid}
use lib.ListN.{length, take, drop, replicate, length-append, length-drop, take-append-drop}
use lib.Seq.{take_at, drop_at, take_all, drop-length, length-take-le}
use Rattle.csv_fields.specs.declared.Run.{Run}
use Rattle.std.specs.Prelude.{Option}
use Rattle.csv_fields.specs.Fields.{fields_at, ended, numbers_of_of, run_from, run_of, padded}
use Rattle.forms.specs.Between.{below_limit}

-- ---- numbers at the front of a list, and zeros behind
module _ (s out : List ℕ) (at count : ℕ) (b : count ≤ length out) where
  pub front_count : count ≡ length (take count out)
  front_count = sym (length-take-le count out b)

  pub front_run : (r : Option Run) → r ≡ run_from 0 (ended s (fields_at (length (take count out)) s at)) → r ≡ run_of (ended s (fields_at count s at))
  front_run r e = rw (length-take-le count out b) at e

  front_filled : (ys zs : List ℕ) → ys ≡ numbers_of_of (fields_at (length (take count out)) s at) → length ys ≡ length (take count out)
      → zs ≡ replicate (length (take (length (ys ++ drop count out) - count) (drop count (ys ++ drop count out)))) 0
      → put_mid count (length (ys ++ drop count out) - count) (ys ++ drop count out) zs ≡ padded (length out) (numbers_of_of (fields_at count s at))
  front_filled ys zs e n z =
      let c : length ys ≡ count = n ∙ length-take-le count out b in
      let r : List ℕ = drop count out in
      let w : ys ≡ numbers_of_of (fields_at count s at) = e ∙ rw (length-take-le count out b) in
      let m : length (ys ++ r) - count ≡ length r = omega (arith, length-append ys r) in
      let k : length r ≡ length out - length ys = omega (arith, length-drop count out) in
      let q : zs ≡ replicate (length out - length ys) 0 = z ∙ rw (m, drop_at ys r count c, take_all (length r) r (omega arith), k) in
      rw (m, take_at ys r count c, drop_at ys r count c, drop-length r, ← w, q) (ap (λ (l : List ℕ). ys ++ l) (append-nil _))

  pub front_read : (ys zs : List ℕ) (r : Option Run) (limit : ℕ) (t : Bool) → ys ≡ cond (below_limit r limit) (numbers_of_of (fields_at (length (take count out)) s at)) (take count out)
      → length ys ≡ length (take count out) → t ≡ below_limit r limit
      → zs ≡ cond t (replicate (length (take (length (ys ++ drop count out) - count) (drop count (ys ++ drop count out)))) 0)
      (take (length (ys ++ drop count out) - count) (drop count (ys ++ drop count out)))
      → put_mid count (length (ys ++ drop count out) - count) (ys ++ drop count out) zs
      ≡ cond (below_limit r limit) (padded (length out) (numbers_of_of (fields_at count s at))) out
  front_read ys zs r limit t e n f z = by_limit (below_limit r limit) e (rw f at z)
    where
      c : length ys ≡ count
      c = n ∙ length-take-le count out b

      m : length (ys ++ drop count out) - count ≡ length (drop count out)
      m = omega (arith, c, length-append ys (drop count out))

      by_limit : (u : Bool) → ys ≡ cond u (numbers_of_of (fields_at (length (take count out)) s at)) (take count out)
          → zs ≡ cond u (replicate (length (take (length (ys ++ drop count out) - count) (drop count (ys ++ drop count out)))) 0)
          (take (length (ys ++ drop count out) - count) (drop count (ys ++ drop count out)))
          → put_mid count (length (ys ++ drop count out) - count) (ys ++ drop count out) zs ≡ cond u (padded (length out) (numbers_of_of (fields_at count s at))) out
      by_limit true e z = front_filled ys zs e n z
      by_limit false e z =
          let q : zs ≡ drop count out = z ∙ rw (m, drop_at ys (drop count out) count c) (take_all (length (drop count out)) (drop count out) (omega arith)) in
          rw (m, take_at ys (drop count out) count c, drop_at ys (drop count out) count c, drop-length (drop count out), q, append-nil)
          (ap (λ (l : List ℕ). l ++ drop count out) e ∙ take-append-drop count out)

-- ---- zeros behind, if a list is to take them
pub clear_kept : (t : Bool) (l zs : List ℕ) → t ≡ true → zs ≡ replicate (length l) 0 → zs ≡ cond t (replicate (length l) 0) l
clear_kept t l zs e f = rw e f
