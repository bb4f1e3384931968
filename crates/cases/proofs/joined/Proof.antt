-- `joined` stays within its arrays.
use Prim.Native.Nat.{◌≤◌, ◌-◌}
use native.Mathlib.Omega.{arith}
use Rattle.cases.proofs.joined.Statement.{statement}
use Rattle.cases.proofs.joined.Tie as tie

abbrev invariant-loop-i : tie.invariant-loop-i
invariant-loop-i l m n pack₀ i₀ pack i = i ≤ 8

abbrev decreases-loop-i : tie.decreases-loop-i
decreases-loop-i l m n pack₀ i₀ pack i = 8 - i

pub joined_spec : {M : Type 1} → statement M
joined_spec =
    tie.close
    (tie.spec invariant-loop-i decreases-loop-i (λ c. omega arith) (λ c. omega arith) (λ c. omega arith) (λ c. omega arith) (λ c. omega arith)
    (λ c. omega arith) (λ c. omega arith) (λ c. omega arith) (λ c. omega arith) (λ c. omega arith) (λ c. omega arith)
    (λ c. omega arith) (λ c. omega arith) (λ c. omega arith) (λ c. omega arith) (λ c. omega arith) (λ c. omega arith)
    (λ c. omega arith) (λ c. omega arith))
