-- `change_vs` meets its contract: what is written, and the v's from the i-th on, make them all.
use Prim.Native.Nat.{◌+◌, ◌*◌, ◌-◌, ◌≤◌}
use mathlib.Core.Path.{◌≡◌}
use lib.ListN.{length}
use borrow.Author.Rules.{rules}
use Rattle.otherdraw.proofs.Writing.{Standing, vs_start, vs_room, vs_fits, vs_next, vs_turn, vs_kept, vs_end}
use Rattle.otherdraw.proofs.change.change_vs.Statement.{statement}
use Rattle.otherdraw.proofs.change.change_vs.Tie as tie

abbrev invariant-loop-i : tie.invariant-loop-i
invariant-loop-i n first delta posts root factor draw powers₀ out₀ at₀ next₀ i₀ powers out at next i =
    (i ≤ n) × (at ≡ first + i * length factor) × (length powers ≡ length powers₀) × (length draw ≡ length out)
    × Standing n (length factor) root factor delta draw first out₀ out at i

abbrev decreases-loop-i : tie.decreases-loop-i
decreases-loop-i n first delta posts root factor draw powers₀ out₀ at₀ next₀ i₀ powers out at next i = n - i

ruleset turns = (rules, vs_start, vs_room, vs_fits)

loop_again : tie.Need-loop-i-preserved invariant-loop-i decreases-loop-i
loop_again c = (search rules, search (rules, vs_next), search rules, search (rules, vs_kept, vs_room), search (rules, vs_turn, vs_room))

pub change_vs_spec : {M : Type 1} → statement M
change_vs_spec =
    tie.close
    (tie.spec invariant-loop-i decreases-loop-i (λ c. search turns) (λ c κs. search turns) (λ c. search turns) (λ c. search turns) (λ c. search turns) loop_again
    (λ c. search turns) (λ c. search turns) (λ c. search (rules, vs_end)))
