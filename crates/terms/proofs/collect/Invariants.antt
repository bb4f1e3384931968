-- What is left to place leads to what the contract says.
use Rattle.std.proofs.Common.{◌≡◌, ◌-◌, ◌≤◌, length, drop}
use Rattle.terms.specs.Listed.{collected}
use Rattle.terms.proofs.Placing.{filled}
use Rattle.terms.proofs.collect.Given as goal

abbrev pub invariant-loop-i : goal.invariant-loop-i
invariant-loop-i l =
    record {
      within : l.i ≤ length l.terms;
      few : l.all.products ≤ l.i;
      leads : filled l.all l.i (drop l.i l.terms) ≡ collected l.terms;
    }

abbrev pub decreases-loop-i : goal.decreases-loop-i
decreases-loop-i l = length l.terms - l.i
