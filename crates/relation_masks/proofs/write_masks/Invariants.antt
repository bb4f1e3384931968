-- `write_masks`: the list stays as long, and what is done with the product terms that are left leads to what is done with all of them.
use mathlib.Core.Path.{◌≡◌}
use lib.ListN.{length}
use Rattle.relation.proofs.Loops.{walked, Leads}
use Rattle.relation_masks.proofs.Parts.{mask_in}
use Rattle.relation_masks.proofs.write_masks.Given as goal

abbrev pub invariant-loop-i : goal.invariant-loop-i
invariant-loop-i l =
    (length l.out ≡ length l.initial.out)
    × Leads (mask_in l.shape l.rows) l.term-items l.out l.i (walked (mask_in l.shape l.rows) 0 l.term-items l.initial.out)
