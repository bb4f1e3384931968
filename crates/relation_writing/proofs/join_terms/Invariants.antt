-- `join_terms`: what is done with the terms that are left leads to what is done with all of them.
use mathlib.Core.Path.{◌≡◌}
use lib.ListN.{length}
use Rattle.relation.proofs.Loops.{walked, Leads}
use Rattle.relation_writing.proofs.Summing.{share_in}
use Rattle.relation_writing.proofs.join_terms.Given as goal

abbrev pub invariant-loop-term : goal.invariant-loop-term
invariant-loop-term l =
    (length l.sets ≡ length l.initial.sets)
    × Leads (share_in l.dest) l.term-items l.sets l.term-index (walked (share_in l.dest) 0 l.term-items l.initial.sets)
