-- `remember_all`: what is done with the product terms that are left leads to what is done with all of them.
use Rattle.relation.proofs.Loops.{walked, Leads}
use Rattle.relation_masks.proofs.Remembering.{remember_in}
use Rattle.relation_masks.proofs.remember_all.Given as goal

abbrev pub invariant-loop-term : goal.invariant-loop-term
invariant-loop-term l = Leads remember_in l.term-items l.now l.term-index (walked remember_in 0 l.term-items l.initial.now)
