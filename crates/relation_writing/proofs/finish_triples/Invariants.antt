-- `finish_triples`: what is done with the terms that are left leads to what is done with all of them.
use Rattle.relation.proofs.Loops.{walked, Leads}
use Rattle.relation_writing.proofs.Summing.{finish_in}
use Rattle.relation_writing.proofs.finish_triples.Given as goal

abbrev pub invariant-loop-k : goal.invariant-loop-k
invariant-loop-k l =
    Leads (finish_in l.opened.y_a l.opened.y_b) l.term-items l.now l.k (walked (finish_in l.opened.y_a l.opened.y_b) 0 l.term-items l.initial.now)
