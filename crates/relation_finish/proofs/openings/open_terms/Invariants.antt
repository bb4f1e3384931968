-- `openings::open_terms`: what is opened of the terms that are left leads to what is opened of all of them.
use Rattle.relation.proofs.Loops.{walked, Leads}
use Rattle.relation_finish.specs.Steps.{with_opened, unopened}
use Rattle.relation_finish.proofs.openings.open_terms.Given as goal

abbrev pub invariant-loop-k : goal.invariant-loop-k
invariant-loop-k l =
    Leads (with_opened l.session l.rows l.blocks) l.term-items l.opened l.k (walked (with_opened l.session l.rows l.blocks) 0 l.term-items unopened)
