-- `add_terms`: what is done with the terms that are left leads to what is done with all of them.
use mathlib.Core.Path.{◌≡◌}
use lib.ListN.{length}
use Rattle.relation.proofs.Loops.{walked, Leads}
use Rattle.relation_writing.proofs.Summing.{term_in}
use Rattle.relation_writing.proofs.add_terms.Given as goal

abbrev pub invariant-loop-term : goal.invariant-loop-term
invariant-loop-term l =
    (length l.rows ≡ length l.initial.rows)
    × Leads (term_in l.session l.dest) l.terms l.rows l.term-index (walked (term_in l.session l.dest) 0 l.terms l.initial.rows)
