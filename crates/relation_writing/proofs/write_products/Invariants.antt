-- `write_products`: what is done with the terms that are left leads to what is done with all of them.
use mathlib.Core.Path.{◌≡◌}
use lib.ListN.{length}
use Rattle.relation.proofs.Loops.{walked, Leads}
use Rattle.relation_writing.proofs.Summing.{product_in}
use Rattle.relation_writing.proofs.write_products.Given as goal

abbrev pub invariant-loop-k : goal.invariant-loop-k
invariant-loop-k l =
    (length l.rows ≡ length l.initial.rows)
    × Leads (product_in l.session l.opened.y_a l.opened.y_b) l.term-items l.rows l.k (walked (product_in l.session l.opened.y_a l.opened.y_b) 0 l.term-items l.initial.rows)
