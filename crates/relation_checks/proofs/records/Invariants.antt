-- `records`: the records that are left decide.
use Rattle.relation_checks.proofs.Pairs.{Heard}
use Rattle.relation_checks.proofs.records.Given as goal

abbrev pub invariant-loop-k : goal.invariant-loop-k
invariant-loop-k l = Heard l.session l.blocks l.k-end l.k
