-- `named_twice` meets its contract: one term names the triple of one behind it, or the terms behind it decide.
use Rattle.std.proofs.lemmas.List.{take_rest}
use Rattle.terms.specs.Listed.{factors_of}
use Rattle.relation.proofs.Naming.{twice_here, twice_on}
use Rattle.relation.proofs.checks.named_twice.Goals as goal

pub returns-then-named_in : goal.returns-then-named_in
returns-then-named_in c = twice_here (factors_of c.args.all) c.loop-i.i _ c.loop-i.invariant c.loop-i-test.true _ (rw take_rest at c.named_in.ensures) c.if-named_in.true

pub loop-i-preserved : goal.loop-i-preserved
loop-i-preserved c = twice_on (factors_of c.args.all) c.loop-i.i _ c.loop-i.invariant c.loop-i-test.true _ (rw take_rest at c.named_in.ensures) c.if-named_in.false
