use Rattle.std.proofs.Common.{rules}
use Rattle.packlines.proofs.Spelt.{some_laid}
use Rattle.packlines.proofs.put_line.Goals as goal

pub returns-clause-out_after : goal.returns-clause-out_after
returns-clause-out_after c = search (rules, some_laid)
