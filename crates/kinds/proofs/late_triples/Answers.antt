use Rattle.std.proofs.Common.{rules}
use Rattle.kinds.specs.Kinds.{late}
use Rattle.kinds.proofs.late_triples.Goals as goal

pub returns : goal.returns
unfolding late
returns c = c.refuse_any.ensures late (λ row k ks b q. search rules)
