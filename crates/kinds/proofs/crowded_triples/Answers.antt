use Rattle.std.proofs.Common.{rules}
use Rattle.kinds.specs.Kinds.{crowded}
use Rattle.kinds.proofs.Kinded.{crowded_is}
use Rattle.kinds.proofs.crowded_triples.Goals as goal

pub returns : goal.returns
returns c = c.refuse_any.ensures crowded (λ row k ks b q. rw (← crowded_is row k ks.now) (search rules))
