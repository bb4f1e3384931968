use Rattle.std.proofs.Common.{rules}
use Rattle.otherdraw.proofs.Moving.{known_nonzero}
use Rattle.otherdraw.proofs.change.change_seen.Goals as goal

pub vanish_at_each-requires : goal.vanish_at_each-requires
vanish_at_each-requires c = search (rules, known_nonzero)
