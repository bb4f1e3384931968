use Rattle.std.proofs.Common.{rules}
use Rattle.otherdraw.proofs.Asking.{other_went_on}
use Rattle.otherdraw.proofs.checks.other_refusal.Goals as goal

pub returns : goal.returns
returns c = search (rules, other_went_on)
