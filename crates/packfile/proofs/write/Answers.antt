use Rattle.std.proofs.Common.{ap}
use Rattle.refusal.specs.Numbers.{refused}
use Rattle.packfile.proofs.Asking.{given_passed}
use Rattle.packfile.proofs.write.Goals as goal

pub write_given-requires : goal.write_given-requires
write_given-requires c =
    given_passed _ _ _ _ c.args.ws.now _ _ _ c.refusal-checked.ensures (ap refused c.in-Ok.is) _ c.points_at-w.ensures
