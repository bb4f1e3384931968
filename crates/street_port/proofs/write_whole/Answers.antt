-- A write takes bytes from the front of what is left.
use Rattle.street_port.proofs.KnownBytes.{written_on}
use Rattle.street_port.proofs.write_whole.Goals as goal

pub loop-left-preserved : goal.loop-left-preserved
loop-left-preserved g c =
    let i = c.loop-left.invariant in
    written_on _ _ _ _ _ _ i.0 i.1 c.in-Ok.ensures.bound i.2 c.in-Ok.ensures.bytes
