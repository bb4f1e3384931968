-- `start` reads only where the header was taken. What `begin` ensured lies too deep for `search` to find.
use Rattle.street_console.proofs.Beginning.{none_read}
use Rattle.street_console.proofs.start.Goals as goal

pub returns : goal.returns
returns g c = none_read c.begin-header.result _ c.total.ensures c.begin-header.ensures.total
