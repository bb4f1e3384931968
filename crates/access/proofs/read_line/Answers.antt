-- A row, and the posts behind it.
use Rattle.access.proofs.Reading.{line_right}
use Rattle.access.proofs.read_line.Goals as goal

pub returns-in-Some : goal.returns-in-Some
returns-in-Some c = line_right c.args.line.now c.args.n c.read_posts.result c.if-line-ne65.false c.in-Some.row c.in-Some.ensures c.read_posts.ensures
