-- `settle` meets its contract.
use borrow.Author.Rules.{rules}
use Rattle.walk.proofs.Settles.{behind_in, reached_in, opens_agreed}
use Rattle.walk.proofs.settle.Goals as goal

pub walk_further-count-requires : goal.walk_further-count-requires
walk_further-count-requires c = (search rules, search (rules, behind_in))

pub agreed-requires : goal.agreed-requires
agreed-requires c = (search (rules, reached_in), search rules)

pub returns-in-Some : goal.returns-in-Some
returns-in-Some c =
    let need = c.needed-first in
    let more = c.walk_further-count in
    opens_agreed _ _ _ _ _ c.in-Some.is _ _ c.requires.1 _ need.ensures _ _ _ more.ensures _ c.agreed.ensures
