-- Where none are further, all agree.
use Rattle.std.proofs.Common.{rules}
use Rattle.agreement.proofs.Joined.{none_further, weighed_of}
use Rattle.agreement.proofs.through_rising.Goals as goal
use Rattle.agreement.proofs.through_rising.Goals.{then-is_empty, else-is_empty}

pub agree_rising-requires : goal.agree_rising-requires
agree_rising-requires c = (search (rules, weighed_of), search rules)

pub returns-then-agree_rising : goal.returns-then-agree_rising
returns-then-agree_rising c =
    elim c.if-is_empty.branch [ then-is_empty w ↦ (search rules, search (rules, none_further)) | else-is_empty w ↦ (search rules, cc) ]
