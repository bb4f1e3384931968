-- A line that is too long, and an empty one, are malformed.
use Rattle.std.proofs.Common.{rules}
use Rattle.street_orders.proofs.Ordering.{leads_long, leads_empty}
use Rattle.street_orders.proofs.late.Goals as goal
use Rattle.street_orders.proofs.late.Goals.{then-line-gt-LONGEST_LINE-via-then-line-gt-LONGEST_LINE, then-line-gt-LONGEST_LINE-via-else-line-gt-LONGEST_LINE+then-is_empty}

ruleset ends = (rules, leads_long, leads_empty)

pub returns-then-line-gt-LONGEST_LINE : goal.returns-then-line-gt-LONGEST_LINE
returns-then-line-gt-LONGEST_LINE c =
    elim c.then-line-gt-LONGEST_LINE.branch [
      | then-line-gt-LONGEST_LINE-via-then-line-gt-LONGEST_LINE w ↦ search ends
      | then-line-gt-LONGEST_LINE-via-else-line-gt-LONGEST_LINE+then-is_empty w ↦ search ends
    ]
