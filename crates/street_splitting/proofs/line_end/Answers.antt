-- A line feed ends the line, and so does the chunk's end.
use Rattle.std.proofs.Common.{rules, ◌∙◌}
use Rattle.street_splitting.proofs.Segments.{segment_end, segment_more, segment_last}
use Rattle.street_splitting.proofs.line_end.Goals as goal

ruleset ends = (rules, segment_end, segment_more)

pub loop-i-preserved : goal.loop-i-preserved
loop-i-preserved c = search ends

pub returns-then-chunk-i-eq10 : goal.returns-then-chunk-i-eq10
returns-then-chunk-i-eq10 c = search ends

pub returns : goal.returns
returns c =
    let l = c.loop-i in
    c.max.ensures ∙ segment_last _ _ _ l.invariant c.loop-i-test.false l.auto.i-end
