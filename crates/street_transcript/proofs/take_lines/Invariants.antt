-- What `take_lines` keeps between lines, and how far it has come.
use Rattle.std.proofs.Common.{◌-◌, length}
use Rattle.street_feeds.specs.Between.{feed_of}
use Rattle.street_transcript.proofs.Looping.{Midway}
use Rattle.street_transcript.proofs.take_lines.Given as goal

abbrev pub invariant-loop-i : goal.invariant-loop-i
invariant-loop-i l =
    Midway l.closing (feed_of l.initial.last.session l.initial.head) l.initial.store l.initial.line l.chunk l.initial.out l.last.session l.head
    l.store l.line l.out l.numbers l.masks l.i

abbrev pub decreases-loop-i : goal.decreases-loop-i
decreases-loop-i l = length l.chunk - l.i
