-- `take_lines` meets its contract. What the calls ensured and the tests lie too deep for `search` to find.
use Rattle.std.proofs.Common.{rules, ap, length, ◌<◌, ◌≤◌}
use Rattle.street_transcript.proofs.Looping.{midway_done, midway_line, chunk_behind, chunk_within, chunk_less, chunk_part, midway_len, midway_kept, midway_accepted, midway_numbers}
use Rattle.street_transcript.proofs.Turning.{last_whole, again_begun, again_seen, again_changed, came_alone, came_finish, came_change}
use Rattle.street_transcript.proofs.take_lines.Goals as goal
use Rattle.street_transcript.proofs.take_lines.Goals.{in-65, in-70, in-83, in_default}

pub slice_bounds-read_part-end : goal.slice_bounds-read_part-end
slice_bounds-read_part-end c =
    let z = c.loop-i-test.true in
    let e = c.line_end-end.ensures in
    search (rules, chunk_behind _ _ _ z e, chunk_within _ _ _ z e)

pub read_part-part-requires : goal.read_part-part-requires
read_part-part-requires c =
    let inv = c.loop-i.invariant in
    let z = c.loop-i-test.true in
    let e = c.line_end-end.ensures in
    (midway_len _ _ _ _ _ _ _ _ _ _ _ _ _ _ inv z _ e, midway_kept _ _ _ _ _ _ _ _ _ _ _ _ _ _ inv z _ e, chunk_part _ _ _ z e, midway_accepted _ _ _ _ _ _ _ _ _ _ _ _ _ _ inv z _ e _ c.shape-shape.ensures, midway_numbers _ _ _ _ _ _ _ _ _ _ _ _ _ _ inv z _ e)

pub loop-i-smaller-then-changes : goal.loop-i-smaller-then-changes
loop-i-smaller-then-changes c = chunk_less _ _ _ c.loop-i-test.true c.line_end-end.ensures

pub loop-i-smaller-else-changes : goal.loop-i-smaller-else-changes
loop-i-smaller-else-changes c = chunk_less _ _ _ c.loop-i-test.true c.line_end-end.ensures

pub loop-i-smaller : goal.loop-i-smaller
loop-i-smaller c = chunk_less _ _ _ c.loop-i-test.true c.line_end-end.ensures

pub loop-i-preserved-then-changes : goal.loop-i-preserved-then-changes
loop-i-preserved-then-changes c =
    let inv = c.loop-i.invariant in
    let z = c.loop-i-test.true in
    let e = c.line_end-end.ensures in
    let d = c.shape-shape.ensures in
    let rp = c.read_part-part in
    let pr = rp.ensures in
    let cl = c.change_line-head in
    let v = cl.ensures in
    let goes = again_changed _ _ _ _ _ _ _ _ _ _ _ _ _ _ inv z _ e _ d _ _ _ pr rp.auto.line rp.auto.numbers c.if-part.true _ c.changes.ensures c.if-changes.true in
    elim c.match-letter.branch [
      | in-65 w ↦ goes _ _ _ (came_alone _ _ _ _ _ _ _ _ _ _ w.last-is w.admit-last.ensures w.store-is) (ap length w.masks-is) _ _ v.0 v.1 (ap length w.store-is) cl.auto.out
      | in-70 w ↦ goes _ _ _ (came_finish _ _ _ _ _ _ _ _ _ _ w.last-is _ w.finish-last.ensures w.store-is) (ap length w.masks-is) _ _ v.0 v.1 (rw w.store-is w.finish-last.auto.store) cl.auto.out
      | in-83 w ↦ goes _ _ _ (came_alone _ _ _ _ _ _ _ _ _ _ w.last-is w.start-last.ensures w.store-is) (ap length w.masks-is) _ _ v.0 v.1 (ap length w.store-is) cl.auto.out
      | in_default w ↦ goes _ _ _ (came_change _ _ _ _ _ _ _ _ _ _ w.last-is _ _ w.change-last.ensures w.store-is w.masks-is) (rw w.masks-is w.change-last.auto.masks) _ _ v.0 v.1 (rw w.store-is w.change-last.auto.store) cl.auto.out
    ]

pub loop-i-preserved-else-changes : goal.loop-i-preserved-else-changes
loop-i-preserved-else-changes c =
    let inv = c.loop-i.invariant in
    let z = c.loop-i-test.true in
    let e = c.line_end-end.ensures in
    let d = c.shape-shape.ensures in
    let rp = c.read_part-part in
    let pr = rp.ensures in
    let ll = c.look_line-head in
    again_seen _ _ _ _ _ _ _ _ _ _ _ _ _ _ inv z _ e _ d _ _ _ pr rp.auto.line rp.auto.numbers c.if-part.true _ c.changes.ensures c.if-changes.false _ _ _ ll.ensures ll.auto.store ll.auto.out

pub loop-i-preserved : goal.loop-i-preserved
loop-i-preserved c =
    let inv = c.loop-i.invariant in
    let z = c.loop-i-test.true in
    let e = c.line_end-end.ensures in
    let d = c.shape-shape.ensures in
    let rp = c.read_part-part in
    let pr = rp.ensures in
    again_begun _ _ _ _ _ _ _ _ _ _ _ _ _ _ inv z _ e _ d _ _ _ pr rp.auto.line rp.auto.numbers c.if-part.false

pub returns-clause-out_after : goal.returns-clause-out_after
returns-clause-out_after c =
    midway_done _ _ _ _ _ _ _ _ _ _ _ _ _ _ c.loop-i.invariant _ _ (last_whole _ _ c.unchanged-last.ensures _ c.head-head.ensures) c.whole.ensures c.loop-i-test.false

pub returns-clause-line_after : goal.returns-clause-line_after
returns-clause-line_after c =
    midway_line _ _ _ _ _ _ _ _ _ _ _ _ _ _ c.loop-i.invariant _ _ (last_whole _ _ c.unchanged-last.ensures _ c.head-head.ensures) c.whole.ensures c.loop-i-test.false
