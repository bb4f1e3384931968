-- A turn reads one field more of the same line, and puts its number's lowest bits into the room.
use Rattle.std.proofs.Common.{◌≡◌, ◌≤◌, ◌-◌, length, ap, sym, ◌∙◌, arith}
use Rattle.csv_fields.specs.Fields.{fields_at, run_from}
use Rattle.csv_fields.proofs.Passing.{step_line, step_none, step_more}
use Rattle.csv_fields.proofs.Rooming.{room_none, room_more, room_filled}
use Rattle.csv_fields.proofs.Single.{larger_is}
use Rattle.csv_fields.proofs.read_part.Goals as goal

pub returns-in_err-field : goal.returns-in_err-field
returns-in_err-field c =
    let i = c.loop-place.invariant in
    let e = c.next_field.ensures in
    let none = step_none _ _ _ _ i.line e.field e.moved c.loop-place.place-index (length c.args.room.now) 0 (omega arith) c.in_err-field.was in
    let told = sym (ap (run_from c.loop-place.so_far) none) ∙ i.leads in
    (c.from_residual.ensures ∙ told, room_none _ _ _ told)

pub loop-place-preserved : goal.loop-place-preserved
loop-place-preserved c =
    let i = c.loop-place.invariant in
    let e = c.next_field.ensures in
    record {
      line = step_line _ _ _ _ i.line e.field e.moved;
      leads =
          step_more _ _ _ _ i.line e.field e.moved _ _ _ (omega arith) _ _ c.in_ok-field.was (larger_is c.loop-place.so_far c.in_ok-field.field.value _ c.max-so_far.ensures)
          ∙ i.leads;
      says = room_more _ _ _ _ i.line e.field e.moved _ _ _ _ (omega arith) (omega arith) c.in_ok-field.was ∙ i.says;
    }

pub returns : goal.returns
unfolding fields_at
returns c =
    let i = c.loop-place.invariant in
    let z : length c.args.room.now - c.loop-place.place-index ≡ 0 = omega arith in
    let h : length c.loop-place.room ≤ c.loop-place.place-index = omega arith in
    (rw z at i.leads, room_filled c.args.line.now c.loop-place.room c.loop-place.reader.at c.loop-place.place-index _ h (rw z at i.says))
