-- A turn reads one field more of the same line; behind the last nothing is left to say.
use Rattle.std.proofs.Common.{◌≡◌, ◌-◌, ap, sym, ◌∙◌, arith}
use Rattle.csv_fields.specs.Fields.{fields_at, run_from}
use Rattle.csv_fields.proofs.Passing.{step_line, step_none, step_more}
use Rattle.csv_fields.proofs.Single.{larger_is}
use Rattle.csv_fields.proofs.fields_at.Goals as goal

pub returns-in_err-field : goal.returns-in_err-field
returns-in_err-field c =
    let i = c.loop-turn.invariant in
    let e = c.next_field.ensures in
    c.from_residual.ensures
    ∙ sym (ap (run_from c.loop-turn.largest) (step_none _ _ _ _ i.line e.field e.moved _ _ 0 (omega arith) c.in_err-field.was))
    ∙ i.leads

pub loop-turn-preserved : goal.loop-turn-preserved
loop-turn-preserved c =
    let i = c.loop-turn.invariant in
    let e = c.next_field.ensures in
    record {
      line = step_line _ _ _ _ i.line e.field e.moved;
      leads =
          step_more _ _ _ _ i.line e.field e.moved _ _ _ (omega arith) _ _ c.in_ok-field.was (larger_is c.loop-turn.largest c.in_ok-field.field.value _ c.max-largest.ensures)
          ∙ i.leads;
    }

pub returns : goal.returns
unfolding fields_at
returns c =
    let z : c.args.k - c.loop-turn.turn ≡ 0 = omega arith in
    rw z at c.loop-turn.invariant.leads
