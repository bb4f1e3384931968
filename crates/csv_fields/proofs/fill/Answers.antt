-- `fill` meets its contract: numbers that fit are their lowest bits.
use Rattle.csv_fields.specs.Fields.{fields_at}
use Rattle.std.proofs.Common.{length}
use Rattle.csv_fields.proofs.Rooming.{roomed_fill}
use Rattle.csv_fields.proofs.fill.Goals as goal

pub returns : goal.returns
returns c = roomed_fill (fields_at (length c.args.out.now) c.args.line.now c.args.at) c.read_part.new.room c.read_part.ensures.1 c.requires
