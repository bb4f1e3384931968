-- The two loads keep to the law of every call.
use native.Mathlib.Omega.{arith}
use Rattle.shape.specs.Marks.{raw}
use Rattle.session.specs.Sessions.{marked, loaded_triple}
use Rattle.session.specs.Rows.{width, with_row}
use Rattle.session.proofs.Lawful.{lawful_by}
use Rattle.load.specs.Load.{load_row_refusal_of, load_triple_refusal_of, with_triple}
use Rattle.load.specs.Claims.{LoadLawful}
use Rattle.load.proofs.Tables.{load_tables}

pub load_lawful : LoadLawful
unfolding load_row_refusal_of load_triple_refusal_of
load_lawful = record {
  load_row = λ s rows r pack.
      lawful_by (load_tables.load_row s rows r pack) (omega arith) 0 (marked s r raw) s (with_row (width s) r pack rows) rows;
  load_triple_is = λ s rows r pack.
      lawful_by (load_tables.load_triple_is s rows r pack) (omega arith) 0 (loaded_triple s r) s
      (with_triple (width s) r pack rows) rows;
}
