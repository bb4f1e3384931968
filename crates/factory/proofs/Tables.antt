-- The tests of the factory's calls are document 01's table.
use mathlib.Core.Path.{refl}
use Rattle.refusal.proofs.Figures.{beyond_figures}
use Rattle.factory.specs.Table.{FactoryTables}

pub factory_tables : FactoryTables
factory_tables = record {
  row = λ n t points ws draw out. refl;
  triple = λ n t points ws draw out. refl;
  dealer = λ u constant. rw (beyond_figures u, beyond_figures constant);
}
