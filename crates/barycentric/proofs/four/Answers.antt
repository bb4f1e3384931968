-- `barycentric::four` meets its contract: small numbers, so that nothing wraps.
use Prim.Native.Nat.{◌*◌}
use mathlib.Core.Path.{ap₂}
use Rattle.barycentric.proofs.Pairs.{four_fit}
use Rattle.barycentric.proofs.four.Goals as goal

pub overflow_mul-result : goal.overflow_mul-result
overflow_mul-result c =
    record {
      fits = four_fit c.args.x c.requires.0 _ _ _ _ _ _ _ _ c.requires.1 c.requires.2 c.requires.3 c.requires.4
          c.away.ensures c.away-2.ensures c.away-3.ensures c.away-4.ensures;
    }

pub returns : goal.returns
returns c =
    ap₂ ◌*◌ (ap₂ ◌*◌ c.away.ensures c.away-2.ensures)
    (ap₂ ◌*◌ c.away-3.ensures c.away-4.ensures)
