-- By unfolding.
use mathlib.Core.Path.{refl}
use Rattle.opening.specs.Long.{RecordLong}

pub record_long : RecordLong
record_long s = refl
