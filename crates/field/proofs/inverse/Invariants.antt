-- x times `scale` is u modulo p, and u is neither 0 nor p.
use Rattle.std.proofs.Common.{◌≡◌, ◌<◌, ◌%◌}
use Rattle.field.specs.Modulus.{p}
use Rattle.field.specs.Arithmetic.{product}
use Rattle.field.proofs.inverse.Given as goal

abbrev pub invariant-loop-u : goal.invariant-loop-u
invariant-loop-u l = (0 < l.x % p) × (0 < l.u) × (l.u < p) × (l.scale < p) × (product l.x l.scale ≡ l.u)

abbrev pub decreases-loop-u : goal.decreases-loop-u
decreases-loop-u l = l.u
