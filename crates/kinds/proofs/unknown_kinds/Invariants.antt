-- The answer for the rows from this one on is the answer for all.
use Rattle.std.proofs.Common.{◌≡◌, drop}
use Rattle.kinds.specs.Kinds.{any_row, unknown}
use Rattle.kinds.proofs.unknown_kinds.Given as goal

abbrev pub invariant-loop-kind : goal.invariant-loop-kind
invariant-loop-kind l = any_row unknown l.kind-index (drop l.kind-index l.kinds) ≡ any_row unknown 0 l.kinds
