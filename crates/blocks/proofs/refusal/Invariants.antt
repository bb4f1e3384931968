-- `refusal`: what the blocks from j on say, all say.
use Prim.Native.Nat.{◌+◌, ◌-◌, ◌≤◌}
use mathlib.Core.Path.{◌≡◌}
use Rattle.blocks.specs.Blocks.{bad_blocks, bad_record}
use Rattle.blocks.proofs.refusal.Given as goal

abbrev pub invariant-loop-j : goal.invariant-loop-j
invariant-loop-j l =
    (1 ≤ l.j) × (l.j ≤ l.fn.party.shape.n + 1) × (bad_blocks l.fn.party l.blocks l.j (l.fn.party.shape.n + 1 - l.j) ≡ bad_record l.fn.party l.blocks)
