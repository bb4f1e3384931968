-- Between the functions of the code: what a chunk leaves. No theorem is stated with these.
use Rattle.std.specs.Prelude.{ℕ, ◌+◌, ◌≡◌, List, length, take}
use Rattle.street_feeds.specs.Program.{Running, fed, drained}
use Rattle.street_port.specs.declared.Printed.{Printed}
use Rattle.street_port.specs.Counts.{wrapped}

-- These answers stand at the list's start, and that many bytes were handed to standard output behind those before.
pub record Handed (answers out : List ℕ) (before after : Printed) : Type 0 where
  pub first : take (length answers) out ≡ answers
  pub count : after.total ≡ wrapped (before.total + length answers)

-- A chunk was taken, and as many bytes as its answers have were handed to print.
pub record Answered (p q : Running) (chunk out : List ℕ) (before after : Printed) : Type 0 where
  pub taken : q ≡ drained (fed p chunk)
  pub handed : Handed (fed p chunk).out out before after
