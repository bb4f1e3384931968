-- `barycentric::distances` meets its contract.
use borrow.Author.Rules.{rules}
use Rattle.barycentric.proofs.Pairs.{front_small, front_few, spans_below}
use Rattle.barycentric.proofs.distances.Goals as goal

pub few_spans-requires : goal.few_spans-requires
few_spans-requires c = (search rules, search (rules, front_small), search (rules, front_few))

pub mirrored-requires : goal.mirrored-requires
mirrored-requires c = rw c.few_spans.ensures (spans_below _ _)
