-- Small numbers, so that nothing wraps and no remainder is left out.
use Rattle.std.proofs.Common.{rules}
use Rattle.barycentric.proofs.Pairs.{first_fit, three_fit, spans_none, spans_one, spans_two, spans_three}
use Rattle.barycentric.proofs.few_spans.Goals as goal

pub returns-then-n-eq0 : goal.returns-then-n-eq0
returns-then-n-eq0 c = search (rules, spans_none)

pub returns-then-n-eq1 : goal.returns-then-n-eq1
returns-then-n-eq1 c = search (rules, spans_one)

pub overflow_mul-two : goal.overflow_mul-two
overflow_mul-two c = record { fits = search (rules, first_fit) }

pub returns-then-n-eq2 : goal.returns-then-n-eq2
returns-then-n-eq2 c = search (rules, spans_two)

pub overflow_mul-result : goal.overflow_mul-result
overflow_mul-result c = record { fits = search (rules, three_fit) }

pub returns : goal.returns
returns c = search (rules, spans_three)
