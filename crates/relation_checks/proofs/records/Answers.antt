-- `records` meets its contract: one pair's records stop it, or the pairs behind it decide.
use borrow.Author.Rules.{rules}
use Rattle.refusal.proofs.Checks.{not_zero}
use Rattle.relation_checks.proofs.Pairs.{pair_in, heard_stop}
use Rattle.relation_checks.proofs.records.Goals as goal

pub record_numbers-requires : goal.record_numbers-requires
record_numbers-requires c =
    pair_in c.args.session c.args.blocks.now c.args.all.products c.loop-k.k c.requires.0 c.requires.1.products_in c.loop-k-test.true c.requires.2

pub returns-in_err-record_numbers : goal.returns-in_err-record_numbers
returns-in_err-record_numbers c =
    heard_stop c.args.session c.args.blocks.now c.args.all.products c.loop-k.k c.loop-k.invariant c.loop-k-test.true _ (search rules)
    (search (rules, not_zero))
