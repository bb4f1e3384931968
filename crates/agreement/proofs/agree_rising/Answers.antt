-- `agreement::agree_rising` meets its contract.
use mathlib.Core.List.{[]}
use borrow.Author.Rules.{rules}
use Rattle.agreement.proofs.Joined.{reached_of, all_agreed}
use Rattle.agreement.proofs.agree_rising.Goals as goal

pub all_fit-requires : goal.all_fit-requires
all_fit-requires c =
    let l = c.lay in
    (c.requires.1.table, search rules, search rules, reached_of _ _ _ _ _ _ _ _ _ c.requires.0 c.requires.1 [] _ l.ensures.1)

pub returns : goal.returns
returns c = search (rules, all_agreed)
