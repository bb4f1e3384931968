-- `barycentric::at_zero_rising` meets its contract.
use borrow.Author.Rules.{rules}
use Rattle.barycentric.proofs.Zero.{gaps_within, zero_found}
use Rattle.barycentric.proofs.at_zero_rising.Goals as goal

pub inverse_product-requires : goal.inverse_product-requires
inverse_product-requires c =
    let w = c.weigh_rising in
    (search rules, gaps_within _ _ _ _ c.requires.0 w.new.gaps w.ensures.0)

pub returns : goal.returns
returns c = (search (rules, zero_found), search rules)
