use Rattle.std.proofs.Common.{rules}
use Rattle.factory.proofs.Dealer.{number_refused}
use Rattle.factory.proofs.dealer_number.Goals as goal

pub returns-in-Err : goal.returns-in-Err
returns-in-Err c = search (rules, number_refused)
