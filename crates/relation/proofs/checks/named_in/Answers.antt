-- `named_in` meets its contract.
use mathlib.Core.Path.{◌≡◌}
use mathlib.Core.Logic.{◌≢◌}
use borrow.Author.Rules.{rules}
use borrow.Author.Tests.{tests}
use Rattle.std.proofs.lemmas.Iterator.{cases_from_any, YieldsList-from_slice}
use Rattle.terms.specs.declared.Term.{Term}
use Rattle.relation.proofs.Found.{named}
use Rattle.relation.proofs.checks.named_in.Goals as goal

pub returns : goal.returns
returns c =
    let row = c.args.row in
    named row c.args.factors.now _
    (cases_from_any _ _ _ (λ (t : Term). t.first ≡ row) (λ (t : Term). t.first ≢ row) c.any.ensures.ran (YieldsList-from_slice c.args.factors.now cc)
    (λ t q k. search (rules, tests)) (λ t q k. search (rules, tests)))
