-- The bytes that are commas.
use Rattle.std.proofs.Common.{◌≡◌, ◌∙◌, sym, rules}
use Rattle.std.specs.Prelude.{◌==◌, count_by}
use Rattle.access.proofs.Walking.{commas_counted}
use Rattle.access.proofs.commas.Goals as goal

pub returns : goal.returns
returns c =
    let e : c.count.result ≡ count_by (λ b. b == 44) c.args.line.now = search rules in
    e ∙ sym (commas_counted c.args.line.now)
