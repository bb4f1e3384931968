-- `agreement::fits` meets its contract.
use borrow.Author.Rules.{rules}
use Rattle.agreement.proofs.Fitting.{part_elements, fits_beyond, fits_by}
use Rattle.agreement.proofs.fits.Goals as goal

ruleset fit = (rules, fits_beyond, fits_by)

ruleset sums = (rules, part_elements)

pub returns-then-y-ge-P : goal.returns-then-y-ge-P
returns-then-y-ge-P c = search fit

pub weigh_elements-top-requires : goal.weigh_elements-top-requires
weigh_elements-top-requires c = search sums

pub weigh_elements-bottom-requires : goal.weigh_elements-bottom-requires
weigh_elements-bottom-requires c = search sums

pub returns : goal.returns
returns c = search fit
