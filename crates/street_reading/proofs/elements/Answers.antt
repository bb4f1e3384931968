-- The fields are there, with an element in each or not; or they are not.
use Rattle.std.proofs.Common.{arith, ◌≤◌, ◌<◌}
use Rattle.field.specs.Modulus.{p}
use Rattle.street_reading.proofs.Scanned.{elements_broken, element_beyond, elements_fine, elements_taken, taken_ten, taken_eleven}
use Rattle.street_reading.proofs.elements.Goals as goal

pub returns-then-from-run : goal.returns-then-from-run
returns-then-from-run c =
    let g : p ≤ c.in-Some.run'.largest = omega (arith, c.from.ensures, c.if-from-run.true) in
    (element_beyond _ c.args.out.now _ c.last_fields.ensures.0 _ c.in-Some.is g, taken_eleven _ _ _)

pub returns-else-from-run : goal.returns-else-from-run
returns-else-from-run c =
    let e = c.last_fields.ensures in
    let g : c.in-Some.run'.largest < p = omega (arith, c.from.ensures, c.if-from-run.false) in
    (elements_fine _ c.args.out.now _ e.0 _ c.in-Some.is g, elements_taken _ c.args.out.now _ e.0 _ c.in-Some.is g _ e.1)

pub returns-in-None : goal.returns-in-None
returns-in-None c = (elements_broken _ c.args.out.now _ c.last_fields.ensures.0 c.in-None.is, taken_ten _ _ _)
