-- `write_masks` meets its contract.
use Prim.Native.Nat.{ℕ, ◌*◌}
use mathlib.Core.Path.{◌≡◌, sym, ◌∙◌, ap}
use native.Mathlib.Omega.{arith}
use lib.ListN.{length}
use lib.Seq.{length-take-le}
use borrow.Author.Rules.{rules}
use Rattle.shape.specs.Lengths.{masks_length}
use Rattle.terms.specs.Listed.{most_terms, factors_of}
use Rattle.relation.specs.Tests.{Factors}
use Rattle.relation.proofs.Loops.{goes, gone, every_at}
use Rattle.relation_masks.proofs.Parts.{mask_in, part_room, part_kept, masks_walk}
use Rattle.relation_masks.proofs.write_masks.Goals as goal

pub write_mask-requires : goal.write_mask-requires
write_mask-requires c =
    let q = c.loop-i in
    let k : length c.args.all.factors ≡ most_terms = search rules in
    let m : length (factors_of c.args.all) ≡ c.args.all.products = length-take-le _ _ (omega (arith, c.requires.1.products_in)) in (
      c.requires.0,
      every_at (Factors c.args.shape) (factors_of c.args.all) q.i c.loop-i-test.true c.requires.2,
      part_room c.args.shape c.args.rows.now c.requires.0 c.args.all.products q.i c.args.out.now q.out (omega (arith, m, c.loop-i-test.true))
          q.invariant.0 c.requires.3,
    )

pub loop-i-preserved : goal.loop-i-preserved
loop-i-preserved c =
    let q = c.loop-i in
    let k : length c.args.all.factors ≡ most_terms = search rules in
    let m : length (factors_of c.args.all) ≡ c.args.all.products = length-take-le _ _ (omega (arith, c.requires.1.products_in)) in
    let f = every_at (Factors c.args.shape) (factors_of c.args.all) q.i c.loop-i-test.true c.requires.2 in (
      part_kept c.args.shape c.args.rows.now c.requires.0 c.args.all.products q.i _ c.args.out.now q.out
          c.write_mask.new.out (omega (arith, m, c.loop-i-test.true)) f q.invariant.0 c.requires.3 c.write_mask.ensures,
      goes (mask_in c.args.shape c.args.rows.now) (factors_of c.args.all) _ _ q.i _ c.loop-i-test.true (search rules) q.invariant.1,
    )

pub returns : goal.returns
returns c =
    let k : length c.args.all.factors ≡ most_terms = search rules in
    let m : length (factors_of c.args.all) ≡ c.args.all.products = length-take-le _ _ (omega (arith, c.requires.1.products_in)) in
    gone (mask_in c.args.shape c.args.rows.now) (factors_of c.args.all) _ c.loop-i.i _ (omega (arith, c.loop-i-test.false)) c.loop-i.invariant.1
    ∙ masks_walk c.args.shape c.args.rows.now c.requires.0 (factors_of c.args.all) c.args.out.now c.requires.2
    (c.requires.3 ∙ ap (λ (j : ℕ). j * masks_length c.args.shape) (sym m))
