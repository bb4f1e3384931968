-- `mask` meets its contract.
use borrow.Author.Rules.{rules}
use Rattle.street_states.proofs.Calling.{shape_valid, rows_in, rows_prefix, masks_in, masks_prefix, masks_length_is}
use Rattle.street_finishlines.proofs.Masking.{rows_stop, masked}
use Rattle.street_finishlines.proofs.masks.mask.Statement.{statement}
use Rattle.street_finishlines.proofs.masks.mask.Tie as tie

ruleset ends = (rules, shape_valid, rows_in, rows_prefix, masks_in, masks_prefix, masks_length_is, rows_stop, masked)

pub mask_spec : {M : Type 1} → statement M
mask_spec =
    tie.close
    (tie.spec (λ c κs. search ends) (λ c κs. search ends) (λ c κs. search ends) (λ c. search ends)
    (λ c κs. search ends) (λ c. search ends) (λ c κs. search ends) (λ c. search ends) (λ c κs. search ends)
    (λ c. search ends) (λ c. search ends) (λ c. search ends) (λ c κs. search ends) (λ c. search ends)
    (λ c. search ends))
