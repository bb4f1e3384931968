-- Masks keep to the law of every call.
use native.Mathlib.Omega.{arith}
use Rattle.session.specs.Sessions.{masked_triple}
use Rattle.session.proofs.Lawful.{lawful_by}
use Rattle.product_masks.specs.Masks.{masks_refusal_of, mask_numbers_of}
use Rattle.product_masks.specs.Claims.{MasksLawful}
use Rattle.product_masks.proofs.Tables.{masks_table_is}

pub masks_lawful : MasksLawful
unfolding masks_refusal_of
masks_lawful s rows a b r out =
    lawful_by (masks_table_is s rows a b r out) (omega arith) 0 (masked_triple s r a b) s (mask_numbers_of s rows a b r) out
