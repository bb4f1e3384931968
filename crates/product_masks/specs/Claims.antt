-- Demand 1 of masks, with document 01's table for its tests; proved in proofs/Theorems.antt.
use Rattle.std.specs.Prelude.{ℕ, List}
use Rattle.session.specs.declared.Session.{Session}
use Rattle.session.specs.Sessions.{marked, remembering}
use Rattle.session.specs.Law.{Lawful}
use Rattle.product_masks.specs.Masks.{masks_answer, mask_numbers_of, masks_out_of}
use Rattle.product_masks.specs.Table.{masks_table}

abbrev pub MasksLawful : Type 0
MasksLawful =
    (s : Session) (rows : List ℕ) (a b r : ℕ) (out : List ℕ)
    → Lawful (masks_table s rows a b r out) 0 (remembering (marked s r 5) r a b) s (mask_numbers_of s rows a b r) out
    (masks_answer s rows a b r out) (masks_out_of s rows a b r out)
