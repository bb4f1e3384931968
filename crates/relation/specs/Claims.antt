-- Demand 1 of a relation's two calls, on a lent list of terms, with the tables for their tests; proved in proofs/Theorems.antt.
use Rattle.std.specs.Prelude.{ℕ, List}
use Rattle.session.specs.declared.Session.{Session}
use Rattle.session.specs.Sessions.{shape_of}
use Rattle.terms.specs.declared.Term.{Term}
use Rattle.terms.specs.Listed.{products_of, collected}
use Rattle.relation.specs.Masks.{masked_terms, term_masks, relation_masks_answer, relation_masks_out}
use Rattle.relation.specs.Finish.{with_products, with_sum, relation_done, relation_finish_answer, relation_finish_rows}
use Rattle.relation.specs.Order.{LawfulAfterFive}
use Rattle.relation.specs.Table.{relation_masks_table, relation_finish_table}

pub record RelationLawful : Type 0 where
  pub masks : (s : Session) (rows : List ℕ) (ts : List Term) (out : List ℕ)
      → LawfulAfterFive (relation_masks_table s rows ts out) (masked_terms s (products_of ts)) s (term_masks (shape_of s) rows (products_of ts)) out
      (relation_masks_answer s rows (collected ts) out) (relation_masks_out s rows (collected ts) out)
  pub finish : (s : Session) (rows : List ℕ) (ts : List Term) (d : ℕ) (blocks : List ℕ)
      → LawfulAfterFive (relation_finish_table s rows ts d blocks) (relation_done s rows blocks (products_of ts) ts d) s
      (with_sum s d ts (with_products s rows blocks 0 (products_of ts) rows)) rows
      (relation_finish_answer s rows (collected ts) d blocks) (relation_finish_rows s rows (collected ts) d blocks)
