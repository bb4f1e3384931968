-- A finish's second call keeps to the law of every call, and changes no row but the triple's third.
use native.Mathlib.Omega.{arith}
use Rattle.session.specs.Sessions.{opened_a_of, opened_b_of, finished_triple}
use Rattle.session.specs.Rows.{width}
use Rattle.session.proofs.Lawful.{lawful_by}
use Rattle.session.proofs.Kept.{outcome_keeps}
use Rattle.multiply.specs.Multiply.{with_product, multiply_refusal_of}
use Rattle.multiply.specs.Claims.{MultiplyLawful, MultiplyKeepsOthers}
use Rattle.multiply.proofs.Tables.{multiply_table_lem}
use Rattle.multiply.proofs.Passed.{multiplied}
use Rattle.multiply.proofs.Written.{others_read}

pub multiply_lawful : MultiplyLawful
unfolding multiply_refusal_of
multiply_lawful s rows r =
    lawful_by (multiply_table_lem s rows r) (omega arith) 0 (finished_triple s r) s (with_product s (opened_a_of s r) (opened_b_of s r) r rows) rows

pub multiply_keeps_others : MultiplyKeepsOthers
multiply_keeps_others s rows r q ne =
    outcome_keeps (width s) (multiply_refusal_of s rows r) (with_product s (opened_a_of s r) (opened_b_of s r) r rows) rows q
    (λ z. let d = multiplied s rows r z in
    others_read s rows r (opened_a_of s r) (opened_b_of s r) d.framed.sized d.placed.triple_in q ne)
