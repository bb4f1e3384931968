-- There and back: from the second list of secrets to the first, the matched draw's matched draw is the first draw again.
use Prim.Native.Nat.{ℕ, ◌*◌, ◌-◌, ◌<◌}
use mathlib.Core.Path.{◌≡◌, refl, sym, ◌∙◌, ap}
use mathlib.Core.Bool.{Bool, true, false, cond}
use mathlib.Core.List.{List, [], ◌∷◌}
use native.Mathlib.Omega.{arith}
use lib.ListN.{get_or}
use Rattle.field.specs.Element.{Element, element}
use Rattle.field.proofs.Expression.{A, B, ◌:-◌, :-◌, Same}
use Rattle.field.proofs.Solver.{solve}
use Rattle.field.proofs.Elements.{𝓡}
use Rattle.shape.specs.Bounds.{row_count_of}
use Rattle.runs.specs.Draws.{Plan, Sound, Draw, IsDraw, drawn_length, raw_length, triple_length, point_of, triple_draw}
use Rattle.secrecy.specs.Steps.{Secrets}
use Rattle.secrecy.specs.Claim.{Group}
use Rattle.secrecy.proofs.Shift.{shift, shift_back}
use Rattle.secrecy.proofs.Link.{Gaps}
use Rattle.secrecy.proofs.Triples.{moved_triple, triple_none, triple_back}
use Rattle.secrecy.proofs.Moved.{each, each_back, lists_nothing, lists_elements, layout, secret_gap, moved, layout_unit, triple_long, row_some}
open 𝓡 use {neg}

module _ (plan : Plan) (group : List ℕ) (u u' : Secrets) (Δ Δ' : ℕ → Gaps) (d : Draw) (sound : Sound plan)
    (few : Group plan group) (is : IsDraw plan d) (factor_a_is : (r : ℕ) → (Δ' r).factor_a_is ≡ neg (Δ r).factor_a_is)
    (factor_b_is : (r : ℕ) → (Δ' r).factor_b_is ≡ neg (Δ r).factor_b_is) where
  abbrev fl : ℕ → Element
  fl = layout plan group d

  abbrev forth : ℕ → List ℕ → List ℕ
  forth r = moved_triple (drawn_length plan) fl (Δ r).factor_a_is (Δ r).factor_b_is

  abbrev hither : ℕ → List ℕ → List ℕ
  hither r = moved_triple (drawn_length plan) fl (Δ' r).factor_a_is (Δ' r).factor_b_is

  raws_back : each (λ r. shift fl (secret_gap u' u r)) (each (λ r. shift fl (secret_gap u u' r)) d.raws) ≡ d.raws
  unfolding Same
  raws_back =
      each_back (λ r. shift fl (secret_gap u u' r)) (λ r. shift fl (secret_gap u' u r)) d.raws
      (λ r l.
      shift_back fl (secret_gap u u' r) (secret_gap u' u r) (get_or d.raws r [])
      (lists_elements (raw_length plan) d.raws is.raws r)
      (solve 𝓡 (element (u r) ∷ element (u' r) ∷ []) (A :- B) (:- (B :- A)) refl))

  triple_here : (r : ℕ) → r < row_count_of → (b : Bool) → plan.triple r ≡ b
      → hither r (forth r (get_or d.triples r [])) ≡ get_or d.triples r []
  unfolding triple_draw
  triple_here r row false e =
      let empty : get_or d.triples r [] ≡ [] =
      lists_nothing (triple_length plan) d.triples is.triples r (ap (λ (b : Bool). cond b (3 * drawn_length plan - 1) 0) e) in
      ap (λ (l : List ℕ). hither r (forth r l)) empty
      ∙ ap (hither r) (triple_none (drawn_length plan) fl (Δ r).factor_a_is (Δ r).factor_b_is)
      ∙ triple_none (drawn_length plan) fl (Δ' r).factor_a_is (Δ' r).factor_b_is ∙ sym empty
  triple_here r row true e =
      triple_back (drawn_length plan) fl (Δ r).factor_a_is (Δ r).factor_b_is (Δ' r).factor_a_is (Δ' r).factor_b_is (get_or d.triples r [])
      (triple_long plan d is r row e) (row_some plan) (layout_unit plan group d sound few is)
      (lists_elements (triple_length plan) d.triples is.triples r) (factor_a_is r) (factor_b_is r)

  triples_back : each hither (each forth d.triples) ≡ d.triples
  triples_back =
      each_back forth hither d.triples (λ r l. triple_here r (omega (arith, is.triples.count)) (plan.triple r) refl)

  pub back : moved plan group u' u Δ' (moved plan group u u' Δ d) ≡ d
  unfolding moved point_of
  back = λ i. record { points = d.points; raws = raws_back i; triples = triples_back i }
