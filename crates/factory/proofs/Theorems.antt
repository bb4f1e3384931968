-- The factory's calls: refusal 0 exactly when no condition of document 01's table applies, otherwise the smallest number that
-- does, and the lent list is then as it came. And check points pass exactly where each is in its range.
use Prim.Native.Nat.{ℕ, ◌≤◌}
use mathlib.Core.Path.{◌≡◌, refl, sym, ◌∙◌, ap₂}
use mathlib.Core.Bool.{Bool, false, ◌||◌}
use mathlib.Core.List.{List}
use native.Mathlib.Omega.{arith}
use borrow.Author.Tests.{eqb-false, ne_eqb}
use lib.Dec.{eqb}
use Rattle.field.specs.Arithmetic.{difference}
use Rattle.shape.specs.Lengths.{shape}
use Rattle.refusal.specs.Conditions.{beyond, bad_point}
use Rattle.refusal.proofs.Laws.{or_false}
use Rattle.refusal.proofs.Elements.{below_p, element_test}
use Rattle.refusal.proofs.Figures.{each_passes, none_fails}
use Rattle.refusal.proofs.Decided.{keeps, keeps_by}
use Rattle.factory.specs.declared.Number.{Number}
use Rattle.packs.specs.Packs.{packs, triple_packs}
use Rattle.factory.specs.Calls.{any_bad_point, factory_row_refusal, factory_row_out, factory_triple_refusal, factory_triple_out, dealer_refusal}
use Rattle.factory.specs.Table.{row_table, triple_table}
use Rattle.factory.specs.Claims.{FactoryLawful, PointsMean}
use Rattle.factory.proofs.Tables.{factory_tables}

pub factory_lawful : FactoryLawful
unfolding factory_row_refusal factory_triple_refusal dealer_refusal
factory_lawful = record {
  row_refusal_is = λ n t points ws draw out. refl;
  row = λ n t points ws draw out. keeps (List ℕ) 1 (row_table n t points ws draw out) (omega arith) (packs (shape n t points) ws draw) out;
  triple_refusal_is = λ n t points ws draw out. refl;
  triple = λ n t points ws draw out.
      keeps (List ℕ) 1 (triple_table n t points ws draw out) (omega arith) (triple_packs (shape n t points) ws draw) out;
  dealer = λ u constant.
      keeps_by {A = Number} (factory_tables.dealer u constant) (omega arith) (record { refusal = 0; value = difference u constant })
      (λ k. record { refusal = k; value = 0 });
}

-- the packs, by the refusals that the contracts cite
module _ (n t points : ℕ) (ws draw out : List ℕ) where
  pub row_done : factory_row_refusal n t points ws draw out ≡ 0 → factory_row_out n t points ws draw out ≡ packs (shape n t points) ws draw
  row_done z = (factory_lawful.row n t points ws draw out).done (sym (factory_lawful.row_refusal_is n t points ws draw out) ∙ z)

  pub triple_done : factory_triple_refusal n t points ws draw out ≡ 0 → factory_triple_out n t points ws draw out ≡ triple_packs (shape n t points) ws draw
  triple_done z = (factory_lawful.triple n t points ws draw out).done (sym (factory_lawful.triple_refusal_is n t points ws draw out) ∙ z)

-- one check point
in_range : (w : ℕ) → bad_point w ≡ false → (1 ≤ w) × (w ≤ 2147483646)
in_range w e =
    let h = or_false (eqb w 0) (beyond w) e in
    (omega (arith, eqb-false w 0 h.0), omega (arith, below_p w h.1))

good : (w : ℕ) → (1 ≤ w) × (w ≤ 2147483646) → bad_point w ≡ false
good w h = ap₂ (λ (a b : Bool). a || b) (ne_eqb w 0 (omega (arith, h.0))) (element_test w (omega (arith, h.1)))

pub points_mean : PointsMean
unfolding any_bad_point
points_mean = record {
  range_passes = none_fails bad_point any_bad_point refl (λ w ws. refl) (λ w. (1 ≤ w) × (w ≤ 2147483646)) in_range good;
  passes_range = each_passes bad_point any_bad_point refl (λ w ws. refl) (λ w. (1 ≤ w) × (w ≤ 2147483646)) in_range good;
}
