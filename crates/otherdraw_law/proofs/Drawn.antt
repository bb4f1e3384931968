-- A draw of the one row, as demand 3 has it.
use Prim.Native.Nat.{ℕ, ◌≤◌, ◌<◌}
use mathlib.Core.Path.{◌≡◌, refl, sym, ◌∙◌, ap, subst}
use mathlib.Core.Bool.{Bool, true, false, cond}
use mathlib.Core.List.{List, [], map}
use native.Mathlib.Decide.{dec_lt}
use native.Mathlib.Omega.{arith}
use borrow.Author.Tests.{eqb-true}
use lib.Dec.{eqb}
use lib.ListN.{length, length-map, get_or-replicate, get_or-eq_default}
use Rattle.field.specs.Modulus.{p}
use Rattle.poly.specs.Counting.{All, Elements}
use Rattle.shape.specs.declared.Shape.{Shape}
use Rattle.shape.specs.Bounds.{row_count_of, last_row_at}
use Rattle.shape.specs.Lengths.{shape, checks_length, draw_length}
use Rattle.parts.proofs.Laws.{length_each}
use Rattle.runs.specs.Draws.{none, by, IsRaw, when_raw, Plan, IsDraw, raw_length, drawn_length, raw_draw}
use Rattle.secrecy.specs.Seen.{all_rows}
use Rattle.otherdraw_law.specs.OneRow.{draw_of, Setting, plan_in}
use Rattle.otherdraw_law.proofs.Told.{row_of_lem}

rows_many : (f : ℕ → List ℕ) → length (map f all_rows) ≡ row_count_of
unfolding all_rows
rows_many f = length-map all_rows f ∙ length_each (λ r. r) 0 row_count_of

-- ---- a draw of the row

module _ (S : Setting) where
  abbrev plan : Plan
  plan = plan_in S

  abbrev s : Shape
  s = shape S.n S.t S.points

  pub only_row : (q : ℕ) → IsRaw (plan.raw q) → q ≡ S.r
  only_row q h = go (eqb q S.r) refl h
    where
      go : (b : Bool) → eqb q S.r ≡ b → IsRaw (cond b (by S.dealer) none) → q ≡ S.r
      go true e x = eqb-true q S.r e
      go false e x = absurd x

  -- at another row nothing is drawn
  pub no_draw : (xs : List ℕ) (q : ℕ) → eqb q S.r ≡ false → raw_draw (draw_of S.r S.ws xs) q ≡ []
  unfolding raw_draw draw_of
  no_draw xs q e =
      elim (dec_lt q row_count_of) [
        | yes l ↦ row_of_lem (λ q. cond (eqb q S.r) xs []) q (omega arith) ∙ ap (λ (b : Bool). cond b xs []) e
        | no l ↦ get_or-eq_default (map (λ q. cond (eqb q S.r) xs []) all_rows) [] (omega (arith, rows_many (λ q. cond (eqb q S.r) xs [])))
      ]

  pub is_draw : (xs : List ℕ) → S.r ≤ last_row_at → length S.ws ≡ checks_length s → All (λ w. (1 ≤ w) × (w < p)) S.ws → length xs ≡ draw_length s → Elements xs
      → IsDraw plan (draw_of S.r S.ws xs)
  unfolding draw_of
  is_draw xs row many good long low =
      record {
        posts = many;
        points = good;
        raws = record { count = rows_many _; each = λ q l. subst (Fits q) (sym (row_of_lem (λ q. cond (eqb q S.r) xs []) q (omega arith))) (drawn q (eqb q S.r)) };
        triples = record { count = refl; each = λ q l. subst (λ (x : List ℕ). (length x ≡ 0) × Elements x) (sym (get_or-replicate row_count_of q [] [] l)) (refl, tt) };
      }
    where
      Fits : ℕ → List ℕ → Type 0
      Fits q x = (length x ≡ raw_length plan q) × Elements x

      drawn : (q : ℕ) (b : Bool) → (length (cond b xs []) ≡ when_raw (cond b (by S.dealer) none) (drawn_length plan) 0) × Elements (cond b xs [])
      drawn q true = (long, low)
      drawn q false = (refl, tt)
