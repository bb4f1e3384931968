-- One term's tests, as the code asks them: those of a plain term, or those of a product.
use Prim.Native.Nat.{ℕ, ◌≤◌}
use mathlib.Core.Path.{◌≡◌, sym, ◌∙◌}
use mathlib.Core.Bool.{Bool, true, false}
use mathlib.Core.List.{List, [], ◌∷◌}
use Rattle.shape.specs.declared.Shape.{Shape}
use Rattle.shape.specs.Bounds.{last_triple}
use Rattle.shape.specs.Marks.{held}
use Rattle.shape.specs.Lengths.{row_length}
use Rattle.refusal.specs.Refusal.{◌when◌, first}
use Rattle.refusal.specs.Conditions.{beyond}
use Rattle.refusal.proofs.Laws.{Numbered}
use Rattle.refusal.proofs.Groups.{stopped, went_on}
use Rattle.session.specs.declared.Session.{Session}
use Rattle.session.specs.Sessions.{shape_of}
use Rattle.session.specs.Checks.{no_row, no_triple, wrong_mark_of}
use Rattle.product_masks.specs.Masks.{triple_marks_of, factor_numbers_of}
use Rattle.terms.specs.declared.Term.{Term}
use Rattle.terms.specs.Listed.{plain}
use Rattle.relation.specs.Tests.{by_kind, place_tests, mark_tests, Placed}
use Rattle.relation.specs.Masks.{mask_number_tests}

module _ (t : Term) (b : Bool) (eb : b ≡ plain t) where
  is_kind : (k : Bool) → b ≡ k → plain t ≡ k
  is_kind k e = sym eb ∙ e

  -- the row's test stops a term, or it is plain, or its other two tests decide
  module _ (u : ℕ) (eu : u ≡ first (6 when no_row t.row ∷ [])) where
    pub place_stopped : (u ≡ 0 → ⊥) → u ≡ first (place_tests t)
    place_stopped = stopped (6 when no_row t.row ∷ []) (by_kind (plain t) [] (6 when no_row t.second ∷ 6 when no_triple t.first ∷ [])) tt u eu

    pub place_plain : b ≡ true → u ≡ first (place_tests t)
    place_plain e = rw (is_kind true e) eu

    module _ (z : u ≡ 0) (e : b ≡ false) (v : ℕ) (ev : v ≡ first (6 when no_row t.second ∷ [])) where
      behind : (w : ℕ) → w ≡ first (6 when no_row t.second ∷ 6 when no_triple t.first ∷ []) → w ≡ first (place_tests t)
      behind w ew =
          rw (is_kind false e) (went_on (6 when no_row t.row ∷ []) (6 when no_row t.second ∷ 6 when no_triple t.first ∷ []) tt u eu w z ew)

      pub place_second : (v ≡ 0 → ⊥) → v ≡ first (place_tests t)
      place_second n = behind v (stopped (6 when no_row t.second ∷ []) (6 when no_triple t.first ∷ []) tt v ev n)

      pub place_product : v ≡ 0 → (w : ℕ) → w ≡ first (6 when no_triple t.first ∷ []) → w ≡ first (place_tests t)
      place_product y w ew = behind w (went_on (6 when no_row t.second ∷ []) (6 when no_triple t.first ∷ []) tt v ev w y ew)

  module _ (s : Session) (m : ℕ) where
    pub mark_plain : b ≡ true → (u : ℕ) → u ≡ first (7 when wrong_mark_of s t.row held ∷ []) → u ≡ first (mark_tests s m t)
    mark_plain e u eu = rw (is_kind true e) eu

    pub mark_first : b ≡ false → Placed (shape_of s) t → t.first ≤ last_triple
    mark_first e h = (h.factors_in (is_kind false e)).triple_in.triple_in

    pub mark_product : b ≡ false → (u : ℕ) → u ≡ first (triple_marks_of s t.row t.second t.first m) → u ≡ first (mark_tests s m t)
    mark_product e u eu = rw (is_kind false e) eu

  module _ (g : Shape) (rows : List ℕ) where
    pub number_first : b ≡ false → Placed g t → t.first ≤ last_triple
    number_first e h = (h.factors_in (is_kind false e)).triple_in.triple_in

    module _ (u : ℕ) (eu : u ≡ first (8 when beyond t.coefficient ∷ [])) where
      pub number_stopped : (u ≡ 0 → ⊥) → u ≡ first (mask_number_tests (row_length g) rows t)
      number_stopped =
          stopped (8 when beyond t.coefficient ∷ []) (by_kind (plain t) [] (factor_numbers_of (row_length g) rows t.row t.second t.first)) tt u eu

      pub number_plain : b ≡ true → u ≡ first (mask_number_tests (row_length g) rows t)
      number_plain e = rw (is_kind true e) eu

      pub number_product : u ≡ 0 → b ≡ false → (v : ℕ) → v ≡ first (factor_numbers_of (row_length g) rows t.row t.second t.first)
          → v ≡ first (mask_number_tests (row_length g) rows t)
      number_product z e v ev =
          rw (is_kind false e)
          (went_on (8 when beyond t.coefficient ∷ []) (factor_numbers_of (row_length g) rows t.row t.second t.first) tt u eu v z ev)

-- no number is 0, of a plain term or of a product
pub place_numbered : (k : ℕ) (t : Term) → Numbered (place_tests t)
place_numbered k t = go (plain t)
  where
    go : (b : Bool) → Numbered (by_kind b [] (6 when no_row t.second ∷ 6 when no_triple t.first ∷ []))
    go true = tt
    go false = tt

pub mark_numbered : (s : Session) (m k : ℕ) (t : Term) → Numbered (mark_tests s m t)
mark_numbered s m k t = go (plain t)
  where
    go : (b : Bool) → Numbered (by_kind b (7 when wrong_mark_of s t.row held ∷ []) (triple_marks_of s t.row t.second t.first m))
    go true = tt
    go false = tt

pub number_numbered : (w : ℕ) (rows : List ℕ) (k : ℕ) (t : Term) → Numbered (mask_number_tests w rows t)
number_numbered w rows k t = go (plain t)
  where
    go : (b : Bool) → Numbered (by_kind b [] (factor_numbers_of w rows t.row t.second t.first))
    go true = tt
    go false = tt
