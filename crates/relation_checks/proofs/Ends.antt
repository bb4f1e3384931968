-- One term's tests at the finish, as the code asks them.
use Prim.Native.Nat.{ℕ, ◌+◌, ◌≤◌}
use mathlib.Core.Path.{◌≡◌, refl, sym, ◌∙◌}
use mathlib.Core.Bool.{Bool, true, false}
use mathlib.Core.List.{List, [], ◌∷◌, ◌++◌}
use borrow.Author.Tests.{eq-eqb, ne_eqb}
use Rattle.shape.specs.declared.Shape.{Shape}
use Rattle.shape.specs.Bounds.{last_triple}
use Rattle.shape.specs.Lengths.{row_length}
use Rattle.refusal.specs.Refusal.{Test, ◌when◌, first}
use Rattle.refusal.specs.Conditions.{beyond, any_beyond}
use Rattle.session.specs.declared.Session.{Session}
use Rattle.session.specs.Sessions.{factor_a_of, factor_b_of}
use Rattle.session.specs.Rows.{row_at}
use Rattle.product_masks.specs.Masks.{factor_numbers_of}
use Rattle.refusal.proofs.Groups.{stopped, went_on}
use Rattle.terms.specs.declared.Term.{Term}
use Rattle.terms.specs.Listed.{plain}
use Rattle.relation.specs.Tests.{by_kind, Placed}
use Rattle.relation.specs.Finish.{remember_tests, term_number_tests}

module _ (w : ℕ) (rows : List ℕ) (t : Term) where
  abbrev products : List Test
  products = factor_numbers_of w rows t.row t.second t.first ++ (8 when any_beyond (row_at w rows (t.first + 2)) ∷ [])

module _ (t : Term) (b : Bool) (eb : b ≡ plain t) (g : Shape) (rows : List ℕ) where
  abbrev w : ℕ
  w = row_length g

  is_kind : (k : Bool) → b ≡ k → plain t ≡ k
  is_kind k e = sym eb ∙ e

  pub term_first : b ≡ false → Placed g t → t.first ≤ last_triple
  term_first e h = (h.factors_in (is_kind false e)).triple_in.triple_in

  -- the coefficient stops a term, or the row of a plain one decides, or the factors' numbers and the third row of a product
  module _ (u : ℕ) (eu : u ≡ first (8 when beyond t.coefficient ∷ [])) where
    pub term_stopped : (u ≡ 0 → ⊥) → u ≡ first (term_number_tests (row_length g) rows t)
    term_stopped =
        stopped (8 when beyond t.coefficient ∷ []) (by_kind (plain t) (8 when any_beyond (row_at w rows t.row) ∷ []) (products w rows t)) tt u eu

    pub term_plain : u ≡ 0 → b ≡ true → (v : ℕ) → v ≡ first (8 when any_beyond (row_at (row_length g) rows t.row) ∷ [])
        → v ≡ first (term_number_tests (row_length g) rows t)
    term_plain z e v ev =
        rw (is_kind true e) (went_on (8 when beyond t.coefficient ∷ []) (8 when any_beyond (row_at w rows t.row) ∷ []) tt u eu v z ev)

    module _ (z : u ≡ 0) (e : b ≡ false) (v : ℕ) (ev : v ≡ first (factor_numbers_of (row_length g) rows t.row t.second t.first)) where
      behind : (x : ℕ) → x ≡ first (products w rows t) → x ≡ first (term_number_tests (row_length g) rows t)
      behind x ex = rw (is_kind false e) (went_on (8 when beyond t.coefficient ∷ []) (products w rows t) tt u eu x z ex)

      pub term_factors : (v ≡ 0 → ⊥) → v ≡ first (term_number_tests (row_length g) rows t)
      term_factors n =
          behind v (stopped (factor_numbers_of w rows t.row t.second t.first) (8 when any_beyond (row_at w rows (t.first + 2)) ∷ []) tt v ev n)

      pub term_third : v ≡ 0 → (x : ℕ) → x ≡ first (8 when any_beyond (row_at (row_length g) rows (t.first + 2)) ∷ [])
          → x ≡ first (term_number_tests (row_length g) rows t)
      term_third y x ex =
          behind x (went_on (factor_numbers_of w rows t.row t.second t.first) (8 when any_beyond (row_at w rows (t.first + 2)) ∷ []) tt v ev x y ex)

-- what a triple remembers
module _ (s : Session) (t : Term) where
  pub forgets_a : (factor_a_of s t.first ≡ t.row → ⊥) → 7 ≡ first (remember_tests s t)
  forgets_a n = rw (ne_eqb (factor_a_of s t.first) t.row n) refl

  pub forgets_b : factor_a_of s t.first ≡ t.row → (factor_b_of s t.first ≡ t.second → ⊥) → 7 ≡ first (remember_tests s t)
  forgets_b e n = rw (eq-eqb (factor_a_of s t.first) t.row e, ne_eqb (factor_b_of s t.first) t.second n) refl

  pub remembers_both : factor_a_of s t.first ≡ t.row → factor_b_of s t.first ≡ t.second → 0 ≡ first (remember_tests s t)
  remembers_both e f = rw (eq-eqb (factor_a_of s t.first) t.row e, eq-eqb (factor_b_of s t.first) t.second f) refl
