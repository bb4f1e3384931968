-- The masks of all product terms: the refusal from the groups of checks that the code asks and what
-- holds where there is none.
use Prim.Native.Nat.{ℕ, ◌*◌, ◌<◌}
use mathlib.Core.Path.{◌≡◌, sym, ◌∙◌}
use mathlib.Core.List.{List, [], ◌∷◌, ◌++◌}
use native.Mathlib.Omega.{arith}
use lib.ListN.{length}
use Rattle.shape.specs.declared.Shape.{Shape}
use Rattle.shape.specs.Lengths.{Valid, row_length, masks_length}
use Rattle.refusal.specs.Refusal.{Test, ◌when◌, first}
use Rattle.refusal.proofs.Laws.{equal, all_fail}
use Rattle.refusal.proofs.Groups.{stopped, went_on, fail_parts}
use Rattle.refusal.proofs.Endings.{accepted}
use Rattle.session.specs.declared.Session.{Session}
use Rattle.session.specs.Sessions.{shape_of}
use Rattle.session.specs.Rows.{width}
use Rattle.session.specs.Checks.{frame_tests}
use Rattle.session.specs.Between.{Framed, Sized}
use Rattle.session.proofs.Calls.{frame_passed, stopped_at_frame, past_frame, allowed}
use Rattle.shape.specs.Marks.{unused}
use Rattle.terms.specs.declared.Terms.{Terms}
use Rattle.terms.specs.Listed.{terms_of, factors_of}
use Rattle.relation.specs.Tests.{each, place_tests, mark_tests, named_twice_of, Counted, Few, Every, Factors, Placed}
use Rattle.relation.specs.Masks.{masks_sizes, masks_marks, mask_number_tests, masks_own, relation_masks_refusal, term_masks, relation_masks_out}
use Rattle.relation.proofs.Numbering.{placed_numbered, unused_numbered, mask_marks_numbered, masks_numbered}
use Rattle.relation.proofs.Passing.{every_placed, every_factors, few}

pub masks_some : (g : Shape) (k : ℕ) → Valid g → k ≡ masks_length g → 0 < k
masks_some g k v e = omega (arith, e)

module _ (s : Session) (rows : List ℕ) (all : Terms) where
  abbrev places : List Test
  places = each place_tests (terms_of all)

  abbrev numbers : List Test
  numbers = each (mask_number_tests (width s) rows) (terms_of all)

  -- 6 stops the call, or it goes on
  module _ (p : ℕ) (e : p ≡ first (each place_tests (terms_of all))) where
    pub own_stopped : (p ≡ 0 → ⊥) → p ≡ first (masks_own s rows all)
    own_stopped n = stopped places (masks_marks s all ++ numbers) (placed_numbered all) p e n

    module _ (z : p ≡ 0) where
      pub own_placed : (g : Shape) → Every (Placed g) (terms_of all)
      own_placed g = every_placed g (terms_of all) (all_fail places (placed_numbered all) (sym e ∙ z))

      behind : (x : ℕ) → x ≡ first (masks_marks s all ++ numbers) → x ≡ first (masks_own s rows all)
      behind x = went_on places (masks_marks s all ++ numbers) (placed_numbered all) p e x z

      -- 7 stops it, of the marks or of a triple named twice, or 8 decides
      module _ (u : ℕ) (eu : u ≡ first (each (mark_tests s unused) (terms_of all))) where
        abbrev twice : List Test
        twice = 7 when named_twice_of (factors_of all) ∷ []

        pub own_unmarked : (u ≡ 0 → ⊥) → u ≡ first (masks_own s rows all)
        own_unmarked n =
            behind u
            (stopped (masks_marks s all) numbers (mask_marks_numbered s rows all) u
            (stopped (each (mark_tests s unused) (terms_of all)) twice (unused_numbered s rows all) u eu n) n)

        module _ (y : u ≡ 0) (v : ℕ) (ev : v ≡ first (7 when named_twice_of (factors_of all) ∷ [])) where
          marks_are : v ≡ first (masks_marks s all)
          marks_are = went_on (each (mark_tests s unused) (terms_of all)) twice (unused_numbered s rows all) u eu v y ev

          pub own_twice : (v ≡ 0 → ⊥) → v ≡ first (masks_own s rows all)
          own_twice n = behind v (stopped (masks_marks s all) numbers (mask_marks_numbered s rows all) v marks_are n)

          pub own_done : v ≡ 0 → (g : Shape) (w : ℕ) → g ≡ shape_of s → w ≡ first (each (mask_number_tests (row_length g) rows) (terms_of all))
              → w ≡ first (masks_own s rows all)
          own_done k g w eg ew =
              behind w (went_on (masks_marks s all) numbers (mask_marks_numbered s rows all) v marks_are w k (rw eg at ew))

-- the frame stops the call, or the sizes do, or it goes on
module _ (s : Session) (rows : List ℕ) (all : Terms) (out : List ℕ) (c : Counted all) where
  abbrev sizes : List Test
  sizes = masks_sizes s all out

  abbrev own : List Test
  own = masks_own s rows all

  module _ (f : ℕ) (e : f ≡ first (frame_tests s rows)) where
    pub masks_stopped : (f ≡ 0 → ⊥) → f ≡ relation_masks_refusal s rows all out
    unfolding relation_masks_refusal
    masks_stopped = stopped_at_frame s rows (sizes ++ own) f e

    pub masks_valid : f ≡ 0 → Valid (shape_of s)
    masks_valid z = (frame_passed s rows f e z).sized.valid

    module _ (z : f ≡ 0) (q : ℕ) (g : q ≡ first (masks_sizes s all out)) where
      pub masks_unsized : (q ≡ 0 → ⊥) → q ≡ relation_masks_refusal s rows all out
      unfolding relation_masks_refusal
      masks_unsized n = past_frame s rows (sizes ++ own) f q e z (stopped sizes own tt q g n)

      pub masks_framed : q ≡ 0 → Framed s rows × Few all
      masks_framed y = (frame_passed s rows f e z, few all c (all_fail sizes tt (sym g ∙ y)).1.0)

      pub masks_checked : q ≡ 0 → (w : ℕ) → w ≡ first (masks_own s rows all) → w ≡ relation_masks_refusal s rows all out
      unfolding relation_masks_refusal
      masks_checked y w h = past_frame s rows (sizes ++ own) f w e z (went_on sizes own tt q g w y h)

  -- what holds where nothing is refused
  module _ (f : ℕ) (e : f ≡ relation_masks_refusal s rows all out) (n : f ≡ 0) where
    passed : Framed s rows × Few all × Every (Factors (shape_of s)) (factors_of all) × (length out ≡ all.products * masks_length (shape_of s))
    unfolding relation_masks_refusal
    passed =
        let h = allowed s rows (sizes ++ own) (masks_numbered s rows all) f e n in
        let few = few all c h.1.1.0 in
        let placed = every_placed (shape_of s) (terms_of all) (fail_parts (places s rows all) (masks_marks s all ++ numbers s rows all) h.1.1.1).0 in
        (h.0, few, every_factors (shape_of s) all c few placed, equal (length out) (all.products * masks_length (shape_of s)) h.1.0)

    pub masks_few : Few all
    masks_few = passed.1

    pub masks_factors : Every (Factors (shape_of s)) (factors_of all)
    masks_factors = passed.2

    module _ (g : Shape) (eg : g ≡ shape_of s) where
      pub masks_allowed : Sized g rows × Few all × Every (Factors g) (factors_of all) × (length out ≡ all.products * masks_length g)
      masks_allowed = rw eg (passed.0.sized, passed.1, passed.2, passed.3)

      pub masks_written : (new : List ℕ) → new ≡ term_masks g rows (factors_of all) → new ≡ relation_masks_out s rows all out
      masks_written new eo =
          accepted f (relation_masks_refusal s rows all out) new (term_masks (shape_of s) rows (factors_of all)) out e n (rw eg at eo)
