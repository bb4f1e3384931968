-- The refusal of masks from the groups of checks that its code asks, and what holds where there is none.
use Prim.Native.Nat.{ℕ, ◌≤◌}
use mathlib.Core.Path.{◌≡◌, sym, ◌∙◌}
use mathlib.Core.List.{List, ◌++◌}
use borrow.Author.Tests.{ltb-false}
use lib.ListN.{length}
use Rattle.shape.specs.declared.Shape.{Shape}
use Rattle.shape.specs.Bounds.{last_row_at, last_triple}
use Rattle.shape.specs.Marks.{unused}
use Rattle.shape.specs.Lengths.{Valid, row_length, masks_length}
use Rattle.refusal.specs.Refusal.{Test, first}
use Rattle.refusal.proofs.Laws.{all_fail}
use Rattle.refusal.proofs.Groups.{stopped, went_on}
use Rattle.refusal.proofs.Endings.{refused, accepted}
use Rattle.session.specs.declared.Session.{Session}
use Rattle.session.specs.Sessions.{shape_of}
use Rattle.session.specs.Checks.{frame_tests}
use Rattle.session.specs.Between.{Framed, Sized, RowIn, TripleIn, Allows}
use Rattle.session.proofs.Passed.{row_below}
use Rattle.session.proofs.Calls.{frame_passed, stopped_at_frame, past_frame}
use Rattle.product_masks.specs.Masks.{masks_place_of, triple_marks_of, factor_numbers_of, mask_numbers, masks_refusal_of, both_masks, mask_numbers_of, masks_out_of}
use Rattle.product_masks.proofs.Passed.{masks_made, triple_below}

module _ (s : Session) (rows : List ℕ) (a b r : ℕ) (out : List ℕ) where
  abbrev place : List Test
  place = masks_place_of s a b r out

  abbrev late : List Test
  late = triple_marks_of s a b r unused ++ mask_numbers s rows a b r

  -- the frame stops the call, or the places do, or it goes on
  module _ (f : ℕ) (e : f ≡ first (frame_tests s rows)) where
    pub masks_stopped : (f ≡ 0 → ⊥) → f ≡ masks_refusal_of s rows a b r out
    unfolding masks_refusal_of
    masks_stopped = stopped_at_frame s rows (place ++ late) f e

    pub masks_valid : f ≡ 0 → Valid (shape_of s)
    masks_valid z = (frame_passed s rows f e z).sized.valid

    module _ (z : f ≡ 0) (q : ℕ) (g : q ≡ first (masks_place_of s a b r out)) where
      pub masks_misplaced : (q ≡ 0 → ⊥) → q ≡ masks_refusal_of s rows a b r out
      unfolding masks_refusal_of
      masks_misplaced n = past_frame s rows (place ++ late) f q e z (stopped place late tt q g n)

      pub masks_placed : q ≡ 0 → r ≤ last_triple
      masks_placed y =
          let (_, (_, (_, (low, _)))) = all_fail place tt (sym g ∙ y) in
          ltb-false last_triple r low

      module _ (y : q ≡ 0) (u : ℕ) (eu : u ≡ first (triple_marks_of s a b r unused)) where
        pub masks_unmarked : (u ≡ 0 → ⊥) → u ≡ masks_refusal_of s rows a b r out
        unfolding masks_refusal_of
        masks_unmarked n =
            past_frame s rows (place ++ late) f u e z
            (went_on place late tt q g u y (stopped (triple_marks_of s a b r unused) (mask_numbers s rows a b r) tt u eu n))

        pub masks_checked : u ≡ 0 → (h : Shape) (v : ℕ) → h ≡ shape_of s → v ≡ first (factor_numbers_of (row_length h) rows a b r)
            → v ≡ masks_refusal_of s rows a b r out
        unfolding masks_refusal_of
        masks_checked k h v eh ev =
            past_frame s rows (place ++ late) f v e z
            (went_on place late tt q g v y (went_on (triple_marks_of s a b r unused) (mask_numbers s rows a b r) tt u eu v k (rw eh at ev)))

  module _ (f : ℕ) (e : f ≡ masks_refusal_of s rows a b r out) (n : f ≡ 0) where
    passed : Framed s rows × RowIn (shape_of s) a × RowIn (shape_of s) b × TripleIn (shape_of s) r × (length out ≡ masks_length (shape_of s))
    passed =
        let h = masks_made s rows a b r out (sym e ∙ n) in let k = h.placed.factors in (
          h.framed,
          row_below (shape_of s) a k.a_in,
          row_below (shape_of s) b k.b_in,
          triple_below (shape_of s) r k.triple_in,
          h.placed.out_long,
        )

    module _ (g : Shape) (eg : g ≡ shape_of s) where
      pub masks_allowed : Sized g rows × RowIn g a × RowIn g b × TripleIn g r × (length out ≡ masks_length g)
      masks_allowed = rw eg (passed.0.sized, passed.1, passed.2, passed.3, passed.4)

      pub masks_written : (new : List ℕ) → new ≡ both_masks g rows a b r → new ≡ masks_out_of s rows a b r out
      unfolding mask_numbers_of
      masks_written new eo = accepted f (masks_refusal_of s rows a b r out) new (mask_numbers_of s rows a b r) out e n (rw eg at eo)

  pub masks_untouched : (f : ℕ) → f ≡ masks_refusal_of s rows a b r out → (f ≡ 0 → ⊥) → out ≡ masks_out_of s rows a b r out
  masks_untouched f e n = refused f (masks_refusal_of s rows a b r out) (mask_numbers_of s rows a b r) out e n

  module _ (f : ℕ) (e : f ≡ masks_refusal_of s rows a b r out) where
    pub masks_first : Allows f (r ≤ last_triple)
    masks_first = record { allowed = λ n. (passed f e n).3.triple_in }

    pub masks_a_is : Allows f (a ≤ last_row_at)
    masks_a_is = record { allowed = λ n. (passed f e n).1.row_in }

    pub masks_b_is : Allows f (b ≤ last_row_at)
    masks_b_is = record { allowed = λ n. (passed f e n).2.row_in }
