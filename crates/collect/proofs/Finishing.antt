-- The refusal of a finish's first call from the groups of checks that its code asks, and what holds where there is none.
use Prim.Native.Nat.{ℕ, ◌≤◌}
use mathlib.Core.Path.{◌≡◌, sym, ◌∙◌}
use mathlib.Core.List.{List, [], ◌∷◌, ◌++◌}
use borrow.Author.Tests.{ltb-false}
use lib.ListN.{length}
use Rattle.shape.specs.declared.Shape.{Shape}
use Rattle.shape.specs.Bounds.{last_triple}
use Rattle.shape.specs.Lengths.{Valid, row_length}
use Rattle.refusal.specs.Refusal.{Test, ◌when◌, first}
use Rattle.refusal.proofs.Laws.{equal, all_fail}
use Rattle.refusal.proofs.Groups.{stopped, went_on}
use Rattle.session.specs.declared.Party.{Party}
use Rattle.session.specs.declared.Session.{Session}
use Rattle.session.specs.Sessions.{shape_of, party_of, factor_a_of, factor_b_of}
use Rattle.session.specs.Checks.{frame_tests}
use Rattle.session.specs.Between.{Framed, RowIn, TripleIn}
use Rattle.session.proofs.Passed.{row_below}
use Rattle.session.proofs.Calls.{frame_passed, stopped_at_frame, past_frame}
use Rattle.blocks.specs.Blocks as Blocks
use Rattle.blocks.specs.Between.{Recorded}
use Rattle.opening.specs.Walking.{record_length, bad_record}
use Rattle.product_masks.specs.Masks.{factor_numbers_of, mask_numbers}
use Rattle.mask_opening.specs.Between.{Maskable}
use Rattle.collect.specs.Collect.{finish_place, finish_marks, collect_numbers_of, collect_own_of, collect_checks_of}
use Rattle.product_masks.proofs.Passed.{triple_below}
use Rattle.collect.proofs.Passed.{collect_checked, collect_framed}

-- what holds of a session's own party holds of the party that the code made of it
module _ (s : Session) (q : Party) (e : q ≡ party_of s) where
  pub same_recorded : (l : List ℕ) → Recorded (party_of s) l → Recorded q l
  same_recorded l h = rw e h

  pub party_maskable : (rows : List ℕ) (a b r : ℕ) (l l' : List ℕ) → Framed s rows → RowIn (shape_of s) a → RowIn (shape_of s) b
      → TripleIn (shape_of s) r → Recorded (party_of s) l → Recorded (party_of s) l' → Maskable q rows a b r l l'
  party_maskable rows a b r l l' f ha hb hr h h' =
      rw e (record { sized = f.sized; a_in = ha; b_in = hb; triple_in = hr; recorded_a = h; recorded_b = h' })

-- the rows stop 8, or the first record does, or the second decides
module _ (s : Session) (g : Shape) (p : Party) (rows : List ℕ) (a b r : ℕ) (l l' : List ℕ) (eg : g ≡ shape_of s) (u : ℕ)
    (eu : u ≡ first (factor_numbers_of (row_length g) rows a b r)) where
  abbrev of_a : List Test
  of_a = 8 when bad_record s l ∷ []

  abbrev of_b : List Test
  of_b = 8 when bad_record s l' ∷ []

  rows_are : u ≡ first (mask_numbers s rows a b r)
  rows_are = rw eg at eu

  pub numbers_stopped : (u ≡ 0 → ⊥) → u ≡ first (collect_numbers_of s rows a b r l l')
  numbers_stopped = stopped (mask_numbers s rows a b r) (of_a ++ of_b) tt u rows_are

  module _ (z : u ≡ 0) (ep : p ≡ party_of s) (w : ℕ) (ew : w ≡ first (8 when Blocks.bad_record p l ∷ [])) where
    behind : (x : ℕ) → x ≡ first (of_a ++ of_b) → x ≡ first (collect_numbers_of s rows a b r l l')
    behind x = went_on (mask_numbers s rows a b r) (of_a ++ of_b) tt u rows_are x z

    pub numbers_first : (w ≡ 0 → ⊥) → w ≡ first (collect_numbers_of s rows a b r l l')
    numbers_first n = behind w (stopped of_a of_b tt w (rw ep at ew) n)

    pub numbers_second : w ≡ 0 → (x : ℕ) → x ≡ first (8 when Blocks.bad_record p l' ∷ []) → x ≡ first (collect_numbers_of s rows a b r l l')
    numbers_second y x ex = behind x (went_on of_a of_b tt w (rw ep at ew) x y (rw ep at ex))

-- 7 stops the call's own checks, or 8 decides
module _ (s : Session) (rows : List ℕ) (r : ℕ) (l l' : List ℕ) (u : ℕ) (eu : u ≡ first (finish_marks s (factor_a_of s r) (factor_b_of s r) r)) where
  abbrev numbers : List Test
  numbers = collect_numbers_of s rows (factor_a_of s r) (factor_b_of s r) r l l'

  pub own_stopped : (u ≡ 0 → ⊥) → u ≡ first (collect_own_of s rows r l l')
  own_stopped = stopped (finish_marks s (factor_a_of s r) (factor_b_of s r) r) numbers tt u eu

  pub own_asked : u ≡ 0 → (v : ℕ) → v ≡ first (collect_numbers_of s rows (factor_a_of s r) (factor_b_of s r) r l l')
      → v ≡ first (collect_own_of s rows r l l')
  own_asked z v ev = went_on (finish_marks s (factor_a_of s r) (factor_b_of s r) r) numbers tt u eu v z ev

module _ (s : Session) (rows : List ℕ) (r : ℕ) (l l' : List ℕ) where
  abbrev place : List Test
  place = finish_place s r l l'

  abbrev own : List Test
  own = collect_own_of s rows r l l'

  -- the frame stops the call, or the places do, or it goes on
  module _ (f : ℕ) (e : f ≡ first (frame_tests s rows)) where
    pub checks_stopped : (f ≡ 0 → ⊥) → f ≡ first (collect_checks_of s rows r l l')
    checks_stopped = stopped_at_frame s rows (place ++ own) f e

    pub collect_valid : f ≡ 0 → Valid (shape_of s)
    collect_valid z = (frame_passed s rows f e z).sized.valid

    module _ (z : f ≡ 0) (q : ℕ) (g : q ≡ first (finish_place s r l l')) where
      pub checks_misplaced : (q ≡ 0 → ⊥) → q ≡ first (collect_checks_of s rows r l l')
      checks_misplaced n = past_frame s rows (place ++ own) f q e z (stopped place own tt q g n)

      pub collect_placed : q ≡ 0 → Framed s rows × (r ≤ last_triple) × Recorded (party_of s) l × Recorded (party_of s) l'
      collect_placed y =
          let (long, (long', (low, _))) = all_fail place tt (sym g ∙ y) in
          let v = collect_valid z in (
            frame_passed s rows f e z,
            ltb-false last_triple r low,
            record { valid = v; length_is = equal (length l) (record_length s) long },
            record { valid = v; length_is = equal (length l') (record_length s) long' },
          )

      pub checks_done : q ≡ 0 → (w : ℕ) → w ≡ first (collect_own_of s rows r l l') → w ≡ first (collect_checks_of s rows r l l')
      checks_done y w h = past_frame s rows (place ++ own) f w e z (went_on place own tt q g w y h)

  pub checks_allowed : (f : ℕ) → f ≡ first (collect_checks_of s rows r l l') → f ≡ 0
      → Framed s rows × RowIn (shape_of s) (factor_a_of s r) × RowIn (shape_of s) (factor_b_of s r) × TripleIn (shape_of s) r
      × Recorded (party_of s) l × Recorded (party_of s) l'
  checks_allowed f e n =
      let h = collect_checked s rows r l l' (sym e ∙ n) in
      let k = h.placed.factors in
      let frame = collect_framed s rows r l l' h in
      let v = frame.sized.valid in (
        frame,
        row_below (shape_of s) (factor_a_of s r) k.a_in,
        row_below (shape_of s) (factor_b_of s r) k.b_in,
        triple_below (shape_of s) r k.triple_in,
        record { valid = v; length_is = h.placed.a_long },
        record { valid = v; length_is = h.placed.b_long },
      )
