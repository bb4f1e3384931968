-- The checks of an opening, joined as the code asks them, and what holds where they refuse nothing.
use Prim.Native.Nat.{ℕ}
use mathlib.Core.Path.{◌≡◌, refl, sym, ◌∙◌, ap}
use mathlib.Core.Bool.{Bool, true, false}
use mathlib.Core.List.{List, [], ◌∷◌, ◌++◌}
use Rattle.std.specs.Prelude.{Result}
use lib.ListN.{length}
use Rattle.shape.specs.declared.Shape.{Shape}
use Rattle.shape.specs.Marks.{held}
use Rattle.shape.specs.Lengths as Lengths
use Rattle.refusal.specs.declared.Refusal.{Refusal}
use Rattle.refusal.specs.Numbers.{refused}
use Rattle.refusal.specs.Refusal.{Test, ◌when◌, first, outcome}
use Rattle.refusal.specs.Conditions.{wrong_length, any_beyond}
use Rattle.refusal.proofs.Laws.{equal, all_fail}
use Rattle.refusal.proofs.Groups.{stopped, went_on}
use Rattle.session.specs.declared.Party.{Party}
use Rattle.session.specs.declared.Session.{Session}
use Rattle.session.specs.Sessions.{shape_of, party_of, holding, answer}
use Rattle.session.specs.Rows.{width, row_at}
use Rattle.session.specs.Checks.{frame_tests, no_row, wrong_mark_of}
use Rattle.session.specs.Between.{Framed, Sized, RowIn}
use Rattle.session.proofs.Passed.{row_below}
use Rattle.session.proofs.Endings.{refused_answer}
use Rattle.blocks.specs.Blocks as Blocks
use Rattle.blocks.specs.Between.{Recorded, Openable}
use Rattle.walk.specs.Number as Number
use Rattle.walk.specs.Number.{or_nine, value_or_zero}
use Rattle.opening.specs.Walking.{record_length, bad_record, too_few_of, disagree, opened}
use Rattle.opening.specs.Opening.{row_checks_of, open_checks_of, open_refusal_of, open_answer}
use Rattle.opening.proofs.Passed as Passed
use Rattle.opening.proofs.Passed.{open_framed}

-- a session's record, for the party that the code made of it
module _ (s : Session) (rows blocks : List ℕ) where
  pub own_recorded : (q : Party) → Framed s rows → length blocks ≡ record_length s → q ≡ party_of s → Recorded q blocks
  own_recorded q f e h = rw h (record { valid = f.sized.valid; length_is = e })

  abbrev size : List Test
  size = 5 when wrong_length blocks (record_length s) ∷ []

  module _ (g : Shape) (eg : g ≡ shape_of s) (k q : ℕ) (ek : k ≡ Lengths.record_length g) (eq : q ≡ first (5 when wrong_length blocks k ∷ [])) where
    pub size_is : q ≡ first size
    size_is = rw (ek, eg) at eq

    pub record_long : q ≡ 0 → length blocks ≡ record_length s
    record_long y = equal (length blocks) (record_length s) (all_fail size tt (sym size_is ∙ y)).0

module _ (s : Session) (rows : List ℕ) (r : ℕ) (blocks : List ℕ) where
  abbrev own : List Test
  own = row_checks_of s rows r blocks

  -- 6 stops the checks, or 7 does, or 8 of the row does, or 8 of the record is asked last
  abbrev row_lem : List Test
  row_lem = 6 when no_row r ∷ []

  abbrev mark_lem : List Test
  mark_lem = 7 when wrong_mark_of s r held ∷ []

  abbrev row_numbers_lem : List Test
  row_numbers_lem = 8 when any_beyond (row_at (width s) rows r) ∷ []

  abbrev record_numbers_lem : List Test
  record_numbers_lem = 8 when bad_record s blocks ∷ []

  module _ (a : ℕ) (ea : a ≡ first (6 when no_row r ∷ [])) where
    pub row_stopped : (a ≡ 0 → ⊥) → a ≡ first own
    row_stopped h = stopped row_lem (mark_lem ++ (row_numbers_lem ++ record_numbers_lem)) tt a ea h

    module _ (za : a ≡ 0) (b : ℕ) (eb : b ≡ first (7 when wrong_mark_of s r held ∷ [])) where
      past_row : (c : ℕ) → c ≡ first (mark_lem ++ (row_numbers_lem ++ record_numbers_lem)) → c ≡ first own
      past_row c h = went_on row_lem (mark_lem ++ (row_numbers_lem ++ record_numbers_lem)) tt a ea c za h

      pub mark_stopped : (b ≡ 0 → ⊥) → b ≡ first own
      mark_stopped h = past_row b (stopped mark_lem (row_numbers_lem ++ record_numbers_lem) tt b eb h)

      module _ (zb : b ≡ 0) (g : Shape) (eg : g ≡ shape_of s) (c : ℕ) (ec : c ≡ first (8 when any_beyond (row_at (Lengths.row_length g) rows r) ∷ [])) where
        numbered : c ≡ first row_numbers_lem
        numbered = rw eg at ec

        past_mark : (d : ℕ) → d ≡ first (row_numbers_lem ++ record_numbers_lem) → d ≡ first own
        past_mark d h = past_row d (went_on mark_lem (row_numbers_lem ++ record_numbers_lem) tt b eb d zb h)

        pub numbers_stopped : (c ≡ 0 → ⊥) → c ≡ first own
        numbers_stopped h = past_mark c (stopped row_numbers_lem record_numbers_lem tt c numbered h)

        pub record_checked : (q : Party) (d : ℕ) → c ≡ 0 → q ≡ party_of s → d ≡ first (8 when Blocks.bad_record q blocks ∷ []) → d ≡ first own
        record_checked q d zc eq ed = past_mark d (went_on row_numbers_lem record_numbers_lem tt c numbered d zc (rw eq at ed))

  -- the frame stops the call, or the length of the record does, or it goes on
  module _ (f : ℕ) (e : f ≡ first (frame_tests s rows)) where
    pub open_stopped : (f ≡ 0 → ⊥) → f ≡ first (open_checks_of s rows r blocks)
    open_stopped = stopped (frame_tests s rows) (size s rows blocks ++ own) tt f e

    module _ (z : f ≡ 0) (g : Shape) (eg : g ≡ shape_of s) (k q : ℕ) (ek : k ≡ Lengths.record_length g)
        (eq : q ≡ first (5 when wrong_length blocks k ∷ [])) where
      sized : q ≡ first (size s rows blocks)
      sized = size_is s rows blocks g eg k q ek eq

      pub open_sized : (q ≡ 0 → ⊥) → q ≡ first (open_checks_of s rows r blocks)
      open_sized n =
          went_on (frame_tests s rows) (size s rows blocks ++ own) tt f e q z (stopped (size s rows blocks) own tt q sized n)

      pub open_checked : q ≡ 0 → (w : ℕ) → w ≡ first own → w ≡ first (open_checks_of s rows r blocks)
      open_checked y w h =
          went_on (frame_tests s rows) (size s rows blocks ++ own) tt f e w z (went_on (size s rows blocks) own tt q sized w y h)

  abbrev row : List ℕ
  row = row_at (width s) rows r

  abbrev late : List Test
  late = 9 when too_few_of s row blocks ∷ 13 when disagree s row blocks ∷ []

  -- the call ends before the walk, or with what the walk found
  module _ (f : ℕ) (e : f ≡ first (open_checks_of s rows r blocks)) where
    pub open_refused : (f ≡ 0 → ⊥) → holding f 0 s ≡ open_answer s rows r blocks
    unfolding open_refusal_of
    open_refused n =
        refused_answer f (open_refusal_of s rows r blocks) (opened s row blocks) s s s (stopped (open_checks_of s rows r blocks) late tt f e n)
        n refl

    module _ (z : f ≡ 0) where
      pub open_allowed : Framed s rows × RowIn (shape_of s) r × (length blocks ≡ record_length s)
      open_allowed =
          let h = Passed.open_checked s rows r blocks (sym e ∙ z) in
          (open_framed s rows r blocks h, row_below (shape_of s) r h.placed.row_in, h.placed.record_long)

      module _ (g : Shape) (eg : g ≡ shape_of s) where
        pub open_row_sized : Sized g rows
        open_row_sized = rw eg open_allowed.0.sized

        pub open_row_in : RowIn g r
        open_row_in = rw eg open_allowed.1

        module _ (q : Party) (eq : q ≡ party_of s) (x : List ℕ) (ex : x ≡ row_at (Lengths.row_length g) rows r) where
          -- the row that the walk goes over
          pub row_openable : length x ≡ Lengths.row_length g → Openable q x blocks
          row_openable l =
              rw eq
              (record {
                recorded = record { valid = open_allowed.0.sized.valid; length_is = open_allowed.2 };
                row_length_is = rw eg at l;
              })

          abbrev number : ℕ
          number = opened s row blocks

          module _ (o : Result ℕ Refusal) (eo : o ≡ Number.opened_row q x blocks) where
            walked : o ≡ or_nine (too_few_of s row blocks) (disagree s row blocks) number
            walked = eo ∙ rw (eq, ex, eg)

            pub open_walked : holding (refused o) (value_or_zero o) s ≡ open_answer s rows r blocks
            unfolding outcome open_refusal_of
            open_walked =
                rw walked
                (go (too_few_of s row blocks) (disagree s row blocks)
                ∙ ap (λ (k : ℕ). answer k number s s) (went_on (open_checks_of s rows r blocks) late tt f e (first late) z refl))
              where
                go : (few off : Bool) → holding (refused (or_nine few off number)) (value_or_zero (or_nine few off number)) s
                    ≡ answer (first (9 when few ∷ 13 when off ∷ [])) number s s
                go true off = refl
                go false true = refl
                go false false = refl
