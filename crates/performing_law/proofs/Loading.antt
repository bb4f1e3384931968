-- An `R` and a `T` line do what the library's loads do.
use Prim.Native.Nat.{ℕ, ◌+◌, ◌≤◌}
use mathlib.Core.Path.{◌≡◌, sym, subst, ◌∙◌}
use mathlib.Core.Bool.{true, false}
use mathlib.Core.List.{List, [], ◌∷◌}
use native.Mathlib.Omega.{arith}
use borrow.Author.Tests.{le-ltb}
use lib.ListN.{length}
use Rattle.poly.specs.Counting.{Elements}
use Rattle.shape.specs.Bounds.{last_row_at, last_triple}
use Rattle.shape.specs.Lengths.{triple_length}
use Rattle.refusal.specs.Refusal.{outcome}
use Rattle.csv_fields.specs.Fields.{written}
use Rattle.session.specs.Sessions.{shape_of}
use Rattle.session.specs.Rows.{width}
use Rattle.load.specs.Load.{load_row_answer, load_row_rows_of, load_triple_answer, load_triple_rows_of}
use Rattle.street_store.specs.Sizes.{InStreet, longest_line}
use Rattle.street_store.proofs.Keeping.{row_room}
use Rattle.street_reading.specs.Numbers.{numbers, rows_beyond, read_refusal}
use Rattle.street_states.specs.declared.State.{State}
use Rattle.street_states.specs.States.{After, session_rows}
use Rattle.street_rowlines.specs.Loads.{loading, load_step, loading_triple, load_triple_step}
use Rattle.street_startlines.proofs.Longest.{load_short}
use Rattle.street_steps.specs.Stepping.{letters_step, late_step, step}
use Rattle.performing_law.specs.Claims.{Does, StreetLoads}
use Rattle.performing_law.proofs.Heard.{says, passes}
use Rattle.performing_law.proofs.Theorems.{does_call}

module _ (letter row last : ℕ) (pack : List ℕ) (elements : Elements (row ∷ pack)) (low : row ≤ last) (k : ℕ) (many : length pack + 1 ≡ k) where
  whole_line : length (row ∷ pack) ≡ k
  whole_line = omega arith

  row_in : rows_beyond (last ∷ []) (row ∷ pack) ≡ false
  unfolding rows_beyond
  row_in = rw (le-ltb last row low)

  line_says : numbers k (written letter (row ∷ pack)) ≡ row ∷ pack
  line_says = subst (λ (j : ℕ). numbers j (written letter (row ∷ pack)) ≡ row ∷ pack) whole_line (says letter (row ∷ pack) elements)

  line_passes : read_refusal (last ∷ []) k (written letter (row ∷ pack)) ≡ 0
  line_passes =
      subst (λ (j : ℕ). read_refusal (last ∷ []) j (written letter (row ∷ pack)) ≡ 0) whole_line
      (passes letter (row ∷ pack) elements (last ∷ []) row_in)

module _ (st : State) (store : List ℕ) (started : st.started ≡ true) (i : InStreet (shape_of st.session)) (row : ℕ) (pack : List ℕ) (elements : Elements pack) where
  module _ (low : row ≤ last_row_at) (long : length pack ≡ width st.session) where
    load_letter : step st store (written 82 (row ∷ pack)) ≡ load_step st store (written 82 (row ∷ pack))
    unfolding step late_step letters_step
    load_letter =
        rw (
          started,
          le-ltb longest_line (length (written 82 (row ∷ pack))) (load_short 82 row pack low (omega (arith, row_room (shape_of st.session) i))),
        )

    load_numbers : load_step st store (written 82 (row ∷ pack)) ≡ loading st store (row ∷ pack)
    unfolding load_step outcome
    load_numbers =
        let k : ℕ = 1 + width st.session in
        rw (
          line_passes 82 row last_row_at pack (omega arith, elements) low k (omega arith),
          line_says 82 row last_row_at pack (omega arith, elements) low k (omega arith),
        )

    abbrev LoadDone : After → Type 0
    LoadDone a =
        Does st store (load_row_answer st.session (session_rows st store) row pack) (load_row_rows_of st.session (session_rows st store) row pack) a

    load_called : LoadDone (loading st store (row ∷ pack))
    unfolding loading
    load_called = does_call st store started _ _

    load_done : LoadDone (step st store (written 82 (row ∷ pack)))
    load_done = subst LoadDone (sym (load_letter ∙ load_numbers)) load_called

  module _ (low : row ≤ last_triple) (long : length pack ≡ triple_length (shape_of st.session)) where
    triple_letter : step st store (written 84 (row ∷ pack)) ≡ load_triple_step st store (written 84 (row ∷ pack))
    unfolding step late_step letters_step
    triple_letter =
        rw (
          started,
          le-ltb longest_line (length (written 84 (row ∷ pack)))
              (load_short 84 row pack (omega arith) (omega (arith, row_room (shape_of st.session) i))),
        )

    triple_numbers : load_triple_step st store (written 84 (row ∷ pack)) ≡ loading_triple st store (row ∷ pack)
    unfolding load_triple_step outcome
    triple_numbers =
        let k : ℕ = 1 + triple_length (shape_of st.session) in
        rw (
          line_passes 84 row last_triple pack (omega arith, elements) low k (omega arith),
          line_says 84 row last_triple pack (omega arith, elements) low k (omega arith),
        )

    abbrev TripleDone : After → Type 0
    TripleDone a =
        Does st store (load_triple_answer st.session (session_rows st store) row pack)
        (load_triple_rows_of st.session (session_rows st store) row pack) a

    triple_called : TripleDone (loading_triple st store (row ∷ pack))
    unfolding loading_triple
    triple_called = does_call st store started _ _

    triple_done : TripleDone (step st store (written 84 (row ∷ pack)))
    triple_done = subst TripleDone (sym (triple_letter ∙ triple_numbers)) triple_called

pub street_loads : StreetLoads
street_loads st store started i =
    record {
      load = λ row pack low long elements. load_done st store started i row pack elements low long;
      triple = λ first pack low long elements. triple_done st store started i first pack elements low long;
    }
