-- Document 01: "`O` lines are kept for one row: one for another row empties the record first, a second from one post replaces the first";
-- document 02, (iii): "`M` lines, kept for one triple as `O` lines are for a row". What such a line leaves, told by the library's own call
-- that puts a message into a record. Proved in proofs/Keeping.antt.
use Rattle.std.specs.Prelude.{ℕ, ◌≤◌, ◌≡◌, true, List, ◌∷◌, ◌++◌, length}
use Rattle.poly.specs.Counting.{Elements}
use Rattle.shape.specs.Bounds.{last_row_at, last_triple}
use Rattle.shape.specs.Lengths.{v_length}
use Rattle.csv_fields.specs.Fields.{written}
use Rattle.session.specs.declared.Session.{Session}
use Rattle.session.specs.Sessions.{shape_of}
use Rattle.records.specs.Records.{put_record}
use Rattle.street_store.specs.Sizes.{openings_at, masks_a_at, masks_b_at}
use Rattle.street_store.specs.Records.{record_at, record_for}
use Rattle.street_states.specs.declared.State.{State}
use Rattle.street_states.specs.States.{After, keeping_row, keeping_triple, refusing, session_rows}
use Rattle.street_steps.specs.Stepping.{step, Ready}

module _ (st : State) (store : List ℕ) where
  abbrev own : Session
  own = st.session

  abbrev coefficients : ℕ
  coefficients = v_length (shape_of own)

  -- The session's rows are as they were; the three records are these.
  pub record Stored (openings masks_a masks_b : List ℕ) (a : After) : Type 0 where
    pub rows : session_rows st a.store ≡ session_rows st store
    pub openings_are : record_at openings_at (shape_of own) a.store ≡ openings
    pub masks_a_are : record_at masks_a_at (shape_of own) a.store ≡ masks_a
    pub masks_b_are : record_at masks_b_at (shape_of own) a.store ≡ masks_b

  abbrev was : ℕ → List ℕ
  was at = record_at at (shape_of own) store

  -- the library's call, on the record at a place
  abbrev put : ℕ → ℕ → ℕ → ℕ → List ℕ → List ℕ
  put at kept named post xs = put_record own.n own.t own.points (record_for at (shape_of own) kept named store) post xs

  -- "`O,row,post,` t+1 coefficients"
  abbrev pub OpeningLine : Type 0
  OpeningLine =
      (row post : ℕ) (xs : List ℕ) → row ≤ last_row_at → 1 ≤ post → post ≤ own.n → length xs ≡ coefficients → Elements xs
      → (let a = step st store (written 79 (row ∷ post ∷ xs)) in
      (a.given ≡ refusing (keeping_row st row) 0)
      × Stored (put openings_at st.kept row post xs) (was masks_a_at) (was masks_b_at) a)

  -- "`M,first row of triple,post,` t+1 coefficients of a − l, then t+1 of b − l'": each half goes to its own record, which `F` opens with
  abbrev pub MasksKeptLine : Type 0
  MasksKeptLine =
      (first post : ℕ) (xs ys : List ℕ) → first ≤ last_triple → 1 ≤ post → post ≤ own.n → length xs ≡ coefficients → length ys ≡ coefficients
      → Elements xs → Elements ys
      → (let a = step st store (written 77 (first ∷ post ∷ (xs ++ ys))) in
      (a.given ≡ refusing (keeping_triple st first) 0)
      × Stored (was openings_at) (put masks_a_at st.triple first post xs) (put masks_b_at st.triple first post ys) a)

-- Once a start line was accepted, between lines.
pub record RecordsKept (st : State) (store : List ℕ) : Type 0 where
  pub opening : OpeningLine st store
  pub masks : MasksKeptLine st store

abbrev pub StreetKeeps : Type 0
StreetKeeps = (st : State) (store : List ℕ) → st.started ≡ true → Ready st store → RecordsKept st store
