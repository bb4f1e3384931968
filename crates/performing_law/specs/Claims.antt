-- What a line of the street program does, told by the library's own calls, whose exports have these definitions in their contracts. Document
-- 02, (iii): "`L,dest,a,b,s,fee`", "`X,a,b,first`, which makes the masks", "`F,first`, which finishes", `T`; document 01: `D`, `G`, `R`. A
-- line of the right form, its numbers in range, leaves the session and the rows that the call leaves for these numbers in this order, and
-- answers as the call does. Proved in proofs/Theorems.antt and proofs/Loading.antt; Records.antt has `O` and `M`.
use Rattle.std.specs.Prelude.{ℕ, ◌≤◌, ◌<◌, ◌≡◌, true, List, [], ◌∷◌, ◌++◌, length, drop, replicate}
use Rattle.field.specs.Modulus.{p}
use Rattle.poly.specs.Counting.{Elements}
use Rattle.shape.specs.Bounds.{last_row_at, last_triple}
use Rattle.shape.specs.Lengths.{rows_length, masks_length, triple_length}
use Rattle.refusal.specs.Refusal.{outcome}
use Rattle.csv_fields.specs.Fields.{written}
use Rattle.session.specs.declared.Session.{Session}
use Rattle.session.specs.declared.Answer.{Answer}
use Rattle.session.specs.Sessions.{shape_of}
use Rattle.session.specs.Rows.{width}
use Rattle.access.specs.Access.{access_answer}
use Rattle.load.specs.Load.{load_row_answer, load_row_rows_of, load_triple_answer, load_triple_rows_of}
use Rattle.linear.specs.Linear.{linear_answer, linear_rows_of}
use Rattle.deal.specs.Deal.{deal_answer, deal_rows_of}
use Rattle.opening.specs.Opening.{open_answer}
use Rattle.product_masks.specs.Masks.{masks_answer, masks_out_of}
use Rattle.collect.specs.Collect.{collect_answer}
use Rattle.multiply.specs.Multiply.{multiply_answer, multiply_rows_of}
use Rattle.street_store.specs.Sizes.{openings_at, masks_a_at, masks_b_at, InStreet}
use Rattle.street_store.specs.Records.{record_for}
use Rattle.street_states.specs.declared.State.{State}
use Rattle.street_states.specs.States.{After, session_rows}
use Rattle.street_steps.specs.Stepping.{step}

-- The line left the answer's session and these rows, and nothing else has changed: the rows and triples that records are kept for stay.
-- It has the answer's refusal and value.
pub record Acts (st : State) (store : List ℕ) (given : Answer) (rows : List ℕ) (a : After) : Type 0 where
  pub session : a.given.state.session ≡ given.session
  pub started : a.given.state.started ≡ st.started
  pub kept : a.given.state.kept ≡ st.kept
  pub triple : a.given.state.triple ≡ st.triple
  pub rows_left : a.store ≡ rows ++ drop (rows_length (shape_of st.session)) store
  pub refusal : a.given.refusal ≡ given.refusal
  pub value : a.given.value ≡ given.value

-- Nothing is printed but the answer.
pub record Quiet (a : After) : Type 0 where
  pub told : a.told ≡ []

pub record Does (st : State) (store : List ℕ) (given : Answer) (rows : List ℕ) (a : After) : Type 0 where
  pub acts : Acts st store given rows a
  pub quiet : Quiet a

module _ (st : State) (store : List ℕ) where
  abbrev own : Session
  own = st.session

  abbrev rows : List ℕ
  rows = session_rows st store

  -- "`L,dest,a,b,s,fee`"
  abbrev pub LinearLine : Type 0
  LinearLine =
      (dest a b scale fee : ℕ) → dest ≤ last_row_at → a ≤ last_row_at → b ≤ last_row_at → scale < p → fee < p
      → Does st store (linear_answer own rows dest a b scale fee) (linear_rows_of own rows dest a b scale fee)
      (step st store (written 76 (dest ∷ a ∷ b ∷ scale ∷ fee ∷ [])))

  -- "`X,a,b,first`, which makes the masks": no row is written; "X, when not refused, also prints its M line", of the numbers that the call writes.
  abbrev pub MasksLine : Type 0
  MasksLine =
      (a b first : ℕ) → a ≤ last_row_at → b ≤ last_row_at → first ≤ last_triple
      → (let lent : List ℕ = replicate (masks_length (shape_of own)) 0 in
      let given = masks_answer own rows a b first lent in
      let line = step st store (written 88 (a ∷ b ∷ first ∷ [])) in
      Acts st store given rows line
      × (line.told ≡ outcome given.refusal (written 77 (first ∷ own.post ∷ masks_out_of own rows a b first lent)) []))

  -- "`D,row,c`"
  abbrev pub DealLine : Type 0
  DealLine =
      (row c : ℕ) → row ≤ last_row_at → c < p
      → Does st store (deal_answer own rows row c) (deal_rows_of own rows row c) (step st store (written 68 (row ∷ c ∷ [])))

  -- "`G,row`, which opens the row", with the record that is kept for it, or an empty one
  abbrev pub OpenLine : Type 0
  OpenLine =
      (row : ℕ) → row ≤ last_row_at
      → Does st store (open_answer own rows row (record_for openings_at (shape_of own) st.kept row store)) rows (step st store (written 71 (row ∷ [])))

  -- "`F,first`, which finishes", with the two records that are kept for the triple, or empty ones: collect, and where it was not refused
  -- multiply, with the session that collect hands back. Where either is refused nothing changes.
  pub record Finishes (collected multiplied : Answer) (product : List ℕ) (a : After) : Type 0 where
    pub not_collected : (collected.refusal ≡ 0 → ⊥) → Does st store collected rows a
    pub not_multiplied : collected.refusal ≡ 0 → (multiplied.refusal ≡ 0 → ⊥)
        → (a.given.refusal ≡ multiplied.refusal) × (a.given.state ≡ st) × (a.store ≡ store) × Quiet a
    pub done : collected.refusal ≡ 0 → multiplied.refusal ≡ 0 → Does st store multiplied product a

  abbrev pub FinishLine : Type 0
  FinishLine =
      (first : ℕ) → first ≤ last_triple
      → (let masks_a = record_for masks_a_at (shape_of own) st.triple first store in
      let masks_b = record_for masks_b_at (shape_of own) st.triple first store in
      let collected = collect_answer own rows first masks_a masks_b in
      let between = collected.session in
      Finishes collected (multiply_answer between rows first) (multiply_rows_of between rows first) (step st store (written 70 (first ∷ []))))

  -- "`R,row,` and a raw row's numbers"
  abbrev pub LoadLine : Type 0
  LoadLine =
      (row : ℕ) (pack : List ℕ) → row ≤ last_row_at → length pack ≡ width own → Elements pack
      → Does st store (load_row_answer own rows row pack) (load_row_rows_of own rows row pack) (step st store (written 82 (row ∷ pack)))

  -- "`T,first,` and a triple's three rows of numbers"
  abbrev pub TripleLine : Type 0
  TripleLine =
      (first : ℕ) (pack : List ℕ) → first ≤ last_triple → length pack ≡ triple_length (shape_of own) → Elements pack
      → Does st store (load_triple_answer own rows first pack) (load_triple_rows_of own rows first pack) (step st store (written 84 (first ∷ pack)))

  -- Document 02, (xi): "A line `A,row,` and rising post numbers .., read by a new call on the session that the street program uses too": whatever stands
  -- behind the letter. No row is written, and no record.
  abbrev pub AccessLine : Type 0
  AccessLine =
      (rest : List ℕ) → length (65 ∷ rest) ≤ 5252
      → (let a = step st store (65 ∷ rest) in Does st store (access_answer own (65 ∷ rest)) rows a × (a.store ≡ store))

-- Once a start line was accepted.
pub record LinesPerform (st : State) (store : List ℕ) : Type 0 where
  pub linear : LinearLine st store
  pub masks : MasksLine st store
  pub deal : DealLine st store
  pub opened : OpenLine st store
  pub finish : FinishLine st store
  pub access : AccessLine st store

abbrev pub StreetPerforms : Type 0
StreetPerforms = (st : State) (store : List ℕ) → st.started ≡ true → LinesPerform st store

-- The same of the long lines, with n up to 32, where none is too long.
pub record LoadsPerform (st : State) (store : List ℕ) : Type 0 where
  pub load : LoadLine st store
  pub triple : TripleLine st store

abbrev pub StreetLoads : Type 0
StreetLoads = (st : State) (store : List ℕ) → st.started ≡ true → InStreet (shape_of st.session) → LoadsPerform st store
