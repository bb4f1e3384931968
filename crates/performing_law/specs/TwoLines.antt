-- Document 01: "`O` lines are kept for one row: one for another row empties the record first, a second from one post replaces the first, and G
-- leaves the record as it is (a G for another row opens with an empty one)"; document 02, (iii): "`M` lines, kept for one triple as `O` lines are
-- for a row". Laws over one line and over two, with an empty record written out:
-- n · (points · t + 2) zeros. Proved in proofs/TwoLines.antt.
use Rattle.std.specs.Prelude.{ℕ, ◌+◌, ◌*◌, ◌≤◌, ◌≡◌, true, List, [], ◌∷◌, ◌++◌, length, replicate}
use Rattle.poly.specs.Counting.{Elements}
use Rattle.csv_fields.specs.Fields.{written}
use Rattle.session.specs.declared.Session.{Session}
use Rattle.session.specs.Sessions.{shape_of}
use Rattle.records.specs.Records.{put_record}
use Rattle.opening.specs.Opening.{open_answer}
use Rattle.collect.specs.Collect.{collect_answer}
use Rattle.multiply.specs.Multiply.{multiply_answer, multiply_rows_of}
use Rattle.street_store.specs.Sizes.{openings_at, masks_a_at, masks_b_at}
use Rattle.street_store.specs.Records.{record_at}
use Rattle.street_states.specs.declared.State.{State}
use Rattle.street_states.specs.States.{After, session_rows}
use Rattle.street_steps.specs.Stepping.{step, Ready}
use Rattle.performing_law.specs.Claims.{Quiet, Finishes}
use Rattle.performing_law.specs.Records.{Stored}

-- The record that stands at a place of the store.
abbrev pub record_of : State → ℕ → List ℕ → List ℕ
record_of st at store = record_at at (shape_of st.session) store

-- An empty record.
abbrev pub no_blocks : State → List ℕ
no_blocks st = replicate (st.session.n * (st.session.points * st.session.t + 2)) 0

-- A post's message, put into a record by the library's call.
abbrev pub put_into : State → List ℕ → ℕ → List ℕ → List ℕ
put_into st blocks post xs = put_record st.session.n st.session.t st.session.points blocks post xs

-- An accepted line of a post: records are kept for this row and this triple now, and the rest of the state is as it was.
pub record KeptFor (st : State) (row triple : ℕ) (a : After) : Type 0 where
  pub session : a.given.state.session ≡ st.session
  pub started : a.given.state.started ≡ st.started
  pub kept : a.given.state.kept ≡ row
  pub triple_is : a.given.state.triple ≡ triple
  pub refusal : a.given.refusal ≡ 0
  pub value : a.given.value ≡ 0
  pub quiet : Quiet a

-- What an `O` or an `M` of a post may say.
pub record FromPost (own : Session) (post : ℕ) (xs : List ℕ) : Type 0 where
  pub low : 1 ≤ post
  pub high : post ≤ own.n
  pub long : length xs ≡ own.points * own.t + 1
  pub elements : Elements xs

-- The record that a line finds at a place: as it was, where it is kept for what the line names, else empty.
pub record Finds (st : State) (store : List ℕ) (at kept named : ℕ) (blocks : List ℕ) : Type 0 where
  pub same : kept ≡ named → blocks ≡ record_of st at store
  pub other : (kept ≡ named → ⊥) → blocks ≡ no_blocks st

-- A `G` of a program with this state and store: it answers as the library's open does with these rows and this record, and leaves state and
-- store, records included.
pub record Opens (own : Session) (rows : List ℕ) (st : State) (store : List ℕ) (row : ℕ) (blocks : List ℕ) (a : After) : Type 0 where
  pub refusal : a.given.refusal ≡ (open_answer own rows row blocks).refusal
  pub value : a.given.value ≡ (open_answer own rows row blocks).value
  pub state : a.given.state ≡ st
  pub store_kept : a.store ≡ store
  pub quiet : Quiet a

-- An `F` that collects with these two records and multiplies.
abbrev pub FinishesWith : Session → List ℕ → State → List ℕ → ℕ → List ℕ → List ℕ → After → Type 0
FinishesWith own rows st store first masks_a masks_b a =
    let collected = collect_answer own rows first masks_a masks_b in
    let between = collected.session in
    Finishes st store collected (multiply_answer between rows first) (multiply_rows_of between rows first) a

module _ (st : State) (store : List ℕ) where
  abbrev pub opening_line : ℕ → ℕ → List ℕ → After
  opening_line row post xs = step st store (written 79 (row ∷ post ∷ xs))

  abbrev pub masks_line : ℕ → ℕ → List ℕ → List ℕ → After
  masks_line first post xs ys = step st store (written 77 (first ∷ post ∷ (xs ++ ys)))

  abbrev pub open_line : ℕ → After
  open_line row = step st store (written 71 (row ∷ []))

  abbrev pub finish_line : ℕ → After
  finish_line first = step st store (written 70 (first ∷ []))

-- ---- one line
module _ (st : State) (store : List ℕ) where
  abbrev own : Session
  own = st.session

  abbrev rows : List ℕ
  rows = session_rows st store

  pub record OneLine : Type 0 where
    -- "one for another row empties the record first"
    pub opening : (row post : ℕ) (xs blocks : List ℕ) → row ≤ 95 → FromPost own post xs → Finds st store openings_at st.kept row blocks
        → (let a = opening_line st store row post xs in
        KeptFor st row st.triple a × Stored st store (put_into st blocks post xs) (record_of st masks_a_at store) (record_of st masks_b_at store) a)
    pub masks : (first post : ℕ) (xs ys blocks_a blocks_b : List ℕ) → first ≤ 93 → FromPost own post xs → FromPost own post ys
        → Finds st store masks_a_at st.triple first blocks_a → Finds st store masks_b_at st.triple first blocks_b
        → (let a = masks_line st store first post xs ys in
        KeptFor st st.kept first a
        × Stored st store (record_of st openings_at store) (put_into st blocks_a post xs) (put_into st blocks_b post ys) a)
    -- "G leaves the record as it is (a G for another row opens with an empty one)"
    pub opened : (row : ℕ) (blocks : List ℕ) → row ≤ 95 → Finds st store openings_at st.kept row blocks
        → Opens own rows st store row blocks (open_line st store row)
    pub finish : (first : ℕ) (blocks_a blocks_b : List ℕ) → first ≤ 93 → Finds st store masks_a_at st.triple first blocks_a
        → Finds st store masks_b_at st.triple first blocks_b → FinishesWith own rows st store first blocks_a blocks_b (finish_line st store first)

  -- ---- two lines: what follows an accepted `O` that found this record
  pub record BehindOpening (row post : ℕ) (xs blocks : List ℕ) (a : After) : Type 0 where
    pub open_same : Opens own rows a.given.state a.store row (put_into st blocks post xs) (open_line a.given.state a.store row)
    pub open_other : (row' : ℕ) → row' ≤ 95 → (row ≡ row' → ⊥)
        → Opens own rows a.given.state a.store row' (no_blocks st) (open_line a.given.state a.store row')
    pub opening_same : (post' : ℕ) (xs' : List ℕ) → FromPost own post' xs'
        → record_of st openings_at (opening_line a.given.state a.store row post' xs').store ≡ put_into st (put_into st blocks post xs) post' xs'
    pub opening_other : (row' post' : ℕ) (xs' : List ℕ) → row' ≤ 95 → (row ≡ row' → ⊥) → FromPost own post' xs'
        → record_of st openings_at (opening_line a.given.state a.store row' post' xs').store ≡ put_into st (no_blocks st) post' xs'

  -- and an accepted `M`
  pub record BehindMasks (first post : ℕ) (xs ys blocks_a blocks_b : List ℕ) (a : After) : Type 0 where
    pub finish_same : FinishesWith own rows a.given.state a.store first (put_into st blocks_a post xs) (put_into st blocks_b post ys)
        (finish_line a.given.state a.store first)
    pub finish_other : (first' : ℕ) → first' ≤ 93 → (first ≡ first' → ⊥)
        → FinishesWith own rows a.given.state a.store first' (no_blocks st) (no_blocks st) (finish_line a.given.state a.store first')
    pub masks_same : (post' : ℕ) (xs' ys' : List ℕ) → FromPost own post' xs' → FromPost own post' ys'
        → (let b = masks_line a.given.state a.store first post' xs' ys' in
        (record_of st masks_a_at b.store ≡ put_into st (put_into st blocks_a post xs) post' xs')
        × (record_of st masks_b_at b.store ≡ put_into st (put_into st blocks_b post ys) post' ys'))
    pub masks_other : (first' post' : ℕ) (xs' ys' : List ℕ) → first' ≤ 93 → (first ≡ first' → ⊥) → FromPost own post' xs' → FromPost own post' ys'
        → (let b = masks_line a.given.state a.store first' post' xs' ys' in
        (record_of st masks_a_at b.store ≡ put_into st (no_blocks st) post' xs')
        × (record_of st masks_b_at b.store ≡ put_into st (no_blocks st) post' ys'))

  pub record TwoLines : Type 0 where
    pub opening : (row post : ℕ) (xs blocks : List ℕ) → row ≤ 95 → FromPost own post xs → Finds st store openings_at st.kept row blocks
        → BehindOpening row post xs blocks (opening_line st store row post xs)
    pub masks : (first post : ℕ) (xs ys blocks_a blocks_b : List ℕ) → first ≤ 93 → FromPost own post xs → FromPost own post ys
        → Finds st store masks_a_at st.triple first blocks_a → Finds st store masks_b_at st.triple first blocks_b
        → BehindMasks first post xs ys blocks_a blocks_b (masks_line st store first post xs ys)

-- Once a start line was accepted, between lines.
abbrev pub StreetRecords : Type 0
StreetRecords = (st : State) (store : List ℕ) → st.started ≡ true → Ready st store → OneLine st store × TwoLines st store
