-- Between the functions of the code: what a change and a look hand back, and what they are of the step. No theorem is stated with these.
use Rattle.std.specs.Prelude.{ℕ, ◌≤◌, ◌≡◌, List, [], Bool, true, false, cond, get_or, take, drop, eqb}
use Rattle.shape.specs.declared.Shape.{Shape}
use Rattle.shape.specs.Lengths.{v_length, masks_length}
use Rattle.refusal.specs.Refusal.{outcome}
use Rattle.forms.specs.Lines as Lines
use Rattle.session.specs.declared.Session.{Session}
use Rattle.session.specs.declared.Answer.{Answer}
use Rattle.session.specs.Sessions.{shape_of, holding}
use Rattle.opening.specs.Opening.{open_answer}
use Rattle.street_store.specs.Sizes.{InStreet, street_posts, openings_at, masks_a_at, masks_b_at}
use Rattle.street_store.specs.Records.{record_for, kept}
use Rattle.street_states.specs.declared.State.{State}
use Rattle.street_states.specs.States.{After, rows_of, settled}
use Rattle.street_orders.specs.declared.Order.{Order}
use Rattle.street_interpreter.specs.declared.Outcome.{Outcome}
use Rattle.street_steps.specs.Letters.{is_change}
use Rattle.street_orders.specs.Orders.{is_kept, changing, looking}

abbrev pub held : Session → Bool → ℕ → ℕ → State
held s started kept triple = record { session = s; started = started; kept = kept; triple = triple }

-- What is printed behind the answer: the M line of an `X` that is not refused.
abbrev pub told_by : ℕ → ℕ → Session → List ℕ → List ℕ → List ℕ
told_by letter refusal s xs ms =
    cond (eqb letter 88) (outcome refusal (Lines.text (Lines.masks (get_or xs 2 0) s.post (take (masks_length (shape_of s)) ms))) []) []

-- What a change leaves: where it is refused the session stays; a start line that is not starts the program.
unfoldable pub changed : State → ℕ → List ℕ → Answer → List ℕ → List ℕ → After
changed st letter xs a store ms =
    let b = settled st.session a in
    let told = told_by letter a.refusal st.session xs ms in
    record {
      given =
          record {
            state = held b.session (cond (eqb letter 83) (eqb b.refusal 0) st.started) st.kept st.triple;
            refusal = b.refusal;
            value = 0;
          };
      store = store;
      told = told;
    }

-- What a look leaves.
abbrev pub looked : State → Outcome → List ℕ → After
looked st v store =
    record {
      given = record { state = held st.session st.started v.kept v.triple; refusal = v.refusal; value = v.value };
      store = store;
      told = [];
    }

-- An order that may be carried out: the session is one of the street's, but for a start line; the post of an `O` or an `M` is one of the station's.
pub record Able (s : Session) (o : Order) : Type 0 where
  pub street : (o.letter ≡ 83 → ⊥) → (o.letter ≡ 0 → ⊥) → InStreet (shape_of s)
  pub post_in : is_kept o.letter ≡ true → (1 ≤ o.post) × (o.post ≤ s.n)

-- A letter of a change that is none of the long ones: no `A`, no `F`, no start line.
pub record Brief (l : ℕ) : Type 0 where
  pub changes : is_change l ≡ true
  pub no_a : l ≡ 65 → ⊥
  pub no_f : l ≡ 70 → ⊥
  pub no_s : l ≡ 83 → ⊥

pub record Changed (s : Session) (triple : ℕ) (o : Order) (xs line store : List ℕ) (a : Answer) (store' ms : List ℕ) : Type 0 where
  pub says : (started : Bool) (kept : ℕ) → (o.letter ≡ 83 → started ≡ false)
      → changed (held s started kept triple) o.letter xs a store' ms ≡ changing (held s started kept triple) store o xs line
  pub stays : a.session ≡ (settled s a).session
  pub post_in : o.letter ≡ 88 → a.refusal ≡ 0 → s.post ≤ street_posts

-- The same of an `F`, whatever the line and the masks,
pub record Finished (s : Session) (triple : ℕ) (o : Order) (xs store : List ℕ) (a : Answer) (store' : List ℕ) : Type 0 where
  pub says : (line ms : List ℕ) → Changed s triple o xs line store a store' ms

-- and of an `A` or a start line, which need the line alone.
pub record Alone (s : Session) (o : Order) (line : List ℕ) (a : Answer) : Type 0 where
  pub says : (triple : ℕ) (xs store ms : List ℕ) → Changed s triple o xs line store a store ms

pub record Looked (s : Session) (kept triple : ℕ) (o : Order) (xs store : List ℕ) (v : Outcome) (store' : List ℕ) : Type 0 where
  pub says : (started : Bool) → looked (held s started kept triple) v store' ≡ looking (held s started kept triple) store o xs

-- A `G`: the row's number, and nothing else.
pub record Opened (s : Session) (kept triple : ℕ) (store : List ℕ) (row : ℕ) (v : Outcome) : Type 0 where
  pub says : holding v.refusal v.value s
      ≡ open_answer s (rows_of s store) row (record_for openings_at (shape_of s) kept row store)
  pub kept_same : v.kept ≡ kept
  pub triple_same : v.triple ≡ triple

-- An `O` and an `M`: a post's numbers in the records, and the row, or the triple, that these are kept for.
pub record OpeningKept (g : Shape) (keptRow triple : ℕ) (o : Order) (xs store : List ℕ) (v : Outcome) (store' : List ℕ) : Type 0 where
  pub is : v ≡ record { refusal = 0; value = 0; kept = o.row; triple = triple }
  pub stored : store' ≡ kept openings_at g (eqb keptRow o.row) o.post (take (v_length g) xs) store

pub record HalvesKept (g : Shape) (keptRow triple : ℕ) (o : Order) (xs store : List ℕ) (v : Outcome) (store' : List ℕ) : Type 0 where
  pub is : v ≡ record { refusal = 0; value = 0; kept = keptRow; triple = o.row }
  pub stored : store'
      ≡ kept masks_b_at g (eqb triple o.row) o.post (drop (v_length g) (take (masks_length g) xs))
      (kept masks_a_at g (eqb triple o.row) o.post (take (v_length g) (take (masks_length g) xs)) store)
