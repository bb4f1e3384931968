-- Between the functions of the code: the order of a line, what it leads to, and that this is what the line does. No theorem is stated with
-- these.
use Rattle.std.specs.Prelude.{ℕ, ◌+◌, ◌≤◌, ◌≡◌, List, Bool, true, false, cond, ◌||◌, length, get_or, take, eqb}
use Rattle.shape.specs.declared.Shape.{Shape}
use Rattle.shape.specs.Lengths.{v_length, masks_length, triple_length}
use Rattle.refusal.specs.Refusal.{outcome}
use Rattle.forms.specs.Forms.{message}
use Rattle.lines.specs.declared.Line.{Line}
use Rattle.lines.specs.Reading.{read_refusal, line_as, list_as}
use Rattle.street_reading.specs.Numbers as Numbers
use Rattle.street_reading.specs.Starting.{is_start_of}
use Rattle.session.specs.Sessions.{shape_of}
use Rattle.session.specs.Rows.{width}
use Rattle.street_store.specs.Sizes.{InStreet}
use Rattle.street_states.specs.declared.State.{State}
use Rattle.street_states.specs.States.{After, refusing, leaving}
use Rattle.street_startlines.specs.Steps.{start_step}
use Rattle.street_rowlines.specs.Loads.{loading, loading_triple}
use Rattle.street_rowlines.specs.Steps.{adding, opening}
use Rattle.street_finishlines.specs.Masks.{masking_of, mask_step}
use Rattle.street_finishlines.specs.Steps.{finishing}
use Rattle.street_postlines.specs.Steps.{dealing, keep_step, keep_halves_step}
use Rattle.street_orders.specs.declared.Order.{Order}
use Rattle.street_steps.specs.Letters.{is_change}
use Rattle.street_steps.specs.Stepping.{access_step, step, letters_step, late_step}

abbrev pub refused_order : ℕ → Order
refused_order x = record { letter = 0; refusal = x; row = 0; post = 0 }

abbrev pub order_of : ℕ → ℕ → Order
order_of letter x = outcome x (record { letter = letter; refusal = 0; row = 0; post = 0 }) (refused_order x)

-- 83 stands for a start line of either letter.
abbrev pub early_order : List ℕ → Order
early_order s = cond (is_start_of s) (order_of 83 0) (refused_order 1)

abbrev pub said_order : Line → Order
said_order l = record { letter = l.letter; refusal = l.refusal; row = l.row; post = l.post }

-- What an order leads to: a change of the session,
unfoldable pub changing : State → List ℕ → Order → List ℕ → List ℕ → After
changing st store o xs s =
    let letter = o.letter in
    cond (eqb letter 68) (dealing st store o.row (get_or xs 0 0))
    (cond (eqb letter 82) (loading st store (take (1 + width st.session) xs))
    (cond (eqb letter 84) (loading_triple st store (take (1 + triple_length (shape_of st.session)) xs))
    (cond (eqb letter 76) (adding st store xs)
    (cond (eqb letter 88) (masking_of st store xs)
    (cond (eqb letter 70) (finishing st store (get_or xs 0 0))
    (cond (eqb letter 65) (access_step st store s)
    (leaving (start_step st s) store)))))))

-- or a look, which leaves it as it is.
unfoldable pub looking : State → List ℕ → Order → List ℕ → After
looking st store o xs =
    let letter = o.letter in
    let g = shape_of st.session in
    cond (eqb letter 71) (opening st store xs)
    (cond (eqb letter 79) (keep_step st store o.row o.post (take (v_length g) xs))
    (cond (eqb letter 77) (keep_halves_step st store o.row o.post (take (masks_length g) xs))
    (leaving (refusing st o.refusal) store)))

abbrev pub acting : State → List ℕ → Order → List ℕ → List ℕ → After
acting st store o xs s = cond (is_change o.letter) (changing st store o xs s) (looking st store o xs)

-- k numbers behind a letter, of which the first are rows.
pub record Numbered (letter : ℕ) (lasts : List ℕ) (k : ℕ) (s : List ℕ) (o : Order) (xs : List ℕ) : Type 0 where
  pub order_is : o ≡ order_of letter (Numbers.read_refusal lasts k s)
  pub numbers_are : Numbers.read_refusal lasts k s ≡ 0 → take k xs ≡ Numbers.numbers k s

-- A broadcast line, whose numbers stand at the start of a list.
pub record Heard (g : Shape) (s : List ℕ) (o : Order) (xs : List ℕ) : Type 0 where
  pub before : List ℕ
  pub room : length before ≡ masks_length g
  pub order_is : o ≡ said_order (line_as (read_refusal g.n g.t g.points s before) (message (v_length g) s))
  pub numbers_are : take (masks_length g) xs ≡ list_as (read_refusal g.n g.t g.points s before) (message (v_length g) s) before

-- The post of an `O` or an `M` is one of the station's.
abbrev pub is_kept : ℕ → Bool
is_kept l = eqb l 79 || eqb l 77

-- The order leads to what is said of the line, whatever the store.
pub record Leads (g : Shape) (s : List ℕ) (o : Order) (xs : List ℕ) (new : State → List ℕ → After) : Type 0 where
  pub says : (st : State) (store : List ℕ) → shape_of st.session ≡ g → acting st store o xs s ≡ new st store
  pub post_in : is_kept o.letter ≡ true → (1 ≤ o.post) × (o.post ≤ g.n)
  pub no_start : o.letter ≡ 83 → ⊥

abbrev pub lettered : List ℕ → State → List ℕ → After
lettered s st store = cond (eqb (get_or s 0 0) 88) (mask_step st store s) (letters_step st store s)

abbrev pub lated : List ℕ → State → List ℕ → After
lated s st store = late_step st store s

-- A session that was accepted is one of the street's.
pub record Accepted (started : Bool) (g : Shape) : Type 0 where
  pub in_range : started ≡ true → InStreet g

-- The order of a line leads to what the line does.
pub record Reads (started : Bool) (g : Shape) (s : List ℕ) (o : Order) (xs : List ℕ) : Type 0 where
  pub says : (st : State) (store : List ℕ) → st.started ≡ started → shape_of st.session ≡ g → acting st store o xs s ≡ step st store s
  pub post_in : is_kept o.letter ≡ true → (1 ≤ o.post) × (o.post ≤ g.n)
  pub late : (o.letter ≡ 83 → ⊥) → (o.letter ≡ 0 → ⊥) → started ≡ true
  pub early : o.letter ≡ 83 → started ≡ false
