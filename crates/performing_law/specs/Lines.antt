-- The refusals of the street program once a start line was accepted, one table for every letter. Document 01: "a second `S` then gets 10, as does
-- any other letter and any line over 1,061 bytes with its line feed" (document 02, (ix): 5,252, and "a second start line of either letter gets 10"). "A line's
-- form is looked at first: .. other lines get 10, then 11, then what the call answers." Bounds and counts are figures, not the names of `shape` and
-- `street_store`; the number of a post's check points is the session's. Proved in proofs/Lines.antt.
use Rattle.std.specs.Prelude.{ℕ, ◌+◌, ◌*◌, ◌-◌, ◌<◌, ◌≡◌, Bool, true, false, not, ◌||◌, ◌&&◌, List, [], ◌∷◌, ◌++◌, eqb, ltb, length, get_or, drop, replicate}
use Rattle.refusal.specs.Refusal.{Test, ◌when◌, first, or_else}
use Rattle.refusal.specs.Conditions.{outside}
use Rattle.csv_fields.specs.Fields.{written}
use Rattle.session.specs.declared.Session.{Session}
use Rattle.access.specs.Access as Access
use Rattle.access.specs.Claims.{access_text}
use Rattle.load.specs.Load.{load_row_answer, load_triple_answer}
use Rattle.linear.specs.Linear.{linear_answer}
use Rattle.deal.specs.Deal.{deal_answer}
use Rattle.opening.specs.Opening.{open_answer}
use Rattle.product_masks.specs.Masks.{masks_answer}
use Rattle.collect.specs.Collect.{collect_answer}
use Rattle.multiply.specs.Multiply.{multiply_answer}
use Rattle.street_store.specs.Sizes.{openings_at, masks_a_at, masks_b_at}
use Rattle.session.specs.Sessions.{shape_of}
use Rattle.street_store.specs.Records.{record_for}
use Rattle.street_states.specs.declared.State.{State}
use Rattle.street_states.specs.States.{session_rows}
use Rattle.street_steps.specs.Stepping.{step}

-- "A number has 1 to 10 digits".
abbrev pub TenDigits : List ℕ → Type 0
TenDigits [] = Unit {0}
TenDigits (x ∷ xs) = (x < 10000000000) × TenDigits xs

-- The bytes are a letter, a comma before each of some numbers, and a line feed.
pub record Spelled (letter : ℕ) (s : List ℕ) : Type 0 where
  pub numbers : List ℕ
  pub short : TenDigits numbers
  pub text : s ≡ written letter numbers

-- 11: "element at least p, row above 95 (a triple's first above 93), post outside 1..n". The first numbers of a line have ranges of their own.
pub data Range : Type 0 where
  ◌to◌ : ℕ → ℕ → Range

infix 80 ◌to◌
abbrev pub any_outside : List Range → List ℕ → Bool
any_outside ranges [] = false
any_outside [] (x ∷ xs) = ltb 2147483646 x || any_outside [] xs
any_outside (low to high ∷ ranges) (x ∷ xs) = (ltb x low || ltb high x) || any_outside ranges xs

-- 10 and 11 of a line that is written from numbers.
abbrev pub line_table : ℕ → ℕ → List Range → List ℕ → List Test
line_table letter count ranges xs =
    10 when ltb 5252 (length (written letter xs))
    ∷ 10 when not (eqb (length xs) count)
    ∷ 11 when any_outside ranges xs
    ∷ []

-- `R`, `T`, `D`, `O`, `M`, `G`, `L`, `X`, `F` and `A`
abbrev pub letters : List ℕ
letters = 82 ∷ 84 ∷ 68 ∷ 79 ∷ 77 ∷ 71 ∷ 76 ∷ 88 ∷ 70 ∷ 65 ∷ []

-- `S` and `W`
abbrev pub start_letters : List ℕ
start_letters = 83 ∷ 87 ∷ []

abbrev pub is_one_of : List ℕ → ℕ → Bool
is_one_of [] b = false
is_one_of (x ∷ xs) b = eqb b x || is_one_of xs b

module _ (st : State) (store : List ℕ) where
  abbrev pub refusal_of : List ℕ → ℕ
  refusal_of s = (step st store s).given.refusal

  -- A letter with so many numbers behind it, the first of them in these ranges, and the refusal of the call that it makes with them.
  pub record Letter (letter count : ℕ) (ranges : List Range) (call : List ℕ → ℕ) : Type 0 where
    -- bytes of any other form get 10
    pub spelled : (rest : List ℕ) → (refusal_of (letter ∷ rest) ≡ 10 → ⊥) → Spelled letter (letter ∷ rest)
    -- "10, then 11, then what the call answers"
    pub refusal : (xs : List ℕ) → TenDigits xs → refusal_of (written letter xs) ≡ or_else (first (line_table letter count ranges xs)) (call xs)

  abbrev own : Session
  own = st.session

  abbrev n : ℕ
  n = own.n

  abbrev t : ℕ
  t = own.t

  -- of a polynomial v: "t+1 coefficients", with two points "2t+1"
  abbrev pub v_numbers : ℕ
  v_numbers = own.points * t + 1

  -- "t+1+2n elements", with two points "2t+1+3n numbers"
  abbrev pub row_numbers : ℕ
  row_numbers = v_numbers + own.points * n + n

  abbrev rows : List ℕ
  rows = session_rows st store

  -- ---- what the calls answer
  abbrev pub load_call : List ℕ → ℕ
  load_call xs = (load_row_answer own rows (get_or xs 0 0) (drop 1 xs)).refusal

  abbrev pub triple_call : List ℕ → ℕ
  triple_call xs = (load_triple_answer own rows (get_or xs 0 0) (drop 1 xs)).refusal

  abbrev pub deal_call : List ℕ → ℕ
  deal_call xs = (deal_answer own rows (get_or xs 0 0) (get_or xs 1 0)).refusal

  abbrev pub open_call : List ℕ → ℕ
  open_call xs = (open_answer own rows (get_or xs 0 0) (record_for openings_at (shape_of own) st.kept (get_or xs 0 0) store)).refusal

  abbrev pub linear_call : List ℕ → ℕ
  linear_call xs = (linear_answer own rows (get_or xs 0 0) (get_or xs 1 0) (get_or xs 2 0) (get_or xs 3 0) (get_or xs 4 0)).refusal

  abbrev pub masks_call : List ℕ → ℕ
  masks_call xs = (masks_answer own rows (get_or xs 0 0) (get_or xs 1 0) (get_or xs 2 0) (replicate (2 * v_numbers) 0)).refusal

  abbrev pub finish_call : List ℕ → ℕ
  finish_call xs =
      let first = get_or xs 0 0 in
      let masks_a = record_for masks_a_at (shape_of own) st.triple first store in
      let masks_b = record_for masks_b_at (shape_of own) st.triple first store in
      let collected = collect_answer own rows first masks_a masks_b in
      or_else collected.refusal (multiply_answer collected.session rows first).refusal

  -- an `O` and an `M` are put into a record, and that is not refused
  abbrev pub no_call : List ℕ → ℕ
  no_call xs = 0

  -- ---- "`A,row,` and rising post numbers (`A,row,` alone for none)": the library's call reads the line
  -- It looks first at 1 to 4 of the session, which no session of a start line has.
  abbrev pub own_table : List Test
  own_table =
      1 when outside 2 255 n
      ∷ 2 when outside 1 (n - 1) t
      ∷ 3 when outside 1 n own.post
      ∷ 4 when (outside 1 2 own.points || (outside 1 2147483646 own.first || (eqb own.points 2 && outside 1 2147483646 own.second)))
      ∷ []

  -- "Numbers that don't rise get 10, then a post outside 1..n gets 11, then a row not raw gets 7."
  abbrev pub access_table : ℕ → List ℕ → List Test
  access_table row posts =
      10 when ltb 5252 (length (access_text row posts))
      ∷ (own_table
      ++ (10 when not (Access.rising posts)
      ∷ 11 when (ltb 95 row || Access.any_outside n posts)
      ∷ 7 when not (eqb (get_or own.marks row 0) 1)
      ∷ []))

  pub record AccessLetter : Type 0 where
    pub refusal : (row : ℕ) (posts : List ℕ) → TenDigits (row ∷ posts) → refusal_of (access_text row posts) ≡ first (access_table row posts)
    -- bytes of any other form get 10
    pub spelled : first own_table ≡ 0 → (rest : List ℕ) → (refusal_of (65 ∷ rest) ≡ 10 → ⊥)
        → (row : ℕ) × (posts : List ℕ) × TenDigits (row ∷ posts) × (65 ∷ rest ≡ access_text row posts)
    -- `A,row` without the second comma
    pub one_comma : first own_table ≡ 0 → (row : ℕ) → TenDigits (row ∷ []) → refusal_of (written 65 (row ∷ [])) ≡ 10

  -- ---- the table
  pub record LineTable : Type 0 where
    pub overlong : (s : List ℕ) → 5252 < length s → refusal_of s ≡ 10
    pub second_start : (b : ℕ) (rest : List ℕ) → is_one_of start_letters b ≡ true → refusal_of (b ∷ rest) ≡ 10
    pub no_letter : refusal_of [] ≡ 10
    pub other_letter : (b : ℕ) (rest : List ℕ) → is_one_of letters b ≡ false → refusal_of (b ∷ rest) ≡ 10
    -- "`R,row,` and a raw row's numbers"
    pub load : Letter 82 (1 + row_numbers) (0 to 95 ∷ []) load_call
    -- "`T,first,` and a triple's three rows of numbers"
    pub triple : Letter 84 (1 + 3 * row_numbers) (0 to 93 ∷ []) triple_call
    -- "`D,row,c`"
    pub deal : Letter 68 2 (0 to 95 ∷ []) deal_call
    -- "`O,row,post,` t+1 coefficients"
    pub opening : Letter 79 (2 + v_numbers) (0 to 95 ∷ 1 to n ∷ []) no_call
    -- "`M,first row of triple,post,` t+1 coefficients of a − l, then t+1 of b − l'"
    pub masks : Letter 77 (2 + 2 * v_numbers) (0 to 93 ∷ 1 to n ∷ []) no_call
    -- "`G,row`"
    pub opened : Letter 71 1 (0 to 95 ∷ []) open_call
    -- "`L,dest,a,b,s,fee`"
    pub linear : Letter 76 5 (0 to 95 ∷ 0 to 95 ∷ 0 to 95 ∷ []) linear_call
    -- "`X,a,b,first`"
    pub mask : Letter 88 3 (0 to 95 ∷ 0 to 95 ∷ 0 to 93 ∷ []) masks_call
    -- "`F,first`"
    pub finish : Letter 70 1 (0 to 93 ∷ []) finish_call
    -- "`A,row,`" and posts
    pub access : AccessLetter

-- Once a start line was accepted, whatever the store.
abbrev pub StreetTable : Type 0
StreetTable = (st : State) (store : List ℕ) → st.started ≡ true → LineTable st store
