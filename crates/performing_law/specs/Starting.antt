-- The street program until a start line is accepted. Document 01: "A line whose first field is `S` is an `S`, however long. Until one is accepted
-- any other line gets 1, an overlong one too"; "an `S` gets 10, then 1 to 4"; "In `S` the field t may be `-`", which document 02, (x), has mean half of n; (ix): "starts with
-- `W,n,t,post,first,second`, by all the rules of an `S`". A post's check points are a list here: of one in an `S`, of two in a `W`. Bounds are figures,
-- bytes are bytes: 83 is `S`, 87 `W`, 44 a comma, 45 a dash, 10 a line feed. Proved in proofs/Starting.antt.
use Rattle.std.specs.Prelude.{ℕ, ◌+◌, ◌*◌, ◌-◌, ◌≤◌, ◌<◌, ◌≡◌, Bool, true, false, ◌||◌, cond, List, [], ◌∷◌, ◌++◌, eqb, ltb, length, get_or}
use Rattle.refusal.specs.Refusal.{Test, ◌when◌, first}
use Rattle.decimal.specs.Numeral.{numeral}
use Rattle.csv_fields.specs.Fields.{fields, written}
use Rattle.session.specs.Claims.{fresh_session}
use Rattle.street_states.specs.declared.State.{State}
use Rattle.street_states.specs.States.{After}
use Rattle.street_steps.specs.Stepping.{step}
use Rattle.performing_law.specs.Claims.{Quiet}
use Rattle.performing_law.specs.Lines.{TenDigits, start_letters, is_one_of, refusal_of}

-- ---- the bytes of a start line
abbrev pub OneOrTwo : List ℕ → Type 0
OneOrTwo ws = (1 ≤ length ws) × (length ws ≤ 2)

-- `S` with one check point, `W` with two
abbrev pub start_letter_of : List ℕ → ℕ
start_letter_of ws = cond (eqb (length ws) 2) 87 83

-- `S,n,t,post,w`, `W,n,t,post,first,second`
abbrev pub figured : ℕ → ℕ → ℕ → List ℕ → List ℕ
figured n t post ws = written (start_letter_of ws) (n ∷ t ∷ post ∷ ws)

-- the same with a dash for t
abbrev pub dashed : ℕ → ℕ → List ℕ → List ℕ
dashed n post ws = start_letter_of ws ∷ 44 ∷ (numeral n ++ (44 ∷ 45 ∷ (fields (post ∷ ws) ++ (10 ∷ []))))

-- The bytes of a start line: its numbers, or a dash for t.
pub data StartText (s : List ℕ) : Type 0 where
  in_figures : (n t post : ℕ) (ws : List ℕ) → OneOrTwo ws → TenDigits (n ∷ t ∷ post ∷ ws) → s ≡ figured n t post ws → StartText s
  with_dash : (n post : ℕ) (ws : List ℕ) → OneOrTwo ws → TenDigits (n ∷ post ∷ ws) → s ≡ dashed n post ws → StartText s

-- ---- the dash
-- With n posts it steps as the figure t does, in either start line, whatever the state.
abbrev pub DashMeans : ℕ → ℕ → Type 0
DashMeans n t =
    (st : State) (store : List ℕ) (post : ℕ) (ws : List ℕ) → OneOrTwo ws → TenDigits (n ∷ post ∷ ws)
    → step st store (dashed n post ws) ≡ step st store (figured n t post ws)

-- Document 02, (x): "n divided by 2, rounded down", in figures, and for every n, above 32 too: twice t is n or one less.
pub record DashIsHalf : Type 0 where
  pub of_two : DashMeans 2 1
  pub of_three : DashMeans 3 1
  pub of_four : DashMeans 4 2
  pub of_thirty_one : DashMeans 31 15
  pub of_thirty_two : DashMeans 32 16
  pub half : (n t : ℕ) → 2 * t ≤ n → n ≤ 2 * t + 1 → DashMeans n t

-- ---- the refusals
-- A check point "0 or at least p"; in a `W` "the second point too".
abbrev pub any_no_point : List ℕ → Bool
any_no_point [] = false
any_no_point (w ∷ ws) = (ltb w 1 || ltb 2147483646 w) || any_no_point ws

-- Of a start line that is written from numbers: 1 to 4; document 02, (ii): "The street program stays at 32".
abbrev pub settings_table : ℕ → ℕ → ℕ → List ℕ → List Test
settings_table n t post ws =
    1 when (ltb n 2 || ltb 32 n)
    ∷ 2 when (ltb t 1 || ltb (n - 1) t)
    ∷ 3 when (ltb post 1 || ltb n post)
    ∷ 4 when any_no_point ws
    ∷ []

-- What an accepted start line leaves: a new session, field by field with 96 zeros in each list, with as many points as the line has, the second 0 where
-- there is one; the store as it was, and the rows that records are kept for.
pub record Begins (st : State) (store : List ℕ) (n t post : ℕ) (ws : List ℕ) (a : After) : Type 0 where
  pub session : a.given.state.session ≡ fresh_session n t post (length ws) (get_or ws 0 0) (get_or ws 1 0)
  pub started : a.given.state.started ≡ true
  pub kept : a.given.state.kept ≡ st.kept
  pub triple : a.given.state.triple ≡ st.triple
  pub store_kept : a.store ≡ store
  pub value : a.given.value ≡ 0
  pub quiet : Quiet a

module _ (st : State) (store : List ℕ) where
  -- What stands behind the letter of a start line.
  pub record LetterTable (letter : ℕ) : Type 0 where
    -- 1: the first field is longer
    pub longer_field : (b : ℕ) (rest : List ℕ) → (b ≡ 44 → ⊥) → (b ≡ 10 → ⊥) → refusal_of st store (letter ∷ b ∷ rest) ≡ 1
    -- 10: no fields, or too long
    pub bare : refusal_of st store (letter ∷ []) ≡ 10
    pub no_fields : (rest : List ℕ) → refusal_of st store (letter ∷ 10 ∷ rest) ≡ 10
    pub overlong : (rest : List ℕ) → 5250 < length rest → refusal_of st store (letter ∷ 44 ∷ rest) ≡ 10
    -- bytes of any other form get 10
    pub spelled : (rest : List ℕ) → (refusal_of st store (letter ∷ 44 ∷ rest) ≡ 10 → ⊥) → StartText (letter ∷ 44 ∷ rest)

  pub record StartTable : Type 0 where
    -- 1: no start line
    pub empty : refusal_of st store [] ≡ 1
    pub other_letter : (b : ℕ) (rest : List ℕ) → is_one_of start_letters b ≡ false → refusal_of st store (b ∷ rest) ≡ 1
    pub letter : (b : ℕ) → is_one_of start_letters b ≡ true → LetterTable b
    -- 1 to 4
    pub settings : (n t post : ℕ) (ws : List ℕ) → OneOrTwo ws → TenDigits (n ∷ t ∷ post ∷ ws)
        → refusal_of st store (figured n t post ws) ≡ first (settings_table n t post ws)
    pub begins : (n t post : ℕ) (ws : List ℕ) → OneOrTwo ws → TenDigits (n ∷ t ∷ post ∷ ws) → first (settings_table n t post ws) ≡ 0
        → Begins st store n t post ws (step st store (figured n t post ws))

abbrev pub StreetStarts : Type 0
StreetStarts = (st : State) (store : List ℕ) → st.started ≡ false → StartTable st store
