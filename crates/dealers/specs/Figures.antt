-- Document 02, (xii), in figures: the bytes that a placing and a turn leave, which dealer a turn serves, how long a D line is.
-- Proved in proofs/Figures.antt.
use Rattle.std.specs.Prelude.{ℕ, ◌+◌, ◌*◌, ◌-◌, ◌≤◌, ◌<◌, ◌≡◌, ◌≢◌, ◌⊎◌, cond, List, ltb, length, get_or}
use Rattle.session.specs.declared.Session.{Session}
use Rattle.forms.specs.Lines.{deal, text}
use Rattle.dealers.specs.State.{new_state_of, line_in, chosen}
use Rattle.dealers.specs.Calls.{place_refusal_of, place_after_of, count_refusal, turn_state}
use Rattle.dealers.specs.Table.{byte, SoundState}

-- "A new state holds 8 as last served, then zeros."
pub record NewBytes : Type 0 where
  pub long : length new_state_of ≡ 137
  pub last : byte new_state_of 0 ≡ 8
  pub zeros : (i : ℕ) → 1 ≤ i → byte new_state_of i ≡ 0

-- "for each dealer's place a length, 0 when free, and the 16 bytes; those .. behind a shorter line, stay as they are"
pub record PlacedBytes (state : List ℕ) (d : ℕ) (line after : List ℕ) : Type 0 where
  pub long : length after ≡ 137
  pub counted : byte after (17 * d - 16) ≡ length line
  pub laid : (i : ℕ) → i < length line → byte after (17 * d - 15 + i) ≡ get_or line i 0
  pub kept : (i : ℕ) → (i < 17 * d - 16) ⊎ (17 * d - 15 + length line ≤ i) → byte after i ≡ byte state i

abbrev pub PlacesBytes : Type 0
PlacesBytes =
    (state : List ℕ) (d : ℕ) (line : List ℕ) → place_refusal_of state d (length line) ≡ 0 → PlacedBytes state d line (place_after_of state d line)

-- A waiting line: its length, then its bytes.
pub record LineBytes (state : List ℕ) (d : ℕ) : Type 0 where
  pub long : length (line_in state d) ≡ byte state (17 * d - 16)
  pub bytes : (i : ℕ) → i < byte state (17 * d - 16) → get_or (line_in state d) i 0 ≡ byte state (17 * d - 15 + i)

abbrev pub LinesBytes : Type 0
LinesBytes = (state : List ℕ) (d : ℕ) → SoundState state → 1 ≤ d → d ≤ 8 → LineBytes state d

-- "the place and the last dealer are all that it changes"; "those of a freed place .. stay as they are"
pub record ServedBytes (state : List ℕ) (d : ℕ) (after : List ℕ) : Type 0 where
  pub long : length after ≡ 137
  pub last : byte after 0 ≡ d
  pub freed : byte after (17 * d - 16) ≡ 0
  pub kept : (i : ℕ) → i ≢ 0 → i ≢ 17 * d - 16 → byte after i ≡ byte state i

-- of every turn that takes a line, whatever it answers
abbrev pub TurnsBytes : Type 0
TurnsBytes =
    (s : Session) (rows state : List ℕ) → count_refusal s rows state ≡ 0 → chosen state ≢ 0 → ServedBytes state (chosen state) (turn_state s rows state)

-- The k-th dealer after `last`, "going round": 1 comes after 8.
abbrev pub nth_after : ℕ → ℕ → ℕ
nth_after last k = cond (ltb 8 (last + k)) (last + k - 8) (last + k)

-- "from the dealer after the one last served, going round, the first with a line waiting"
pub record FirstWaiting (state : List ℕ) (d : ℕ) : Type 0 where
  pub steps : ℕ
  pub some : 1 ≤ steps
  pub few : steps ≤ 8
  pub there : d ≡ nth_after (byte state 0) steps
  pub waiting : byte state (17 * d - 16) ≢ 0
  pub passed : (j : ℕ) → 1 ≤ j → j < steps → byte state (17 * nth_after (byte state 0) j - 16) ≡ 0

pub record WhoIsServed (state : List ℕ) : Type 0 where
  pub one : chosen state ≢ 0 → FirstWaiting state (chosen state)
  pub none : chosen state ≡ 0 → (d : ℕ) → 1 ≤ d → d ≤ 8 → byte state (17 * d - 16) ≡ 0

abbrev pub AlwaysServed : Type 0
AlwaysServed = (state : List ℕ) → SoundState state → WhoIsServed state

-- "A place holds 16 bytes, the longest D line."
pub record SixteenBytes : Type 0 where
  pub most : (row c : ℕ) → row ≤ 95 → length (text (deal row c)) ≤ 16
  pub one : length (text (deal 95 2147483646)) ≡ 16
