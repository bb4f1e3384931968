-- Between the functions of the code: what one learns of a line and hands to the next. No theorem is stated with these.
use Rattle.std.specs.Prelude.{Option, Some, None, ℕ, ◌*◌, ◌≤◌, ◌≡◌, List, [], ◌∷◌, ◌++◌, Bool, false, cond, get_or, eqb, ltb}
use Rattle.csv_fields.specs.declared.Run.{Run}
use Rattle.csv_fields.specs.Fields.{Parsed, parsed, malformed, fields_at, ended}
use Rattle.forms.specs.declared.Head.{Head}
use Rattle.forms.specs.Forms.{form_of}

-- The row and the post of a line, as fields.
abbrev pub head_of : ℕ → ℕ → ℕ → List ℕ
head_of letter row post = cond (eqb letter 68) (row ∷ []) (row ∷ post ∷ [])

-- Fields that stand behind others.
abbrev pub before : List ℕ → Parsed → Parsed
before hs (parsed xs next) = parsed (hs ++ xs) next
before hs malformed = malformed

-- A line with the right head, whose numbers behind row and post are to stand at a position.
pub record Headed (k : ℕ) (s : List ℕ) (letter row post at count : ℕ) : Type 0 where
  pub letter_is : letter ≡ get_or s 0 0
  pub post_is : letter ≡ 68 → post ≡ 0
  pub few : count ≤ 2 * k
  pub all : form_of k s ≡ before (head_of letter row post) (ended s (fields_at count s at))

-- What the head of a line tells.
abbrev pub HeadOf : ℕ → List ℕ → Option Head → Type 0
HeadOf k s (Some h) = Headed k s h.letter h.row h.post h.at h.count
HeadOf k s None = form_of k s ≡ malformed

-- Whether the numbers of a run of fields stay below a limit.
abbrev pub below_limit : Option Run → ℕ → Bool
below_limit (Some r) limit = ltb r.largest limit
below_limit None limit = false

-- So many numbers of a line wait in one room. No answer depends on it.
abbrev pub room_size : ℕ
room_size = 32

-- A part of a list's places, as many as a room has: at least one, where there is one.
pub record PartOf (len n : ℕ) : Type 0 where
  pub within : n ≤ len
  pub fits : n ≤ room_size
  pub some : 1 ≤ len → 1 ≤ n
