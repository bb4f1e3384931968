-- Document 02, (vii): "Feeding the file to the street program gives the session and rows that loading straight from the draw gives, for
-- every post and n up to 32"; (ix): "Such a session, and its pack file, starts with `W,n,t,post,first,second`": for either number of points.
-- Proved in proofs/Theorems.antt. `fed`, `begun` and `output` are the program's own definition, which its code is held to.
use Rattle.std.specs.Prelude.{ℕ, zero, suc, ◌+◌, ◌≤◌, ◌≡◌, ◌||◌, cond, List, [], ◌∷◌, ◌++◌, eqb, length, take, drop, replicate}
use Rattle.shape.specs.declared.Shape.{Shape}
use Rattle.shape.specs.Lengths.{shape, rows_length}
use Rattle.shape.specs.Marks.{raw, unused}
use Rattle.street_store.specs.Sizes.{store_room}
use Rattle.street_states.specs.States.{first_state, begun_with}
use Rattle.street_answers.specs.Text.{header, answer_text}
use Rattle.street_feeds.specs.Program.{Running, begun, fed, output}
use Rattle.lines.specs.Writing.{written_as, part_as}
use Rattle.packlines.specs.File.{file}
use Rattle.packfile.specs.Writing.{post_at, given_refusal, pack_refusal}
use Rattle.packed_law.specs.Straight.{Loaded, straight}

-- A line for each row that is loaded, and the start line.
abbrev pub line_for : ℕ → ℕ
line_for k = cond (eqb k raw || eqb k unused) 1 0

unfoldable pub loads : List ℕ → ℕ
loads [] = 0
loads (k ∷ ks) = line_for k + loads ks

abbrev pub line_count : List ℕ → ℕ
line_count kinds = suc (loads kinds)

-- `number,0,0`, a line each, for m lines from this number on.
unfoldable pub no_refusals : ℕ → ℕ → List ℕ
no_refusals number zero = []
no_refusals number (suc m) = answer_text number 0 0 ++ no_refusals (number + 1) m

-- The program with a session and its rows, behind which the store is as it began; no line begun; this many lines answered.
abbrev pub program_with : Shape → Loaded → ℕ → Running
program_with g l lines =
    record {
      state = begun_with first_state l.session;
      store = l.rows ++ drop (rows_length g) (replicate store_room 0);
      line = [];
      number = lines;
      out = header ++ no_refusals 1 lines;
    }

pub record Feeds (n t post points : ℕ) (ws kinds draws : List ℕ) : Type 0 where
  -- no call of the straight loading is refused
  pub loaded : (straight n t post points ws kinds draws).refusal ≡ 0
  -- fed the file, the program has its session and rows, and nothing else has changed
  pub after : fed begun (file (post_at n t post points ws) kinds draws)
      ≡ program_with (shape n t points) (straight n t post points ws kinds draws) (line_count kinds)
  -- and all that it prints is the header and a 0 for every line
  pub printed : output (file (post_at n t post points ws) kinds draws) ≡ header ++ no_refusals 1 (line_count kinds)

-- For whatever the writing call does not refuse but for a list too short.
abbrev pub FileFeeds : Type 0
FileFeeds =
    (n t post points : ℕ) (ws kinds draws : List ℕ) → n ≤ 32 → given_refusal n t post points ws kinds draws ≡ 0
    → Feeds n t post points ws kinds draws

-- The same of the call: the bytes that it leaves, as many as it answers, fed to the program.
abbrev pub left : ℕ → ℕ → ℕ → ℕ → List ℕ → List ℕ → List ℕ → List ℕ → List ℕ
left n t post points ws kinds draws out =
    let refusal = pack_refusal n t post points ws kinds draws (length out) in
    let text = file (post_at n t post points ws) kinds draws in
    take (written_as refusal text).len (part_as refusal text out)

abbrev pub CallFeeds : Type 0
CallFeeds =
    (n t post points : ℕ) (ws kinds draws out : List ℕ) → n ≤ 32 → pack_refusal n t post points ws kinds draws (length out) ≡ 0
    → fed begun (left n t post points ws kinds draws out)
    ≡ program_with (shape n t points) (straight n t post points ws kinds draws) (line_count kinds)
