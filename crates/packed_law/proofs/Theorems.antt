-- A post's file, fed to the street program, gives the session and rows that loading straight from the draw gives; every line gets 0.
use Prim.Native.Nat.{ℕ, zero, suc, ◌+◌, ◌*◌, ◌-◌, ◌≤◌, ◌<◌}
use mathlib.Core.Path.{◌≡◌, refl, sym, ◌∙◌, ap, ap₂}
use mathlib.Core.Bool.{Bool, true, false, ◌&&◌}
use mathlib.Core.List.{List, [], ◌∷◌, ◌++◌}
use native.Mathlib.Nat.{mul_comm, mul-le-mul_right, add-mul}
use native.Mathlib.Omega.{arith}
use borrow.Author.Tests.{eq-eqb, eqb-true, le-ltb}
use lib.Dec.{eqb}
use lib.ListN.{length, drop, get_or, replicate, length-replicate}
use lib.Seq.{take-append_seam}
use Rattle.shape.specs.Bounds.{row_count_of, most_points}
use Rattle.shape.specs.Lengths.{shape, rows_length}
use Rattle.shape.specs.Marks.{empty}
use Rattle.refusal.specs.Refusal.{Test, outcome, AllFail}
use Rattle.refusal.specs.Conditions.{outside, bad_points}
use Rattle.refusal.proofs.Laws.{all_fail, not_refused}
use Rattle.refusal.proofs.Groups.{fail_parts}
use Rattle.refusal.proofs.Figures.{points_figures}
use Rattle.factory.proofs.Laws.{passes_elements}
use Rattle.factory.proofs.Theorems.{points_mean}
use Rattle.session.specs.declared.Party.{Party}
use Rattle.street_store.specs.Sizes.{street_posts, store_room}
use Rattle.street_store.proofs.Keeping.{row_room}
use Rattle.street_states.specs.States.{first_state, begun_with}
use Rattle.street_answers.specs.Text.{header, answer_text}
use Rattle.street_feeds.specs.Program.{Running, left_by, begun, fed, closed, output}
use Rattle.street_transcript.proofs.Chunks.{fed_append}
use Rattle.packlines.specs.File.{start_line, row_lines, file}
use Rattle.packrow.specs.Between.{PostIn}
use Rattle.packfile.specs.Between.{Given}
use Rattle.packfile.specs.Writing.{post_at, given_tests, given_refusal, room_tests, pack_refusal}
use Rattle.packfile.proofs.Asking.{given_points, given_passed}
use Rattle.packed_law.specs.Straight.{Loaded, rows_loaded, straight}
use Rattle.packed_law.specs.Claims.{loads, line_count, no_refusals, program_with, Feeds, FileFeeds, left, CallFeeds}
use Rattle.packed_law.proofs.Loading.{session_at, at, Passed, new_loaded}
use Rattle.packed_law.proofs.Ahead.{ahead_first}
use Rattle.packed_law.proofs.Bytes.{between, fed_line}
use Rattle.packed_law.proofs.Taken.{Pointed, none, in_range, start_text, start_short, start_byte, start_taken}
use Rattle.packed_law.proofs.Feeding.{running, Reached, more_answers, reached}

-- ---- the store as it began: zeros for the rows, and zeros behind them
zeros : (x k m : ℕ) → k ≤ m → replicate k x ++ drop k (replicate m x) ≡ replicate m x
zeros x zero m h = refl
zeros x (suc k) zero h = absurd (omega arith)
zeros x (suc k) (suc m) h = ap (λ (l : List ℕ). x ∷ l) (zeros x k m (omega arith))

module _ (n t post points : ℕ) (ws kinds draws : List ℕ) (street : n ≤ street_posts) (z : given_refusal n t post points ws kinds draws ≡ 0) where
  abbrev Q : Party
  Q = post_at n t post points ws

  tests : AllFail (given_tests n t post points ws kinds draws)
  unfolding given_refusal
  tests = all_fail (given_tests n t post points ws kinds draws) tt z

  given : Given Q kinds draws
  given = given_passed n t post points ws kinds draws _ refl z Q.points refl

  is : PostIn Q
  is = given.post

  -- the post's check points in the list of all
  range : (i : ℕ) → i < length ws → (1 ≤ get_or ws i 0) × (get_or ws i 0 ≤ 2147483646)
  range = points_mean.passes_range ws tests.1.1.1.1.0

  place : (post - 1) * points + points ≤ length ws
  place =
      omega (
        arith,
        is.first,
        given_points n t post points ws kinds draws _ refl z,
        mul_comm points n,
        mul-le-mul_right {m = post - 1 + 1} {n = n} points (omega (arith, is.first, is.last)),
        add-mul (post - 1) 1 points,
      )

  good : Pointed Q
  good =
      record {
        first_in = range ((post - 1) * points) (omega (arith, place, is.valid.points_in_is.0));
        second_in = λ e. rw (eq-eqb points most_points e) (range ((post - 1) * points + 1) (omega (arith, place, e)));
      }

  fine : bad_points points Q.points ≡ false
  fine =
      points_figures points Q.points
      ∙ none (none (le-ltb points 1 is.valid.points_in_is.0) (le-ltb 2 points is.valid.points_in_is.1))
      (none (in_range Q.points.first good.first_in) (second_fine (eqb points most_points) refl))
    where
      second_fine : (b : Bool) → eqb points most_points ≡ b → (b && outside 1 2147483646 Q.points.second) ≡ false
      second_fine true e = in_range Q.points.second (good.second_in (eqb-true points most_points e))
      second_fine false e = refl

  passed : Passed Q
  passed = (tests.0, (tests.1.0, (tests.1.1.0, (fine, tt))))

  abbrev tail : List ℕ
  tail = drop (rows_length (shape n t points)) (replicate store_room 0)

  abbrev rows : List ℕ
  rows = replicate (rows_length (shape n t points)) 0

  abbrev marks : List ℕ
  marks = replicate row_count_of empty

  first_store : rows ++ tail ≡ replicate store_room 0
  first_store = zeros 0 (rows_length (shape n t points)) store_room (omega (arith, row_room (shape n t points) (record { valid = is.valid; few = street })))

  abbrev first_out : List ℕ
  first_out = header ++ (answer_text 1 0 0 ++ [])

  start_fed : fed begun (start_line Q) ≡ running n t post points ws tail is passed street marks rows 1 first_out
  start_fed =
      ap (fed begun) (start_text Q is good street)
      ∙ fed_line first_state (replicate store_room 0) 0 header _ _ (start_byte Q is good street) (start_short Q is good street)
      ∙ ap (left_by begun) (start_taken Q is good street (replicate store_room 0))
      ∙ ap (λ (l : List ℕ). between (begun_with first_state (session_at Q marks)) l 1 first_out) (sym first_store)

  end : Reached n t post points ws tail is passed street 0 kinds draws marks rows 1 first_out
  end =
      reached n t post points ws tail is passed street kinds draws 0 0 marks rows 1 first_out
      (ahead_first (shape n t points) rows kinds draws (length-replicate (rows_length (shape n t points)) 0) given.drawn
      (passes_elements draws tests.1.1.1.1.1.1.1.1.1.1.1.0) given.rows tests.1.1.1.1.1.1.1.1.0
      tests.1.1.1.1.1.1.1.1.1.0)

  reaches : straight n t post points ws kinds draws ≡ at Q end.marks' end.rows'
  unfolding straight
  reaches = ap (rows_loaded Q ws 0 kinds draws) (new_loaded Q is passed) ∙ end.straight_to

  after_file : fed begun (file Q kinds draws) ≡ program_with (shape n t points) (straight n t post points ws kinds draws) (line_count kinds)
  unfolding file
  after_file =
      fed_append begun (start_line Q) (row_lines Q 0 kinds draws)
      ∙ ap (λ (r : Running). fed r (row_lines Q 0 kinds draws)) start_fed
      ∙ end.fed_to
      ∙ ap₂ (λ (m : ℕ) (o : List ℕ). running n t post points ws tail is passed street end.marks' end.rows' m o) (omega arith)
      (more_answers 0 (loads kinds) header)
      ∙ ap (λ (l : Loaded). program_with (shape n t points) l (line_count kinds)) (sym reaches)

  prints : output (file Q kinds draws) ≡ header ++ no_refusals 1 (line_count kinds)
  unfolding output closed
  prints = ap (λ (r : Running). (closed r).out) after_file

  feeds : Feeds n t post points ws kinds draws
  feeds = record { loaded = ap (λ (l : Loaded). l.refusal) reaches; after = after_file; printed = prints }

pub file_feeds : FileFeeds
file_feeds = feeds

-- ---- the call
module _ (n t post points : ℕ) (ws kinds draws out : List ℕ) (z : pack_refusal n t post points ws kinds draws (length out) ≡ 0) where
  abbrev text : List ℕ
  text = file (post_at n t post points ws) kinds draws

  abbrev room : List Test
  room = room_tests (post_at n t post points ws) kinds draws (length out)

  none_given : given_refusal n t post points ws kinds draws ≡ 0
  unfolding pack_refusal given_refusal
  none_given =
      let given : List Test = given_tests n t post points ws kinds draws in
      not_refused given (fail_parts given room (all_fail (given ++ room) tt z)).0

  left_is : left n t post points ws kinds draws out ≡ text
  unfolding outcome
  left_is = rw z (take-append_seam text (drop (0 + length text) out))

pub call_feeds : CallFeeds
call_feeds n t post points ws kinds draws out street z =
    ap (fed begun) (left_is n t post points ws kinds draws out z)
    ∙ (file_feeds n t post points ws kinds draws street (none_given n t post points ws kinds draws out z)).after
