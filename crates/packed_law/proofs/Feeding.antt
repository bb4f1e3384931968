-- The rows' lines, fed one after the other, and the same rows loaded straight: both come to the same session and rows.
use Prim.Native.Nat.{ℕ, suc, ◌+◌, ◌-◌, ◌≤◌, ◌<◌}
use mathlib.Core.Path.{◌≡◌, refl, sym, ◌∙◌, ap, ap₂}
use mathlib.Core.Bool.{Bool, true, false}
use mathlib.Core.List.{List, [], ◌∷◌, ◌++◌, append_assoc, append-nil}
use native.Mathlib.Omega.{arith}
use borrow.Author.Tests.{eqb-true}
use lib.Dec.{eqb}
use lib.ListN.{length, take, drop, get_or, set}
use Rattle.poly.specs.Counting.{Elements}
use Rattle.shape.specs.declared.Shape.{Shape}
use Rattle.shape.specs.Lengths.{shape, row_length, triple_length, draw_length, triple_draw_length}
use Rattle.shape.specs.Bounds.{last_row_at, last_triple}
use Rattle.shape.specs.Marks.{empty, raw, unused, further}
use Rattle.csv_fields.specs.Fields.{written}
use Rattle.session.specs.declared.Party.{Party}
use Rattle.session.specs.Rows.{with_row}
use Rattle.load.specs.Load.{with_triple}
use Rattle.street_store.specs.Sizes.{street_posts, longest_line, InStreet}
use Rattle.street_store.proofs.Keeping as Street
use Rattle.street_startlines.proofs.Longest.{load_short}
use Rattle.street_states.specs.States.{first_state, begun_with, refusing, leaving}
use Rattle.street_steps.specs.Stepping.{step}
use Rattle.street_answers.specs.Text.{answer_text}
use Rattle.street_feeds.specs.Program.{Running, left_by, fed}
use Rattle.street_transcript.proofs.Chunks.{fed_append}
use Rattle.kinds.specs.Kinds.{drawn_for_of}
use Rattle.packrow.specs.Numbers.{post_part, triple_parts, numbers_of_of}
use Rattle.packlines.specs.File.{line_with, row_line, row_lines}
use Rattle.packrow.specs.Between.{PostIn}
use Rattle.packfile.specs.Writing.{post_at}
use Rattle.packed_law.specs.Straight.{kind_loaded, rows_loaded}
use Rattle.packed_law.specs.Claims.{line_for, loads, no_refusals}
use Rattle.packed_law.proofs.Parts.{part_elements, triple_elements, part_length, triple_length_lem, row_pack_is, triple_pack_is}
use Rattle.packed_law.proofs.Loading.{session_at, at, Passed, row_passes, row_is_loaded, row_room, triple_passes, triple_is_loaded, triple_room}
use Rattle.packed_law.proofs.Ahead.{Ahead, row_low, own_drawn, own_elements, ahead_none, raw_free, ahead_raw, triple_low, triple_free, ahead_triple}
use Rattle.packed_law.proofs.Bytes.{between, fed_line}
use Rattle.packed_law.proofs.Taken.{row_taken, triple_taken}

-- ---- a row's line, by the row's kind
module _ (q : Party) (row k : ℕ) (draw : List ℕ) where
  spelt : (letter : ℕ) (xs : List ℕ) → 0 < length xs → line_with letter row xs ≡ written letter (row ∷ xs)
  spelt letter [] h = absurd (omega arith)
  spelt letter (x ∷ xs) h = refl

  raw_line : eqb k raw ≡ true → 0 < length (post_part q draw) → row_line q row k draw ≡ written 82 (row ∷ post_part q draw)
  unfolding row_line numbers_of_of
  raw_line e h = rw e (spelt 82 (post_part q draw) h)

  triple_line : eqb k raw ≡ false → eqb k unused ≡ true → 0 < length (triple_parts q draw)
      → row_line q row k draw ≡ written 84 (row ∷ triple_parts q draw)
  unfolding row_line numbers_of_of
  triple_line e f h = rw (e, f) (spelt 84 (triple_parts q draw) h)

  no_line : eqb k raw ≡ false → eqb k unused ≡ false → row_line q row k draw ≡ []
  unfolding row_line numbers_of_of
  no_line e f = rw (e, f)

-- ---- one answer more
pub more_answers : (number m : ℕ) (out : List ℕ)
    → (out ++ (answer_text (number + 1) 0 0 ++ [])) ++ no_refusals (number + 1 + 1) m ≡ out ++ no_refusals (number + 1) (suc m)
unfolding no_refusals
more_answers number m out =
    append_assoc out (answer_text (number + 1) 0 0 ++ []) (no_refusals (number + 1 + 1) m)
    ∙ ap (λ (l : List ℕ). out ++ (l ++ no_refusals (number + 1 + 1) m)) (append-nil (answer_text (number + 1) 0 0))

module _ (n t post points : ℕ) (ws tail : List ℕ) (is : PostIn (post_at n t post points ws)) (passed : Passed (post_at n t post points ws))
    (street : n ≤ street_posts) where
  abbrev Q : Party
  Q = post_at n t post points ws

  abbrev S : Shape
  S = shape n t points

  in_street : InStreet S
  in_street = record { valid = is.valid; few = street }

  abbrev W : ℕ
  W = row_length S

  abbrev pub running : List ℕ → List ℕ → ℕ → List ℕ → Running
  running marks rows number out = between (begun_with first_state (session_at Q marks)) (rows ++ tail) number out

  -- what loading straight and feeding come to, from the same session and rows
  pub record Reached (row : ℕ) (ks draws marks rows : List ℕ) (number : ℕ) (out : List ℕ) : Type 0 where
    pub marks' : List ℕ
    pub rows' : List ℕ
    pub straight_to : rows_loaded Q ws row ks draws (at Q marks rows) ≡ at Q marks' rows'
    pub fed_to : fed (running marks rows number out) (row_lines Q row ks draws)
        ≡ running marks' rows' (number + loads ks) (out ++ no_refusals (number + 1) (loads ks))

  -- a line that is taken, and those behind it
  module _ (row k : ℕ) (ks draws marks rows : List ℕ) (number : ℕ) (out : List ℕ) where
    abbrev own : List ℕ
    own = take (drawn_for_of S k) draws

    abbrev rest : List ℕ
    rest = drop (drawn_for_of S k) draws

    none_joined : kind_loaded Q ws row k own (at Q marks rows) ≡ at Q marks rows → row_line Q row k own ≡ []
        → line_for k ≡ 0
        → Reached (suc row) ks rest marks rows number out → Reached row (k ∷ ks) draws marks rows number out
    unfolding rows_loaded row_lines loads
    none_joined e l z r = record {
      marks' = r.marks';
      rows' = r.rows';
      straight_to = ap (rows_loaded Q ws (suc row) ks rest) e ∙ r.straight_to;
      fed_to =
          ap (λ (s : List ℕ). fed (running marks rows number out) (s ++ row_lines Q (suc row) ks rest)) l
          ∙ r.fed_to ∙ ap (λ (m : ℕ). running r.marks' r.rows' (number + m) (out ++ no_refusals (number + 1) m)) (same z);
    }
      where
        same : line_for k ≡ 0 → loads ks ≡ line_for k + loads ks
        same z = omega arith

    joined : (marks₁ rows₁ : List ℕ) (letter : ℕ) (xs : List ℕ) → 11 ≤ letter
        → length (written letter xs) ≤ longest_line
        → kind_loaded Q ws row k own (at Q marks rows) ≡ at Q marks₁ rows₁
        → row_line Q row k own ≡ written letter xs
        → step (begun_with first_state (session_at Q marks)) (rows ++ tail) (written letter xs)
        ≡ leaving (refusing (begun_with first_state (session_at Q marks₁)) 0) (rows₁ ++ tail)
        → line_for k ≡ 1
        → Reached (suc row) ks rest marks₁ rows₁ (number + 1) (out ++ (answer_text (number + 1) 0 0 ++ []))
        → Reached row (k ∷ ks) draws marks rows number out
    unfolding rows_loaded row_lines loads
    joined marks₁ rows₁ letter xs h short e l taken one r = record {
      marks' = r.marks';
      rows' = r.rows';
      straight_to = ap (rows_loaded Q ws (suc row) ks rest) e ∙ r.straight_to;
      fed_to =
          ap (λ (s : List ℕ). fed start (s ++ row_lines Q (suc row) ks rest)) l
          ∙ fed_append start (written letter xs) (row_lines Q (suc row) ks rest)
          ∙ ap (λ (z : Running). fed z (row_lines Q (suc row) ks rest))
          (fed_line (begun_with first_state (session_at Q marks)) (rows ++ tail) number out letter xs h short ∙ ap (left_by start) taken)
          ∙ r.fed_to
          ∙ ap₂ (λ (m : ℕ) (o : List ℕ). running r.marks' r.rows' m o) (counted one)
          (more_answers number (loads ks) out ∙ ap (λ (m : ℕ). out ++ no_refusals (number + 1) m) (again one));
    }
      where
        start : Running
        start = running marks rows number out

        counted : line_for k ≡ 1 → number + 1 + loads ks ≡ number + (line_for k + loads ks)
        counted one = omega arith

        again : line_for k ≡ 1 → suc (loads ks) ≡ line_for k + loads ks
        again one = omega arith

    module _ (c : ℕ) (a : Ahead S c row marks rows (k ∷ ks) draws)
        (behind : (c' row' : ℕ) (marks₁ rows₁ : List ℕ) (number₁ : ℕ) (out₁ : List ℕ) → Ahead S c' row' marks₁ rows₁ ks rest
        → Reached row' ks rest marks₁ rows₁ number₁ out₁) where
      after_none : eqb k raw ≡ false → eqb k unused ≡ false → Reached row (k ∷ ks) draws marks rows number out
      after_none e f =
          none_joined (rw (e, f)) (no_line Q row k own e f) (rw (e, f))
          (behind (c - 1) (suc row) marks rows number out (ahead_none S c row marks rows k ks draws a))

      low : row ≤ last_row_at
      low = row_low S c row marks rows k ks draws a

      module _ (e : eqb k raw ≡ true) where
        raw_drawn : length own ≡ draw_length S
        unfolding drawn_for_of
        raw_drawn = own_drawn S c row marks rows k ks draws a ∙ rw e

        abbrev mine : List ℕ
        mine = post_part Q own

        long : length mine ≡ W
        long = part_length Q own is raw_drawn

        elements : Elements mine
        elements = part_elements Q own (own_elements S c row marks rows k ks draws a)

        short : length (written 82 (row ∷ mine)) ≤ longest_line
        short = load_short 82 row mine low (omega (arith, long, Street.row_room S in_street))

        free : get_or marks row empty ≡ empty
        free = raw_free S c row marks rows k ks draws a (eqb-true k raw e)

        after_raw : Reached row (k ∷ ks) draws marks rows number out
        after_raw =
            joined (set marks row raw) (with_row W row mine rows) 82 (row ∷ mine) (omega arith) short
            (rw (e, row_pack_is n t post points ws is.first is.last own raw_drawn)
            (row_is_loaded Q passed marks rows a.room row mine elements long low free))
            (raw_line Q row k own e (omega (arith, long)))
            (row_taken Q in_street marks rows tail a.room row mine elements low long
            (row_passes Q passed marks rows a.room row mine elements long low free))
            (rw e)
            (behind 0 (suc row) (set marks row raw) (with_row W row mine rows) (number + 1) (out ++ (answer_text (number + 1) 0 0 ++ []))
            (ahead_raw S c row marks rows k ks draws a (eqb-true k raw e) (with_row W row mine rows)
            (row_room Q passed marks rows a.room row mine elements long low free)))

      module _ (e : eqb k raw ≡ false) (f : eqb k unused ≡ true) where
        triple_drawn : length own ≡ triple_draw_length S
        unfolding drawn_for_of
        triple_drawn = own_drawn S c row marks rows k ks draws a ∙ rw (e, f)

        abbrev mine_3 : List ℕ
        mine_3 = triple_parts Q own

        long_3 : length mine_3 ≡ triple_length S
        long_3 = triple_length_lem Q own is triple_drawn

        elements_3 : Elements mine_3
        elements_3 = triple_elements Q own (own_elements S c row marks rows k ks draws a)

        short_3 : length (written 84 (row ∷ mine_3)) ≤ longest_line
        short_3 = load_short 84 row mine_3 low (omega (arith, long_3, Street.row_room S in_street))

        low_3 : row ≤ last_triple
        low_3 = triple_low S c row marks rows k ks draws a f

        free_at : (i : ℕ) → get_or marks (row + i) empty ≡ empty
        free_at = triple_free S c row marks rows k ks draws a f

        free_0 : get_or marks row empty ≡ empty
        free_0 = ap (λ (j : ℕ). get_or marks j empty) (omega arith) ∙ free_at 0

        abbrev marked_3 : List ℕ
        marked_3 = set (set (set marks row unused) (row + 1) further) (row + 2) further

        after_triple : Reached row (k ∷ ks) draws marks rows number out
        after_triple =
            joined marked_3 (with_triple W row mine_3 rows) 84 (row ∷ mine_3) (omega arith) short_3
            (rw (e, f, triple_pack_is n t post points ws is.first is.last own triple_drawn)
            (triple_is_loaded Q passed marks rows a.room row mine_3 elements_3 long_3 low_3 free_0 (free_at 1) (free_at 2)))
            (triple_line Q row k own e f (omega (arith, long_3)))
            (triple_taken Q in_street marks rows tail a.room row mine_3 elements_3 low_3 long_3
            (triple_passes Q passed marks rows a.room row mine_3 elements_3 long_3 low_3 free_0 (free_at 1) (free_at 2)))
            (rw (e, f))
            (behind 2 (suc row) marked_3 (with_triple W row mine_3 rows) (number + 1) (out ++ (answer_text (number + 1) 0 0 ++ []))
            (ahead_triple S c row marks rows k ks draws a f (with_triple W row mine_3 rows)
            (triple_room Q passed marks rows a.room row mine_3 elements_3 long_3 low_3 free_0 (free_at 1) (free_at 2))))

      by_kind : (x y : Bool) → eqb k raw ≡ x → eqb k unused ≡ y → Reached row (k ∷ ks) draws marks rows number out
      by_kind true y e f = after_raw e
      by_kind false true e f = after_triple e f
      by_kind false false e f = after_none e f

  none_left : (row : ℕ) (draws marks rows : List ℕ) (number : ℕ) (out : List ℕ) → Reached row [] draws marks rows number out
  unfolding rows_loaded row_lines loads fed no_refusals
  none_left row draws marks rows number out = record {
    marks' = marks;
    rows' = rows;
    straight_to = refl;
    fed_to = ap₂ (λ (m : ℕ) (o : List ℕ). running marks rows m o) (omega arith) (sym (append-nil out));
  }

  pub reached : (ks draws : List ℕ) (c row : ℕ) (marks rows : List ℕ) (number : ℕ) (out : List ℕ) → Ahead S c row marks rows ks draws
      → Reached row ks draws marks rows number out
  reached [] draws c row marks rows number out a = none_left row draws marks rows number out
  reached (k ∷ ks) draws c row marks rows number out a =
      by_kind row k ks draws marks rows number out c a (reached ks (drop (drawn_for_of S k) draws)) (eqb k raw) (eqb k unused) refl refl
