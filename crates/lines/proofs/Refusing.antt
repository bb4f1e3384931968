-- The checks of a line to be written, one after the other, and the two ways in which writing ends.
use Prim.Native.Nat.{ℕ, ◌≤◌, ◌<◌}
use mathlib.Core.Path.{◌≡◌, refl, ap, sym, ◌∙◌}
use mathlib.Core.List.{List, [], ◌∷◌, ◌++◌}
use mathlib.Core.Bool.{Bool, true, false}
use native.Mathlib.Omega.{arith}
use borrow.Author.Tests.{lt-ltb, le-ltb, eq-eqb, ne_eqb, ltb-false}
use mir.Syntax.{w32}
use mir.Val.{Fits}
use lib.ListN.{length}
use lib.Dec.{ltb}
use Rattle.shape.specs.Bounds.{most_posts, last_row_at}
use Rattle.shape.specs.Lengths.{shape, v_length, masks_length}
use Rattle.refusal.specs.Refusal.{Test, ◌when◌, first, outcome, AllFail, Numbered}
use Rattle.refusal.specs.Conditions.{beyond, any_beyond, posts_tests, station_tests, party_tests}
use Rattle.refusal.proofs.Groups.{stopped, went_on}
use Rattle.refusal.proofs.Laws.{all_fail}
use Rattle.refusal.proofs.Ranges.{station_passed, party_passed, party_there}
use Rattle.refusal.proofs.Endings.{refused, accepted}
use Rattle.csv_fields.specs.Fields.{written}
use Rattle.forms.specs.Lines.{deal, text, last_row_of}
use Rattle.forms.proofs.Ranges.{last_row_le}
use Rattle.lines.specs.declared.Written.{Written}
use Rattle.lines.specs.Order.{line_refusal}
use Rattle.lines.specs.Writing.{posted_tests, dealt_tests, not_written_of, written_as}

-- ---- 5, 6, 8 and 12 of a line with a post
module _ (letter count row post : ℕ) (xs : List ℕ) (room : ℕ) where
  abbrev refusal : ℕ
  refusal = first (posted_tests letter count row post xs room)

  pub numbers_missized : (length xs ≡ count → ⊥) → 5 ≡ refusal
  numbers_missized c = rw (ne_eqb (length xs) count c)

  module _ (c : length xs ≡ count) (last : ℕ) (l : last ≡ last_row_of letter) where
    pub row_above : last < row → 6 ≡ refusal
    row_above d = rw (eq-eqb (length xs) count c, ← l, lt-ltb last row d)

    module _ (d : row ≤ last) (g : ℕ) (e : g ≡ first (8 when any_beyond xs ∷ [])) where
      abbrev room_test : List Test
      room_test = 12 when ltb room (length (written letter (row ∷ post ∷ xs))) ∷ []

      behind : first (8 when any_beyond xs ∷ room_test) ≡ refusal
      behind = rw (eq-eqb (length xs) count c, ← l, le-ltb last row d)

      pub number_beyond : (g ≡ 0 → ⊥) → g ≡ refusal
      number_beyond h = stopped (8 when any_beyond xs ∷ []) room_test tt g e h ∙ behind

      module _ (z : g ≡ 0) (lacks : Bool) (w : lacks ≡ ltb room (length (written 0 (row ∷ post ∷ xs)))) where
        ends : (r : ℕ) → r ≡ first room_test → r ≡ refusal
        ends r q = went_on (8 when any_beyond xs ∷ []) room_test tt g e r z q ∙ behind

        pub part_short : lacks ≡ true → 12 ≡ refusal
        part_short h = ends 12 (rw (← w, h))

        pub part_fits : lacks ≡ false → 0 ≡ refusal
        part_fits h = ends 0 (rw (← w, h))

  -- a line that is not refused
  module _ (r : ℕ) (e : r ≡ refusal) (z : r ≡ 0) where
    none_holds : AllFail (posted_tests letter count row post xs room)
    none_holds = all_fail (posted_tests letter count row post xs room) tt (sym e ∙ z)

    pub posted_row : Fits w32 row
    posted_row = omega (arith, ltb-false (last_row_of letter) row none_holds.1.0, last_row_le letter)

    pub posted_room : length (written letter ((row ∷ post ∷ []) ++ xs)) ≤ room
    posted_room = ltb-false room _ none_holds.1.1.1.0

pub row_low : (letter row last : ℕ) → last ≡ last_row_of letter → row ≤ last → row ≤ last_row_at
row_low letter row last l h = omega (arith, last_row_le letter)

-- ---- 6, 8 and 12 of a `D`
module _ (row c room : ℕ) where
  pub deal_above : last_row_at < row → 6 ≡ first (dealt_tests row c room)
  deal_above d = rw (lt-ltb last_row_at row d)

  module _ (d : row ≤ last_row_at) (g : ℕ) (e : g ≡ first (8 when beyond c ∷ [])) where
    abbrev deal_room : List Test
    deal_room = 12 when ltb room (length (text (deal row c))) ∷ []

    deal_behind : first (8 when beyond c ∷ deal_room) ≡ first (dealt_tests row c room)
    deal_behind = rw (le-ltb last_row_at row d)

    pub deal_beyond : (g ≡ 0 → ⊥) → g ≡ first (dealt_tests row c room)
    deal_beyond h = stopped (8 when beyond c ∷ []) deal_room tt g e h ∙ deal_behind

    module _ (z : g ≡ 0) (m : ℕ) (w : m ≡ length (written 0 (row ∷ c ∷ []))) where
      deal_ends : (r : ℕ) → r ≡ first deal_room → r ≡ first (dealt_tests row c room)
      deal_ends r q = went_on (8 when beyond c ∷ []) deal_room tt g e r z q ∙ deal_behind

      pub deal_short : room < m → 12 ≡ first (dealt_tests row c room)
      deal_short h = deal_ends 12 (rw (← w, lt-ltb room m h))

      pub deal_fits : m ≤ room → 0 ≡ first (dealt_tests row c room)
      deal_fits h = deal_ends 0 (rw (← w, le-ltb room m h))

  -- a `D` that is not refused
  module _ (r : ℕ) (e : r ≡ first (dealt_tests row c room)) (z : r ≡ 0) where
    none_of_deal : AllFail (dealt_tests row c room)
    none_of_deal = all_fail (dealt_tests row c room) tt (sym e ∙ z)

    pub deal_row : Fits w32 row
    deal_row = omega (arith, ltb-false last_row_at row none_of_deal.0)

    pub deal_line : length (written 68 ((row ∷ []) ++ (c ∷ []))) ≤ room
    deal_line = ltb-false room _ none_of_deal.1.1.0

-- ---- the early tests first, then the tests ys
module _ (early : List Test) (numbered : Numbered early) (f : ℕ) (e : f ≡ first early) (ys : List Test) where
  refuse : (f ≡ 0 → ⊥) → f ≡ line_refusal early ys
  unfolding line_refusal
  refuse h = stopped early ys numbered f e h

  keep : (new old : List ℕ) → (f ≡ 0 → ⊥) → old ≡ outcome (line_refusal early ys) new old
  keep new old h = refused f (line_refusal early ys) new old (refuse h) h

  pass : f ≡ 0 → first ys ≡ line_refusal early ys
  unfolding line_refusal
  pass z = went_on early ys numbered f e (first ys) z refl

  pub answer_passed : f ≡ 0 → (v : Written) (line : List ℕ) → v ≡ written_as (first ys) line → v ≡ written_as (line_refusal early ys) line
  answer_passed z v line h = h ∙ ap (λ (r : ℕ). written_as r line) (pass z)

  pub list_passed : f ≡ 0 → (v new old : List ℕ) → v ≡ outcome (first ys) new old → v ≡ outcome (line_refusal early ys) new old
  list_passed z v new old h = h ∙ ap (λ (r : ℕ). outcome r new old) (pass z)

-- of a `D`: 1 and 2
module _ (n t f : ℕ) (e : f ≡ first (posts_tests n t)) (ys : List Test) where
  pub posts_refuse : (f ≡ 0 → ⊥) → f ≡ line_refusal (posts_tests n t) ys
  posts_refuse = refuse (posts_tests n t) tt f e ys

  pub posts_keep : (new old : List ℕ) → (f ≡ 0 → ⊥) → old ≡ outcome (line_refusal (posts_tests n t) ys) new old
  posts_keep = keep (posts_tests n t) tt f e ys

  pub answer_then : f ≡ 0 → (v : Written) (line : List ℕ) → v ≡ written_as (first ys) line → v ≡ written_as (line_refusal (posts_tests n t) ys) line
  answer_then = answer_passed (posts_tests n t) tt f e ys

  pub list_then : f ≡ 0 → (v new old : List ℕ) → v ≡ outcome (first ys) new old → v ≡ outcome (line_refusal (posts_tests n t) ys) new old
  list_then = list_passed (posts_tests n t) tt f e ys

-- of a line with a post, whose numbers were counted by the shape: 1 to 4
module _ (n t post points f : ℕ) (e : f ≡ first (party_tests n t post points)) where
  pub party_refuse : (ys : List Test) → (f ≡ 0 → ⊥) → f ≡ line_refusal (party_tests n t post points) ys
  party_refuse = refuse (party_tests n t post points) tt f e

  pub party_keep : (ys : List Test) (new old : List ℕ) → (f ≡ 0 → ⊥) → old ≡ outcome (line_refusal (party_tests n t post points) ys) new old
  party_keep = keep (party_tests n t post points) tt f e

  module _ (z : f ≡ 0) where
    pub party_post : post ≤ most_posts
    party_post = let v = party_passed n t post points f e z in omega (arith, v.n_in, party_there n t post points f e z)

    pub party_one : (k : ℕ) → k ≡ v_length (shape n t points) → k ≤ 4294967296
    party_one k q = let v = party_passed n t post points f e z in omega (arith, v.n_in, v.t_in, v.reach_in)

    pub party_two : (k : ℕ) → k ≡ masks_length (shape n t points) → k ≤ 4294967296
    party_two k q = let v = party_passed n t post points f e z in omega (arith, v.n_in, v.t_in, v.reach_in)

    module _ (letter k count row : ℕ) (q : k ≡ count) (xs : List ℕ) (room : ℕ) where
      abbrev counted : ℕ → List Test
      counted c = posted_tests letter c row post xs room

      pub posted_answer : (v : Written) (line : List ℕ) → v ≡ written_as (first (counted k)) line
          → v ≡ written_as (line_refusal (party_tests n t post points) (counted count)) line
      posted_answer v line h = answer_passed (party_tests n t post points) tt f e (counted count) z v line (rw q at h)

      pub posted_list : (v new old : List ℕ) → v ≡ outcome (first (counted k)) new old
          → v ≡ outcome (line_refusal (party_tests n t post points) (counted count)) new old
      posted_list v new old h = list_passed (party_tests n t post points) tt f e (counted count) z v new old (rw q at h)

-- of a line read: 1, 2 and 4
module _ (n t points f : ℕ) (e : f ≡ first (station_tests n t points)) where
  pub station_refuse : (ys : List Test) → (f ≡ 0 → ⊥) → f ≡ line_refusal (station_tests n t points) ys
  station_refuse = refuse (station_tests n t points) tt f e

  pub station_keep : (ys : List Test) (new old : List ℕ) → (f ≡ 0 → ⊥) → old ≡ outcome (line_refusal (station_tests n t points) ys) new old
  station_keep = keep (station_tests n t points) tt f e

  pub station_pass : f ≡ 0 → (ys : List Test) → first ys ≡ line_refusal (station_tests n t points) ys
  station_pass z ys = pass (station_tests n t points) tt f e ys z

  pub station_one : f ≡ 0 → (k : ℕ) → k ≡ v_length (shape n t points) → k ≤ 4294967296
  station_one z k q = let v = station_passed n t points f e z in omega (arith, v.n_in, v.t_in, v.reach_in)

-- ---- the two ways in which writing ends
pub refused_answer : (v : Written) (r x : ℕ) (line : List ℕ) → v ≡ not_written_of r → r ≡ x → (r ≡ 0 → ⊥) → v ≡ written_as x line
refused_answer v r x line q e n = q ∙ ap not_written_of e ∙ refused r x (record { refusal = 0; len = length line }) (not_written_of x) e n

pub written_answer : (r x k : ℕ) (line : List ℕ) → r ≡ x → r ≡ 0 → k ≡ length line → ◌≡◌ {A = Written} (record { refusal = 0; len = k }) (written_as x line)
written_answer r x k line e z q =
    accepted r x (record { refusal = 0; len = k }) (record { refusal = 0; len = length line }) (not_written_of x) e z
    (ap (λ (m : ℕ). record { refusal = 0; len = m }) q)
