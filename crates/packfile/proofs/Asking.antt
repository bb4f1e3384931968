-- The refusals of the call: tests joined in order, and what holds once they have passed.
use Prim.Native.Nat.{ℕ, ◌+◌, ◌*◌, ◌-◌, ◌≤◌, ◌<◌}
use mathlib.Core.Path.{◌≡◌, refl, sym, ◌∙◌, ap}
use mathlib.Core.Bool.{Bool, cond}
use mathlib.Core.List.{List, [], ◌∷◌}
use native.Mathlib.Omega.{arith}
use borrow.Author.Tests.{lt-ltb, le-ltb, ne_eqb}
use lib.ListN.{length, get_or}
use Rattle.std.specs.Prelude.{Result}
use Rattle.std.specs.Result.{result_and}
use Rattle.shape.specs.declared.Shape.{Shape}
use Rattle.shape.specs.declared.Points.{Points}
use Rattle.shape.specs.Bounds.{row_count_of, most_points}
use Rattle.shape.specs.Lengths.{Valid, shape, checks_length}
use Rattle.refusal.specs.declared.Refusal.{Refusal}
use Rattle.refusal.specs.Numbers.{refused}
use Rattle.refusal.specs.Refusal.{Test, ◌when◌, first, outcome}
use Rattle.refusal.specs.Conditions.{wrong_length, any_beyond, party_tests}
use Rattle.refusal.proofs.Laws.{all_fail, inside, equal}
use Rattle.refusal.proofs.Groups.{stopped, went_on}
use Rattle.refusal.proofs.Checks.{both_asked}
use Rattle.refusal.proofs.Endings.{refused as refusal_ends}
use Rattle.refusal.proofs.Ranges.{party_valid}
use Rattle.packs.specs.Packs.{points_at_of}
use Rattle.factory.specs.Calls.{any_bad_point}
use Rattle.session.specs.declared.Party.{Party}
use Rattle.csv_fields.specs.Fields.{overwrite}
use Rattle.lines.specs.declared.Written.{Written}
use Rattle.lines.specs.Writing.{not_written_of, written_as, part_as}
use Rattle.kinds.specs.Kinds.{draws_length, any_row, late, crowded, unknown}
use Rattle.packlines.specs.File.{file}
use Rattle.packfile.specs.Writing.{post_at, frame_tests, drawn_tests, given_tests, room_tests, frame_refusal, drawn_refusal, given_refusal, room_refusal_of, pack_refusal}
use Rattle.packfile.specs.Between.{Given}

-- ---- each test asked by itself, and the answers joined
module _ (n t post points : ℕ) (ws kinds : List ℕ) (a : ℕ) (e : a ≡ first (party_tests n t post points)) where
  abbrev lists : List Test
  lists = 4 when any_bad_point ws ∷ 5 when wrong_length ws (checks_length (shape n t points)) ∷ 5 when wrong_length kinds row_count_of ∷ []

  pub party_stopped : (a ≡ 0 → ⊥) → a ≡ frame_refusal n t post points ws kinds
  unfolding frame_refusal
  party_stopped h = stopped (party_tests n t post points) lists tt a e h

  pub frame_joined : {A : Type 0} (w : ℕ) (b c d u r : Result A Refusal) → a ≡ 0 → w ≡ checks_length (shape n t points)
      → refused b ≡ first (4 when any_bad_point ws ∷ []) → refused c ≡ first (5 when wrong_length ws w ∷ [])
      → refused d ≡ first (5 when wrong_length kinds row_count_of ∷ []) → u ≡ result_and b c → r ≡ result_and u d
      → refused r ≡ frame_refusal n t post points ws kinds
  unfolding frame_refusal
  frame_joined w b c d u r z ew eb ec ed eu er =
      let four = 4 when any_bad_point ws in
      let five = 5 when wrong_length ws (checks_length (shape n t points)) in
      went_on (party_tests n t post points) lists tt a e (refused r) z
      (both_asked (four ∷ five ∷ []) (5 when wrong_length kinds row_count_of ∷ []) tt u d r
      (both_asked (four ∷ []) (five ∷ []) tt b c u eb (ec ∙ ap (λ (k : ℕ). first (5 when wrong_length ws k ∷ [])) ew) eu) ed er)

pub drawn_joined : {A : Type 0} (s : Shape) (kinds draws : List ℕ) (len : ℕ) (a b c d e u v w r : Result A Refusal) → len ≡ draws_length s kinds
    → refused a ≡ first (5 when wrong_length draws len ∷ []) → refused b ≡ first (6 when any_row late 0 kinds ∷ [])
    → refused c ≡ first (7 when any_row crowded 0 kinds ∷ []) → refused d ≡ first (8 when any_row unknown 0 kinds ∷ [])
    → refused e ≡ first (8 when any_beyond draws ∷ []) → u ≡ result_and a b → v ≡ result_and u c → w ≡ result_and v d → r ≡ result_and w e
    → refused r ≡ drawn_refusal s kinds draws
unfolding drawn_refusal
drawn_joined s kinds draws len a b c d e u v w r z ea eb ec ed ee eu ev ew er =
    let one = 5 when wrong_length draws (draws_length s kinds) in
    let two = 6 when any_row late 0 kinds in
    let three = 7 when any_row crowded 0 kinds in
    let four = 8 when any_row unknown 0 kinds in
    both_asked (one ∷ two ∷ three ∷ four ∷ []) (8 when any_beyond draws ∷ []) tt w e r
    (both_asked (one ∷ two ∷ three ∷ []) (four ∷ []) tt v d w
    (both_asked (one ∷ two ∷ []) (three ∷ []) tt u c v
    (both_asked (one ∷ []) (two ∷ []) tt a b u (ea ∙ ap (λ (k : ℕ). first (5 when wrong_length draws k ∷ [])) z) eb eu) ec ev) ed ew) ee er

-- ---- 1 to 5 have passed
module _ (n t post points : ℕ) (ws kinds draws : List ℕ) (r : ℕ) (e : r ≡ frame_refusal n t post points ws kinds) where
  pub frame_stopped : (r ≡ 0 → ⊥) → r ≡ given_refusal n t post points ws kinds draws
  unfolding frame_refusal given_refusal
  frame_stopped h = stopped (frame_tests n t post points ws kinds) (drawn_tests (shape n t points) kinds draws) tt r e h

  pub frame_on : (q : ℕ) → r ≡ 0 → q ≡ drawn_refusal (shape n t points) kinds draws → q ≡ given_refusal n t post points ws kinds draws
  unfolding frame_refusal drawn_refusal given_refusal
  frame_on q z f = went_on (frame_tests n t post points ws kinds) (drawn_tests (shape n t points) kinds draws) tt r e q z f

  pub frame_valid : r ≡ 0 → Valid (shape n t points)
  unfolding frame_refusal
  frame_valid z =
      let a = all_fail (frame_tests n t post points ws kinds) tt (sym e ∙ z) in
      party_valid n t post points (a.0, (a.1.0, (a.1.1.0, (a.1.1.1.0, tt))))

  pub frame_kinds : r ≡ 0 → length kinds ≡ row_count_of
  unfolding frame_refusal
  frame_kinds z =
      let a = all_fail (frame_tests n t post points ws kinds) tt (sym e ∙ z) in
      equal (length kinds) row_count_of a.1.1.1.1.1.1.0

-- ---- 1 to 8 have passed
module _ (n t post points : ℕ) (ws kinds draws : List ℕ) (r : ℕ) (e : r ≡ given_refusal n t post points ws kinds draws) (z : r ≡ 0) where
  pub given_first : 1 ≤ post
  unfolding given_refusal
  given_first =
      let a = all_fail (given_tests n t post points ws kinds draws) tt (sym e ∙ z) in
      (inside 1 n post a.1.1.0).0

  given_last : post ≤ n
  unfolding given_refusal
  given_last =
      let a = all_fail (given_tests n t post points ws kinds draws) tt (sym e ∙ z) in
      (inside 1 n post a.1.1.0).1

  pub given_valid : Valid (shape n t points)
  unfolding given_refusal
  given_valid =
      let a = all_fail (given_tests n t post points ws kinds draws) tt (sym e ∙ z) in
      party_valid n t post points (a.0, (a.1.0, (a.1.1.0, (a.1.1.1.0, tt))))

  pub given_points : length ws ≡ points * n
  unfolding given_refusal
  given_points =
      let a = all_fail (given_tests n t post points ws kinds draws) tt (sym e ∙ z) in
      equal (length ws) (points * n) a.1.1.1.1.1.0

  pub given_own : post - 1 < n
  given_own = omega (arith, given_first, given_last)

  pub given_passed : (w : Points) → w ≡ points_at_of points ws (post - 1)
      → Given (record { shape = shape n t points; post = post; points = w }) kinds draws
  unfolding given_refusal
  given_passed w is =
      let a = all_fail (given_tests n t post points ws kinds draws) tt (sym e ∙ z) in
      rw is (record {
        post = record {
          valid = given_valid;
          first = given_first;
          last = given_last;
          lone = λ few. ap (λ (b : Bool). cond b (get_or ws ((post - 1) * points + 1) 0) 0) (ne_eqb points most_points (λ q. omega (arith, few, q)));
        };
        rows = equal (length kinds) row_count_of a.1.1.1.1.1.1.0;
        drawn = equal (length draws) (draws_length (shape n t points) kinds) a.1.1.1.1.1.1.1.0;
      })

-- ---- the call's answer and list
module _ (n t post points : ℕ) (ws kinds draws out : List ℕ) (r : ℕ) (e : r ≡ given_refusal n t post points ws kinds draws) where
  given_refusal_lem : (r ≡ 0 → ⊥) → r ≡ pack_refusal n t post points ws kinds draws (length out)
  unfolding pack_refusal given_refusal
  given_refusal_lem h =
      stopped (given_tests n t post points ws kinds draws) (room_tests (post_at n t post points ws) kinds draws (length out)) tt r e h

  room_refusal_lem : r ≡ 0 → room_refusal_of (post_at n t post points ws) kinds draws (length out) ≡ pack_refusal n t post points ws kinds draws (length out)
  unfolding pack_refusal given_refusal room_refusal_of
  room_refusal_lem z =
      went_on (given_tests n t post points ws kinds draws) (room_tests (post_at n t post points ws) kinds draws (length out)) tt r e _ z refl

  pub answer_refused : (a : Written) → (r ≡ 0 → ⊥) → a ≡ not_written_of r
      → a ≡ written_as (pack_refusal n t post points ws kinds draws (length out)) (file (post_at n t post points ws) kinds draws)
  answer_refused a h q =
      q ∙ ap not_written_of (given_refusal_lem h) ∙ refusal_ends r (pack_refusal n t post points ws kinds draws (length out)) _ _ (given_refusal_lem h) h

  pub list_refused : (r ≡ 0 → ⊥)
      → out ≡ part_as (pack_refusal n t post points ws kinds draws (length out)) (file (post_at n t post points ws) kinds draws) out
  list_refused h = refusal_ends r (pack_refusal n t post points ws kinds draws (length out)) _ _ (given_refusal_lem h) h

  -- the post's points as the code has them
  module _ (z : r ≡ 0) (w : Points) (is : w ≡ points_at_of points ws (post - 1)) where
    abbrev own : Party
    own = record { shape = shape n t points; post = post; points = w }

    pub answer_on : (a : Written) → a ≡ written_as (room_refusal_of own kinds draws (length out)) (file own kinds draws)
        → a ≡ written_as (pack_refusal n t post points ws kinds draws (length out)) (file (post_at n t post points ws) kinds draws)
    answer_on a q = (rw is at q) ∙ ap (λ (k : ℕ). written_as k (file (post_at n t post points ws) kinds draws)) (room_refusal_lem z)

    pub list_on : (l : List ℕ) → l ≡ part_as (room_refusal_of own kinds draws (length out)) (file own kinds draws) out
        → l ≡ part_as (pack_refusal n t post points ws kinds draws (length out)) (file (post_at n t post points ws) kinds draws) out
    list_on l q = (rw is at q) ∙ ap (λ (k : ℕ). part_as k (file (post_at n t post points ws) kinds draws) out) (room_refusal_lem z)

-- ---- 12
module _ (p : Party) (kinds draws out : List ℕ) (len : ℕ) (e : len ≡ length (file p kinds draws)) where
  module _ (h : length out < len) where
    short : room_refusal_of p kinds draws (length out) ≡ 12
    unfolding room_refusal_of
    short = rw (lt-ltb (length out) (length (file p kinds draws)) (omega arith))

    pub answer_short : (a : Written) → a ≡ not_written_of 12 → a ≡ written_as (room_refusal_of p kinds draws (length out)) (file p kinds draws)
    unfolding outcome
    answer_short a q = rw short q

    pub list_short : out ≡ part_as (room_refusal_of p kinds draws (length out)) (file p kinds draws) out
    unfolding outcome
    list_short = rw short

  module _ (h : len ≤ length out) where
    enough : room_refusal_of p kinds draws (length out) ≡ 0
    unfolding room_refusal_of
    enough = rw (le-ltb (length out) (length (file p kinds draws)) (omega arith))

    pub file_fits : length (file p kinds draws) ≤ length out
    file_fits = omega arith

    pub answer_whole : ◌≡◌ {A = Written} (record { refusal = 0; len = len })
        (written_as (room_refusal_of p kinds draws (length out)) (file p kinds draws))
    unfolding outcome
    answer_whole = rw (enough, e)

    pub list_whole : (l : List ℕ) → l ≡ overwrite 0 (file p kinds draws) out
        → l ≡ part_as (room_refusal_of p kinds draws (length out)) (file p kinds draws) out
    unfolding outcome
    list_whole l q = rw enough q
