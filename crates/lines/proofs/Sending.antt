-- Between writer and reader: the reader takes every line that a writer makes, and a writer makes every line that the reader takes.
use Prim.Native.Nat.{ℕ, ◌≤◌, ◌<◌}
use mathlib.Core.Path.{◌≡◌, refl, ap, sym, ◌∙◌}
use mathlib.Core.List.{List, [], ◌∷◌}
use mathlib.Core.Bool.{Bool, true, false, not, ◌||◌, cond}
use native.Mathlib.Omega.{arith}
use borrow.Author.Tests.{le-ltb, eq-eqb, eqb-true, eqb-false}
use lib.ListN.{length, get_or}
use lib.Dec.{ltb, eqb}
use Rattle.shape.specs.Bounds.{fewest_posts, most_posts}
use Rattle.shape.specs.Lengths.{shape, v_length, masks_length}
use Rattle.refusal.specs.Refusal.{Test, ◌when◌, first, Numbered}
use Rattle.refusal.specs.Conditions.{outside, wrong_length, beyond, any_beyond, posts_tests, station_tests, party_tests}
use Rattle.refusal.proofs.Laws.{first_join, or_else_zero, all_fail, not_refused, or_false, inside, equal}
use Rattle.decimal.specs.Numeral.{tens}
use Rattle.forms.specs.Lines.{Message, deal, opening, masks, text, last_row_of}
use Rattle.forms.specs.Forms.{is_letter, number_count_of, message, line_tests, Sent}
use Rattle.forms.proofs.RoundTrip.{written_reads_back, read_is_written}
use Rattle.lines.specs.Order.{line_refusal}
use Rattle.lines.specs.Writing.{posted_tests, dealt_tests, write_deal_refusal, write_opening_refusal, write_masks_refusal, write_refusal}
use Rattle.lines.specs.Reading.{read_refusal, line_as, list_as}
use Rattle.lines.specs.Claims.{ReadBack, WritersReadBack, ReaderToWriter}
use Rattle.lines.proofs.Theorems.{line_laid}

-- ---- the early tests, and what stands behind them
module _ (early : List Test) (numbered : Numbered early) (ys : List Test) where
  both_zero : line_refusal early ys ≡ 0 → (first early ≡ 0) × (first ys ≡ 0)
  unfolding line_refusal
  both_zero e = or_else_zero (first early) (first ys) (sym (first_join early ys numbered) ∙ e)

  zero_both : first early ≡ 0 → first ys ≡ 0 → line_refusal early ys ≡ 0
  unfolding line_refusal
  zero_both e f = first_join early ys numbered ∙ rw (e, f)

-- a station with so many posts and so many points, and a post of it: what the early tests say of it
module _ (n t points : ℕ) where
  station_of : first (posts_tests n t) ≡ 0 → outside 1 2 points ≡ false → first (station_tests n t points) ≡ 0
  station_of e q = first_join (posts_tests n t) (4 when outside 1 2 points ∷ []) tt ∙ rw (e, q)

  posts_of_station : first (station_tests n t points) ≡ 0 → (first (posts_tests n t) ≡ 0) × (outside 1 2 points ≡ false)
  posts_of_station e =
      let b = or_else_zero (first (posts_tests n t)) (first (4 when outside 1 2 points ∷ [])) (sym (first_join (posts_tests n t) (4 when outside 1 2 points ∷ []) tt) ∙ e) in
      (b.0, (all_fail (4 when outside 1 2 points ∷ []) tt b.1).0)

  module _ (post : ℕ) where
    abbrev own : List Test
    own = 3 when outside 1 n post ∷ 4 when outside 1 2 points ∷ []

    party_of_lem : first (station_tests n t points) ≡ 0 → outside 1 n post ≡ false → first (party_tests n t post points) ≡ 0
    party_of_lem e q = let b = posts_of_station e in first_join (posts_tests n t) own tt ∙ rw (b.0, q, b.1)

    station_of_party : first (party_tests n t post points) ≡ 0 → (first (station_tests n t points) ≡ 0) × (outside 1 n post ≡ false)
    station_of_party e =
        let b = or_else_zero (first (posts_tests n t)) (first own) (sym (first_join (posts_tests n t) own tt) ∙ e) in
        let a = all_fail own tt b.1 in
        (station_of b.0 a.1.0, a.0)

-- ---- what a writer takes is a message that posts send
module _ (n t points : ℕ) where
  -- the number of a message's coefficients
  abbrev k : ℕ
  k = v_length (shape n t points)

  deal_sent : (row c room : ℕ) → first (dealt_tests row c room) ≡ 0 → Sent n k (deal row c)
  unfolding any_beyond
  deal_sent row c room e =
      let a = all_fail (dealt_tests row c room) tt e in
      record { letter_is = refl; count = refl; no_post = λ q. refl; in_range = rw (a.0, a.1.0) }

  -- a line with a post, whatever its letter
  abbrev posted : ℕ → ℕ → ℕ → List ℕ → Message
  posted letter row post xs = record { letter = letter; row = row; post = post; numbers = xs }

  module _ (row post : ℕ) (xs : List ℕ) (room : ℕ) where
    posted_sent : (letter count : ℕ) → is_letter letter ≡ true → eqb letter 68 ≡ false → count ≡ number_count_of k letter
        → line_refusal (party_tests n t post points) (posted_tests letter count row post xs room) ≡ 0 → Sent n k (posted letter row post xs)
    posted_sent letter count l d c e =
        let ys : List Test = posted_tests letter count row post xs room in
        let b = both_zero (party_tests n t post points) tt ys e in
        let a = all_fail ys tt b.1 in
        record {
          letter_is = l;
          count = equal (length xs) count a.0 ∙ c;
          no_post = λ q. absurd (eqb-false letter 68 d q);
          in_range = rw (a.1.0, d, (station_of_party n t points post b.0).1, a.1.1.0);
        }

    opening_sent : write_opening_refusal n t points row post xs room ≡ 0 → Sent n k (opening row post xs)
    opening_sent e = posted_sent 79 k refl refl refl e

    masks_sent_lem : write_masks_refusal n t points row post xs room ≡ 0 → Sent n k (masks row post xs)
    masks_sent_lem e = posted_sent 77 (masks_length (shape n t points)) refl refl refl e

  -- and the reader takes its line back
  writer_to_reader : (m : Message) (out : List ℕ) → first (station_tests n t points) ≡ 0 → Sent n k m → length out ≡ masks_length (shape n t points)
      → (read_refusal n t points (text m) out ≡ 0) × (message k (text m) ≡ m)
  writer_to_reader m out p h l =
      let a = all_fail (posts_tests n t) tt (posts_of_station n t points p).0 in
      let b : n < tens 10 = omega (arith, (inside fewest_posts most_posts n a.0).1) in
      let r = written_reads_back n k m b h in
      let zs : List Test = 5 when wrong_length out (masks_length (shape n t points)) ∷ line_tests n k (text m) in
      let f : first zs ≡ 0 = rw (eq-eqb (length out) (masks_length (shape n t points)) l) r.0 in
      (zero_both (station_tests n t points) tt zs p f, r.1)

  read_back : (refusal : ℕ) (m : Message) → (refusal ≡ 0 → first (station_tests n t points) ≡ 0) → (refusal ≡ 0 → Sent n k m) → (part out : List ℕ)
      → ReadBack n t points refusal m part out
  read_back refusal m p h part out e l =
      let r = writer_to_reader m out (p e) (h e) l in
      rw (line_laid refusal (text m) part e, r.0)
      (ap (λ (x : Message). line_as 0 x) r.1, ap (λ (x : Message). list_as 0 x out) r.1)

  -- ---- a message that posts send is taken by its writer, where the part has room
  sent_row : (m : Message) → Sent n k m → ltb (last_row_of m.letter) m.row ≡ false
  sent_row m h = (or_false (ltb (last_row_of m.letter) m.row) _ h.in_range).0

  sent_rest : (m : Message) → Sent n k m → (cond (eqb m.letter 68) false (outside 1 n m.post) ≡ false) × (any_beyond m.numbers ≡ false)
  sent_rest m h =
      or_false (cond (eqb m.letter 68) false (outside 1 n m.post)) (any_beyond m.numbers)
      (or_false (ltb (last_row_of m.letter) m.row) _ h.in_range).1

  module _ (p : first (station_tests n t points) ≡ 0) (row post : ℕ) (xs : List ℕ) (room : ℕ) where
    sent_posted : (letter count : ℕ) → eqb letter 68 ≡ false → count ≡ number_count_of k letter → Sent n k (posted letter row post xs)
        → length (text (posted letter row post xs)) ≤ room → line_refusal (party_tests n t post points) (posted_tests letter count row post xs room) ≡ 0
    sent_posted letter count d c h l =
        let r = sent_rest (posted letter row post xs) h in
        let ys : List Test = posted_tests letter count row post xs room in
        zero_both (party_tests n t post points) tt ys (party_of_lem n t points post p (rw d at r.0))
        (not_refused ys
        (ap not (eq-eqb (length xs) count (h.count ∙ sym c)), (sent_row (posted letter row post xs) h, (r.1, (le-ltb room _ (rw d at l), tt)))))

    sent_deal : Sent n k (posted 68 row post xs)
        → length (text (posted 68 row post xs)) ≤ room → write_deal_refusal n t row (get_or xs 0 0) room ≡ 0
    unfolding any_beyond
    sent_deal h l = go xs h.count (sent_rest _ h).1 l
      where
        go : (ys : List ℕ) → length ys ≡ 1 → any_beyond ys ≡ false → length (text (posted 68 row post ys)) ≤ room
            → write_deal_refusal n t row (get_or ys 0 0) room ≡ 0
        go [] c b l = absurd (omega arith)
        go (c ∷ []) q b l =
            let zs : List Test = dealt_tests row c room in
            zero_both (posts_tests n t) tt zs (posts_of_station n t points p).0 (not_refused zs (sent_row (posted 68 row post xs) h, ((or_false (beyond c) false b).0, (le-ltb room _ l, tt))))
        go (c ∷ d ∷ ys) q b l = absurd (omega arith)

    -- by the letter
    by_letter_lem : (letter : ℕ) (x y z : Bool) → eqb letter 68 ≡ x → eqb letter 79 ≡ y → eqb letter 77 ≡ z → (x || (y || z)) ≡ true
        → Sent n k (posted letter row post xs) → length (text (posted letter row post xs)) ≤ room
        → cond x (write_deal_refusal n t row (get_or xs 0 0) room) (cond y (write_opening_refusal n t points row post xs room) (write_masks_refusal n t points row post xs room)) ≡ 0
    by_letter_lem letter true y z d o m i h l = let e = eqb-true letter 68 d in sent_deal (rw e at h) (rw e at l)
    by_letter_lem letter false true z d o m i h l = let e = eqb-true letter 79 o in sent_posted 79 k refl refl (rw e at h) (rw e at l)
    by_letter_lem letter false false true d o m i h l = let e = eqb-true letter 77 m in sent_posted 77 (masks_length (shape n t points)) refl refl (rw e at h) (rw e at l)
    by_letter_lem letter false false false d o m i h l = let z : ◌≡◌ {A = ℕ} 0 1 = cc in absurd (omega arith)

    sent_is_written : (letter : ℕ) → Sent n k (posted letter row post xs) → length (text (posted letter row post xs)) ≤ room → write_refusal n t points (posted letter row post xs) room ≡ 0
    sent_is_written letter h l = by_letter_lem letter (eqb letter 68) (eqb letter 79) (eqb letter 77) refl refl refl h.letter_is h l

pub writers_read_back : WritersReadBack
writers_read_back = record {
  deal_back = λ n t points row c part out q.
      let ys : List Test = dealt_tests row c (length part) in
      read_back n t points (line_refusal (posts_tests n t) ys) (deal row c)
      (λ e. station_of n t points (both_zero (posts_tests n t) tt ys e).0 q)
      (λ e. deal_sent n t points row c (length part) (both_zero (posts_tests n t) tt ys e).1) part out;
  opening_back = λ n t points row post xs part out.
      let ys : List Test = posted_tests 79 (v_length (shape n t points)) row post xs (length part) in
      read_back n t points (line_refusal (party_tests n t post points) ys) (opening row post xs)
      (λ e. (station_of_party n t points post (both_zero (party_tests n t post points) tt ys e).0).0)
      (opening_sent n t points row post xs (length part)) part out;
  masks_back = λ n t points row post xs part out.
      let ys : List Test = posted_tests 77 (masks_length (shape n t points)) row post xs (length part) in
      read_back n t points (line_refusal (party_tests n t post points) ys) (masks row post xs)
      (λ e. (station_of_party n t points post (both_zero (party_tests n t post points) tt ys e).0).0)
      (masks_sent_lem n t points row post xs (length part)) part out;
}

-- ---- every line that the reader takes is the one that the writer makes of its message
pub reader_to_writer : ReaderToWriter
reader_to_writer n t points s out e =
    let k = v_length (shape n t points) in
    let ys : List Test = 5 when wrong_length out (masks_length (shape n t points)) ∷ line_tests n k s in
    let b = both_zero (station_tests n t points) tt ys e in
    let a = all_fail ys tt b.1 in
    let r = read_is_written n k s (not_refused (line_tests n k s) a.1) in
    let m : Message = message k s in
    let l : length (text m) ≤ length s = omega (arith, ap length r.0) in
    (r.0, sent_is_written n t points b.0 m.row m.post m.numbers (length s) m.letter r.1 l)
