-- The whole program: how it begins, and the answers that it prints.
use Prim.Native.Nat.{ℕ, zero, suc, ◌+◌, ◌-◌, ◌*◌, ◌/◌, ◌%◌, ◌≤◌, ◌<◌}
use mathlib.Core.Path.{◌≡◌, refl, ap, sym, ◌∙◌}
use mathlib.Core.Bool.{cond}
use mathlib.Core.List.{List, [], ◌∷◌, ◌++◌, append_assoc, append-nil}
use native.Mathlib.Omega.{arith}
use borrow.Author.Tests.{lt-ltb, le-ltb, ne_eqb}
use lib.Dec.{ltb}
use lib.ListN.{length, take, drop, replicate, length-append}
use Rattle.shape.specs.Lengths.{shape, record_length}
use Rattle.poly.specs.Counting.{All}
use Rattle.decimal.specs.Numeral.{tens, last_digits, size_within}
use Rattle.decimal.proofs.Sizes.{size_one}
use Rattle.street_answers.specs.Text.{long_size_of}
use Rattle.street_answers.proofs.Texts.{answer_texts}
use Rattle.street_store.specs.Sizes.{openings_at, masks_a_at, masks_b_at, store_room, record_room, InStreet}
use Rattle.street_store.specs.Records.{record_at}
use Rattle.street_store.proofs.Keeping.{record_room_is, take_zeros}
use Rattle.street_steps.specs.Stepping.{step}
use Rattle.street_feeds.specs.Program.{begun, answers, lines_from, printed}
use Rattle.performing_law.specs.Program.{NoFeed, ProgramPrints}

drop_zeros : (a m k : ℕ) → k + a ≡ m → drop a (replicate {A = ℕ} m 0) ≡ replicate k 0
drop_zeros zero m k e = let q : m ≡ k = omega arith in ap (λ (j : ℕ). replicate j 0) q
drop_zeros (suc a) zero k e = absurd (omega arith)
drop_zeros (suc a) (suc m) k e = drop_zeros a m k (omega arith)

empty : (at n t points : ℕ) → at + record_room ≤ store_room → InStreet (shape n t points)
    → record_at at (shape n t points) begun.store ≡ replicate (n * (points * t + 2)) 0
empty at n t points h i =
    let g = shape n t points in
    let k : points * t + 1 + 1 ≡ points * t + 2 = omega arith in
    ap (take (record_length g)) (drop_zeros at store_room (store_room - at) (omega arith))
    ∙ take_zeros (record_length g) (store_room - at) (omega (arith, record_room_is g i))
    ∙ ap (λ (j : ℕ). replicate (n * j) 0) k

-- ---- the lines of an input, of whose first line these bytes were read before
next : (line s rest : List ℕ) → All NoFeed s → lines_from line (s ++ (10 ∷ rest)) ≡ (line ++ (s ++ (10 ∷ []))) ∷ lines_from [] rest
unfolding lines_from
next line [] rest h = refl
next line (b ∷ s) rest h =
    rw (ne_eqb b 10 h.0) (next (line ++ (b ∷ [])) s rest h.1 ∙ ap (λ (l : List ℕ). l ∷ lines_from [] rest) (append_assoc line (b ∷ []) (s ++ (10 ∷ []))))

last : (line s : List ℕ) → 1 ≤ length line → All NoFeed s → lines_from line s ≡ (line ++ s) ∷ []
unfolding lines_from
last line [] l h = rw (ne_eqb (length line) 0 (λ e. omega (arith, l, e))) (ap (λ (x : List ℕ). x ∷ []) (sym (append-nil line)))
last line (b ∷ s) l h =
    rw (ne_eqb b 10 h.0)
    (last (line ++ (b ∷ [])) s (omega (arith, length-append line (b ∷ []))) h.1 ∙ ap (λ (x : List ℕ). x ∷ []) (append_assoc line (b ∷ []) s))

-- ---- a line's number: room for one digit more than there are changes nothing
size_room : (f x : ℕ) → x < tens (suc f) → size_within (suc f) x ≡ size_within f x
unfolding size_within
size_room zero x h = rw (lt-ltb x 10 (omega arith))
size_room (suc f) x h = ap (λ (n : ℕ). cond (ltb x 10) 1 (suc n)) (size_room f (x / 10) (omega arith))

size_more : (x : ℕ) → 10 ≤ x → x < tens 20 → long_size_of x ≡ suc (long_size_of (x / 10))
unfolding size_within
size_more x l h = rw (le-ltb x 10 l) (ap suc (sym (size_room 18 (x / 10) (omega arith))))

pub program_prints : ProgramPrints
unfolding answers printed lines_from last_digits
program_prints =
    record {
      not_started = refl;
      no_openings = λ n t points i. empty openings_at n t points (omega arith) i;
      no_masks_a = λ n t points i. empty masks_a_at n t points (omega arith) i;
      no_masks_b = λ n t points i. empty masks_b_at n t points (omega arith) i;
      by_lines = λ input. refl;
      answer =
          λ st store number line lines.
          let a = step st store line in
          ap (λ (l : List ℕ). l ++ answers a.given.state a.store (number + 1) lines)
          (answer_texts.printed number a.given.refusal a.given.value a.told);
      no_more = λ st store number. refl;
      next_line = next [];
      last_line = λ b s h. rw (ne_eqb b 10 h.0) (last (b ∷ []) s (omega arith) h.1);
      no_lines = refl;
      one_digit = λ x h.
          let e : x % 10 ≡ x = omega arith in
          rw (size_one 19 x h) (ap (λ (d : ℕ). (48 + d) ∷ []) e);
      more_digits = λ x l h. ap (λ (k : ℕ). last_digits k x) (size_more x l (omega arith));
    }
