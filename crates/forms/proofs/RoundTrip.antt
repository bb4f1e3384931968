-- Whole lines, both ways: a written line reads back to its message, and a line read is the one that is written.
use Prim.Native.Nat.{ℕ, ◌+◌, ◌*◌, ◌≤◌, ◌<◌}
use mathlib.Core.Path.{◌≡◌, refl, ap, sym, ◌∙◌}
use mathlib.Core.List.{List, [], ◌∷◌}
use mathlib.Core.Bool.{Bool, true, false, cond}
use native.Mathlib.Omega.{arith}
use borrow.Author.Tests.{eq-eqb, ltb-false, eqb-true}
use lib.ListN.{length, get_or, drop, length-drop}
use lib.Dec.{ltb, eqb}
use Rattle.refusal.specs.Conditions.{outside, beyond, any_beyond}
use Rattle.refusal.proofs.Laws.{or_false, inside, all_fail}
use Rattle.refusal.proofs.Elements.{below_p}
use Rattle.decimal.specs.Numeral.{tens}
use Rattle.csv_fields.specs.Fields.{fields, written, Parsed, parsed, malformed, numbers_of_of, Small}
use Rattle.forms.specs.Lines.{Message, fields_of, text, last_row_of}
use Rattle.forms.specs.Forms.{number_count_of, field_count, form_of, message_of, message, is_malformed, beyond_range, line_tests, Sent}
use Rattle.forms.specs.Claims.{WrittenReadsBack, ReadIsWritten, NoOtherLine, OneMessage}
use Rattle.forms.proofs.Forms.{form_spelled, form_read}
use Rattle.forms.proofs.Ranges.{last_row_le}

-- ---- what the range says
pub none_beyond : (xs : List ℕ) → any_beyond xs ≡ false → Small xs
unfolding any_beyond
none_beyond [] e = tt
none_beyond (x ∷ xs) e =
    let h = or_false (beyond x) (any_beyond xs) e in
    (omega (arith, below_p x h.0), none_beyond xs h.1)

-- row, post and numbers of a message in range
pub record WithinBounds (n : ℕ) (m : Message) : Type 0 where
  pub row : m.row ≤ last_row_of m.letter
  pub post : cond (eqb m.letter 68) false (outside 1 n m.post) ≡ false
  pub numbers : Small m.numbers

pub in_range : (n : ℕ) (m : Message) → beyond_range n m ≡ false → WithinBounds n m
in_range n m e =
    let a = or_false (ltb (last_row_of m.letter) m.row) _ e in
    let b = or_false (cond (eqb m.letter 68) false (outside 1 n m.post)) _ a.1 in
    record { row = ltb-false (last_row_of m.letter) m.row a.0; post = b.0; numbers = none_beyond m.numbers b.1 }

fields_small : (n : ℕ) (m : Message) → n < tens 10 → WithinBounds n m → Small (fields_of m)
fields_small n m l h = go (eqb m.letter 68) h.post
  where
    row : m.row < tens 10
    row = omega (arith, h.row, last_row_le m.letter)

    go : (t : Bool) → cond t false (outside 1 n m.post) ≡ false → Small (cond t (m.row ∷ m.numbers) (m.row ∷ m.post ∷ m.numbers))
    go true p = (row, h.numbers)
    go false p = (row, (omega (arith, (inside 1 n m.post p).1), h.numbers))

-- ---- fields and messages
fields_count : (n k : ℕ) (m : Message) → Sent n k m → length (fields_of m) ≡ field_count k m.letter
fields_count n k m h = go (eqb m.letter 68) h.count
  where
    go : (t : Bool) → length m.numbers ≡ number_count_of k m.letter
        → length (cond t (m.row ∷ m.numbers) (m.row ∷ m.post ∷ m.numbers)) ≡ cond t 1 2 + number_count_of k m.letter
    go true e = omega arith
    go false e = omega arith

message_of_fields : (m : Message) → (m.letter ≡ 68 → m.post ≡ 0) → message_of m.letter (fields_of m) ≡ m
message_of_fields m z = go (eqb m.letter 68) refl
  where
    xs : Bool → List ℕ
    xs t = cond t (m.row ∷ m.numbers) (m.row ∷ m.post ∷ m.numbers)

    go : (t : Bool) → eqb m.letter 68 ≡ t
        → ◌≡◌ {A = Message} (record { letter = m.letter; row = get_or (xs t) 0 0; post = cond t 0 (get_or (xs t) 1 0); numbers = drop (cond t 1 2) (xs t) }) m
    go true e = ap (λ (p : ℕ). record { letter = m.letter; row = m.row; post = p; numbers = m.numbers }) (sym (z (eqb-true m.letter 68 e)))
    go false e = refl

fields_of_message : (b : ℕ) (xs : List ℕ) → 2 ≤ length xs → fields_of (message_of b xs) ≡ xs
fields_of_message b [] h = absurd (omega arith)
fields_of_message b (x ∷ []) h = absurd (omega arith)
fields_of_message b (x ∷ y ∷ xs) h = go (eqb b 68)
  where
    go : (t : Bool) → cond t (x ∷ drop (cond t 1 2) (x ∷ y ∷ xs)) (x ∷ cond t 0 y ∷ drop (cond t 1 2) (x ∷ y ∷ xs)) ≡ x ∷ y ∷ xs
    go true = refl
    go false = refl

-- every line has a row and a number, or a row and a post
field_count_two : (k b : ℕ) → 2 ≤ field_count k b
field_count_two k b = go (eqb b 68) (eqb b 79)
  where
    go : (x y : Bool) → 2 ≤ cond x 1 2 + cond x 1 (cond y k (2 * k))
    go true y = omega arith
    go false true = omega arith
    go false false = omega arith

-- ---- read (written m) = m
pub written_reads_back : WrittenReadsBack
written_reads_back n k m l h =
    let f : form_of k (text m) ≡ parsed (fields_of m) (1 + length (fields (fields_of m))) =
    form_read k m.letter (fields_of m) h.letter_is (fields_count n k m h) (fields_small n m l (in_range n m h.in_range)) in
    let q = message_of_fields m h.no_post in
    let g : message k (text m) ≡ m = ap (λ (o : Parsed). message_of m.letter (numbers_of_of o)) f ∙ q in
    let r : beyond_range n (message k (text m)) ≡ false = ap (beyond_range n) g ∙ h.in_range in
    (rw (r, f), g)

-- ---- read s accepted with m: s = written m, and posts send m
pub read_is_written : ReadIsWritten
read_is_written n k s e =
    let a = all_fail (line_tests n k s) tt e in
    go (form_of k s) refl a.0 a.1.0
  where
    rest : (xs : List ℕ) → length xs ≡ field_count k (get_or s 0 0) → length (message_of (get_or s 0 0) xs).numbers ≡ number_count_of k (get_or s 0 0)
    rest xs = by_letter_lem (eqb (get_or s 0 0) 68)
      where
        by_letter_lem : (t : Bool) → length xs ≡ cond t 1 2 + number_count_of k (get_or s 0 0) → length (drop (cond t 1 2) xs) ≡ number_count_of k (get_or s 0 0)
        by_letter_lem true q = omega (arith, length-drop 1 xs)
        by_letter_lem false q = omega (arith, length-drop 2 xs)

    go : (o : Parsed) → form_of k s ≡ o → is_malformed o ≡ false → beyond_range n (message_of (get_or s 0 0) (numbers_of_of o)) ≡ false
        → (s ≡ text (message_of (get_or s 0 0) (numbers_of_of o))) × Sent n k (message_of (get_or s 0 0) (numbers_of_of o))
    go malformed f x r = let z : ◌≡◌ {A = ℕ} 0 1 = cc in absurd (omega arith)
    go (parsed xs next) f x r =
        let w = form_spelled k s xs next f in
        let h : 2 ≤ length xs = omega (arith, w.number, field_count_two k (get_or s 0 0)) in (
          w.text ∙ ap (written (get_or s 0 0)) (sym (fields_of_message (get_or s 0 0) xs h)),
          record {
            letter_is = w.letter;
            count = rest xs w.number;
            no_post = λ d. rw (eq-eqb (get_or s 0 0) 68 d);
            in_range = r;
          },
        )

-- ---- no other line is accepted: none of another length or form
pub no_other_line : NoOtherLine
no_other_line n k s h e = let r = read_is_written n k s e in h (message k s) r.1 r.0

-- ---- a line has one message
pub one_message : OneMessage
one_message n k a b l g h e =
    sym (written_reads_back n k a l g).1 ∙ ap (message k) e ∙ (written_reads_back n k b l h).1
