-- The ways in which reading a line ends.
use Prim.Native.Nat.{ℕ, ◌+◌, ◌*◌, ◌≤◌, ◌<◌}
use mathlib.Core.Path.{◌≡◌, refl, ap, sym, ◌∙◌}
use mathlib.Core.List.{List, [], ◌∷◌, ◌++◌}
use mathlib.Core.Bool.{Bool, true, false, ◌&&◌, ◌||◌, cond}
use native.Mathlib.Omega.{arith}
use borrow.Author.Tests.{lt-ltb, le-ltb, eq-eqb, ne_eqb, eqb-true}
use lib.ListN.{length, get_or, drop}
use lib.Dec.{ltb, eqb}
use Rattle.field.specs.Modulus.{p}
use Rattle.shape.specs.Lengths.{shape, v_length, masks_length}
use Rattle.refusal.specs.Refusal.{Test, ◌when◌, first, outcome}
use Rattle.refusal.specs.Conditions.{outside, wrong_length, beyond, station_tests}
use Rattle.refusal.proofs.Endings.{refused}
use Rattle.csv_fields.specs.declared.Run.{Run}
use Rattle.std.specs.Prelude.{Option, Some, None}
use Rattle.csv_fields.specs.Fields.{Parsed, parsed, malformed, fields_at, ended, numbers_of_of, largest_from, run, run_of, padded}
use Rattle.forms.proofs.Ranges.{largest_any}
use Rattle.lines.specs.declared.Line.{Line}
use Rattle.forms.specs.declared.Head.{Head}
use Rattle.forms.specs.Lines.{Message, last_row_of}
use Rattle.lines.specs.Order.{line_refusal}
use Rattle.forms.specs.Forms.{form_of, message_of, message, out_of_range_of, beyond_range, line_tests}
use Rattle.forms.specs.Between.{head_of, before, Headed, HeadOf, below_limit}
use Rattle.lines.specs.Reading.{read_refusal, no_line_of, limit_of_of, line_as, list_as}
use Rattle.lines.proofs.Refusing.{station_refuse, station_pass}

-- ---- a number below the limit: row, post and numbers are in range
limit_out : (a b : Bool) (largest : ℕ) → limit_of_of (a || (b || beyond 0)) ≤ largest → a || (b || beyond largest) ≡ true
limit_out true b largest h = refl
limit_out false true largest h = refl
limit_out false false largest h = rw (le-ltb largest p h)

limit_in : (a b : Bool) (largest : ℕ) → largest < limit_of_of (a || (b || beyond 0)) → a || (b || beyond largest) ≡ false
limit_in true b largest h = absurd (omega arith)
limit_in false true largest h = absurd (omega arith)
limit_in false false largest h = rw (lt-ltb largest p h)

pub limit_small : (t : Bool) (limit : ℕ) → limit ≡ limit_of_of t → limit ≤ 4294967296
limit_small true limit e = omega arith
limit_small false limit e = omega arith

-- ---- a line with the right head
module _ (n k : ℕ) (s out : List ℕ) where
  abbrev refusal : ℕ
  refusal = first (line_tests n k s)

  pub malformed_line : (v : Line) → form_of k s ≡ malformed → v ≡ no_line_of 10 → v ≡ line_as refusal (message k s)
  unfolding outcome
  malformed_line v form q = rw form q

  pub malformed_list : form_of k s ≡ malformed → out ≡ list_as refusal (message k s) out
  unfolding outcome
  malformed_list form = rw form

  module _ (letter row post at count : ℕ) (headed : Headed k s letter row post at count) where
    pub head_room : length out ≡ 2 * k → count ≤ length out
    head_room l = omega (arith, headed.few)

    module _ (r : Option Run) (d : r ≡ run_of (ended s (fields_at count s at))) where
      -- what the list has: the numbers, if they are below the limit
      abbrev read_as : ℕ → List ℕ
      read_as limit = cond (below_limit r limit) (padded (length out) (numbers_of_of (fields_at count s at))) out

      module _ (u : r ≡ None) where
        broken : form_of k s ≡ malformed
        broken = headed.all ∙ by_form (ended s (fields_at count s at)) (sym d ∙ u)
          where
            by_form : (o : Parsed) → run_of o ≡ None → before (head_of letter row post) o ≡ malformed
            by_form malformed q = refl
            by_form (parsed xs next) q = let z : ◌≡◌ {A = ℕ} 0 1 = cc in absurd (omega arith)

        pub broken_line : (v : Line) → v ≡ no_line_of 10 → v ≡ line_as refusal (message k s)
        unfolding outcome
        broken_line v q = rw broken q

        pub broken_list : (limit : ℕ) (o : List ℕ) → o ≡ read_as limit → o ≡ list_as refusal (message k s) out
        unfolding outcome
        broken_list limit o q = q ∙ rw (broken, u)

      module _ (largest next : ℕ) (u : r ≡ run largest next) where
        record Scanned : Type 0 where
          numbers : List ℕ
          all : form_of k s ≡ parsed (head_of letter row post ++ numbers) next
          rest : fields_at count s at ≡ parsed numbers next
          largest_is : largest ≡ largest_from 0 numbers

        scanned : Scanned
        scanned = by_form (fields_at count s at) refl headed.all (sym d ∙ u)
          where
            by_end : (xs : List ℕ) (end : ℕ) (t : Bool) → fields_at count s at ≡ parsed xs end
                → form_of k s ≡ before (head_of letter row post) (cond t (parsed xs end) malformed) → run_of (cond t (parsed xs end) malformed) ≡ run largest next → Scanned
            by_end xs end true g a q =
                let h : ◌≡◌ {A = Run} (record { largest = largest_from 0 xs; next = end }) (record { largest = largest; next = next }) = cc in
                let e : end ≡ next = ap (λ (v : Run). v.next) h in
                let l : largest ≡ largest_from 0 xs = sym (ap (λ (v : Run). v.largest) h) in
                record { numbers = xs; all = a ∙ ap (parsed (head_of letter row post ++ xs)) e; rest = g ∙ ap (parsed xs) e; largest_is = l }
            by_end xs end false g a q = let z : ◌≡◌ {A = ℕ} 0 1 = cc in absurd (omega arith)

            by_form : (o : Parsed) → fields_at count s at ≡ o → form_of k s ≡ before (head_of letter row post) (ended s o) → run_of (ended s o) ≡ run largest next → Scanned
            by_form malformed g a q = let z : ◌≡◌ {A = ℕ} 0 1 = cc in absurd (omega arith)
            by_form (parsed xs end) g a q = by_end xs end (eqb (get_or s end 0) 10 && eqb (length s) (end + 1)) g a q

        abbrev said : Message
        said = record { letter = letter; row = row; post = post; numbers = scanned.numbers }

        message_is : message k s ≡ said
        message_is =
            ap (λ (o : Parsed). message_of (get_or s 0 0) (numbers_of_of o)) scanned.all
            ∙ ap (λ (b : ℕ). message_of b (head_of letter row post ++ scanned.numbers)) (sym headed.letter_is)
            ∙ go (eqb letter 68) refl
          where
            xs : Bool → List ℕ
            xs t = cond t (row ∷ []) (row ∷ post ∷ []) ++ scanned.numbers

            go : (t : Bool) → eqb letter 68 ≡ t
                → ◌≡◌ {A = Message} (record { letter = letter; row = get_or (xs t) 0 0; post = cond t 0 (get_or (xs t) 1 0); numbers = drop (cond t 1 2) (xs t) }) said
            go true e = ap (λ (q : ℕ). record { letter = letter; row = row; post = q; numbers = scanned.numbers }) (sym (headed.post_is (eqb-true letter 68 e)))
            go false e = refl

        module _ (t : Bool) (e : t ≡ out_of_range_of n letter row post (beyond 0)) (limit : ℕ) (l : limit ≡ limit_of_of t) where
          range_is : beyond_range n (message k s) ≡ out_of_range_of n letter row post (beyond largest)
          range_is =
              ap (beyond_range n) message_is
              ∙ ap (out_of_range_of n letter row post) (largest_any 0 scanned.numbers ∙ ap beyond (sym scanned.largest_is))

          -- the limit, by row and post
          limit_is : limit ≡ limit_of_of (out_of_range_of n letter row post (beyond 0))
          limit_is = l ∙ ap limit_of_of e

          module _ (h : limit ≤ largest) where
            refused_is : refusal ≡ 11
            refused_is =
                rw (
                  range_is,
                  scanned.all,
                  limit_out (ltb (last_row_of letter) row) (cond (eqb letter 68) false (outside 1 n post)) largest (omega (arith, limit_is)),
                )

            pub beyond_line : (v : Line) → v ≡ no_line_of 11 → v ≡ line_as refusal (message k s)
            unfolding outcome
            beyond_line v q = rw refused_is q

            pub beyond_list : (o : List ℕ) → o ≡ read_as limit → o ≡ list_as refusal (message k s) out
            unfolding outcome
            beyond_list o q = q ∙ rw (refused_is, u, le-ltb largest limit h)

          module _ (h : largest < limit) where
            read_is : refusal ≡ 0
            read_is =
                rw (
                  range_is,
                  scanned.all,
                  limit_in (ltb (last_row_of letter) row) (cond (eqb letter 68) false (outside 1 n post)) largest (omega (arith, limit_is)),
                )

            pub taken_line : ◌≡◌ {A = Line} (record { refusal = 0; letter = letter; row = row; post = post }) (line_as refusal (message k s))
            unfolding outcome
            taken_line = rw read_is (ap (λ (m : Message). record { refusal = 0; letter = m.letter; row = m.row; post = m.post }) (sym message_is))

            pub taken_list : (o : List ℕ) → o ≡ read_as limit → o ≡ list_as refusal (message k s) out
            unfolding outcome
            taken_list o q =
                q
                ∙ rw (read_is, u, lt-ltb largest limit h)
                (ap (padded (length out)) (ap numbers_of_of scanned.rest ∙ ap (λ (m : Message). m.numbers) (sym message_is)))

-- ---- 1, 2, 4 and 5 first, then the tests ys of a line
module _ (n t points f : ℕ) (e : f ≡ first (station_tests n t points)) (ys : List Test) (m : Message) where
  pub station_line : (v : Line) → (f ≡ 0 → ⊥) → v ≡ no_line_of f → v ≡ line_as (line_refusal (station_tests n t points) ys) m
  station_line v h q =
      let r = station_refuse n t points f e ys h in
      q ∙ ap no_line_of r
      ∙ refused f (line_refusal (station_tests n t points) ys) (record { refusal = 0; letter = m.letter; row = m.row; post = m.post })
      (no_line_of (line_refusal (station_tests n t points) ys)) r h

-- `room` is the length that the list must have, as the code counts it
module _ (n t points f : ℕ) (e : f ≡ first (station_tests n t points)) (z : f ≡ 0) (s out : List ℕ) (room : ℕ) (c : room ≡ masks_length (shape n t points)) where
  abbrev k : ℕ
  k = v_length (shape n t points)

  abbrev tests : List Test
  tests = 5 when wrong_length out (masks_length (shape n t points)) ∷ line_tests n k s

  pub missized_line : (v : Line) → (length out ≡ room → ⊥) → v ≡ no_line_of 5 → v ≡ line_as (read_refusal n t points s out) (message k s)
  unfolding outcome
  missized_line v h q = rw (← station_pass n t points f e z tests, ne_eqb (length out) (masks_length (shape n t points)) (rw c at h)) q

  pub missized_list : (length out ≡ room → ⊥) → out ≡ list_as (read_refusal n t points s out) (message k s) out
  unfolding outcome
  missized_list h = rw (← station_pass n t points f e z tests, ne_eqb (length out) (masks_length (shape n t points)) (rw c at h))

  module _ (h : length out ≡ room) where
    sized : first (line_tests n k s) ≡ read_refusal n t points s out
    sized = rw (← station_pass n t points f e z tests, eq-eqb (length out) (masks_length (shape n t points)) (h ∙ c))

    module _ (j : ℕ) (d : j ≡ k) where
      pub twice_long : length out ≡ 2 * j
      twice_long = omega arith

      pub sized_line : (v : Line) → v ≡ line_as (first (line_tests n j s)) (message j s) → v ≡ line_as (read_refusal n t points s out) (message k s)
      sized_line v q = (rw d at q) ∙ ap (λ (r : ℕ). line_as r (message k s)) sized

      pub sized_list : (v : List ℕ) → v ≡ list_as (first (line_tests n j s)) (message j s) out → v ≡ list_as (read_refusal n t points s out) (message k s) out
      sized_list v q = (rw d at q) ∙ ap (λ (r : ℕ). list_as r (message k s) out) sized
