-- The head of a line: each way in which it ends.
use Prim.Native.Nat.{ℕ, suc, ◌+◌, ◌*◌, ◌≤◌, ◌<◌}
use mathlib.Core.Path.{◌≡◌, refl, ap, ◌∙◌}
use mathlib.Core.List.{List, [], ◌∷◌}
use mathlib.Core.Bool.{Bool, true, false, ◌&&◌, cond}
use native.Mathlib.Omega.{arith}
use borrow.Author.Tests.{eq-eqb, ne_eqb}
use lib.ListN.{length, get_or, get_or-eq_default}
use lib.Dec.{eqb}
use Rattle.csv_fields.specs.declared.Run.{Run}
use Rattle.std.specs.Prelude.{Some, None}
use Rattle.csv_fields.specs.Fields.{Parsed, parsed, malformed, push, fields_at, ended, run_of}
use Rattle.csv_fields.proofs.Single.{first_found, first_broken}
use Rattle.forms.specs.Forms.{is_letter, number_count_of, field_count, form_of}
use Rattle.forms.specs.Between.{before, Headed}

-- ---- the letter
module _ (k b count : ℕ) (h : 1 ≤ k) (e : count ≡ cond (is_letter b) (number_count_of k b) 0) where
  letter_there : 1 ≤ count → (is_letter b ≡ true) × (count ≡ number_count_of k b)
  letter_there g = go (is_letter b) refl e
    where
      go : (t : Bool) → is_letter b ≡ t → count ≡ cond t (number_count_of k b) 0 → (t ≡ true) × (count ≡ number_count_of k b)
      go true l q = (refl, q)
      go false l q = absurd (omega arith)

  no_letter : count < 1 → is_letter b ≡ false
  no_letter g = go (is_letter b) refl e
    where
      some_number : (x y : Bool) → 1 ≤ cond x 1 (cond y k (2 * k))
      some_number true y = omega arith
      some_number false true = omega arith
      some_number false false = omega arith

      go : (t : Bool) → is_letter b ≡ t → count ≡ cond t (number_count_of k b) 0 → t ≡ false
      go true l q = absurd (omega (arith, some_number (eqb b 68) (eqb b 79)))
      go false l q = refl

-- ---- the head of a line
ended_push : (s : List ℕ) (x : ℕ) (o : Parsed) → ended s (push x o) ≡ before (x ∷ []) (ended s o)
ended_push s x malformed = refl
ended_push s x (parsed xs next) = go (eqb (get_or s next 0) 10 && eqb (length s) (next + 1))
  where
    go : (t : Bool) → cond t (parsed (x ∷ xs) next) malformed ≡ before (x ∷ []) (cond t (parsed xs next) malformed)
    go true = refl
    go false = refl

before_before : (x y : ℕ) (o : Parsed) → before (x ∷ []) (before (y ∷ []) o) ≡ before (x ∷ y ∷ []) o
before_before x y malformed = refl
before_before x y (parsed xs next) = refl

module _ (k : ℕ) (s : List ℕ) where
  pub scan_empty : length s < 1 → form_of k s ≡ malformed
  unfolding form_of
  scan_empty h = let l : length s ≤ 0 = omega arith in rw (get_or-eq_default s 0 l)

  module _ (h : 1 ≤ k) (count : ℕ) (c : count ≡ cond (is_letter (get_or s 0 0)) (number_count_of k (get_or s 0 0)) 0) where
    pub scan_letter : count < 1 → form_of k s ≡ malformed
    unfolding form_of
    scan_letter g = rw (no_letter k (get_or s 0 0) count h c g)

    module _ (g : 1 ≤ count) where
      fields_are : (j : ℕ) → field_count k (get_or s 0 0) ≡ j → form_of k s ≡ ended s (fields_at j s 1)
      unfolding form_of
      fields_are j q = rw ((letter_there k (get_or s 0 0) count h c g).0, q)

      -- the fields behind the row
      abbrev left : ℕ
      left = cond (eqb (get_or s 0 0) 68) 0 1 + count

      one_more : field_count k (get_or s 0 0) ≡ suc left
      one_more = go (eqb (get_or s 0 0) 68) (letter_there k (get_or s 0 0) count h c g).1
        where
          go : (t : Bool) → count ≡ number_count_of k (get_or s 0 0) → cond t 1 2 + number_count_of k (get_or s 0 0) ≡ suc (cond t 0 1 + count)
          go true q = omega arith
          go false q = omega arith

      pub scan_no_row : None ≡ run_of (fields_at 1 s 1) → form_of k s ≡ malformed
      scan_no_row e = fields_are (suc left) one_more ∙ ap (ended s) (first_broken left s 1 e)

      module _ (r : Run) (e : Some r ≡ run_of (fields_at 1 s 1)) where
        abbrev row : ℕ
        row = r.largest

        abbrev next : ℕ
        next = r.next

        behind_row_lem : form_of k s ≡ before (row ∷ []) (ended s (fields_at left s next))
        behind_row_lem =
            fields_are (suc left) one_more ∙ ap (ended s) (first_found left s 1 r e) ∙ ended_push s row (fields_at left s next)

        enough : count ≤ 2 * k
        enough = by_letter_lem (eqb (get_or s 0 0) 68) (eqb (get_or s 0 0) 79) (letter_there k (get_or s 0 0) count h c g).1
          where
            by_letter_lem : (x y : Bool) → count ≡ cond x 1 (cond y k (2 * k)) → count ≤ 2 * k
            by_letter_lem true y q = omega arith
            by_letter_lem false true q = omega arith
            by_letter_lem false false q = omega arith

        pub scan_deal : get_or s 0 0 ≡ 68 → Headed k s (get_or s 0 0) row 0 next count
        scan_deal d =
            let z : 0 + count ≡ count = omega arith in
            record { letter_is = refl; post_is = λ u. refl; few = enough; all = behind_row_lem ∙ rw (eq-eqb (get_or s 0 0) 68 d, z) }

        module _ (d : get_or s 0 0 ≡ 68 → ⊥) where
          one : left ≡ suc count
          one = rw (ne_eqb (get_or s 0 0) 68 d) (omega arith)

          pub scan_no_post : None ≡ run_of (fields_at 1 s next) → form_of k s ≡ malformed
          scan_no_post f = behind_row_lem ∙ rw (one, first_broken count s next f)

          pub scan_posted : (p : Run) → Some p ≡ run_of (fields_at 1 s next) → Headed k s (get_or s 0 0) row p.largest p.next count
          scan_posted p f =
              record {
                letter_is = refl;
                post_is = λ x. absurd (d x);
                few = enough;
                all =
                    behind_row_lem
                    ∙ rw (one, first_found count s next p f, ended_push s p.largest (fields_at count s p.next), ne_eqb (get_or s 0 0) 68 d)
                    (before_before row p.largest (ended s (fields_at count s p.next)));
              }
