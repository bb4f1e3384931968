-- The table of the street program's lines, letter by letter.
use Prim.Native.Nat.{ℕ, zero, suc, ◌≤◌, ◌<◌}
use mathlib.Core.Path.{◌≡◌, refl, ap, ap₂, sym, ◌∙◌}
use mathlib.Core.Bool.{Bool, true, false, not, ◌||◌}
use mathlib.Core.List.{List, [], ◌∷◌}
use native.Mathlib.Omega.{arith}
use borrow.Author.Tests.{lt-ltb, le-ltb, ltb-true, ltb-false, eqb-true, eqb-false}
use lib.Dec.{eqb, ltb}
use lib.ListN.{length}
use Rattle.field.specs.Modulus.{p}
use Rattle.refusal.specs.Refusal.{◌when◌, first, or_else, outcome}
use Rattle.refusal.specs.Conditions.{beyond, any_beyond}
use Rattle.refusal.proofs.Elements.{element_test}
use Rattle.refusal.proofs.Figures.{beyond_figures}
use Rattle.csv_fields.specs.Fields.{written, Parsed, parsed, malformed}
use Rattle.street_store.specs.Sizes.{longest_line}
use Rattle.street_reading.specs.Numbers.{number_form, numbers, rows_beyond, read_refusal}
use Rattle.street_states.specs.declared.State.{State}
use Rattle.street_states.specs.States.{After, refusing, leaving, unless}
use Rattle.street_steps.specs.Stepping.{late_step, step}
use Rattle.performing_law.specs.Lines.{TenDigits, Spelled, Range, ◌to◌, any_outside, line_table, refusal_of, Letter}
use Rattle.performing_law.proofs.Spelling.{small, short, form_spells, form_reads, form_other}

-- ---- 11 in figures
or_true : (b : Bool) → b || true ≡ true
or_true true = refl
or_true false = refl

pub or_none : (b : Bool) → b || false ≡ b
or_none true = refl
or_none false = refl

pub elements_outside : (xs : List ℕ) → any_outside [] xs ≡ any_beyond xs
unfolding any_beyond
elements_outside [] = refl
elements_outside (x ∷ xs) = ap₂ ◌||◌ (sym (beyond_figures x)) (elements_outside xs)

-- rows with their last ones
abbrev ranges_of : List ℕ → List Range
ranges_of [] = []
ranges_of (last ∷ lasts) = 0 to last ∷ ranges_of lasts

abbrev Low : List ℕ → Type 0
Low [] = Unit {0}
Low (last ∷ lasts) = (last < p) × Low lasts

no_rows : (lasts : List ℕ) → rows_beyond lasts [] ≡ false
unfolding rows_beyond
no_rows [] = refl
no_rows (last ∷ lasts) = rw (le-ltb last 0 (omega arith)) (no_rows lasts)

rows_outside : (lasts xs : List ℕ) → Low lasts → any_outside (ranges_of lasts) xs ≡ any_beyond xs || rows_beyond lasts xs
unfolding rows_beyond any_beyond
rows_outside [] xs h = elements_outside xs ∙ sym (or_none (any_beyond xs))
rows_outside (last ∷ lasts) [] h = sym (no_rows (last ∷ lasts))
rows_outside (last ∷ lasts) (x ∷ xs) h = rw (le-ltb x 0 (omega arith), rows_outside lasts xs h.1) (go (ltb last x) refl)
  where
    go : (l : Bool) → ltb last x ≡ l → l || (any_beyond xs || rows_beyond lasts xs) ≡ (beyond x || any_beyond xs) || (l || rows_beyond lasts xs)
    go true e = sym (or_true (beyond x || any_beyond xs))
    go false e = let g : x ≤ last = ltb-false last x e in rw (element_test x (omega (arith, h.0)))

-- ---- a letter, from what a line of its form and any other line get
module _ (st : State) (store : List ℕ) (over : (s : List ℕ) → 5252 < length s → refusal_of st store s ≡ 10) (b count : ℕ) (ranges : List Range) (call : List ℕ → ℕ)
    (wrong : (rest : List ℕ) → length (suc b ∷ rest) ≤ 5252 → number_form count (suc b ∷ rest) ≡ malformed → refusal_of st store (suc b ∷ rest) ≡ 10)
    (right : (rest xs : List ℕ) (next : ℕ) → length (suc b ∷ rest) ≤ 5252 → length xs ≡ count → number_form count (suc b ∷ rest) ≡ parsed xs next
    → refusal_of st store (suc b ∷ rest) ≡ or_else (first (11 when any_outside ranges xs ∷ [])) (call xs)) where
  letter_spelled : (rest : List ℕ) → (refusal_of st store (suc b ∷ rest) ≡ 10 → ⊥) → Spelled (suc b) (suc b ∷ rest)
  letter_spelled rest n = long (ltb 5252 (length (suc b ∷ rest))) refl
    where
      form : (o : Parsed) → length (suc b ∷ rest) ≤ 5252 → number_form count (suc b ∷ rest) ≡ o → Spelled (suc b) (suc b ∷ rest)
      form malformed l e = absurd (n (wrong rest l e))
      form (parsed xs next) l e =
          let w = form_spells b count rest xs next e in record { numbers = xs; short = short xs w.small; text = w.text }

      long : (x : Bool) → ltb 5252 (length (suc b ∷ rest)) ≡ x → Spelled (suc b) (suc b ∷ rest)
      long true e = absurd (n (over (suc b ∷ rest) (ltb-true 5252 (length (suc b ∷ rest)) e)))
      long false e = form (number_form count (suc b ∷ rest)) (ltb-false 5252 (length (suc b ∷ rest)) e) refl

  letter_refusal : (xs : List ℕ) → TenDigits xs
      → refusal_of st store (written (suc b) xs) ≡ or_else (first (line_table (suc b) count ranges xs)) (call xs)
  letter_refusal xs h = long (ltb 5252 (length (written (suc b) xs))) refl
    where
      counted : (x : Bool) → length (written (suc b) xs) ≤ 5252 → eqb (length xs) count ≡ x
          → refusal_of st store (written (suc b) xs) ≡ or_else (first (10 when not x ∷ 11 when any_outside ranges xs ∷ [])) (call xs)
      counted true l e =
          let q = eqb-true (length xs) count e in right _ xs _ l q (form_reads b count xs (small xs h) q)
      counted false l e = wrong _ l (form_other b count xs (small xs h) (eqb-false (length xs) count e))

      long : (x : Bool) → ltb 5252 (length (written (suc b) xs)) ≡ x
          → refusal_of st store (written (suc b) xs)
          ≡ or_else (first (10 when x ∷ 10 when not (eqb (length xs) count) ∷ 11 when any_outside ranges xs ∷ [])) (call xs)
      long true e = over (written (suc b) xs) (ltb-true 5252 (length (written (suc b) xs)) e)
      long false e = counted (eqb (length xs) count) (ltb-false 5252 (length (written (suc b) xs)) e) refl

  pub letter_of_is : Letter st store (suc b) count ranges call
  letter_of_is = record { spelled = letter_spelled; refusal = letter_refusal }

-- ---- the ways of a step
pub unless_refusal : (st : State) (store : List ℕ) (x : ℕ) (new : After) → (unless x st store new).given.refusal ≡ or_else x new.given.refusal
unfolding outcome
unless_refusal st store zero new = refl
unless_refusal st store (suc x) new = refl

-- a line of numbers
module _ (lasts : List ℕ) (low : Low lasts) (k : ℕ) (s : List ℕ) where
  read_wrong : number_form k s ≡ malformed → read_refusal lasts k s ≡ 10
  unfolding read_refusal
  read_wrong e = rw e

  join : (a b : Bool) → first (11 when a ∷ 11 when b ∷ []) ≡ first (11 when (a || b) ∷ [])
  join true b = refl
  join false b = refl

  read_right : (xs : List ℕ) (next : ℕ) → number_form k s ≡ parsed xs next → read_refusal lasts k s ≡ first (11 when any_outside (ranges_of lasts) xs ∷ [])
  unfolding read_refusal
  read_right xs next e = rw (e, rows_outside lasts xs low) (join (any_beyond xs) (rows_beyond lasts xs))

module _ (st : State) (store : List ℕ) (started : st.started ≡ true) where
  pub over_step : (s : List ℕ) → 5252 < length s → step st store s ≡ leaving (refusing st 10) store
  unfolding step late_step
  over_step s h = rw (started, lt-ltb longest_line (length s) h)

  pub over : (s : List ℕ) → 5252 < length s → refusal_of st store s ≡ 10
  over s h = ap (λ (a : After). a.given.refusal) (over_step s h)

  module _ (b : ℕ) (lasts : List ℕ) (low : Low lasts) (count : ℕ) (make : List ℕ → After)
      (is : (rest : List ℕ) → length (suc b ∷ rest) ≤ 5252
      → step st store (suc b ∷ rest) ≡ unless (read_refusal lasts count (suc b ∷ rest)) st store (make (numbers count (suc b ∷ rest))))
      (call : List ℕ → ℕ) (calls : (xs : List ℕ) → (make xs).given.refusal ≡ call xs) where
    is_refusal : (rest : List ℕ) → length (suc b ∷ rest) ≤ 5252
        → refusal_of st store (suc b ∷ rest) ≡ or_else (read_refusal lasts count (suc b ∷ rest)) (call (numbers count (suc b ∷ rest)))
    is_refusal rest l =
        ap (λ (a : After). a.given.refusal) (is rest l)
        ∙ unless_refusal st store (read_refusal lasts count (suc b ∷ rest)) (make (numbers count (suc b ∷ rest)))
        ∙ ap (or_else (read_refusal lasts count (suc b ∷ rest))) (calls (numbers count (suc b ∷ rest)))

    pub numbers_letter : Letter st store (suc b) count (ranges_of lasts) call
    numbers_letter =
        letter_of_is st store over b count (ranges_of lasts) call (λ rest l e. is_refusal rest l ∙ rw (read_wrong lasts low count (suc b ∷ rest) e))
        (λ rest xs next l q e. is_refusal rest l ∙ rw (read_right lasts low count (suc b ∷ rest) xs next e, e))
