-- A written line, fed byte by byte, is taken whole: no line feed stands in it but its last byte.
use Prim.Native.Nat.{ℕ, ◌+◌, ◌≤◌}
use mathlib.Core.Path.{◌≡◌, ◌∙◌, ap}
use mathlib.Core.Bool.{Bool, cond}
use mathlib.Core.List.{List, [], ◌∷◌, ◌++◌, append_assoc}
use native.Mathlib.Omega.{arith}
use borrow.Author.Tests.{ne_eqb}
use lib.ListN.{length, length-append}
use lib.Seq.{take_all}
use Rattle.decimal.specs.Numeral.{size, numeral}
use Rattle.decimal.proofs.Digits.{Digits, digits_are_digits}
use Rattle.csv_fields.specs.Fields.{fields, written}
use Rattle.street_states.specs.declared.State.{State}
use Rattle.street_store.specs.Sizes.{longest_line}
use Rattle.street_steps.specs.Stepping.{step}
use Rattle.street_splitting.specs.Lines.{kept_length}
use Rattle.street_feeds.specs.Program.{Running, left_by, answered, grown, fed}

-- ---- bytes above a line feed
abbrev Feedless : List ℕ → Type 0
Feedless [] = Unit {0}
Feedless (b ∷ s) = (11 ≤ b) × Feedless s

feedless_append : (a b : List ℕ) → Feedless a → Feedless b → Feedless (a ++ b)
feedless_append [] b h g = g
feedless_append (x ∷ a) b h g = (h.0, feedless_append a b h.1 g)

feedless_digits : (ds : List ℕ) → Digits ds → Feedless ds
feedless_digits [] h = tt
feedless_digits (d ∷ ds) h = (omega (arith, h.0.0), feedless_digits ds h.1)

feedless_fields : (xs : List ℕ) → Feedless (fields xs)
unfolding fields
feedless_fields [] = tt
feedless_fields (x ∷ xs) =
    (omega arith, feedless_append (numeral x) (fields xs) (feedless_digits (numeral x) (digits_are_digits (size x) x)) (feedless_fields xs))

-- ---- the program between two lines
abbrev pub between : State → List ℕ → ℕ → List ℕ → Running
between st store number out = record { state = st; store = store; line = []; number = number; out = out }

module _ (st : State) (store : List ℕ) (number : ℕ) (out : List ℕ) where
  abbrev p : Running
  p = between st store number out

  abbrev with_line : List ℕ → Running
  with_line l = record { state = st; store = store; line = l; number = number; out = out }

  kept : (l : List ℕ) (b : ℕ) → length (l ++ (b ∷ [])) ≤ kept_length → grown (with_line l) (b ∷ []) ≡ with_line (l ++ (b ∷ []))
  unfolding grown
  kept l b h = ap with_line (take_all kept_length (l ++ (b ∷ [])) h)

  taken_up : (s l : List ℕ) → Feedless s → length l + length s + 1 ≤ kept_length
      → fed (with_line l) (s ++ (10 ∷ [])) ≡ left_by p (step st store (l ++ (s ++ (10 ∷ []))))
  unfolding fed answered
  taken_up [] l h short = ap answered (kept l 10 (omega (arith, length-append l (10 ∷ []))))
  taken_up (b ∷ s) l h short =
      let more : Running = grown (with_line l) (b ∷ []) in
      let grows : length (l ++ (b ∷ [])) ≡ length l + 1 = length-append l (b ∷ []) in
      ap (λ (c : Bool). fed (cond c (answered more) more) (s ++ (10 ∷ []))) (ne_eqb b 10 (λ e. omega (arith, h.0)))
      ∙ ap (λ (r : Running). fed r (s ++ (10 ∷ []))) (kept l b (omega arith))
      ∙ taken_up s (l ++ (b ∷ [])) h.1 (omega arith)
      ∙ ap (λ (z : List ℕ). left_by p (step st store z)) (append_assoc l (b ∷ []) (s ++ (10 ∷ [])))

  pub fed_line : (letter : ℕ) (xs : List ℕ) → 11 ≤ letter → length (written letter xs) ≤ longest_line
      → fed p (written letter xs) ≡ left_by p (step st store (written letter xs))
  fed_line letter xs h short =
      taken_up (letter ∷ fields xs) [] (h, feedless_fields xs) (omega (arith, length-append (fields xs) (10 ∷ [])))
