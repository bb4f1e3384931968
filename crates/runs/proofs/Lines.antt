-- A broadcast line shows one message: whose it is, for which row, and its numbers.
use Prim.Native.Nat.{ℕ, zero, suc, ◌*◌, ◌≤◌, ◌<◌}
use mathlib.Core.Path.{◌≡◌, refl, ap, ap₂}
use mathlib.Core.Bool.{false, ◌||◌}
use mathlib.Core.List.{List}
use native.Mathlib.Omega.{arith}
use borrow.Author.Tests.{le-ltb}
use lib.Dec.{ltb}
use lib.ListN.{length}
use Rattle.field.specs.Element.{Element}
use Rattle.poly.specs.Counting.{Elements}
use Rattle.shape.specs.Bounds.{last_row_at, last_triple}
use Rattle.refusal.specs.Conditions.{any_beyond, outside}
use Rattle.factory.proofs.Laws.{elements_pass}
use Rattle.decimal.specs.Numeral.{tens}
use Rattle.forms.specs.Lines as Line
use Rattle.forms.specs.Lines.{Message}
use Rattle.forms.specs.Forms.{Sent}
use Rattle.forms.proofs.RoundTrip.{one_message}
use Rattle.vectors.specs.Vector.{numbers}
use Rattle.runs.specs.Calls.{opening_line, masks_line}

-- ---- elements

pub numbers_elements : (k : ℕ) (a : ℕ → Element) → Elements (numbers k a)
unfolding numbers
numbers_elements zero a = tt
numbers_elements (suc k) a = ((a 0).1, numbers_elements k (λ i. a (suc i)))

-- ---- messages that posts send

within : (low high x : ℕ) → low ≤ x → x ≤ high → outside low high x ≡ false
within low high x a b = ap₂ ◌||◌ (le-ltb x low a) (le-ltb high x b)

-- post j of n posts, with k coefficients to a polynomial
module _ (n k : ℕ) (small : n < tens 10) where
  pub record Opening (r j : ℕ) (xs : List ℕ) : Type 0 where
    pub row : r ≤ last_row_at
    pub post : (1 ≤ j) × (j ≤ n)
    pub many : length xs ≡ k
    pub low : Elements xs

  pub record Masks (r j : ℕ) (xs : List ℕ) : Type 0 where
    pub row : r ≤ last_triple
    pub post : (1 ≤ j) × (j ≤ n)
    pub many : length xs ≡ 2 * k
    pub low : Elements xs

  in_range : (last r j : ℕ) (xs : List ℕ) → r ≤ last → (1 ≤ j) × (j ≤ n) → Elements xs
      → ltb last r || (outside 1 n j || any_beyond xs) ≡ false
  in_range last r j xs low post e =
      ap₂ ◌||◌ (le-ltb last r low) (ap₂ ◌||◌ (within 1 n j post.0 post.1) (elements_pass xs e))

  opening_sent : (r j : ℕ) (xs : List ℕ) → Opening r j xs → Sent n k (Line.opening r j xs)
  opening_sent r j xs o =
      record { letter_is = refl; count = o.many; no_post = λ e. absurd (omega arith); in_range = in_range last_row_at r j xs o.row o.post o.low }

  masks_sent_lem : (r j : ℕ) (xs : List ℕ) → Masks r j xs → Sent n k (Line.masks r j xs)
  masks_sent_lem r j xs o =
      record { letter_is = refl; count = o.many; no_post = λ e. absurd (omega arith); in_range = in_range last_triple r j xs o.row o.post o.low }

  same_parts : (a b : Message) → a ≡ b → (a.row ≡ b.row) × (a.post ≡ b.post) × (a.numbers ≡ b.numbers)
  same_parts a b e = (ap (λ (m : Message). m.row) e, ap (λ (m : Message). m.post) e, ap (λ (m : Message). m.numbers) e)

  pub same_opening : (r j r' j' : ℕ) (xs xs' : List ℕ) → Opening r j xs → Opening r' j' xs' → opening_line r j xs ≡ opening_line r' j' xs'
      → (r ≡ r') × (j ≡ j') × (xs ≡ xs')
  same_opening r j r' j' xs xs' o o' e =
      same_parts _ _ (one_message n k _ _ small (opening_sent r j xs o) (opening_sent r' j' xs' o') e)

  pub same_masks : (r j r' j' : ℕ) (xs xs' : List ℕ) → Masks r j xs → Masks r' j' xs' → masks_line r j xs ≡ masks_line r' j' xs'
      → (r ≡ r') × (j ≡ j') × (xs ≡ xs')
  same_masks r j r' j' xs xs' o o' e =
      same_parts _ _ (one_message n k _ _ small (masks_sent_lem r j xs o) (masks_sent_lem r' j' xs' o') e)

  -- an O line is no M line
  pub not_both : (r j r' j' : ℕ) (xs xs' : List ℕ) → Opening r j xs → Masks r' j' xs' → opening_line r j xs ≡ masks_line r' j' xs' → ⊥
  not_both r j r' j' xs xs' o o' e =
      let z : ◌≡◌ {A = ℕ} 79 77 = ap (λ (m : Message). m.letter) (one_message n k _ _ small (opening_sent r j xs o) (masks_sent_lem r' j' xs' o') e) in
      omega arith
