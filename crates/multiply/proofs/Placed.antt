-- The product's row, number by number.
use Prim.Native.Nat.{ℕ, ◌<◌}
use mathlib.Core.Path.{◌≡◌, sym, ◌∙◌, ap}
use mathlib.Core.List.{List}
use native.Mathlib.Omega.{arith}
use lib.ListN.{length, get_or}
use Rattle.field.specs.Arithmetic.{sum, product}
use Rattle.session.specs.declared.Session.{Session}
use Rattle.session.specs.Rows.{width, sums_at_of, combined, plus_sums, summed}
use Rattle.session.specs.Places.{Combined, Raised}
use Rattle.session.proofs.Placed.{places}
use Rattle.sums.proofs.Summed.{plus_nothing}
use Rattle.multiply.specs.Multiply.{product_row}
use Rattle.multiply.specs.Places.{before, ProductPlaced, ProductPlaces}

module _ (s : Session) (y y' : ℕ) (l l' l'' : List ℕ) (e : length l ≡ width s) (e' : length l' ≡ width s) (e'' : length l'' ≡ width s) where
  abbrev first : List ℕ
  first = combined y l'' l'

  abbrev second : List ℕ
  second = combined y' first l

  one : Combined y l'' l'
  one = places.combined_rows y l'' l' (e'' ∙ sym e')

  first_long : length first ≡ width s
  first_long = one.as_long ∙ e''

  two : Combined y' first l
  two = places.combined_rows y' first l (first_long ∙ sym e)

  second_long : length second ≡ width s
  second_long = two.as_long ∙ first_long

  at : (i : ℕ) → i < width s → get_or second i 0 ≡ before y y' l l' l'' i
  at i h = two.each i (omega (arith, first_long)) ∙ ap (λ (m : ℕ). sum m (product y' (get_or l i 0))) (one.each i (omega (arith, e'')))

  is : product_row s y y' l l' l'' ≡ plus_sums (sums_at_of s) (product y y') second
  unfolding product_row
  is = ap (λ (x : List ℕ). summed (sums_at_of s) y' (product y y') x l) (plus_nothing (sums_at_of s) y l'' l')

  raised : Raised (sums_at_of s) (product y y') second
  raised = places.raised_rows (sums_at_of s) (product y y') second (omega (arith, second_long))

  placed : ProductPlaced s y y' l l' l''
  placed = record {
    others = λ i h. ap (λ (x : List ℕ). get_or x i 0) is ∙ raised.others i h ∙ at i (omega arith);
    sums = λ i k h.
        ap (λ (x : List ℕ). get_or x i 0) is ∙ raised.sums i k (omega (arith, second_long)) ∙ ap (λ (m : ℕ). sum m (product y y')) (at i h);
  }

pub product_places : ProductPlaces
product_places s y y' l l' l'' e e' e'' = placed s y y' l l' l'' e e' e''
