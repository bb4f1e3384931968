-- What a turn does, by the book's places; and refusals by number: 1 to 5 come before all others.
use Prim.Native.Nat.{ℕ, zero, suc, ◌≤◌}
use mathlib.Core.Path.{◌≡◌, refl, sym, ◌∙◌, ap}
use mathlib.Core.Bool.{Bool, true, false, not}
use mathlib.Core.List.{List, [], ◌∷◌}
use native.Mathlib.Omega.{arith}
use borrow.Author.Tests.{le-ltb}
use lib.Dec.{eqb}
use lib.ListN.{get_or}
use Rattle.refusal.specs.Refusal.{◌when◌, first, or_else, outcome}
use Rattle.refusal.specs.Conditions.{outside}
use Rattle.forms.specs.Forms.{form_of, is_malformed, beyond_range, message}
use Rattle.dealers.specs.Calls.{taken_refusal, said_row, said_number, whose}
use Rattle.runs.specs.Orders.{Comes, no_call, a_call, turn}
use Rattle.secrecy.specs.Steps.{Fixed, Number, sent, theirs, bytes, Placed, deal}
use Rattle.secrecy.specs.Waiting.{Slot, free, filled, Waiting, next_of, slot_call, comes_of}

-- ---- what a turn does, by the book's places: nothing, with an answer of its own; or a deal

pub data Doing : Type 0 where
  idle : (t : ℕ) → Doing
  deals : (r : ℕ) (c : Number) → Doing

abbrev line_doing : Placed → Doing
line_doing (theirs r) = deals r (sent r)
line_doing (bytes xs) = outcome (taken_refusal xs) (deals (said_row xs) (Number.fixed (said_number xs))) (idle (taken_refusal xs))

abbrev pub slot_doing : Slot → Doing
slot_doing free = idle 0
slot_doing (filled l) = line_doing l

abbrev pub turn_doing : Waiting → Doing
turn_doing w = whose (next_of w) (idle 0) (λ d. slot_doing (w.slot d))

abbrev pub as_comes : Doing → Comes Fixed
as_comes (idle t) = no_call
as_comes (deals r c) = a_call (deal r c)

pub turn_comes : (w : Waiting) → comes_of w turn ≡ as_comes (turn_doing w)
unfolding outcome
turn_comes w = go (next_of w)
  where
    by_outcome : (t : ℕ) (r : ℕ) (c : Number) → outcome t (a_call (deal r c)) no_call ≡ as_comes (outcome t (deals r c) (idle t))
    by_outcome zero r c = refl
    by_outcome (suc k) r c = refl

    by_slot : (x : Slot) → slot_call x ≡ as_comes (slot_doing x)
    by_slot free = refl
    by_slot (filled (theirs r)) = refl
    by_slot (filled (bytes xs)) = by_outcome (taken_refusal xs) _ _

    go : (n : ℕ) → whose n no_call (λ d. slot_call (w.slot d)) ≡ as_comes (whose n (idle 0) (λ d. slot_doing (w.slot d)))
    go zero = refl
    go (suc d) = by_slot (w.slot (suc d))

-- ---- refusals by number: 1 to 5 come before all others

abbrev pub stops : ℕ → Bool
stops k = not (outside 1 5 k)

pub small_stops : (f : ℕ) → 1 ≤ f → f ≤ 5 → stops f ≡ true
small_stops f lo hi = rw (le-ltb f 1 lo, le-ltb 5 f hi)

ten_eleven : (a b c : Bool) → stops (first (10 when a ∷ 10 when b ∷ 11 when c ∷ [])) ≡ false
ten_eleven true b c = refl
ten_eleven false true c = refl
ten_eleven false false true = refl
ten_eleven false false false = refl

pub own_goes : (a b c d : Bool) → stops (first (6 when a ∷ 7 when b ∷ 8 when c ∷ 8 when d ∷ [])) ≡ false
own_goes true b c d = refl
own_goes false true c d = refl
own_goes false false true d = refl
own_goes false false false true = refl
own_goes false false false false = refl

-- of two such refusals that are the same, 1 to 5 are
pub frames_of : (f f' x x' : ℕ) → f ≤ 5 → f' ≤ 5 → stops x ≡ false → stops x' ≡ false → or_else f x ≡ or_else f' x' → f ≡ f'
frames_of zero zero x x' l l' g g' e = refl
frames_of zero (suc k) x x' l l' g g' e = absurd (clash (sym (ap stops e) ∙ g) (small_stops (suc k) (omega arith) l'))
  where
    clash : stops (suc k) ≡ false → stops (suc k) ≡ true → ⊥
    clash a b = let z : ◌≡◌ {A = Bool} true false = sym b ∙ a in let y : ◌≡◌ {A = ℕ} 0 1 = cc in omega arith
frames_of (suc k) zero x x' l l' g g' e = absurd (clash (ap stops e ∙ g') (small_stops (suc k) (omega arith) l))
  where
    clash : stops (suc k) ≡ false → stops (suc k) ≡ true → ⊥
    clash a b = let z : ◌≡◌ {A = Bool} true false = sym b ∙ a in let y : ◌≡◌ {A = ℕ} 0 1 = cc in omega arith
frames_of (suc k) (suc j) x x' l l' g g' e = e

taken_goes : (line : List ℕ) → stops (taken_refusal line) ≡ false
unfolding taken_refusal
taken_goes line = ten_eleven (not (eqb (get_or line 0 0) 68)) (is_malformed (form_of 2 line)) (beyond_range 2 (message 2 line))

abbrev pub Goes : Doing → Type 0
Goes (idle t) = stops t ≡ false
Goes (deals r c) = Unit {0}

pub turn_goes : (w : Waiting) → Goes (turn_doing w)
unfolding outcome
turn_goes w = go (next_of w)
  where
    by_outcome : (t : ℕ) (r : ℕ) (c : Number) → stops t ≡ false → Goes (outcome t (deals r c) (idle t))
    by_outcome zero r c e = tt
    by_outcome (suc k) r c e = e

    by_slot : (x : Slot) → Goes (slot_doing x)
    by_slot free = refl
    by_slot (filled (theirs r)) = tt
    by_slot (filled (bytes xs)) = by_outcome (taken_refusal xs) _ _ (taken_goes xs)

    go : (n : ℕ) → Goes (whose n (idle 0) (λ d. slot_doing (w.slot d)))
    go zero = refl
    go (suc d) = by_slot (w.slot (suc d))
