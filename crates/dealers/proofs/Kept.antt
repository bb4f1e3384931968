-- What placing a line and serving a dealer leave as it was: the other places; and a good state stays good.
use Prim.Native.Nat.{ℕ, zero, suc, ◌+◌, ◌*◌, ◌-◌, ◌≤◌, ◌<◌, min}
use mathlib.Core.Path.{◌≡◌, refl, sym, ◌∙◌, ap}
use mathlib.Core.Logic.{◌≢◌, ◌⊎◌, inl, inr}
use mathlib.Core.Bool.{false}
use mathlib.Core.List.{List, ◌++◌}
use native.Mathlib.Nat.{eq-or-lt_of_le}
use native.Mathlib.Decide.{ℕ_discrete, dec_le}
use native.Mathlib.Omega.{arith}
use borrow.Author.Tests.{le-ltb}
use lib.ListN.{length, get_or, set, take, drop, length-set, length-append, length-drop, length-take, get_or-append}
use lib.Seq.{get_or-set_same, get_or-set_other, get_or-take, get_or-drop, get_or-append-add, length-take-le, ext_get_or, drop-set-lt, drop_at, take-append_seam}
use Rattle.csv_fields.specs.Fields.{overwrite}
use Rattle.dealers.specs.State.{state_length, dealer_count, place_bytes, place_at_of, length_in_of, line_in, last_served, overlong, bad_state, placed, served}
use Rattle.dealers.specs.Between.{Good, Dealer}
use Rattle.dealers.specs.Fairness.{SamePlace}
use Rattle.dealers.proofs.Positions.{line_small, last_in}

-- ---- a good state, by its numbers

not_overlong : (k a : ℕ) (state : List ℕ) → ((d : ℕ) → a ≤ d → d < a + k → length_in_of state d ≤ place_bytes) → overlong k a state ≡ false
unfolding overlong
not_overlong zero a state h = refl
not_overlong (suc k) a state h =
    rw (le-ltb place_bytes (length_in_of state a) (h a (omega arith) (omega arith)))
    (not_overlong k (a + 1) state (λ d lo hi. h d (omega arith) (omega arith)))

pub good_by : (state : List ℕ) → length state ≡ state_length → Dealer (last_served state)
    → ((d : ℕ) → Dealer d → length_in_of state d ≤ place_bytes) → Good state
unfolding bad_state
good_by state l h small =
    record {
      long = l;
      fine = rw (le-ltb (last_served state) 1 h.low, le-ltb dealer_count (last_served state) h.high)
          (not_overlong dealer_count 1 state (λ d lo hi. small d (record { low = lo; high = omega arith })));
    }

-- ---- parts that a write does not touch

same_part : (l l' : List ℕ) (m n : ℕ) → length l ≡ length l' → ((i : ℕ) → m ≤ i → i < m + n → get_or l i 0 ≡ get_or l' i 0)
    → take n (drop m l) ≡ take n (drop m l')
same_part l l' m n e h =
    ext_get_or 0 (take n (drop m l)) (take n (drop m l'))
    (length-take n (drop m l) ∙ ap (λ (k : ℕ). min n k) (length-drop m l ∙ ap (λ (k : ℕ). k - m) e ∙ sym (length-drop m l')) ∙ sym (length-take n (drop m l')))
    (λ i lt. at i (below i lt))
  where
    below : (i : ℕ) → i < length (take n (drop m l)) → i < n
    below i lt = omega (arith, length-take n (drop m l))

    at : (i : ℕ) → i < n → get_or (take n (drop m l)) i 0 ≡ get_or (take n (drop m l')) i 0
    at i lt =
        get_or-take n (drop m l) i 0 lt ∙ get_or-drop m l i 0 ∙ h (m + i) (omega arith) (omega arith)
        ∙ sym (get_or-take n (drop m l') i 0 lt ∙ get_or-drop m l' i 0)

module _ (at : ℕ) (w l : List ℕ) (room : at + length w ≤ length l) where
  front : length (take at l) ≡ at
  front = length-take-le at l (omega arith)

  pub length_over : length (overwrite at w l) ≡ length l
  length_over =
      length-append (take at l) (w ++ drop (at + length w) l)
      ∙ omega (arith, front, length-append w (drop (at + length w) l), length-drop (at + length w) l)

  pub over_before : (i : ℕ) → i < at → get_or (overwrite at w l) i 0 ≡ get_or l i 0
  over_before i h = get_or-append (take at l) (w ++ drop (at + length w) l) 0 i (omega (arith, front)) ∙ get_or-take at l i 0 h

  pub over_at : (i : ℕ) → i < length w → get_or (overwrite at w l) (at + i) 0 ≡ get_or w i 0
  over_at i h =
      ap (λ (x : ℕ). get_or (overwrite at w l) (x + i) 0) (sym front)
      ∙ get_or-append-add (take at l) (w ++ drop (at + length w) l) i 0 ∙ get_or-append w (drop (at + length w) l) 0 i h

  pub over_behind : (i : ℕ) → at + length w ≤ i → get_or (overwrite at w l) i 0 ≡ get_or l i 0
  over_behind i h =
      let k = i - (at + length w) in
      let e : length (take at l) + (length w + k) ≡ i = omega (arith, front) in
      let e' : at + length w + k ≡ i = omega arith in
      ap (λ (x : ℕ). get_or (overwrite at w l) x 0) (sym e)
      ∙ get_or-append-add (take at l) (w ++ drop (at + length w) l) (length w + k) 0
      ∙ get_or-append-add w (drop (at + length w) l) k 0
      ∙ get_or-drop (at + length w) l k 0 ∙ ap (λ (x : ℕ). get_or l x 0) e'

-- ---- a line placed for dealer e

module _ (state line : List ℕ) (e : ℕ) (g : Good state) (he : Dealer e) (k : length line ≤ place_bytes) where
  room : place_at_of e + 1 + length line ≤ length state
  room = omega (arith, g.long, he.low, he.high)

  over : List ℕ
  over = overwrite (place_at_of e + 1) line state

  over_long : length over ≡ length state
  unfolding over
  over_long = length_over (place_at_of e + 1) line state room

  placed_long : length (placed state e line) ≡ length state
  unfolding over
  placed_long = length-set over (place_at_of e) (length line) ∙ over_long

  other : (i : ℕ) → (i < place_at_of e) ⊎ (place_at_of e + 16 < i) → get_or (placed state e line) i 0 ≡ get_or state i 0
  unfolding over
  other i (inl h) = get_or-set_other over (place_at_of e) i (length line) 0 (λ q. omega arith) ∙ over_before (place_at_of e + 1) line state room i (omega arith)
  other i (inr h) = get_or-set_other over (place_at_of e) i (length line) 0 (λ q. omega arith) ∙ over_behind (place_at_of e + 1) line state room i (omega arith)

  pub placed_last : last_served (placed state e line) ≡ last_served state
  placed_last = other 0 (inl (omega (arith, he.low)))

  aside : (d : ℕ) → d ≢ e → Dealer d → (i : ℕ) → place_at_of d ≤ i → i < place_at_of d + 17 → (i < place_at_of e) ⊎ (place_at_of e + 16 < i)
  aside d ne hd i lo hi = go (dec_le d e)
    where
      go : Dec (d ≤ e) → (i < place_at_of e) ⊎ (place_at_of e + 16 < i)
      go (no h) = inr (omega (arith, he.low))
      go (yes h) = elim (eq-or-lt_of_le h) [ inl q ↦ absurd (ne q) | inr q ↦ inl (omega (arith, hd.low)) ]

  pub placed_other : (d : ℕ) → d ≢ e → Dealer d → length_in_of (placed state e line) d ≡ length_in_of state d
  placed_other d ne hd = other (place_at_of d) (aside d ne hd (place_at_of d) (omega arith) (omega arith))

  pub placed_line : (d : ℕ) → d ≢ e → Dealer d → line_in (placed state e line) d ≡ line_in state d
  placed_line d ne hd =
      ap (λ (n : ℕ). take n (drop (place_at_of d + 1) (placed state e line))) (placed_other d ne hd)
      ∙ same_part (placed state e line) state (place_at_of d + 1) (length_in_of state d) placed_long
      (λ i lo hi. other i (aside d ne hd i (omega arith) (omega (arith, line_small state g d hd))))

  pub placed_place : (d : ℕ) → d ≢ e → Dealer d → SamePlace d state (placed state e line)
  placed_place d ne hd i lo hi = other i (aside d ne hd i lo (omega (arith, hd.low)))

  pub placed_good : Good (placed state e line)
  unfolding over
  placed_good =
      good_by (placed state e line) (placed_long ∙ g.long) (rw placed_last (last_in state g)) (λ d hd. small d hd (ℕ_discrete d e))
    where
      small : (d : ℕ) → Dealer d → Dec (d ≡ e) → length_in_of (placed state e line) d ≤ place_bytes
      small d hd (yes q) = rw (q, get_or-set_same over (place_at_of e) (length line) 0 (omega (arith, over_long, room))) k
      small d hd (no ne) = rw (placed_other d ne hd) (line_small state g d hd)

-- ---- a waiting line, by its bytes

module _ (state : List ℕ) (d : ℕ) (g : Good state) (h : Dealer d) where
  pub line_long : length (line_in state d) ≡ length_in_of state d
  line_long =
      length-take-le (length_in_of state d) (drop (place_at_of d + 1) state)
      (omega (arith, length-drop (place_at_of d + 1) state, line_small state g d h, g.long, h.low, h.high))

  pub line_bytes : (i : ℕ) → i < length_in_of state d → get_or (line_in state d) i 0 ≡ get_or state (17 * d - 15 + i) 0
  line_bytes i l =
      let e : place_at_of d + 1 + i ≡ 17 * d - 15 + i = omega (arith, h.low) in
      get_or-take (length_in_of state d) (drop (place_at_of d + 1) state) i 0 l ∙ get_or-drop (place_at_of d + 1) state i 0
      ∙ ap (λ (x : ℕ). get_or state x 0) e

-- ---- dealer e served

module _ (state : List ℕ) (e : ℕ) (g : Good state) (he : Dealer e) where
  pub served_long : length (served state e) ≡ length state
  served_long = length-set (set state 0 e) (place_at_of e) 0 ∙ length-set state 0 e

  pub untouched : (i : ℕ) → i ≢ 0 → i ≢ place_at_of e → get_or (served state e) i 0 ≡ get_or state i 0
  untouched i n m = get_or-set_other (set state 0 e) (place_at_of e) i 0 0 m ∙ get_or-set_other state 0 i e 0 n

  pub served_last : last_served (served state e) ≡ e
  served_last =
      get_or-set_other (set state 0 e) (place_at_of e) 0 0 0 (λ q. omega (arith, he.low)) ∙ get_or-set_same state 0 e 0 (omega (arith, g.long))

  pub served_own : length_in_of (served state e) e ≡ 0
  served_own = get_or-set_same (set state 0 e) (place_at_of e) 0 0 (omega (arith, length-set state 0 e, g.long, he.high))

  apart : (d : ℕ) → d ≢ e → Dealer d → (i : ℕ) → place_at_of d ≤ i → i < place_at_of d + 17 → i ≢ place_at_of e
  apart d ne hd i lo hi q = ne (omega (arith, hd.low, he.low))

  pub served_other : (d : ℕ) → d ≢ e → Dealer d → length_in_of (served state e) d ≡ length_in_of state d
  served_other d ne hd = untouched (place_at_of d) (λ q. omega (arith, hd.low)) (apart d ne hd (place_at_of d) (omega arith) (omega arith))

  pub served_line : (d : ℕ) → d ≢ e → Dealer d → line_in (served state e) d ≡ line_in state d
  served_line d ne hd =
      ap (λ (n : ℕ). take n (drop (place_at_of d + 1) (served state e))) (served_other d ne hd)
      ∙ same_part (served state e) state (place_at_of d + 1) (length_in_of state d) served_long
      (λ i lo hi. untouched i (λ q. omega arith) (apart d ne hd i (omega arith) (omega (arith, line_small state g d hd))))

  pub served_place : (d : ℕ) → d ≢ e → Dealer d → SamePlace d state (served state e)
  served_place d ne hd i lo hi = untouched i (λ q. omega (arith, hd.low)) (apart d ne hd i lo (omega (arith, hd.low)))

  pub served_good : Good (served state e)
  served_good =
      good_by (served state e) (served_long ∙ g.long) (rw served_last he) (λ d hd. small d hd (ℕ_discrete d e))
    where
      small : (d : ℕ) → Dealer d → Dec (d ≡ e) → length_in_of (served state e) d ≤ place_bytes
      small d hd (yes q) = rw (q, get_or-set_same (set state 0 e) (place_at_of e) 0 0 (omega (arith, length-set state 0 e, g.long, he.high))) (omega arith)
      small d hd (no ne) = rw (served_other d ne hd) (line_small state g d hd)

-- ---- the line placed, in its place

module _ (state line : List ℕ) (e : ℕ) (g : Good state) (he : Dealer e) (k : length line ≤ place_bytes) where
  pub placed_length : length_in_of (placed state e line) e ≡ length line
  unfolding over
  placed_length =
      get_or-set_same (over state line e g he k) (place_at_of e) (length line) 0
      (omega (arith, over_long state line e g he k, room state line e g he k))

  pub placed_own : line_in (placed state e line) e ≡ line
  unfolding over
  placed_own =
      ap (λ (n : ℕ). take n (drop (place_at_of e + 1) (placed state e line))) placed_length
      ∙ ap (take (length line)) (drop-set-lt (place_at_of e + 1) (over state line e g he k) (place_at_of e) (length line) (omega arith))
      ∙ ap (take (length line)) (drop_at (take (place_at_of e + 1) state) (line ++ drop (place_at_of e + 1 + length line) state) (place_at_of e + 1)
      (length-take-le (place_at_of e + 1) state (omega (arith, room state line e g he k))))
      ∙ take-append_seam line (drop (place_at_of e + 1 + length line) state)
