-- The bytes that the calls leave, in figures.
use Prim.Native.Nat.{ℕ, zero, suc, ◌+◌, ◌*◌, ◌-◌, ◌≤◌, ◌<◌}
use mathlib.Core.Path.{◌≡◌, refl, sym, ◌∙◌, ap}
use mathlib.Core.Logic.{◌⊎◌, inl, inr}
use mathlib.Core.List.{List, [], ◌∷◌}
use native.Mathlib.Omega.{arith}
use lib.ListN.{length, get_or, replicate, length-append, length-set}
use lib.Seq.{get_or-set_other}
use Rattle.refusal.proofs.Laws.{all_fail, equal}
use Rattle.refusal.proofs.Endings.{accepted}
use Rattle.decimal.specs.Numeral.{size_within, size}
use Rattle.decimal.proofs.Sizes.{size_grows, size_le}
use Rattle.csv_fields.specs.Fields.{field, fields, overwrite}
use Rattle.csv_fields.proofs.Overwriting.{length_field}
use Rattle.csv_fields.proofs.Laying.{length_written}
use Rattle.dealers.specs.State.{state_length, place_bytes, place_at_of, new_state_of, placed, served, chosen}
use Rattle.dealers.specs.Calls.{place_tests, place_refusal_of, place_after_of, count_refusal, counted_state, turn_state}
use Rattle.dealers.specs.Table.{byte}
use Rattle.dealers.specs.Between.{Good, Dealer}
use Rattle.dealers.specs.Figures.{NewBytes, PlacedBytes, PlacesBytes, LinesBytes, TurnsBytes, SixteenBytes}
use Rattle.dealers.proofs.Placing.{place_dealer, place_few}
use Rattle.dealers.proofs.Turns.{chosen_dealer, by_some, count_good}
use Rattle.dealers.proofs.Kept.{length_over, over_before, over_at, over_behind, placed_length, line_long, line_bytes, served_long, served_last, served_own, untouched}
use Rattle.dealers.proofs.Laws.{good_is}

-- ---- a new state

pub new_bytes : NewBytes
new_bytes = record { long = refl; last = refl; zeros = zeros }
  where
    nought : (k i : ℕ) → ◌≡◌ {A = ℕ} (get_or (replicate k 0) i 0) 0
    nought zero i = refl
    nought (suc k) zero = refl
    nought (suc k) (suc i) = nought k i

    zeros : (i : ℕ) → 1 ≤ i → byte new_state_of i ≡ 0
    zeros zero l = absurd (omega arith)
    zeros (suc i) l = nought 136 i

-- ---- a line placed

module _ (state line : List ℕ) (d : ℕ) (g : Good state) (h : Dealer d) (k : length line ≤ place_bytes) where
  room : place_at_of d + 1 + length line ≤ length state
  room = omega (arith, g.long, h.low, h.high)

  abbrev over : List ℕ
  over = overwrite (place_at_of d + 1) line state

  behind : 17 * d - 15 ≡ place_at_of d + 1
  behind = omega (arith, h.low)

  bytes_laid : (i : ℕ) → i < length line → byte (placed state d line) (17 * d - 15 + i) ≡ get_or line i 0
  bytes_laid i l =
      ap (λ (x : ℕ). byte (placed state d line) (x + i)) behind
      ∙ get_or-set_other over (place_at_of d) (place_at_of d + 1 + i) (length line) 0 (λ q. omega arith)
      ∙ over_at (place_at_of d + 1) line state room i l

  bytes_kept : (i : ℕ) → (i < 17 * d - 16) ⊎ (17 * d - 15 + length line ≤ i) → byte (placed state d line) i ≡ byte state i
  bytes_kept i (inl q) =
      get_or-set_other over (place_at_of d) i (length line) 0 (λ e. omega arith) ∙ over_before (place_at_of d + 1) line state room i (omega arith)
  bytes_kept i (inr q) =
      get_or-set_other over (place_at_of d) i (length line) 0 (λ e. omega (arith, behind)) ∙ over_behind (place_at_of d + 1) line state room i (omega (arith, behind))

  placed_bytes : PlacedBytes state d line (placed state d line)
  placed_bytes =
      record {
        long = length-set over (place_at_of d) (length line) ∙ length_over (place_at_of d + 1) line state room ∙ g.long;
        counted = placed_length state line d g h k;
        laid = bytes_laid;
        kept = bytes_kept;
      }

-- a state that a line was placed in has all eight places in order
place_good : (state : List ℕ) (d len : ℕ) → place_refusal_of state d len ≡ 0 → Good state
unfolding place_refusal_of
place_good state d len z =
    let h = all_fail (place_tests state d len) tt z in
    record { long = equal (length state) state_length h.0; fine = h.1.0 }

pub places_bytes : PlacesBytes
places_bytes state d line z =
    let r = place_refusal_of state d (length line) in
    let e : place_after_of state d line ≡ placed state d line =
    sym (accepted r r (placed state d line) (placed state d line) state refl z refl) in
    rw e (placed_bytes state line d (place_good state d (length line) z) (place_dealer state d (length line) r refl z)
    (place_few state d (length line) r refl z))

-- ---- a line that waits

pub lines_bytes : LinesBytes
lines_bytes state d s lo hi =
    let g = good_is state s in
    let h : Dealer d = record { low = lo; high = hi } in
    record { long = line_long state d g h; bytes = line_bytes state d g h }

-- ---- a dealer served

pub turns_bytes : TurnsBytes
turns_bytes s rows state z n =
    let d = chosen state in
    let g : Good state = count_good s rows state z in
    let h : Dealer d = chosen_dealer state d g refl n in
    let c = count_refusal s rows state in
    let e : turn_state s rows state ≡ served state d =
    sym (accepted c c (counted_state state) (counted_state state) state refl z refl) ∙ by_some d n state (served state) in
    rw e (record {
      long = served_long state d g h ∙ g.long;
      last = served_last state d g h;
      freed = served_own state d g h;
      kept = λ i a b. untouched state d g h i a b;
    })

-- ---- the longest D line

one_field : (x : ℕ) → length (fields (x ∷ [])) ≡ 1 + size x
unfolding fields
one_field x = omega (arith, length-append (field x) [], length_field x)

two : size 95 ≡ 2
unfolding size_within
two = refl

ten : size 2147483646 ≡ 10
unfolding size_within
ten = refl

pub sixteen_bytes : SixteenBytes
sixteen_bytes =
    record {
      most = λ row c h. omega (arith, length_written 68 (row ∷ []) (c ∷ []), one_field row, one_field c, two, size_grows 9 row 95 h, size_le 9 c);
      one = omega (arith, length_written 68 (95 ∷ []) (2147483646 ∷ []), one_field 95, one_field 2147483646, two, ten);
    }
