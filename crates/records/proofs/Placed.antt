-- A record after a block was written, number by number: it is a row of the list, as long as a block.
use Prim.Native.Nat.{ℕ, zero, suc, ◌+◌, ◌*◌, ◌-◌, ◌≤◌, ◌<◌}
use mathlib.Core.Path.{◌≡◌, refl, sym, ◌∙◌, ap, subst}
use mathlib.Core.List.{List, ◌∷◌}
use native.Mathlib.Omega.{arith}
use lib.ListN.{length, get_or, replicate, length-replicate}
use Rattle.shape.specs.Lengths.{shape}
use Rattle.refusal.proofs.Endings.{accepted}
use Rattle.session.specs.Rows.{with_row}
use Rattle.session.proofs.Placed.{places}
use Rattle.blocks.specs.Between.{PostIn}
use Rattle.records.specs.Records.{place_refusal_of, put_refusal_of, with_block, block_of, no_block, put_record, removed_record}
use Rattle.records.specs.Placed.{PutPlaced, RemovedPlaced, RecordPlaces}
use Rattle.records.proofs.Places.{place_in, place_long, put_in, put_long_is, message_long}

at_mark : (x : ℕ) → x ≡ x + 0
at_mark x = omega arith

behind_mark : (x i : ℕ) → x + 1 + i ≡ x + suc i
behind_mark x i = omega arith

zero_at : (k i : ℕ) → ◌≡◌ {A = ℕ} (get_or (replicate k 0) i 0) 0
zero_at zero i = refl
zero_at (suc k) zero = refl
zero_at (suc k) (suc i) = zero_at k i

module _ (n t points : ℕ) (blocks : List ℕ) (j : ℕ) where
  abbrev w : ℕ
  w = points * t + 1 + 1

  room : PostIn (shape n t points) j → length blocks ≡ n * w → (j - 1) * w + w ≤ length blocks
  room i e = let r = i.room in omega arith

  put_placed : (message : List ℕ) → put_refusal_of n t points blocks j message ≡ 0 → PutPlaced t points blocks j message (put_record n t points blocks j message)
  put_placed message z =
      let f = put_refusal_of n t points blocks j message in
      let new = with_block (shape n t points) j (block_of message) blocks in
      let l = message_long n t points blocks j message f refl z in
      let p = places.written w blocks (j - 1) (1 ∷ message) (room (put_in n t points blocks j message f refl z) (put_long_is n t points blocks j message f refl z)) (omega arith) in
      subst (PutPlaced t points blocks j message) (accepted f f new new blocks refl z refl)
      (record {
        mark = ap (λ (x : ℕ). get_or new x 0) (at_mark ((j - 1) * w)) ∙ p.written 0 (omega arith);
        numbers = λ i h. ap (λ (x : ℕ). get_or new x 0) (behind_mark ((j - 1) * w) i) ∙ p.written (suc i) (omega arith);
        before = p.before;
        behind = p.behind;
        as_long = p.as_long;
      })

  removed_placed : place_refusal_of n t points blocks j ≡ 0 → RemovedPlaced t points blocks j (removed_record n t points blocks j)
  removed_placed z =
      let f = place_refusal_of n t points blocks j in
      let new = with_block (shape n t points) j (no_block (shape n t points)) blocks in
      let p = places.written w blocks (j - 1) (replicate w 0) (room (place_in n t points blocks j f refl z) (place_long n t points blocks j f refl z)) (length-replicate w 0) in
      subst (RemovedPlaced t points blocks j) (accepted f f new new blocks refl z refl)
      (record { zeros = λ i h. p.written i h ∙ zero_at w i; before = p.before; behind = p.behind; as_long = p.as_long })

pub record_places : RecordPlaces
record_places = record { put = put_placed; removed = removed_placed }
