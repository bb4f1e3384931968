-- What of a record is looked at: check 8 is about the other posts' marks and present blocks, and nothing else counts.
use Prim.Native.Nat.{ℕ, zero, suc, ◌+◌, ◌*◌, ◌-◌, ◌≤◌, ◌<◌}
use mathlib.Core.Path.{◌≡◌, refl, sym, ◌∙◌, ap, ap₂}
use mathlib.Core.Bool.{Bool, true, false, ◌||◌, cond}
use mathlib.Core.Logic.{inl, inr}
use mathlib.Core.List.{List, [], ◌∷◌}
use native.Mathlib.Decide.{ℕ_discrete}
use native.Mathlib.Omega.{arith}
use borrow.Author.Tests.{eq-eqb, ne_eqb, eqb-true, eqb-false, le-ltb, ltb-false}
use lib.Dec.{ltb, eqb}
use lib.Seq.{get_or-take, get_or-drop, ext_get_or, length-take-le}
use lib.ListN.{length, take, drop, get_or, length-take, length-drop}
use Rattle.shape.specs.Marks.{absent, present}
use Rattle.shape.specs.Lengths.{v_length, block_length, record_length}
use Rattle.refusal.specs.Conditions.{beyond, any_beyond}
use Rattle.refusal.proofs.Laws.{or_false}
use Rattle.refusal.proofs.Elements.{below_p, element_test}
use Rattle.session.specs.declared.Party.{Party}
use Rattle.blocks.specs.Blocks.{block_mark, block_coefficients, bad_block_of, bad_blocks, sent}
use Rattle.blocks.specs.Claims.{Other, Sound, RecordRead, Alike, AlikeIs, PartsUnread}
use Rattle.blocks.proofs.Blocks.{post_in, good_own}

-- ---- elements, by their places

none_beyond : (l : List ℕ) → any_beyond l ≡ false → (i : ℕ) → get_or l i 0 < 2147483647
unfolding any_beyond
none_beyond [] e i = omega arith
none_beyond (x ∷ xs) e zero = below_p x (or_false (beyond x) (any_beyond xs) e).0
none_beyond (x ∷ xs) e (suc i) = none_beyond xs (or_false (beyond x) (any_beyond xs) e).1 i

all_elements : (l : List ℕ) → ((i : ℕ) → i < length l → get_or l i 0 < 2147483647) → any_beyond l ≡ false
unfolding any_beyond
all_elements [] h = refl
all_elements (x ∷ xs) h = ap₂ ◌||◌ (element_test x (h 0 (omega arith))) (all_elements xs (λ i k. h (suc i) (omega arith)))

part_at : (from k : ℕ) (l : List ℕ) (i : ℕ) → i < k → get_or (take k (drop from l)) i 0 ≡ get_or l (from + i) 0
part_at from k l i h = get_or-take k (drop from l) i 0 h ∙ get_or-drop from l i 0

-- ---- one block

module _ (q : Party) (blocks : List ℕ) (j : ℕ) where
  abbrev m : ℕ
  m = block_mark (v_length q.shape) blocks j

  abbrev at : ℕ
  at = (j - 1) * block_length q.shape + 1

  abbrev part : List ℕ
  part = block_coefficients (v_length q.shape) blocks j

  abbrev told : Bool → Bool → Bool → Bool → Bool
  told own none over high = cond own false (cond none false (over || high))

  sound : Other q j → bad_block_of q blocks j ≡ false → Sound q blocks j
  unfolding bad_block_of
  sound o e = go (eqb m absent) refl (ltb present m) refl (rw (ne_eqb j q.post o.2) at e)
    where
      go : (none : Bool) → eqb m absent ≡ none → (over : Bool) → ltb present m ≡ over → told false none over (any_beyond part) ≡ false
          → Sound q blocks j
      go true en over eo h =
          let z : m ≡ 0 = eqb-true m absent en in
          record { mark_in_is = omega arith; elements = λ e i k. let n : m ≡ 1 = e in absurd (omega arith) }
      go false en over eo h =
          let (low, fine) = or_false over (any_beyond part) h in
          record {
            mark_in_is = ltb-false present m (eo ∙ low);
            elements = λ e i k. rw (part_at at (v_length q.shape) blocks i (omega arith)) at (none_beyond part fine i);
          }

  good : Sound q blocks j → bad_block_of q blocks j ≡ false
  unfolding bad_block_of
  good s = go (eqb j q.post) (eqb m absent) refl
    where
      go : (own none : Bool) → eqb m absent ≡ none → told own none (ltb present m) (any_beyond part) ≡ false
      go true none e = refl
      go false true e = refl
      go false false e =
          let is : m ≡ 1 = omega (arith, s.mark_in_is, eqb-false m absent e) in
          ap₂ ◌||◌ (le-ltb present m s.mark_in_is)
          (all_elements part
          (λ i h. let k : i < v_length q.shape = omega (arith, length-take (v_length q.shape) (drop at blocks)) in
          rw (part_at at (v_length q.shape) blocks i k) (s.elements is i (omega arith))))

-- ---- a record

module _ (q : Party) (blocks : List ℕ) where
  passed : (j k : ℕ) → bad_blocks q blocks j k ≡ false → (i : ℕ) → j ≤ i → i < j + k → bad_block_of q blocks i ≡ false
  unfolding bad_blocks
  passed j zero e i h g = absurd (omega arith)
  passed j (suc k) e i h g =
      let (here, behind) = or_false (bad_block_of q blocks j) (bad_blocks q blocks (suc j) k) e in
      by_place here (λ d. passed (suc j) k behind i (omega arith) (omega arith)) (ℕ_discrete j i)
    where
      by_place : bad_block_of q blocks j ≡ false → ((j ≡ i → ⊥) → bad_block_of q blocks i ≡ false) → Dec (j ≡ i) → bad_block_of q blocks i ≡ false
      by_place here later (yes d) = ap (bad_block_of q blocks) (sym d) ∙ here
      by_place here later (no d) = later d

  passes : (j k : ℕ) → ((i : ℕ) → j ≤ i → i < j + k → bad_block_of q blocks i ≡ false) → bad_blocks q blocks j k ≡ false
  unfolding bad_blocks
  passes j zero h = refl
  passes j (suc k) h =
      ap₂ ◌||◌ (h j (omega arith) (omega arith)) (passes (suc j) k (λ i a b. h i (omega arith) (omega arith)))

pub record_read : RecordRead
record_read q blocks =
    record {
      passed = λ e j o. sound q blocks j o (passed q blocks 1 q.shape.n e j o.0 (let h = o.1 in omega arith));
      passes = λ h. passes q blocks 1 q.shape.n (λ i a b. by_post i (ℕ_discrete i q.post) h a b);
    }
  where
    by_post : (i : ℕ) → Dec (i ≡ q.post) → ((j : ℕ) → Other q j → Sound q blocks j) → 1 ≤ i → i < 1 + q.shape.n → bad_block_of q blocks i ≡ false
    by_post i (yes e) h a b = sym (good_own q blocks i e)
    by_post i (no n) h a b = good q blocks i (h i (a, omega arith, n))

-- ---- two records that differ only where nobody looks

module _ (q : Party) (row a b : List ℕ) (la : length a ≡ record_length q.shape) (lb : length b ≡ record_length q.shape) (like : Alike q a b) where
  abbrev k : ℕ
  k = v_length q.shape

  module _ (j : ℕ) (low : 1 ≤ j) (high : j ≤ q.shape.n) where
    abbrev from : ℕ
    from = (j - 1) * block_length q.shape + 1

    room : (l : List ℕ) → length l ≡ record_length q.shape → length (take k (drop from l)) ≡ k
    room l e =
        let h = (post_in q.shape j low high).room in
        length-take-le k (drop from l) (omega (arith, length-drop from l))

    module _ (n : j ≡ q.post → ⊥) where
      same_mark : block_mark k a j ≡ block_mark k b j
      same_mark = like.marks j (low, high, n)

      same_part : block_mark k a j ≡ 1 → block_coefficients k a j ≡ block_coefficients k b j
      same_part e = ext_get_or 0 (block_coefficients k a j) (block_coefficients k b j) (room a la ∙ sym (room b lb)) go
        where
          go : (i : ℕ) → i < length (block_coefficients k a j) → get_or (block_coefficients k a j) i 0 ≡ get_or (block_coefficients k b j) i 0
          go i h =
              let g : i < k = omega (arith, room a la) in
              part_at from k a i g
              ∙ like.coefficients j (low, high, n) e i (omega arith)
              ∙ sym (part_at from k b i g)

    same_bad : bad_block_of q a j ≡ bad_block_of q b j
    unfolding bad_block_of
    same_bad = by_post (ℕ_discrete j q.post)
      where
        by_post : Dec (j ≡ q.post) → bad_block_of q a j ≡ bad_block_of q b j
        by_post (yes e) = sym (good_own q a j e) ∙ good_own q b j e
        by_post (no n) = rw (ne_eqb j q.post n, ← same_mark n) (go (eqb (block_mark k a j) absent) refl (ltb present (block_mark k a j)) refl)
          where
            go : (none : Bool) → eqb (block_mark k a j) absent ≡ none → (over : Bool) → ltb present (block_mark k a j) ≡ over
                → cond none false (over || any_beyond (block_coefficients k a j)) ≡ cond none false (over || any_beyond (block_coefficients k b j))
            go true en over eo = refl
            go false en true eo = refl
            go false en false eo =
                ap any_beyond (same_part n (omega (arith, eqb-false (block_mark k a j) absent en, ltb-false present (block_mark k a j) eo)))

    same_sent : sent q row a j ≡ sent q row b j
    unfolding sent
    same_sent = by_post (ℕ_discrete j q.post)
      where
        by_post : Dec (j ≡ q.post) → sent q row a j ≡ sent q row b j
        by_post (yes e) = rw (eq-eqb j q.post e)
        by_post (no n) = rw (ne_eqb j q.post n, ← same_mark n) (go (eqb (block_mark k a j) present) refl)
          where
            go : (here : Bool) → eqb (block_mark k a j) present ≡ here
                → cond here (block_coefficients k a j) [] ≡ cond here (block_coefficients k b j) []
            go true e = same_part n (eqb-true (block_mark k a j) present e)
            go false e = refl

  same_blocks : (j m : ℕ) → 1 ≤ j → j + m ≤ 1 + q.shape.n → bad_blocks q a j m ≡ bad_blocks q b j m
  unfolding bad_blocks
  same_blocks j zero low high = refl
  same_blocks j (suc m) low high =
      ap₂ ◌||◌ (same_bad j low (omega arith)) (same_blocks (suc j) m (omega arith) (omega arith))

pub parts_unread : PartsUnread
parts_unread q row a b la lb like =
    (same_blocks q row a b la lb like 1 q.shape.n (omega arith) (omega arith), same_sent q row a b la lb like)

pub alike_is : AlikeIs
alike_is q a b h = record {
  marks = λ j o. h ((j - 1) * (q.shape.points * q.shape.t + 1 + 1)) (j, o, inl refl);
  coefficients = λ j o m i l. h ((j - 1) * (q.shape.points * q.shape.t + 1 + 1) + 1 + i) (j, o, inr (m, omega arith, omega arith));
}
