-- The call of an `X`, on the session's rows in the store and on a lent list of which the masks take the start.
use Prim.Native.Nat.{ℕ, zero, suc, ◌≤◌}
use mathlib.Core.Path.{◌≡◌, refl, ap, sym, ◌∙◌}
use mathlib.Core.List.{List, ◌++◌}
use native.Mathlib.Omega.{arith}
use lib.ListN.{length, get_or, take, drop, replicate, length-replicate}
use lib.Seq.{take_at, length-take-le}
use Rattle.shape.specs.declared.Shape.{Shape}
use Rattle.shape.specs.Lengths.{rows_length, masks_length}
use Rattle.refusal.specs.Refusal.{outcome}
use Rattle.refusal.proofs.Laws.{all_fail, inside}
use Rattle.session.specs.declared.Session.{Session}
use Rattle.session.specs.declared.Answer.{Answer}
use Rattle.session.specs.Sessions.{shape_of}
use Rattle.product_masks.specs.Masks.{masks_tests, masks_refusal_of, masks_answer, mask_numbers_of, masks_out_of}
use Rattle.street_store.specs.Sizes.{InStreet, street_posts, most_masks}
use Rattle.street_store.proofs.Keeping.{v_room}
use Rattle.street_states.specs.States.{rows_of}
use Rattle.street_states.proofs.Calling.{answer_refusal}
use Rattle.street_finishlines.specs.Between.{Masked}

pub rows_stop : (g h : Shape) (r : ℕ) → g ≡ h → r ≡ rows_length g → r ≡ rows_length h
rows_stop g h r d e = e ∙ ap rows_length d

-- of the lent list the tests ask the length alone
same_room : (s : Session) (rows out out' : List ℕ) (a b r : ℕ) → length out ≡ length out' → masks_refusal_of s rows a b r out ≡ masks_refusal_of s rows a b r out'
unfolding masks_refusal_of
same_room s rows out out' a b r e = rw e

pick : (x : ℕ) (new old : List ℕ) → x ≡ 0 → outcome x new old ≡ new
unfolding outcome
pick zero new old e = refl
pick (suc k) new old e = absurd (omega arith)

module _ (s : Session) (i : InStreet (shape_of s)) (store masks xs : List ℕ) (g : Shape) (d : g ≡ shape_of s) (count end a b first : ℕ)
    (k : count ≡ masks_length g) (e : end ≡ rows_length g) (l : length masks ≡ most_masks) (p : a ≡ get_or xs 0 0) (q : b ≡ get_or xs 1 0)
    (f : first ≡ get_or xs 2 0) where
  count_is : count ≡ masks_length (shape_of s)
  count_is = k ∙ ap masks_length d

  end_is : end ≡ rows_length (shape_of s)
  end_is = rows_stop g (shape_of s) end d e

  module _ (ans : Answer) (ms : List ℕ) (u : ans ≡ masks_answer s (take end store) a b first (take count masks))
      (v : ms ≡ masks_out_of s (take end store) a b first (take count masks)) where
    abbrev rows : List ℕ
    rows = rows_of s store

    refusal_is : ans.refusal ≡ masks_refusal_of s rows a b first (take count masks)
    refusal_is = ap (λ (x : Answer). x.refusal) u ∙ answer_refusal _ 0 _ s ∙ rw end_is

    few : count ≤ length masks
    few = omega (arith, count_is, l, v_room (shape_of s) i)

    room : length (take count masks) ≡ length (replicate {A = ℕ} (masks_length (shape_of s)) 0)
    room = length-take-le count masks few ∙ count_is ∙ sym (length-replicate {A = ℕ} (masks_length (shape_of s)) 0)

    none : ans.refusal ≡ 0 → masks_refusal_of s rows a b first (take count masks) ≡ 0
    none z = sym refusal_is ∙ z

    post_low : ans.refusal ≡ 0 → s.post ≤ street_posts
    unfolding masks_refusal_of
    post_low z =
        let t = all_fail (masks_tests s rows a b first (take count masks)) tt (none z) in
        omega (arith, (inside 1 s.n s.post t.1.1.0).1, i.few)

    front : length ms ≡ length (take count masks) → ans.refusal ≡ 0 → take (masks_length (shape_of s)) (ms ++ drop count masks) ≡ mask_numbers_of s rows a b first
    front m z =
        let n : length ms ≡ masks_length (shape_of s) = m ∙ length-take-le count masks few ∙ count_is in
        take_at ms (drop count masks) (masks_length (shape_of s)) n ∙ v ∙ rw end_is (pick (masks_refusal_of s rows a b first (take count masks)) (mask_numbers_of s rows a b first) (take count masks) (none z))

    pub masked : length ms ≡ length (take count masks) → Masked s store (get_or xs 0 0) (get_or xs 1 0) (get_or xs 2 0) ans (ms ++ drop count masks)
    masked m =
        rw (← p, ← q, ← f)
        (record {
          answer_is = u ∙ rw (end_is, same_room s rows (take count masks) (replicate (masks_length (shape_of s)) 0) a b first room);
          made = front m;
          post_in = post_low;
        })
