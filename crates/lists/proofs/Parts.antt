-- A list with x in the place of the k elements from a on: the form in which a part that was lent comes back.
use Prim.Native.Nat.{ℕ, zero, suc, ◌+◌, ◌-◌, ◌≤◌}
use mathlib.Core.Path.{◌≡◌, refl, sym, ◌∙◌, ap}
use mathlib.Core.List.{List, [], ◌∷◌, ◌++◌, append_assoc}
use native.Mathlib.Nat.{add-sub_cancel_left}
use native.Mathlib.Omega.{arith}
use lib.ListN.{length, take, drop, length-drop, length-take}
use lib.Seq.{take_all, take_at, drop_at, take-take, take-add, drop-drop, length-take-le}
use borrow.Rule.Slice.PartMut.{put_mid, same_len_mid, take_put}

pub part_length : (a k : ℕ) (l : List ℕ) → a + k ≤ length l → length (take k (drop a l)) ≡ k
part_length a k l h = length-take-le k (drop a l) (omega (arith, length-drop a l))

-- a part of the first b elements is that part of the whole
part_of_front : (a b k : ℕ) (l : List ℕ) → a + k ≤ b → take k (drop a (take b l)) ≡ take k (drop a l)
part_of_front zero b k l h = take-take k b l (omega arith)
part_of_front (suc a) zero k l h = absurd (omega arith)
part_of_front (suc a) (suc b) k [] h = refl
part_of_front (suc a) (suc b) k (x ∷ l) h = part_of_front a b k l (omega arith)

module _ (a k : ℕ) (l x : List ℕ) (room : a + k ≤ length l) (wide : length x ≡ k) where
  pub length_put : length (put_mid a k l x) ≡ length l
  length_put = same_len_mid a k l x (wide ∙ sym (part_length a k l room))

  start : length (take a l) ≡ a
  start = length-take-le a l (omega arith)

  pub part_same : take k (drop a (put_mid a k l x)) ≡ x
  part_same =
      ap (take k) (drop_at (take a l) (x ++ drop k (drop a l)) a start) ∙ take_at x (drop k (drop a l)) k wide

  pub part_before : (b m : ℕ) → b + m ≤ a → take m (drop b (put_mid a k l x)) ≡ take m (drop b l)
  part_before b m h =
      sym (part_of_front b a m (put_mid a k l x) h)
      ∙ ap (λ (z : List ℕ). take m (drop b z)) (take_put a k l x (omega arith))
      ∙ part_of_front b a m l h

  rest_same : drop (a + k) (put_mid a k l x) ≡ drop (a + k) l
  rest_same =
      sym (drop-drop k a (put_mid a k l x))
      ∙ ap (drop k) (drop_at (take a l) (x ++ drop k (drop a l)) a start)
      ∙ drop_at x (drop k (drop a l)) k wide
      ∙ drop-drop k a l

  pub part_after : (b m : ℕ) → a + k ≤ b → take m (drop b (put_mid a k l x)) ≡ take m (drop b l)
  part_after b m h =
      let e : a + k + (b - (a + k)) ≡ b = omega arith in
      ap (take m)
      (ap (λ (z : ℕ). drop z (put_mid a k l x)) (sym e)
      ∙ sym (drop-drop (b - (a + k)) (a + k) (put_mid a k l x))
      ∙ ap (drop (b - (a + k))) rest_same
      ∙ drop-drop (b - (a + k)) (a + k) l
      ∙ ap (λ (z : ℕ). drop z l) e)

drop_on : (a k m : ℕ) (l : List ℕ) → drop m (drop (a + k) l) ≡ drop (k + m) (drop a l)
drop_on a k m l =
    let e : a + k + m ≡ a + (k + m) = omega arith in
    drop-drop m (a + k) l ∙ ap (λ (z : ℕ). drop z l) e ∙ sym (drop-drop (k + m) a l)

-- front, y and rest, grouped anew
regroup : (a k m : ℕ) (l x y : List ℕ)
    → (take a l ++ x) ++ (y ++ drop m (drop (a + k) l)) ≡ take a l ++ ((x ++ y) ++ drop (k + m) (drop a l))
regroup a k m l x y =
    append_assoc (take a l) x (y ++ drop m (drop (a + k) l))
    ∙ ap (λ (z : List ℕ). take a l ++ z)
    (sym (append_assoc x y (drop m (drop (a + k) l))) ∙ ap (λ (z : List ℕ). (x ++ y) ++ z) (drop_on a k m l))

-- the last m elements of a part are put: the part with its first k elements as they were
pub put_tail : (a k m : ℕ) (l y : List ℕ) → put_mid (a + k) m l y ≡ put_mid a (k + m) l (take k (drop a l) ++ y)
put_tail a k m l y =
    ap (λ (z : List ℕ). z ++ (y ++ drop m (drop (a + k) l))) (take-add a k l) ∙ regroup a k m l (take k (drop a l)) y

-- two parts that touch, put one after the other
pub put_join : (a k m : ℕ) (l x y : List ℕ) → a + k ≤ length l → length x ≡ k
    → put_mid (a + k) m (put_mid a k l x) y ≡ put_mid a (k + m) l (x ++ y)
put_join a k m l x y h e =
    let front : take (a + k) (put_mid a k l x) ≡ take a l ++ x =
    take-add a k (put_mid a k l x)
    ∙ ap (λ (z : List ℕ). z ++ take k (drop a (put_mid a k l x))) (take_put a k l x (omega arith))
    ∙ ap (λ (z : List ℕ). take a l ++ z) (part_same a k l x h e) in
    ap (λ (z : List ℕ). z ++ (y ++ drop m (drop (a + k) (put_mid a k l x)))) front
    ∙ ap (λ (z : List ℕ). (take a l ++ x) ++ (y ++ drop m z)) (rest_same a k l x h e)
    ∙ regroup a k m l x y

pub drop_front : (k m : ℕ) (l : List ℕ) → drop k (take (k + m) l) ≡ take m (drop k l)
drop_front k m l =
    sym (take_all m (drop k (take (k + m) l)) (simp (length-drop, length-take) (omega arith)))
    ∙ part_of_front k (k + m) m l (omega arith)

-- a part from a to a + k comes back whole
pub put_whole : (a k : ℕ) (l x y : List ℕ) → x ≡ y → put_mid a (a + k - a) l x ≡ put_mid a k l y
put_whole a k l x y e = rw (e, add-sub_cancel_left a k)
