-- A list whose first n numbers are lent and written, and then the rest.
use Prim.Native.Nat.{ℕ, ◌+◌, ◌-◌, ◌≤◌}
use mathlib.Core.Path.{◌≡◌, ◌∙◌, ap}
use mathlib.Core.List.{List, ◌++◌, append-nil}
use native.Mathlib.Omega.{arith}
use lib.ListN.{length, take, drop, length-append, length-drop, drop_of_length-le}
use lib.Seq.{length-take-le, take_at, drop_at, take_all}
use borrow.Rule.Slice.PartMut.{put_mid}

-- the list once its first n numbers are written
abbrev pub fronted : ℕ → List ℕ → List ℕ → List ℕ
fronted n l ys = ys ++ drop n l

-- what is lent then
abbrev pub back : ℕ → List ℕ → List ℕ → List ℕ
back n l ys = take (length (fronted n l ys) - n) (drop n (fronted n l ys))

module _ (n m : ℕ) (l : List ℕ) (sized : length l ≡ n + m) where
  pub front_length : length (take n l) ≡ n
  front_length = length-take-le n l (omega arith)

  module _ (ys : List ℕ) (kept : length ys ≡ length (take n l)) where
    back_is : back n l ys ≡ drop n l
    back_is =
        let e : length ys ≡ n = kept ∙ front_length in
        ap (take (length (fronted n l ys) - n)) (drop_at ys (drop n l) n e)
        ∙ take_all (length (fronted n l ys) - n) (drop n l) (omega (arith, length-append ys (drop n l)))

    pub back_length : length (back n l ys) ≡ m
    back_length = rw back_is (omega (arith, length-drop n l))

    pub joined : (zs a b : List ℕ) → ys ≡ a → zs ≡ b
        → put_mid n (length (fronted n l ys) - n) (fronted n l ys) zs ≡ a ++ b
    joined zs a b f g =
        let e : length ys ≡ n = kept ∙ front_length in
        let h : length (drop n l) ≤ length (fronted n l ys) - n = omega (arith, length-append ys (drop n l)) in
        rw (take_at ys (drop n l) n e, drop_at ys (drop n l) n e, drop_of_length-le (drop n l) h, append-nil zs, f, g)
