-- Members of a list: what holds of all holds of each; and a list without repetitions is not longer than one that has all its members.
use Prim.Native.Nat.{suc, ◌≤◌}
use mathlib.Core.Path.{◌≡◌, refl, sym, ◌∙◌, ap, subst}
use mathlib.Core.Logic.{◌≢◌, inl, inr}
use mathlib.Core.List.{List, [], ◌∷◌}
use native.Mathlib.Omega.{arith}
use lib.ListN.{length}
use Rattle.poly.specs.Counting.{All, Distinct}
use Rattle.runs.specs.Calls.{Among}

module _ {A : Type 0} where
  -- what holds of all holds of each, and back
  pub all_among : (P : A → Type 0) (xs : List A) → All P xs → (a : A) → Among a xs → P a
  all_among P [] h a m = elim m [ ]
  all_among P (x ∷ xs) h a (inl e) = subst P (sym e) h.0
  all_among P (x ∷ xs) h a (inr m) = all_among P xs h.1 a m

  pub among_all : {P : A → Type 0} (xs : List A) → ((a : A) → Among a xs → P a) → All P xs
  among_all [] f = tt
  among_all (x ∷ xs) f = (f x (inl refl), among_all xs (λ a m. f a (inr m)))

  -- a list without one of its members
  without : (x : A) (ys : List A) → Among x ys → List A
  without x [] m = elim m [ ]
  without x (y ∷ ys) (inl e) = ys
  without x (y ∷ ys) (inr m) = y ∷ without x ys m

  without_length : (x : A) (ys : List A) (m : Among x ys) → length ys ≡ suc (length (without x ys m))
  unfolding without
  without_length x [] m = elim m [ ]
  without_length x (y ∷ ys) (inl e) = refl
  without_length x (y ∷ ys) (inr m) = ap suc (without_length x ys m)

  without_among : (x : A) (ys : List A) (m : Among x ys) (a : A) → a ≢ x → Among a ys → Among a (without x ys m)
  unfolding without
  without_among x [] m a ne k = elim m [ ]
  without_among x (y ∷ ys) (inl e) a ne (inl q) = absurd (ne (q ∙ sym e))
  without_among x (y ∷ ys) (inl e) a ne (inr q) = q
  without_among x (y ∷ ys) (inr m) a ne (inl q) = inl q
  without_among x (y ∷ ys) (inr m) a ne (inr q) = inr (without_among x ys m a ne q)

  -- a list without repetitions is not longer than one that has all its members
  pub inside_length : (xs ys : List A) → Distinct xs → ((a : A) → Among a xs → Among a ys) → length xs ≤ length ys
  inside_length [] ys d f = omega arith
  inside_length (x ∷ xs) ys d f =
      let m : Among x ys = f x (inl refl) in
      let rest : length xs ≤ length (without x ys m) =
      inside_length xs (without x ys m) d.1 (λ a k. without_among x ys m a (all_among (λ s. s ≢ x) xs d.0 a k) (f a (inr k))) in
      omega (arith, without_length x ys m)
