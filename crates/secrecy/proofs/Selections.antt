-- The lists that take one member of each of several lists: which they are, and that each is listed once.
use Prim.Native.Nat.{ℕ, zero, suc, ◌+◌, ◌≤◌, ◌<◌}
use mathlib.Core.Path.{◌≡◌, refl, sym, ◌∙◌, ap, subst}
use mathlib.Core.Logic.{◌≢◌, ◌⊎◌, inl, inr}
use mathlib.Core.List.{List, [], ◌∷◌, ◌++◌, map}
use native.Mathlib.Nat.{suc_inj, not-suc-le-zero}
use native.Mathlib.Decide.{ℕ_discrete}
use native.Mathlib.Omega.{arith}
use lib.ListN.{length, get_or, replicate}
use Rattle.poly.specs.Counting.{All, Distinct}
use Rattle.parts.specs.Draw.{each_from}
use Rattle.runs.specs.Calls.{Among}
use Rattle.secrecy.specs.Count.{for_each, choices}
use Rattle.runs.proofs.Inside.{all_among, among_all}
use Rattle.secrecy.proofs.Counting.{among_map, map_among, map_distinct}

-- members of two lists in one
module _ {A : Type 0} where
  among_left : (xs ys : List A) (a : A) → Among a xs → Among a (xs ++ ys)
  among_left [] ys a k = elim k [ ]
  among_left (x ∷ xs) ys a (inl e) = inl e
  among_left (x ∷ xs) ys a (inr m) = inr (among_left xs ys a m)

  among_right : (xs ys : List A) (a : A) → Among a ys → Among a (xs ++ ys)
  among_right [] ys a m = m
  among_right (x ∷ xs) ys a m = inr (among_right xs ys a m)

  among_either : (xs ys : List A) (a : A) → Among a (xs ++ ys) → Among a xs ⊎ Among a ys
  among_either [] ys a m = inr m
  among_either (x ∷ xs) ys a (inl e) = inl (inl e)
  among_either (x ∷ xs) ys a (inr m) = go (among_either xs ys a m)
    where
      go : Among a xs ⊎ Among a ys → Among a (x ∷ xs) ⊎ Among a ys
      go (inl k) = inl (inr k)
      go (inr k) = inr k

  append_distinct : (xs ys : List A) → Distinct xs → Distinct ys → ((a : A) → Among a xs → Among a ys → ⊥)
      → Distinct (xs ++ ys)
  append_distinct [] ys d d' apart = d'
  append_distinct (x ∷ xs) ys d d' apart = (
    among_all (xs ++ ys) (λ a m. other a (among_either xs ys a m)),
    append_distinct xs ys d.1 d' (λ a m. apart a (inr m)),
  )
    where
      other : (a : A) → Among a xs ⊎ Among a ys → a ≢ x
      other a (inl m) = all_among (λ s. s ≢ x) xs d.0 a m
      other a (inr m) = λ e. apart x (inl refl) (subst (λ (z : A). Among z ys) e m)

-- members of what is listed for each of a list
module _ {A B : Type 0} (f : A → List B) where
  pub among_each : (xs : List A) (a : A) (b : B) → Among a xs → Among b (f a) → Among b (for_each xs f)
  unfolding for_each
  among_each [] a b k m = elim k [ ]
  among_each (x ∷ xs) a b (inl e) m = among_left (f x) (for_each xs f) b (subst (λ (z : A). Among b (f z)) e m)
  among_each (x ∷ xs) a b (inr k) m = among_right (f x) (for_each xs f) b (among_each xs a b k m)

  pub each_among : (xs : List A) (b : B) → Among b (for_each xs f) → (a : A) × Among a xs × Among b (f a)
  unfolding for_each
  each_among [] b m = absurd m
  each_among (x ∷ xs) b m = go (each_among xs b) (among_either (f x) (for_each xs f) b m)
    where
      go : (Among b (for_each xs f) → (a : A) × Among a xs × Among b (f a)) → Among b (f x) ⊎ Among b (for_each xs f)
          → (a : A) × Among a (x ∷ xs) × Among b (f a)
      go rest (inl k) = (x, inl refl, k)
      go rest (inr k) = let (a, l, q) = rest k in (a, inr l, q)

  pub each_distinct : (xs : List A) → Distinct xs → ((a : A) → Distinct (f a))
      → ((a c : A) (b : B) → Among b (f a) → Among b (f c) → a ≡ c) → Distinct (for_each xs f)
  unfolding for_each
  each_distinct [] d g one = tt
  each_distinct (x ∷ xs) d g one =
      append_distinct (f x) (for_each xs f) (g x) (each_distinct xs d.1 g one)
      (λ b m k. let (a, l, q) = each_among xs b k in all_among (λ s. s ≢ x) xs d.0 a l (one a x b q m))

-- a first of the first list, a second of the second, and so on
abbrev pub Fits : {A : Type 0} → List A → List (List A) → Type 0
Fits [] [] = Unit {0}
Fits [] (c ∷ cs) = ⊥
Fits (x ∷ xs) [] = ⊥
Fits (x ∷ xs) (c ∷ cs) = Among x c × Fits xs cs

module _ {A : Type 0} where
  pub choices_fit : (cs : List (List A)) (xs : List A) → Among xs (choices cs) → Fits xs cs
  unfolding choices
  choices_fit [] xs (inl e) = subst (λ (l : List A). Fits l []) (sym e) tt
  choices_fit [] xs (inr m) = absurd m
  choices_fit (c ∷ cs) xs m =
      let (x, k, l) = each_among (λ y. map (λ ys. y ∷ ys) (choices cs)) c xs m in
      let (rest, q, e) = map_among (λ ys. x ∷ ys) (choices cs) xs l in
      subst (λ (z : List A). Fits z (c ∷ cs)) (sym e) (k, choices_fit cs rest q)

  pub fit_choices : (cs : List (List A)) (xs : List A) → Fits xs cs → Among xs (choices cs)
  unfolding choices
  fit_choices [] [] h = inl refl
  fit_choices [] (x ∷ xs) h = absurd h
  fit_choices (c ∷ cs) [] h = absurd h
  fit_choices (c ∷ cs) (x ∷ xs) h =
      among_each (λ y. map (λ ys. y ∷ ys) (choices cs)) c x (x ∷ xs) h.0
      (among_map (λ ys. x ∷ ys) (choices cs) xs (fit_choices cs xs h.1))

  same_head : (x y : A) (xs ys : List A) → ◌≡◌ {A = List A} (x ∷ xs) (y ∷ ys) → x ≡ y
  same_head x y xs ys e = cc

  same_tail : (x y : A) (xs ys : List A) → ◌≡◌ {A = List A} (x ∷ xs) (y ∷ ys) → xs ≡ ys
  same_tail x y xs ys e = cc

  pub choices_distinct : (cs : List (List A)) → All (λ c. Distinct c) cs → Distinct (choices cs)
  unfolding choices
  choices_distinct [] d = (tt, tt)
  choices_distinct (c ∷ cs) d =
      each_distinct (λ y. map (λ ys. y ∷ ys) (choices cs)) c d.0
      (λ y. map_distinct (λ ys. y ∷ ys) (choices cs) (λ a b k l e. same_tail y y a b e) (choices_distinct cs d.1))
      (λ a b l m k.
      let (r, _, e) = map_among (λ ys. a ∷ ys) (choices cs) l m in
      let (s, _, q) = map_among (λ ys. b ∷ ys) (choices cs) l k in
      same_head a b r s (sym e ∙ q))

  -- the same candidates k times
  pub fits_same : (k : ℕ) (c : List A) (xs : List A) → Fits xs (replicate k c) → (length xs ≡ k) × All (λ x. Among x c) xs
  fits_same zero c [] h = (refl, tt)
  fits_same zero c (x ∷ xs) h = absurd h
  fits_same (suc k) c [] h = absurd h
  fits_same (suc k) c (x ∷ xs) h = let (e, a) = fits_same k c xs h.1 in (ap suc e, (h.0, a))

  pub same_fits : (k : ℕ) (c : List A) (xs : List A) → length xs ≡ k → All (λ x. Among x c) xs → Fits xs (replicate k c)
  same_fits zero c [] e a = tt
  same_fits zero c (x ∷ xs) e a = absurd (omega arith)
  same_fits (suc k) c [] e a = absurd (omega arith)
  same_fits (suc k) c (x ∷ xs) e a = (a.0, same_fits k c xs (suc_inj e) a.1)

  -- a list of candidates for each number from `low` on
  pub fits_rows : (h : ℕ → List A) (d : A) (low many : ℕ) (xs : List A) → Fits xs (map h (each_from low many (λ r. r)))
      → (length xs ≡ many) × ((r : ℕ) → r < many → Among (get_or xs r d) (h (low + r)))
  unfolding each_from
  fits_rows h d low zero [] f = (refl, λ r l. absurd (not-suc-le-zero l))
  fits_rows h d low zero (x ∷ xs) f = absurd f
  fits_rows h d low (suc many) [] f = absurd f
  fits_rows h d low (suc many) (x ∷ xs) f = let (e, rest) = fits_rows h d (suc low) many xs f.1 in (ap suc e, go rest)
    where
      go : ((r : ℕ) → r < many → Among (get_or xs r d) (h (suc low + r)))
          → (r : ℕ) → r < suc many → Among (get_or (x ∷ xs) r d) (h (low + r))
      go rest zero l = let e : low ≡ low + 0 = omega arith in subst (λ (j : ℕ). Among x (h j)) e f.0
      go rest (suc r) l =
          let e : suc low + r ≡ low + suc r = omega arith in
          subst (λ (j : ℕ). Among (get_or xs r d) (h j)) e (rest r (omega arith))

  pub rows_fit : (h : ℕ → List A) (d : A) (low many : ℕ) (xs : List A) → length xs ≡ many
      → ((r : ℕ) → r < many → Among (get_or xs r d) (h (low + r))) → Fits xs (map h (each_from low many (λ r. r)))
  unfolding each_from
  rows_fit h d low zero [] e f = tt
  rows_fit h d low zero (x ∷ xs) e f = absurd (omega arith)
  rows_fit h d low (suc many) [] e f = absurd (omega arith)
  rows_fit h d low (suc many) (x ∷ xs) e f =
      let z : low + 0 ≡ low = omega arith in
      (subst (λ (j : ℕ). Among x (h j)) z (f 0 (omega arith)), rows_fit h d (suc low) many xs (suc_inj e) rest)
    where
      rest : (r : ℕ) → r < many → Among (get_or xs r d) (h (suc low + r))
      rest r l =
          let q : low + suc r ≡ suc low + r = omega arith in
          subst (λ (j : ℕ). Among (get_or xs r d) (h j)) q (f (suc r) (omega arith))

-- the `many` numbers from `low` on
pub numbers_among : (low many x : ℕ) → Among x (each_from low many (λ r. r)) → (low ≤ x) × (x < low + many)
unfolding each_from
numbers_among low zero x m = absurd m
numbers_among low (suc many) x (inl e) = (omega arith, omega arith)
numbers_among low (suc many) x (inr m) = let (a, b) = numbers_among (suc low) many x m in (omega arith, omega arith)

pub among_numbers : (low many x : ℕ) → low ≤ x → x < low + many → Among x (each_from low many (λ r. r))
unfolding each_from
among_numbers low zero x a b = absurd (omega arith)
among_numbers low (suc many) x a b = go (among_numbers (suc low) many x) (ℕ_discrete x low)
  where
    go : (suc low ≤ x → x < suc low + many → Among x (each_from (suc low) many (λ r. r))) → Dec (x ≡ low)
        → Among x (low ∷ each_from (suc low) many (λ r. r))
    go rest (yes e) = inl e
    go rest (no n) = inr (rest (omega arith) (omega arith))

pub numbers_distinct : (low many : ℕ) → Distinct (each_from low many (λ r. r))
unfolding each_from
numbers_distinct low zero = tt
numbers_distinct low (suc many) = (
  among_all (each_from (suc low) many (λ r. r)) (λ a m e. let (l, _) = numbers_among (suc low) many a m in omega arith),
  numbers_distinct (suc low) many,
)
