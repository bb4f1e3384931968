-- One-to-one matchings and counts: of a list without repetitions as many pass one test as another, where those that pass the
-- one are matched with those that pass the other. No test of equality is asked for.
use Prim.Native.Nat.{ℕ, suc, ◌+◌, ◌≤◌}
use mathlib.Core.Path.{◌≡◌, refl, sym, ◌∙◌, ap, subst}
use mathlib.Core.Bool.{Bool, true, false, cond}
use mathlib.Core.Logic.{◌≢◌, inl, inr}
use mathlib.Core.List.{List, [], ◌∷◌, map}
use native.Mathlib.Omega.{arith}
use lib.ListN.{length, length-map}
use Rattle.poly.specs.Counting.{Distinct}
use Rattle.runs.specs.Calls.{Among}
use Rattle.runs.proofs.Inside.{all_among, among_all, inside_length}
use Rattle.secrecy.specs.Claim.{Matching}
use Rattle.secrecy.specs.Count.{count, CountsPassing}

module _ {A : Type 0} where
  -- those that pass a test
  passing : (A → Bool) → List A → List A
  passing f [] = []
  passing f (x ∷ xs) = cond (f x) (x ∷ passing f xs) (passing f xs)

  module _ (f : A → Bool) where
    passing_length : (xs : List A) → length (passing f xs) ≡ count f xs
    unfolding passing count
    passing_length [] = refl
    passing_length (x ∷ xs) = go (passing_length xs) (f x)
      where
        go : length (passing f xs) ≡ count f xs → (b : Bool)
            → length (cond b (x ∷ passing f xs) (passing f xs)) ≡ cond b (suc (count f xs)) (count f xs)
        go e true = ap suc e
        go e false = e

    passing_true : (x : A) (xs : List A) → f x ≡ true → passing f (x ∷ xs) ≡ x ∷ passing f xs
    unfolding passing
    passing_true x xs e = ap (λ (b : Bool). cond b (x ∷ passing f xs) (passing f xs)) e

    passing_false : (x : A) (xs : List A) → f x ≡ false → passing f (x ∷ xs) ≡ passing f xs
    unfolding passing
    passing_false x xs e = ap (λ (b : Bool). cond b (x ∷ passing f xs) (passing f xs)) e

    passing_of : (xs : List A) (a : A) → Among a (passing f xs) → Among a xs × (f a ≡ true)
    unfolding passing
    passing_of [] a m = absurd m
    passing_of (x ∷ xs) a m = go (passing_of xs a) (f x) refl m
      where
        go : (Among a (passing f xs) → Among a xs × (f a ≡ true)) → (b : Bool) → f x ≡ b
            → Among a (cond b (x ∷ passing f xs) (passing f xs)) → Among a (x ∷ xs) × (f a ≡ true)
        go rest true e (inl q) = (inl q, ap f q ∙ e)
        go rest true e (inr k) = (inr (rest k).0, (rest k).1)
        go rest false e k = (inr (rest k).0, (rest k).1)

    of_passing : (xs : List A) (a : A) → Among a xs → f a ≡ true → Among a (passing f xs)
    unfolding passing
    of_passing [] a k t = elim k [ ]
    of_passing (x ∷ xs) a (inl q) t = subst (Among a) (sym (passing_true x xs (ap f (sym q) ∙ t))) (inl q)
    of_passing (x ∷ xs) a (inr m) t = go (of_passing xs a m t) (f x)
      where
        go : Among a (passing f xs) → (b : Bool) → Among a (cond b (x ∷ passing f xs) (passing f xs))
        go k true = inr k
        go k false = k

    passing_distinct : (xs : List A) → Distinct xs → Distinct (passing f xs)
    unfolding passing
    passing_distinct [] d = tt
    passing_distinct (x ∷ xs) d = go (passing_distinct xs d.1) (f x)
      where
        go : Distinct (passing f xs) → (b : Bool) → Distinct (cond b (x ∷ passing f xs) (passing f xs))
        go r true = (among_all (passing f xs) (λ a m. all_among (λ s. s ≢ x) xs d.0 a (passing_of xs a m).0), r)
        go r false = r

module _ {A B : Type 0} (h : A → B) where
  -- the images of a list's members are its image's members
  pub among_map : (xs : List A) (a : A) → Among a xs → Among (h a) (map h xs)
  among_map [] a k = elim k [ ]
  among_map (x ∷ xs) a (inl e) = inl (ap h e)
  among_map (x ∷ xs) a (inr m) = inr (among_map xs a m)

  pub map_among : (xs : List A) (b : B) → Among b (map h xs) → (a : A) × Among a xs × (b ≡ h a)
  map_among [] b k = elim k [ ]
  map_among (x ∷ xs) b (inl e) = (x, inl refl, e)
  map_among (x ∷ xs) b (inr m) = let (a, k, e) = map_among xs b m in (a, inr k, e)

  -- a map that keeps a list's members apart
  pub map_distinct : (xs : List A) → ((a b : A) → Among a xs → Among b xs → h a ≡ h b → a ≡ b) → Distinct xs
      → Distinct (map h xs)
  map_distinct [] i d = tt
  map_distinct (x ∷ xs) i d = (
    among_all (map h xs) (λ b m e. let (a, k, q) = map_among xs b m in
        all_among (λ s. s ≢ x) xs d.0 a k (i a x (inr k) (inl refl) (sym q ∙ e))),
    map_distinct xs (λ a b k l. i a b (inr k) (inr l)) d.1,
  )

module _ {A : Type 0} where
  -- those of a list that pass a test
  abbrev pub Passes : (A → Bool) → List A → A → Type 0
  Passes f xs a = Among a xs × (f a ≡ true)

  not_fewer : (all : List A) (f g : A → Bool) (to from : A → A) → Distinct all
      → ((a : A) → Passes f all a → Passes g all (to a)) → ((a : A) → Passes f all a → from (to a) ≡ a)
      → count f all ≤ count g all
  not_fewer all f g to from d ok back =
      let images : List A = map to (passing f all) in
      let apart : Distinct images =
      map_distinct to (passing f all)
      (λ a b k l e. sym (back a (passing_of f all a k)) ∙ ap from e ∙ back b (passing_of f all b l))
      (passing_distinct f all d) in
      let inside : (b : A) → Among b images → Among b (passing g all) =
      λ b m. let (a, k, e) = map_among to (passing f all) b m in
      let fine = ok a (passing_of f all a k) in
      subst (λ (c : A). Among c (passing g all)) (sym e) (of_passing g all (to a) fine.0 fine.1) in
      let short : length images ≤ length (passing g all) = inside_length images (passing g all) apart inside in
      omega (arith, length-map (passing f all) to, passing_length f all, passing_length g all)

  -- as many pass the one test as the other
  pub matched_counts : (all : List A) (f g : A → Bool) → Distinct all → Matching (Passes f all) (Passes g all)
      → count f all ≡ count g all
  matched_counts all f g d m =
      let there = not_fewer all f g m.to m.from d m.to_ok m.from_to in
      let back = not_fewer all g f m.from m.to d m.from_ok m.to_from in
      omega arith

-- what a count counts
pub counts_passing : CountsPassing
unfolding count
counts_passing A test =
    record {
      none = refl;
      passing = λ x xs e. ap (λ (b : Bool). cond b (suc (count test xs)) (count test xs)) e ∙ omega arith;
      failing = λ x xs e. ap (λ (b : Bool). cond b (suc (count test xs)) (count test xs)) e;
    }
