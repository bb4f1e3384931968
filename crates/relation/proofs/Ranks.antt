-- Tests whose numbers stand in the order of documents 01 and 02, 14 right behind 5, settle the refusal; and lists of terms' tests
-- stand in that order where each term's tests have one number.
use Prim.Native.Nat.{ℕ, zero, suc, ◌≤◌, ◌<◌}
use mathlib.Core.Path.{◌≡◌, refl}
use mathlib.Core.Bool.{true, false}
use mathlib.Core.List.{List, [], ◌∷◌, ◌++◌}
use native.Mathlib.Nat.{le_refl, le_trans}
use native.Mathlib.Omega.{arith}
use Rattle.refusal.specs.Refusal.{Test, ◌when◌, first, Applies, here, later}
use Rattle.refusal.proofs.Laws.{Numbered, all_fail, not_refused}
use Rattle.terms.specs.declared.Term.{Term}
use Rattle.relation.specs.Tests.{each_at_of}
use Rattle.relation.specs.Order.{rank, Settles, Ranked}

numbered : (k : ℕ) (ts : List Test) → Ranked k ts → Numbered ts
numbered k [] o = tt
numbered k (zero when b ∷ ts) o = let h = o.1 in absurd (omega arith)
numbered k (suc j when b ∷ ts) o = numbered (rank (suc j)) ts o.2

at_least : (k j : ℕ) (ts : List Test) → Ranked k ts → Applies j ts → k ≤ rank j
at_least k j [] o x = elim x [ ]
at_least k j (_ when true ∷ ts) o here = o.0
at_least k j (i when b ∷ ts) o (later a) = le_trans o.0 (at_least (rank i) j ts o.2 a)

applies : (k : ℕ) (ts : List Test) → Ranked k ts → (first ts ≡ 0 → ⊥) → Applies (first ts) ts
applies k [] o h = absurd (h refl)
applies k (j when true ∷ ts) o h = here
applies k (j when false ∷ ts) o h = later (applies (rank j) ts o.2 h)

least : (k : ℕ) (ts : List Test) → Ranked k ts → (j : ℕ) → Applies j ts → (0 < first ts) × (rank (first ts) ≤ rank j)
least k [] o j x = elim x [ ]
least k (_ when true ∷ ts) o j here = (o.1, le_refl (rank j))
least k (i when true ∷ ts) o j (later a) = (o.1, at_least (rank i) j ts o.2 a)
least k (i when false ∷ ts) o j (later a) = least (rank i) ts o.2 j a

pub settles : (k : ℕ) (ts : List Test) → Ranked k ts → Settles ts
settles k ts o =
    record { accepts = all_fail ts (numbered k ts o); only = not_refused ts; applies = applies k ts o; least = least k ts o }

-- every test has the number j
abbrev pub Only : ℕ → List Test → Type 0
Only j [] = Unit {0}
Only j (i when b ∷ ts) = (i ≡ j) × Only j ts

pub only_append : (j : ℕ) (xs ys : List Test) → Only j xs → Only j ys → Only j (xs ++ ys)
only_append j [] ys o p = p
only_append j (i when b ∷ xs) ys o p = (o.0, only_append j xs ys o.1 p)

pub each_only : (j : ℕ) (f : ℕ → Term → List Test) → ((k : ℕ) (t : Term) → Only j (f k t)) → (k : ℕ) (ts : List Term) → Only j (each_at_of f k ts)
unfolding each_at_of
each_only j f h k [] = tt
each_only j f h k (t ∷ ts) = only_append j (f k t) (each_at_of f (suc k) ts) (h k t) (each_only j f h (suc k) ts)

weaker : (k m : ℕ) (ts : List Test) → k ≤ m → Ranked m ts → Ranked k ts
weaker k m [] h o = tt
weaker k m (j when b ∷ ts) h o = (le_trans h o.0, o.1, o.2)

-- a group of one number before the rest
pub ranked_group : (k j : ℕ) (xs ys : List Test) → 0 < j → k ≤ rank j → Only j xs → Ranked (rank j) ys → Ranked k (xs ++ ys)
ranked_group k j [] ys p h o r = weaker k (rank j) ys h r
ranked_group k j (i when b ∷ xs) ys p h o r =
    rw o.0 (h, p, ranked_group (rank j) j xs ys p (le_refl (rank j)) o.1 r)

-- and at the end
pub ranked_last : (k j : ℕ) (xs : List Test) → 0 < j → k ≤ rank j → Only j xs → Ranked k xs
ranked_last k j [] p h o = tt
ranked_last k j (i when b ∷ xs) p h o = rw o.0 (h, p, ranked_last (rank j) j xs p (le_refl (rank j)) o.1)
