-- A triple named twice, and tests over all terms.
use Prim.Native.Nat.{ℕ, suc, ◌+◌}
use mathlib.Core.Path.{◌≡◌, refl, sym, ◌∙◌, ap}
use mathlib.Core.Logic.{◌≢◌}
use mathlib.Core.Bool.{false}
use mathlib.Core.List.{List, [], ◌∷◌, ◌++◌, append_assoc, append-nil}
use native.Mathlib.Omega.{arith}
use borrow.Author.Tests.{eqb-false, ne_eqb}
use lib.Dec.{eqb}
use lib.ListN.{length}
use Rattle.poly.specs.Counting.{All, Distinct}
use Rattle.refusal.specs.Refusal.{Test}
use Rattle.refusal.proofs.Laws.{or_false}
use Rattle.terms.specs.declared.Term.{Term}
use Rattle.relation.specs.Tests.{each_at_of}
use Rattle.relation.specs.Table.{is_among, repeats}
use Rattle.relation.specs.Meaning.{WordsMean}

others : (x : ℕ) (ys : List ℕ) → is_among x ys ≡ false → All (λ y. y ≢ x) ys
unfolding is_among
others x [] e = tt
others x (y ∷ ys) e = let h = or_false (eqb y x) (is_among x ys) e in (eqb-false y x h.0, others x ys h.1)

none_among : (x : ℕ) (ys : List ℕ) → All (λ y. y ≢ x) ys → is_among x ys ≡ false
unfolding is_among
none_among x [] h = refl
none_among x (y ∷ ys) h = rw (ne_eqb y x h.0) (none_among x ys h.1)

once : (xs : List ℕ) → repeats xs ≡ false → Distinct xs
unfolding repeats
once [] e = tt
once (x ∷ xs) e = let h = or_false (is_among x xs) (repeats xs) e in (others x xs h.0, once xs h.1)

once_passes : (xs : List ℕ) → Distinct xs → repeats xs ≡ false
unfolding repeats
once_passes [] h = refl
once_passes (x ∷ xs) h = rw (none_among x xs h.0) (once_passes xs h.1)

last_term : (f : ℕ → Term → List Test) (k : ℕ) (ts : List Term) (t : Term) → each_at_of f k (ts ++ (t ∷ [])) ≡ each_at_of f k ts ++ f (k + length ts) t
unfolding each_at_of
last_term f k [] t =
    let z : k + 0 ≡ k = omega arith in
    append-nil (f k t) ∙ ap (λ (n : ℕ). f n t) (sym z)
last_term f k (u ∷ ts) t =
    let z : suc k + length ts ≡ k + suc (length ts) = omega arith in
    ap (λ (l : List Test). f k u ++ l) (last_term f (suc k) ts t ∙ ap (λ (n : ℕ). each_at_of f (suc k) ts ++ f n t) z)
    ∙ sym (append_assoc (f k u) (each_at_of f (suc k) ts) (f (k + suc (length ts)) t))

pub words_mean : WordsMean
unfolding each_at_of
words_mean = record { once = once; once_passes = once_passes; no_terms = λ f k. refl; last_term = last_term }
