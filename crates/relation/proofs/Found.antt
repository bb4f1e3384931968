-- The search for the terms that name one triple: where one does, and where none does.
use Prim.Native.Nat.{ℕ, zero, suc, ◌<◌}
use mathlib.Core.Path.{◌≡◌, refl, sym}
use mathlib.Core.Bool.{Bool, true, false, ◌||◌}
use mathlib.Core.Logic.{◌≢◌}
use mathlib.Core.List.{List, [], ◌∷◌}
use native.Mathlib.Nat.{le_of_suc-le-suc, not-suc-le-zero}
use native.Mathlib.Omega.{arith}
use borrow.Author.Tests.{eq-eqb, ne_eqb}
use lib.ListN.{length, get_or}
use Rattle.std.specs.Bool.{MatchBool}
use Rattle.std.specs.List.{HoldsAt, AllWithin}
use Rattle.std.proofs.lemmas.Bool.{MatchBool-at_true, MatchBool-at_false}
use Rattle.terms.specs.declared.Term.{Term}
use Rattle.terms.specs.Listed.{blank}
use Rattle.relation.specs.Tests.{named_in}

or_true : (b : Bool) → (b || true) ≡ true
or_true true = refl
or_true false = refl

module _ (row : ℕ) where
  pub named_here : (l : List Term) (k : ℕ) → k < length l → (get_or l k blank).first ≡ row → named_in row l ≡ true
  unfolding named_in
  named_here [] k h e = absurd (not-suc-le-zero h)
  named_here (t ∷ l) zero h e = rw (eq-eqb t.first row e) refl
  named_here (t ∷ l) (suc k) h e = rw (named_here l k (le_of_suc-le-suc h) e) (or_true _)

  pub named_nowhere : (l : List Term) → ((k : ℕ) → k < length l → (get_or l k blank).first ≢ row) → named_in row l ≡ false
  unfolding named_in
  named_nowhere [] h = refl
  named_nowhere (t ∷ l) h = rw (ne_eqb t.first row (h 0 (omega arith))) (named_nowhere l (λ k i. h (suc k) (omega arith)))

  abbrev one : List Term → Type 0
  one l = (k : ℕ) × (k < length l) × HoldsAt (λ t. t.first ≡ row) l k

  abbrev none : List Term → Type 0
  none l = AllWithin (λ t. t.first ≢ row) l 0 (length l)

  pub named : (l : List Term) (r : Bool) → MatchBool r (one l) (none l) → r ≡ named_in row l
  named l true m = let h = MatchBool-at_true (one l) (none l) refl m in sym (named_here l h.0 h.1 (h.2 blank))
  named l false m =
      let h = MatchBool-at_false (one l) (none l) refl m in
      sym (named_nowhere l (λ k i. h k blank (omega arith) i))
