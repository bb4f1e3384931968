-- The search for a triple that is named twice: its turns (Found.antt has those for one triple); and what holds where it finds none.
use Prim.Native.Nat.{ℕ, ◌+◌, ◌≤◌, ◌<◌}
use mathlib.Core.Path.{◌≡◌, refl, sym, ◌∙◌}
use mathlib.Core.Bool.{Bool, true, false}
use mathlib.Core.Logic.{◌≢◌}
use mathlib.Core.List.{List, [], ◌∷◌}
use borrow.Author.Tests.{eqb-false}
use lib.Dec.{eqb}
use lib.ListN.{length, drop, get_or, drop_of_length-le}
use Rattle.poly.specs.Counting.{All}
use Rattle.refusal.specs.Refusal.{◌when◌, first}
use Rattle.refusal.proofs.Laws.{or_false}
use Rattle.terms.specs.declared.Term.{Term}
use Rattle.terms.specs.Listed.{blank}
use Rattle.relation.specs.Tests.{named_in, named_twice_of}
use Rattle.relation.proofs.Loops.{at_place}

module _ (l : List Term) (i : ℕ) (all : Bool) (e : named_twice_of (drop i l) ≡ all) where
  module _ (h : i < length l) (b : Bool) (eb : b ≡ named_in (get_or l i blank).first (drop (i + 1) l)) where
    pub twice_here : b ≡ true → 7 ≡ first (7 when all ∷ [])
    unfolding named_twice_of
    twice_here q =
        let k : named_in (get_or l i blank).first (drop (i + 1) l) ≡ true = sym eb ∙ q in
        let f : true ≡ all = rw (at_place l i h, k) at e in
        rw (← f) refl

    pub twice_on : b ≡ false → named_twice_of (drop (i + 1) l) ≡ all
    unfolding named_twice_of
    twice_on q =
        let k : named_in (get_or l i blank).first (drop (i + 1) l) ≡ false = sym eb ∙ q in
        rw (at_place l i h, k) at e

  pub twice_out : length l ≤ i → 0 ≡ first (7 when all ∷ [])
  unfolding named_twice_of
  twice_out h =
      let f : false ≡ all = rw (drop_of_length-le l h) at e in
      rw (← f) refl

-- no triple is that of a term behind
named_apart : (r : ℕ) (ts : List Term) → named_in r ts ≡ false → All (λ t. t.first ≢ r) ts
unfolding named_in
named_apart r [] e = tt
named_apart r (t ∷ ts) e = let h = or_false (eqb t.first r) (named_in r ts) e in (eqb-false t.first r h.0, named_apart r ts h.1)

pub twice_parts : (t : Term) (ts : List Term) → named_twice_of (t ∷ ts) ≡ false → All (λ u. u.first ≢ t.first) ts × (named_twice_of ts ≡ false)
unfolding named_twice_of
twice_parts t ts e = let h = or_false (named_in t.first ts) (named_twice_of ts) e in (named_apart t.first ts h.0, h.1)
