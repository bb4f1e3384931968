-- One product term's two openings, at its place among those before it.
use Prim.Native.Nat.{ℕ, suc, ◌+◌, ◌*◌}
use mathlib.Core.Path.{◌≡◌, refl, ◌∙◌, ap}
use mathlib.Core.List.{List, [], ◌∷◌}
use lib.ListN.{length, set}
use Rattle.shape.specs.declared.Shape.{Shape}
use Rattle.shape.specs.Lengths as Lengths
use Rattle.session.specs.declared.Party.{Party}
use Rattle.session.specs.declared.Session.{Session}
use Rattle.session.specs.Sessions.{shape_of, party_of}
use Rattle.session.specs.Rows.{row_at}
use Rattle.session.specs.Between.{Framed}
use Rattle.blocks.specs.Between.{Recorded}
use Rattle.std.specs.Prelude.{Result, Ok, Err}
use Rattle.std.specs.Result.{result_and}
use Rattle.refusal.specs.declared.Refusal.{Refusal}
use Rattle.refusal.specs.Numbers.{refused}
use Rattle.walk.specs.Number.{value_or_zero}
use Rattle.mask_opening.specs.declared.OpenedPair.{OpenedPair}
use Rattle.mask_opening.specs.Either.{either_of}
use Rattle.mask_opening.specs.Pair.{opened_pair}
use Rattle.mask_opening.specs.Between.{Maskable}
use Rattle.collect.proofs.Finishing.{party_maskable}
use Rattle.terms.specs.declared.Term.{Term}
use Rattle.relation.specs.Tests.{Factors}
use Rattle.relation.proofs.Loops.{walked}
use Rattle.relation_writing.specs.declared.OpenedTerms.{OpenedTerms}
use Rattle.relation_finish.specs.Steps.{kept_at, with_opened, opened_terms}

pub kept : (k : ℕ) (a b u : Result ℕ Refusal) (before o : OpenedTerms) (r : ℕ) → refused u ≡ either_of (refused a) (refused b)
    → r ≡ refused u → o.refusal ≡ either_of before.refusal r → o.y_a ≡ set before.y_a k (value_or_zero a)
    → o.y_b ≡ set before.y_b k (value_or_zero b) → o ≡ kept_at k a b before
kept k a b u before o r eu er ev ea eb = rw (ev, er, eu, ea, eb) refl

-- both masks opened with records of the lent list, as the code has them
module _ (s : Session) (g : Shape) (eg : g ≡ shape_of s) (q : Party) (eq : q ≡ party_of s) (rows blocks : List ℕ) (k : ℕ) (t : Term) (x y : List ℕ) where
  pub term_maskable : Framed s rows → Factors (shape_of s) t → length x ≡ Lengths.record_length g → length y ≡ Lengths.record_length g
      → Maskable q rows t.row t.second t.first x y
  term_maskable f h lx ly =
      let own : (z : List ℕ) → length z ≡ Lengths.record_length g → Recorded (party_of s) z = λ z l. record { valid = f.sized.valid; length_is = rw eg at l } in
      party_maskable s q eq rows t.row t.second t.first x y f h.row_in h.second_in h.triple_in (own x lx) (own y ly)

  pub both_kept : x ≡ row_at (Lengths.record_length g) blocks (2 * k) → y ≡ row_at (Lengths.record_length g) blocks (2 * k + 1) → (pair : OpenedPair)
      → pair ≡ opened_pair q rows t.row t.second t.first x y → (before o : OpenedTerms) → o ≡ kept_at k pair.a pair.b before
      → o ≡ with_opened s rows blocks k t before
  both_kept ex ey pair ep before o eo = rw (ep, eq, ex, ey, eg) at eo

pub opened_walk : (s : Session) (rows blocks : List ℕ) (k : ℕ) (ts : List Term) (o : OpenedTerms)
    → walked (with_opened s rows blocks) k ts o ≡ opened_terms s rows blocks k ts o
unfolding opened_terms
opened_walk s rows blocks k [] o = refl
opened_walk s rows blocks k (t ∷ ts) o = opened_walk s rows blocks (suc k) ts (with_opened s rows blocks k t o)
