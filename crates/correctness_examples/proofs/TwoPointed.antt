-- With two check points a post: a lie that passes one value is rejected, by computing; and what is opened is the plain number, by the
-- theorem, whose premises hold.
use Prim.Native.Nat.{ℕ, zero, suc, ◌-◌, ◌≤◌, ◌<◌}
use mathlib.Core.Path.{◌≡◌, refl}
use mathlib.Core.Logic.{inl}
use mathlib.Core.List.{[]}
use native.Mathlib.Omega.{arith}
use lib.Dec.{lit<, lit≤}
use lib.ListN.{length, get_or}
use Rattle.poly.specs.Counting.{Elements}
use Rattle.shape.specs.Bounds.{row_count_of, last_row_at}
use Rattle.factory.proofs.Laws.{passes_elements}
use Rattle.runs.specs.Draws.{IsRaw, Sound, IsDraw, raw_length, triple_length}
use Rattle.correctness.specs.Ledger.{Plain}
use Rattle.correctness.specs.Claim.{Premises}
use Rattle.correctness.proofs.Theorems.{correct}
use Rattle.correctness_examples.specs.Station.{ledger, Everyone, states}
use Rattle.correctness_examples.specs.TwoPoints.{pairs, draw, dealing, zeros, new, sent_both, false_first, refusal_with, value_with, Rejected}
use Rattle.correctness_examples.proofs.Computing.{Computes, none_there, each_quiet}

pub rejected : Rejected
unfolding Computes pairs draw dealing
rejected = record {
  accepted_both = refl;
  accepted_first = refl;
  accepted_second = refl;
  opens_both = (refl, refl);
  opens_first = (refl, refl);
  opens_second = (refl, refl);
  too_few = refl;
}

sound : Sound pairs
unfolding pairs
sound = record { posts = refl; counted = refl; raws = raws; triples = λ r e. let z : ◌≡◌ {A = ℕ} 0 1 = cc in absurd (omega arith) }
  where
    raws : (r : ℕ) → IsRaw (pairs.raw r) → r ≤ last_row_at
    raws zero h = lit≤ tt
    raws (suc r) h = absurd h

is_draw : IsDraw pairs draw
unfolding Computes pairs draw
is_draw = record {
  posts = refl;
  points = ((lit≤ tt, lit< tt), ((lit≤ tt, lit< tt), ((lit≤ tt, lit< tt), ((lit≤ tt, lit< tt), ((lit≤ tt, lit< tt), ((lit≤ tt, lit< tt), tt))))));
  raws = record { count = refl; each = raws };
  triples = record { count = refl; each = triples };
}
  where
    raws : (r : ℕ) → r < row_count_of → (length (get_or draw.raws r []) ≡ raw_length pairs r) × Elements (get_or draw.raws r [])
    raws zero h = (refl, passes_elements (get_or draw.raws 0 []) refl)
    raws (suc r) h = rw (none_there (row_count_of - 1) r) (refl, tt)

    triples : (r : ℕ) → r < row_count_of → (length (get_or draw.triples r []) ≡ triple_length pairs r) × Elements (get_or draw.triples r [])
    triples r h = rw (none_there row_count_of r) (refl, tt)

premises : Premises pairs draw ledger Everyone dealing zeros states
unfolding pairs dealing ledger
premises = record {
  sound = sound;
  is_draw = is_draw;
  parts = (
    (λ m z. (tt, refl)),
    ((λ m z. (tt, refl)), ((λ m z. (tt, refl)), ((λ m z. tt), ((λ m z. tt), ((λ m z. tt), ((λ m z. tt), ((λ m z. tt), tt))))))),
  );
  ledger = (
    (λ m z. tt),
    (
      (λ m z. tt),
      (
        (λ m z. tt),
        ((λ m z. (6, lit< tt, refl, refl)), ((λ m z. (6, lit< tt, refl, refl)), ((λ m z. (6, lit< tt, refl, refl)), ((λ m z. tt), ((λ m z. tt), tt))))),
      ),
    ),
  );
  finishes = each_quiet Everyone Everyone dealing new tt;
}

-- all three are true
sent_by_theorem : (refusal_with sent_both ≡ 0) × Plain ledger 0 (value_with sent_both)
unfolding Computes pairs draw dealing
sent_by_theorem =
    ((correct pairs draw ledger Everyone zeros states dealing premises 1 (lit≤ tt) (lit≤ tt) tt).opens 0 sent_both refl
    (record { long = refl; low = refl })).exact (lit≤ tt)
    ((λ ne. absurd (ne refl)), ((λ ne. (tt, inl (inl refl))), ((λ ne. (tt, inl (inl refl))), tt)))

-- of the accepted ones, post 1's own and post 3's, both are
lie_by_theorem : (refusal_with false_first ≡ 0) × Plain ledger 0 (value_with false_first)
unfolding Computes pairs draw dealing
lie_by_theorem =
    ((correct pairs draw ledger Everyone zeros states dealing premises 1 (lit≤ tt) (lit≤ tt) tt).opens 0 false_first refl
    (record { long = refl; low = refl })).exact (lit≤ tt)
    ((λ ne. absurd (ne refl)), ((λ ne. (tt, inl (inl refl))), tt))
