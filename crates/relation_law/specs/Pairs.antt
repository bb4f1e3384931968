-- Document 02, (viii): "Callers of finish, among them ... the relations, use the pair." The two calls `collect` and `multiply`, made on
-- the triple of one product term after the other, by the definitions that the calls' own contracts cite.
use Rattle.std.specs.Prelude.{ℕ, suc, ◌+◌, ◌*◌, ◌≡◌, List, [], ◌∷◌}
use Rattle.session.specs.declared.Session.{Session}
use Rattle.session.specs.declared.Answer.{Answer}
use Rattle.collect.specs.Collect.{collect_answer}
use Rattle.multiply.specs.Multiply.{multiply_answer, multiply_rows_of}
use Rattle.terms.specs.declared.Term.{Term}
use Rattle.relation.specs.Finish.{record_at}

module _ (blocks : List ℕ) where
  -- The first call, on the triple of the product term at place k: "Masks and records follow one another by product term, those of a − l
  -- first."
  abbrev pub first_call : ℕ → Term → Session → List ℕ → Answer
  first_call k t s rows = collect_answer s rows t.first (record_at s blocks (2 * k)) (record_at s blocks (2 * k + 1))

  -- The second call gets the session that the first handed back, and the same rows.
  abbrev pub second_call : ℕ → Term → Session → List ℕ → Answer
  second_call k t s rows = multiply_answer (first_call k t s rows).session rows t.first

  abbrev pub second_rows : ℕ → Term → Session → List ℕ → List ℕ
  second_rows k t s rows = multiply_rows_of (first_call k t s rows).session rows t.first

  -- Both calls are accepted at every product term, from place k on; the next pair gets the session and rows that this one left.
  unfoldable pub PairsAccepted : ℕ → List Term → Session → List ℕ → Type 0
  PairsAccepted k [] s rows = Unit {0}
  PairsAccepted k (t ∷ ts) s rows =
      ((first_call k t s rows).refusal ≡ 0)
      × ((second_call k t s rows).refusal ≡ 0)
      × PairsAccepted (suc k) ts (second_call k t s rows).session (second_rows k t s rows)

  -- The session and the rows behind the last pair.
  unfoldable pub session_after : ℕ → List Term → Session → List ℕ → Session
  session_after k [] s rows = s
  session_after k (t ∷ ts) s rows = session_after (suc k) ts (second_call k t s rows).session (second_rows k t s rows)

  unfoldable pub rows_after_of : ℕ → List Term → Session → List ℕ → List ℕ
  rows_after_of k [] s rows = rows
  rows_after_of k (t ∷ ts) s rows = rows_after_of (suc k) ts (second_call k t s rows).session (second_rows k t s rows)
