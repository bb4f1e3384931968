-- "Masks and records follow one another by product term, those of a − l first": where the numbers of the k-th product term's two records stand in the
-- lent list, k from 0 on, and how long each is. Proved in proofs/Placed.antt.
use Rattle.std.specs.Prelude.{ℕ, ◌+◌, ◌*◌, ◌≤◌, ◌<◌, ◌≡◌, List, length, get_or}
use Rattle.session.specs.declared.Session.{Session}
use Rattle.relation.specs.Finish.{record_a_of, record_b_of}

-- "n blocks, each a mark .. and t+1 coefficients", with two points 2t+1
abbrev pub long_record : Session → ℕ
long_record s = s.n * (s.points * s.t + 1 + 1)

pub record RecordsPlaced (s : Session) (blocks : List ℕ) (k : ℕ) : Type 0 where
  pub of_a : (i : ℕ) → i < long_record s → get_or (record_a_of s blocks k) i 0 ≡ get_or blocks (2 * k * long_record s + i) 0
  pub of_b : (i : ℕ) → i < long_record s → get_or (record_b_of s blocks k) i 0 ≡ get_or blocks ((2 * k + 1) * long_record s + i) 0
  pub long_a : 2 * k * long_record s + long_record s ≤ length blocks → length (record_a_of s blocks k) ≡ long_record s
  pub long_b : (2 * k + 1) * long_record s + long_record s ≤ length blocks → length (record_b_of s blocks k) ≡ long_record s

abbrev pub RecordPlaces : Type 0
RecordPlaces = (s : Session) (blocks : List ℕ) (k : ℕ) → RecordsPlaced s blocks k
