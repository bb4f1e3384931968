-- Premises of demand 2 on one call: "sessions of one draw", and polynomials that are "truly" their senders'.
use Rattle.std.specs.Prelude.{ℕ, ◌≤◌, ◌≡◌, true, ◌≢◌, ◌⊎◌, List, length, take, drop}
use Rattle.poly.specs.Counting.{All, Distinct}
use Rattle.shape.specs.declared.Shape.{Shape}
use Rattle.shape.specs.Marks.{held}
use Rattle.shape.specs.Lengths.{needed, v_length}
use Rattle.session.specs.declared.Session.{Session}
use Rattle.session.specs.Sessions.{mark, shape_of}
use Rattle.session.specs.Rows.{width, coefficients, row_at}
use Rattle.opening.specs.Walking.{sent, accepts, accepted}
use Rattle.collect.specs.Collect.{mask_a, mask_b}
use Rattle.runs.specs.Draws.{Plan, Draw, IsRaw, raw_pack, triple_pack}
use Rattle.runs.specs.Outline.{Taking, nothing_taken, a_row_pack, a_triple_pack, a_number, a_record, two_records, takes, Given, moves, Every}
use Rattle.runs.specs.Calls.{Post, Actual, Call, Told, ToldHalf}
use Rattle.correctness.specs.History.{World}

-- "sessions of one draw": what a post loads is its own part of what was drawn for those rows.
abbrev pub OwnWith : Plan → Draw → ℕ → (t : Taking) → Given Actual t → Type 0
OwnWith plan draw i nothing_taken x = Unit {0}
OwnWith plan draw i (a_row_pack r) pack = IsRaw (plan.raw r) × (pack ≡ raw_pack plan draw i r)
OwnWith plan draw i (a_triple_pack r) pack = (plan.triple r ≡ true) × (pack ≡ triple_pack plan draw i r)
OwnWith plan draw i (a_number r) c = Unit {0}
OwnWith plan draw i (a_record r) blocks = Unit {0}
OwnWith plan draw i (two_records r) blocks = Unit {0}

abbrev pub OwnPart : Plan → Draw → ℕ → Call → Type 0
OwnPart plan draw i c = Every (λ m. OwnWith plan draw i (takes m.0) m.1) (moves c)

-- What j holds now of row r.
abbrev pub Owned : World → ℕ → ℕ → List ℕ → Type 0
Owned w r j xs =
    let s = (w.posts j).session in
    (mark s r ≡ held) × (xs ≡ coefficients s (row_at (width s) (w.posts j).rows r))

-- xs is "truly its sender's" polynomial of row r: the sender j is one of the posts S, and its own call made xs earlier in the
-- order, or it holds xs though it never sent it.
abbrev pub TruePolynomial : (ℕ → Type 0) → World → ℕ → ℕ → List ℕ → Type 0
TruePolynomial S w r j xs = S j × (Told (w.lines j) r j xs ⊎ Owned w r j xs)

-- xs is truly its sender's polynomial of a − l, or of b − l', for the triple at r: always what the sender's own call made.
abbrev pub TrueMask : (ℕ → Type 0) → World → Shape → (List ℕ → List ℕ) → ℕ → ℕ → List ℕ → Type 0
TrueMask S w g half r j xs = S j × ToldHalf g half r (w.lines j) j xs

-- Of each post that is accepted, but the own one, the polynomial that counted is its: P j xs says that xs is j's.
abbrev pub TrueOf : (ℕ → List ℕ → Type 0) → Session → List ℕ → List ℕ → Type 0
TrueOf P s row blocks = All (λ j. j ≢ s.post → P j (sent s row blocks j)) (accepted s row blocks)

-- So of at least t+1 of the posts that are accepted, whichever they are (document 02, (iv)).
pub record EnoughTrue (P : ℕ → List ℕ → Type 0) (s : Session) (row blocks : List ℕ) : Type 0 where
  pub good : List ℕ
  pub many : needed (shape_of s) ≤ length good
  pub different : Distinct good
  pub theirs : All (λ j. (1 ≤ j) × (j ≤ s.n) × (accepts s row blocks j ≡ true) × (j ≢ s.post → P j (sent s row blocks j))) good

-- In a finish of the post q, of both records, which its first call takes. Of one that is not refused no more is asked than "each polynomial accepted is truly its
-- sender's": at least t+1 of them (`AllIsEnough` in specs/Claim.antt).
abbrev pub TrueWith : (ℕ → Type 0) → World → Post → (t : Taking) → Given Actual t → Type 0
TrueWith S w q nothing_taken x = Unit {0}
TrueWith S w q (a_row_pack r) pack = Unit {0}
TrueWith S w q (a_triple_pack r) pack = Unit {0}
TrueWith S w q (a_number r) c = Unit {0}
TrueWith S w q (a_record r) blocks = Unit {0}
TrueWith S w q (two_records r) blocks =
    let s = q.session in
    EnoughTrue (TrueMask S w (shape_of s) (take (v_length (shape_of s))) r) s (mask_a s q.rows r) blocks.0
    × EnoughTrue (TrueMask S w (shape_of s) (drop (v_length (shape_of s))) r) s (mask_b s q.rows r) blocks.1

abbrev pub TrueFinish : (ℕ → Type 0) → World → Post → Call → Type 0
TrueFinish S w q c = Every (λ m. TrueWith S w q (takes m.0) m.1) (moves c)
