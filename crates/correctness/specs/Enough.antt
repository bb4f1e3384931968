-- What demand 2 asks of a plan, a draw, a run and a record, in figures: where it is so its premises hold, and nothing else is asked. With a bound too
-- low, or one more thing asked, the theorems would say less and stay proved. Proved in proofs/Enough.antt.
use Rattle.std.specs.Prelude.{ℕ, ◌+◌, ◌*◌, ◌-◌, ◌≤◌, ◌<◌, ◌≡◌, true, false, ◌≢◌, ◌⊎◌, List, [], ◌∷◌, ◌++◌, length, get_or, take}
use Rattle.poly.specs.Counting.{Distinct}
use Rattle.shape.specs.declared.Shape.{Shape}
use Rattle.session.specs.declared.Session.{Session}
use Rattle.session.specs.Sessions.{mark}
use Rattle.session.specs.Rows.{row_at}
use Rattle.opening.specs.Walking.{sent, accepts, accepted}
use Rattle.runs.specs.Draws.{Plan, Draw, IsDraw, Sound, IsRaw, none}
use Rattle.runs.specs.Calls.{Call, Among, Proper, opening_line, masks_line}
use Rattle.runs.specs.Orders.{a_call, comes_to}
use Rattle.correctness.specs.History.{World, Event, answer_of, desk, history, begin}
use Rattle.correctness.specs.Ledger.{Ledger}
use Rattle.correctness.specs.Truth.{TruePolynomial, TrueMask, TrueOf, EnoughTrue}
use Rattle.correctness.specs.Claim.{Premises}
use Rattle.correctness.specs.Asked.{PartAsked, LedgerAsked, TruthAsked}

-- "n is the number of posts, 2 to 255" (02, (ii)), "t is 1 to n − 1", one check point a post or two (02, (ix)), "96 rows, 0 to 95", "r at most 93".
pub record Station (plan : Plan) : Type 0 where
  pub posts : (2 ≤ plan.n) × (plan.n ≤ 255)
  pub degree : (1 ≤ plan.t) × (plan.t < plan.n)
  pub points : (plan.points ≡ 1) ⊎ (plan.points ≡ 2)
  pub raws : (r : ℕ) → IsRaw (plan.raw r) → r ≤ 95
  pub triples : (r : ℕ) → plan.triple r ≡ true → r ≤ 93

-- "t+1 coefficients of f, then t+1 for each of v1 to vn"; with two points "v1..vn have 2t+1 coefficients while f keeps t+1"
abbrev pub drawn_many : Plan → ℕ
drawn_many plan = plan.t + 1 + plan.n * (plan.points * plan.t + 1)

-- "all check points and every number drawn": each point is 1 to p − 1, each number below p; nothing is drawn for the other rows.
pub record Drawn (plan : Plan) (draw : Draw) : Type 0 where
  pub points_many : length draw.points ≡ plan.points * plan.n
  pub points : (w : ℕ) → Among w draw.points → (1 ≤ w) × (w < 2147483647)
  pub raws_many : length draw.raws ≡ 96
  pub raw : (r : ℕ) → r < 96 → IsRaw (plan.raw r) → length (get_or draw.raws r []) ≡ drawn_many plan
  pub not_raw : (r : ℕ) → r < 96 → plan.raw r ≡ none → length (get_or draw.raws r []) ≡ 0
  pub raw_numbers : (r x : ℕ) → r < 96 → Among x (get_or draw.raws r []) → x < 2147483647
  pub triples_many : length draw.triples ≡ 96
  pub triple : (r : ℕ) → r < 96 → plan.triple r ≡ true → length (get_or draw.triples r []) ≡ 3 * drawn_many plan - 1
  pub no_triple_is : (r : ℕ) → r < 96 → plan.triple r ≡ false → length (get_or draw.triples r []) ≡ 0
  pub triple_numbers : (r x : ℕ) → r < 96 → Among x (get_or draw.triples r []) → x < 2147483647

-- So of every station and every draw, at each of its sizes; `SetsFollow`, `OnlyCalled` and `FactoryPacks` ask for these two alone.
abbrev pub DrawsAsk : Type 0
DrawsAsk = (plan : Plan) (draw : Draw) → Station plan → Drawn plan draw → Sound plan × IsDraw plan draw

-- P of each order of a run, wherever it stands: of the posts S, not refused, and of the call that it comes to.
abbrev pub InRun : (ℕ → Type 0) → List Event → World → (ℕ → Call → World → Type 0) → Type 0
InRun S es w P =
    (before behind : List Event) (e : Event) → es ≡ before ++ (e ∷ behind) → S e.post → (answer_of e (history before w)).refusal ≡ 0 → (c : Call)
    → comes_to e.order (desk (history before w) e.post) ≡ a_call c → P e.post c (history before w)

-- "sessions of one draw", "the same deals, sums and masks", true polynomials in the finishes: call by call in specs/Asked.antt.
pub record RunAsked (plan : Plan) (draw : Draw) (L : Ledger) (S : ℕ → Type 0) (es : List Event) (w : World) : Type 0 where
  pub parts : InRun S es w (λ i c v. PartAsked plan draw i c)
  pub ledger : InRun S es w (λ i c v. LedgerAsked draw L c)
  pub truth : InRun S es w (λ i c v. TruthAsked S v (v.posts i) c)

abbrev pub PremisesMet : Type 1
PremisesMet =
    (plan : Plan) (draw : Draw) (L : Ledger) (S : ℕ → Type 0) (es : List Event) (rows states : ℕ → List ℕ) → Station plan → Drawn plan draw
    → RunAsked plan draw L S es (begin plan draw rows states) → Premises plan draw L S es rows states

-- "n blocks, each a mark (0 absent, 1 present) and t+1 coefficients", with two points 2t+1; of the own block, and of an absent one's coefficients, nothing.
pub record RecordAsked (s : Session) (blocks : List ℕ) : Type 0 where
  pub long : length blocks ≡ s.n * (s.points * s.t + 1 + 1)
  pub marks : (j : ℕ) → 1 ≤ j → j ≤ s.n → j ≢ s.post → get_or blocks ((j - 1) * (s.points * s.t + 1 + 1)) 0 ≤ 1
  pub numbers : (j : ℕ) → 1 ≤ j → j ≤ s.n → j ≢ s.post → get_or blocks ((j - 1) * (s.points * s.t + 1 + 1)) 0 ≡ 1
      → (i : ℕ) → i ≤ s.points * s.t → get_or blocks ((j - 1) * (s.points * s.t + 1 + 1) + 1 + i) 0 < 2147483647

abbrev pub RecordsAsk : Type 0
RecordsAsk = (s : Session) (blocks : List ℕ) → RecordAsked s blocks → Proper s blocks

-- "truly its sender's": an O line that the sender sent, or what it holds; the half of an M line that it sent. Of all that are accepted: of each but the own one. Of
-- t+1: of so many posts, no two of them equal.
pub record TruthAsks (S : ℕ → Type 0) (w : World) : Type 1 where
  pub told : (r j : ℕ) (xs : List ℕ) → S j → Among (opening_line r j xs) (w.lines j) → TruePolynomial S w r j xs
  pub held : (r j : ℕ) → S j → mark (w.posts j).session r ≡ 2
      → (let s = (w.posts j).session in let m = s.points * s.t + 1 in
      TruePolynomial S w r j (take m (row_at (m + s.points * s.n + s.n) (w.posts j).rows r)))
  pub masks : (s : Shape) (half : List ℕ → List ℕ) (r j : ℕ) (both : List ℕ) → S j → length both ≡ 2 * (s.points * s.t + 1)
      → ((x : ℕ) → Among x both → x < 2147483647) → Among (masks_line r j both) (w.lines j) → TrueMask S w s half r j (half both)
  pub each : (P : ℕ → List ℕ → Type 0) (s : Session) (row blocks : List ℕ)
      → ((j : ℕ) → Among j (accepted s row blocks) → j ≢ s.post → P j (sent s row blocks j)) → TrueOf P s row blocks
  pub some : (P : ℕ → List ℕ → Type 0) (s : Session) (row blocks good : List ℕ) → s.t + 1 ≤ length good → Distinct good
      → ((j : ℕ) → Among j good → (1 ≤ j) × (j ≤ s.n) × (accepts s row blocks j ≡ true)) → ((j : ℕ) → Among j good → j ≢ s.post → P j (sent s row blocks j))
      → EnoughTrue P s row blocks

abbrev pub TruthIs : Type 1
TruthIs = (S : ℕ → Type 0) (w : World) → TruthAsks S w
