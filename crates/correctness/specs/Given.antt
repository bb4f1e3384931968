-- Demand 2 in one piece, from the figures of specs/Enough.antt to the answers: no premise stands between them that is not said here. With one more in a theorem
-- itself, or in a part of its conclusion, the theorem would say less and stay proved. Proved in proofs/Given.antt.
use Rattle.std.specs.Prelude.{ℕ, ◌+◌, ◌*◌, ◌%◌, ◌≤◌, ◌<◌, ◌≡◌, true, false, not, ◌||◌, ◌≢◌, ◌⊎◌, List, ◌∷◌, ◌++◌, length, get_or, take, drop}
use Rattle.poly.specs.Counting.{Elements}
use Rattle.refusal.specs.Conditions.{outside}
use Rattle.session.specs.declared.Session.{Session}
use Rattle.session.specs.declared.Answer.{Answer}
use Rattle.session.specs.Sessions.{mark, factor_a_of, factor_b_of, opened_a_of, opened_b_of, barred_from}
use Rattle.message.specs.Message.{message_answer}
use Rattle.opening.specs.Walking.{sent, accepts, accepted, disagree, bad_record}
use Rattle.opening.specs.Opening.{open_answer}
use Rattle.collect.specs.Collect.{mask_a, mask_b, collect_answer}
use Rattle.multiply.specs.Multiply.{multiply_answer}
use Rattle.terms.specs.declared.Term.{Term}
use Rattle.terms.specs.Listed.{plain, products_of, collected}
use Rattle.relation.specs.Tests.{named_twice_of}
use Rattle.relation.specs.Finish.{record_a_of, record_b_of, term_mask_a, term_mask_b, relation_finish_answer}
use Rattle.vectors.specs.Vector.{Vector, number}
use Rattle.vectors.specs.Claims.{held_row}
use Rattle.runs.specs.Draws.{Plan, Draw, plan_shape}
use Rattle.runs.specs.Calls.{Post, Among, opening, relation_finish_of}
use Rattle.runs.specs.Orders.{call}
use Rattle.correctness.specs.History.{World, Event, answer_of, answers, history, begin}
use Rattle.correctness.specs.Ledger.{Ledger, Plain, MaskNumbers}
use Rattle.correctness.specs.Truth.{TruePolynomial, TrueMask, EnoughTrue}
use Rattle.correctness.specs.Claim.{row_in}
use Rattle.correctness.specs.Parts.{points_passed}
use Rattle.correctness.specs.Relation.{term_sum, RelationIn, Ready}
use Rattle.correctness.specs.Callers.{in_set}
use Rattle.correctness.specs.Enough.{Station, Drawn, RunAsked, RecordAsked}

-- Each polynomial that s accepts in a record is its sender's, but for the own one.
abbrev pub AllTheirs : (ℕ → List ℕ → Type 0) → Session → List ℕ → List ℕ → Type 0
AllTheirs P s row blocks = (j : ℕ) → Among j (accepted s row blocks) → j ≢ s.post → P j (sent s row blocks j)

abbrev pub many : Session → List ℕ → List ℕ → ℕ
many s row blocks = length (accepted s row blocks)

-- "an opening that accepts t+1 or more gives exactly the plain number, and one that accepts fewer is refused with 9"; 13 exactly where a share is off; what is truly its
-- sender's is accepted.
pub record OpeningGiven (L : Ledger) (S : ℕ → Type 0) (w : World) (q : Post) (r : ℕ) (blocks : List ℕ) : Type 0 where
  pub few : many q.session (row_in q r) blocks < q.session.t + 1 → (open_answer q.session q.rows r blocks).refusal ≡ 9
  pub number : q.session.t + 1 ≤ many q.session (row_in q r) blocks → AllTheirs (TruePolynomial S w r) q.session (row_in q r) blocks
      → ((open_answer q.session q.rows r blocks).refusal ≡ 0) × Plain L r (open_answer q.session q.rows r blocks).value
  -- (iv): at least t+1 of them true, whichever they are
  pub agreed : EnoughTrue (TruePolynomial S w r) q.session (row_in q r) blocks
      → (((open_answer q.session q.rows r blocks).refusal ≡ 0) × Plain L r (open_answer q.session q.rows r blocks).value)
      ⊎ ((open_answer q.session q.rows r blocks).refusal ≡ 13)
  pub off : q.session.t + 1 ≤ many q.session (row_in q r) blocks → disagree q.session (row_in q r) blocks ≡ true
      → (open_answer q.session q.rows r blocks).refusal ≡ 13
  pub on : q.session.t + 1 ≤ many q.session (row_in q r) blocks → disagree q.session (row_in q r) blocks ≡ false
      → (open_answer q.session q.rows r blocks).refusal ≡ 0
  pub accepted : (j : ℕ) → 1 ≤ j → j ≤ q.session.n → TruePolynomial S w r j (sent q.session (row_in q r) blocks j)
      → accepts q.session (row_in q r) blocks j ≡ true

-- "The first call opens y and y' and remembers them; the triple's first row then has mark 7."
pub record CollectGiven (plan : Plan) (draw : Draw) (L : Ledger) (S : ℕ → Type 0) (w : World) (q : Post) (r : ℕ) (blocks_a blocks_b : List ℕ) : Type 0 where
  pub few : (many q.session (mask_a q.session q.rows r) blocks_a < q.session.t + 1) ⊎ (many q.session (mask_b q.session q.rows r) blocks_b < q.session.t + 1)
      → (collect_answer q.session q.rows r blocks_a blocks_b).refusal ≡ 9
  pub numbers : q.session.t + 1 ≤ many q.session (mask_a q.session q.rows r) blocks_a
      → q.session.t + 1 ≤ many q.session (mask_b q.session q.rows r) blocks_b
      → AllTheirs (TrueMask S w (plan_shape plan) (take (q.session.points * q.session.t + 1)) r) q.session (mask_a q.session q.rows r) blocks_a
      → AllTheirs (TrueMask S w (plan_shape plan) (drop (q.session.points * q.session.t + 1)) r) q.session (mask_b q.session q.rows r) blocks_b
      → (let o = collect_answer q.session q.rows r blocks_a blocks_b in
      (o.refusal ≡ 0) × (mark o.session r ≡ 7) × MaskNumbers plan draw L r (opened_a_of o.session r) (opened_b_of o.session r))
  pub off : q.session.t + 1 ≤ many q.session (mask_a q.session q.rows r) blocks_a
      → q.session.t + 1 ≤ many q.session (mask_b q.session q.rows r) blocks_b
      → (disagree q.session (mask_a q.session q.rows r) blocks_a ≡ true) ⊎ (disagree q.session (mask_b q.session q.rows r) blocks_b ≡ true)
      → (collect_answer q.session q.rows r blocks_a blocks_b).refusal ≡ 13
  pub agreed : EnoughTrue (TrueMask S w (plan_shape plan) (take (q.session.points * q.session.t + 1)) r) q.session (mask_a q.session q.rows r) blocks_a
      → EnoughTrue (TrueMask S w (plan_shape plan) (drop (q.session.points * q.session.t + 1)) r) q.session (mask_b q.session q.rows r) blocks_b
      → (let o = collect_answer q.session q.rows r blocks_a blocks_b in
      (((o.refusal ≡ 0) × (mark o.session r ≡ 7)) × MaskNumbers plan draw L r (opened_a_of o.session r) (opened_b_of o.session r)) ⊎ (o.refusal ≡ 13))
  pub accepted_a : (j : ℕ) → 1 ≤ j → j ≤ q.session.n
      → TrueMask S w (plan_shape plan) (take (q.session.points * q.session.t + 1)) r j (sent q.session (mask_a q.session q.rows r) blocks_a j)
      → accepts q.session (mask_a q.session q.rows r) blocks_a j ≡ true
  pub accepted_b : (j : ℕ) → 1 ≤ j → j ≤ q.session.n
      → TrueMask S w (plan_shape plan) (drop (q.session.points * q.session.t + 1)) r j (sent q.session (mask_b q.session q.rows r) blocks_b j)
      → accepts q.session (mask_b q.session q.rows r) blocks_b j ≡ true

-- "False polynomials pass at no more than t of the p − 1 check points", with two points a post "for at most 4 × t × t of the pairs of points".
pub record CaughtGiven (P : ℕ → List ℕ → Type 0) (s : Session) (row : List ℕ) (X : Vector) : Type 0 where
  pub one : s.points ≡ 1 → (blocks : List ℕ) (j : ℕ) (xs : List ℕ) → RecordAsked s blocks → 1 ≤ j → j ≤ s.n → j ≢ s.post
      → length xs ≡ s.points * s.t + 1 → Elements xs → P j xs → (sent s row blocks j ≡ xs → ⊥) → points_passed s X blocks j ≤ s.t
  pub two : s.points ≡ 2 → (blocks : List ℕ) (j : ℕ) (xs : List ℕ) → RecordAsked s blocks → 1 ≤ j → j ≤ s.n → j ≢ s.post
      → length xs ≡ s.points * s.t + 1 → Elements xs → P j xs → (sent s row blocks j ≡ xs → ⊥) → points_passed s X blocks j ≤ 4 * (s.t * s.t)

-- At each post of S, after every run.
pub record AtPost (plan : Plan) (draw : Draw) (L : Ledger) (S : ℕ → Type 0) (w : World) (q : Post) : Type 1 where
  pub opening : (r : ℕ) (blocks : List ℕ) → mark q.session r ≡ 2 → RecordAsked q.session blocks → OpeningGiven L S w q r blocks
  pub collect : (r : ℕ) (blocks_a blocks_b : List ℕ) → mark q.session r ≡ 5 → RecordAsked q.session blocks_a → RecordAsked q.session blocks_b
      → CollectGiven plan draw L S w q r blocks_a blocks_b
  pub multiply : (r : ℕ) → mark q.session r ≡ 7
      → ((multiply_answer q.session q.rows r).refusal ≡ 0) × (mark (multiply_answer q.session q.rows r).session (r + 2) ≡ 2)
  pub remembered : (r : ℕ) → mark q.session r ≡ 7 → MaskNumbers plan draw L r (opened_a_of q.session r) (opened_b_of q.session r)
  pub caught : (r : ℕ) → mark q.session r ≡ 2
      → (X : Vector) × Plain L r (number X).0 × CaughtGiven (TruePolynomial S w r) q.session (row_in q r) X
  pub caught_masks : (r : ℕ) → mark q.session r ≡ 5
      → (X : Vector) × (Y : Vector) × MaskNumbers plan draw L r (number X).0 (number Y).0
      × CaughtGiven (TrueMask S w (plan_shape plan) (take (plan.points * plan.t + 1)) r) q.session (mask_a q.session q.rows r) X
      × CaughtGiven (TrueMask S w (plan_shape plan) (drop (plan.points * plan.t + 1)) r) q.session (mask_b q.session q.rows r) Y

abbrev pub DemandGiven : Type 1
DemandGiven =
    (plan : Plan) (draw : Draw) (L : Ledger) (S : ℕ → Type 0) (rows states : ℕ → List ℕ) (es : List Event) → Station plan → Drawn plan draw
    → RunAsked plan draw L S es (begin plan draw rows states) → (i : ℕ) → 1 ≤ i → i ≤ plan.n → S i
    → (let w = history es (begin plan draw rows states) in AtPost plan draw L S w (w.posts i))

-- Of a held row one vector for all posts and for all points that they might have: the rows are its parts, and the bound is of it.
abbrev pub VectorGiven : Type 1
VectorGiven =
    (plan : Plan) (draw : Draw) (L : Ledger) (S : ℕ → Type 0) (rows states : ℕ → List ℕ) (es : List Event) → Station plan → Drawn plan draw
    → RunAsked plan draw L S es (begin plan draw rows states) → (i r : ℕ) → 1 ≤ i → i ≤ plan.n → S i
    → mark ((history es (begin plan draw rows states)).posts i).session r ≡ 2
    → (X : Vector) × Plain L r (number X).0
    × ((points : List ℕ) (S' : ℕ → Type 0) (rows' states' : ℕ → List ℕ) (es' : List Event)
    → (let other : Draw = record { points = points; raws = draw.raws; triples = draw.triples } in
    let w = history es' (begin plan other rows' states') in
    Drawn plan other → RunAsked plan other L S' es' (begin plan other rows' states') → (j : ℕ) → 1 ≤ j → j ≤ plan.n → S' j → mark (w.posts j).session r ≡ 2
    → (row_in (w.posts j) r ≡ held_row (w.posts j).session X) × CaughtGiven (TruePolynomial S' w r) (w.posts j).session (row_in (w.posts j) r) X))

-- (xi): 15 meets the posts outside the set and no other, of every row 0 to 95, after every run, with nothing asked of it.
abbrev pub SetsGiven : Type 0
SetsGiven =
    (plan : Plan) (draw : Draw) (rows states : ℕ → List ℕ) (es : List Event) → Station plan → Drawn plan draw
    → (i r c : ℕ) → 1 ≤ i → i ≤ plan.n → r ≤ 95
    → barred_from ((history es (begin plan draw rows states)).posts i).session r c ≡ (outside 1 plan.n c || not (in_set plan draw rows states es i r c))

-- (v): "That row is opened, and under demand 2's premises the relation holds modulo p exactly when the number is 0."
abbrev pub RelationGiven : Type 1
RelationGiven =
    (plan : Plan) (draw : Draw) (L : Ledger) (S : ℕ → Type 0) (rows states : ℕ → List ℕ) (before behind : List Event) (i r : ℕ) (ts : List Term)
    (records : List ℕ)
    → (let e : Event = record { post = i; order = call (relation_finish_of ts r records) } in let start = begin plan draw rows states in
    let w = history (before ++ (e ∷ behind)) start in
    Station plan → Drawn plan draw → RunAsked plan draw L S (before ++ (e ∷ behind)) start → 1 ≤ i → i ≤ plan.n → S i
    → (answer_of e (history before start)).refusal ≡ 0 → RelationIn L r ts × (mark (w.posts i).session r ≡ 2)
    × ((value : ℕ → ℕ)
    → ((t : Term) → Among t ts → Plain L t.row (value t.row) × (plain t ≡ false → Plain L t.second (value t.second)))
    → (j : ℕ) → 1 ≤ j → j ≤ plan.n → S j → (blocks : List ℕ) → mark (w.posts j).session r ≡ 2 → RecordAsked (w.posts j).session blocks
    → (w.posts j).session.t + 1 ≤ many (w.posts j).session (row_in (w.posts j) r) blocks
    → AllTheirs (TruePolynomial S w r) (w.posts j).session (row_in (w.posts j) r) blocks
    → ((open_answer (w.posts j).session (w.posts j).rows r blocks).refusal ≡ 0)
    × ((open_answer (w.posts j).session (w.posts j).rows r blocks).value ≡ term_sum value ts % 2147483647)))

-- "before it": the answer where it stands in a run, with nothing asked of what is behind.
abbrev pub AnswerGiven : Type 1
AnswerGiven =
    (plan : Plan) (draw : Draw) (L : Ledger) (S : ℕ → Type 0) (rows states : ℕ → List ℕ) (before behind : List Event) (i r : ℕ) (blocks : List ℕ)
    (none : Answer)
    → (let start = begin plan draw rows states in let w = history before start in let q = w.posts i in
    let o = get_or (answers (before ++ (record { post = i; order = call (opening r blocks) } ∷ behind)) start) (length before) none in
    Station plan → Drawn plan draw → RunAsked plan draw L S before start → 1 ≤ i → i ≤ plan.n → S i → mark q.session r ≡ 2
    → RecordAsked q.session blocks
    → (many q.session (row_in q r) blocks < q.session.t + 1 → o.refusal ≡ 9)
    × (q.session.t + 1 ≤ many q.session (row_in q r) blocks → AllTheirs (TruePolynomial S w r) q.session (row_in q r) blocks
    → (o.refusal ≡ 0) × Plain L r o.value))

-- (xi): an opening message that is made is one that a post of the row's set called for.
abbrev pub CalledGiven : Type 0
CalledGiven =
    (plan : Plan) (draw : Draw) (rows states : ℕ → List ℕ) (es : List Event) → Station plan → Drawn plan draw
    → (i r c : ℕ) → 1 ≤ i → i ≤ plan.n → (lent : List ℕ)
    → (let q = (history es (begin plan draw rows states)).posts i in (message_answer q.session q.rows r c lent).refusal ≡ 0)
    → (1 ≤ c) × (c ≤ plan.n) × (in_set plan draw rows states es i r c ≡ true)

-- (v): a relation that its finish takes: 1 to 32 terms; their rows held, coefficients below p; each product term's triple with mark 5 and the term's rows, and named once; the
-- sum's row empty; the records as long as the product terms need, and 8 lets them pass.
pub record RelationAsked (q : Post) (ts : List Term) (r : ℕ) (blocks : List ℕ) : Type 0 where
  pub count : (1 ≤ length ts) × (length ts ≤ 32)
  pub terms : (t : Term) → Among t ts → (mark q.session t.row ≡ 2) × (t.coefficient < 2147483647)
  pub waiting : (t : Term) → Among t (products_of ts)
      → (mark q.session t.first ≡ 5) × (factor_a_of q.session t.first ≡ t.row) × (factor_b_of q.session t.first ≡ t.second)
  pub once : named_twice_of (products_of ts) ≡ false
  pub empty : (r ≤ 95) × (mark q.session r ≡ 0)
  pub long : length blocks ≡ length (products_of ts) * (2 * (q.session.n * (q.session.points * q.session.t + 1 + 1)))
  pub low : (k : ℕ) → k < length (products_of ts)
      → (bad_record q.session (record_a_of q.session blocks k) ≡ false) × (bad_record q.session (record_b_of q.session blocks k) ≡ false)

abbrev pub RelationsAsk : Type 0
RelationsAsk = (q : Post) (ts : List Term) (r : ℕ) (blocks : List ℕ) → RelationAsked q ts r blocks → Ready q ts r blocks

-- (v), of its finish: 9 where of one product term, wherever it stands, a record has too few; done where each record has enough, and each polynomial is its sender's.
abbrev pub FinishGiven : Type 1
FinishGiven =
    (plan : Plan) (draw : Draw) (L : Ledger) (S : ℕ → Type 0) (rows states : ℕ → List ℕ) (es : List Event)
    → (let w = history es (begin plan draw rows states) in
    Station plan → Drawn plan draw → RunAsked plan draw L S es (begin plan draw rows states) → (i : ℕ) → 1 ≤ i → i ≤ plan.n → S i
    → (ts : List Term) (r : ℕ) (blocks : List ℕ) → RelationAsked (w.posts i) ts r blocks
    → (let s = (w.posts i).session in let l = (w.posts i).rows in let m = s.points * s.t + 1 in let o = relation_finish_answer s l (collected ts) r blocks in
    ((xs ys : List Term) (t : Term) → products_of ts ≡ xs ++ (t ∷ ys)
    → (many s (term_mask_a s l t) (record_a_of s blocks (length xs)) < s.t + 1) ⊎ (many s (term_mask_b s l t) (record_b_of s blocks (length xs)) < s.t + 1)
    → o.refusal ≡ 9)
    × (((xs ys : List Term) (t : Term) → products_of ts ≡ xs ++ (t ∷ ys)
    → (s.t + 1 ≤ many s (term_mask_a s l t) (record_a_of s blocks (length xs))) × (s.t + 1 ≤ many s (term_mask_b s l t) (record_b_of s blocks (length xs)))
    × AllTheirs (TrueMask S w (plan_shape plan) (take m) t.first) s (term_mask_a s l t) (record_a_of s blocks (length xs))
    × AllTheirs (TrueMask S w (plan_shape plan) (drop m) t.first) s (term_mask_b s l t) (record_b_of s blocks (length xs)))
    → o.refusal ≡ 0)))
