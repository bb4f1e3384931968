-- Document 02, (v): "That row is opened, and under demand 2's premises the relation holds modulo p exactly when the number is 0."
use Rattle.std.specs.Prelude.{ℕ, suc, ◌+◌, ◌*◌, ◌%◌, ◌≤◌, ◌<◌, ◌≡◌, true, false, ◌⊎◌, List, [], ◌∷◌, ◌++◌, map, length, take, drop}
use Rattle.field.specs.Modulus.{p}
use Rattle.poly.specs.Counting.{All}
use Rattle.shape.specs.Bounds.{row_count_of}
use Rattle.shape.specs.Marks.{empty as emptyMark, held, masked}
use Rattle.shape.specs.Lengths.{v_length}
use Rattle.session.specs.declared.Session.{Session}
use Rattle.session.specs.declared.Answer.{Answer}
use Rattle.session.specs.Sessions.{mark, factor_a_of, factor_b_of, shape_of}
use Rattle.opening.specs.Walking.{record_length, bad_record, disagree}
use Rattle.opening.specs.Opening.{open_answer}
use Rattle.terms.specs.declared.Term.{Term}
use Rattle.terms.specs.Listed.{most_terms, plain, products_of, collected}
use Rattle.relation.specs.Tests.{by_kind, named_twice_of}
use Rattle.relation.specs.Finish.{record_a_of, record_b_of, term_mask_a, term_mask_b, relation_finish_answer}
use Rattle.runs.specs.Draws.{Plan, Draw, plan_shape}
use Rattle.runs.specs.Outline.{summand}
use Rattle.runs.specs.Calls.{Post, relation_finish_of, Proper}
use Rattle.runs.specs.Orders.{call}
use Rattle.correctness.specs.History.{Event, World, answer_of, history, begin}
use Rattle.correctness.specs.Ledger.{Ledger, summed, product, Plain}
use Rattle.correctness.specs.Truth.{TruePolynomial, TrueMask, TrueOf, EnoughTrue}
use Rattle.correctness.specs.Claim as Claim
use Rattle.correctness.specs.Claim.{Premises, TooFew, row_in, Remembers}

-- The sum over the terms of coefficient × (a or a × b), where `number` gives each row its number.
abbrev pub term_sum : (ℕ → ℕ) → List Term → ℕ
term_sum number [] = 0
term_sum number (t ∷ ts) =
    t.coefficient * by_kind (plain t) (number t.row) (number t.row * number t.second) + term_sum number ts

-- "the relation holds modulo p"
abbrev pub Holds : (ℕ → ℕ) → List Term → Type 0
Holds number ts = term_sum number ts % p ≡ 0

-- By the ledger these are the plain numbers of the rows that the terms name.
abbrev pub Named : Ledger → (ℕ → ℕ) → List Term → Type 0
Named L number ts = All (λ t. Plain L t.row (number t.row) × (plain t ≡ false → Plain L t.second (number t.second))) ts

-- The ledger has the relation in row r: row r is the sum of the terms, and each product term's product is in the third row of its
-- triple.
abbrev pub SumIn : Ledger → ℕ → List Term → Type 0
SumIn L r [] = ⊥
SumIn L r (t ∷ ts) = L r ≡ summed (summand t) (map summand ts)

pub record RelationIn (L : Ledger) (r : ℕ) (ts : List Term) : Type 0 where
  pub sum : SumIn L r ts
  pub products : All (λ t. L (t.first + 2) ≡ product t.first t.row t.second) (products_of ts)

-- Such a row's plain number is the sum over the terms, modulo p.
abbrev pub RelationNumber : Type 0
RelationNumber =
    (L : Ledger) (r : ℕ) (ts : List Term) (number : ℕ → ℕ) → RelationIn L r ts → Named L number ts → Plain L r (term_sum number ts % p)

-- The answer of an opening of that row.
pub record Shows (number : ℕ → ℕ) (ts : List Term) (o : Answer) : Type 0 where
  pub done : o.refusal ≡ 0
  pub value : o.value ≡ term_sum number ts % p
  pub zero_if : Holds number ts → o.value ≡ 0
  pub only_if : o.value ≡ 0 → Holds number ts

-- At every post j of S at which the row is held, with t+1 accepted polynomials or more, each of them true.
abbrev pub ShownAt : (ℕ → Type 0) → World → ℕ → (ℕ → ℕ) → List Term → ℕ → Type 0
ShownAt S w r number ts j =
    let q = w.posts j in
    (blocks : List ℕ) → mark q.session r ≡ held → Proper q.session blocks
    → Claim.Enough q.session (row_in q r) blocks → TrueOf (TruePolynomial S w r) q.session (row_in q r) blocks
    → Shows number ts (open_answer q.session q.rows r blocks)

-- A finish of the relation, not refused at the post i of S, stands somewhere in a run: the row is held at that post from then on.
abbrev pub RelationShown : Type 1
RelationShown =
    (plan : Plan) (draw : Draw) (L : Ledger) (S : ℕ → Type 0) (rows states : ℕ → List ℕ) (before behind : List Event) (i r : ℕ) (ts : List Term)
    (records : List ℕ)
    → (let e : Event = record { post = i; order = call (relation_finish_of ts r records) } in
    let w = begin plan draw rows states in
    Premises plan draw L S (before ++ (e ∷ behind)) rows states → 1 ≤ i → i ≤ plan.n → S i → (answer_of e (history before w)).refusal ≡ 0
    → RelationIn L r ts
    × (mark ((history (before ++ (e ∷ behind)) w).posts i).session r ≡ held)
    × ((number : ℕ → ℕ) → Named L number ts → (j : ℕ) → 1 ≤ j → j ≤ plan.n → S j
    → ShownAt S (history (before ++ (e ∷ behind)) w) r number ts j))

-- ---- The answer of a relation's finish, as `Collects` has that of a single collect.

-- P holds of every product term and its place, which is k for the first; of one of them.
abbrev pub EachAt : (ℕ → Term → Type 0) → ℕ → List Term → Type 0
EachAt P k [] = Unit {0}
EachAt P k (t ∷ ts) = P k t × EachAt P (suc k) ts

abbrev pub OneAt : (ℕ → Term → Type 0) → ℕ → List Term → Type 0
OneAt P k [] = ⊥
OneAt P k (t ∷ ts) = P k t ⊎ OneAt P (suc k) ts

-- A product term's triple waits with the term's rows; 8 lets both its records pass.
abbrev pub Waits : Session → Term → Type 0
Waits s t = (mark s t.first ≡ masked) × (factor_a_of s t.first ≡ t.row) × (factor_b_of s t.first ≡ t.second)

abbrev pub LowRecords : Session → List ℕ → ℕ → Term → Type 0
LowRecords s blocks k t = (bad_record s (record_a_of s blocks k) ≡ false) × (bad_record s (record_b_of s blocks k) ≡ false)

-- A relation with one to 32 terms: their rows are held, and their coefficients elements; each product term's triple waits with the
-- term's rows, and is named once; the sum's row is empty; the records are such that 5 and 8 let them pass.
pub record Ready (q : Post) (ts : List Term) (r : ℕ) (blocks : List ℕ) : Type 0 where
  pub count : (1 ≤ length ts) × (length ts ≤ most_terms)
  pub terms : All (λ t. (mark q.session t.row ≡ held) × (t.coefficient < p)) ts
  pub products : All (Waits q.session) (products_of ts)
  pub once : named_twice_of (products_of ts) ≡ false
  pub empty : (r < row_count_of) × (mark q.session r ≡ emptyMark)
  pub long : length blocks ≡ length (products_of ts) * (2 * record_length q.session)
  pub low : EachAt (LowRecords q.session blocks) 0 (products_of ts)

-- Of both records of the product term at place k: fewer than t+1 are accepted of one; t+1 or more of each; each that is accepted is
-- true, where H half r j xs says that xs is truly that half of j's masks of the triple at r.
abbrev pub Few : Post → List ℕ → ℕ → Term → Type 0
Few q blocks k t =
    let s = q.session in
    TooFew s (term_mask_a s q.rows t) (record_a_of s blocks k) ⊎ TooFew s (term_mask_b s q.rows t) (record_b_of s blocks k)

abbrev pub Enough : Post → List ℕ → ℕ → Term → Type 0
Enough q blocks k t =
    let s = q.session in
    Claim.Enough s (term_mask_a s q.rows t) (record_a_of s blocks k) × Claim.Enough s (term_mask_b s q.rows t) (record_b_of s blocks k)

abbrev pub AllTrue : ((List ℕ → List ℕ) → ℕ → ℕ → List ℕ → Type 0) → Post → List ℕ → ℕ → Term → Type 0
AllTrue H q blocks k t =
    let s = q.session in
    TrueOf (H (take (v_length (shape_of s))) t.first) s (term_mask_a s q.rows t) (record_a_of s blocks k)
    × TrueOf (H (drop (v_length (shape_of s))) t.first) s (term_mask_b s q.rows t) (record_b_of s blocks k)

-- At least t+1 of each are true, whichever they are.
abbrev pub SomeTrue : ((List ℕ → List ℕ) → ℕ → ℕ → List ℕ → Type 0) → Post → List ℕ → ℕ → Term → Type 0
SomeTrue H q blocks k t =
    let s = q.session in
    EnoughTrue (H (take (v_length (shape_of s))) t.first) s (term_mask_a s q.rows t) (record_a_of s blocks k)
    × EnoughTrue (H (drop (v_length (shape_of s))) t.first) s (term_mask_b s q.rows t) (record_b_of s blocks k)

-- An accepted share of either of them lies off the polynomial: "in either record of a finish".
abbrev pub Off : Post → List ℕ → ℕ → Term → Type 0
Off q blocks k t =
    let s = q.session in
    (disagree s (term_mask_a s q.rows t) (record_a_of s blocks k) ≡ true) ⊎ (disagree s (term_mask_b s q.rows t) (record_b_of s blocks k) ≡ true)

-- 9, where any record has too few; done, where each accepted polynomial of all is true; done, and y and y' of every product term
-- remembered in the session that is handed back, or 13, where at least t+1 of each record are true, whichever they are; otherwise done, or
-- 13, and 13 exactly where a share of any record is off.
pub record Related (plan : Plan) (draw : Draw) (L : Ledger) (H : (List ℕ → List ℕ) → ℕ → ℕ → List ℕ → Type 0)
    (q : Post) (ts : List Term) (blocks : List ℕ) (o : Answer) : Type 0 where
  pub few : OneAt (Few q blocks) 0 (products_of ts) → o.refusal ≡ 9
  pub exact : EachAt (Enough q blocks) 0 (products_of ts) → EachAt (AllTrue H q blocks) 0 (products_of ts) → o.refusal ≡ 0
  pub agreed : EachAt (SomeTrue H q blocks) 0 (products_of ts)
      → ((o.refusal ≡ 0) × All (λ t. Remembers plan draw L o.session t.first) (products_of ts)) ⊎ (o.refusal ≡ 13)
  pub otherwise : EachAt (Enough q blocks) 0 (products_of ts) → (o.refusal ≡ 0) ⊎ (o.refusal ≡ 13)
  pub thirteen : EachAt (Enough q blocks) 0 (products_of ts)
      → (OneAt (Off q blocks) 0 (products_of ts) → o.refusal ≡ 13) × (o.refusal ≡ 13 → OneAt (Off q blocks) 0 (products_of ts))

abbrev pub RelationsFinish : Type 1
RelationsFinish =
    (plan : Plan) (draw : Draw) (L : Ledger) (S : ℕ → Type 0) (rows states : ℕ → List ℕ) (es : List Event)
    → Premises plan draw L S es rows states → (i : ℕ) → 1 ≤ i → i ≤ plan.n → S i → (ts : List Term) (r : ℕ) (blocks : List ℕ)
    → (let w = history es (begin plan draw rows states) in let q = w.posts i in
    Ready q ts r blocks
    → Related plan draw L (TrueMask S w (plan_shape plan)) q ts blocks (relation_finish_answer q.session q.rows (collected ts) r blocks))
