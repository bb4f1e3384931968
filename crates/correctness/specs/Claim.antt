-- Demand 2 over whole runs: "where each polynomial accepted in every post's finishes before it, and in this opening, is truly
-- its sender's, an opening that accepts t+1 or more gives exactly the plain number, and one that accepts fewer is refused with 9".
-- Document 02, (iv): "It refuses with 13 when an accepted share lies off that polynomial, in either record of a finish, after 9." By (viii) the
-- polynomials of a finish are accepted in its first call, collect; the second, multiply, takes none.
use Rattle.std.specs.Prelude.{ℕ, ◌+◌, ◌≤◌, ◌<◌, ◌≡◌, true, ◌≢◌, ◌⊎◌, List, ◌∷◌, ◌++◌, length, get_or, take, drop}
use Rattle.shape.specs.Marks.{held, masked, collected}
use Rattle.shape.specs.Lengths.{needed, v_length}
use Rattle.session.specs.declared.Session.{Session}
use Rattle.session.specs.declared.Answer.{Answer}
use Rattle.session.specs.Sessions.{mark, shape_of, opened_a_of, opened_b_of}
use Rattle.session.specs.Rows.{width, row_at}
use Rattle.opening.specs.Walking.{sent, accepts, accepted, disagree}
use Rattle.opening.specs.Opening.{open_answer}
use Rattle.collect.specs.Collect.{mask_a, mask_b, collect_answer}
use Rattle.multiply.specs.Multiply.{multiply_answer}
use Rattle.runs.specs.Draws.{Plan, Draw, IsDraw, Sound, plan_shape}
use Rattle.runs.specs.Calls.{Post, opening, Proper}
use Rattle.runs.specs.Orders.{call}
use Rattle.correctness.specs.History.{Event, history, answers, begin, Each}
use Rattle.correctness.specs.Ledger.{Ledger, Written, Plain, MaskNumbers}
use Rattle.correctness.specs.Truth.{OwnPart, TruePolynomial, TrueMask, TrueOf, EnoughTrue, TrueFinish}

-- The premises, on the calls that the orders of the posts S come to, and on no other post's: sessions of one draw; the same deals, sums and masks; true polynomials in all
-- their finishes. Any other post may load, deal, send and finish what it likes.
pub record Premises (plan : Plan) (draw : Draw) (L : Ledger) (S : ℕ → Type 0) (es : List Event) (rows states : ℕ → List ℕ) : Type 0 where
  pub sound : Sound plan
  pub is_draw : IsDraw plan draw
  pub parts : Each S (λ i c v. OwnPart plan draw i c) es (begin plan draw rows states)
  pub ledger : Each S (λ i c v. Written draw L c) es (begin plan draw rows states)
  pub finishes : Each S (λ i c v. TrueFinish S v (v.posts i) c) es (begin plan draw rows states)

-- How many polynomials a post accepts for a row, of all n posts.
abbrev pub how_many : Session → List ℕ → List ℕ → ℕ
how_many s row blocks = length (accepted s row blocks)

-- Fewer than t+1; t+1 or more.
abbrev pub TooFew : Session → List ℕ → List ℕ → Type 0
TooFew s row blocks = how_many s row blocks < needed (shape_of s)

abbrev pub Enough : Session → List ℕ → List ℕ → Type 0
Enough s row blocks = needed (shape_of s) ≤ how_many s row blocks

-- A record has too few or enough: by `few` and `otherwise` below, too few exactly where an opening is refused with 9.
abbrev pub FewOrEnough : Type 0
FewOrEnough = (s : Session) (row blocks : List ℕ) → TooFew s row blocks ⊎ Enough s row blocks

-- A post's row r.
abbrev pub row_in : Post → ℕ → List ℕ
row_in q r = row_at (width q.session) q.rows r

-- Where each polynomial accepted is truly its sender's, at least t+1 are.
abbrev pub AllIsEnough : Type 1
AllIsEnough =
    (P : ℕ → List ℕ → Type 0) (s : Session) (row blocks : List ℕ) → Enough s row blocks → TrueOf P s row blocks → EnoughTrue P s row blocks

-- Post q opens the held row r with a record, and o is the answer. P j xs says that xs is truly j's polynomial of that row. Fewer
-- than t+1 accepted: 9. Each accepted polynomial true: the number, and never 13. At least t+1 of them true, whichever they are: the
-- number, or 13 (document 02, (iv)). Otherwise a number, or 13; and 13 exactly where an accepted share is off.
pub record Answered (L : Ledger) (P : ℕ → List ℕ → Type 0) (q : Post) (r : ℕ) (blocks : List ℕ) (o : Answer) : Type 0 where
  pub few : TooFew q.session (row_in q r) blocks → o.refusal ≡ 9
  pub exact : Enough q.session (row_in q r) blocks → TrueOf P q.session (row_in q r) blocks
      → (o.refusal ≡ 0) × Plain L r o.value
  pub agreed : EnoughTrue P q.session (row_in q r) blocks → ((o.refusal ≡ 0) × Plain L r o.value) ⊎ (o.refusal ≡ 13)
  pub otherwise : Enough q.session (row_in q r) blocks → (o.refusal ≡ 0) ⊎ (o.refusal ≡ 13)
  pub thirteen : Enough q.session (row_in q r) blocks
      → (disagree q.session (row_in q r) blocks ≡ true → o.refusal ≡ 13) × (o.refusal ≡ 13 → disagree q.session (row_in q r) blocks ≡ true)

abbrev pub Opens : Ledger → (ℕ → List ℕ → Type 0) → Post → ℕ → List ℕ → Type 0
Opens L P q r blocks = Answered L P q r blocks (open_answer q.session q.rows r blocks)

-- A finish's first call that is done, and the triple's first row marked 7.
abbrev pub Done : Post → ℕ → List ℕ → List ℕ → Type 0
Done q r blocks_a blocks_b =
    ((collect_answer q.session q.rows r blocks_a blocks_b).refusal ≡ 0)
    × (mark (collect_answer q.session q.rows r blocks_a blocks_b).session r ≡ collected)

-- What a session remembers of the triple at r is y and y': "The first call opens y and y' and remembers them".
abbrev pub Remembers : Plan → Draw → Ledger → Session → ℕ → Type 0
Remembers plan draw L s r = MaskNumbers plan draw L r (opened_a_of s r) (opened_b_of s r)

-- As a row has one plain number, a triple has one y and one y'.
abbrev pub OneRemembered : Type 0
OneRemembered =
    (plan : Plan) (draw : Draw) (L : Ledger) (s s' : Session) (r : ℕ) → Remembers plan draw L s r → Remembers plan draw L s' r
    → (opened_a_of s r ≡ opened_a_of s' r) × (opened_b_of s r ≡ opened_b_of s' r)

-- "an accepted share lies off that polynomial, in either record of a finish": of a − l with the first, or of b − l' with the second.
abbrev pub EitherOff : Post → ℕ → List ℕ → List ℕ → Type 0
EitherOff q r blocks_a blocks_b =
    (disagree q.session (mask_a q.session q.rows r) blocks_a ≡ true) ⊎ (disagree q.session (mask_b q.session q.rows r) blocks_b ≡ true)

-- Post q collects the masks of the triple at r, which it made: 9, where either record has too few; done, and y and y' remembered in the
-- session that is handed back, where each accepted polynomial of both is true; so too, or 13, where at least t+1 of each are true, whichever
-- they are; otherwise done, or 13, and 13 exactly where a share of either record is off. PA and PB say whose the polynomials of a − l and of
-- b − l' are.
pub record Collects (plan : Plan) (draw : Draw) (L : Ledger) (PA PB : ℕ → List ℕ → Type 0) (q : Post) (r : ℕ) (blocks_a blocks_b : List ℕ) : Type 0 where
  pub few : TooFew q.session (mask_a q.session q.rows r) blocks_a ⊎ TooFew q.session (mask_b q.session q.rows r) blocks_b
      → (collect_answer q.session q.rows r blocks_a blocks_b).refusal ≡ 9
  pub exact : Enough q.session (mask_a q.session q.rows r) blocks_a → Enough q.session (mask_b q.session q.rows r) blocks_b
      → TrueOf PA q.session (mask_a q.session q.rows r) blocks_a
      → TrueOf PB q.session (mask_b q.session q.rows r) blocks_b
      → Done q r blocks_a blocks_b × Remembers plan draw L (collect_answer q.session q.rows r blocks_a blocks_b).session r
  pub agreed : EnoughTrue PA q.session (mask_a q.session q.rows r) blocks_a
      → EnoughTrue PB q.session (mask_b q.session q.rows r) blocks_b
      → (Done q r blocks_a blocks_b × Remembers plan draw L (collect_answer q.session q.rows r blocks_a blocks_b).session r)
      ⊎ ((collect_answer q.session q.rows r blocks_a blocks_b).refusal ≡ 13)
  pub otherwise : Enough q.session (mask_a q.session q.rows r) blocks_a → Enough q.session (mask_b q.session q.rows r) blocks_b
      → Done q r blocks_a blocks_b ⊎ ((collect_answer q.session q.rows r blocks_a blocks_b).refusal ≡ 13)
  pub thirteen : Enough q.session (mask_a q.session q.rows r) blocks_a → Enough q.session (mask_b q.session q.rows r) blocks_b
      → (EitherOff q r blocks_a blocks_b → (collect_answer q.session q.rows r blocks_a blocks_b).refusal ≡ 13)
      × ((collect_answer q.session q.rows r blocks_a blocks_b).refusal ≡ 13 → EitherOff q r blocks_a blocks_b)

-- Post q multiplies by the triple at r, whose masks it opened: done, and the third row held.
abbrev pub Multiplies : Post → ℕ → Type 0
Multiplies q r =
    ((multiply_answer q.session q.rows r).refusal ≡ 0) × (mark (multiply_answer q.session q.rows r).session (r + 2) ≡ held)

-- What is so at a post: of every opening of a held row and both calls of a finish, with records that 5 and 8 let pass; and a polynomial
-- that is truly its sender's is accepted. P r j xs says that xs is truly j's polynomial of row r, and H half r j xs that xs is
-- truly that half of j's masks of the triple at r.
pub record Right (plan : Plan) (draw : Draw) (L : Ledger) (P : ℕ → ℕ → List ℕ → Type 0) (H : (List ℕ → List ℕ) → ℕ → ℕ → List ℕ → Type 0) (q : Post) : Type 0 where
  pub opens : (r : ℕ) (blocks : List ℕ) → mark q.session r ≡ held → Proper q.session blocks → Opens L (P r) q r blocks
  -- of a held row: the own polynomial always, another's where it is truly its
  pub accepts_true : (r : ℕ) (blocks : List ℕ) (j : ℕ) → mark q.session r ≡ held → Proper q.session blocks
      → 1 ≤ j → j ≤ q.session.n
      → (j ≢ q.session.post → P r j (sent q.session (row_in q r) blocks j))
      → accepts q.session (row_in q r) blocks j ≡ true
  pub collects : (r : ℕ) (blocks_a blocks_b : List ℕ) → mark q.session r ≡ masked → Proper q.session blocks_a
      → Proper q.session blocks_b
      → Collects plan draw L (H (take (v_length (shape_of q.session))) r) (H (drop (v_length (shape_of q.session))) r) q r blocks_a blocks_b
  -- mark 7 says that y and y' are remembered
  pub remembers : (r : ℕ) → mark q.session r ≡ collected → Remembers plan draw L q.session r
  pub multiplies : (r : ℕ) → mark q.session r ≡ collected → Multiplies q r
  -- of a − l, in a collect's first record: the own polynomial always, another's where it is truly the first half of its masks
  pub accepts_a : (r : ℕ) (blocks : List ℕ) (j : ℕ) → mark q.session r ≡ masked → Proper q.session blocks
      → 1 ≤ j → j ≤ q.session.n
      → (j ≢ q.session.post → H (take (v_length (shape_of q.session))) r j (sent q.session (mask_a q.session q.rows r) blocks j))
      → accepts q.session (mask_a q.session q.rows r) blocks j ≡ true
  -- of b − l', in its second record: so with the second half
  pub accepts_b : (r : ℕ) (blocks : List ℕ) (j : ℕ) → mark q.session r ≡ masked → Proper q.session blocks
      → 1 ≤ j → j ≤ q.session.n
      → (j ≢ q.session.post → H (drop (v_length (shape_of q.session))) r j (sent q.session (mask_b q.session q.rows r) blocks j))
      → accepts q.session (mask_b q.session q.rows r) blocks j ≡ true

-- At every post of S, after any run of all posts. S may be all posts, or those alone whose polynomials count: what the others do
-- stands in the run, and nothing is asked of it.
abbrev pub Correct : Type 1
Correct =
    (plan : Plan) (draw : Draw) (L : Ledger) (S : ℕ → Type 0) (rows states : ℕ → List ℕ) (es : List Event)
    → Premises plan draw L S es rows states → (i : ℕ) → 1 ≤ i → i ≤ plan.n → S i
    → Right plan draw L (TruePolynomial S (history es (begin plan draw rows states)))
    (TrueMask S (history es (begin plan draw rows states)) (plan_shape plan)) ((history es (begin plan draw rows states)).posts i)

-- "before it": the answer of an opening that stands in a run, with premises on the calls before it, whatever is done behind it.
-- (The answer at its place in the list of answers; `none` would be that of a place beyond the list.)
abbrev pub OpeningsAnswered : Type 1
OpeningsAnswered =
    (plan : Plan) (draw : Draw) (L : Ledger) (S : ℕ → Type 0) (rows states : ℕ → List ℕ) (before behind : List Event) (i r : ℕ) (blocks : List ℕ)
    (none : Answer) → Premises plan draw L S before rows states → 1 ≤ i → i ≤ plan.n → S i
    → mark ((history before (begin plan draw rows states)).posts i).session r ≡ held
    → Proper ((history before (begin plan draw rows states)).posts i).session blocks
    → Answered L (TruePolynomial S (history before (begin plan draw rows states)) r) ((history before (begin plan draw rows states)).posts i) r blocks
    (get_or (answers (before ++ (record { post = i; order = call (opening r blocks) } ∷ behind)) (begin plan draw rows states)) (length before) none)
