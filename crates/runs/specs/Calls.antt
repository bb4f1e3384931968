-- Document 01, "Calls on a session", as steps of a run: each call by the definitions that its contract cites, and what it
-- broadcasts.
use Rattle.std.specs.Prelude.{ℕ, zero, suc, ◌≡◌, ◌⊎◌, false, cond, List, [], ◌∷◌, eqb, length, take, drop}
use Rattle.poly.specs.Counting.{Elements}
use Rattle.session.specs.declared.Session.{Session}
use Rattle.session.specs.declared.Answer.{Answer}
use Rattle.shape.specs.declared.Shape.{Shape}
use Rattle.shape.specs.Lengths.{masks_length}
use Rattle.session.specs.Sessions.{created, shape_of}
use Rattle.load.specs.Load.{load_row_answer, load_row_rows_of, load_triple_answer, load_triple_rows_of}
use Rattle.deal.specs.Deal.{deal_answer, deal_rows_of}
use Rattle.message.specs.Message.{message_answer, message_out_of}
use Rattle.linear.specs.Linear.{linear_answer, linear_rows_of}
use Rattle.opening.specs.Walking.{record_length, bad_record}
use Rattle.opening.specs.Opening.{open_answer}
use Rattle.product_masks.specs.Masks.{masks_answer, masks_out_of}
use Rattle.collect.specs.Collect.{collect_answer}
use Rattle.multiply.specs.Multiply.{multiply_answer, multiply_rows_of}
use Rattle.terms.specs.declared.Term.{Term}
use Rattle.terms.specs.Listed.{products_of, collected}
use Rattle.relation.specs.Masks.{relation_masks_answer, relation_masks_out}
use Rattle.relation.specs.Finish.{relation_finish_answer, relation_finish_rows}
use Rattle.access.specs.Access.{access_answer}
use Rattle.forms.specs.Lines as Line
use Rattle.forms.specs.Lines.{text}
use Rattle.runs.specs.Draws.{Plan, Draw, point_of}
use Rattle.runs.specs.Outline.{cut, Kinds, CallOf, Sending, its_opening, its_masks, sends}

-- What a post keeps between calls: "each call gets the session and rows that the one before handed back".
pub record Post : Type 0 where
  pub session : Session
  pub rows : List ℕ

-- A call that a post makes.
abbrev pub Actual : Kinds
Actual = record { Pack = List ℕ; Number = ℕ; Record = List ℕ; Lent = List ℕ; Heard = Unit {0}; Line = List ℕ; part = cut }

abbrev pub Call : Type 0
Call = CallOf Actual

-- The calls, written short.
module _ {K : Kinds} where
  abbrev pub load_row_of : (r : ℕ) (pack : K.Pack) → CallOf K
  load_row_of r pack = CallOf.load_row_of (record { r = r; pack = pack })

  abbrev pub load_triple_of : (r : ℕ) (pack : K.Pack) → CallOf K
  load_triple_of r pack = CallOf.load_triple_of (record { r = r; pack = pack })

  abbrev pub deal : (r : ℕ) (c : K.Number) → CallOf K
  deal r c = CallOf.deal (record { r = r; c = c })

  abbrev pub opening : (r : ℕ) (blocks : K.Record) → CallOf K
  opening r blocks = CallOf.opening (record { r = r; blocks = blocks })

  abbrev pub linear : (r a b scale fee : ℕ) → CallOf K
  linear r a b scale fee = CallOf.linear (record { r = r; a = a; b = b; scale = scale; fee = fee })

  abbrev pub masks : (a b r : ℕ) (lent : K.Lent) → CallOf K
  masks a b r lent = CallOf.masks (record { a = a; b = b; r = r; lent = lent })

  abbrev pub collect : (r : ℕ) (blocks_a blocks_b : K.Record) → CallOf K
  collect r blocks_a blocks_b = CallOf.collect (record { r = r; blocks_a = blocks_a; blocks_b = blocks_b })

  abbrev pub multiply : (r : ℕ) → CallOf K
  multiply r = CallOf.multiply (record { r = r })

  abbrev pub relation_masks_of : (terms : List Term) (lent : K.Lent) → CallOf K
  relation_masks_of terms lent = CallOf.relation_masks_of (record { terms = terms; lent = lent })

  abbrev pub relation_finish_of : (terms : List Term) (r : ℕ) (blocks : K.Record) → CallOf K
  relation_finish_of terms r blocks = CallOf.relation_finish_of (record { terms = terms; r = r; blocks = blocks })

  abbrev pub access : (line : List ℕ) → CallOf K
  access line = CallOf.access (record { line = line })

abbrev pub message : (r caller : ℕ) (lent : List ℕ) → Call
message r caller lent = CallOf.message (record { r = r; caller = caller; lent = lent; heard = tt })

-- What a call leaves: its answer, the rows, and what stands in the list it was lent to write into, a part for each line that it
-- sends (none where it was lent no list).
pub record Performed : Type 0 where
  pub answer : Answer
  pub rows : List ℕ
  pub lent : List (List ℕ)

abbrev pub performed : Answer → List ℕ → List (List ℕ) → Performed
performed answer rows lent = record { answer = answer; rows = rows; lent = lent }

-- The first m parts of w numbers of a list.
abbrev pub pieces : (w m : ℕ) → List ℕ → List (List ℕ)
pieces w zero xs = []
pieces w (suc m) xs = take w xs ∷ pieces w m (drop w xs)

-- Each call by the definitions that its contract cites.
unfoldable pub perform : Call → Post → Performed
perform (CallOf.load_row_of x) q =
    performed (load_row_answer q.session q.rows x.r x.pack) (load_row_rows_of q.session q.rows x.r x.pack) []
perform (CallOf.load_triple_of x) q =
    performed (load_triple_answer q.session q.rows x.r x.pack) (load_triple_rows_of q.session q.rows x.r x.pack) []
perform (CallOf.deal x) q =
    performed (deal_answer q.session q.rows x.r x.c) (deal_rows_of q.session q.rows x.r x.c) []
perform (CallOf.message x) q =
    performed (message_answer q.session q.rows x.r x.caller x.lent) q.rows
    (message_out_of q.session q.rows x.r x.caller x.lent ∷ [])
perform (CallOf.opening x) q = performed (open_answer q.session q.rows x.r x.blocks) q.rows []
perform (CallOf.linear x) q =
    performed (linear_answer q.session q.rows x.r x.a x.b x.scale x.fee)
    (linear_rows_of q.session q.rows x.r x.a x.b x.scale x.fee) []
perform (CallOf.masks x) q =
    performed (masks_answer q.session q.rows x.a x.b x.r x.lent) q.rows
    (masks_out_of q.session q.rows x.a x.b x.r x.lent ∷ [])
perform (CallOf.collect x) q = performed (collect_answer q.session q.rows x.r x.blocks_a x.blocks_b) q.rows []
perform (CallOf.multiply x) q = performed (multiply_answer q.session q.rows x.r) (multiply_rows_of q.session q.rows x.r) []
perform (CallOf.relation_masks_of x) q =
    performed (relation_masks_answer q.session q.rows (collected x.terms) x.lent) q.rows
    (pieces (masks_length (shape_of q.session)) (length (products_of x.terms))
    (relation_masks_out q.session q.rows (collected x.terms) x.lent))
perform (CallOf.relation_finish_of x) q =
    performed (relation_finish_answer q.session q.rows (collected x.terms) x.r x.blocks)
    (relation_finish_rows q.session q.rows (collected x.terms) x.r x.blocks) []
perform (CallOf.access x) q = performed (access_answer q.session x.line) q.rows []

-- The post after a call; and a new one, "made with the draw's n and t, its own number and the check point the draw gives it,
-- and with any fixed numbers in the row list".
abbrev pub after : Performed → Post
after o = record { session = o.answer.session; rows = o.rows }

unfoldable pub new_post : Plan → Draw → List ℕ → ℕ → Post
new_post plan draw rows i = record { session = (created plan.n plan.t i plan.points (point_of plan draw i)).session; rows = rows }

abbrev pub opening_line : ℕ → ℕ → List ℕ → List ℕ
opening_line r i xs = text (Line.opening r i xs)

abbrev pub masks_line : ℕ → ℕ → List ℕ → List ℕ
masks_line r i xs = text (Line.masks r i xs)

-- The line that post i sends with the numbers xs.
abbrev pub line_of : ℕ → Sending → List ℕ → List ℕ
line_of i (its_opening r) xs = opening_line r i xs
line_of i (its_masks a b r) xs = masks_line r i xs

-- "to broadcast each message that is made": the bytes of the O or M lines, where the call was not refused.
abbrev pub sent_if : ℕ → List ℕ → List (List ℕ) → List (List ℕ)
sent_if zero line lines = line ∷ lines
sent_if (suc k) line lines = lines

abbrev pub sent_by : ℕ → ℕ → List Sending → List (List ℕ) → List (List ℕ)
sent_by i k [] parts = []
sent_by i k (s ∷ ss) [] = []
sent_by i k (s ∷ ss) (xs ∷ parts) = sent_if k (line_of i s xs) (sent_by i k ss parts)

abbrev pub broadcast : ℕ → Call → Performed → List (List ℕ)
broadcast i c o = sent_by i o.answer.refusal (sends c) o.lent

-- A record that 5 and 8 let pass.
pub record Proper (s : Session) (blocks : List ℕ) : Type 0 where
  pub long : length blocks ≡ record_length s
  pub low : bad_record s blocks ≡ false

-- A member of a list.
abbrev pub Among : {A : Type 0} → A → List A → Type 0
Among x [] = ⊥
Among x (y ∷ ys) = (x ≡ y) ⊎ Among x ys

-- "to put in records only what its sender broadcast for that row": xs is the opening message of row r that post j broadcast.
abbrev pub Told : List (List ℕ) → ℕ → ℕ → List ℕ → Type 0
Told lines r j xs = Among (opening_line r j xs) lines

-- "or for that factor of that triple": xs is a half of the masks of the triple at r that post j broadcast, of a − l the first t+1
-- numbers, of b − l' the others.
abbrev pub ToldHalf : Shape → (List ℕ → List ℕ) → ℕ → List (List ℕ) → ℕ → List ℕ → Type 0
ToldHalf s half r lines j xs =
    (both : List ℕ) × (length both ≡ masks_length s) × Elements both × Among (masks_line r j both) lines × (xs ≡ half both)

-- A function changed at one place.
unfoldable pub at : {A : Type 0} → (ℕ → A) → ℕ → A → ℕ → A
at f r x q = cond (eqb q r) x (f q)
