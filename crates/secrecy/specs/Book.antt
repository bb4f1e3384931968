-- Document 01, "The plain book is fed the calls with the row numbers and fixed elements they name, the secrets and, of the
-- answers, only which calls are refused."
use Rattle.std.specs.Prelude.{ℕ, ◌+◌, ◌≡◌, true, List, [], ◌∷◌}
use Rattle.field.specs.Arithmetic.{sum, product}
use Rattle.refusal.specs.Refusal.{outcome}
use Rattle.runs.specs.Outline.{Act, loads, loads_triple, deals, opens, Summand, once, times, fee, sums, factors, collects, multiplies, admits, acts, Sending, its_opening, its_masks, sends, Every}
use Rattle.runs.specs.Calls.{at}
use Rattle.runs.specs.Callers.{Sets}
use Rattle.runs.specs.Draws.{Plan}
use Rattle.runs.specs.Orders.{Comes, no_call, a_call, Asked, sets_after}
use Rattle.secrecy.specs.Steps.{Secrets, Fixed, Step, Item}
use Rattle.secrecy.specs.Callers.{called}
use Rattle.secrecy.specs.Waiting.{Waiting, waiting_after, comes_of}
use Rattle.secrecy.specs.Seen.{Entry}
use Rattle.secrecy.specs.Rules.{refusal_of}

-- "It has a place for each of the 96 rows and two for each triple, all blank at first."
pub record Book : Type 0 where
  pub place : ℕ → ℕ
  pub factor_a_of : ℕ → ℕ
  pub factor_b_of : ℕ → ℕ

unfoldable pub blank : Book
blank = record { place = λ r. 0; factor_a_of = λ r. 0; factor_b_of = λ r. 0 }

abbrev pub placed : Book → ℕ → ℕ → Book
placed b r x = record { place = at b.place r x; factor_a_of = b.factor_a_of; factor_b_of = b.factor_b_of }

abbrev pub noted : Book → ℕ → ℕ → ℕ → Book
noted b r x y = record { place = b.place; factor_a_of = at b.factor_a_of r x; factor_b_of = at b.factor_b_of r y }

-- A sum, of one summand or more: "a's number plus s times b's".
abbrev pub worth : (ℕ → ℕ) → Summand → ℕ
worth place (once a) = place a
worth place (times s b) = product s (place b)
worth place (fee k) = k

abbrev pub total : (ℕ → ℕ) → Summand → List Summand → ℕ
total place t [] = worth place t
total place t (t' ∷ ts) = sum (worth place t) (total place t' ts)

-- "Deal puts u in its row's place. Linear puts a's number plus s times b's in the new row's. Masks keep the numbers of a and b
-- with the triple; when its product is written, the third row gets one times the other. Other calls ... change nothing." Document
-- 02, (i): "A charge opened is the plain sum with the fee, and that is the number which must agree between two lists of secrets."
abbrev pub entered_by : Secrets → Act → Book → Book
entered_by u (loads r) b = b
entered_by u (loads_triple r) b = b
entered_by u (deals r) b = placed b r (u r)
entered_by u (opens r) b = b
entered_by u (sums r t ts) b = placed b r (total b.place t ts)
entered_by u (factors x y r) b = noted b r (b.place x) (b.place y)
entered_by u (collects r) b = b
entered_by u (multiplies r) b = placed b (r + 2) (product (b.factor_a_of r) (b.factor_b_of r))
entered_by u (admits line) b = b

abbrev pub entered_all : Secrets → List Act → Book → Book
entered_all u [] b = b
entered_all u (a ∷ todo) b = entered_all u todo (entered_by u a b)

abbrev pub entered : Secrets → Step → Book → Book
entered u c b = entered_all u (acts c) b

-- "and refused ones, change nothing"
abbrev pub booked : Secrets → Step → ℕ → Book → Book
booked u c refusal b = outcome refusal (entered u c b) b

-- An order is entered as the call that it comes to.
abbrev pub booked_by : Secrets → Comes Fixed → ℕ → Book → Book
booked_by u no_call refusal b = b
booked_by u (a_call c) refusal b = booked u c refusal b

-- The book after the orders with these answers.
unfoldable pub book_after : Secrets → List Item → List Entry → Waiting → Book → Book
book_after u [] es w b = b
book_after u (o ∷ os) [] w b = b
book_after u (o ∷ os) (e ∷ es) w b = book_after u os es (waiting_after o (refusal_of e) w) (booked_by u (comes_of w o) (refusal_of e) b)

-- "A number agrees when, at each opening message not refused, its row's place is the same under both lists of secrets."
abbrev pub AgreesBy : ℕ → Book → Book → Sending → Type 0
AgreesBy k b b' (its_opening r) = k ≡ 0 → b.place r ≡ b'.place r
AgreesBy k b b' (its_masks x y r) = Unit {0}

abbrev pub Agrees : Step → ℕ → Book → Book → Type 0
Agrees c k b b' = Every (AgreesBy k b b') (sends c)

-- Document 02, (xi): "A row whose set bars each caller adds nothing to the opened numbers by which lists of secrets must agree." X has the
-- rows' sets.
abbrev pub Agree : Plan → Secrets → Secrets → List Item → List Entry → Waiting → Sets → Book → Book → Type 0
Agree plan u u' [] es w X b b' = Unit {0}
Agree plan u u' (o ∷ os) [] w X b b' = Unit {0}
Agree plan u u' (o ∷ os) (e ∷ es) w X b b' =
    Asked (λ c. called plan X c ≡ true → Agrees c (refusal_of e) b b') (comes_of w o)
    × Agree plan u u' os es (waiting_after o (refusal_of e) w) (sets_after (comes_of w o) (refusal_of e) X)
    (booked_by u (comes_of w o) (refusal_of e) b) (booked_by u' (comes_of w o) (refusal_of e) b')
