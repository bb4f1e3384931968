-- "The same deals, sums and masks": one ledger, in which a row has at most one meaning, and the plain number that it gives a row.
use Rattle.std.specs.Prelude.{ℕ, ◌+◌, ◌<◌, ◌≡◌, List, [], ◌∷◌, get_or}
use Rattle.field.specs.Modulus.{p}
use Rattle.field.specs.Arithmetic as Arithmetic
use Rattle.factory.specs.Calls.{dealer_number_of}
use Rattle.runs.specs.Draws.{Plan, Draw, raw_draw, draw_a, draw_b}
use Rattle.runs.specs.Outline.{Act, loads, loads_triple, deals, opens, Summand, once, times, fee, sums, factors, collects, multiplies, admits, takes, Given, moves, Every}
use Rattle.runs.specs.Calls.{Actual, Call}

-- What a row holds: nothing of its own; u, dealt; a sum, of one summand or more; a times b, by the triple at r.
pub data Meaning : Type 0 where
  nothing : Meaning
  dealt : (u : ℕ) → Meaning
  summed : (t : Summand) (ts : List Summand) → Meaning
  product : (r a b : ℕ) → Meaning

-- a plus s times b, with a fee
abbrev pub sum : (a b s k : ℕ) → Meaning
sum a b s k = summed (once a) (times s b ∷ fee k ∷ [])

abbrev pub Ledger : Type 0
Ledger = ℕ → Meaning

-- A call that is not refused does what the ledger says: a deal of u with c = u − f(0), a sum, masks.
abbrev pub WrittenBy : Draw → Ledger → (a : Act) → Given Actual (takes a) → Type 0
WrittenBy draw L (loads r) pack = Unit {0}
WrittenBy draw L (loads_triple r) pack = Unit {0}
WrittenBy draw L (deals r) c = (u : ℕ) × (u < p) × (L r ≡ dealt u) × (c ≡ (dealer_number_of u (get_or (raw_draw draw r) 0 0)).value)
WrittenBy draw L (opens r) blocks = Unit {0}
WrittenBy draw L (sums r t ts) x = L r ≡ summed t ts
WrittenBy draw L (factors a b r) x = L (r + 2) ≡ product r a b
WrittenBy draw L (collects r) blocks = Unit {0}
WrittenBy draw L (multiplies r) x = Unit {0}
WrittenBy draw L (admits line) x = Unit {0}

abbrev pub Written : Draw → Ledger → Call → Type 0
Written draw L c = Every (λ m. WrittenBy draw L m.0 m.1) (moves c)

-- The plain number of a meaning, by the ledger alone: u of a deal; of a sum its summands' numbers together, which are a row's,
-- s times a row's and the fee; of a product the rows' one times the other.
pub data PlainOf (L : Ledger) : Meaning → ℕ → Type 0 where
  of_deal : {u : ℕ} → PlainOf L (dealt u) u
  of_row : {a x : ℕ} → PlainOf L (L a) x → PlainOf L (summed (once a) []) x
  of_times : {s b y : ℕ} → PlainOf L (L b) y → PlainOf L (summed (times s b) []) (Arithmetic.product s y)
  of_fee : {k : ℕ} → PlainOf L (summed (fee k) []) k
  of_more : {t t' : Summand} {ts : List Summand} {x y : ℕ} → PlainOf L (summed t []) x → PlainOf L (summed t' ts) y
      → PlainOf L (summed t (t' ∷ ts)) (Arithmetic.sum x y)
  of_product : {k a b x y : ℕ} → PlainOf L (L a) x → PlainOf L (L b) y → PlainOf L (product k a b) (Arithmetic.product x y)

-- The plain number of a row.
abbrev pub Plain : Ledger → ℕ → ℕ → Type 0
Plain L r x = PlainOf L (L r) x

-- A row has one plain number at most.
abbrev pub OneNumber : Type 0
OneNumber = (L : Ledger) (r x y : ℕ) → Plain L r x → Plain L r y → x ≡ y

-- "opens y and y'" (document 02, (viii)): what y and y' are, for the triple at r. The ledger has the product of the rows a and b by it. y is
-- a's plain number less l's, and y' is b's less that of l'; the number of l, or of l', is f(0) of its draw.
pub record MaskNumbers (plan : Plan) (draw : Draw) (L : Ledger) (r y y' : ℕ) : Type 0 where
  pub a : ℕ
  pub b : ℕ
  pub factors : L (r + 2) ≡ product r a b
  pub number_a_is : ℕ
  pub number_b_is : ℕ
  pub plain_a : Plain L a number_a_is
  pub plain_b : Plain L b number_b_is
  pub is_y : y ≡ Arithmetic.difference number_a_is (get_or (draw_a plan draw r) 0 0)
  pub is_y' : y' ≡ Arithmetic.difference number_b_is (get_or (draw_b plan draw r) 0 0)
