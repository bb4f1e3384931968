-- What the mark of each row says of the row's vector, at one post; and what a call that is not refused finds and brings.
use Prim.Native.Nat.{ℕ, ◌+◌, ◌≤◌, ◌<◌}
use mathlib.Core.Path.{◌≡◌}
use mathlib.Core.Bool.{true}
use mathlib.Core.Logic.{◌⊎◌}
use mathlib.Core.List.{List, [], ◌∷◌, map}
use Rattle.field.specs.Modulus.{p}
use Rattle.field.specs.Element.{element}
use Rattle.poly.specs.Counting.{All}
use Rattle.shape.specs.Bounds.{row_count_of, last_triple}
use Rattle.shape.specs.Marks.{empty, raw as rawMark, held as heldMark, unused, further, masked, collected}
use Rattle.vectors.specs.Vector.{Vector, raised}
use Rattle.runs.specs.Draws.{Plan, Draw, IsRaw}
use Rattle.runs.specs.Outline.{Act, loads, loads_triple, deals, opens, Summand, once, times, fee, sums, factors, collects, multiplies, admits, Taking, nothing_taken, a_row_pack, a_triple_pack, a_number, a_record, two_records, takes, Sending, its_opening, its_masks}
use Rattle.runs.specs.Calls.{Among}
use Rattle.runs.proofs.Marks.{Marks, mark_of, remembered_a, remembered_b, raw_vector, vector_a, vector_b, vector_ab, total_vector, written, Masking, none, of, masking, Masked, marks_by}

-- ---- What the marks allow, of a call that is not refused.

-- a summand's row is held, and a fee is an element
abbrev pub HeldIn : Marks → Summand → Type 0
HeldIn M (once a) = (a < row_count_of) × (mark_of M a ≡ heldMark)
HeldIn M (times s b) = (b < row_count_of) × (mark_of M b ≡ heldMark)
HeldIn M (fee k) = k < p

pub record Summing (M : Marks) (r : ℕ) (t : Summand) (ts : List Summand) : Type 0 where
  pub r_low : r < row_count_of
  pub r_empty : mark_of M r ≡ empty
  pub held : HeldIn M t × All (HeldIn M) ts

-- a triple from r on, whose first row has this mark, and the factors a and b
pub record Multiplying (mark : ℕ) (M : Marks) (a b r : ℕ) : Type 0 where
  pub a_low : a < row_count_of
  pub b_low : b < row_count_of
  pub r_low : r ≤ last_triple
  pub a_held : mark_of M a ≡ heldMark
  pub b_held : mark_of M b ≡ heldMark
  pub first : mark_of M r ≡ mark
  pub second : mark_of M (r + 1) ≡ further
  pub third : mark_of M (r + 2) ≡ further

-- a triple from r on, whose first row has this mark, and whose remembered factor rows are held
pub record Tripled (mark : ℕ) (M : Marks) (r : ℕ) : Type 0 where
  pub r_low : r ≤ last_triple
  pub first : mark_of M r ≡ mark
  pub second : mark_of M (r + 1) ≡ further
  pub third : mark_of M (r + 2) ≡ further
  pub a_held : mark_of M (remembered_a M r) ≡ heldMark
  pub b_held : mark_of M (remembered_b M r) ≡ heldMark

abbrev pub Needed : Act → Marks → Type 0
Needed (loads r) M = (r < row_count_of) × (mark_of M r ≡ empty)
Needed (loads_triple r) M = (r ≤ last_triple) × (mark_of M r ≡ empty) × (mark_of M (r + 1) ≡ empty) × (mark_of M (r + 2) ≡ empty)
Needed (deals r) M = (r < row_count_of) × (mark_of M r ≡ rawMark)
Needed (opens r) M = (r < row_count_of) × (mark_of M r ≡ heldMark)
Needed (sums r t ts) M = Summing M r t ts
Needed (factors a b r) M = Unit {0}
Needed (collects r) M = Multiplying masked M (remembered_a M r) (remembered_b M r) r
Needed (multiplies r) M = Tripled collected M r
Needed (admits line) M = Unit {0}

abbrev pub Maskable : Masking → Marks → Type 0
Maskable none M = Unit {0}
Maskable (of a b r) M = Multiplying unused M a b r

abbrev pub AllowedBy : Act → Marks → Type 0
AllowedBy a M = Needed a M × Maskable (masking a) M

abbrev pub AllowedAll : List Act → Marks → Type 0
AllowedAll [] M = Unit {0}
AllowedAll (a ∷ todo) M = AllowedBy a M × AllowedAll todo (marks_by a M)

-- records are opened by the rows as they are before the call
abbrev pub ReadyFor : Marks → Taking → Type 0
ReadyFor M nothing_taken = Unit {0}
ReadyFor M (a_row_pack r) = Unit {0}
ReadyFor M (a_triple_pack r) = Unit {0}
ReadyFor M (a_number r) = Unit {0}
ReadyFor M (a_record r) = Unit {0}
ReadyFor M (two_records r) = Multiplying masked M (remembered_a M r) (remembered_b M r) r

-- what is sent: of a held row; of factors that the call notes
abbrev pub Sendable : List Act → Marks → Sending → Type 0
Sendable todo M (its_opening r) = (r < row_count_of) × (mark_of M r ≡ heldMark)
Sendable todo M (its_masks a b r) = Multiplying unused M a b r × Among (of a b r) (map masking todo)

-- of a call with these acts and lines
pub record Allowed (todo : List Act) (ss : List Sending) (M : Marks) : Type 0 where
  pub moving : AllowedAll todo M
  pub ready : All (λ a. ReadyFor M (takes a)) todo
  pub sending : All (Sendable todo M) ss

-- masks by the triple at q
abbrev pub MasksBy : Masking → ℕ → Type 0
MasksBy none q = ⊥
MasksBy (of a b r) q = q ≡ r

abbrev pub MasksIn : List Act → ℕ → Type 0
MasksIn [] q = ⊥
MasksIn (a ∷ todo) q = MasksBy (masking a) q ⊎ MasksIn todo q

-- ---- What the marks say. `Held r X`: the vector of the held row r may be X. `Waits r a b`: the triple at r may wait with the
-- factors a and b.

module _ (plan : Plan) (draw : Draw) where
  -- the three rows of a triple that is loaded and not finished
  pub record Triple (M : Marks) (vec : ℕ → Vector) (r : ℕ) : Type 0 where
    pub drawn : plan.triple r ≡ true
    pub second : mark_of M (r + 1) ≡ further
    pub third : mark_of M (r + 2) ≡ further
    pub is_a : vec r ≡ vector_a plan draw r
    pub is_b : vec (r + 1) ≡ vector_b plan draw r
    pub is_ab : vec (r + 2) ≡ vector_ab plan draw r

  module _ (Held : ℕ → Vector → Type 0) (Waits : ℕ → ℕ → ℕ → Type 0) where
    -- a triple whose masks were made: its factors are held
    pub record Waiting (M : Marks) (r : ℕ) : Type 0 where
      pub means : Waits r (remembered_a M r) (remembered_b M r)
      pub a_low : remembered_a M r < row_count_of
      pub a_held : mark_of M (remembered_a M r) ≡ heldMark
      pub b_low : remembered_b M r < row_count_of
      pub b_held : mark_of M (remembered_b M r) ≡ heldMark

    pub record Fact (M : Marks) (vec : ℕ → Vector) (r : ℕ) : Type 0 where
      pub raw : mark_of M r ≡ rawMark → IsRaw (plan.raw r) × (vec r ≡ raw_vector plan draw r)
      pub held : mark_of M r ≡ heldMark → Held r (vec r)
      pub triple : (mark_of M r ≡ unused) ⊎ Masked (mark_of M r) → Triple M vec r
      pub waiting : Masked (mark_of M r) → Waiting M r

    abbrev pub Facts : Marks → (ℕ → Vector) → Type 0
    Facts M vec = (r : ℕ) → r < row_count_of → Fact M vec r

    -- what an act must bring, with the number c that it takes
    abbrev pub Meant : Act → ℕ → Marks → (ℕ → Vector) → Type 0
    Meant (loads r) c M vec = IsRaw (plan.raw r)
    Meant (loads_triple r) c M vec = plan.triple r ≡ true
    Meant (deals r) c M vec = Held r (raised (element c) (vec r))
    Meant (opens r) c M vec = Unit {0}
    Meant (sums r t ts) c M vec = Held r (total_vector vec t ts)
    Meant (factors a b r) c M vec = Waits r a b
    Meant (collects r) c M vec = Unit {0}
    Meant (multiplies r) c M vec = Held (r + 2) (written M vec r)
    Meant (admits line) c M vec = Unit {0}
