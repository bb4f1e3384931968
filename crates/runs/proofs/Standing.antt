-- A post that holds its part of every row's vector: what it may be given, what a call makes of it, and what it sends.
use Prim.Native.Nat.{ℕ, ◌+◌}
use mathlib.Core.Path.{◌≡◌}
use mathlib.Core.Bool.{true}
use mathlib.Core.List.{List, [], ◌∷◌, ◌++◌}
use lib.ListN.{take}
use lib.Seq.{take_at}
use Rattle.field.specs.Element.{Element}
use Rattle.poly.specs.Counting.{All}
use Rattle.shape.specs.declared.Shape.{Shape}
use Rattle.shape.specs.declared.Points.{Points}
use Rattle.shape.specs.Lengths.{v_length}
use Rattle.vectors.specs.Vector.{Vector, numbers, row_of}
use Rattle.vectors.proofs.Linear.{length_numbers}
use Rattle.runs.specs.Draws as Draws
use Rattle.runs.specs.Draws.{Plan, Draw, IsRaw, plan_shape}
use Rattle.runs.specs.Outline.{takes, Taking, nothing_taken, a_row_pack, a_triple_pack, a_number, a_record, two_records, Given, moves, acts, Sending, its_opening, its_masks}
use Rattle.runs.specs.Calls.{Post, Actual, Call}
use Rattle.runs.proofs.Marks.{Marks, Opened, no_numbers, session_at, less, mask_vector_a, mask_vector_b, marks_all, number_in, vectors_all, opened_all}
use Rattle.runs.proofs.Holds.{Holds}
use Rattle.runs.proofs.Finishing.{Trusted}
use Rattle.runs.proofs.Recalled.{Recalls}

-- a row's own coefficients
pub own_numbers : (g : Shape) (i : ℕ) (w : Points) (X : Vector) → take (v_length g) (row_of g i w X) ≡ numbers (v_length g) (X.v i)
unfolding row_of
own_numbers g i w X = take_at (numbers (v_length g) (X.v i)) _ (v_length g) (length_numbers (v_length g) (X.v i))

module _ (plan : Plan) (draw : Draw) where
  abbrev pub post_at : ℕ → Marks → Opened → List ℕ → Post
  post_at i M Y l = record { session = session_at plan draw i M Y; rows = l }

  -- post i, with the marks M, holds its part of the vectors, and remembers the numbers of those that it opened
  pub record Stands (len i : ℕ) (M : Marks) (vec : ℕ → Vector) (q : Post) : Type 0 where
    pub opened : Opened
    pub session : q.session ≡ session_at plan draw i M opened
    pub holds : Holds plan draw len i M vec q.rows
    pub recalls : Recalls M vec opened

  pub named : (len i : ℕ) (M : Marks) (vec : ℕ → Vector) (q : Post) (h : Stands len i M vec q) → q ≡ post_at i M h.opened q.rows
  named len i M vec q h = λ j. record { session = h.session j; rows = q.rows }

  -- what is given: the post's own part, and of masks polynomials that are truly their senders'
  abbrev pub FitsWith : ℕ → Marks → (ℕ → Vector) → (t : Taking) → Given Actual t → Type 0
  FitsWith i M vec nothing_taken x = Unit {0}
  FitsWith i M vec (a_row_pack r) x = IsRaw (plan.raw r) × (x ≡ Draws.raw_pack plan draw i r)
  FitsWith i M vec (a_triple_pack r) x = (plan.triple r ≡ true) × (x ≡ Draws.triple_pack plan draw i r)
  FitsWith i M vec (a_number r) x = Unit {0}
  FitsWith i M vec (a_record r) x = Unit {0}
  FitsWith i M vec (two_records r) x =
      Trusted (session_at plan draw i M no_numbers) (mask_vector_a M vec r) x.0
      × Trusted (session_at plan draw i M no_numbers) (mask_vector_b M vec r) x.1

  abbrev pub Fits : ℕ → Marks → (ℕ → Vector) → Call → Type 0
  Fits i M vec c = All (λ m. FitsWith i M vec (takes m.0) m.1) (moves c)

  -- the marks and the vectors after a call
  abbrev pub marks_after : Call → Marks → Marks
  marks_after c M = marks_all (acts c) M

  abbrev pub vectors_after : Call → Marks → (ℕ → Vector) → ℕ → Vector
  vectors_after c M vec = vectors_all plan draw Actual number_in (moves c) M vec

  abbrev pub opened_after_of : Call → Marks → (ℕ → Vector) → Opened → Opened
  opened_after_of c M vec Y = opened_all plan draw Actual number_in (moves c) M vec Y

  -- what a call that is not refused writes into the list it was lent, line by line
  abbrev pub Says : ℕ → (ℕ → Vector) → Sending → List ℕ → Type 0
  Says i vec (its_opening r) xs = xs ≡ numbers (v_length (plan_shape plan)) ((vec r).v i)
  Says i vec (its_masks a b r) xs =
      xs ≡ numbers (v_length (plan_shape plan)) ((less (vec a) (vec r)).v i) ++ numbers (v_length (plan_shape plan)) ((less (vec b) (vec (r + 1))).v i)

  abbrev pub SaysAll : ℕ → (ℕ → Vector) → List Sending → List (List ℕ) → Type 0
  SaysAll i vec [] parts = Unit {0}
  SaysAll i vec (s ∷ ss) [] = ⊥
  SaysAll i vec (s ∷ ss) (xs ∷ parts) = Says i vec s xs × SaysAll i vec ss parts
