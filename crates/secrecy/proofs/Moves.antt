-- A call of the list as a post makes it: at every post the same acts and lines, the same vectors and opened numbers.
use Prim.Native.Nat.{ℕ}
use mathlib.Core.Path.{◌≡◌, refl, ◌∙◌, ap}
use mathlib.Core.List.{List, [], ◌∷◌, map}
use Rattle.vectors.specs.Vector.{Vector}
use Rattle.runs.specs.Draws.{Plan, Draw}
use Rattle.runs.specs.Outline.{Taking, nothing_taken, a_row_pack, a_triple_pack, a_number, a_record, two_records, takes, Given, Move, moves, acts, sends}
use Rattle.runs.specs.Calls.{Actual}
use Rattle.runs.proofs.Outlines.{given_by, filled_move, moves_filled, sends_filled, acts_filled}
use Rattle.runs.proofs.Marks.{Marks, Opened, marks_by, vectors_by, opened_by, number_in, vectors_all, opened_all}
use Rattle.runs.proofs.Steps.{vectors_after, opened_after_of}
use Rattle.secrecy.specs.Steps.{Secrets, Fixed, Step, dealt_with, dealt_number, filling, call_at}

module _ (plan : Plan) (draw : Draw) (u : Secrets) where
  -- the number in what is given, at every post
  abbrev pub number_at : (t : Taking) → Given Fixed t → ℕ
  number_at nothing_taken x = 0
  number_at (a_row_pack r) x = 0
  number_at (a_triple_pack r) x = 0
  number_at (a_number r) x = dealt_with x (dealt_number plan draw u)
  number_at (a_record r) x = 0
  number_at (two_records r) x = 0

  -- the vectors after a call of the list, and the numbers that masks were opened to
  abbrev pub vectors_then : Step → Marks → (ℕ → Vector) → ℕ → Vector
  vectors_then c M vec = vectors_all plan draw Fixed number_at (moves c) M vec

  abbrev pub opened_then : Step → Marks → (ℕ → Vector) → Opened → Opened
  opened_then c M vec Y = opened_all plan draw Fixed number_at (moves c) M vec Y

  module _ (lines : List (List ℕ)) (i : ℕ) where
    pub acts_at : (c : Step) → acts (call_at plan draw u lines i c) ≡ acts c
    acts_at c = acts_filled (filling plan draw u lines i) c

    pub sends_at : (c : Step) → sends (call_at plan draw u lines i c) ≡ sends c
    sends_at c = sends_filled (filling plan draw u lines i) c

    number_same : (t : Taking) (x : Given Fixed t) → number_in t (given_by (filling plan draw u lines i) t x) ≡ number_at t x
    number_same nothing_taken x = refl
    number_same (a_row_pack r) x = refl
    number_same (a_triple_pack r) x = refl
    number_same (a_number r) x = refl
    number_same (a_record r) x = refl
    number_same (two_records r) x = refl

    moves_same : (ms : List (Move Fixed)) (M : Marks) (vec : ℕ → Vector)
        → (vectors_all plan draw Actual number_in (map (filled_move (filling plan draw u lines i)) ms) M vec ≡ vectors_all plan draw Fixed number_at ms M vec)
        × ((Y : Opened) → opened_all plan draw Actual number_in (map (filled_move (filling plan draw u lines i)) ms) M vec Y ≡ opened_all plan draw Fixed number_at ms M vec Y)
    moves_same [] M vec = (refl, λ Y. refl)
    moves_same (m ∷ ms) M vec =
        let e = number_same (takes m.0) m.1 in
        let rest = moves_same ms (marks_by m.0 M) (vectors_by plan draw m.0 (number_at (takes m.0) m.1) M vec) in
        let ms' = map (filled_move (filling plan draw u lines i)) ms in (
          ap (λ (c : ℕ). vectors_all plan draw Actual number_in ms' (marks_by m.0 M) (vectors_by plan draw m.0 c M vec)) e ∙ rest.0,
          λ Y. ap (λ (c : ℕ). opened_all plan draw Actual number_in ms' (marks_by m.0 M) (vectors_by plan draw m.0 c M vec) (opened_by m.0 M vec Y)) e
              ∙ rest.1 (opened_by m.0 M vec Y),
        )

    pub vectors_at : (c : Step) (M : Marks) (vec : ℕ → Vector)
        → vectors_after plan draw (call_at plan draw u lines i c) M vec ≡ vectors_then c M vec
    vectors_at c M vec =
        ap (λ (ms : List (Move Actual)). vectors_all plan draw Actual number_in ms M vec) (moves_filled (filling plan draw u lines i) c)
        ∙ (moves_same (moves c) M vec).0

    pub opened_at : (c : Step) (M : Marks) (vec : ℕ → Vector) (Y : Opened)
        → opened_after_of plan draw (call_at plan draw u lines i c) M vec Y ≡ opened_then c M vec Y
    opened_at c M vec Y =
        ap (λ (ms : List (Move Actual)). opened_all plan draw Actual number_in ms M vec Y) (moves_filled (filling plan draw u lines i) c)
        ∙ (moves_same (moves c) M vec).1 Y
