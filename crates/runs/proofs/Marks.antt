-- What a call that is not refused makes of a session's marks and of the rows' vectors: by the call alone, whoever makes it.
use Prim.Native.Nat.{ℕ, ◌+◌, ◌-◌}
use mathlib.Core.Path.{◌≡◌, ap}
use mathlib.Core.Bool.{Bool, cond}
use mathlib.Core.Logic.{◌≢◌, ◌⊎◌}
use mathlib.Core.List.{List, [], ◌∷◌}
use borrow.Author.Tests.{eq-eqb, ne_eqb}
use lib.ListN.{length, get_or, set}
use Rattle.field.specs.Modulus.{p}
use Rattle.field.specs.Arithmetic.{product}
use Rattle.field.specs.Element.{element}
use Rattle.field.proofs.Elements.{𝓡}
use Rattle.shape.specs.Bounds.{row_count_of}
use Rattle.shape.specs.Marks.{raw, held, unused, further, masked, spent, collected}
use Rattle.callers.specs.Sets.{shared, shared_all}
use Rattle.access.specs.Access.{access_sets}
use Rattle.session.specs.declared.Session.{Session}
use Rattle.vectors.specs.Vector.{Vector, plus_times, raised, number, vector_of}
use Rattle.runs.specs.Draws.{Plan, plan_shape, Draw, point_of, raw_draw, draw_a, draw_b, draw_ab}
use Rattle.runs.specs.Outline.{Kinds, Act, loads, loads_triple, deals, opens, Summand, once, times, fee, rows_in_of, sums, factors, collects, multiplies, admits, Taking, nothing_taken, a_row_pack, a_triple_pack, a_number, a_record, two_records, takes, Given, Move}
use Rattle.runs.specs.Calls.{Actual, at}
open 𝓡 use {zero as 0ᴱ}

-- a function changed at one place
pub at_same : {A : Type 0} (f : ℕ → A) (r : ℕ) (x : A) → at f r x r ≡ x
unfolding at
at_same f r x = ap (λ (b : Bool). cond b x (f r)) (eq-eqb r r refl)
  where
    refl : r ≡ r
    refl = λ i. r

pub at_other : {A : Type 0} (f : ℕ → A) (r : ℕ) (x : A) (q : ℕ) → q ≢ r → at f r x q ≡ f q
unfolding at
at_other f r x q ne = ap (λ (b : Bool). cond b x (f q)) (ne_eqb q r ne)

-- what sessions of all posts have in common
pub record Marks : Type 0 where
  pub marks : List ℕ
  pub factor_a_is : List ℕ
  pub factor_b_is : List ℕ
  pub sets : List ℕ

abbrev pub mark_of : Marks → ℕ → ℕ
mark_of M r = get_or M.marks r 0

abbrev pub remembered_a : Marks → ℕ → ℕ
remembered_a M r = get_or M.factor_a_is r 0

abbrev pub remembered_b : Marks → ℕ → ℕ
remembered_b M r = get_or M.factor_b_is r 0

pub record Sized (M : Marks) : Type 0 where
  pub marks : length M.marks ≡ row_count_of
  pub factor_a_is : length M.factor_a_is ≡ row_count_of
  pub factor_b_is : length M.factor_b_is ≡ row_count_of

abbrev pub remarked : Marks → ℕ → ℕ → Marks
remarked M r m = record { marks = set M.marks r m; factor_a_is = M.factor_a_is; factor_b_is = M.factor_b_is; sets = M.sets }

-- with other sets of barred posts
abbrev pub with_sets : Marks → List ℕ → Marks
with_sets M sets = record { marks = M.marks; factor_a_is = M.factor_a_is; factor_b_is = M.factor_b_is; sets = sets }

-- a product has those of its factor rows
abbrev pub product_sets : Marks → ℕ → List ℕ
product_sets M r = shared 8 M.sets (r + 2) (remembered_a M r) (remembered_b M r)

abbrev pub finished : Marks → ℕ → Marks
finished M r = with_sets (remarked (remarked (remarked M r spent) (r + 1) spent) (r + 2) held) (product_sets M r)

-- the numbers that a session remembers: they follow the draw
pub record Opened : Type 0 where
  pub y_a_is : List ℕ
  pub y_b_is : List ℕ

-- none, where a session's numbers do not matter
abbrev pub no_numbers : Opened
no_numbers = record { y_a_is = []; y_b_is = [] }

-- the session of post i with these marks and numbers
abbrev pub session_at : Plan → Draw → ℕ → Marks → Opened → Session
session_at plan draw i M Y =
    record {
      n = plan.n;
      t = plan.t;
      post = i;
      points = plan.points;
      first = (point_of plan draw i).first;
      second = (point_of plan draw i).second;
      marks = M.marks;
      factor_a = M.factor_a_is;
      factor_b = M.factor_b_is;
      y_a = Y.y_a_is;
      y_b = Y.y_b_is;
      barred = M.sets;
    }

-- the vectors of what was drawn
abbrev pub raw_vector : Plan → Draw → ℕ → Vector
raw_vector plan draw r = vector_of (plan_shape plan) (raw_draw draw r)

abbrev pub vector_a : Plan → Draw → ℕ → Vector
vector_a plan draw r = vector_of (plan_shape plan) (draw_a plan draw r)

abbrev pub vector_b : Plan → Draw → ℕ → Vector
vector_b plan draw r = vector_of (plan_shape plan) (draw_b plan draw r)

abbrev pub vector_ab : Plan → Draw → ℕ → Vector
vector_ab plan draw r = vector_of (plan_shape plan) (draw_ab plan draw r)

-- a − l
abbrev pub less : Vector → Vector → Vector
less S L = plus_times (element (p - 1)) S L

-- a sum
abbrev pub zero_vector : Vector
zero_vector = record { c = 0ᴱ; f = λ k. 0ᴱ; v = λ j k. 0ᴱ }

abbrev pub worth_vector : (ℕ → Vector) → Summand → Vector
worth_vector vec (once a) = vec a
worth_vector vec (times s b) = plus_times (element s) zero_vector (vec b)
worth_vector vec (fee k) = raised (element k) zero_vector

abbrev pub total_vector : (ℕ → Vector) → Summand → List Summand → Vector
total_vector vec t [] = worth_vector vec t
total_vector vec t (t' ∷ ts) = plus_times (element 1) (worth_vector vec t) (total_vector vec t' ts)

-- the vectors that are opened for the triple at r
abbrev pub mask_vector_a : Marks → (ℕ → Vector) → ℕ → Vector
mask_vector_a M vec r = less (vec (remembered_a M r)) (vec r)

abbrev pub mask_vector_b : Marks → (ℕ → Vector) → ℕ → Vector
mask_vector_b M vec r = less (vec (remembered_b M r)) (vec (r + 1))

-- l'' + y l' + y' l + y y', "y y' is added to m1..mn only"
abbrev pub product_sum : (ℕ → Vector) → ℕ → ℕ → ℕ → Vector
product_sum vec r y y' = total_vector vec (once (r + 2)) (times y (r + 1) ∷ times y' r ∷ fee (product y y') ∷ [])

abbrev pub written : Marks → (ℕ → Vector) → ℕ → Vector
written M vec r = product_sum vec r (number (mask_vector_a M vec r)).0 (number (mask_vector_b M vec r)).0

-- ---- One act: the marks that it writes, the masks that it makes, the vectors.

pub record Mark : Type 0 where
  pub row : ℕ
  pub is : ℕ

abbrev mark : ℕ → ℕ → Mark
mark r m = record { row = r; is = m }

abbrev pub marks_of : Act → List Mark
marks_of (loads r) = mark r raw ∷ []
marks_of (loads_triple r) = mark r unused ∷ mark (r + 1) further ∷ mark (r + 2) further ∷ []
marks_of (deals r) = mark r held ∷ []
marks_of (opens r) = []
marks_of (sums r t ts) = mark r held ∷ []
marks_of (factors a b r) = []
marks_of (collects r) = mark r collected ∷ []
marks_of (multiplies r) = mark r spent ∷ mark (r + 1) spent ∷ mark (r + 2) held ∷ []
marks_of (admits line) = []

-- the masks that an act makes: none, or of the rows a and b by the triple at r, which then has mark 5 and remembers a and b
pub data Masking : Type 0 where
  none : Masking
  of : (a b r : ℕ) → Masking

abbrev pub masking : Act → Masking
masking (loads r) = none
masking (loads_triple r) = none
masking (deals r) = none
masking (opens r) = none
masking (sums r t ts) = none
masking (factors a b r) = of a b r
masking (collects r) = none
masking (multiplies r) = none
masking (admits line) = none

abbrev pub mark_all_of : List Mark → Marks → Marks
mark_all_of [] M = M
mark_all_of (m ∷ ms) M = mark_all_of ms (remarked M m.row m.is)

abbrev pub remembered : Masking → Marks → Marks
remembered none M = M
remembered (of a b r) M = record { marks = set M.marks r masked; factor_a_is = set M.factor_a_is r a; factor_b_is = set M.factor_b_is r b; sets = M.sets }

-- the sets of barred posts
abbrev pub sets_by : Act → Marks → List ℕ
sets_by (loads r) M = M.sets
sets_by (loads_triple r) M = M.sets
sets_by (deals r) M = M.sets
sets_by (opens r) M = M.sets
sets_by (sums r t ts) M = shared_all M.sets r (rows_in_of (t ∷ ts))
sets_by (factors a b r) M = M.sets
sets_by (collects r) M = M.sets
sets_by (multiplies r) M = product_sets M r
sets_by (admits line) M = access_sets line M.sets

abbrev pub marks_by : Act → Marks → Marks
marks_by act M = with_sets (remembered (masking act) (mark_all_of (marks_of act) M)) (sets_by act M)

-- a triple whose masks were made, and opened or not: the mark of its first row
abbrev pub Masked : ℕ → Type 0
Masked m = (m ≡ masked) ⊎ (m ≡ collected)

-- the numbers that it remembers: those of the vectors that are opened
abbrev pub opened_by : Act → Marks → (ℕ → Vector) → Opened → Opened
opened_by (loads r) M vec Y = Y
opened_by (loads_triple r) M vec Y = Y
opened_by (deals r) M vec Y = Y
opened_by (opens r) M vec Y = Y
opened_by (sums r t ts) M vec Y = Y
opened_by (factors a b r) M vec Y = Y
opened_by (collects r) M vec Y =
    record { y_a_is = set Y.y_a_is r (number (mask_vector_a M vec r)).0; y_b_is = set Y.y_b_is r (number (mask_vector_b M vec r)).0 }
opened_by (multiplies r) M vec Y = Y
opened_by (admits line) M vec Y = Y

-- with the number c that it takes
abbrev pub vectors_by : Plan → Draw → Act → ℕ → Marks → (ℕ → Vector) → ℕ → Vector
vectors_by plan draw (loads r) c M vec = at vec r (raw_vector plan draw r)
vectors_by plan draw (loads_triple r) c M vec =
    at (at (at vec r (vector_a plan draw r)) (r + 1) (vector_b plan draw r)) (r + 2) (vector_ab plan draw r)
vectors_by plan draw (deals r) c M vec = at vec r (raised (element c) (vec r))
vectors_by plan draw (opens r) c M vec = vec
vectors_by plan draw (sums r t ts) c M vec = at vec r (total_vector vec t ts)
vectors_by plan draw (factors a b r) c M vec = vec
vectors_by plan draw (collects r) c M vec = vec
vectors_by plan draw (multiplies r) c M vec = at vec (r + 2) (written M vec r)
vectors_by plan draw (admits line) c M vec = vec

-- ---- One act after the other.

abbrev pub marks_all : List Act → Marks → Marks
marks_all [] M = M
marks_all (a ∷ todo) M = marks_all todo (marks_by a M)

-- the number in what is given, 0 where there is none
abbrev pub number_in : (t : Taking) → Given Actual t → ℕ
number_in nothing_taken x = 0
number_in (a_row_pack r) x = 0
number_in (a_triple_pack r) x = 0
number_in (a_number r) x = x
number_in (a_record r) x = 0
number_in (two_records r) x = 0

-- `num` gives the number that a move takes
abbrev pub vectors_all : Plan → Draw → (K : Kinds) → ((t : Taking) → Given K t → ℕ) → List (Move K) → Marks → (ℕ → Vector) → ℕ → Vector
vectors_all plan draw K num [] M vec = vec
vectors_all plan draw K num (m ∷ ms) M vec =
    vectors_all plan draw K num ms (marks_by m.0 M) (vectors_by plan draw m.0 (num (takes m.0) m.1) M vec)

abbrev pub opened_all : Plan → Draw → (K : Kinds) → ((t : Taking) → Given K t → ℕ) → List (Move K) → Marks → (ℕ → Vector) → Opened → Opened
opened_all plan draw K num [] M vec Y = Y
opened_all plan draw K num (m ∷ ms) M vec Y =
    opened_all plan draw K num ms (marks_by m.0 M) (vectors_by plan draw m.0 (num (takes m.0) m.1) M vec) (opened_by m.0 M vec Y)
