-- The book, act by act: the number of a sum, and what stays.
use Prim.Native.Nat.{ℕ, ◌+◌}
use mathlib.Core.Path.{◌≡◌, refl, sym, ◌∙◌, ap}
use mathlib.Core.Logic.{◌≢◌, ◌⊎◌, inl, inr}
use mathlib.Core.List.{List, [], ◌∷◌}
use native.Mathlib.Omega.{arith}
use Rattle.field.specs.Element.{Element, element}
use Rattle.field.proofs.Expression.{A, B, 𝟘, 𝟙, ◌:+◌, ◌:*◌, Same}
use Rattle.field.proofs.Solver.{solve}
use Rattle.field.proofs.Elements.{𝓡, element_one, element_sum, element_product}
use Rattle.poly.specs.Counting.{All}
use Rattle.shape.specs.Marks.{held, spent}
use Rattle.vectors.specs.Vector.{Vector, number}
use Rattle.vectors.proofs.Linear.{number_plus_times}
use Rattle.runs.specs.Draws.{Plan, Draw}
use Rattle.runs.specs.Outline.{Act, loads, loads_triple, deals, opens, Summand, once, times, fee, sums, factors, collects, multiplies, admits}
use Rattle.runs.specs.Calls.{at}
use Rattle.runs.proofs.Marks.{Marks, Sized, mark_of, zero_vector, worth_vector, total_vector, raw_vector, Masking, none, of, masking, Masked, marks_by, at_other}
use Rattle.runs.proofs.Facts.{Maskable, AllowedBy, AllowedAll}
use Rattle.runs.proofs.Rows.{sized_by, held_by}
use Rattle.secrecy.specs.Steps.{Secrets}
use Rattle.secrecy.specs.Book.{Book, worth, total, entered_by, entered_all}
open 𝓡 use {add as ◌⊕◌, mul as ◌⊗◌, zero as 0ᴱ}

infixl 65 ◌⊕◌
infixl 70 ◌⊗◌
-- ---- the number of a sum

-- by the book's place, of the row of a summand
abbrev pub Numbered : (ℕ → Vector) → (ℕ → ℕ) → Summand → Type 0
Numbered vec place (once a) = number (vec a) ≡ element (place a)
Numbered vec place (times s b) = number (vec b) ≡ element (place b)
Numbered vec place (fee k) = Unit {0}

module _ (vec : ℕ → Vector) (place : ℕ → ℕ) where
  worth_number : (t : Summand) → Numbered vec place t → number (worth_vector vec t) ≡ element (worth place t)
  unfolding Same
  worth_number (once a) h = h
  worth_number (times s b) h =
      number_plus_times (element s) zero_vector (vec b) ∙ ap (λ (z : Element). 0ᴱ ⊕ 0ᴱ ⊕ element s ⊗ z) h
      ∙ solve 𝓡 (element s ∷ element (place b) ∷ []) (𝟘 :+ 𝟘 :+ A :* B) (A :* B) refl ∙ sym (element_product s (place b))
  worth_number (fee k) h = solve 𝓡 (element k ∷ []) (𝟘 :+ A :+ 𝟘) A refl

  pub total_number : (t : Summand) (ts : List Summand) → Numbered vec place t → All (Numbered vec place) ts
      → number (total_vector vec t ts) ≡ element (total place t ts)
  unfolding Same
  total_number t [] h hs = worth_number t h
  total_number t (t' ∷ ts) h hs =
      number_plus_times (element 1) (worth_vector vec t) (total_vector vec t' ts)
      ∙ (λ j. worth_number t h j ⊕ element_one j ⊗ total_number t' ts hs.0 hs.1 j)
      ∙ solve 𝓡 (element (worth place t) ∷ element (total place t' ts) ∷ []) (A :+ 𝟙 :* B) (A :+ B) refl
      ∙ sym (element_sum (worth place t) (total place t' ts))

-- ---- the book, act by act

-- the masks of the triple at r were made
abbrev pub Past : Marks → ℕ → Type 0
Past M r = Masked (mark_of M r) ⊎ (mark_of M r ≡ spent)

-- the numbers noted with each triple, after masks
abbrev pub noted_a : Masking → Book → ℕ → ℕ
noted_a none b = b.factor_a_of
noted_a (of x y r) b = at b.factor_a_of r (b.place x)

abbrev pub noted_b : Masking → Book → ℕ → ℕ
noted_b none b = b.factor_b_of
noted_b (of x y r) b = at b.factor_b_of r (b.place y)

module _ (u : Secrets) where
  pub noted_is : (a : Act) (b : Book) → ((entered_by u a b).factor_a_of ≡ noted_a (masking a) b) × ((entered_by u a b).factor_b_of ≡ noted_b (masking a) b)
  noted_is (loads r) b = (refl, refl)
  noted_is (loads_triple r) b = (refl, refl)
  noted_is (deals r) b = (refl, refl)
  noted_is (opens r) b = (refl, refl)
  noted_is (sums r t ts) b = (refl, refl)
  noted_is (factors x y r) b = (refl, refl)
  noted_is (collects r) b = (refl, refl)
  noted_is (multiplies r) b = (refl, refl)
  noted_is (admits line) b = (refl, refl)

  -- a held row's place stays; so do the numbers noted for a triple whose masks were made
  pub place_by : (M : Marks) (b : Book) (a : Act) → AllowedBy a M → (x : ℕ) → mark_of M x ≡ held → (entered_by u a b).place x ≡ b.place x
  place_by M b (loads r) al x two = refl
  place_by M b (loads_triple r) al x two = refl
  place_by M b (deals r) al x two = at_other b.place r (u r) x (λ e. omega (arith, ap (mark_of M) e, al.0.1))
  place_by M b (opens r) al x two = refl
  place_by M b (sums r t ts) al x two = at_other b.place r _ x (λ e. omega (arith, ap (mark_of M) e, al.0.r_empty))
  place_by M b (factors y z r) al x two = refl
  place_by M b (collects r) al x two = refl
  place_by M b (multiplies r) al x two = at_other b.place (r + 2) _ x (λ e. omega (arith, ap (mark_of M) e, al.0.third))
  place_by M b (admits line) al x two = refl

  notes_stay : (M : Marks) (b : Book) (m : Masking) → Maskable m M → (x : ℕ) → Past M x
      → (noted_a m b x ≡ b.factor_a_of x) × (noted_b m b x ≡ b.factor_b_of x)
  notes_stay M b none al x past = (refl, refl)
  notes_stay M b (of y z r) al x past =
      let ne : x ≢ r = elim past [
        | inl (inl e) ↦ (λ g. omega (arith, ap (mark_of M) g, al.first))
        | inl (inr e) ↦ (λ g. omega (arith, ap (mark_of M) g, al.first))
        | inr e ↦ (λ g. omega (arith, ap (mark_of M) g, al.first))
      ] in
      (at_other b.factor_a_of r (b.place y) x ne, at_other b.factor_b_of r (b.place z) x ne)

  pub notes_by : (M : Marks) (b : Book) (a : Act) → AllowedBy a M → (x : ℕ) → Past M x
      → ((entered_by u a b).factor_a_of x ≡ b.factor_a_of x) × ((entered_by u a b).factor_b_of x ≡ b.factor_b_of x)
  notes_by M b a al x past =
      let n = noted_is a b in
      let k = notes_stay M b (masking a) al.1 x past in
      (ap (λ (f : ℕ → ℕ). f x) n.0 ∙ k.0, ap (λ (f : ℕ → ℕ). f x) n.1 ∙ k.1)

pub place_all : (plan : Plan) (draw : Draw) (u : Secrets) (todo : List Act) (M : Marks) (b : Book) → Sized M → AllowedAll todo M → (x : ℕ)
    → mark_of M x ≡ held → (entered_all u todo b).place x ≡ b.place x
place_all plan draw u [] M b z al x two = refl
place_all plan draw u (a ∷ todo) M b z al x two =
    place_all plan draw u todo (marks_by a M) (entered_by u a b) (sized_by a M z) al.1 x
    (held_by plan draw a 0 M (raw_vector plan draw) z al.0 x two).0
    ∙ place_by u M b a al.0 x two
