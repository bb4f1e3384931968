-- What a call that is not refused makes of each row: it turns the row's mark, or leaves the row as it is.
use Prim.Native.Nat.{ℕ, suc, ◌+◌, ◌≤◌, ◌<◌}
use mathlib.Core.Path.{◌≡◌, refl, sym, ◌∙◌, ap, subst}
use mathlib.Core.Logic.{◌≢◌, ◌⊎◌, inl, inr}
use mathlib.Core.List.{List, [], ◌∷◌, map}
use native.Mathlib.Decide.{ℕ_discrete, dec_lt}
use native.Mathlib.Omega.{arith}
use lib.ListN.{length-set, get_or-eq_default}
use lib.Seq.{get_or-set_same, get_or-set_other}
use Rattle.shape.specs.Bounds.{row_count_of, last_triple}
use Rattle.shape.specs.Marks.{empty, raw as rawMark, held, unused, further, masked, spent as spentMark, collected as collectedMark}
use Rattle.vectors.specs.Vector.{Vector}
use Rattle.runs.specs.Draws.{Plan, Draw}
use Rattle.runs.specs.Outline.{Kinds, Act, loads, loads_triple, deals, opens, Summand, sums, factors, collects, multiplies, admits, Taking, takes, Given, Move, acts_in}
use Rattle.runs.specs.Calls.{Among, at}
use Rattle.runs.proofs.Marks.{at_other, Marks, mark_of, remembered_a, remembered_b, Sized, remarked, with_sets, raw_vector, Mark, Masking, none, of, masking, marks_of, mark_all_of, remembered, Masked, marks_by, vectors_by, marks_all, vectors_all}
use Rattle.runs.proofs.Facts.{Maskable, AllowedBy, AllowedAll, MasksBy, MasksIn}

-- ---- The rows that a call writes: which, the mark before, the mark after.

pub data Turn : Act → ℕ → ℕ → ℕ → Type 0 where
  raw : {r : ℕ} → Turn (loads r) r empty rawMark
  first : {r : ℕ} → Turn (loads_triple r) r empty unused
  second : {r : ℕ} → Turn (loads_triple r) (r + 1) empty further
  third : {r : ℕ} → Turn (loads_triple r) (r + 2) empty further
  dealt : {r : ℕ} → Turn (deals r) r rawMark held
  summed : {r : ℕ} {t : Summand} {ts : List Summand} → Turn (sums r t ts) r empty held
  waiting : {a b r : ℕ} → Turn (factors a b r) r unused masked
  collected : {r : ℕ} → Turn (collects r) r masked collectedMark
  spent : {r : ℕ} → Turn (multiplies r) r collectedMark spentMark
  spent' : {r : ℕ} → Turn (multiplies r) (r + 1) further spentMark
  multiplied : {r : ℕ} → Turn (multiplies r) (r + 2) further held

from_two : {A : Type 0} {a : Act} {q m : ℕ} → Turn a q held m → A
from_two t = elim t [ ]

from_six : {A : Type 0} {a : Act} {q m : ℕ} → Turn a q spentMark m → A
from_six t = elim t [ ]

from_five : {a : Act} {q m : ℕ} → Turn a q masked m → m ≡ collectedMark
from_five collected = refl

from_seven : {a : Act} {q m : ℕ} → Turn a q collectedMark m → m ≡ spentMark
from_seven spent = refl

to_five_lem : {a : Act} {q m : ℕ} → Turn a q m masked → MasksBy (masking a) q
to_five_lem waiting = refl

to_seven : {a : Act} {q m : ℕ} → Turn a q m collectedMark
    → (m ≡ masked) × ((M : Marks) → (remembered_a (marks_by a M) q ≡ remembered_a M q) × (remembered_b (marks_by a M) q ≡ remembered_b M q))
to_seven collected = (refl, λ M. (refl, refl))

-- ---- Marks that are written.

sized_at : (M : Marks) (r m : ℕ) → Sized M → Sized (remarked M r m)
sized_at M r m z = record { marks = length-set M.marks r m ∙ z.marks; factor_a_is = z.factor_a_is; factor_b_is = z.factor_b_is }

now : (M : Marks) (r m : ℕ) → Sized M → r < row_count_of → mark_of (remarked M r m) r ≡ m
now M r m z low = get_or-set_same M.marks r m 0 (omega (arith, z.marks))

pub past : (M : Marks) (r m q : ℕ) → q ≢ r → mark_of (remarked M r m) q ≡ mark_of M q
past M r m q ne = get_or-set_other M.marks r q m 0 ne

-- row q is left as it is
pub record Same (M M' : Marks) (vec vec' : ℕ → Vector) (q : ℕ) : Type 0 where
  pub mark : mark_of M' q ≡ mark_of M q
  pub factor_a_is : remembered_a M' q ≡ remembered_a M q
  pub factor_b_is : remembered_b M' q ≡ remembered_b M q
  pub vector : vec' q ≡ vec q

pub other : (M : Marks) (r m : ℕ) (vec vec' : ℕ → Vector) (q : ℕ) → q ≢ r → vec' q ≡ vec q → Same M (remarked M r m) vec vec' q
other M r m vec vec' q ne e = record { mark = past M r m q ne; factor_a_is = refl; factor_b_is = refl; vector = e }

off_one : (M : Marks) (r m : ℕ) (vec : ℕ → Vector) (X : Vector) (q : ℕ) → q ≢ r → Same M (remarked M r m) vec (at vec r X) q
off_one M r m vec X q ne = other M r m vec (at vec r X) q ne (at_other vec r X q ne)

-- with other sets
same_sets : {M N : Marks} {vec vec' : ℕ → Vector} {q : ℕ} (sets : List ℕ) → Same M N vec vec' q → Same M (with_sets N sets) vec vec' q
same_sets sets s = record { mark = s.mark; factor_a_is = s.factor_a_is; factor_b_is = s.factor_b_is; vector = s.vector }

pub off_masks : (M : Marks) (r a b : ℕ) (vec : ℕ → Vector) (q : ℕ) → q ≢ r → Same M (marks_by (factors a b r) M) vec vec q
off_masks M r a b vec q ne = record {
  mark = past M r masked q ne;
  factor_a_is = get_or-set_other M.factor_a_is r q a 0 ne;
  factor_b_is = get_or-set_other M.factor_b_is r q b 0 ne;
  vector = refl;
}

twice : {M M' M'' : Marks} {vec vec' vec'' : ℕ → Vector} {q : ℕ} → Same M M' vec vec' q → Same M' M'' vec' vec'' q → Same M M'' vec vec'' q
twice s s' = record {
  mark = s'.mark ∙ s.mark;
  factor_a_is = s'.factor_a_is ∙ s.factor_a_is;
  factor_b_is = s'.factor_b_is ∙ s.factor_b_is;
  vector = s'.vector ∙ s.vector;
}

-- three rows from r on
module _ (M : Marks) (r x y z : ℕ) where
  abbrev one : Marks
  one = remarked M r x

  abbrev two : Marks
  two = remarked one (r + 1) y

  abbrev pub three : Marks
  three = remarked two (r + 2) z

  off_three : (vec vec' : ℕ → Vector) (q : ℕ) → q ≢ r → q ≢ r + 1 → q ≢ r + 2 → vec' q ≡ vec q → Same M three vec vec' q
  off_three vec vec' q n n' n'' e =
      twice (other M r x vec vec q n refl) (twice (other one (r + 1) y vec vec q n' refl) (other two (r + 2) z vec vec' q n'' e))

  pub past_three : (q : ℕ) → q ≢ r → q ≢ r + 1 → q ≢ r + 2 → mark_of (remarked (remarked (remarked M r x) (r + 1) y) (r + 2) z) q ≡ mark_of M q
  past_three q n n' n'' = past two (r + 2) z q n'' ∙ past one (r + 1) y q n' ∙ past M r x q n

  pub on_three : Sized M → r ≤ last_triple → (mark_of three r ≡ x) × (mark_of three (r + 1) ≡ y) × (mark_of three (r + 2) ≡ z)
  on_three s low =
      let s₁ = sized_at M r x s in
      let s₂ = sized_at one (r + 1) y s₁ in (
        past two (r + 2) z r (omega arith) ∙ past one (r + 1) y r (omega arith) ∙ now M r x s (omega arith),
        past two (r + 2) z (r + 1) (omega arith) ∙ now one (r + 1) y s₁ (omega arith),
        now two (r + 2) z s₂ (omega arith),
      )

-- ---- Each row's course: its mark turns, or the row is left as it is.

module _ (plan : Plan) (draw : Draw) where
  pub data Course (a : Act) (c : ℕ) (M : Marks) (vec : ℕ → Vector) (q : ℕ) : Type 0 where
    turned : Turn a q (mark_of M q) (mark_of (marks_by a M) q) → Course a c M vec q
    same : Same M (marks_by a M) vec (vectors_by plan draw a c M vec) q → Course a c M vec q

  -- row r is written, every other row has a course of its own
  module _ {a : Act} {c : ℕ} {M : Marks} {vec : ℕ → Vector} where
    turns : {r m m' : ℕ} → mark_of M r ≡ m → mark_of (marks_by a M) r ≡ m' → Turn a r m m' → Course a c M vec r
    turns e e' t = turned (rw (e, e') t)

    at_row : (r q : ℕ) → Course a c M vec r → (q ≢ r → Course a c M vec q) → Course a c M vec q
    at_row r q here there = elim (ℕ_discrete q r) [ yes e ↦ subst (Course a c M vec) (sym e) here | no ne ↦ there ne ]

  pub course : (a : Act) (c : ℕ) (M : Marks) (vec : ℕ → Vector) → Sized M → AllowedBy a M → (q : ℕ) → Course a c M vec q
  course (loads r) c M vec z ok q = at_row r q (turns ok.0.1 (now M r rawMark z ok.0.0) raw) (λ n. same (off_one M r rawMark vec _ q n))
  course (loads_triple r) c M vec z ok q =
      let k = on_three M r unused further further z ok.0.0 in
      at_row r q (turns ok.0.1 k.0 first) (λ n.
      at_row (r + 1) q (turns ok.0.2 k.1 second) (λ n'.
      at_row (r + 2) q (turns ok.0.3 k.2 third) (λ n''.
      same (off_three M r unused further further vec _ q n n' n'' (at_other _ (r + 2) _ q n'' ∙ at_other _ (r + 1) _ q n' ∙ at_other vec r _ q n)))))
  course (deals r) c M vec z ok q = at_row r q (turns ok.0.1 (now M r held z ok.0.0) dealt) (λ n. same (off_one M r held vec _ q n))
  course (opens r) c M vec z ok q = same (record { mark = refl; factor_a_is = refl; factor_b_is = refl; vector = refl })
  course (sums r t ts) c M vec z ok q =
      at_row r q (turns ok.0.r_empty (now M r held z ok.0.r_low) summed) (λ n. same (same_sets _ (off_one M r held vec _ q n)))
  course (factors x y r) c M vec z ok q =
      at_row r q (turns ok.1.first (now M r masked z (omega arith)) waiting) (λ n. same (off_masks M r x y vec q n))
  course (collects r) c M vec z ok q =
      at_row r q (turns ok.0.first (now M r collectedMark z (omega (arith, ok.0.r_low))) collected) (λ n. same (other M r collectedMark vec vec q n refl))
  course (multiplies r) c M vec z ok q =
      let k = on_three M r spentMark spentMark held z ok.0.r_low in
      at_row r q (turns ok.0.first k.0 spent) (λ n.
      at_row (r + 1) q (turns ok.0.second k.1 spent') (λ n'.
      at_row (r + 2) q (turns ok.0.third k.2 multiplied) (λ n''.
      same (same_sets _ (off_three M r spentMark spentMark held vec _ q n n' n'' (at_other vec (r + 2) _ q n''))))))
  course (admits line) c M vec z ok q = same (record { mark = refl; factor_a_is = refl; factor_b_is = refl; vector = refl })

  -- ---- What stays.

  -- held rows, with their vectors
  pub held_by : (a : Act) (c : ℕ) (M : Marks) (vec : ℕ → Vector) → Sized M → AllowedBy a M → (q : ℕ) → mark_of M q ≡ held
      → (mark_of (marks_by a M) q ≡ held) × (vectors_by plan draw a c M vec q ≡ vec q)
  held_by a c M vec z ok q h = elim (course a c M vec z ok q) [ turned t ↦ from_two (rw h at t) | same s ↦ (s.mark ∙ h, s.vector) ]

  -- a row whose mark is 5, 7 or 6: it stays so
  pub past_by : (a : Act) (M : Marks) → Sized M → AllowedBy a M → (q : ℕ) → Masked (mark_of M q) ⊎ (mark_of M q ≡ spentMark)
      → Masked (mark_of (marks_by a M) q) ⊎ (mark_of (marks_by a M) q ≡ spentMark)
  past_by a M z ok q h = elim (course a 0 M (raw_vector plan draw) z ok q) [
    | turned t ↦ elim h [
      | inl (inl e) ↦ inl (inr (from_five (rw e at t)))
      | inl (inr e) ↦ inr (from_seven (rw e at t))
      | inr e ↦ from_six (rw e at t)
    ]
    | same s ↦ rw s.mark h
  ]

  -- a triple waits after an act: it waited before, with the same factors, or these are its masks
  pub five_by : (a : Act) (M : Marks) → Sized M → AllowedBy a M → (q : ℕ) → q < row_count_of → Masked (mark_of (marks_by a M) q)
      → (Masked (mark_of M q) × (remembered_a (marks_by a M) q ≡ remembered_a M q) × (remembered_b (marks_by a M) q ≡ remembered_b M q)) ⊎ MasksBy (masking a) q
  five_by a M z ok q low h = elim (course a 0 M (raw_vector plan draw) z ok q) [
    | turned t ↦ elim h [
      | inl e ↦ inr (to_five_lem (rw e at t))
      | inr e ↦ (let k = to_seven (rw e at t) in inl (inl k.0, (k.1 M).0, (k.1 M).1))
    ]
    | same s ↦ inl (rw s.mark at h, s.factor_a_is, s.factor_b_is)
  ]

-- ---- There are as many marks as rows.

pub nonzero : (M : Marks) (r : ℕ) {m : ℕ} → mark_of M r ≡ suc m → mark_of M r ≢ empty
nonzero M r e g = omega arith

pub marked_low : (M : Marks) → Sized M → (r : ℕ) {m : ℕ} → mark_of M r ≡ suc m → r < row_count_of
marked_low M z r e = elim (dec_lt r row_count_of) [
  | yes low ↦ low
  | no high ↦ absurd (omega (arith, get_or-eq_default M.marks 0 {n = r} (omega arith)))
]

pub sized_marks : (ms : List Mark) (M : Marks) → Sized M → Sized (mark_all_of ms M)
sized_marks [] M z = z
sized_marks (m ∷ ms) M z = sized_marks ms (remarked M m.row m.is) (sized_at M m.row m.is z)

sized_notes : (m : Masking) (M : Marks) → Sized M → Sized (remembered m M)
sized_notes none M z = z
sized_notes (of a b r) M z =
    record { marks = length-set M.marks r masked ∙ z.marks; factor_a_is = length-set M.factor_a_is r a ∙ z.factor_a_is; factor_b_is = length-set M.factor_b_is r b ∙ z.factor_b_is }

pub sized_by : (a : Act) (M : Marks) → Sized M → Sized (marks_by a M)
sized_by a M z =
    let k = sized_notes (masking a) (mark_all_of (marks_of a) M) (sized_marks (marks_of a) M z) in
    record { marks = k.marks; factor_a_is = k.factor_a_is; factor_b_is = k.factor_b_is }

-- ---- One act after the other.

pub sized_after : (todo : List Act) (M : Marks) → Sized M → Sized (marks_all todo M)
sized_after [] M z = z
sized_after (a ∷ todo) M z = sized_after todo (marks_by a M) (sized_by a M z)

module _ (plan : Plan) (draw : Draw) where
  pub held_stays : (K : Kinds) (num : (t : Taking) → Given K t → ℕ) (ms : List (Move K)) (M : Marks) (vec : ℕ → Vector) → Sized M
      → AllowedAll (acts_in K ms) M → (q : ℕ) → mark_of M q ≡ held
      → (mark_of (marks_all (acts_in K ms) M) q ≡ held) × (vectors_all plan draw K num ms M vec q ≡ vec q)
  held_stays K num [] M vec z ok q h = (h, refl)
  held_stays K num (m ∷ ms) M vec z ok q h =
      let a = m.0 in
      let c = num (takes a) m.1 in
      let k = held_by plan draw a c M vec z ok.0 q h in
      let l = held_stays K num ms (marks_by a M) (vectors_by plan draw a c M vec) (sized_by a M z) ok.1 q k.0 in
      (l.0, l.1 ∙ k.1)

  pub past_stays : (todo : List Act) (M : Marks) → Sized M → AllowedAll todo M → (q : ℕ) → Masked (mark_of M q) ⊎ (mark_of M q ≡ spentMark)
      → Masked (mark_of (marks_all todo M) q) ⊎ (mark_of (marks_all todo M) q ≡ spentMark)
  past_stays [] M z ok q h = h
  past_stays (a ∷ todo) M z ok q h = past_stays todo (marks_by a M) (sized_by a M z) ok.1 q (past_by plan draw a M z ok.0 q h)

  pub five_before : (todo : List Act) (M : Marks) → Sized M → AllowedAll todo M → (q : ℕ) → q < row_count_of → Masked (mark_of (marks_all todo M) q)
      → (Masked (mark_of M q) × (remembered_a (marks_all todo M) q ≡ remembered_a M q) × (remembered_b (marks_all todo M) q ≡ remembered_b M q)) ⊎ MasksIn todo q
  five_before [] M z ok q low h = inl (h, refl, refl)
  five_before (a ∷ todo) M z ok q low h = elim (five_before todo (marks_by a M) (sized_by a M z) ok.1 q low h) [
    | inr m ↦ inr (inr m)
    | inl k ↦ elim (five_by plan draw a M z ok.0 q low k.0) [
      | inr m ↦ inr (inl m)
      | inl l ↦ inl (l.0, k.1 ∙ l.1, k.2 ∙ l.2)
    ]
  ]

-- ---- Masks: of an unused triple, which then waits with these factors.

young : (m : Masking) (M : Marks) → Maskable m M → (r : ℕ) → MasksBy m r → Masked (mark_of M r) ⊎ (mark_of M r ≡ spentMark) → ⊥
young none M al r at past = at
young (of x y r') M al r at (inl (inl five)) = omega (arith, ap (mark_of M) at, al.first, five)
young (of x y r') M al r at (inl (inr seven)) = omega (arith, ap (mark_of M) at, al.first, seven)
young (of x y r') M al r at (inr six) = omega (arith, ap (mark_of M) at, al.first, six)

waiting_now : (m : Masking) (M : Marks) (x y r : ℕ) → Sized M → r ≤ last_triple → of x y r ≡ m
    → (mark_of (remembered m M) r ≡ masked) × (remembered_a (remembered m M) r ≡ x) × (remembered_b (remembered m M) r ≡ y)
waiting_now m M x y r z low e =
    subst (λ (w : Masking). (mark_of (remembered w M) r ≡ masked) × (remembered_a (remembered w M) r ≡ x) × (remembered_b (remembered w M) r ≡ y)) e (
      get_or-set_same M.marks r masked 0 (omega (arith, z.marks)),
      get_or-set_same M.factor_a_is r x 0 (omega (arith, z.factor_a_is)),
      get_or-set_same M.factor_b_is r y 0 (omega (arith, z.factor_b_is)),
    )

module _ (plan : Plan) (draw : Draw) where
  pub unmasked : (todo : List Act) (M : Marks) → Sized M → AllowedAll todo M → (r : ℕ) → MasksIn todo r → Masked (mark_of M r) ⊎ (mark_of M r ≡ spentMark) → ⊥
  unmasked [] M z al r i past = elim i [ ]
  unmasked (a ∷ todo) M z al r (inl at) past = young (masking a) M al.0.1 r at past
  unmasked (a ∷ todo) M z al r (inr at) past =
      unmasked todo (marks_by a M) (sized_by a M z) al.1 r at (past_by plan draw a M z al.0 r past)

  pub waits_after : (todo : List Act) (M : Marks) → Sized M → AllowedAll todo M → (x y r : ℕ) → r ≤ last_triple → Among (of x y r) (map masking todo)
      → (Masked (mark_of (marks_all todo M) r) ⊎ (mark_of (marks_all todo M) r ≡ spentMark))
      × (Masked (mark_of (marks_all todo M) r) → (remembered_a (marks_all todo M) r ≡ x) × (remembered_b (marks_all todo M) r ≡ y))
  waits_after [] M z al x y r low i = elim i [ ]
  waits_after (a ∷ todo) M z al x y r low (inr there) = waits_after todo (marks_by a M) (sized_by a M z) al.1 x y r low there
  waits_after (a ∷ todo) M z al x y r low (inl e) =
      let h = waiting_now (masking a) (mark_all_of (marks_of a) M) x y r (sized_marks (marks_of a) M z) low e in (
        past_stays plan draw todo (marks_by a M) (sized_by a M z) al.1 r (inl (inl h.0)),
        λ five.
            elim (five_before plan draw todo (marks_by a M) (sized_by a M z) al.1 r (omega arith) five) [
              | inl k ↦ (k.1 ∙ h.1, k.2 ∙ h.2)
              | inr at ↦ absurd (unmasked todo (marks_by a M) (sized_by a M z) al.1 r at (inl (inl h.0)))
            ],
      )
