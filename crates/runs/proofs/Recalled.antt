-- The numbers that a session remembers for a triple with mark 7 are those of the vectors that were opened; every act keeps that.
use Prim.Native.Nat.{ℕ, ◌+◌}
use mathlib.Core.Path.{◌≡◌, refl, sym, ◌∙◌, ap, ap₂}
use mathlib.Core.Logic.{◌≢◌, inl}
use mathlib.Core.List.{List, [], ◌∷◌}
use native.Mathlib.Omega.{arith}
use lib.ListN.{length, get_or, length-set}
use lib.Seq.{get_or-set_same, get_or-set_other}
use Rattle.shape.specs.Bounds.{row_count_of}
use Rattle.shape.specs.Marks.{held, further, collected as collectedMark}
use Rattle.vectors.specs.Vector.{Vector, number}
use Rattle.runs.specs.Draws.{Plan, Draw}
use Rattle.runs.specs.Outline.{Kinds, Act, loads, loads_triple, deals, opens, sums, factors, collects, multiplies, admits, Taking, takes, Given, Move, acts_in}
use Rattle.runs.proofs.Marks.{Marks, mark_of, remembered_a, remembered_b, Sized, less, mask_vector_a, mask_vector_b, Opened, marks_by, vectors_by, opened_by, marks_all, vectors_all, opened_all}
use Rattle.runs.proofs.Facts.{AllowedBy, AllowedAll}
use Rattle.runs.proofs.Rows.{Turn, collected, Same, turned, same, course, held_by, sized_by}
use Rattle.runs.proofs.Kept.{beside}

-- the triple at r: its factors are held, its second row waits, and y and y' are remembered
pub record Recalled (M : Marks) (vec : ℕ → Vector) (Y : Opened) (r : ℕ) : Type 0 where
  pub a_held : mark_of M (remembered_a M r) ≡ held
  pub b_held : mark_of M (remembered_b M r) ≡ held
  pub second : mark_of M (r + 1) ≡ further
  pub is_a : get_or Y.y_a_is r 0 ≡ (number (mask_vector_a M vec r)).0
  pub is_b : get_or Y.y_b_is r 0 ≡ (number (mask_vector_b M vec r)).0

pub record Recalls (M : Marks) (vec : ℕ → Vector) (Y : Opened) : Type 0 where
  pub sized : Sized M
  pub a_long : length Y.y_a_is ≡ row_count_of
  pub b_long : length Y.y_b_is ≡ row_count_of
  pub each : (r : ℕ) → mark_of M r ≡ collectedMark → Recalled M vec Y r

-- the lists keep their length, and what stands at a triple with mark 7
module _ (M : Marks) (vec : ℕ → Vector) (Y : Opened) where
  long_by : (a : Act) → (length (opened_by a M vec Y).y_a_is ≡ length Y.y_a_is) × (length (opened_by a M vec Y).y_b_is ≡ length Y.y_b_is)
  long_by (loads r) = (refl, refl)
  long_by (loads_triple r) = (refl, refl)
  long_by (deals r) = (refl, refl)
  long_by (opens r) = (refl, refl)
  long_by (sums r t ts) = (refl, refl)
  long_by (factors a b r) = (refl, refl)
  long_by (collects r) = (length-set Y.y_a_is r _, length-set Y.y_b_is r _)
  long_by (multiplies r) = (refl, refl)
  long_by (admits line) = (refl, refl)

  stay_by : (a : Act) → AllowedBy a M → (q : ℕ) → mark_of M q ≡ collectedMark
      → (get_or (opened_by a M vec Y).y_a_is q 0 ≡ get_or Y.y_a_is q 0) × (get_or (opened_by a M vec Y).y_b_is q 0 ≡ get_or Y.y_b_is q 0)
  stay_by (loads r) ok q e = (refl, refl)
  stay_by (loads_triple r) ok q e = (refl, refl)
  stay_by (deals r) ok q e = (refl, refl)
  stay_by (opens r) ok q e = (refl, refl)
  stay_by (sums r t ts) ok q e = (refl, refl)
  stay_by (factors a b r) ok q e = (refl, refl)
  stay_by (collects r) ok q e =
      let ne : q ≢ r = λ h. omega (arith, e, ok.0.first, ap (mark_of M) h) in
      (get_or-set_other Y.y_a_is r q _ 0 ne, get_or-set_other Y.y_b_is r q _ 0 ne)
  stay_by (multiplies r) ok q e = (refl, refl)
  stay_by (admits line) ok q e = (refl, refl)

module _ (plan : Plan) (draw : Draw) where
  -- a triple that is opened now
  now_recalled : {a : Act} {q m : ℕ} → Turn a q m collectedMark → (c : ℕ) (M : Marks) (vec : ℕ → Vector) (Y : Opened) → Recalls M vec Y → AllowedBy a M
      → Recalled (marks_by a M) (vectors_by plan draw a c M vec) (opened_by a M vec Y) q
  now_recalled (collected {r}) c M vec Y k ok = record {
    a_held = (held_by plan draw (collects r) c M vec k.sized ok (remembered_a M r) ok.0.a_held).0;
    b_held = (held_by plan draw (collects r) c M vec k.sized ok (remembered_b M r) ok.0.b_held).0;
    second = get_or-set_other M.marks r (r + 1) collectedMark 0 (λ e. omega arith) ∙ ok.0.second;
    is_a = get_or-set_same Y.y_a_is r _ 0 (omega (arith, k.a_long, ok.0.r_low));
    is_b = get_or-set_same Y.y_b_is r _ 0 (omega (arith, k.b_long, ok.0.r_low));
  }

  -- one that was opened before
  still_recalled : (a : Act) (c : ℕ) (M : Marks) (vec : ℕ → Vector) (Y : Opened) → Recalls M vec Y → AllowedBy a M → (q : ℕ) → mark_of M q ≡ collectedMark
      → Same M (marks_by a M) vec (vectors_by plan draw a c M vec) q
      → Recalled (marks_by a M) (vectors_by plan draw a c M vec) (opened_by a M vec Y) q
  still_recalled a c M vec Y k ok q e s =
      let w = k.each q e in
      let y = stay_by M vec Y a ok q e in
      let ha = held_by plan draw a c M vec k.sized ok (remembered_a M q) w.a_held in
      let hb = held_by plan draw a c M vec k.sized ok (remembered_b M q) w.b_held in
      let next = beside plan draw a c M vec k.sized ok q (q + 1) (inl refl) s.mark (λ h. omega arith) w.second w.second in
      let vecs = vectors_by plan draw a c M vec in
      record {
        a_held = ap (mark_of (marks_by a M)) s.factor_a_is ∙ ha.0;
        b_held = ap (mark_of (marks_by a M)) s.factor_b_is ∙ hb.0;
        second = next.mark ∙ w.second;
        is_a =
            y.0 ∙ w.is_a
            ∙ sym (ap₂ (λ (X L : Vector). (number (less X L)).0) (ap vecs s.factor_a_is ∙ ha.1) s.vector);
        is_b =
            y.1 ∙ w.is_b
            ∙ sym (ap₂ (λ (X L : Vector). (number (less X L)).0) (ap vecs s.factor_b_is ∙ hb.1) next.vector);
      }

  pub recalls_by : (a : Act) (c : ℕ) (M : Marks) (vec : ℕ → Vector) (Y : Opened) → Recalls M vec Y → AllowedBy a M
      → Recalls (marks_by a M) (vectors_by plan draw a c M vec) (opened_by a M vec Y)
  recalls_by a c M vec Y k ok = record {
    sized = sized_by a M k.sized;
    a_long = (long_by M vec Y a).0 ∙ k.a_long;
    b_long = (long_by M vec Y a).1 ∙ k.b_long;
    each = λ q e. elim (course plan draw a c M vec k.sized ok q) [
      | turned t ↦ now_recalled (rw e at t) c M vec Y k ok
      | same s ↦ still_recalled a c M vec Y k ok q (sym s.mark ∙ e) s
    ];
  }

  pub recalls_all : (K : Kinds) (num : (t : Taking) → Given K t → ℕ) (ms : List (Move K)) (M : Marks) (vec : ℕ → Vector) (Y : Opened)
      → Recalls M vec Y → AllowedAll (acts_in K ms) M
      → Recalls (marks_all (acts_in K ms) M) (vectors_all plan draw K num ms M vec) (opened_all plan draw K num ms M vec Y)
  recalls_all K num [] M vec Y k ok = k
  recalls_all K num (m ∷ ms) M vec Y k ok =
      recalls_all K num ms (marks_by m.0 M) (vectors_by plan draw m.0 (num (takes m.0) m.1) M vec) (opened_by m.0 M vec Y)
      (recalls_by m.0 (num (takes m.0) m.1) M vec Y k ok.0) ok.1
