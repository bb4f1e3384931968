-- A call that is not refused keeps what the marks say of the vectors.
use Prim.Native.Nat.{ℕ, ◌+◌, ◌≤◌, ◌<◌}
use mathlib.Core.Path.{◌≡◌, refl, sym, ◌∙◌, ap}
use mathlib.Core.Logic.{◌≢◌, ◌⊎◌, inl, inr}
use native.Mathlib.Omega.{arith}
use lib.Seq.{get_or-set_same}
use Rattle.shape.specs.Bounds.{row_count_of}
use Rattle.shape.specs.Marks.{raw as rawMark, held as heldMark, unused, further, masked, spent as spentMark, collected as collectedMark}
use Rattle.vectors.specs.Vector.{Vector}
use Rattle.runs.specs.Draws.{Plan, Draw, IsRaw}
use Rattle.runs.specs.Outline.{Act, factors, collects}
use Rattle.runs.proofs.Marks.{at_same, at_other, Marks, mark_of, remembered_a, remembered_b, Sized, raw_vector, finished, Masked, marks_by, vectors_by}
use Rattle.runs.proofs.Facts.{Tripled, AllowedBy, Triple, Waiting, Fact, Facts, Meant}
use Rattle.runs.proofs.Rows.{Turn, raw, first, second, third, dealt, summed, waiting, collected, spent, spent', multiplied, Same, other, off_masks, on_three, turned, same, course, held_by}

-- ---- The fact of a row, by its mark.

module _ {plan : Plan} {draw : Draw} {Held : ℕ → Vector → Type 0} {Waits : ℕ → ℕ → ℕ → Type 0} {M : Marks} {vec : ℕ → Vector} {r : ℕ} where
  raw_fact : mark_of M r ≡ rawMark → IsRaw (plan.raw r) → vec r ≡ raw_vector plan draw r → Fact plan draw Held Waits M vec r
  raw_fact e is v = record {
    raw = λ h. (is, v);
    held = λ h. absurd (omega arith);
    triple = λ h. elim h [ inl k ↦ absurd (omega arith) | inr (inl k) ↦ absurd (omega arith) | inr (inr k) ↦ absurd (omega arith) ];
    waiting = λ h. elim h [ inl k ↦ absurd (omega arith) | inr k ↦ absurd (omega arith) ];
  }

  held_fact : mark_of M r ≡ heldMark → Held r (vec r) → Fact plan draw Held Waits M vec r
  held_fact e is = record {
    raw = λ h. absurd (omega arith);
    held = λ h. is;
    triple = λ h. elim h [ inl k ↦ absurd (omega arith) | inr (inl k) ↦ absurd (omega arith) | inr (inr k) ↦ absurd (omega arith) ];
    waiting = λ h. elim h [ inl k ↦ absurd (omega arith) | inr k ↦ absurd (omega arith) ];
  }

  triple_fact : unused ≤ mark_of M r → Triple plan draw M vec r → (Masked (mark_of M r) → Waiting plan draw Held Waits M r) → Fact plan draw Held Waits M vec r
  triple_fact e is waits = record { raw = λ h. absurd (omega arith); held = λ h. absurd (omega arith); triple = λ h. is; waiting = waits }

  -- 4 and 6 say nothing
  idle_fact : further ≤ mark_of M r → mark_of M r ≢ masked → mark_of M r ≢ collectedMark → Fact plan draw Held Waits M vec r
  idle_fact e ne ne' = record {
    raw = λ h. absurd (omega arith);
    held = λ h. absurd (omega arith);
    triple = λ h. elim h [ inl k ↦ absurd (omega arith) | inr (inl k) ↦ absurd (ne k) | inr (inr k) ↦ absurd (ne' k) ];
    waiting = λ h. elim h [ inl k ↦ absurd (ne k) | inr k ↦ absurd (ne' k) ];
  }

-- ---- A triple's second and third row stay while its first does: of the calls only multiply turns 4, and it turns the first row too.

first_spent : (M : Marks) (r q : ℕ) → Sized M → Tripled collectedMark M r → q ≡ r → mark_of (finished M r) q ≡ mark_of M q → ⊥
first_spent M r q z ok e s =
    omega (arith, ok.first, ap (mark_of M) e, ap (mark_of (finished M r)) e, (on_three M r spentMark spentMark heldMark z ok.r_low).0)

apart : {a : Act} {x m : ℕ} → Turn a x further m → (M : Marks) (q : ℕ) → Sized M → AllowedBy a M → (q + 1 ≡ x) ⊎ (q + 2 ≡ x)
    → mark_of (marks_by a M) q ≡ mark_of M q → mark_of M q ≢ further → mark_of M (q + 1) ≡ further → ⊥
apart (spent' {r}) M q z ok (inl e) s ne h = first_spent M r q z ok.0 (omega arith) s
apart (spent' {r}) M q z ok (inr e) s ne h = let k : q + 1 ≡ r = omega arith in omega (arith, ap (mark_of M) k)
apart (multiplied {r}) M q z ok (inl e) s ne h = let k : q ≡ r + 1 = omega arith in ne (ap (mark_of M) k ∙ ok.0.second)
apart (multiplied {r}) M q z ok (inr e) s ne h = first_spent M r q z ok.0 (omega arith) s

-- ---- The facts after a call, where what is meant may change with it.

module _ (plan : Plan) (draw : Draw) where
  abbrev vecs : Act → ℕ → Marks → (ℕ → Vector) → ℕ → Vector
  vecs a c M vec = vectors_by plan draw a c M vec

  -- x is the second or third row of a triple whose first stays
  pub beside : (a : Act) (c : ℕ) (M : Marks) (vec : ℕ → Vector) → Sized M → AllowedBy a M → (q x : ℕ) → (q + 1 ≡ x) ⊎ (q + 2 ≡ x)
      → mark_of (marks_by a M) q ≡ mark_of M q → mark_of M q ≢ further → mark_of M (q + 1) ≡ further → mark_of M x ≡ further
      → Same M (marks_by a M) vec (vecs a c M vec) x
  beside a c M vec z ok q x e s ne h h' =
      elim (course plan draw a c M vec z ok x) [ turned t ↦ absurd (apart (rw h' at t) M q z ok e s ne h) | same s' ↦ s' ]

  stays : {M M' : Marks} {vec vec' : ℕ → Vector} {q : ℕ} → vec' q ≡ vec q → Same M M' vec vec' (q + 1) → Same M M' vec vec' (q + 2)
      → Triple plan draw M vec q → Triple plan draw M' vec' q
  stays v s s' t = record {
    drawn = t.drawn;
    second = s.mark ∙ t.second;
    third = s'.mark ∙ t.third;
    is_a = v ∙ t.is_a;
    is_b = s.vector ∙ t.is_b;
    is_ab = s'.vector ∙ t.is_ab;
  }

  module _ (Held : ℕ → Vector → Type 0) (Waits : ℕ → ℕ → ℕ → Type 0) (Held' : ℕ → Vector → Type 0) (Waits' : ℕ → ℕ → ℕ → Type 0) where
    -- the factors of a waiting triple are held after the call too
    waits : (a : Act) (M : Marks) → Sized M → AllowedBy a M → (q x y : ℕ) → remembered_a (marks_by a M) q ≡ x → remembered_b (marks_by a M) q ≡ y
        → x < row_count_of → y < row_count_of → mark_of M x ≡ heldMark → mark_of M y ≡ heldMark → Waits' q x y → Waiting plan draw Held' Waits' (marks_by a M) q
    waits a M z ok q x y e e' low low' h h' means = record {
      means = rw (e, e') means;
      a_low = rw e low;
      a_held = rw e (held_by plan draw a 0 M (raw_vector plan draw) z ok x h).0;
      b_low = rw e' low';
      b_held = rw e' (held_by plan draw a 0 M (raw_vector plan draw) z ok y h').0;
    }

    -- a row that the call leaves as it is
    kept : (a : Act) (c : ℕ) (M : Marks) (vec : ℕ → Vector) → Sized M → AllowedBy a M → (q : ℕ)
        → (mark_of M q ≡ heldMark → Held q (vec q) → Held' q (vec q))
        → (Masked (mark_of M q) → Masked (mark_of (marks_by a M) q) → Waits q (remembered_a M q) (remembered_b M q) → Waits' q (remembered_a M q) (remembered_b M q))
        → Same M (marks_by a M) vec (vecs a c M vec) q → Fact plan draw Held Waits M vec q
        → Fact plan draw Held' Waits' (marks_by a M) (vecs a c M vec) q
    kept a c M vec z ok q up up' s f = record {
      raw = λ h. let y = f.raw (sym s.mark ∙ h) in (y.0, s.vector ∙ y.1);
      held = λ h. let e = sym s.mark ∙ h in rw s.vector (up e (f.held e));
      triple = λ h.
          let k : (mark_of M q ≡ unused) ⊎ Masked (mark_of M q) = rw s.mark at h in
          let ne : mark_of M q ≢ further = elim k [ inl e ↦ omega arith | inr (inl e) ↦ omega arith | inr (inr e) ↦ omega arith ] in
          let t = f.triple k in
          stays s.vector
          (beside a c M vec z ok q (q + 1) (inl refl) s.mark ne t.second t.second)
          (beside a c M vec z ok q (q + 2) (inr refl) s.mark ne t.second t.third)
          t;
      waiting = λ h. let e : Masked (mark_of M q) = rw s.mark at h in let w = f.waiting e in
          waits a M z ok q (remembered_a M q) (remembered_b M q) s.factor_a_is s.factor_b_is w.a_low w.b_low w.a_held w.b_held (up' e h w.means);
    }

    -- a row that it writes
    new : {a : Act} {q m m' : ℕ} → Turn a q m m' → (c : ℕ) (M : Marks) (vec : ℕ → Vector) → Sized M → AllowedBy a M
        → ((x : ℕ) → x < row_count_of → Masked (mark_of M x) → Masked (mark_of (marks_by a M) x) → Waits x (remembered_a M x) (remembered_b M x) → Waits' x (remembered_a M x) (remembered_b M x))
        → Meant plan draw Held' Waits' a c M vec → Facts plan draw Held Waits M vec → mark_of (marks_by a M) q ≡ m'
        → Fact plan draw Held' Waits' (marks_by a M) (vecs a c M vec) q
    new (raw {r}) c M vec z ok up me g e = raw_fact e me (at_same vec r _)
    new (first {r}) c M vec z ok up me g e =
        let k = on_three M r unused further further z ok.0.0 in
        triple_fact (omega arith) (record {
          drawn = me;
          second = k.1;
          third = k.2;
          is_a = at_other _ (r + 2) _ r (omega arith) ∙ at_other _ (r + 1) _ r (omega arith) ∙ at_same vec r _;
          is_b = at_other _ (r + 2) _ (r + 1) (omega arith) ∙ at_same _ (r + 1) _;
          is_ab = at_same _ (r + 2) _;
        }) (λ h. elim h [ inl k ↦ absurd (omega arith) | inr k ↦ absurd (omega arith) ])
    new second c M vec z ok up me g e = idle_fact (omega arith) (omega arith) (omega arith)
    new third c M vec z ok up me g e = idle_fact (omega arith) (omega arith) (omega arith)
    new dealt c M vec z ok up me g e = held_fact e (rw at_same me)
    new summed c M vec z ok up me g e = held_fact e (rw at_same me)
    new (waiting {a} {b} {r}) c M vec z ok up me g e =
        let next = off_masks M r a b vec (r + 1) (omega arith) in
        let last = off_masks M r a b vec (r + 2) (omega arith) in
        triple_fact (omega arith)
        (stays refl next last ((g r (omega arith)).triple (inl ok.1.first)))
        (λ h. waits (factors a b r) M z ok r a b (get_or-set_same M.factor_a_is r a 0 (omega arith))
        (get_or-set_same M.factor_b_is r b 0 (omega arith)) ok.1.a_low ok.1.b_low ok.1.a_held ok.1.b_held me)
    new (collected {r}) c M vec z ok up me g e =
        let low : r < row_count_of = omega (arith, ok.0.r_low) in
        let five = ok.0.first in
        let w = (g r low).waiting (inl five) in
        triple_fact (omega arith)
        (stays refl (other M r collectedMark vec vec (r + 1) (omega arith) refl) (other M r collectedMark vec vec (r + 2) (omega arith) refl) ((g r low).triple (inr (inl five))))
        (λ h. waits (collects r) M z ok r (remembered_a M r) (remembered_b M r) refl refl w.a_low w.b_low w.a_held w.b_held
        (up r low (inl five) (inr e) w.means))
    new spent c M vec z ok up me g e = idle_fact (omega arith) (omega arith) (omega arith)
    new spent' c M vec z ok up me g e = idle_fact (omega arith) (omega arith) (omega arith)
    new multiplied c M vec z ok up me g e = held_fact e (rw at_same me)

    pub facts_by : (a : Act) (c : ℕ) (M : Marks) (vec : ℕ → Vector) → Sized M → AllowedBy a M → Meant plan draw Held' Waits' a c M vec
        → ((q : ℕ) → q < row_count_of → mark_of M q ≡ heldMark → Held q (vec q) → Held' q (vec q))
        → ((q : ℕ) → q < row_count_of → Masked (mark_of M q) → Masked (mark_of (marks_by a M) q) → Waits q (remembered_a M q) (remembered_b M q) → Waits' q (remembered_a M q) (remembered_b M q))
        → Facts plan draw Held Waits M vec → Facts plan draw Held' Waits' (marks_by a M) (vectors_by plan draw a c M vec)
    facts_by a c M vec z ok me up up' g q low = elim (course plan draw a c M vec z ok q) [
      | turned t ↦ new t c M vec z ok up' me g refl
      | same s ↦ kept a c M vec z ok q (up q low) (up' q low) s (g q low)
    ]
