-- What a call of the list broadcasts, not refused: a line shows its sender's part of the row's vector, or of the masks'.
use Prim.Native.Nat.{ℕ, zero, suc, ◌+◌, ◌≤◌, ◌<◌}
use mathlib.Core.Path.{◌≡◌, sym, ◌∙◌, ap, ap₂, subst}
use mathlib.Core.Bool.{Bool, true, false, cond}
use mathlib.Core.Logic.{◌⊎◌, inl, inr}
use mathlib.Core.List.{List, [], ◌∷◌, ◌++◌, map}
use native.Mathlib.Omega.{arith}
use lib.ListN.{length, length-append}
use Rattle.poly.specs.Counting.{All, Elements}
use Rattle.shape.specs.Bounds.{row_count_of, last_triple}
use Rattle.shape.specs.Marks.{held, unused}
use Rattle.shape.specs.Lengths.{v_length}
use Rattle.parts.specs.Draw.{each_from}
use Rattle.parts.proofs.Laws.{elements_append}
use Rattle.vectors.specs.Vector.{Vector, numbers}
use Rattle.vectors.proofs.Linear.{length_numbers}
use Rattle.runs.specs.Outline.{Act, Sending, its_opening, its_masks, moves, acts, sends}
use Rattle.runs.specs.Calls.{Post, Call, perform, sent_by, broadcast, sent_if, line_of, opening_line, masks_line, Among}
use Rattle.runs.specs.Draws.{plan_shape}
use Rattle.runs.proofs.Marks.{Marks, mark_of, remembered_a, remembered_b, less, of, masking, Masked, marks_all}
use Rattle.runs.proofs.Outcomes.{refusal_of, refusal_is}
use Rattle.runs.proofs.Steps.{named, Says, SaysAll, says}
use Rattle.runs.proofs.Lines.{same_opening, same_masks, not_both, numbers_elements}
use Rattle.runs.proofs.Facts.{Multiplying, Sendable, Allowed}
use Rattle.runs.proofs.Rows.{held_stays, waits_after}
use Rattle.runs.proofs.Allowed.{allowed}
use Rattle.secrecy.specs.Steps.{Fixed, Step, call_at}
use Rattle.secrecy.specs.Seen.{posts, joined}
use Rattle.secrecy.proofs.Entered.{Past}
use Rattle.secrecy.proofs.State.{Run, Moment, AnOpening, AMask, mask_numbers, State, stand_at, facts_on}
use Rattle.secrecy.specs.Rules.{Rule}
use Rattle.secrecy.proofs.Moves.{number_at, vectors_then, acts_at, sends_at}
use Rattle.runs.proofs.Start.{sizes}

-- ---- members of joined lists

pub among_append : {A : Type 0} (x : A) (xs ys : List A) → Among x (xs ++ ys) → Among x xs ⊎ Among x ys
among_append x [] ys a = inr a
among_append x (y ∷ xs) ys (inl e) = inl (inl e)
among_append x (y ∷ xs) ys (inr a) = elim (among_append x xs ys a) [ inl l ↦ inl (inr l) | inr r ↦ inr r ]

among_joined : {A : Type 0} (x : A) (f : ℕ → List A) (j m : ℕ) → Among x (joined (map f (each_from j m (λ i. i))))
    → (i : ℕ) × (j ≤ i) × (i < j + m) × Among x (f i)
unfolding joined each_from
among_joined x f j zero a = absurd a
among_joined x f j (suc m) a = go (among_append x (f j) _ a) (λ l. among_joined x f (suc j) m l)
  where
    go : Among x (f j) ⊎ Among x (joined (map f (each_from (suc j) m (λ i. i))))
        → (Among x (joined (map f (each_from (suc j) m (λ i. i)))) → (i : ℕ) × (suc j ≤ i) × (i < suc j + m) × Among x (f i))
        → (i : ℕ) × (j ≤ i) × (i < j + suc m) × Among x (f i)
    go (inl l) later = (j, omega arith, omega arith, l)
    go (inr r) later = let o = later r in (o.0, omega (arith, o.1), omega (arith, o.2), o.3)

pub among_posts : {A : Type 0} (x : A) (f : ℕ → List A) (n : ℕ) → Among x (joined (map f (posts n)))
    → (i : ℕ) × (1 ≤ i) × (i ≤ n) × Among x (f i)
unfolding posts
among_posts x f n a = let o = among_joined x f 1 n a in (o.0, o.1, omega (arith, o.2), o.3)

-- a line that was heard
pub among_heard : {A : Type 0} (x : A) (t : Bool) (l : List A) → Among x (cond t l []) → Among x l
among_heard x true l a = a
among_heard x false l a = absurd a

-- a line that a call broadcast
one_line : (x line : List ℕ) (lines : List (List ℕ)) (k : ℕ) → k ≡ 0 → Among x (sent_if k line lines) → (x ≡ line) ⊎ Among x lines
one_line x line lines zero z a = a
one_line x line lines (suc k) z a = absurd (omega arith)

-- the opening message of row r; one among the lines
abbrev MessageBy : Sending → ℕ → Type 0
MessageBy (its_opening r') r = r ≡ r'
MessageBy (its_masks x y r') r = ⊥

abbrev pub MessageIn : List Sending → ℕ → Type 0
MessageIn [] r = ⊥
MessageIn (s ∷ ss) r = MessageBy s r ⊎ MessageIn ss r

module _ (C : Run) (m : Moment) (S : State C m) where
  open C use {plan, draw, u, len}
  open m use {marks as M, vec, book as b, lines, posts as q}

  abbrev call : ℕ → Step → Call
  call i c = call_at plan draw u lines i c

  -- refused nowhere
  abbrev pub Done : Step → Type 0
  Done c = (i : ℕ) → 1 ≤ i → i ≤ plan.n → refusal_of (call_at plan draw u lines i c) (q i) ≡ 0

  pub allowed_at : (c : Step) → Done c → (i : ℕ) → 1 ≤ i → i ≤ plan.n → Allowed (acts c) (sends c) M
  allowed_at c z i lo hi =
      subst (λ (ss : List Sending). Allowed (acts c) ss M) (sends_at plan draw u lines i c)
      (subst (λ (todo : List Act). Allowed todo (sends (call i c)) M) (acts_at plan draw u lines i c)
      (allowed plan draw i M (S.posts i lo hi).opened (q i).rows (call i c)
      (subst (λ (x : Post). refusal_of (call i c) x ≡ 0) (named plan draw (len i) i M vec (q i) (S.posts i lo hi)) (z i lo hi))))

  -- ---- what the call broadcasts

  module _ (i : ℕ) (lo : 1 ≤ i) (hi : i ≤ plan.n) where
    not_refused : (c : Call) → refusal_of c (q i) ≡ 0 → (perform c (q i)).answer.refusal ≡ 0
    not_refused c z = refusal_is c (q i) ∙ z

    made_opening : (r : ℕ) (xs : List ℕ) → xs ≡ numbers (v_length (plan_shape plan)) ((vec r).v i) → r < row_count_of → AnOpening C r i xs
    made_opening r xs e low =
        record {
          row = omega arith;
          post = (lo, hi);
          many = ap length e ∙ length_numbers (v_length (plan_shape plan)) ((vec r).v i);
          low = subst Elements (sym e) (numbers_elements (v_length (plan_shape plan)) ((vec r).v i));
        }

    abbrev halves : ℕ → ℕ → ℕ → ℕ → List ℕ
    halves x y r j = numbers (v_length (plan_shape plan)) ((less (vec x) (vec r)).v j) ++ numbers (v_length (plan_shape plan)) ((less (vec y) (vec (r + 1))).v j)

    made_masks : (x y r : ℕ) (xs : List ℕ) → xs ≡ halves x y r i → r ≤ last_triple → AMask C r i xs
    made_masks x y r xs e low =
        let k = v_length (plan_shape plan) in
        let va = (less (vec x) (vec r)).v i in
        let vb = (less (vec y) (vec (r + 1))).v i in
        record {
          row = omega arith;
          post = (lo, hi);
          many = ap length e ∙ length-append (numbers k va) (numbers k vb) ∙ ap₂ ◌+◌ (length_numbers k va) (length_numbers k vb) ∙ omega arith;
          low = subst Elements (sym e) (elements_append (numbers k va) (numbers k vb) (numbers_elements k va) (numbers_elements k vb));
        }

    -- one line
    opening_one : (todo : List Act) (s : Sending) (ys : List ℕ) → Sendable todo M s → Says plan draw i vec s ys
        → (r j : ℕ) (xs : List ℕ) → AnOpening C r j xs → opening_line r j xs ≡ line_of i s ys
        → MessageBy s r × (mark_of M r ≡ held) × (xs ≡ numbers (v_length (plan_shape plan)) ((vec r).v j))
    opening_one todo (its_opening r') ys al says r j xs form e =
        let same = same_opening plan.n (v_length (plan_shape plan)) (sizes plan C.sound).n_high r j r' i xs ys form (made_opening r' ys says al.0) e in
        (same.0, ap (mark_of M) same.0 ∙ al.1, same.2 ∙ says ∙ sym (ap₂ (λ (x y : ℕ). numbers (v_length (plan_shape plan)) ((vec x).v y)) same.0 same.1))
    opening_one todo (its_masks x y r') ys al says r j xs form e =
        absurd (not_both plan.n (v_length (plan_shape plan)) (sizes plan C.sound).n_high r j r' i xs ys form (made_masks x y r' ys says al.0.r_low) e)

    -- masks of the rows x and y by the triple at r, of which post j's are xs
    abbrev MadeMasks : List Act → ℕ → ℕ → List ℕ → Type 0
    MadeMasks todo r j xs = (x : ℕ) × (y : ℕ) × Multiplying unused M x y r × Among (of x y r) (map masking todo) × (xs ≡ halves x y r j)

    masks_one : (todo : List Act) (s : Sending) (ys : List ℕ) → Sendable todo M s → Says plan draw i vec s ys
        → (r j : ℕ) (xs : List ℕ) → AMask C r j xs → masks_line r j xs ≡ line_of i s ys → MadeMasks todo r j xs
    masks_one todo (its_opening r') ys al says r j xs form e =
        absurd (not_both plan.n (v_length (plan_shape plan)) (sizes plan C.sound).n_high r' i r j ys xs (made_opening r' ys says al.0) form (sym e))
    masks_one todo (its_masks x y r') ys al says r j xs form e =
        let same = same_masks plan.n (v_length (plan_shape plan)) (sizes plan C.sound).n_high r j r' i xs ys form (made_masks x y r' ys says al.0.r_low) e in (
          x,
          y,
          subst (Multiplying unused M x y) (sym same.0) al.0,
          subst (λ (w : ℕ). Among (of x y w) (map masking todo)) (sym same.0) al.1,
          same.2 ∙ says ∙ sym (ap₂ (λ (v w : ℕ). halves x y v w) same.0 same.1),
        )

    -- one line after the other
    opening_by : (todo : List Act) (ss : List Sending) (k : ℕ) (parts : List (List ℕ)) → k ≡ 0 → All (Sendable todo M) ss
        → SaysAll plan draw i vec ss parts → (r j : ℕ) (xs : List ℕ) → AnOpening C r j xs → Among (opening_line r j xs) (sent_by i k ss parts)
        → MessageIn ss r × (mark_of M r ≡ held) × (xs ≡ numbers (v_length (plan_shape plan)) ((vec r).v j))
    opening_by todo [] k parts z al says r j xs form a = absurd a
    opening_by todo (s ∷ ss) k [] z al says r j xs form a = absurd a
    opening_by todo (s ∷ ss) k (ys ∷ parts) z al says r j xs form a = elim (one_line _ _ _ k z a) [
      | inl e ↦ (let n = opening_one todo s ys al.0 says.0 r j xs form e in (inl n.0, n.1, n.2))
      | inr l ↦ (let n = opening_by todo ss k parts z al.1 says.1 r j xs form l in (inr n.0, n.1, n.2))
    ]

    masks_by : (todo : List Act) (ss : List Sending) (k : ℕ) (parts : List (List ℕ)) → k ≡ 0 → All (Sendable todo M) ss
        → SaysAll plan draw i vec ss parts → (r j : ℕ) (xs : List ℕ) → AMask C r j xs → Among (masks_line r j xs) (sent_by i k ss parts)
        → MadeMasks todo r j xs
    masks_by todo [] k parts z al says r j xs form a = absurd a
    masks_by todo (s ∷ ss) k [] z al says r j xs form a = absurd a
    masks_by todo (s ∷ ss) k (ys ∷ parts) z al says r j xs form a = elim (one_line _ _ _ k z a) [
      | inl e ↦ masks_one todo s ys al.0 says.0 r j xs form e
      | inr l ↦ masks_by todo ss k parts z al.1 says.1 r j xs form l
    ]

    module _ (c : Step) (z : refusal_of (call i c) (q i) ≡ 0) (al : Allowed (acts c) (sends c) M) where
      abbrev N : Marks
      N = marks_all (acts c) M

      abbrev w : ℕ → Vector
      w = vectors_then plan draw u c M vec

      stays : (x : ℕ) → mark_of M x ≡ held → (mark_of N x ≡ held) × (w x ≡ vec x)
      stays x two = held_stays plan draw Fixed (number_at plan draw u) (moves c) M vec S.sized al.moving x two

      said : SaysAll plan draw i vec (sends c) (perform (call i c) (q i)).lent
      said =
          subst (λ (ss : List Sending). SaysAll plan draw i vec ss (perform (call i c) (q i)).lent) (sends_at plan draw u lines i c)
          (says (stand_at C m S i lo hi) (call i c) z)

      -- the lines, by the call of the list
      heard_line : (x : List ℕ) → Among x (broadcast i (call i c) (perform (call i c) (q i)))
          → Among x (sent_by i (perform (call i c) (q i)).answer.refusal (sends c) (perform (call i c) (q i)).lent)
      heard_line x =
          subst (λ (ss : List Sending). Among x (sent_by i (perform (call i c) (q i)).answer.refusal ss (perform (call i c) (q i)).lent))
          (sends_at plan draw u lines i c)

      pub new_opening : (r j : ℕ) (xs : List ℕ) → AnOpening C r j xs
          → Among (opening_line r j xs) (broadcast i (call i c) (perform (call i c) (q i)))
          → MessageIn (sends c) r × (mark_of (marks_all (acts c) M) r ≡ held)
          × (xs ≡ numbers (v_length (plan_shape plan)) ((vectors_then plan draw u c M vec r).v j)) × (mark_of M r ≡ held)
      new_opening r j xs form a =
          let n = opening_by (acts c) (sends c) _ _ (not_refused (call i c) z) al.sending said r j xs form (heard_line _ a) in
          let k = stays r n.1 in
          (n.0, k.0, n.2 ∙ ap (λ (X : Vector). numbers (v_length (plan_shape plan)) (X.v j)) (sym k.1), n.1)

      pub new_masks : Rule plan c 0 lines → (r j : ℕ) (xs : List ℕ) → AMask C r j xs
          → Among (masks_line r j xs) (broadcast i (call i c) (perform (call i c) (q i)))
          → Past (marks_all (acts c) M) r
          × (Masked (mark_of (marks_all (acts c) M) r) → xs ≡ mask_numbers C (marks_all (acts c) M) (vectors_then plan draw u c M vec) r j)
      new_masks rule r j xs form a =
          go (masks_by (acts c) (sends c) _ _ (not_refused (call i c) z) al.sending said r j xs form (heard_line _ a))
        where
          go : MadeMasks (acts c) r j xs → Past N r × (Masked (mark_of N r) → xs ≡ mask_numbers C N w r j)
          go (x, y, ok, there, e) =
              let k = waits_after plan draw (acts c) M S.sized al.moving x y r ok.r_low there in (
                k.0,
                λ five.
                    let lr : r < row_count_of = omega (arith, ok.r_low) in
                    let t = (S.facts r lr).triple (inl ok.first) in
                    let t' = (facts_on C m S c al rule r lr).triple (inr five) in
                    let lf = k.1 five in
                    let ea : vec x ≡ w (remembered_a N r) = sym (ap w lf.0 ∙ (stays x ok.a_held).1) in
                    let eb : vec y ≡ w (remembered_b N r) = sym (ap w lf.1 ∙ (stays y ok.b_held).1) in
                    let e0 : vec r ≡ w r = t.is_a ∙ sym t'.is_a in
                    let e1 : vec (r + 1) ≡ w (r + 1) = t.is_b ∙ sym t'.is_b in
                    e ∙ (λ m. numbers (v_length (plan_shape plan)) ((less (ea m) (e0 m)).v j) ++ numbers (v_length (plan_shape plan)) ((less (eb m) (e1 m)).v j)),
              )
