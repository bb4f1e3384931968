-- One call of the list, not refused at any post: the state of the run after it.
use Prim.Native.Nat.{ℕ, ◌+◌, ◌≤◌, ◌<◌}
use mathlib.Core.Path.{◌≡◌, sym, ◌∙◌, ap, subst}
use mathlib.Core.Logic.{◌⊎◌, inl, inr}
use mathlib.Core.Bool.{cond}
use mathlib.Core.List.{List, [], ◌++◌}
use native.Mathlib.Omega.{arith}
use Rattle.shape.specs.Bounds.{row_count_of}
use Rattle.shape.specs.Marks.{held}
use Rattle.shape.specs.Lengths.{v_length}
use Rattle.vectors.specs.Vector.{Vector, numbers}
use Rattle.forms.specs.Lines as Line
use Rattle.forms.specs.Lines.{text}
use Rattle.runs.specs.Outline.{Act, moves, acts, sends}
use Rattle.runs.specs.Calls.{Call, perform, after, broadcast, opening_line, masks_line, Among}
use Rattle.runs.specs.Draws.{plan_shape}
use Rattle.runs.proofs.Marks.{Marks, mark_of, remembered_a, remembered_b, less, marks_all, Masked}
use Rattle.runs.proofs.Steps.{Stands, vectors_after, stands_after}
use Rattle.runs.proofs.Facts.{Allowed, Facts, MasksIn}
use Rattle.runs.proofs.Rows.{sized_after, held_stays, past_stays, five_before, unmasked}
use Rattle.secrecy.specs.Steps.{Fixed, Step, call_at, heard_from}
use Rattle.secrecy.specs.Rules.{Rule}
use Rattle.secrecy.specs.Book.{entered}
use Rattle.secrecy.proofs.CallRuns.{lines_of}
use Rattle.secrecy.proofs.Moves.{number_at, vectors_then, acts_at, vectors_at}
use Rattle.secrecy.proofs.Entered.{Past}
use Rattle.secrecy.proofs.State.{Run, Moment, Held, Waits, AnOpening, AMask, mask_numbers, State, stand_at, fits, facts_on}
use Rattle.runs.proofs.Start.{sizes}
use Rattle.secrecy.proofs.Dealings.{deal_unsent}
use Rattle.secrecy.proofs.Broadcasts as Broadcasts
use Rattle.secrecy.proofs.Broadcasts.{among_append, among_posts, among_heard}

module _ (C : Run) (m : Moment) (S : State C m) where
  open C use {plan, draw, u, len}
  open m use {marks as M, vec, book as b, lines, posts as q}

  abbrev call : ℕ → Step → Call
  call i c = call_at plan draw u lines i c

  -- ---- the state after the call

  module _ (c : Step) (rule : Rule plan c 0 lines) (z : Broadcasts.Done C m S c) where
    abbrev M' : Marks
    M' = marks_all (acts c) M

    abbrev vec' : ℕ → Vector
    vec' = vectors_then plan draw u c M vec

    one_post : 1 ≤ plan.n
    one_post = omega (arith, (sizes plan C.sound).n_low)

    al : Allowed (acts c) (sends c) M
    al = Broadcasts.allowed_at C m S c z 1 (omega arith) one_post

    stand : (i : ℕ) → 1 ≤ i → i ≤ plan.n → Stands plan draw (len i) i M' vec' (after (perform (call i c) (q i)))
    stand i lo hi =
        subst (λ (v : ℕ → Vector). Stands plan draw (len i) i M' v (after (perform (call i c) (q i)))) (vectors_at plan draw u lines i c M vec)
        (subst (λ (todo : List Act). Stands plan draw (len i) i (marks_all todo M) (vectors_after plan draw (call i c) M vec) (after (perform (call i c) (q i))))
        (acts_at plan draw u lines i c)
        (stands_after (stand_at C m S i lo hi) (call i c) (z i lo hi)
        (fits C m S i lo hi c (Broadcasts.allowed_at C m S c z i lo hi) rule)))

    facts' : Facts plan draw (Held (entered u c b)) (Waits (entered u c b)) M' vec'
    facts' = facts_on C m S c al rule

    -- a line broadcast before still shows what it showed
    old_opening : (r j : ℕ) (xs : List ℕ) → AnOpening C r j xs → Among (opening_line r j xs) lines
        → (mark_of M' r ≡ held) × (xs ≡ numbers (v_length (plan_shape plan)) ((vec' r).v j))
    old_opening r j xs o a =
        let old = S.openings r j xs o a in
        let stays = held_stays plan draw Fixed (number_at plan draw u) (moves c) M vec S.sized al.moving r old.0 in
        (stays.0, old.1 ∙ sym (ap (λ (X : Vector). numbers (v_length (plan_shape plan)) (X.v j)) stays.1))

    old_masks : (r j : ℕ) (xs : List ℕ) → AMask C r j xs → Among (masks_line r j xs) lines
        → Past M' r × (Masked (mark_of M' r) → xs ≡ mask_numbers C M' vec' r j)
    old_masks r j xs o a =
        let old = S.maskings r j xs o a in
        (past_stays plan draw (acts c) M S.sized al.moving r old.0, λ five'. go (five_before plan draw (acts c) M S.sized al.moving r lr five') five' old)
      where
        lr : r < row_count_of
        lr = omega (arith, o.row)

        go : (Masked (mark_of M r) × (remembered_a M' r ≡ remembered_a M r) × (remembered_b M' r ≡ remembered_b M r)) ⊎ MasksIn (acts c) r → Masked (mark_of M' r)
            → Past M r × (Masked (mark_of M r) → xs ≡ mask_numbers C M vec r j) → xs ≡ mask_numbers C M' vec' r j
        go (inr at) five' old = absurd (unmasked plan draw (acts c) M S.sized al.moving r at old.0)
        go (inl (five, el, er)) five' old =
            let w = (S.facts r lr).waiting five in
            let t = (S.facts r lr).triple (inr five) in
            let t' = (facts' r lr).triple (inr five') in
            let ea : vec (remembered_a M r) ≡ vec' (remembered_a M' r) = sym (ap vec' el ∙ (held_stays plan draw Fixed (number_at plan draw u) (moves c) M vec S.sized al.moving (remembered_a M r) w.a_held).1) in
            let eb : vec (remembered_b M r) ≡ vec' (remembered_b M' r) = sym (ap vec' er ∙ (held_stays plan draw Fixed (number_at plan draw u) (moves c) M vec S.sized al.moving (remembered_b M r) w.b_held).1) in
            let e0 : vec r ≡ vec' r = t.is_a ∙ sym t'.is_a in
            let e1 : vec (r + 1) ≡ vec' (r + 1) = t.is_b ∙ sym t'.is_b in
            old.1 five
            ∙ (λ m. numbers (v_length (plan_shape plan)) ((less (ea m) (e0 m)).v j) ++ numbers (v_length (plan_shape plan)) ((less (eb m) (e1 m)).v j))

    abbrev pub onward : Moment
    onward =
        record {
          marks = M';
          vec = vec';
          book = entered u c b;
          lines = lines ++ lines_of plan draw u lines c q;
          posts = λ i. after (perform (call i c) (q i));
        }

    pub advance : State C onward
    advance =
        record {
          sized = sized_after (acts c) M S.sized;
          posts = stand;
          facts = facts';
          dealings = λ r x lr lx a. elim (among_append (text (Line.deal r x)) lines (lines_of plan draw u lines c q) a) [
            | inl l ↦ S.dealings r x lr lx l
            | inr l ↦ (let w = among_posts (text (Line.deal r x)) (λ i. cond (heard_from c i) (broadcast i (call i c) (perform (call i c) (q i))) []) plan.n l in
                absurd (deal_unsent r x w.0 _ (sends (call w.0 c)) _ (among_heard _ (heard_from c w.0) _ w.3)))
          ];
          openings = λ r j xs o a. elim (among_append (opening_line r j xs) lines (lines_of plan draw u lines c q) a) [
            | inl l ↦ old_opening r j xs o l
            | inr l ↦ (let w = among_posts (opening_line r j xs) (λ i. cond (heard_from c i) (broadcast i (call i c) (perform (call i c) (q i))) []) plan.n l in
                let n = Broadcasts.new_opening C m S w.0 w.1 w.2 c (z w.0 w.1 w.2) (Broadcasts.allowed_at C m S c z w.0 w.1 w.2) r j xs o (among_heard _ (heard_from c w.0) _ w.3) in
                (n.1, n.2))
          ];
          maskings = λ r j xs o a. elim (among_append (masks_line r j xs) lines (lines_of plan draw u lines c q) a) [
            | inl l ↦ old_masks r j xs o l
            | inr l ↦ (let w = among_posts (masks_line r j xs) (λ i. cond (heard_from c i) (broadcast i (call i c) (perform (call i c) (q i))) []) plan.n l in
                Broadcasts.new_masks C m S w.0 w.1 w.2 c (z w.0 w.1 w.2) (Broadcasts.allowed_at C m S c z w.0 w.1 w.2) rule r j xs o (among_heard _ (heard_from c w.0) _ w.3))
          ];
        }
