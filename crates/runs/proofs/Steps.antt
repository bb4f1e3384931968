-- One post, one call that is not refused: the post still holds its part of every row's vector; and what it then sends.
use Prim.Native.Nat.{ℕ, suc, ◌≤◌}
use mathlib.Core.Path.{◌≡◌, refl, sym, ◌∙◌, ap, ap₂, subst}
use mathlib.Core.List.{List}
use native.Mathlib.Omega.{arith}
use lib.ListN.{length, take}
use Rattle.field.specs.Element.{element}
use Rattle.shape.specs.Lengths.{masks_length, v_length}
use Rattle.shape.specs.Marks.{collected as collectedMark}
use Rattle.session.specs.declared.Session.{Session}
use Rattle.session.specs.Sessions.{shape_of, marked, recalling}
use Rattle.session.specs.Rows.{width, coefficients, row_at}
use Rattle.load.proofs.Passed.{row_loaded, triple_loaded_lem}
use Rattle.deal.proofs.Passed.{dealt}
use Rattle.message.proofs.Passed.{MessageMade, message_made}
use Rattle.linear.proofs.Passed.{summed}
use Rattle.product_masks.proofs.Passed.{masks_made}
use Rattle.collect.proofs.Passed.{collected}
use Rattle.multiply.proofs.Passed.{multiplied}
use Rattle.terms.specs.declared.Term.{Term}
use Rattle.terms.specs.Listed.{products_of}
use Rattle.terms.proofs.Placing.{terms_again, factors_again}
use Rattle.relation.specs.Masks.{masked_terms, term_masks}
use Rattle.relation.specs.Finish.{with_products, with_sum, relation_done}
use Rattle.relation.proofs.Passed.{relation_masks_made, relation_finished}
use Rattle.vectors.specs.Vector.{Vector, numbers}
use Rattle.runs.specs.Draws.{Plan, Draw, IsDraw, point_of, plan_shape}
use Rattle.runs.specs.Outline.{load_row_of, load_triple_of, deal, message, opening, linear, masks, collect, multiply, relation_masks_of, relation_finish_of, access, maskings, moves, sends}
use Rattle.runs.specs.Calls.{Actual, Post, Call, pieces, perform, after}
use Rattle.runs.proofs.Marks.{Marks, no_numbers, session_at, mask_vector_a, mask_vector_b, number_in}
use Rattle.runs.proofs.Outcomes.{refusal_of, does, own, done, written_is, refused}
use Rattle.runs.proofs.Packs.{raw_pack_is, triple_pack_is}
use Rattle.runs.proofs.Holds.{Holds, holds_sets, Holder, session_of, held_row_is, load_holds, triple_holds, deal_holds, linear_holds, masks_holds, collect_holds}
use Rattle.runs.proofs.Finishing.{trusted_any, collect_a, collect_b, multiply_holds}
use Rattle.runs.proofs.Recalled.{Recalls, recalls_all}
use Rattle.runs.proofs.Related.{masked_session, masks_hold}
use Rattle.runs.proofs.Allowed.{allowed}
use Rattle.runs.proofs.Summed.{masks_at, all_masks, summed_up}
pub use Rattle.runs.proofs.Standing.{own_numbers, post_at, Stands, named, FitsWith, Fits, marks_after, vectors_after, opened_after_of, Says, SaysAll}

-- ---- a post that holds its rows

module _ (H : Holder) where
  open H use {plan, draw, len, post as i, marks as M, opened as Y, vec, rows as l, holds as h}

  abbrev s : Session
  s = session_of H

  abbrev p0 : Post
  p0 = post_at plan draw i M Y l

  abbrev Session' : Call → Type 0
  Session' c = (does c p0).session ≡ session_at plan draw i (marks_after plan draw c M) (opened_after_of plan draw c M vec Y)

  abbrev Holds' : Call → Type 0
  Holds' c = Holds plan draw len i (marks_after plan draw c M) (vectors_after plan draw c M vec) (does c p0).rows

  -- the call's own session and rows
  made : Recalls M vec Y → IsDraw plan draw → (c : Call) → refusal_of c p0 ≡ 0 → Fits plan draw i M vec c → Session' c × Holds' c
  made k is (load_row_of x) z fit =
      let f = row_loaded s l x.r x.pack z in (
        refl,
        load_holds H x.r x.pack _ (fit.0.1 ∙ raw_pack_is plan draw is x.r (omega (arith, f.row_in)) fit.0.0 i (omega (arith, f.framed.post_in))) f,
      )
  made k is (load_triple_of x) z fit =
      let f = triple_loaded_lem s l x.r x.pack z in (
        refl,
        triple_holds H x.r x.pack _ _ _
            (fit.0.1 ∙ triple_pack_is plan draw is x.r (omega (arith, f.triple_in)) fit.0.0 i (omega (arith, f.framed.post_in))) f,
      )
  made k is (deal x) z fit = (refl, deal_holds H x.r x.c (dealt s l x.r x.c z))
  made k is (message x) z fit = (refl, h)
  made k is (opening x) z fit = (refl, h)
  made k is (linear x) z fit =
      (refl, holds_sets plan draw len i _ _ _ _ (linear_holds H x.r x.a x.b x.scale x.fee (summed s l x.r x.a x.b x.scale x.fee z)))
  made k is (masks x) z fit = (refl, masks_holds H x.a x.b x.r (masks_made s l x.a x.b x.r x.lent z).placed.factors.first_mark)
  made k is (collect x) z fit =
      let ok = (allowed plan draw i M Y l (collect x) z).ready.0 in
      let f = collected s l x.r x.blocks_a x.blocks_b z in
      let fit-a = trusted_any plan draw i M no_numbers Y (mask_vector_a M vec x.r) x.blocks_a fit.0.0 in
      let fit-b = trusted_any plan draw i M no_numbers Y (mask_vector_b M vec x.r) x.blocks_b fit.0.1 in (
        ap₂ (λ (a b : ℕ). recalling (marked s x.r collectedMark) x.r a b)
            (collect_a H x.r x.blocks_a x.blocks_b ok f fit-a)
            (collect_b H x.r x.blocks_a x.blocks_b ok f fit-b),
        collect_holds H x.r ok.first,
      )
  made k is (multiply x) z fit =
      let f = multiplied s l x.r z in (refl, multiply_holds H x.r f (k.each x.r f.placed.first_mark))
  made k is (relation_masks_of x) z fit =
      let f = (relation_masks_made s l x.terms x.lent z).placed in
      let e = factors_again x.terms f.few in (
        ap (masked_terms s) e ∙ masked_session plan draw i (products_of x.terms) M vec Y,
        masks_hold plan draw i len (products_of x.terms) M Y vec l h (allowed plan draw i M Y l (relation_masks_of x) z).moving,
      )
  made k is (relation_finish_of x) z fit =
      let f = relation_finished s x.terms x.r x.blocks l z in
      let ef = factors_again x.terms f.checked.placed.few in
      let et = terms_again x.terms f.checked.placed.few in
      let o = summed_up H x.terms x.r x.blocks f fit in (
        ap₂ (λ (fs ts : List Term). relation_done s l x.blocks fs ts x.r) ef et ∙ o.0,
        subst (Holds plan draw len i (marks_after plan draw (relation_finish_of x) M) (vectors_after plan draw (relation_finish_of x) M vec))
            (ap₂ (λ (ts fs : List Term). with_sum s x.r ts (with_products s l x.blocks 0 fs l)) (sym et) (sym ef)) o.1,
      )
  made k is (access x) z fit = (refl, holds_sets plan draw len i M _ vec l h)

  moved : Recalls M vec Y → IsDraw plan draw → (c : Call) → refusal_of c p0 ≡ 0 → Fits plan draw i M vec c
      → Stands plan draw len i (marks_after plan draw c M) (vectors_after plan draw c M vec) (own (does c p0))
  moved k is c z fit = let o = made k is c z fit in
      record {
        opened = opened_after_of plan draw c M vec Y;
        session = o.0;
        holds = o.1;
        recalls = recalls_all plan draw Actual number_in (moves c) M vec Y k (allowed plan draw i M Y l c z).moving;
      }

  message_at : (r : ℕ) (lent : List ℕ) → MessageMade s l r lent → coefficients s (row_at (width s) l r) ≡ numbers (v_length (plan_shape plan)) ((vec r).v i)
  message_at r lent f =
      ap (take (v_length (plan_shape plan))) (held_row_is H r f.placed.row_in f.placed.is_held)
      ∙ own_numbers (plan_shape plan) i (point_of plan draw i) (vec r)

  says_at : (c : Call) → refusal_of c p0 ≡ 0 → SaysAll plan draw i vec (sends c) (does c p0).written
  says_at (load_row_of x) z = tt
  says_at (load_triple_of x) z = tt
  says_at (deal x) z = tt
  says_at (message x) z = (message_at x.r x.lent (message_made s l x.r x.caller x.lent z), tt)
  says_at (opening x) z = tt
  says_at (linear x) z = tt
  says_at (masks x) z = (masks_at H x.a x.b x.r (masks_made s l x.a x.b x.r x.lent z).placed.factors, tt)
  says_at (collect x) z = tt
  says_at (multiply x) z = tt
  says_at (relation_masks_of x) z =
      let f = (relation_masks_made s l x.terms x.lent z).placed in
      subst (λ (fs : List Term). SaysAll plan draw i vec (maskings (products_of x.terms)) (pieces (masks_length (shape_of s)) (length (products_of x.terms)) (term_masks (shape_of s) l fs)))
      (sym (factors_again x.terms f.few)) (all_masks H (products_of x.terms) f.factors)
  says_at (relation_finish_of x) z = tt
  says_at (access x) z = tt

-- ---- a post that stands, and a call of it

pub record Stand : Type 0 where
  pub plan : Plan
  pub draw : Draw
  pub is_draw : IsDraw plan draw
  pub len : ℕ
  pub post : ℕ
  pub high : post ≤ plan.n
  pub marks : Marks
  pub vec : ℕ → Vector
  pub state : Post
  pub stands : Stands plan draw len post marks vec state

module _ (U : Stand) where
  open U use {plan, draw, len, post as i, marks as M, vec, state as q, stands as h}

  abbrev H : Holder
  H = record { plan = plan; draw = draw; len = len; post = i; marks = M; opened = h.opened; vec = vec; rows = q.rows; holds = h.holds }

  abbrev p0' : Post
  p0' = post_at plan draw i M h.opened q.rows

  is_p0 : p0' ≡ q
  is_p0 = sym (named plan draw len i M vec q h)

  -- that is refused
  pub stands_refused : (c : Call) (k : ℕ) → refusal_of c q ≡ suc k → Stands plan draw len i M vec (after (perform c q))
  stands_refused c k e =
      let o = refused c q k e in
      record { opened = h.opened; recalls = h.recalls; session = o.0 ∙ h.session; holds = subst (Holds plan draw len i M vec) (sym o.1) h.holds }

  -- any that is not
  abbrev After : Call → Post → Type 0
  After c = Stands plan draw len i (marks_after plan draw c M) (vectors_after plan draw c M vec)

  pub stands_after : (c : Call) → refusal_of c q ≡ 0 → Fits plan draw i M vec c → After c (after (perform c q))
  stands_after c =
      subst (λ (x : Post). refusal_of c x ≡ 0 → Fits plan draw i M vec c → After c (after (perform c x))) is_p0
      (λ z fit. subst (After c) (sym (done c p0' z)) (moved H h.recalls U.is_draw c z fit))

  -- what its session is then
  pub session_after_is : (c : Call) → refusal_of c q ≡ 0 → Fits plan draw i M vec c
      → (after (perform c q)).session ≡ session_at plan draw i (marks_after plan draw c M) (opened_after_of plan draw c M vec h.opened)
  session_after_is c =
      subst
      (λ (x : Post). refusal_of c x ≡ 0 → Fits plan draw i M vec c
      → (after (perform c x)).session ≡ session_at plan draw i (marks_after plan draw c M) (opened_after_of plan draw c M vec h.opened)) is_p0
      (λ z fit. ap (λ (x : Post). x.session) (done c p0' z) ∙ (made H h.recalls U.is_draw c z fit).0)

  -- what it sends
  pub says : (c : Call) → refusal_of c q ≡ 0 → SaysAll plan draw i vec (sends c) (perform c q).lent
  says c =
      subst (λ (x : Post). refusal_of c x ≡ 0 → SaysAll plan draw i vec (sends c) (perform c x).lent) is_p0
      (λ z. subst (SaysAll plan draw i vec (sends c)) (sym (written_is c p0' z)) (says_at H c z))
