-- What a call that is not refused makes of a session's marks, factor rows and sets, whatever its records show: that the numbers remembered
-- are the masks' is not asked.
use Prim.Native.Nat.{ℕ, suc, ◌*◌, ◌≤◌}
use mathlib.Core.Path.{◌≡◌, refl, sym, ◌∙◌, ap, ap₂}
use mathlib.Core.List.{List, [], ◌∷◌, ◌++◌}
use native.Mathlib.Omega.{arith}
use lib.ListN.{length, set}
use Rattle.session.specs.declared.Session.{Session}
use Rattle.session.specs.Sessions.{summed_row}
use Rattle.collect.specs.Collect.{number_a, number_b}
use Rattle.terms.specs.declared.Term.{Term}
use Rattle.terms.specs.Listed.{products_of}
use Rattle.terms.proofs.Placing.{terms_again, factors_again}
use Rattle.relation.specs.Masks.{masked_terms}
use Rattle.relation.specs.Finish.{term_number_a, term_number_b, pair_done, finished_terms, relation_done}
use Rattle.relation.proofs.Passed.{relation_masks_made, relation_finished}
use Rattle.vectors.specs.Vector.{Vector}
use Rattle.runs.specs.Draws.{Plan, Draw}
use Rattle.runs.specs.Outline.{load_row_of, load_triple_of, deal, message, opening, linear, masks, collect, multiply, relation_masks_of, relation_finish_of, access, acts_in, finishing, summing, acts}
use Rattle.runs.specs.Calls.{Actual, Post, Call}
use Rattle.runs.proofs.Marks.{Marks, Opened, session_at, raw_vector, marks_all}
use Rattle.runs.proofs.Outcomes.{refusal_of, does}
use Rattle.runs.proofs.Relations.{done_is, finished_all}
use Rattle.runs.proofs.Related.{marks_products, masked_session}
use Rattle.runs.proofs.Summed.{rows_in}
use Rattle.runs.proofs.Standing.{post_at}

-- the session has these marks, and some numbers
abbrev pub With : Plan → Draw → ℕ → Marks → Session → Type 0
With plan draw i M s = (Y : Opened) × (s ≡ session_at plan draw i M Y)

module _ (plan : Plan) (draw : Draw) (i : ℕ) (s₀ : Session) (rows blocks : List ℕ) where
  -- the products of a relation
  finished_with : (k : ℕ) (ts : List Term) (M : Marks) (Y : Opened) → With plan draw i (finished_all ts M) (finished_terms s₀ rows blocks k ts (session_at plan draw i M Y))
  unfolding finished_terms
  finished_with k [] M Y = (Y, refl)
  finished_with k (t ∷ ts) M Y =
      let r = t.first in
      let Y' : Opened = record { y_a_is = set Y.y_a_is r (term_number_a s₀ rows blocks k t); y_b_is = set Y.y_b_is r (term_number_b s₀ rows blocks k t) } in
      let o = finished_with (suc k) ts _ Y' in
      (o.0, ap (λ (N : Marks). finished_terms s₀ rows blocks (suc k) ts (session_at plan draw i N Y')) (done_is M r) ∙ o.1)

module _ (plan : Plan) (draw : Draw) (i : ℕ) (M : Marks) (Y : Opened) (l : List ℕ) where
  abbrev s : Session
  s = session_at plan draw i M Y

  abbrev p0 : Post
  p0 = post_at plan draw i M Y l

  -- then the sum
  done_with : (ts : List Term) (d : ℕ) (blocks : List ℕ) → 1 ≤ length ts
      → With plan draw i (marks_all (acts_in Actual (finishing Actual (2 * length (products_of ts)) blocks 0 (products_of ts) ++ summing Actual d ts)) M)
      (relation_done s l blocks (products_of ts) ts d)
  done_with [] d blocks some = absurd (omega arith)
  done_with (t ∷ ts) d blocks some =
      let fs = products_of (t ∷ ts) in
      let o = finished_with plan draw i s l blocks 0 fs M Y in (
        o.0,
        ap₂ (λ (x : Session) (rs : List ℕ). summed_row x d rs) o.1 (sym (rows_in (t ∷ ts)))
            ∙ ap (λ (N : Marks). session_at plan draw i N o.0) (sym (marks_products plan draw (2 * length fs) blocks (summing Actual d (t ∷ ts)) 0 fs M)),
      )

  pub remains : (c : Call) → refusal_of c p0 ≡ 0 → With plan draw i (marks_all (acts c) M) (does c p0).session
  remains (load_row_of x) z = (Y, refl)
  remains (load_triple_of x) z = (Y, refl)
  remains (deal x) z = (Y, refl)
  remains (message x) z = (Y, refl)
  remains (opening x) z = (Y, refl)
  remains (linear x) z = (Y, refl)
  remains (masks x) z = (Y, refl)
  remains (collect x) z = (record { y_a_is = set Y.y_a_is x.r (number_a s l x.r x.blocks_a); y_b_is = set Y.y_b_is x.r (number_b s l x.r x.blocks_b) }, refl)
  remains (multiply x) z = (Y, refl)
  remains (relation_masks_of x) z =
      let f = (relation_masks_made s l x.terms x.lent z).placed in
      (_, ap (masked_terms s) (factors_again x.terms f.few) ∙ masked_session plan draw i (products_of x.terms) M (raw_vector plan draw) Y)
  remains (relation_finish_of x) z =
      let f = (relation_finished s x.terms x.r x.blocks l z).checked.placed in
      let o = done_with x.terms x.r x.blocks f.some in
      (o.0, ap₂ (λ (fs ts : List Term). relation_done s l x.blocks fs ts x.r) (factors_again x.terms f.few) (terms_again x.terms f.few) ∙ o.1)
  remains (access x) z = (Y, refl)
