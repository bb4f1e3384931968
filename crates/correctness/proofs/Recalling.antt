-- A relation's finish with t+1 true polynomials of each record: done, and y and y' of each product term are remembered; or 13.
use Prim.Native.Nat.{ℕ, suc, ◌+◌, ◌<◌}
use mathlib.Core.Path.{◌≡◌, refl, sym, ◌∙◌, ap, ap₂, subst}
use mathlib.Core.Logic.{◌≢◌, ◌⊎◌, inl, inr}
use mathlib.Core.List.{List, [], ◌∷◌}
use native.Mathlib.Omega.{arith}
use lib.ListN.{length, take, drop, length-set}
use lib.Seq.{get_or-set_same, get_or-set_other}
use Rattle.poly.specs.Counting.{All}
use Rattle.poly.proofs.Lists.{all_map}
use Rattle.shape.specs.Bounds.{row_count_of}
use Rattle.shape.specs.Lengths.{v_length}
use Rattle.session.specs.declared.Session.{Session}
use Rattle.session.specs.Sessions.{shape_of, opened_a_of, opened_b_of}
use Rattle.product_masks.specs.Masks.{mask_row}
use Rattle.vectors.specs.Claims.{held_row}
use Rattle.terms.specs.declared.Term.{Term}
use Rattle.terms.specs.Listed.{products_of, collected}
use Rattle.terms.proofs.Placing.{terms_again, factors_again}
use Rattle.relation.specs.Finish.{record_a_of, record_b_of, term_mask_a, term_mask_b, term_number_a, term_number_b, pair_done, finished_terms, relation_done}
use Rattle.relation.specs.Finish.{relation_finish_refusal, relation_finish_answer}
use Rattle.relation.proofs.Passed.{AllAt, Agreed, relation_finished}
use Rattle.runs.specs.Draws.{plan_shape}
use Rattle.runs.specs.Calls.{Post}
use Rattle.runs.proofs.Marks.{mask_vector_a, mask_vector_b}
use Rattle.runs.proofs.Outcomes.{answer_refusal, settled}
use Rattle.runs.proofs.Relations.{Apart, apart}
use Rattle.correctness.specs.History.{World}
use Rattle.correctness.specs.Truth.{TrueMask}
use Rattle.correctness.specs.Claim.{Remembers}
use Rattle.correctness.specs.Relation.{EachAt, Waits, Ready, Enough, SomeTrue}
use Rattle.correctness.proofs.Fitting.{AllSaid, told_a, told_b}
use Rattle.correctness.proofs.Permitted as Permitted
use Rattle.correctness.proofs.Permitted.{Stander, below, waiting}
use Rattle.correctness.proofs.Halves.{many, opens_to}
use Rattle.correctness.proofs.Openings.{mask_a_is, mask_b_is, remembered}
use Rattle.correctness.proofs.Relating.{relation_otherwise}

-- ---- the numbers in the session that a finish hands back

module _ (s : Session) (rows blocks : List ℕ) where
  -- those of a triple that is none of these terms'
  kept : (k : ℕ) (us : List Term) (now : Session) (x : ℕ) → All (λ t. t.first ≢ x) us
      → (opened_a_of (finished_terms s rows blocks k us now) x ≡ opened_a_of now x) × (opened_b_of (finished_terms s rows blocks k us now) x ≡ opened_b_of now x)
  unfolding finished_terms
  kept k [] now x a = (refl, refl)
  kept k (t ∷ us) now x a =
      let rest = kept (suc k) us (pair_done now t.first (term_number_a s rows blocks k t) (term_number_b s rows blocks k t)) x a.1 in (
        rest.0 ∙ get_or-set_other now.y_a t.first x _ 0 (λ e. a.0 (sym e)),
        rest.1 ∙ get_or-set_other now.y_b t.first x _ 0 (λ e. a.0 (sym e)),
      )

  -- and those of each term's own: what its records opened
  recalled : (k : ℕ) (us : List Term) (now : Session) → All (λ t. t.first < row_count_of) us → Apart us
      → length now.y_a ≡ row_count_of → length now.y_b ≡ row_count_of
      → EachAt (λ j t.
      (opened_a_of (finished_terms s rows blocks k us now) t.first ≡ term_number_a s rows blocks j t)
      × (opened_b_of (finished_terms s rows blocks k us now) t.first ≡ term_number_b s rows blocks j t)) k us
  unfolding finished_terms
  recalled k [] now low a ea eb = tt
  recalled k (t ∷ us) now low a ea eb =
      let then = pair_done now t.first (term_number_a s rows blocks k t) (term_number_b s rows blocks k t) in
      let stay = kept (suc k) us then t.first a.0 in (
        (
          stay.0 ∙ get_or-set_same now.y_a t.first _ 0 (omega (arith, ea, low.0)),
          stay.1 ∙ get_or-set_same now.y_b t.first _ 0 (omega (arith, eb, low.0)),
        ),
        recalled (suc k) us then low.1 a.1 (length-set now.y_a t.first _ ∙ ea) (length-set now.y_b t.first _ ∙ eb),
      )

module _ (G : Stander) (S : ℕ → Type 0) (w : World) (said : AllSaid G.plan G.draw G.ledger G.sound G.is_draw S w) (blocks : List ℕ) where
  open G use {plan, draw, ledger as L, sound, is_draw as is, marks as M, vec, rows as l, recalls, known as f}

  abbrev s : Session
  s = Permitted.s G

  abbrev q : Post
  q = Permitted.q G

  abbrev H : (List ℕ → List ℕ) → ℕ → ℕ → List ℕ → Type 0
  H = TrueMask S w (plan_shape plan)

  -- ---- both records of a product term

  module _ (k : ℕ) (t : Term) (h : Waits s t) (o : SomeTrue H q blocks k t) where
    abbrev r : ℕ
    r = t.first

    is_a : term_mask_a s l t ≡ held_row s (mask_vector_a M vec t.first)
    is_a = ap (λ (x : ℕ). mask_row (shape_of s) l x r) (sym h.1) ∙ mask_a_is G r h.0

    is_b : term_mask_b s l t ≡ held_row s (mask_vector_b M vec t.first)
    is_b = ap (λ (x : ℕ). mask_row (shape_of s) l x (r + 1)) (sym h.2) ∙ mask_b_is G r h.0

    abbrev v : ℕ
    v = v_length (plan_shape plan)

    both_enough : Enough q blocks k t
    both_enough =
        let ok = waiting G r h.0 in (
          many G S w (take v) r (term_mask_a s l t) (mask_vector_a M vec r) is_a (told_a plan draw L sound is S w said M vec f r ok) (record_a_of s blocks k) o.0,
          many G S w (drop v) r (term_mask_b s l t) (mask_vector_b M vec r) is_b (told_b plan draw L sound is S w said M vec f r ok) (record_b_of s blocks k) o.1,
        )

    both_remembered : Agreed s l blocks k t → (s' : Session) → opened_a_of s' t.first ≡ term_number_a s l blocks k t
        → opened_b_of s' t.first ≡ term_number_b s l blocks k t → Remembers plan draw L s' t.first
    both_remembered on s' ea eb =
        let ok = waiting G r h.0 in
        remembered G r (below G r h.0) (inl h.0) s'
        (ea
        ∙ opens_to G S w (take v) r (term_mask_a s l t) (mask_vector_a M vec r) is_a (told_a plan draw L sound is S w said M vec f r ok)
        (record_a_of s blocks k) o.0 on.0)
        (eb
        ∙ opens_to G S w (drop v) r (term_mask_b s l t) (mask_vector_b M vec r) is_b (told_b plan draw L sound is S w said M vec f r ok)
        (record_b_of s blocks k) o.1 on.1)

  -- ---- all of them

  all_enough : (k : ℕ) (us : List Term) → All (Waits (Permitted.s G)) us → EachAt (SomeTrue (TrueMask S w (plan_shape plan)) (Permitted.q G) blocks) k us
      → EachAt (Enough (Permitted.q G) blocks) k us
  all_enough k [] h o = tt
  all_enough k (t ∷ us) h o = (both_enough k t h.0 o.0, all_enough (suc k) us h.1 o.1)

  all_remembered : (s' : Session) (k : ℕ) (us : List Term) → All (Waits (Permitted.s G)) us
      → EachAt (SomeTrue (TrueMask S w (plan_shape plan)) (Permitted.q G) blocks) k us → AllAt (Agreed (Permitted.s G) l blocks) k us
      → EachAt (λ j t. (opened_a_of s' t.first ≡ term_number_a s l blocks j t) × (opened_b_of s' t.first ≡ term_number_b s l blocks j t)) k us
      → All (λ t. Remembers plan draw L s' t.first) us
  all_remembered s' k [] h o on y = tt
  all_remembered s' k (t ∷ us) h o on y =
      (both_remembered k t h.0 o.0 on.0 s' y.0.0 y.0.1, all_remembered s' (suc k) us h.1 o.1 on.1 y.1)

  module _ (ts : List Term) (r : ℕ) (ready : Ready (Permitted.q G) ts r blocks) where
    abbrev fs : List Term
    fs = products_of ts

    -- the session that is handed back, where it is done
    after : relation_finish_refusal s l (collected ts) r blocks ≡ 0
        → (relation_finish_answer s l (collected ts) r blocks).session ≡ relation_done s l blocks (products_of ts) ts r
    after z =
        ap (λ (x : Post). x.session) (settled (relation_finish_refusal s l (collected ts) r blocks) 0 _ s l l z)
        ∙ ap₂ (λ (us vs : List Term). relation_done s l blocks us vs r) (factors_again ts ready.count.1) (terms_again ts ready.count.1)

    done_right : EachAt (SomeTrue (TrueMask S w (plan_shape plan)) (Permitted.q G) blocks) 0 (products_of ts)
        → relation_finish_refusal s l (collected ts) r blocks ≡ 0
        → All (λ t. Remembers plan draw L (relation_finish_answer s l (collected ts) r blocks).session t.first) (products_of ts)
    done_right t z =
        subst (λ (s' : Session). All (λ t. Remembers plan draw L s' t.first) fs) (sym (after z))
        (all_remembered (relation_done s l blocks fs ts r) 0 fs ready.products t (relation_finished s ts r blocks l z).agreed
        (recalled s l blocks 0 fs s (all_map (λ t h. below G t.first h.0) fs ready.products) (apart fs ready.once)
        recalls.a_long recalls.b_long))

    pub relation_agreed : EachAt (SomeTrue (TrueMask S w (plan_shape plan)) (Permitted.q G) blocks) 0 (products_of ts)
        → (((relation_finish_answer s l (collected ts) r blocks).refusal ≡ 0)
        × All (λ t. Remembers plan draw L (relation_finish_answer s l (collected ts) r blocks).session t.first) (products_of ts))
        ⊎ ((relation_finish_answer s l (collected ts) r blocks).refusal ≡ 13)
    relation_agreed t = elim (relation_otherwise G ts r blocks ready (all_enough 0 fs ready.products t)) [
      | inl z ↦ inl (z, done_right t (sym (answer_refusal (relation_finish_refusal s l (collected ts) r blocks) 0 _ s) ∙ z))
      | inr z ↦ inr z
    ]
