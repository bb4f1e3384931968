-- A relation's number by the ledger, and what its row opens to.
use Prim.Native.Nat.{ℕ, suc, ◌+◌, ◌*◌, ◌%◌, ◌≤◌}
use mathlib.Core.Path.{◌≡◌, refl, sym, ◌∙◌, ap, ap₂, subst}
use mathlib.Core.Bool.{Bool, true, false}
use mathlib.Core.Logic.{inl}
use mathlib.Core.List.{List, [], ◌∷◌, ◌++◌, map}
use native.Mathlib.Nat.{add-mod, add-zero}
use native.Mathlib.Omega.{arith}
use lib.ListN.{length, take, drop}
use Rattle.field.specs.Modulus.{p}
use Rattle.field.specs.Arithmetic as Arithmetic
use Rattle.field.proofs.Residues.{mul_mod_mod}
use Rattle.poly.specs.Counting.{All}
use Rattle.poly.proofs.Lists.{all_zip, all_second}
use Rattle.shape.specs.Marks.{masked}
use Rattle.shape.specs.Lengths.{needed, v_length}
use Rattle.session.specs.declared.Session.{Session}
use Rattle.session.specs.Sessions.{shape_of}
use Rattle.opening.specs.Walking.{too_few_of, disagree}
use Rattle.product_masks.specs.Masks.{mask_row}
use Rattle.vectors.specs.Vector.{Vector, numbers}
use Rattle.vectors.specs.Claims.{held_row}
use Rattle.vectors.proofs.Shares.{true_agree}
use Rattle.terms.specs.declared.Term.{Term}
use Rattle.terms.specs.Listed.{plain, products_of, collected}
use Rattle.relation.specs.Tests.{by_kind}
use Rattle.relation.specs.Finish.{record_a_of, record_b_of, term_mask_a, term_mask_b, relation_finish_answer}
use Rattle.relation.proofs.Passed.{products_back, relation_finished}
use Rattle.runs.specs.Draws.{Plan, Draw, plan_shape}
use Rattle.runs.specs.Outline.{Move, moves, finishing, summand, summing}
use Rattle.runs.specs.Calls.{Post, Actual, Call, relation_finish_of}
use Rattle.runs.specs.Orders.{call, carry, comes_to, Asked}
use Rattle.runs.proofs.Outlines.{every_all}
use Rattle.runs.proofs.Outcomes.{refusal_of, refusal_is}
use Rattle.runs.proofs.Marks.{Marks, mark_of, remembered_a, remembered_b, mask_vector_a, mask_vector_b}
use Rattle.runs.proofs.Allowed.{waiting}
use Rattle.runs.proofs.Start.{sizes}
use Rattle.runs.proofs.Steps.{post_at, named}
use Rattle.correctness.specs.History.{Event, World, desk, answer_of, step, history, begin, Each}
use Rattle.correctness.specs.Ledger.{Ledger, Meaning, summed, product, WrittenBy, Written, PlainOf, of_times, of_more, of_product, Plain}
use Rattle.correctness.specs.Truth.{TrueMask, TrueOf}
use Rattle.correctness.specs.Claim.{Premises, how_many}
use Rattle.correctness.specs.Relation.{term_sum, SumIn, RelationIn, RelationNumber, RelationShown, EachAt, Ready, Enough, AllTrue, Related, RelationsFinish}
use Rattle.correctness.proofs.Meanings.{one_number}
use Rattle.correctness.proofs.Standing.{Good}
use Rattle.correctness.proofs.Theorems.{end, lens, stands, correct}
use Rattle.correctness.proofs.Accepting.{not_few}
use Rattle.correctness.proofs.Fitting.{all_true_of, AllSaid, told_a, told_b}
use Rattle.correctness.proofs.Permitted as Permitted
use Rattle.correctness.proofs.Permitted.{Stander, stander_of}
use Rattle.correctness.proofs.Openings.{mask_a_is, mask_b_is}
use Rattle.correctness.proofs.Walking.{Inv, after_event}
use Rattle.correctness.proofs.Keeping.{held_in, stays_held, held_now}
use Rattle.correctness.proofs.Relating.{relation_few, relation_done_is, relation_otherwise, relation_thirteen}
use Rattle.correctness.proofs.Recalling.{relation_agreed}

-- ---- by the ledger

module _ (L : Ledger) (number : ℕ → ℕ) where
  abbrev Own : Term → Type 0
  Own t = Plain L t.row (number t.row) × (plain t ≡ false → Plain L t.second (number t.second))

  abbrev Product : Term → Type 0
  Product t = L (t.first + 2) ≡ product t.first t.row t.second

  -- the number of a term's row, or of its product
  abbrev in_row : Bool → Term → ℕ
  in_row b t = by_kind b (number t.row) (Arithmetic.product (number t.row) (number t.second))

  row_number : (t : Term) (b : Bool) → plain t ≡ b → Own t → (plain t ≡ false → Product t) → PlainOf L (L (by_kind b t.row (t.first + 2))) (in_row b t)
  row_number t true e own is = own.0
  row_number t false e own is = subst (λ (m : Meaning). PlainOf L m (in_row false t)) (sym (is e)) (of_product own.0 (own.1 e))

  term_number : (t : Term) (b : Bool) → Arithmetic.product t.coefficient (in_row b t)
      ≡ (t.coefficient * by_kind b (number t.row) (number t.row * number t.second)) % p
  unfolding Arithmetic.product
  term_number t true = refl
  term_number t false = mul_mod_mod t.coefficient (number t.row * number t.second) p

  summand_is : (t : Term) → Own t → (plain t ≡ false → Product t)
      → PlainOf L (summed (summand t) []) ((t.coefficient * by_kind (plain t) (number t.row) (number t.row * number t.second)) % p)
  summand_is t own is = subst (PlainOf L (summed (summand t) [])) (term_number t (plain t)) (of_times (row_number t (plain t) refl own is))

  sum_is : (t : Term) (ts : List Term) → All Own (t ∷ ts) → All (λ t. plain t ≡ false → Product t) (t ∷ ts)
      → PlainOf L (summed (summand t) (map summand ts)) (term_sum number (t ∷ ts) % p)
  unfolding Arithmetic.sum
  sum_is t [] own is =
      subst (PlainOf L (summed (summand t) [])) (ap (λ (k : ℕ). k % p) (sym (add-zero _))) (summand_is t own.0 is.0)
  sum_is t (t' ∷ ts) own is =
      subst (PlainOf L (summed (summand t) (map summand (t' ∷ ts)))) (sym (add-mod _ (term_sum number (t' ∷ ts)) p))
      (of_more (summand_is t own.0 is.0) (sum_is t' ts own.1 is.1))

pub relation_number : RelationNumber
relation_number L r [] number h own = absurd h.sum
relation_number L r (t ∷ ts) number h own =
    subst (λ (m : Meaning). PlainOf L m (term_sum number (t ∷ ts) % p)) (sym h.sum)
    (sum_is L number t ts own (products_back (Product L number) (t ∷ ts) h.products))

-- ---- in a run

module _ (S : ℕ → Type 0) (P : ℕ → Call → World → Type 0) where
  each_before : (xs ys : List Event) (w : World) → Each S P (xs ++ ys) w → Each S P xs w
  each_before [] ys w h = tt
  each_before (x ∷ xs) ys w h = (h.0, each_before xs ys (step x w) h.1)

  each_behind : (xs ys : List Event) (w : World) → Each S P (xs ++ ys) w → Each S P ys (history xs w)
  each_behind [] ys w h = h
  each_behind (x ∷ xs) ys w h = each_behind xs ys (step x w) h.1

  each_at : (xs ys : List Event) (e : Event) (w : World) → Each S P (xs ++ (e ∷ ys)) w → S e.post
      → (answer_of e (history xs w)).refusal ≡ 0 → Asked (λ c. P e.post c (history xs w)) (comes_to e.order (desk (history xs w) e.post))
  each_at [] ys e w h = h.0
  each_at (x ∷ xs) ys e w h = each_at xs ys e (step x w) h.1

history_join : (xs ys : List Event) (w : World) → history (xs ++ ys) w ≡ history ys (history xs w)
history_join [] ys w = refl
history_join (x ∷ xs) ys w = history_join xs ys (step x w)

-- a post that stands by the ledger, and finishes the relation as the ledger has it
module _ (plan : Plan) (draw : Draw) (L : Ledger) (len i : ℕ) (q : Post) (g : Good plan draw L len i q) (ts : List Term) (r : ℕ) (records : List ℕ) where
  abbrev c : Call
  c = relation_finish_of ts r records

  abbrev M : Marks
  M = g.marks

  abbrev In : Post → Type 0
  In x = refusal_of (relation_finish_of ts r records) x ≡ 0 → RelationIn L r ts

  sum_in : (l : List Term) → 1 ≤ length l → All (λ (m : Move Actual). WrittenBy draw L m.0 m.1) (summing Actual r l) → SumIn L r l
  sum_in [] some w = absurd (omega arith)
  sum_in (t ∷ l) some w = w.0

  writes : Written draw L (relation_finish_of ts r records) → refusal_of (relation_finish_of ts r records) q ≡ 0 → RelationIn L r ts
  writes w =
      subst In (sym (named plan draw len i M g.vec q g.stands)) (λ z.
      let f = (relation_finished (post_at plan draw i M g.stands.opened q.rows).session ts r records q.rows z).checked.placed in
      let fs = products_of ts in
      record {
        sum = sum_in ts f.some (all_second _ (finishing Actual (2 * length fs) records 0 fs) (summing Actual r ts) (every_all _ (moves c) w));
        products =
            all_zip (λ t k e. ((g.facts t.first (omega (arith, k.r_low))).waiting (inl k.first)).means ∙ ap₂ (product t.first) e.0 e.1) fs
            (waiting plan draw i M g.stands.opened q.rows ts r records f) f.remembered;
      })

pub relation_shown : RelationShown
unfolding lens end carry
relation_shown plan draw L S rows states before behind i r ts records h lo hi among z = (
  is_in,
  held_there,
  λ number own j lj hj in-s blocks held proper enough true.
      let o = ((correct plan draw L S rows states (before ++ (e ∷ behind)) h j lj hj in-s).opens r blocks held proper).exact enough true in
      let v = one_number L r _ _ o.1 (relation_number L r ts number is_in own) in
      record { done = o.0; value = v; zero_if = λ k. v ∙ k; only_if = λ k. sym v ∙ k },
)
  where
    e : Event
    e = record { post = i; order = call (relation_finish_of ts r records) }

    w : World
    w = begin plan draw rows states

    early : Premises plan draw L S before rows states
    early = record {
      sound = h.sound;
      is_draw = h.is_draw;
      parts = each_before S _ before _ (begin plan draw rows states) h.parts;
      ledger = each_before S _ before _ (begin plan draw rows states) h.ledger;
      finishes = each_before S _ before _ (begin plan draw rows states) h.finishes;
    }

    before_it : World
    before_it = history before (begin plan draw rows states)

    there : Inv plan draw L S h.sound h.is_draw (λ k. length (rows k)) (history before (begin plan draw rows states))
    there = stands plan draw L S rows states before early

    held_there : held_in ((history (before ++ (record { post = i; order = call (relation_finish_of ts r records) } ∷ behind)) (begin plan draw rows states)).posts i) r
    held_there =
        let o = each_behind S _ before (e ∷ behind) (begin plan draw rows states) h.parts in
        let y = each_behind S _ before (e ∷ behind) (begin plan draw rows states) h.ledger in
        let t = each_behind S _ before (e ∷ behind) (begin plan draw rows states) h.finishes in
        subst (λ (x : World). held_in (x.posts i) r) (sym (history_join before (e ∷ behind) (begin plan draw rows states)))
        (stays_held plan draw L S h.sound h.is_draw (λ k. length (rows k)) i lo hi among r behind (step e before_it)
        (after_event plan draw L S h.sound h.is_draw (λ k. length (rows k)) before_it there e o.0 y.0 t.0) o.1 y.1 t.1
        (held_now plan draw L S h.sound h.is_draw (λ k. length (rows k)) i lo hi among r before_it there ts records z (o.0 among z) (t.0 among z)))

    is_in : RelationIn L r ts
    is_in =
        writes plan draw L (length (rows i)) i ((history before (begin plan draw rows states)).posts i)
        ((stands plan draw L S rows states before early).posts i lo hi among) ts r records
        (each_at S _ before behind (record { post = i; order = call (relation_finish_of ts r records) }) (begin plan draw rows states) h.ledger among z)
        (sym (refusal_is (relation_finish_of ts r records) ((history before (begin plan draw rows states)).posts i)) ∙ z)

-- ---- the answer of a finish

-- where each accepted polynomial of a term's two records is true, no share is off
module _ (G : Stander) (S : ℕ → Type 0) (w : World) (said : AllSaid G.plan G.draw G.ledger G.sound G.is_draw S w) (blocks : List ℕ) where
  open G use {plan, draw, ledger as L, sound, is_draw as is, marks as M', vec, rows as l, known as f}

  abbrev s : Session
  s = Permitted.s G

  abbrev H : (List ℕ → List ℕ) → ℕ → ℕ → List ℕ → Type 0
  H = TrueMask S w (plan_shape plan)

  agrees : (x : List ℕ) (X : Vector) → x ≡ held_row s X → (half : List ℕ → List ℕ) (r : ℕ)
      → ((j : ℕ) → 1 ≤ j → j ≤ plan.n → (xs : List ℕ) → H half r j xs → xs ≡ numbers (v_length (plan_shape plan)) (X.v j))
      → (bl : List ℕ) → needed (shape_of s) ≤ how_many s x bl → TrueOf (H half r) s x bl → disagree s x bl ≡ false
  agrees x X e half r theirs bl many t =
      ap (λ (y : List ℕ). disagree s y bl) e
      ∙ true_agree s X bl (sizes plan sound).n_element (sym (ap (λ (y : List ℕ). too_few_of s y bl) e) ∙ not_few s x bl many)
      (all_true_of s X bl (H half r) x e (λ j lj hj ne o. theirs j lj hj _ o) t)

  all_agree_is : (k : ℕ) (us : List Term)
      → All (λ t. (mark_of M' t.first ≡ masked) × (remembered_a M' t.first ≡ t.row) × (remembered_b M' t.first ≡ t.second)) us
      → EachAt (Enough (Permitted.q G) blocks) k us → EachAt (AllTrue (TrueMask S w (plan_shape plan)) (Permitted.q G) blocks) k us
      → EachAt (λ k t. (disagree s (term_mask_a s l t) (record_a_of s blocks k) ≡ false) × (disagree s (term_mask_b s l t) (record_b_of s blocks k) ≡ false)) k us
  all_agree_is k [] h e t = tt
  all_agree_is k (u ∷ us) h e t =
      let r = u.first in
      let five = h.0.0 in
      let ok = Permitted.waiting G r five in (
        (
          agrees (term_mask_a s l u) (mask_vector_a M' vec r) (ap (λ (x : ℕ). mask_row (shape_of s) l x r) (sym h.0.1) ∙ mask_a_is G r five) (take (v_length (plan_shape plan))) r
              (told_a plan draw L sound is S w said M' vec f r ok) (record_a_of s blocks k) e.0.0 t.0.0,
          agrees (term_mask_b s l u) (mask_vector_b M' vec r) (ap (λ (x : ℕ). mask_row (shape_of s) l x (r + 1)) (sym h.0.2) ∙ mask_b_is G r five) (drop (v_length (plan_shape plan))) r
              (told_b plan draw L sound is S w said M' vec f r ok) (record_b_of s blocks k) e.0.1 t.0.1,
        ),
        all_agree_is (suc k) us h.1 e.1 t.1,
      )

pub relations_finish : RelationsFinish
unfolding end
relations_finish plan draw L S rows states es h i lo hi among ts r blocks =
    let v = stands plan draw L S rows states es h in let g = v.posts i lo hi among in
    let G = stander_of plan draw L h.sound h.is_draw _ i lo hi (w.posts i) g in
    subst
    (λ (q : Post).
    Ready q ts r blocks
    → Related plan draw L (TrueMask S w (plan_shape plan)) q ts blocks (relation_finish_answer q.session q.rows (collected ts) r blocks))
    (sym (named plan draw _ i g.marks g.vec (w.posts i) g.stands))
    (λ ready. record {
      few = relation_few G ts r blocks ready;
      exact = λ e t. relation_done_is G ts r blocks ready e (all_agree_is G S w v.lines blocks 0 (products_of ts) ready.products e t);
      agreed = relation_agreed G S w v.lines blocks ts r ready;
      otherwise = relation_otherwise G ts r blocks ready;
      thirteen = relation_thirteen G ts r blocks ready;
    })
  where
    w : World
    w = history es (begin plan draw rows states)
