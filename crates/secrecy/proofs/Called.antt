-- A row that bars its caller: the message is refused, so that nothing is asked of its number.
use Prim.Native.Nat.{ℕ, zero, suc, ◌≤◌}
use mathlib.Core.Path.{◌≡◌, refl, sym, ◌∙◌, ap, subst}
use mathlib.Core.Bool.{Bool, true, false, not, ◌||◌}
use mathlib.Core.List.{List, [], ◌∷◌, ◌++◌}
use native.Mathlib.Omega.{arith}
use Rattle.shape.specs.Bounds.{last_row_at}
use Rattle.refusal.specs.Refusal.{outcome}
use Rattle.refusal.specs.Conditions.{outside}
use Rattle.refusal.proofs.Laws.{inside}
use Rattle.callers.specs.Sets.{bars}
use Rattle.message.proofs.Passed.{message_split, message_made}
use Rattle.vectors.specs.Vector.{Vector}
use Rattle.runs.specs.Outline.{load_row_of, load_triple_of, deal, message, opening, linear, masks, collect, multiply, relation_masks_of, relation_finish_of, access, acts}
use Rattle.runs.specs.Draws.{Plan, Sound}
use Rattle.runs.specs.Calls.{Post, new_post, after}
use Rattle.runs.specs.Callers.{Sets, all_posts, set_all, set_after}
use Rattle.runs.proofs.Marks.{Marks, marks_all}
use Rattle.runs.proofs.Outcomes as Outcomes
use Rattle.runs.proofs.Outcomes.{refusal_is, done_is}
use Rattle.runs.proofs.Steps.{post_at, named}
use Rattle.runs.proofs.Start.{sizes}
use Rattle.runs.proofs.Callers.{Tells, tells_start, tells_all}
use Rattle.secrecy.specs.Steps.{Secrets, Step, call_at}
use Rattle.secrecy.specs.Seen.{Entry, Seen, deal_lines}
use Rattle.secrecy.specs.Rules.{SameAnswers, Rule, refusal_of}
use Rattle.secrecy.specs.Book.{Book, blank, booked, Agrees}
use Rattle.secrecy.specs.Callers.{barred_by, called}
use Rattle.secrecy.proofs.CallRuns.{done_at, lines_of, entry_of, run, seen, Rules, Agree, AgreeCalled}
use Rattle.secrecy.proofs.CallClaims.{BarredAddNothing}
use Rattle.secrecy.proofs.Broadcasts.{allowed_at}
use Rattle.secrecy.proofs.State.{Run, Moment, State}
use Rattle.secrecy.proofs.Dealings.{fresh, begun}
use Rattle.secrecy.proofs.Advance.{advance}
use Rattle.secrecy.proofs.Onward.{idle_state}
use Rattle.secrecy.proofs.Runs.{same_refusal}

idle_is : {A : Type 0} (k j : ℕ) (new old : A) → k ≡ suc j → outcome k new old ≡ old
unfolding outcome
idle_is zero j new old e = absurd (omega arith)
idle_is (suc k) j new old e = refl

-- ---- one call

-- the message is refused
abbrev Barred : Run → Sets → Step → ℕ → Type 0
Barred C X (message x) k = barred_by C.plan X x.r x.caller ≡ true → k ≡ 0 → ⊥
Barred C X (load_row_of x) k = Unit {0}
Barred C X (load_triple_of x) k = Unit {0}
Barred C X (deal x) k = Unit {0}
Barred C X (opening x) k = Unit {0}
Barred C X (linear x) k = Unit {0}
Barred C X (masks x) k = Unit {0}
Barred C X (collect x) k = Unit {0}
Barred C X (multiply x) k = Unit {0}
Barred C X (relation_masks_of x) k = Unit {0}
Barred C X (relation_finish_of x) k = Unit {0}
Barred C X (access x) k = Unit {0}

agrees_of : (C : Run) (X : Sets) (c : Step) (k : ℕ) (b b' : Book) → Barred C X c k → (called C.plan X c ≡ true → Agrees c k b b') → Agrees c k b b'
agrees_of C X (message x) k b b' n h = λ z. go z (barred_by C.plan X x.r x.caller) refl
  where
    go : k ≡ 0 → (t : Bool) → barred_by C.plan X x.r x.caller ≡ t → b.place x.r ≡ b'.place x.r
    go z true e = absurd (n e z)
    go z false e = h (ap not e) z
agrees_of C X (load_row_of x) k b b' n h = h refl
agrees_of C X (load_triple_of x) k b b' n h = h refl
agrees_of C X (deal x) k b b' n h = h refl
agrees_of C X (opening x) k b b' n h = h refl
agrees_of C X (linear x) k b b' n h = h refl
agrees_of C X (masks x) k b b' n h = h refl
agrees_of C X (collect x) k b b' n h = h refl
agrees_of C X (multiply x) k b b' n h = h refl
agrees_of C X (relation_masks_of x) k b b' n h = h refl
agrees_of C X (relation_finish_of x) k b b' n h = h refl
agrees_of C X (access x) k b b' n h = h refl

clash : (t : Bool) → t ≡ true → t ≡ false → ⊥
clash t e g = let w : true ≡ false = sym e ∙ g in let v : ◌≡◌ {A = ℕ} 0 1 = cc in omega arith

or_left : (a b : Bool) → (a || b) ≡ false → a ≡ false
or_left true b e = e
or_left false b e = refl

-- a caller who is not barred is in the row's set
not_barred : (plan : Plan) → Sound plan → (M : Marks) (X : Sets) → Tells M X → (r c : ℕ) → r ≤ last_row_at → (outside 1 plan.n c || bars M.sets r c) ≡ false
    → barred_by plan X r c ≡ false
not_barred plan sound M X h r c lr e =
    let o = inside 1 plan.n c (or_left _ _ e) in
    ap (λ (b : Bool). outside 1 plan.n c || b) (sym (h.bars_are r c (omega (arith, lr)) o.0 (omega (arith, o.1, (sizes plan sound).n_most)))) ∙ e

module _ (C : Run) (m : Moment) (S : State C m) (X : Sets) (h : Tells m.marks X) (i : ℕ) (lo : 1 ≤ i) (hi : i ≤ C.plan.n) where
  open C use {plan, draw, u, len}
  open m use {marks as M, vec, lines, posts as q}

  abbrev at_post : Post
  at_post = post_at plan draw i M (S.posts i lo hi).opened (q i).rows

  barred_here : (c : Step) → Barred C X c (Outcomes.refusal_of (call_at plan draw u lines i c) at_post)
  barred_here (message x) = λ e z.
      clash (barred_by plan X x.r x.caller) e
      (not_barred plan C.sound M X h x.r x.caller (message_made at_post.session (q i).rows x.r x.caller _ z).placed.row_in
      (message_split at_post.session (q i).rows x.r x.caller _ z).1)
  barred_here (load_row_of x) = tt
  barred_here (load_triple_of x) = tt
  barred_here (deal x) = tt
  barred_here (opening x) = tt
  barred_here (linear x) = tt
  barred_here (masks x) = tt
  barred_here (collect x) = tt
  barred_here (multiply x) = tt
  barred_here (relation_masks_of x) = tt
  barred_here (relation_finish_of x) = tt
  barred_here (access x) = tt

  barred_at : (c : Step) → Barred C X c (Outcomes.refusal_of (call_at plan draw u lines i c) (q i))
  barred_at c =
      subst (λ (x : Post). Barred C X c (Outcomes.refusal_of (call_at plan draw u lines i c) x))
      (sym (named plan draw (len i) i M vec (q i) (S.posts i lo hi))) (barred_here c)

-- ---- the whole list

module _ (C : Run) (group : List ℕ) (u' : Secrets) where
  open C use {plan, draw, u}

  abbrev shown : List Step → Moment → List Entry
  shown cs m = run plan group draw u cs m.lines m.posts

  agree_all : (cs : List Step) (m : Moment) → State C m → (X : Sets) → Tells m.marks X → (b b' : Book) → SameAnswers (shown cs m)
      → Rules plan cs (shown cs m) m.lines → AgreeCalled plan u u' cs (shown cs m) X b b' → Agree u u' cs (shown cs m) b b'
  unfolding run entry_of
  agree_all [] m S X ex b b' same rules agree = tt
  agree_all (c ∷ cs) m S X ex b b' same rules agree = (
    agrees_of C X c (refusal_of e) b b' barred agree.0,
    go (refusal_of e) refl (λ N v x Q eq. agree_all cs (next N v x) Q (set_after c (refusal_of e) X) eq (booked u c (refusal_of e) b) (booked u' c (refusal_of e) b') same.1 rules.1 agree.1),
  )
    where
      e : Entry
      e = entry_of plan group draw u m.lines c m.posts

      answers : (i : ℕ) → 1 ≤ i → i ≤ plan.n → Outcomes.refusal_of (call_at plan draw u m.lines i c) (m.posts i) ≡ refusal_of e
      answers i lo hi =
          sym (refusal_is (call_at plan draw u m.lines i c) (m.posts i))
          ∙ same_refusal (λ i. (done_at plan draw u m.lines c m.posts i).answer.refusal) plan.n same.0 i lo hi

      one : 1 ≤ plan.n
      one = omega (arith, (sizes plan C.sound).n_low)

      barred : Barred C X c (refusal_of e)
      barred =
          subst (Barred C X c) (answers 1 (omega arith) one) (barred_at C m S X ex 1 (omega arith) one c)

      next : Marks → (ℕ → Vector) → Book → Moment
      next N v x =
          record {
            marks = N;
            vec = v;
            book = x;
            lines = m.lines ++ lines_of plan draw u m.lines c m.posts;
            posts = λ i. after (done_at plan draw u m.lines c m.posts i);
          }

      rest : List Entry
      rest = run plan group draw u cs (m.lines ++ lines_of plan draw u m.lines c m.posts) (λ i. after (done_at plan draw u m.lines c m.posts i))

      go : (k : ℕ) → refusal_of e ≡ k → ((N : Marks) (v : ℕ → Vector) (x : Book) → State C (next N v x) → Tells N (set_after c (refusal_of e) X) → Agree u u' cs rest (booked u c (refusal_of e) b) (booked u' c (refusal_of e) b'))
          → Agree u u' cs rest (booked u c (refusal_of e) b) (booked u' c (refusal_of e) b')
      go zero z ih =
          ih _ _ _ (advance C m S c (subst (λ (k : ℕ). Rule plan c k m.lines) z rules.0) (λ i lo hi. answers i lo hi ∙ z))
          (subst (Tells (marks_all (acts c) m.marks)) (sym (done_is (refusal_of e) (set_all (acts c) X) X z))
          (tells_all (acts c) m.marks X S.sized (allowed_at C m S c (λ i lo hi. answers i lo hi ∙ z) 1 (omega arith) one).moving ex))
      go (suc k) z ih =
          ih _ _ _ (idle_state C m c k (λ i lo hi. answers i lo hi ∙ z) S) (subst (Tells m.marks) (sym (idle_is (refusal_of e) k (set_all (acts c) X) X z)) ex)

pub barred_add_nothing : BarredAddNothing
unfolding seen
barred_add_nothing plan group rows cs u u' R sound low same rules d shows agree =
    let lines = deal_lines plan d u in
    let deals : lines ≡ R.deals = ap (λ (x : Seen). x.deals) shows.same in
    let shown : run plan group d u cs lines (λ i. new_post plan d (rows i) i) ≡ R.entries = ap (λ (x : Seen). x.entries) shows.same in
    subst (λ (es : List Entry). Agree u u' cs es blank blank) shown
    (agree_all (fresh plan d u rows sound shows.is_draw low group) group u' cs _ (begun plan d u rows sound shows.is_draw low group)
    all_posts tells_start blank blank
    (subst SameAnswers (sym shown) same)
    (subst (λ (x : List Entry). Rules plan cs x lines) (sym shown) (subst (Rules plan cs R.entries) (sym deals) rules))
    (subst (λ (x : List Entry). AgreeCalled plan u u' cs x all_posts blank blank) (sym shown) agree))
