-- Under the rules nobody gets 13: what a record shows was broadcast by its sender, and is its polynomial of the row's vector.
use Prim.Native.Nat.{ℕ, zero, suc, ◌≤◌}
use mathlib.Core.Path.{◌≡◌, refl, sym, ◌∙◌, ap, subst}
use mathlib.Core.Logic.{◌≢◌, inr}
use mathlib.Core.List.{List, [], ◌∷◌, ◌++◌}
use native.Mathlib.Omega.{arith}
use Rattle.poly.specs.Counting.{All}
use Rattle.refusal.specs.Refusal.{Test, first}
use Rattle.session.specs.declared.Session.{Session}
use Rattle.load.specs.Load.{load_row_tests, load_row_refusal_of, load_triple_tests, load_triple_refusal_of}
use Rattle.deal.specs.Deal.{deal_tests, deal_refusal_of}
use Rattle.message.specs.Message.{message_tests, message_refusal_of}
use Rattle.linear.specs.Linear.{linear_tests, linear_refusal_of}
use Rattle.product_masks.specs.Masks.{masks_tests, masks_refusal_of}
use Rattle.multiply.specs.Multiply.{multiply_tests, multiply_refusal_of}
use Rattle.vectors.specs.Vector.{Vector}
use Rattle.runs.specs.Outline.{load_row_of, load_triple_of, deal, message, opening, linear, masks, collect, multiply, relation_masks_of, relation_finish_of, access, moves}
use Rattle.runs.specs.Calls.{Post, new_post, after}
use Rattle.runs.proofs.Marks.{Marks, session_at}
use Rattle.runs.proofs.Outcomes as Outcomes
use Rattle.runs.proofs.Outcomes.{refusal_is}
use Rattle.runs.proofs.Steps.{post_at, named}
use Rattle.runs.proofs.Start.{sizes}
use Rattle.secrecy.specs.Steps.{Step, call_at}
use Rattle.secrecy.specs.Seen.{Entry, Seen, deal_lines}
use Rattle.secrecy.specs.Rules.{SameAnswers, Rule, refusal_of}
use Rattle.access.specs.Access.{access_tests, access_refusal}
use Rattle.secrecy.specs.Book.{Book}
use Rattle.secrecy.proofs.CallRuns.{done_at, lines_of, entry_of, run, seen, Rules}
use Rattle.secrecy.proofs.CallClaims.{NeverThirteen}
use Rattle.secrecy.proofs.State.{Run, Moment, State}
use Rattle.secrecy.proofs.Dealings.{fresh, begun}
use Rattle.secrecy.proofs.Advance.{advance}
use Rattle.secrecy.proofs.Onward.{idle_state}
use Rattle.secrecy.proofs.Runs.{same_refusal}
use Rattle.runs.proofs.Outlines.{every_all}
use Rattle.secrecy.proofs.Thirteen.{Other, never_first, opening_never, collect_never}
use Rattle.secrecy.proofs.Thirteens.{relation_masks_never, relation_finish_never}

-- ---- one call, at one post

module _ (C : Run) (m : Moment) (S : State C m) (i : ℕ) (lo : 1 ≤ i) (hi : i ≤ C.plan.n) where
  open C use {plan, draw, u, len}
  open m use {marks as M, vec, lines, posts as q}

  abbrev l : List ℕ
  l = (q i).rows

  abbrev s : Session
  s = session_at plan draw i M (S.posts i lo hi).opened

  abbrev at_post : Post
  at_post = post_at plan draw i M (S.posts i lo hi).opened l

  low : (ts : List Test) → Other ts → first ts ≡ 13 → ⊥
  low ts w e = never_first ts w e

  load_never : (r : ℕ) (pack : List ℕ) → load_row_refusal_of s l r pack ≡ 13 → ⊥
  unfolding load_row_refusal_of
  load_never r pack e = low (load_row_tests s l r pack) (omega arith) e

  triple_never : (r : ℕ) (pack : List ℕ) → load_triple_refusal_of s l r pack ≡ 13 → ⊥
  unfolding load_triple_refusal_of
  triple_never r pack e = low (load_triple_tests s l r pack) (omega arith) e

  deal_never : (r c : ℕ) → deal_refusal_of s l r c ≡ 13 → ⊥
  unfolding deal_refusal_of
  deal_never r c e = low (deal_tests s l r c) (omega arith) e

  message_never : (r caller : ℕ) (out : List ℕ) → message_refusal_of s l r caller out ≡ 13 → ⊥
  unfolding message_refusal_of
  message_never r caller out e = low (message_tests s l r caller out) (omega arith) e

  linear_never : (r a b scale fee : ℕ) → linear_refusal_of s l r a b scale fee ≡ 13 → ⊥
  unfolding linear_refusal_of
  linear_never r a b scale fee e = low (linear_tests s l r a b scale fee) (omega arith) e

  masks_never : (a b r : ℕ) (out : List ℕ) → masks_refusal_of s l a b r out ≡ 13 → ⊥
  unfolding masks_refusal_of
  masks_never a b r out e = low (masks_tests s l a b r out) (omega arith) e

  multiply_never : (r : ℕ) → multiply_refusal_of s l r ≡ 13 → ⊥
  unfolding multiply_refusal_of
  multiply_never r e = low (multiply_tests s l r) (omega arith) e

  access_never : (line : List ℕ) → access_refusal s line ≡ 13 → ⊥
  unfolding access_refusal
  access_never line e = low (access_tests s line) (omega arith) e

  never_here : (c : Step) → Rule plan c 13 lines → Outcomes.refusal_of (call_at plan draw u lines i c) at_post ≡ 13 → ⊥
  never_here (load_row_of x) rule e = load_never x.r _ e
  never_here (load_triple_of x) rule e = triple_never x.r _ e
  never_here (deal x) rule e = deal_never x.r _ e
  never_here (message x) rule e = message_never x.r x.caller _ e
  never_here (opening x) rule e =
      opening_never C m S i lo hi x.r (x.blocks i lines) (λ j lj hj ne there. rule (inr (inr refl)) i j lo hi lj hj ne there) e
  never_here (linear x) rule e = linear_never x.r x.a x.b x.scale x.fee e
  never_here (masks x) rule e = masks_never x.a x.b x.r _ e
  never_here (collect x) rule e =
      collect_never C m S i lo hi x.r (x.blocks_a i lines) (x.blocks_b i lines) e (λ j lj hj ne there. (rule (inr (inr refl))).0 i j lo hi lj hj ne there)
      (λ j lj hj ne there. (rule (inr (inr refl))).1 i j lo hi lj hj ne there)
  never_here (multiply x) rule e = multiply_never x.r e
  never_here (relation_masks_of x) rule e = relation_masks_never C m S i lo hi x.terms _ e
  never_here (relation_finish_of x) rule e =
      relation_finish_never C m S i lo hi x.terms x.r x.blocks e (every_all _ (moves (relation_finish_of x)) rule)
  never_here (access x) rule e = access_never x.line e

  never_at : (c : Step) → Rule plan c 13 lines → Outcomes.refusal_of (call_at plan draw u lines i c) (q i) ≡ 13 → ⊥
  never_at c rule e =
      never_here c rule
      (subst (λ (x : Post). Outcomes.refusal_of (call_at plan draw u lines i c) x ≡ 13) (named plan draw (len i) i M vec (q i) (S.posts i lo hi)) e)

-- ---- the whole list

module _ (C : Run) (group : List ℕ) where
  open C use {plan, draw, u}

  abbrev shown : List Step → Moment → List Entry
  shown cs m = run plan group draw u cs m.lines m.posts

  never : (cs : List Step) (m : Moment) → State C m → SameAnswers (shown cs m) → Rules plan cs (shown cs m) m.lines
      → All (λ e. refusal_of e ≢ 13) (shown cs m)
  unfolding run entry_of
  never [] m S same rules = tt
  never (c ∷ cs) m S same rules = (
    (λ h. never_at C m S 1 (omega arith) (omega (arith, (sizes plan C.sound).n_low)) c (subst (λ (k : ℕ). Rule plan c k m.lines) h rules.0)
        (answers 1 (omega arith) (omega (arith, (sizes plan C.sound).n_low)) ∙ h)),
    go (refusal_of e) refl (λ N v x Q. never cs (next N v x) Q same.1 rules.1),
  )
    where
      e : Entry
      e = entry_of plan group draw u m.lines c m.posts

      answers : (i : ℕ) → 1 ≤ i → i ≤ plan.n → Outcomes.refusal_of (call_at plan draw u m.lines i c) (m.posts i) ≡ refusal_of e
      answers i lo hi =
          sym (refusal_is (call_at plan draw u m.lines i c) (m.posts i))
          ∙ same_refusal (λ i. (done_at plan draw u m.lines c m.posts i).answer.refusal) plan.n same.0 i lo hi

      -- the moment after the call, but for what the call makes of marks, vectors and book
      next : Marks → (ℕ → Vector) → Book → Moment
      next N v x =
          record {
            marks = N;
            vec = v;
            book = x;
            lines = m.lines ++ lines_of plan draw u m.lines c m.posts;
            posts = λ i. after (done_at plan draw u m.lines c m.posts i);
          }

      rest : List Entry
      rest = run plan group draw u cs (m.lines ++ lines_of plan draw u m.lines c m.posts) (λ i. after (done_at plan draw u m.lines c m.posts i))

      go : (k : ℕ) → refusal_of e ≡ k → ((N : Marks) (v : ℕ → Vector) (x : Book) → State C (next N v x) → All (λ e. refusal_of e ≢ 13) rest)
          → All (λ e. refusal_of e ≢ 13) rest
      go zero z ih =
          ih _ _ _ (advance C m S c (subst (λ (k : ℕ). Rule plan c k m.lines) z rules.0) (λ i lo hi. answers i lo hi ∙ z))
      go (suc k) z ih = ih _ _ _ (idle_state C m c k (λ i lo hi. answers i lo hi ∙ z) S)

pub never_thirteen : NeverThirteen
unfolding seen
never_thirteen plan group rows cs u R sound low same rules d shows =
    let lines = deal_lines plan d u in
    let deals : lines ≡ R.deals = ap (λ (x : Seen). x.deals) shows.same in
    let shown : run plan group d u cs lines (λ i. new_post plan d (rows i) i) ≡ R.entries = ap (λ (x : Seen). x.entries) shows.same in
    subst (All (λ e. refusal_of e ≢ 13)) shown
    (never (fresh plan d u rows sound shows.is_draw low group) group cs _ (begun plan d u rows sound shows.is_draw low group)
    (subst SameAnswers (sym shown) same)
    (subst (λ (x : List Entry). Rules plan cs x lines) (sym shown) (subst (Rules plan cs R.entries) (sym deals) rules)))
