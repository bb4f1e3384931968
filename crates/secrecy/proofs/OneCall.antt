-- One call of the list in both runs: every post gives the same answer and the same lines, and a post of the group is the same after it.
use Prim.Native.Nat.{ℕ, zero, suc, ◌+◌, ◌≤◌, ◌<◌}
use mathlib.Core.Path.{◌≡◌, refl, sym, ◌∙◌, ap, ap₂, subst}
use mathlib.Core.Bool.{cond}
use mathlib.Core.List.{List, [], ◌∷◌, map}
use native.Mathlib.Omega.{arith}
use Rattle.poly.specs.Counting.{All}
use Rattle.parts.specs.Draw.{each_from}
use Rattle.runs.specs.Draws.{raw_pack, triple_pack}
use Rattle.runs.specs.Outline.{CallOf, load_row_of, load_triple_of, deal, message, opening, linear, masks, collect, multiply, relation_masks_of, relation_finish_of, access}
use Rattle.runs.specs.Calls.{Post, Call, perform, after}
use Rattle.runs.proofs.Outcomes.{refusal_of, refusal_is, does, own, done, refused}
use Rattle.secrecy.specs.Steps.{Step, PackAt, packed, call_at, heard_from}
use Rattle.secrecy.specs.Seen.{posts, joined}
use Rattle.secrecy.specs.Rules.{Rule}
use Rattle.secrecy.specs.Book.{Agrees}
use Rattle.secrecy.proofs.CallRuns.{lines_of}
use Rattle.secrecy.proofs.Pair.{Two, Moments, Pair, Fit}
use Rattle.secrecy.proofs.Answers.{number_same}
use Rattle.secrecy.proofs.Alike.{Same, same_answers}

-- a map over the posts 1 to n
each_same : {A : Type 0} (f g : ℕ → A) (j m : ℕ) → ((i : ℕ) → j ≤ i → i < j + m → f i ≡ g i) → map f (each_from j m (λ i. i)) ≡ map g (each_from j m (λ i. i))
unfolding each_from
each_same f g j zero h = refl
each_same f g j (suc m) h = ap₂ ◌∷◌ (h j (omega arith) (omega arith)) (each_same f g (suc j) m (λ i a c. h i (omega arith) (omega arith)))

pub posts_same : {A : Type 0} (f g : ℕ → A) (n : ℕ) → ((i : ℕ) → 1 ≤ i → i ≤ n → f i ≡ g i) → map f (posts n) ≡ map g (posts n)
unfolding posts
posts_same f g n h = each_same f g 1 n (λ i a c. h i a (omega arith))

module _ (T : Two) (m : Moments) (R : Pair T m) where
  open m use {marks as M, vec, vec', book as b, book' as b', lines, posts as q, posts' as q'}

  abbrev c1 : ℕ → Step → Call
  c1 i c = call_at T.plan T.d T.u lines i c

  abbrev c2 : ℕ → Step → Call
  c2 i c = call_at T.plan T.d' T.u' lines i c

  -- what every post answers to the call, with the refusal k
  module _ (c : Step) (k : ℕ) (z : (i : ℕ) → 1 ≤ i → i ≤ T.plan.n → refusal_of (c1 i c) (q i) ≡ k)
      (rule : Rule T.plan c k lines) (agree : Agrees c k b b') (fit : k ≡ 0 → Fit T m R c) where
    pub same_at : (i : ℕ) (lo : 1 ≤ i) (hi : i ≤ T.plan.n) → Same T m R i lo hi (perform (c1 i c) (q i)) (perform (c2 i c) (q' i)) (c1 i c) (c2 i c)
    same_at i lo hi =
        same_answers T m R i lo hi c (subst (λ (m : ℕ). Rule T.plan c m lines) (sym (z i lo hi)) rule)
        (subst (λ (m : ℕ). Agrees c m b b') (sym (z i lo hi)) agree) (λ e. fit (sym (z i lo hi) ∙ e))

    pub refused_two : (i : ℕ) → 1 ≤ i → i ≤ T.plan.n → refusal_of (c2 i c) (q' i) ≡ k
    refused_two i lo hi = sym (refusal_is (c2 i c) (q' i)) ∙ sym (same_at i lo hi).refusal ∙ refusal_is (c1 i c) (q i) ∙ z i lo hi

    pub lines_two : lines_of T.plan T.d T.u lines c q ≡ lines_of T.plan T.d' T.u' lines c q'
    lines_two = ap joined (posts_same _ _ T.plan.n (λ i lo hi. ap (λ (l : List (List ℕ)). cond (heard_from c i) l []) (same_at i lo hi).lines_same))

    -- a post of the group: refused it is as it was, else it puts in the same but for lists to write into
    RawSame : ℕ → Type 0
    RawSame i = (m : ℕ) → raw_pack T.plan T.d i m ≡ raw_pack T.plan T.d' i m

    TripleSame : ℕ → Type 0
    TripleSame i = (m : ℕ) → triple_pack T.plan T.d i m ≡ triple_pack T.plan T.d' i m

    kept_same : (i : ℕ) (lo : 1 ≤ i) (hi : i ≤ T.plan.n) (x : Step) (y : Post) → RawSame i → TripleSame i → Rule T.plan x 0 lines
        → own (does (c1 i x) y) ≡ own (does (c2 i x) y)
    unfolding RawSame TripleSame
    kept_same i lo hi (load_row_of x) y e f rule =
        ap (λ (pack : List ℕ). own (does (CallOf.load_row_of (record { r = x.r; pack = pack })) y))
        (ap (λ (w : PackAt). packed w T.d T.u (raw_pack T.plan T.d i)) ((rule refl).1 i lo hi) ∙ e x.r
        ∙ sym (ap (λ (w : PackAt). packed w T.d' T.u' (raw_pack T.plan T.d' i)) ((rule refl).1 i lo hi)))
    kept_same i lo hi (load_triple_of x) y e f rule =
        ap (λ (pack : List ℕ). own (does (CallOf.load_triple_of (record { r = x.r; pack = pack })) y))
        (ap (λ (w : PackAt). packed w T.d T.u (triple_pack T.plan T.d i)) ((rule refl).1 i lo hi) ∙ f x.r
        ∙ sym (ap (λ (w : PackAt). packed w T.d' T.u' (triple_pack T.plan T.d' i)) ((rule refl).1 i lo hi)))
    kept_same i lo hi (deal x) y e f rule = ap (λ (c : ℕ). own (does (CallOf.deal (record { r = x.r; c = c })) y)) (number_same T x.c)
    kept_same i lo hi (message x) y e f rule = refl
    kept_same i lo hi (opening x) y e f rule = refl
    kept_same i lo hi (linear x) y e f rule = refl
    kept_same i lo hi (masks x) y e f rule = refl
    kept_same i lo hi (collect x) y e f rule = refl
    kept_same i lo hi (multiply x) y e f rule = refl
    kept_same i lo hi (relation_masks_of x) y e f rule = refl
    kept_same i lo hi (relation_finish_of x) y e f rule = refl
    kept_same i lo hi (access x) y e f rule = refl

    stays_same : (j i : ℕ) (lo : 1 ≤ i) (hi : i ≤ T.plan.n) → k ≡ j → RawSame i → TripleSame i → q i ≡ q' i
        → after (perform (c1 i c) (q i)) ≡ after (perform (c2 i c) (q' i))
    stays_same zero i lo hi ek e f h =
        done (c1 i c) (q i) (z i lo hi ∙ ek) ∙ ap (λ (y : Post). own (does (c1 i c) y)) h
        ∙ kept_same i lo hi c (q' i) e f (subst (λ (w : ℕ). Rule T.plan c w lines) ek rule)
        ∙ sym (done (c2 i c) (q' i) (refused_two i lo hi ∙ ek))
    stays_same (suc j) i lo hi ek e f h =
        let r1 = refused (c1 i c) (q i) j (z i lo hi ∙ ek) in
        let r2 = refused (c2 i c) (q' i) j (refused_two i lo hi ∙ ek) in
        (λ w. record { session = r1.0 w; rows = r1.1 w }) ∙ h ∙ sym (λ w. record { session = r2.0 w; rows = r2.1 w })

    pub group_two : All (λ i. after (perform (c1 i c) (q i)) ≡ after (perform (c2 i c) (q' i))) T.group
    unfolding RawSame TripleSame
    group_two = go T.group T.members T.link.raw_group T.link.triple_group R.group_same
      where
        go : (g : List ℕ) → All (λ i. (1 ≤ i) × (i ≤ T.plan.n)) g → All RawSame g → All TripleSame g → All (λ i. q i ≡ q' i) g
            → All (λ i. after (perform (c1 i c) (q i)) ≡ after (perform (c2 i c) (q' i))) g
        go [] b e f h = tt
        go (i ∷ g) b e f h = (stays_same k i b.0.0 b.0.1 refl e.0 f.0 h.0, go g b.1 e.1 f.1 h.1)
