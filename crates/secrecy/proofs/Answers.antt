-- One post in the two runs: the same refusal, the same number opened.
use Prim.Native.Nat.{ℕ, zero, suc, ◌%◌, ◌≤◌}
use mathlib.Core.Path.{◌≡◌, refl, sym, ◌∙◌, ap, ap₂, subst}
use mathlib.Core.Bool.{true, false, ◌||◌}
use mathlib.Core.Logic.{inl, inr}
use mathlib.Core.List.{List, [], ◌∷◌, map}
use native.Mathlib.Omega.{arith}
use native.Mathlib.Nat.{mod-lt}
use lib.Dec.{lit<}
use lib.ListN.{length, length-map}
use Rattle.field.specs.Modulus.{p}
use Rattle.refusal.specs.Refusal.{first, outcome}
use Rattle.refusal.specs.Conditions.{beyond, any_beyond}
use Rattle.refusal.proofs.Elements.{element_test}
use Rattle.session.specs.declared.Session.{Session}
use Rattle.session.specs.Sessions.{answer}
use Rattle.session.specs.Rows.{row_at}
use Rattle.deal.specs.Deal.{deal_refusal_of}
use Rattle.opening.specs.Walking.{opened}
use Rattle.opening.specs.Opening.{open_refusal_of}
use Rattle.opening.proofs.Passed.{walk_tests, walk_few, OpenChecked, row_opened}
use Rattle.vectors.specs.Vector.{number}
use Rattle.runs.specs.Draws.{Draw, raw_pack, triple_pack}
use Rattle.runs.specs.Outline.{load_row_of, load_triple_of, deal, message, opening, linear, masks, collect, multiply, relation_masks_of, relation_finish_of, access, a_record}
use Rattle.runs.specs.Calls.{Post, Call, Performed, perform}
use Rattle.runs.proofs.Marks.{session_at}
use Rattle.runs.proofs.Outcomes.{Doing, does, refusal_of, refusal_is, value_is}
use Rattle.runs.proofs.Holds.{wide}
use Rattle.runs.proofs.Steps.{post_at, named}
use Rattle.secrecy.specs.Steps.{Secrets, Step, PackNumber, PackAt, its, other, Number, sent, Record, Lent, pack_number, packed, dealt_with, filling, call_at, dealt_number}
use Rattle.secrecy.specs.Rules.{RuleWith, Rule}
use Rattle.secrecy.proofs.Link.{Alike}
use Rattle.secrecy.proofs.Twins as Twins
use Rattle.secrecy.proofs.Relations as Relations
use Rattle.secrecy.proofs.Pair as Pairs
use Rattle.secrecy.proofs.Pair.{Two, Moments, Pair, wait_numbers, few_same}

-- two answers with one refusal and one number
value_one : (k j v w : ℕ) (new old new' old' : Session) → k ≡ j → (k ≡ 0 → v ≡ w) → (answer k v new old).value ≡ (answer j w new' old').value
unfolding outcome
value_one zero zero v w new old new' old' e h = h refl
value_one zero (suc j) v w new old new' old' e h = absurd (omega arith)
value_one (suc k) zero v w new old new' old' e h = absurd (omega arith)
value_one (suc k) (suc j) v w new old new' old' e h = refl

-- a pack of other numbers than the own part: those that follow the draw are elements in both runs
element_low : (x : ℕ) → beyond (x % p) ≡ false
element_low x = element_test (x % p) (mod-lt x (lit< tt))

module _ (d d' : Draw) (u u' : Secrets) where
  beyond_same : (x : PackNumber) → beyond (pack_number d u x) ≡ beyond (pack_number d' u' x)
  beyond_same (PackNumber.fixed x) = refl
  beyond_same (PackNumber.element x) = element_low (x d u) ∙ sym (element_low (x d' u'))

  low_same : (xs : List PackNumber) → any_beyond (map (pack_number d u) xs) ≡ any_beyond (map (pack_number d' u') xs)
  unfolding any_beyond
  low_same [] = refl
  low_same (x ∷ xs) = ap₂ ◌||◌ (beyond_same x) (low_same xs)

  pack_alike : (xs : List PackNumber) → Alike (map (pack_number d u) xs) (map (pack_number d' u') xs)
  pack_alike xs = record { long = length-map xs _ ∙ sym (length-map xs _); low = low_same xs }

-- a deal's number is the same in both runs
pub number_same : (T : Two) (x : Number) → dealt_with x (dealt_number T.plan T.d T.u) ≡ dealt_with x (dealt_number T.plan T.d' T.u')
number_same T (sent k) = T.link.deals k
number_same T (Number.fixed x) = refl

module _ (T : Two) (m : Moments) (R : Pair T m)
    (i : ℕ) (lo : 1 ≤ i) (hi : i ≤ T.plan.n) where
  open m use {marks as M, vec, vec', book as b, book' as b', lines, posts as q, posts' as q'}

  abbrev s : Session
  s = session_at T.plan T.d i M (R.one.posts i lo hi).opened

  abbrev W : ℕ
  W = wide T.plan

  abbrev l : List ℕ
  l = (q i).rows

  abbrev l' : List ℕ
  l' = (q' i).rows

  abbrev c1 : Step → Call
  c1 c = call_at T.plan T.d T.u lines i c

  abbrev c2 : Step → Call
  c2 c = call_at T.plan T.d' T.u' lines i c

  abbrev p1 : Post
  p1 = post_at T.plan T.d i M (R.one.posts i lo hi).opened l

  abbrev p2 : Post
  p2 = post_at T.plan T.d i M (R.one.posts i lo hi).opened l'

  pub is_p1 : q i ≡ p1
  is_p1 = named T.plan T.d (T.len i) i M vec (q i) (R.one.posts i lo hi)

  is_p2 : q' i ≡ p2
  is_p2 = λ j. record { session = (sym (R.sessions i lo hi) ∙ (R.one.posts i lo hi).session) j; rows = (q' i).rows }

  -- ---- the refusal

  abbrev pub twin : Twins.Twin
  twin = record {
    plan = T.plan;
    draw = T.d;
    K = T.K;
    marks = M;
    vec = vec;
    vec' = vec';
    near = R.near;
    post = i;
    low = lo;
    high = hi;
    len = T.len i;
    rows = l;
    rows' = l';
    holds = Pairs.h T m R i lo hi;
    holds' = Pairs.h' T m R i lo hi;
    opened = (R.one.posts i lo hi).opened;
  }

  module _ (r : ℕ) (blocks : Record) (rule : RuleWith T.plan (open_refusal_of s l r (blocks i lines)) lines (a_record r) blocks) where
    row_is : OpenChecked s l r (blocks i lines) → number (vec r) ≡ number (vec' r) → row_at W l r ≡ row_at W l' r
    row_is f = Twins.row_same twin r f.placed.row_in f.placed.is_held

    walk_same : OpenChecked s l r (blocks i lines)
        → first (walk_tests s (row_at W l r) (blocks i lines)) ≡ first (walk_tests s (row_at W l' r) (blocks i lines))
    walk_same f = elim (few_same T m R i lo hi r blocks rule f) [
      | inl e ↦ ap (λ (x : List ℕ). first (walk_tests s x (blocks i lines))) (row_is f e)
      | inr e ↦ walk_few s (row_at W l r) (blocks i lines) e.0 ∙ sym (walk_few s (row_at W l' r) (blocks i lines) e.1)
    ]

    -- the number opened
    opened_same : open_refusal_of s l r (blocks i lines) ≡ 0 → opened s (row_at W l r) (blocks i lines) ≡ opened s (row_at W l' r) (blocks i lines)
    opened_same z =
        let o = row_opened s l r (blocks i lines) z in
        elim (few_same T m R i lo hi r blocks rule o.checked) [
          | inl e ↦ ap (λ (x : List ℕ). opened s x (blocks i lines)) (row_is o.checked e)
          | inr e ↦ (let w : false ≡ true = sym o.enough ∙ e.0 in let v : ◌≡◌ {A = ℕ} 0 1 = cc in absurd (omega arith))
        ]

  -- the refusal, and the number where it is 0
  abbrev Answering : Doing → Doing → Type 0
  Answering d d' = (d.refusal ≡ d'.refusal) × (d.refusal ≡ 0 → d.value ≡ d'.value)

  raw_same : (x : PackAt) → Alike (packed x T.d T.u (raw_pack T.plan T.d i)) (packed x T.d' T.u' (raw_pack T.plan T.d' i))
  raw_same (its k) = T.link.raw_alike i k hi
  raw_same (other xs) = pack_alike T.d T.d' T.u T.u' xs

  triple_same : (x : PackAt) → Alike (packed x T.d T.u (triple_pack T.plan T.d i)) (packed x T.d' T.u' (triple_pack T.plan T.d' i))
  triple_same (its k) = T.link.triple_alike i k hi
  triple_same (other xs) = pack_alike T.d T.d' T.u T.u' xs

  -- a list to write into is as long in both runs
  as_long : (lent : Lent)
      → length ((filling T.plan T.d T.u lines i).lent lent) ≡ length ((filling T.plan T.d' T.u' lines i).lent lent)
  as_long lent = length-map (lent i) _ ∙ sym (length-map (lent i) _)

  alike : (c : Step) → Rule T.plan c (refusal_of (c1 c) p1) lines → Answering (does (c1 c) p1) (does (c2 c) p2)
  alike (load_row_of x) rule =
      (Twins.load_same twin x.r _ _ (raw_same (x.pack i)), λ z. refl)
  alike (load_triple_of x) rule =
      (Twins.triple_same twin x.r _ _ (triple_same (x.pack i)), λ z. refl)
  alike (deal x) rule = (
    Twins.deal_same twin x.r (dealt_with x.c (dealt_number T.plan T.d T.u))
        ∙ ap (deal_refusal_of s l' x.r) (number_same T x.c),
    λ z. refl,
  )
  alike (message x) rule =
      (Twins.message_same twin x.r x.caller _ _ (as_long x.lent), λ z. refl)
  alike (opening x) rule = (
    Twins.open_same twin x.r (x.blocks i lines) (walk_same x.r x.blocks rule),
    opened_same x.r x.blocks rule,
  )
  alike (linear x) rule =
      (Twins.linear_same twin x.r x.a x.b x.scale x.fee, λ z. refl)
  alike (masks x) rule =
      (Twins.masks_same twin x.a x.b x.r _ _ (as_long x.lent), λ z. refl)
  alike (collect x) rule = (
    Twins.collect_same twin x.r (x.blocks_a i lines) (x.blocks_b i lines)
        (λ five. wait_numbers T m R x.r (inl five)),
    λ z. refl,
  )
  alike (multiply x) rule = (Twins.multiply_same twin x.r, λ z. refl)
  alike (relation_masks_of x) rule =
      (Relations.relation_masks_same twin x.terms _ _ (as_long x.lent), λ z. refl)
  alike (relation_finish_of x) rule =
      (Relations.relation_finish_same twin x.terms x.r (x.blocks i lines) (λ r five. wait_numbers T m R r (inl five)), λ z. refl)
  alike (access x) rule = (Twins.access_same twin x.line, λ z. refl)

  refusals : (c : Step) → Rule T.plan c (refusal_of (c1 c) p1) lines → refusal_of (c1 c) p1 ≡ refusal_of (c2 c) p2
  refusals c rule = (alike c rule).0

  values : (c : Step) → Rule T.plan c (refusal_of (c1 c) p1) lines → (perform (c1 c) p1).answer.value ≡ (perform (c2 c) p2).answer.value
  values c rule =
      value_is (c1 c) p1 ∙ value_one _ _ _ _ _ _ _ _ (alike c rule).0 (alike c rule).1 ∙ sym (value_is (c2 c) p2)

  -- ---- the posts as they stand

  pub answers_same : (c : Step) → Rule T.plan c (refusal_of (c1 c) (q i)) lines
      → ((perform (c1 c) (q i)).answer.refusal ≡ (perform (c2 c) (q' i)).answer.refusal)
      × ((perform (c1 c) (q i)).answer.value ≡ (perform (c2 c) (q' i)).answer.value)
  answers_same c =
      subst (λ (x : Post). Rule T.plan c (refusal_of (c1 c) x) lines → Answered (perform (c1 c) x) (perform (c2 c) (q' i))) (sym is_p1)
      (subst (λ (y : Post). Rule T.plan c (refusal_of (c1 c) p1) lines → Answered (perform (c1 c) p1) (perform (c2 c) y)) (sym is_p2)
      (λ rule. (refusal_is (c1 c) p1 ∙ refusals c rule ∙ sym (refusal_is (c2 c) p2), values c rule)))
    where
      Answered : Performed → Performed → Type 0
      Answered o o' = (o.answer.refusal ≡ o'.answer.refusal) × (o.answer.value ≡ o'.answer.value)
