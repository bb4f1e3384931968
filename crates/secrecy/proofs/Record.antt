-- The record holds what specs/Record.antt says, place by place.
use Prim.Native.Nat.{ℕ, zero, suc, ◌+◌, ◌-◌, ◌≤◌, ◌<◌}
use mathlib.Core.Path.{◌≡◌, refl, ap, ◌∙◌, subst}
use mathlib.Core.Bool.{Bool, true, false, cond}
use mathlib.Core.Logic.{◌⊎◌, inl, inr}
use mathlib.Core.List.{List, [], ◌∷◌, ◌++◌, map}
use native.Mathlib.Omega.{arith}
use lib.ListN.{length, get_or}
use Rattle.shape.specs.Bounds.{row_count_of, last_row_at}
use Rattle.parts.specs.Draw.{each_from, drawn_f}
use Rattle.forms.specs.Lines as Line
use Rattle.forms.specs.Lines.{text}
use Rattle.runs.specs.Draws.{Plan, Draw, Raw, none, by, when_raw, plan_shape, raw_draw, raw_pack, triple_pack}
use Rattle.runs.specs.Outline.{load_row_of, load_triple_of, deal, message, opening, linear, masks, collect, multiply, relation_masks_of, relation_finish_of, access}
use Rattle.runs.specs.Calls.{Among}
use Rattle.runs.specs.Orders.{call, place, turn, Desk, sent_on}
use Rattle.secrecy.specs.Steps.{Secrets, Step, Item, dealt_number, heard_from}
use Rattle.secrecy.specs.Seen.{all_rows, posts, joined, member, deal_seen, polynomial_seen, raw_seen, triple_seen, order_at, done_at, lines_of, entry_of, run, seen}
use Rattle.secrecy.specs.Record.{CallsIn, Makes, PostsTold, EntriesHold, RecordHolds}
use Rattle.secrecy.proofs.Selections.{among_numbers}
use Rattle.secrecy.proofs.Enough.{among_member}
use Rattle.secrecy.proofs.Heard.{heard_is}

-- ---- places of lists

module _ {B : Type 0} (e : B) where
  each_at : (f : ℕ → B) (j m k : ℕ) → k < m → get_or (map f (each_from j m (λ x. x))) k e ≡ f (j + k)
  unfolding each_from
  each_at f j zero k h = absurd (omega arith)
  each_at f j (suc m) zero h = ap f (omega arith)
  each_at f j (suc m) (suc k) h = each_at f (suc j) m k (omega arith) ∙ ap f (omega arith)

  row_of_lem : (f : ℕ → B) (r : ℕ) → r ≤ last_row_at → get_or (map f all_rows) r e ≡ f r
  unfolding all_rows
  row_of_lem f r h = each_at f 0 row_count_of r (omega arith) ∙ ap f (omega arith)

  post_of_lem : (f : ℕ → B) (n i : ℕ) → 1 ≤ i → i ≤ n → get_or (map f (posts n)) (i - 1) e ≡ f i
  unfolding posts
  post_of_lem f n i lo hi = each_at f 1 n (i - 1) (omega arith) ∙ ap f (omega arith)

  member_of : (f : ℕ → B) (is : List ℕ) (k : ℕ) → k < length is → get_or (map f is) k e ≡ f (get_or is k 0)
  member_of f [] k h = absurd (omega arith)
  member_of f (i ∷ is) zero h = refl
  member_of f (i ∷ is) (suc k) h = member_of f is k (omega arith)

-- ---- every line

module _ {A : Type 0} (x : A) where
  front : (xs ys : List A) → Among x xs → Among x (xs ++ ys)
  front [] ys k = elim k [ ]
  front (y ∷ xs) ys (inl e) = inl e
  front (y ∷ xs) ys (inr m) = inr (front xs ys m)

  behind : (xs ys : List A) → Among x ys → Among x (xs ++ ys)
  behind [] ys m = m
  behind (y ∷ xs) ys m = inr (behind xs ys m)

  among_joined : (f : ℕ → List A) (is : List ℕ) (i : ℕ) → Among i is → Among x (f i) → Among x (joined (map f is))
  unfolding joined
  among_joined f [] i k m = elim k [ ]
  among_joined f (j ∷ is) i (inl e) m = front (f j) _ (subst (λ (k : ℕ). Among x (f k)) e m)
  among_joined f (j ∷ is) i (inr k) m = behind (f j) _ (among_joined f is i k m)

  heard_among : (t : Bool) (l : List A) → t ≡ true → Among x l → Among x (cond t l [])
  heard_among true l e m = m
  heard_among false l e m = absurd (go e)
    where
      go : false ≡ true → ⊥
      go q = absurd (subst (λ (b : Bool). cond b ⊥ (Unit {0})) q tt)

every_line : (plan : Plan) (draw : Draw) (u : Secrets) (lines : List (List ℕ)) (o : Item) (q : ℕ → Desk) (i : ℕ) → 1 ≤ i → i ≤ plan.n → Makes o i
    → (line : List ℕ) → Among line (sent_on i (order_at plan draw u lines i o) (done_at plan draw u lines o q i)) → Among line (lines_of plan draw u lines o q)
unfolding posts
every_line plan draw u lines (call c) q i lo hi h line m =
    among_joined line (λ j. cond (heard_from c j) (sent_on j (order_at plan draw u lines j (call c)) (done_at plan draw u lines (call c) q j)) []) (each_from 1 plan.n (λ x. x)) i
    (among_numbers 1 plan.n i lo (omega (arith, hi))) (heard_among line (heard_from c i) _ (heard_is c i h) m)
every_line plan draw u lines (place d l) q i lo hi h line m = m
every_line plan draw u lines turn q i lo hi h line m = m

pub entries_hold : EntriesHold
unfolding entry_of run
entries_hold plan group draw u lines o q =
    record {
      refusals = λ i lo hi. post_of_lem 0 (λ j. (done_at plan draw u lines o q j).done.answer.refusal) plan.n i lo hi;
      values = λ i lo hi. post_of_lem 0 (λ j. (done_at plan draw u lines o q j).done.answer.value) plan.n i lo hi;
      rows = λ k h. member_of [] (λ j. (done_at plan draw u lines o q j).done.rows) group k h;
      every_line = every_line plan draw u lines o q;
      alone = refl;
    }

pub record_holds : RecordHolds
unfolding seen raw_seen triple_seen polynomial_seen deal_seen
record_holds plan group draw u rows os =
    record {
      raws = λ k r dealer h row e.
          ap (λ (l : List (List ℕ)). get_or l r []) (member_of [] (raw_seen plan group draw u) group k h)
          ∙ row_of_lem [] (λ r. when_raw (plan.raw r) (raw_pack plan draw (get_or group k 0) r) []) r row
          ∙ ap (λ (x : Raw). when_raw x (raw_pack plan draw (get_or group k 0) r) []) e;
      triples = λ k r h row e.
          ap (λ (l : List (List ℕ)). get_or l r []) (member_of [] (triple_seen plan group draw u) group k h)
          ∙ row_of_lem [] (λ r. cond (plan.triple r) (triple_pack plan draw (get_or group k 0) r) []) r row
          ∙ ap (λ (b : Bool). cond b (triple_pack plan draw (get_or group k 0) r) []) e;
      polynomials = λ r dealer row e m.
          row_of_lem [] (polynomial_seen plan group draw u) r row
          ∙ ap (λ (x : Raw). elim x [ none ↦ [] | by d ↦ cond (member d group) (drawn_f (plan_shape plan) (raw_draw draw r)) [] ]) e
          ∙ ap (λ (b : Bool). cond b (drawn_f (plan_shape plan) (raw_draw draw r)) []) (among_member dealer group m);
      deals = λ r dealer row e.
          row_of_lem [] (deal_seen plan draw u) r row ∙ ap (λ (x : Raw). when_raw x (text (Line.deal r (dealt_number plan draw u r))) []) e;
      entries = refl;
    }

pub posts_told : PostsTold
unfolding deal_seen
posts_told plan draw u lines i =
    record {
      to_load = λ r k. refl;
      to_load_triple = λ r k. refl;
      to_deal = λ r k. refl;
      to_deal_fixed = λ r c. refl;
      to_send = λ r caller lent heard. refl;
      to_open = λ r blocks. refl;
      to_add = λ r a b scale fee. refl;
      to_collect = λ r blocks_a blocks_b. refl;
      to_admit = λ line. refl;
      to_place = λ d line. refl;
      to_place_theirs = λ d r dealer e.
          ap (λ (x : Raw). place d (when_raw x (text (Line.deal r (dealt_number plan draw u r))) [])) e;
      to_turn = refl;
    }
