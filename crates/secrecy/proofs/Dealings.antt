-- The D lines stand before the first call: each shows its row's number, no O or M line is among them, and no call broadcasts one.
-- So a run begins.
use Prim.Native.Nat.{ℕ, zero, suc, ◌+◌, ◌-◌, ◌%◌, ◌<◌}
use mathlib.Core.Path.{◌≡◌, refl, sym, ◌∙◌, ap, ap₂}
use mathlib.Core.Bool.{◌||◌}
use mathlib.Core.Logic.{◌≢◌, inl, inr}
use mathlib.Core.List.{List, [], ◌∷◌, map}
use native.Mathlib.Omega.{arith}
use native.Mathlib.Nat.{mod-lt}
use borrow.Author.Tests.{le-ltb}
use lib.Dec.{lit<}
use lib.ListN.{length, get_or}
use Rattle.field.specs.Modulus.{p}
use Rattle.field.specs.Arithmetic.{difference}
use Rattle.shape.specs.Bounds.{row_count_of, last_row_at}
use Rattle.refusal.specs.Refusal.{outcome}
use Rattle.factory.specs.declared.Number.{Number}
use Rattle.factory.specs.Calls.{dealer_number_of, dealer_refusal}
use Rattle.factory.proofs.Laws.{elements_pass}
use Rattle.parts.specs.Draw.{each_from}
use Rattle.forms.specs.Lines as Line
use Rattle.forms.specs.Lines.{Message, text}
use Rattle.forms.specs.Forms.{Sent}
use Rattle.forms.proofs.RoundTrip.{one_message}
use Rattle.runs.specs.Draws.{Raw, none, by, when_raw, IsRaw, Plan, Draw, Sound, IsDraw, raw_draw}
use Rattle.runs.specs.Outline.{Sending, its_opening, its_masks}
use Rattle.runs.specs.Calls.{new_post, Among, opening_line, masks_line, line_of, sent_if, sent_by}
use Rattle.runs.proofs.Marks.{raw_vector}
use Rattle.runs.proofs.Start.{sizes, start, start_sized, start_stands, start_facts}
use Rattle.secrecy.specs.Steps.{Secrets, dealt_number}
use Rattle.secrecy.specs.Seen.{all_rows, deal_seen, deal_lines}
use Rattle.secrecy.specs.Book.{blank}
use Rattle.secrecy.proofs.State.{Run, State, Dealt}

-- one of a list for each row
among_each : {A : Type 0} (x : A) (f : ℕ → A) (j m : ℕ) → Among x (map f (each_from j m (λ r. r))) → (r : ℕ) × (r < j + m) × (x ≡ f r)
unfolding each_from
among_each x f j zero a = absurd a
among_each x f j (suc m) (inl e) = (j, omega arith, e)
among_each x f j (suc m) (inr a) = let o = among_each x f (suc j) m a in (o.0, omega (arith, o.1), o.2)

among_rows : {A : Type 0} (x : A) (f : ℕ → A) → Among x (map f all_rows) → (r : ℕ) × (r < row_count_of) × (x ≡ f r)
unfolding all_rows
among_rows x f a = among_each x f 0 row_count_of a

-- a dealer's number is an element
difference_low : (a b : ℕ) → difference a b < p
unfolding difference
difference_low a b = mod-lt (a + (p - b % p)) (lit< tt)

dealer_low : (k x y : ℕ) → (outcome {A = Number} k (record { refusal = 0; value = difference x y }) (record { refusal = k; value = 0 })).value < p
unfolding outcome
dealer_low zero x y = difference_low x y
dealer_low (suc k) x y = lit< tt

deal_sent : (n k r x : ℕ) → r < row_count_of → x < p → Sent n k (Line.deal r x)
deal_sent n k r x lr lx =
    record {
      letter_is = refl;
      count = refl;
      no_post = λ e. refl;
      in_range = ap₂ ◌||◌ (le-ltb last_row_at r (omega arith)) (elements_pass (x ∷ []) (lx, tt));
    }

module _ (C : Run) (group : List ℕ) where
  open C use {plan, draw, u}

  dealt_low : (r : ℕ) → dealt_number plan draw u r < p
  unfolding dealt_number
  dealt_low r = go (plan.raw r)
    where
      go : (w : Raw) → when_raw w (dealer_number_of (u r) (get_or (raw_draw draw r) 0 0)).value 0 < p
      go none = lit< tt
      go (by dealer) = dealer_low (dealer_refusal (u r) (get_or (raw_draw draw r) 0 0)) (u r) (get_or (raw_draw draw r) 0 0)

  pub deals_right : Dealt C (deal_lines C.plan C.draw C.u)
  unfolding deal_seen
  deals_right r x lr lx a = let o = among_rows (text (Line.deal r x)) _ a in go o.0 o.1 (plan.raw o.0) o.2
    where
      go : (r' : ℕ) → r' < row_count_of → (w : Raw) → text (Line.deal r x) ≡ when_raw w (text (Line.deal r' (dealt_number plan draw u r'))) []
          → x ≡ dealt_number plan draw u r
      go r' lr' none e = let z : ◌≡◌ {A = ℕ} 68 0 = ap (λ (l : List ℕ). get_or l 0 0) e in absurd (omega arith)
      go r' lr' (by dealer) e =
          let m = one_message plan.n 0 _ _ (sizes plan C.sound).n_high (deal_sent plan.n 0 r x lr lx) (deal_sent plan.n 0 r' _ lr' (dealt_low r')) e in
          ap (λ (y : Message). get_or y.numbers 0 0) m ∙ ap (dealt_number plan draw u) (sym (ap (λ (y : Message). y.row) m))

  -- no line of another letter is among them
  other : (c : ℕ) (l : List ℕ) → c ≢ 68 → c ≢ 0 → Among (c ∷ l) (deal_lines plan draw u) → ⊥
  unfolding deal_seen
  other c l ne nz a = let o = among_rows (c ∷ l) _ a in go o.0 (plan.raw o.0) o.2
    where
      go : (r' : ℕ) (w : Raw) → c ∷ l ≡ when_raw w (text (Line.deal r' (dealt_number plan draw u r'))) [] → ⊥
      go r' none e = nz (ap (λ (x : List ℕ). get_or x 0 0) e)
      go r' (by dealer) e = ne (ap (λ (x : List ℕ). get_or x 0 0) e)

  pub no_opening : (r j : ℕ) (xs : List ℕ) → Among (opening_line r j xs) (deal_lines C.plan C.draw C.u) → ⊥
  no_opening r j xs a = other 79 _ (omega arith) (omega arith) a

  pub no_masks_is : (r j : ℕ) (xs : List ℕ) → Among (masks_line r j xs) (deal_lines C.plan C.draw C.u) → ⊥
  no_masks_is r j xs a = other 77 _ (omega arith) (omega arith) a

-- what a call broadcasts is no D line
deal_no_line : (r x i : ℕ) (s : Sending) (xs : List ℕ) → text (Line.deal r x) ≡ line_of i s xs → ⊥
deal_no_line r x i (its_opening r') xs e = let z : ◌≡◌ {A = ℕ} 68 79 = ap (λ (l : List ℕ). get_or l 0 0) e in omega arith
deal_no_line r x i (its_masks a b r') xs e = let z : ◌≡◌ {A = ℕ} 68 77 = ap (λ (l : List ℕ). get_or l 0 0) e in omega arith

pub deal_unsent : (r x i k : ℕ) (ss : List Sending) (parts : List (List ℕ)) → Among (text (Line.deal r x)) (sent_by i k ss parts) → ⊥
deal_unsent r x i k [] parts a = a
deal_unsent r x i k (s ∷ ss) [] a = a
deal_unsent r x i k (s ∷ ss) (xs ∷ parts) a = go k (deal_unsent r x i k ss parts) a
  where
    go : (j : ℕ) → (Among (text (Line.deal r x)) (sent_by i k ss parts) → ⊥) → Among (text (Line.deal r x)) (sent_if j (line_of i s xs) (sent_by i k ss parts)) → ⊥
    go zero later (inl e) = deal_no_line r x i s xs e
    go zero later (inr l) = later l
    go (suc j) later l = later l

-- ---- the start of a run

module _ (plan : Plan) (draw : Draw) (u : Secrets) (rows : ℕ → List ℕ) (sound : Sound plan) (is : IsDraw plan draw)
    (low : (r : ℕ) → IsRaw (plan.raw r) → u r < p) (group : List ℕ) where
  abbrev pub fresh : Run
  fresh = record { plan = plan; draw = draw; u = u; len = λ i. length (rows i); sound = sound; is_draw = is; low = low }

  pub begun : State fresh (record { marks = start; vec = raw_vector plan draw; book = blank; lines = deal_lines plan draw u; posts = λ i. new_post plan draw (rows i) i })
  begun =
      record {
        sized = start_sized;
        posts = λ i lo hi. start_stands plan draw sound is (raw_vector plan draw) (rows i) i lo hi;
        facts = start_facts plan draw sound is _ _ (raw_vector plan draw);
        dealings = deals_right fresh group;
        openings = λ r j xs o a. absurd (no_opening fresh group r j xs a);
        maskings = λ r j xs o a. absurd (no_masks_is fresh group r j xs a);
      }
