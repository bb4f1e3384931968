-- The book's places to the end of a list, and the calls that orders come to.
use Prim.Native.Nat.{ℕ, zero, suc, ◌≤◌, ◌<◌}
use mathlib.Core.Path.{◌≡◌, refl, sym, ◌∙◌, ap, subst}
use mathlib.Core.Bool.{true}
use mathlib.Core.List.{List, [], ◌∷◌, ◌++◌}
use native.Mathlib.Omega.{arith}
use Rattle.field.specs.Modulus.{p}
use Rattle.poly.specs.Counting.{All}
use Rattle.refusal.specs.Refusal.{outcome}
use Rattle.forms.specs.Lines as Line
use Rattle.forms.specs.Lines.{text}
use Rattle.dealers.specs.State.{dealer_count, chosen, line_in}
use Rattle.dealers.specs.Calls.{taken_refusal, said_row, said_number, whose}
use Rattle.dealers.proofs.Turns.{chosen_dealer}
use Rattle.runs.specs.Draws.{Plan, Draw, Sound}
use Rattle.runs.specs.Calls.{Post, deal, perform, after}
use Rattle.runs.specs.Orders.{call, place, turn, Desk, desk_after, no_call, a_call, said_call, turn_call, comes_to}
use Rattle.secrecy.specs.Steps.{Secrets, Item, Number, theirs, bytes, call_at, dealt_number}
use Rattle.secrecy.specs.Seen.{Entry, deal_lines, order_at, new_desk, done_at, lines_of, desks_after, entry_of, run}
use Rattle.secrecy.specs.Waiting.{Slot, free, filled, is_filled, Waiting, none_waiting, next_of, waiting_after, slot_call, comes_of}
use Rattle.secrecy.specs.Rules.{SameAnswers, refusal_of}
use Rattle.secrecy.specs.Claim.{desks_of}
use Rattle.secrecy.specs.Known.{waiting_all, Has, made_at, BookKnows, StartsNew}
use Rattle.secrecy.proofs.Frames.{frame}
use Rattle.secrecy.proofs.Places.{Kept, InPlace, chosen_is}
use Rattle.secrecy.proofs.Doings.{turn_doing}
use Rattle.secrecy.proofs.Turning.{first_passes, counts_zero, dealer_line, read_back}
use Rattle.secrecy.proofs.AsCalls.{turn_step}
use Rattle.secrecy.proofs.Along.{At, at_call, at_place, at_turn}
use Rattle.secrecy.proofs.Theorems.{number_low, start_kept, entries_are, deals_are, desks}

-- ---- the places, order by order

module _ (plan : Plan) (group : List ℕ) (draw : Draw) (u : Secrets) (sound : Sound plan) (low : (r : ℕ) → dealt_number plan draw u r < p)
    (members : All (λ i. (1 ≤ i) × (i ≤ plan.n)) group) where
  kept_all : (os : List Item) (lines : List (List ℕ)) (q : ℕ → Desk) (ps : ℕ → Post) (w : Waiting) → At plan group draw u sound low members q ps w
      → SameAnswers (run plan group draw u os lines q) → (i : ℕ) → 1 ≤ i → i ≤ plan.n → frame (desks_after plan draw u os lines q i).post ≡ 0
      → Kept plan draw u (waiting_all os (run plan group draw u os lines q) w) (desks_after plan draw u os lines q i).state
  unfolding run desks_after
  kept_all [] lines q ps w at same i lo hi z = (at i lo hi).0 z
  kept_all (call c ∷ os) lines q ps w at same i lo hi z =
      kept_all os (lines ++ lines_of plan draw u lines (call c) q) (λ j. desk_after (done_at plan draw u lines (call c) q j)) (λ j. after (perform (call_at plan draw u lines j c) (ps j))) w
      (at_call plan group draw u sound low members lines c q ps w at) same.1 i lo hi z
  kept_all (place d l ∷ os) lines q ps w at same i lo hi z =
      kept_all os (lines ++ []) (λ j. desk_after (done_at plan draw u lines (place d l) q j)) ps (waiting_after (place d l) (refusal_of (entry_of plan group draw u lines (place d l) q)) w)
      (at_place plan group draw u sound low members lines q ps w d l at same.0) same.1 i lo hi z
  kept_all (turn ∷ os) lines q ps w at same i lo hi z =
      let k = refusal_of (entry_of plan group draw u lines turn q) in
      kept_all os (lines ++ []) (λ j. desk_after (done_at plan draw u lines turn q j)) (λ j. after (perform (call_at plan draw u lines j (turn_step (turn_doing w))) (ps j))) (waiting_after turn k w)
      (at_turn plan group draw u sound low members lines q ps w k at) same.1 i lo hi z

-- ---- what a turn comes to

module _ (plan : Plan) (draw : Draw) (u : Secrets) (sound : Sound plan) (low : (r : ℕ) → dealt_number plan draw u r < p) (lines : List (List ℕ)) (i : ℕ) where
  by_outcome : (t : ℕ) (r c : ℕ) → outcome t (a_call (deal r c)) no_call ≡ made_at plan draw u lines i (outcome t (a_call (deal r (Number.fixed c))) no_call)
  unfolding outcome
  by_outcome zero r c = refl
  by_outcome (suc k) r c = refl

  said : (line : List ℕ) (r c : ℕ) → (taken_refusal line ≡ 0) × (said_row line ≡ r) × (said_number line ≡ c) → said_call line ≡ a_call (deal r c)
  unfolding outcome
  said line r c (z, er, ec) =
      ap (λ (k : ℕ). outcome k (a_call (deal (said_row line) (said_number line))) no_call) z ∙ ap (λ (x : ℕ). a_call (deal x (said_number line))) er
      ∙ ap (λ (x : ℕ). a_call (deal r x)) ec

  by_slot : (x : Slot) (state : List ℕ) (d : ℕ) → InPlace plan draw u x state d → is_filled x ≡ true → said_call (line_in state d) ≡ made_at plan draw u lines i (slot_call x)
  by_slot free state d h f = let z : ◌≡◌ {A = ℕ} 0 1 = cc in absurd (omega arith)
  by_slot (filled (theirs r)) state d h f =
      let o = dealer_line plan draw u r h.2 in
      ap said_call (h.1 ∙ o.1)
      ∙ said (text (Line.deal r (dealt_number plan draw u r))) r (dealt_number plan draw u r) (read_back r (dealt_number plan draw u r) (sound.raws r o.0) (low r))
  by_slot (filled (bytes xs)) state d h f = ap said_call h.1 ∙ by_outcome (taken_refusal xs) (said_row xs) (said_number xs)

  turn_comes : (w : Waiting) (q : Desk) → frame q.post ≡ 0 → Kept plan draw u w q.state → comes_to turn q ≡ made_at plan draw u lines i (comes_of w turn)
  unfolding turn_call outcome
  turn_comes w q z h =
      ap (λ (k : ℕ). outcome k (whose (chosen q.state) no_call (λ d. said_call (line_in q.state d))) no_call) (counts_zero q.post q.state z h.good)
      ∙ go (next_of w) refl (chosen q.state) (chosen_is plan draw u w q.state h) refl
    where
      go : (n : ℕ) → next_of w ≡ n → (c : ℕ) → c ≡ next_of w → chosen q.state ≡ c
          → whose c no_call (λ d. said_call (line_in q.state d)) ≡ made_at plan draw u lines i (whose n no_call (λ d. slot_call (w.slot d)))
      go zero e zero f g = refl
      go zero e (suc c) f g = absurd (omega arith)
      go (suc n) e zero f g = absurd (omega arith)
      go (suc n) e (suc c) f g =
          let same : suc c ≡ suc n = f ∙ e in
          ap (λ (d : ℕ). whose d no_call (λ d. said_call (line_in q.state d))) same
          ∙ by_slot (w.slot (suc n)) q.state (suc n)
          (h.each (suc n) (chosen_dealer q.state (suc n) h.good (sym (g ∙ same)) (λ x. omega arith)))
          (first_passes dealer_count (λ x. is_filled (w.slot x)) w.last n e)

  order_comes : (w : Waiting) (q : Desk) → frame q.post ≡ 0 → Kept plan draw u w q.state → (o : Item)
      → comes_to (order_at plan draw u lines i o) q ≡ made_at plan draw u lines i (comes_of w o)
  order_comes w q z h (call c) = refl
  order_comes w q z h (place d l) = refl
  order_comes w q z h turn = turn_comes w q z h

-- ---- the claim

has : (plan : Plan) (draw : Draw) (u : Secrets) (x : Slot) (state : List ℕ) (d : ℕ) → InPlace plan draw u x state d → Has plan draw u x state d
has plan draw u free state d h = h
has plan draw u (filled l) state d h = h

pub book_knows : BookKnows
unfolding frame
book_knows plan group rows os u R sound g same d s i lo hi z =
    let low = number_low plan d u in
    let kept = kept_end z in
    record {
      last = kept.last;
      places = λ v a b. has plan d u ((waiting_all os R.entries none_waiting).slot v) (desks_of plan rows os R u d i).state v (kept.each v (record { low = a; high = b }));
      comes = λ lines o. order_comes plan d u sound low lines i (waiting_all os R.entries none_waiting) (desks_of plan rows os R u d i) z kept o;
    }
  where
    kept_end : frame (desks_of plan rows os R u d i).post ≡ 0 → Kept plan d u (waiting_all os R.entries none_waiting) (desks_of plan rows os R u d i).state
    kept_end =
        subst (λ (l : List (List ℕ)). frame (desks_after plan d u os l (λ j. new_desk plan d (rows j) j) i).post ≡ 0 → Kept plan d u (waiting_all os R.entries none_waiting) (desks_after plan d u os l (λ j. new_desk plan d (rows j) j) i).state)
        (deals_are plan group rows os R sound g.members same u d s)
        (subst (λ (es : List Entry). frame (desks_after plan d u os (deal_lines plan d u) (λ j. new_desk plan d (rows j) j) i).post ≡ 0 → Kept plan d u (waiting_all os es none_waiting) (desks_after plan d u os (deal_lines plan d u) (λ j. new_desk plan d (rows j) j) i).state)
        (entries_are plan group rows os R sound g.members same u d s)
        (kept_all plan group d u sound (number_low plan d u) g.members os (deal_lines plan d u) (desks plan group rows os R d) _ none_waiting (λ j a b. start_kept plan group rows os R u d j)
        (subst SameAnswers (sym (entries_are plan group rows os R sound g.members same u d s)) same) i lo hi))

pub starts_new : StartsNew
unfolding new_desk
starts_new = record { state = λ plan draw rows i. refl; last = refl; none_waits = λ d. refl }
