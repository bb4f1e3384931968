-- A list of orders, as a list of calls on a session alone: lines placed are left out; a turn is a deal of the row that the book knows, or, where
-- it deals nothing, a deal of row 96, which is refused with 1 to 5 as the turn is, or with 6. Rules, answers and books go along.
use Prim.Native.Nat.{ℕ, zero, suc, ◌≤◌}
use mathlib.Core.Path.{◌≡◌, refl, sym, ◌∙◌, ap, subst}
use mathlib.Core.Bool.{Bool, true, false, cond}
use mathlib.Core.List.{List, [], ◌∷◌, ◌++◌, map, append-nil}
use native.Mathlib.Omega.{arith}
use lib.ListN.{get_or}
use Rattle.poly.specs.Counting.{All}
use Rattle.refusal.specs.Refusal.{or_else, outcome}
use Rattle.runs.specs.Draws.{Plan}
use Rattle.runs.specs.Callers.{Sets, set_after}
use Rattle.runs.specs.Orders.{call, place, turn, Comes, Asked, sets_after}
use Rattle.secrecy.specs.Steps.{Secrets, Fixed, Step, Item, Number, deal}
use Rattle.secrecy.specs.Seen.{Entry}
use Rattle.secrecy.specs.Waiting.{Waiting, waiting_after, comes_of}
use Rattle.secrecy.specs.Rules.{refusal_of, AllSame, SameAnswers, Rule, Rules}
use Rattle.secrecy.specs.Book.{Book, booked, Agrees, booked_by, book_after, Agree}
use Rattle.secrecy.proofs.CallRuns as Calls
use Rattle.secrecy.proofs.CallRuns.{AgreeCalled}
use Rattle.secrecy.proofs.Doings.{Doing, idle, deals, turn_doing, as_comes, turn_comes, stops, small_stops}

abbrev probe : Step
probe = deal 96 (Number.fixed 0)

abbrev pub turn_step : Doing → Step
turn_step (idle t) = probe
turn_step (deals r c) = deal r c

-- the probe's refusal, from the turn's
abbrev pub probed : ℕ → ℕ
probed k = cond (stops k) k 6

abbrev pub probed_all : List ℕ → List ℕ
probed_all [] = 6 ∷ []
probed_all (x ∷ xs) = probed x ∷ map probed xs

abbrev pub turn_entry : Doing → Entry → Entry
turn_entry (idle t) e = record { refusals = probed_all e.refusals; values = e.values; lines = []; rows = e.rows }
turn_entry (deals r c) e = record { refusals = e.refusals; values = e.values; lines = []; rows = e.rows }

probed_some : (x : ℕ) → probed x ≡ 0 → ⊥
probed_some x z = go (stops x) refl z
  where
    go : (b : Bool) → stops x ≡ b → cond b x 6 ≡ 0 → ⊥
    go true e z = let f : ◌≡◌ {A = Bool} false true = sym (ap stops z) ∙ e in let y : ◌≡◌ {A = ℕ} 0 1 = cc in omega arith
    go false e z = omega arith

probed_never : (xs : List ℕ) → get_or (probed_all xs) 0 0 ≡ 0 → ⊥
probed_never [] z = omega arith
probed_never (x ∷ xs) z = probed_some x z

pub probed_is : (f t : ℕ) → f ≤ 5 → stops t ≡ false → probed (or_else f t) ≡ or_else f 6
probed_is zero t l n = rw n
probed_is (suc k) t l n = rw (small_stops (suc k) (omega arith) l)

same_turn : (m : Doing) (e : Entry) → AllSame e.refusals → AllSame (turn_entry m e).refusals
same_turn (deals r c) e h = h
same_turn (idle t) e h = go e.refusals h
  where
    all : (x : ℕ) (ys : List ℕ) → All (λ y. y ≡ x) ys → All (λ y. y ≡ probed x) (map probed ys)
    all x [] h = tt
    all x (y ∷ ys) h = (ap probed h.0, all x ys h.1)

    go : (xs : List ℕ) → AllSame xs → AllSame (probed_all xs)
    go [] h = tt
    go (x ∷ xs) h = all x xs h

turn_quiet : (m : Doing) (e : Entry) → (turn_entry m e).lines ≡ []
turn_quiet (idle t) e = refl
turn_quiet (deals r c) e = refl

abbrev pub plain_steps : List Item → List Entry → Waiting → List Step
plain_steps [] es w = []
plain_steps (o ∷ os) [] w = []
plain_steps (call c ∷ os) (e ∷ es) w = c ∷ plain_steps os es w
plain_steps (place d l ∷ os) (e ∷ es) w = plain_steps os es (waiting_after (place d l) (refusal_of e) w)
plain_steps (turn ∷ os) (e ∷ es) w = turn_step (turn_doing w) ∷ plain_steps os es (waiting_after turn (refusal_of e) w)

abbrev pub plain_entries : List Item → List Entry → Waiting → List Entry
plain_entries [] es w = []
plain_entries (o ∷ os) [] w = []
plain_entries (call c ∷ os) (e ∷ es) w = e ∷ plain_entries os es w
plain_entries (place d l ∷ os) (e ∷ es) w = plain_entries os es (waiting_after (place d l) (refusal_of e) w)
plain_entries (turn ∷ os) (e ∷ es) w = turn_entry (turn_doing w) e ∷ plain_entries os es (waiting_after turn (refusal_of e) w)

pub same_plain : (os : List Item) (es : List Entry) (w : Waiting) → SameAnswers es → SameAnswers (plain_entries os es w)
same_plain [] es w h = tt
same_plain (call c ∷ os) [] w h = tt
same_plain (place d l ∷ os) [] w h = tt
same_plain (turn ∷ os) [] w h = tt
same_plain (call c ∷ os) (e ∷ es) w h = (h.0, same_plain os es w h.1)
same_plain (place d l ∷ os) (e ∷ es) w h = same_plain os es (waiting_after (place d l) (refusal_of e) w) h.1
same_plain (turn ∷ os) (e ∷ es) w h = (same_turn (turn_doing w) e h.0, same_plain os es (waiting_after turn (refusal_of e) w) h.1)

-- ---- the rules

module _ (plan : Plan) where
  rule_turn : (e : Entry) (lines : List (List ℕ)) (m : Doing) → Asked (λ c. Rule plan c (refusal_of e) lines) (as_comes m)
      → Rule plan (turn_step m) (refusal_of (turn_entry m e)) lines
  rule_turn e lines (idle t) h = λ z. absurd (probed_never e.refusals z)
  rule_turn e lines (deals r c) h = h

  pub rules_plain : (os : List Item) (es : List Entry) (lines : List (List ℕ)) (w : Waiting) → Rules plan os es lines w
      → Calls.Rules plan (plain_steps os es w) (plain_entries os es w) lines
  rules_plain [] es lines w h = tt
  rules_plain (call c ∷ os) [] lines w h = tt
  rules_plain (place d l ∷ os) [] lines w h = tt
  rules_plain (turn ∷ os) [] lines w h = tt
  rules_plain (call c ∷ os) (e ∷ es) lines w h = (h.0, rules_plain os es (lines ++ e.lines) w h.1)
  rules_plain (place d l ∷ os) (e ∷ es) lines w h =
      subst (Calls.Rules plan (plain_steps os es (waiting_after (place d l) (refusal_of e) w)) (plain_entries os es (waiting_after (place d l) (refusal_of e) w)))
      (append-nil lines) (rules_plain os es (lines ++ []) (waiting_after (place d l) (refusal_of e) w) h.1)
  rules_plain (turn ∷ os) (e ∷ es) lines w h = (
    rule_turn e lines (turn_doing w) (subst (Asked (λ c. Rule plan c (refusal_of e) lines)) (turn_comes w) h.0),
    subst (λ (x : List (List ℕ)). Calls.Rules plan (plain_steps os es (waiting_after turn (refusal_of e) w)) (plain_entries os es (waiting_after turn (refusal_of e) w)) (lines ++ x))
        (sym (turn_quiet (turn_doing w) e)) (rules_plain os es (lines ++ []) (waiting_after turn (refusal_of e) w) h.1),
  )

-- ---- the books, and the sets of callers

not_booked : (u : Secrets) (k : ℕ) (b : Book) → (k ≡ 0 → ⊥) → booked u probe k b ≡ b
unfolding outcome
not_booked u zero b n = absurd (n refl)
not_booked u (suc k) b n = refl

pub book_turn : (u : Secrets) (e : Entry) (b : Book) (w : Waiting)
    → booked u (turn_step (turn_doing w)) (refusal_of (turn_entry (turn_doing w) e)) b ≡ booked_by u (comes_of w turn) (refusal_of e) b
book_turn u e b w = go (turn_doing w) ∙ ap (λ (x : Comes Fixed). booked_by u x (refusal_of e) b) (sym (turn_comes w))
  where
    go : (m : Doing) → booked u (turn_step m) (refusal_of (turn_entry m e)) b ≡ booked_by u (as_comes m) (refusal_of e) b
    go (idle t) = not_booked u (refusal_of (turn_entry (idle t) e)) b (probed_never e.refusals)
    go (deals r c) = refl

still : (k : ℕ) (X : Sets) → outcome k X X ≡ X
unfolding outcome
still zero X = refl
still (suc k) X = refl

sets_turn : (e : Entry) (X : Sets) (w : Waiting)
    → set_after (turn_step (turn_doing w)) (refusal_of (turn_entry (turn_doing w) e)) X ≡ sets_after (comes_of w turn) (refusal_of e) X
sets_turn e X w = go (turn_doing w) ∙ ap (λ (x : Comes Fixed). sets_after x (refusal_of e) X) (sym (turn_comes w))
  where
    go : (m : Doing) → set_after (turn_step m) (refusal_of (turn_entry m e)) X ≡ sets_after (as_comes m) (refusal_of e) X
    go (idle t) = still (refusal_of (turn_entry (idle t) e)) X
    go (deals r c) = refl

quiet_turn : (m : Doing) (k : ℕ) (b b' : Book) → Agrees (turn_step m) k b b'
quiet_turn (idle t) k b b' = tt
quiet_turn (deals r c) k b b' = tt

module _ (plan : Plan) (u u' : Secrets) where
  pub agree_plain : (os : List Item) (es : List Entry) (w : Waiting) (X : Sets) (b b' : Book) → Agree plan u u' os es w X b b'
      → AgreeCalled plan u u' (plain_steps os es w) (plain_entries os es w) X b b'
  agree_plain [] es w X b b' h = tt
  agree_plain (call c ∷ os) [] w X b b' h = tt
  agree_plain (place d l ∷ os) [] w X b b' h = tt
  agree_plain (turn ∷ os) [] w X b b' h = tt
  agree_plain (call c ∷ os) (e ∷ es) w X b b' h =
      (h.0, agree_plain os es w (set_after c (refusal_of e) X) (booked u c (refusal_of e) b) (booked u' c (refusal_of e) b') h.1)
  agree_plain (place d l ∷ os) (e ∷ es) w X b b' h = agree_plain os es (waiting_after (place d l) (refusal_of e) w) X b b' h.1
  agree_plain (turn ∷ os) (e ∷ es) w X b b' h =
      let w' = waiting_after turn (refusal_of e) w in (
        (λ z. quiet_turn (turn_doing w) (refusal_of (turn_entry (turn_doing w) e)) b b'),
        rw (book_turn u e b w, book_turn u' e b' w, sets_turn e X w)
            (agree_plain os es w' (sets_after (comes_of w turn) (refusal_of e) X) (booked_by u (comes_of w turn) (refusal_of e) b) (booked_by u' (comes_of w turn) (refusal_of e) b') h.1),
      )

pub book_plain : (u : Secrets) (os : List Item) (es : List Entry) (w : Waiting) (b : Book)
    → Calls.book_after u (plain_steps os es w) (plain_entries os es w) b ≡ book_after u os es w b
unfolding Calls.book_after book_after
book_plain u [] es w b = refl
book_plain u (call c ∷ os) [] w b = refl
book_plain u (place d l ∷ os) [] w b = refl
book_plain u (turn ∷ os) [] w b = refl
book_plain u (call c ∷ os) (e ∷ es) w b = book_plain u os es w (booked u c (refusal_of e) b)
book_plain u (place d l ∷ os) (e ∷ es) w b = book_plain u os es (waiting_after (place d l) (refusal_of e) w) b
book_plain u (turn ∷ os) (e ∷ es) w b =
    let w' = waiting_after turn (refusal_of e) w in
    ap (Calls.book_after u (plain_steps os es w') (plain_entries os es w')) (book_turn u e b w) ∙ book_plain u os es w' (booked_by u (comes_of w turn) (refusal_of e) b)
