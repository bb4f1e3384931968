-- Barred callers add nothing to the numbers that must agree: of orders, from the calls that they come to.
use Prim.Native.Nat.{ℕ}
use mathlib.Core.Path.{◌≡◌, refl, sym, ◌∙◌, ap, subst}
use mathlib.Core.Bool.{true}
use mathlib.Core.List.{List, [], ◌∷◌, map}
use Rattle.runs.specs.Draws.{Plan}
use Rattle.runs.specs.Callers.{Sets, all_posts}
use Rattle.runs.specs.Orders.{call, place, turn, Comes, no_call, a_call, Asked, sets_after}
use Rattle.secrecy.specs.Steps.{Secrets, Fixed, Item}
use Rattle.secrecy.specs.Callers.{called}
use Rattle.secrecy.specs.Seen.{Entry, deal_lines, run, seen}
use Rattle.secrecy.specs.Waiting.{Waiting, none_waiting, waiting_after, comes_of}
use Rattle.secrecy.specs.Rules.{refusal_of, SameAnswers, Rules}
use Rattle.secrecy.specs.Book.{Book, blank, booked, Agrees, booked_by, Agree}
use Rattle.secrecy.specs.Barred.{AgreeAll, AllIsEnough, BarredAddNothing}
use Rattle.secrecy.proofs.CallRuns as Calls
use Rattle.secrecy.proofs.Called as Called
use Rattle.secrecy.proofs.Doings.{Doing, idle, deals, turn_doing, as_comes, turn_comes}
use Rattle.secrecy.proofs.AsCalls.{plain_steps, plain_entries, same_plain, rules_plain, agree_plain, book_turn}
use Rattle.secrecy.proofs.Theorems.{down, steps, below, desks}
use Rattle.secrecy.proofs.NeverOrders.{strip, strip_run, strip_same, strip_rules}

pub all_is_enough : AllIsEnough
all_is_enough plan u u' [] es w X b b' h = tt
all_is_enough plan u u' (o ∷ os) [] w X b b' h = tt
all_is_enough plan u u' (o ∷ os) (e ∷ es) w X b b' h = (
  go (comes_of w o) h.0,
  all_is_enough plan u u' os es (waiting_after o (refusal_of e) w) (sets_after (comes_of w o) (refusal_of e) X)
      (booked_by u (comes_of w o) (refusal_of e) b) (booked_by u' (comes_of w o) (refusal_of e) b') h.1,
)
  where
    go : (x : Comes Fixed) → Asked (λ c. Agrees c (refusal_of e) b b') x → Asked (λ c. called plan X c ≡ true → Agrees c (refusal_of e) b b') x
    go no_call a = tt
    go (a_call c) a = λ z. a

-- a turn opens nothing
turn_agrees : (k : ℕ) (b b' : Book) (w : Waiting) → Asked (λ c. Agrees c k b b') (comes_of w turn)
turn_agrees k b b' w = subst (Asked (λ c. Agrees c k b b')) (sym (turn_comes w)) (go (turn_doing w))
  where
    go : (m : Doing) → Asked (λ c. Agrees c k b b') (as_comes m)
    go (idle t) = tt
    go (deals r c) = tt

module _ (u u' : Secrets) where
  -- from the calls back to the orders
  plain_agree : (os : List Item) (es : List Entry) (w : Waiting) (b b' : Book) → Calls.Agree u u' (plain_steps os es w) (plain_entries os es w) b b'
      → AgreeAll u u' os es w b b'
  plain_agree [] es w b b' h = tt
  plain_agree (call c ∷ os) [] w b b' h = tt
  plain_agree (place d l ∷ os) [] w b b' h = tt
  plain_agree (turn ∷ os) [] w b b' h = tt
  plain_agree (call c ∷ os) (e ∷ es) w b b' h = (h.0, plain_agree os es w (booked u c (refusal_of e) b) (booked u' c (refusal_of e) b') h.1)
  plain_agree (place d l ∷ os) (e ∷ es) w b b' h = (tt, plain_agree os es (waiting_after (place d l) (refusal_of e) w) b b' h)
  plain_agree (turn ∷ os) (e ∷ es) w b b' h =
      let w' = waiting_after turn (refusal_of e) w in (
        turn_agrees (refusal_of e) b b' w,
        plain_agree os es w' (booked_by u (comes_of w turn) (refusal_of e) b) (booked_by u' (comes_of w turn) (refusal_of e) b')
            (rw (book_turn u e b w, book_turn u' e b' w) at h.1),
      )

  -- the group's rows count for nothing
  strip_agree : (plan : Plan) (os : List Item) (es : List Entry) (w : Waiting) (X : Sets) (b b' : Book) → Agree plan u u' os es w X b b'
      → Agree plan u u' os (map strip es) w X b b'
  strip_agree plan [] es w X b b' h = tt
  strip_agree plan (o ∷ os) [] w X b b' h = tt
  strip_agree plan (o ∷ os) (e ∷ es) w X b b' h = (
    h.0,
    strip_agree plan os es (waiting_after o (refusal_of e) w) (sets_after (comes_of w o) (refusal_of e) X)
        (booked_by u (comes_of w o) (refusal_of e) b) (booked_by u' (comes_of w o) (refusal_of e) b') h.1,
  )

  unstrip_agree : (os : List Item) (es : List Entry) (w : Waiting) (b b' : Book) → AgreeAll u u' os (map strip es) w b b' → AgreeAll u u' os es w b b'
  unstrip_agree [] es w b b' h = tt
  unstrip_agree (o ∷ os) [] w b b' h = tt
  unstrip_agree (o ∷ os) (e ∷ es) w b b' h = (
    h.0,
    unstrip_agree os es (waiting_after o (refusal_of e) w) (booked_by u (comes_of w o) (refusal_of e) b) (booked_by u' (comes_of w o) (refusal_of e) b') h.1,
  )

pub barred_add_nothing : BarredAddNothing
unfolding seen
barred_add_nothing plan group rows os u u' R sound low same rules d shows agree =
    unstrip_agree u u' os R.entries none_waiting blank blank
    (subst (λ (es : List Entry). AgreeAll u u' os es none_waiting blank blank) (sym none_are)
    (plain_agree u u' os none none_waiting blank blank
    (Called.barred_add_nothing plan [] rows (steps plan [] rows os (seen plan [] d u rows os)) u u' (below plan [] rows os (seen plan [] d u rows os)) sound low
    (same_plain os none none_waiting same_none) (rules_plain plan os none lines none_waiting rules_none) d
    (down plan [] rows os (seen plan [] d u rows os) sound tt same_none u d (record { is_draw = shows.is_draw; same = refl }))
    (agree_plain plan u u' os none none_waiting all_posts blank blank agree_none))))
  where
    lines : List (List ℕ)
    lines = deal_lines plan d u

    none : List Entry
    none = run plan [] d u os (deal_lines plan d u) (desks plan group rows os R d)

    none_are : map strip R.entries ≡ none
    none_are =
        sym (ap (λ (es : List Entry). map strip es) (λ j. (shows.same j).entries))
        ∙ strip_run plan group d u os (deal_lines plan d u) (desks plan group rows os R d)

    same_none : SameAnswers none
    same_none = subst SameAnswers none_are (strip_same R.entries same)

    rules_none : Rules plan os none (deal_lines plan d u) none_waiting
    rules_none =
        subst (λ (l : List (List ℕ)). Rules plan os none l none_waiting) (sym (λ j. (shows.same j).deals))
        (subst (λ (es : List Entry). Rules plan os es R.deals none_waiting) none_are (strip_rules plan os R.entries R.deals none_waiting rules))

    agree_none : Agree plan u u' os none none_waiting all_posts blank blank
    agree_none =
        subst (λ (es : List Entry). Agree plan u u' os es none_waiting all_posts blank blank) none_are
        (strip_agree u u' plan os R.entries none_waiting all_posts blank blank agree)
