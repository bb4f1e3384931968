-- Nobody gets 13, of orders: a call of the list by Never.antt; a line placed and a turn by their tables.
use Prim.Native.Nat.{ℕ, zero, suc, ◌≤◌}
use mathlib.Core.Path.{◌≡◌, refl, sym, ◌∙◌, ap, subst}
use mathlib.Core.Logic.{◌≢◌}
use mathlib.Core.List.{List, [], ◌∷◌, ◌++◌, map}
use native.Mathlib.Omega.{arith}
use lib.ListN.{length, get_or}
use Rattle.poly.specs.Counting.{All}
use Rattle.parts.specs.Draw.{each_from}
use Rattle.session.specs.declared.Session.{Session}
use Rattle.dealers.specs.State.{chosen}
use Rattle.dealers.specs.Calls.{place_tests, place_refusal_of, turn_answer}
use Rattle.dealers.specs.Table.{taken_table, turn_table}
use Rattle.dealers.proofs.Laws.{turns_lawful}
use Rattle.runs.specs.Draws.{Plan, Draw}
use Rattle.runs.specs.Orders.{call, place, turn, Desk, carry, desk_after}
use Rattle.runs.proofs.Start.{sizes}
use Rattle.secrecy.specs.Steps.{Secrets, Item, Placed}
use Rattle.secrecy.specs.Seen.{Entry, posts, deal_lines, line_at, done_at, lines_of, entry_of, run, seen}
use Rattle.secrecy.specs.Waiting.{Waiting, none_waiting, waiting_after}
use Rattle.secrecy.specs.Rules.{refusal_of, SameAnswers, Rules}
use Rattle.secrecy.specs.Claim.{NeverThirteen}
use Rattle.secrecy.proofs.Thirteen.{Other, never_first}
use Rattle.secrecy.proofs.Never as Calls
use Rattle.secrecy.proofs.AsCalls.{plain_entries, same_plain, rules_plain}
use Rattle.secrecy.proofs.Theorems.{down, steps, below, desks}

at_first : (f : ℕ → ℕ) (n : ℕ) → 1 ≤ n → get_or (map f (posts n)) 0 0 ≡ f 1
unfolding posts each_from
at_first f zero h = absurd (omega arith)
at_first f (suc n) h = refl

place_never : (state : List ℕ) (d len : ℕ) → place_refusal_of state d len ≢ 13
unfolding place_refusal_of
place_never state d len = never_first (place_tests state d len) (omega arith)

turn_never : (s : Session) (rows state : List ℕ) → (turn_answer s rows state).refusal ≢ 13
turn_never s rows state e = never_first (turn_table s rows state) others (sym (turns_lawful s rows state).order ∙ e)
  where
    taken : (d : ℕ) → Other (taken_table s rows state d)
    taken zero = tt
    taken (suc d) = omega arith

    others : Other (turn_table s rows state)
    others = ((λ k. omega arith), ((λ k. omega arith), ((λ k. omega arith), ((λ k. omega arith), ((λ k. omega arith), ((λ k. omega arith), ((λ k. omega arith), taken (chosen state))))))))

module _ (plan : Plan) (group : List ℕ) (draw : Draw) (u : Secrets) (some : 1 ≤ plan.n) where
  place_entry : (lines : List (List ℕ)) (d : ℕ) (l : Placed) (q : ℕ → Desk) → refusal_of (entry_of plan group draw u lines (place d l) q) ≢ 13
  unfolding entry_of carry
  place_entry lines d l q e =
      place_never (q 1).state d (length (line_at plan draw u l)) (sym (at_first (λ i. place_refusal_of (q i).state d (length (line_at plan draw u l))) plan.n some) ∙ e)

  turn_entry_is : (lines : List (List ℕ)) (q : ℕ → Desk) → refusal_of (entry_of plan group draw u lines turn q) ≢ 13
  unfolding entry_of carry
  turn_entry_is lines q e =
      turn_never (q 1).post.session (q 1).post.rows (q 1).state
      (sym (at_first (λ i. (turn_answer (q i).post.session (q i).post.rows (q i).state).refusal) plan.n some) ∙ e)

  orders_never : (os : List Item) (lines : List (List ℕ)) (q : ℕ → Desk) (w : Waiting) → All (λ e. refusal_of e ≢ 13) (plain_entries os (run plan group draw u os lines q) w)
      → All (λ e. refusal_of e ≢ 13) (run plan group draw u os lines q)
  unfolding run
  orders_never [] lines q w h = tt
  orders_never (call c ∷ os) lines q w h =
      (h.0, orders_never os (lines ++ lines_of plan draw u lines (call c) q) (λ i. desk_after (done_at plan draw u lines (call c) q i)) w h.1)
  orders_never (place d l ∷ os) lines q w h = (
    place_entry lines d l q,
    orders_never os (lines ++ []) (λ i. desk_after (done_at plan draw u lines (place d l) q i)) (waiting_after (place d l) (refusal_of (entry_of plan group draw u lines (place d l) q)) w) h,
  )
  orders_never (turn ∷ os) lines q w h = (
    turn_entry_is lines q,
    orders_never os (lines ++ []) (λ i. desk_after (done_at plan draw u lines turn q i)) (waiting_after turn (refusal_of (entry_of plan group draw u lines turn q)) w) h.1,
  )

-- ---- a group counts for nothing here: the record of none

abbrev pub strip : Entry → Entry
strip e = record { refusals = e.refusals; values = e.values; lines = e.lines; rows = [] }

pub strip_run : (plan : Plan) (group : List ℕ) (draw : Draw) (u : Secrets) (os : List Item) (lines : List (List ℕ)) (q : ℕ → Desk)
    → map strip (run plan group draw u os lines q) ≡ run plan [] draw u os lines q
unfolding run entry_of
strip_run plan group draw u [] lines q = refl
strip_run plan group draw u (o ∷ os) lines q =
    ap (λ (es : List Entry). entry_of plan [] draw u lines o q ∷ es)
    (strip_run plan group draw u os (lines ++ lines_of plan draw u lines o q) (λ i. desk_after (done_at plan draw u lines o q i)))

pub strip_same : (es : List Entry) → SameAnswers es → SameAnswers (map strip es)
strip_same [] h = tt
strip_same (e ∷ es) h = (h.0, strip_same es h.1)

pub strip_rules : (plan : Plan) (os : List Item) (es : List Entry) (lines : List (List ℕ)) (w : Waiting) → Rules plan os es lines w → Rules plan os (map strip es) lines w
strip_rules plan [] es lines w h = tt
strip_rules plan (o ∷ os) [] lines w h = tt
strip_rules plan (call c ∷ os) (e ∷ es) lines w h = (h.0, strip_rules plan os es (lines ++ e.lines) w h.1)
strip_rules plan (place d l ∷ os) (e ∷ es) lines w h = (h.0, strip_rules plan os es (lines ++ []) (waiting_after (place d l) (refusal_of e) w) h.1)
strip_rules plan (turn ∷ os) (e ∷ es) lines w h = (h.0, strip_rules plan os es (lines ++ []) (waiting_after turn (refusal_of e) w) h.1)

unstrip : (es : List Entry) → All (λ e. refusal_of e ≢ 13) (map strip es) → All (λ e. refusal_of e ≢ 13) es
unstrip [] h = tt
unstrip (e ∷ es) h = (h.0, unstrip es h.1)

pub never_thirteen : NeverThirteen
unfolding seen
never_thirteen plan group rows os u R sound low same rules d shows =
    subst (All (λ e. refusal_of e ≢ 13)) shown
    (unstrip (run plan group d u os lines (desks plan group rows os R d))
    (subst (All (λ e. refusal_of e ≢ 13)) (sym (strip_run plan group d u os lines (desks plan group rows os R d)))
    (orders_never plan [] d u (omega (arith, (sizes plan sound).n_low)) os lines (desks plan group rows os R d) none_waiting
    (Calls.never_thirteen plan [] rows (steps plan [] rows os (seen plan [] d u rows os)) u (below plan [] rows os (seen plan [] d u rows os)) sound low
    (same_plain os (run plan [] d u os lines (desks plan group rows os R d)) none_waiting same_none)
    (rules_plain plan os (run plan [] d u os lines (desks plan group rows os R d)) lines none_waiting rules_none) d
    (down plan [] rows os (seen plan [] d u rows os) sound tt same_none u d (record { is_draw = shows.is_draw; same = refl }))))))
  where
    lines : List (List ℕ)
    lines = deal_lines plan d u

    shown : run plan group d u os (deal_lines plan d u) (desks plan group rows os R d) ≡ R.entries
    shown = λ j. (shows.same j).entries

    none_are : map strip R.entries ≡ run plan [] d u os (deal_lines plan d u) (desks plan group rows os R d)
    none_are = sym (ap (λ (es : List Entry). map strip es) shown) ∙ strip_run plan group d u os (deal_lines plan d u) (desks plan group rows os R d)

    same_none : SameAnswers (run plan [] d u os (deal_lines plan d u) (desks plan group rows os R d))
    same_none = subst SameAnswers none_are (strip_same R.entries same)

    rules_none : Rules plan os (run plan [] d u os (deal_lines plan d u) (desks plan group rows os R d)) (deal_lines plan d u) none_waiting
    rules_none =
        subst (λ (l : List (List ℕ)). Rules plan os (run plan [] d u os (deal_lines plan d u) (desks plan group rows os R d)) l none_waiting) (sym (λ j. (shows.same j).deals))
        (subst (λ (es : List Entry). Rules plan os es R.deals none_waiting) none_are (strip_rules plan os R.entries R.deals none_waiting rules))
