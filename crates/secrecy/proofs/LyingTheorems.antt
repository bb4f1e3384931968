-- Document 02, (xiii): the matching of demand 3 matches also what is seen of a last opening at which the group lies; the count follows.
use Prim.Native.Nat.{ℕ, ◌≤◌}
use mathlib.Core.Path.{◌≡◌, refl, sym, ◌∙◌, ap, ap₂, subst}
use mathlib.Core.Logic.{◌↔◌}
use mathlib.Core.Bool.{Bool, true, ◌&&◌}
use mathlib.Core.List.{List, [], ◌∷◌, ◌++◌, map}
use Rattle.poly.specs.Counting.{All}
use Rattle.poly.proofs.Lists.{map_equal}
use Rattle.runs.specs.Draws.{Plan, Draw}
use Rattle.runs.specs.Calls.{new_post}
use Rattle.runs.specs.Orders.{Desk, desk_after}
use Rattle.secrecy.specs.Steps.{Secrets, Item}
use Rattle.secrecy.specs.Seen.{Entry, Seen, deal_lines, new_desk, done_at, lines_of, desks_after, entry_of, run, seen}
use Rattle.secrecy.specs.Claim.{Shows, Matching, desks_of, book_of, Beside}
use Rattle.secrecy.specs.Count.{draws, same_list}
use Rattle.secrecy.specs.Lies.{Glimpse, Choice, last_opening, SeenToTheLast, seen_to_the_last, ShowsToTheLast, PremisesToTheLast, SecrecyWithLies, same_glimpse, same_to_the_last, shows_to_the_last, ShowsToTheLastRight, EqualCountsWithLies}
use Rattle.secrecy.proofs.Counting.{Passes, matched_counts}
use Rattle.secrecy.proofs.Tests.{Right, split, both_true, lines_right, entry_right, list_right, seen_right}
use Rattle.secrecy.proofs.Listed.{all_draws}
use Rattle.secrecy.proofs.Counts.{rematched}
use Rattle.secrecy.proofs.Theorems.{secrecy_everywhere}
use Rattle.secrecy.proofs.LyingLast.{Fellow, last_same}

-- ---- the group's rows at the end of a list are those that the record shows

heads : (e e' : Entry) (es es' : List Entry) → e ∷ es ≡ e' ∷ es' → (e ≡ e') × (es ≡ es')
heads e e' es es' p = (ap (λ (l : List Entry). first l e) p, ap rest p)
  where
    first : List Entry → Entry → Entry
    first [] x = x
    first (y ∷ ys) x = y

    rest : List Entry → List Entry
    rest [] = []
    rest (y ∷ ys) = ys

module _ (plan : Plan) (group : List ℕ) (d d' : Draw) (u u' : Secrets) where
  pub rows_shown : (os : List Item) (lines lines' : List (List ℕ)) (q q' : ℕ → Desk) → All (λ i. (q i).post.rows ≡ (q' i).post.rows) group
      → run plan group d u os lines q ≡ run plan group d' u' os lines' q'
      → All (λ i. (desks_after plan d u os lines q i).post.rows ≡ (desks_after plan d' u' os lines' q' i).post.rows) group
  unfolding run desks_after entry_of
  rows_shown [] lines lines' q q' h e = h
  rows_shown (o ∷ os) lines lines' q q' h e =
      let (one, more) = heads _ _ _ _ e in
      rows_shown os (lines ++ lines_of plan d u lines o q) (lines' ++ lines_of plan d' u' lines' o q') (λ i. desk_after (done_at plan d u lines o q i)) (λ i. desk_after (done_at plan d' u' lines' o q' i))
      (map_equal _ _ group (ap (λ (x : Entry). x.rows) one)) more

-- ---- the matching

module _ (plan : Plan) (group : List ℕ) (rows : ℕ → List ℕ) (os : List Item) (r : ℕ) (choices : List Choice) (u u' : Secrets) (R : Seen)
    (place : (book_of u os R).place r ≡ (book_of u' os R).place r) where
  module _ (d d' : Draw) (s : Shows plan group rows os u R d) (s' : Shows plan group rows os u' R d') (b : Beside plan rows os u u' R d d') where
    start_rows : (is : List ℕ) → All (λ i. (new_desk plan d (rows i) i).post.rows ≡ (new_desk plan d' (rows i) i).post.rows) is
    unfolding new_desk new_post
    start_rows [] = tt
    start_rows (i ∷ is) = (refl, start_rows is)

    deals : deal_lines plan d u ≡ R.deals
    unfolding seen
    deals = λ j. (s.same j).deals

    deals' : deal_lines plan d' u' ≡ R.deals
    unfolding seen
    deals' = λ j. (s'.same j).deals

    told : run plan group d u os R.deals (λ i. new_desk plan d (rows i) i) ≡ R.entries
    unfolding seen
    told = ap (λ (l : List (List ℕ)). run plan group d u os l (λ i. new_desk plan d (rows i) i)) (sym deals) ∙ (λ j. (s.same j).entries)

    told' : run plan group d' u' os R.deals (λ i. new_desk plan d' (rows i) i) ≡ R.entries
    unfolding seen
    told' = ap (λ (l : List (List ℕ)). run plan group d' u' os l (λ i. new_desk plan d' (rows i) i)) (sym deals') ∙ (λ j. (s'.same j).entries)

    fellow : (i : ℕ) → 1 ≤ i → i ≤ plan.n → Fellow r (desks_of plan rows os R u d i) (desks_of plan rows os R u' d' i)
    fellow i lo hi =
        let a = b.posts i lo hi in record { session = a.session; long = a.long; row = λ in-it is. a.rows r in-it is place }

    pub same_last : last_opening plan group d u r (seen plan group d u rows os) choices [] (desks_of plan rows os (seen plan group d u rows os) u d)
        ≡ last_opening plan group d' u' r (seen plan group d' u' rows os) choices [] (desks_of plan rows os (seen plan group d' u' rows os) u' d')
    same_last =
        ap (λ (S : Seen). last_opening plan group d u r S choices [] (desks_of plan rows os S u d)) s.same
        ∙ last_same plan group d d' u u' r (desks_of plan rows os R u d) (desks_of plan rows os R u' d') fellow
        (rows_shown plan group d d' u u' os R.deals R.deals _ _ (start_rows group) (told ∙ sym told')) R choices []
        ∙ ap (λ (S : Seen). last_opening plan group d' u' r S choices [] (desks_of plan rows os S u' d')) (sym s'.same)

pub secrecy_with_lies : SecrecyWithLies
unfolding seen_to_the_last
secrecy_with_lies plan group rows os r choices u u' R h =
    record {
      to = m.to;
      from = m.from;
      to_ok = λ a s.
          let b = m.to_ok a (early u a s) in
          record {
            is_draw = b.is_draw;
            same = λ j. record { before = b.same j; last = (sym (last a (m.to a) (early u a s) b (all.1 a (early u a s))) ∙ (λ k. (s.same k).last)) j };
          };
      from_ok = λ a s.
          let b = m.from_ok a (early u' a s) in
          let beside = subst (Beside plan rows os u u' R.before (m.from a)) (m.to_from a (early u' a s)) (all.1 (m.from a) b) in
          record {
            is_draw = b.is_draw;
            same = λ j. record { before = b.same j; last = (last (m.from a) a b (early u' a s) beside ∙ (λ k. (s.same k).last)) j };
          };
      from_to = λ a s. m.from_to a (early u a s);
      to_from = λ a s. m.to_from a (early u' a s);
    }
  where
    all : (x : Matching (Shows plan group rows os u R.before) (Shows plan group rows os u' R.before))
        × ((d : Draw) → Shows plan group rows os u R.before d → Beside plan rows os u u' R.before d (x.to d))
    all = secrecy_everywhere plan group rows os u u' R.before h.before

    m : Matching (Shows plan group rows os u R.before) (Shows plan group rows os u' R.before)
    m = all.0

    early : (v : Secrets) (d : Draw) → ShowsToTheLast plan group rows os r choices v R d → Shows plan group rows os v R.before d
    early v d s = record { is_draw = s.is_draw; same = λ j. (s.same j).before }

    last : (d d' : Draw) → Shows plan group rows os u R.before d → Shows plan group rows os u' R.before d' → Beside plan rows os u u' R.before d d'
        → last_opening plan group d u r (seen plan group d u rows os) choices [] (desks_of plan rows os (seen plan group d u rows os) u d)
        ≡ last_opening plan group d' u' r (seen plan group d' u' rows os) choices [] (desks_of plan rows os (seen plan group d' u' rows os) u' d')
    last = same_last plan group rows os r choices u u' R.before h.row

-- ---- the test that is counted, and the count

glimpse_equal : (x y : Glimpse) → same_glimpse x y ≡ true → x ≡ y
unfolding same_glimpse
glimpse_equal x y e =
    let (entry, rest) = split entry_right x.entry y.entry _ e in
    let acceptances = lines_right.equal x.acceptances y.acceptances rest in
    λ i. record { entry = entry i; acceptances = acceptances i }

glimpse_self : (x : Glimpse) → same_glimpse x x ≡ true
unfolding same_glimpse
glimpse_self x = both_true (entry_right.self x.entry) (lines_right.self x.acceptances)

glimpses_right : Right (same_list same_glimpse)
glimpses_right = list_right same_glimpse (record { equal = glimpse_equal; self = glimpse_self })

to_the_last_equal : (x y : SeenToTheLast) → same_to_the_last x y ≡ true → x ≡ y
unfolding same_to_the_last
to_the_last_equal x y e =
    let (before, rest) = split seen_right x.before y.before _ e in
    let last = glimpses_right.equal x.last y.last rest in
    λ i. record { before = before i; last = last i }

to_the_last_self : (x : SeenToTheLast) → same_to_the_last x x ≡ true
unfolding same_to_the_last
to_the_last_self x = both_true (seen_right.self x.before) (glimpses_right.self x.last)

pub shows_to_the_last_right : ShowsToTheLastRight
unfolding shows_to_the_last
shows_to_the_last_right plan group rows os r choices u R d = (
  (λ e. to_the_last_equal _ R e),
  (λ e. subst (λ (S : SeenToTheLast). same_to_the_last (seen_to_the_last plan group rows os r choices u d) S ≡ true) e (to_the_last_self _)),
)

-- the listed draws that pass the test are the draws that show it
passes_shows : (plan : Plan) (group : List ℕ) (rows : ℕ → List ℕ) (os : List Item) (r : ℕ) (choices : List Choice) (u : Secrets) (R : SeenToTheLast) (d : Draw)
    → Passes (shows_to_the_last plan group rows os r choices u R) (draws plan) d ↔ ShowsToTheLast plan group rows os r choices u R d
passes_shows plan group rows os r choices u R d =
    let right = shows_to_the_last_right plan group rows os r choices u R d in (
      (λ h. record { is_draw = (all_draws plan).1 d h.0; same = right.0 h.1 }),
      (λ s. ((all_draws plan).0 d s.is_draw, right.1 s.same)),
    )

pub equal_counts_with_lies : EqualCountsWithLies
equal_counts_with_lies plan group rows os r choices u u' R premises =
    matched_counts (draws plan) (shows_to_the_last plan group rows os r choices u R) (shows_to_the_last plan group rows os r choices u' R) (all_draws plan).2
    (rematched (passes_shows plan group rows os r choices u R) (passes_shows plan group rows os r choices u' R)
    (secrecy_with_lies plan group rows os r choices u u' R premises))
