-- Demand 3: the draws that show a record under one list of secrets are matched one to one with those that show it under the other, and so
-- there are as many. The matching is that of the calls that the orders come to.
use Prim.Native.Nat.{ℕ, zero, suc, ◌+◌, ◌≤◌, ◌<◌}
use mathlib.Core.Path.{◌≡◌, refl, sym, ◌∙◌, ap, subst}
use mathlib.Core.List.{List, []}
use mathlib.Core.Logic.{◌≢◌}
use native.Mathlib.Omega.{arith}
use native.Mathlib.Decide.{ℕ_discrete, dec_le}
use lib.ListN.{get_or}
use Rattle.field.specs.Modulus.{p}
use Rattle.field.specs.Arithmetic.{difference}
use Rattle.field.proofs.Modular.{difference_below}
use Rattle.poly.specs.Counting.{All}
use Rattle.poly.proofs.Lists.{all_map, map_equal}
use Rattle.refusal.specs.Refusal.{outcome}
use Rattle.parts.specs.Draw.{each_from}
use Rattle.shape.specs.Bounds.{row_count_of, last_row_at}
use Rattle.factory.specs.declared.Number.{Number}
use Rattle.factory.specs.Calls.{dealer_number_of, dealer_refusal}
use Rattle.runs.specs.Draws.{Plan, Draw, IsRaw, Raw, none, by, when_raw, Sound, raw_draw}
use Rattle.runs.specs.Calls.{Post, new_post}
use Rattle.runs.specs.Callers.{all_posts}
use Rattle.runs.specs.Orders.{Desk}
use Rattle.secrecy.specs.Steps.{Secrets, Step, Item, Placed, theirs, bytes, dealt_number}
use Rattle.secrecy.specs.Seen.{Entry, Seen, all_rows, deal_seen, deal_lines, line_at, new_desk, desks_after, run, seen}
use Rattle.secrecy.specs.Waiting.{none_waiting}
use Rattle.secrecy.specs.Rules.{SameAnswers}
use Rattle.secrecy.specs.Book.{Book, blank}
use Rattle.secrecy.specs.Claim.{Shows, Matching, Secrecy, Abreast, desks_of, book_of, Beside, SecrecyEverywhere}
use Rattle.secrecy.specs.Count.{EqualCounts, ShowsRight}
use Rattle.secrecy.proofs.CallRuns as Calls
use Rattle.secrecy.proofs.CallClaims as Called
use Rattle.secrecy.proofs.ForCallers.{secrecy_called}
use Rattle.secrecy.proofs.Places.{Kept, kept_new}
use Rattle.secrecy.proofs.Frames.{frame}
use Rattle.secrecy.proofs.AsCalls.{plain_steps, plain_entries, same_plain, rules_plain, agree_plain, book_plain}
use Rattle.secrecy.proofs.Along.{along}
use Rattle.secrecy.proofs.Again.{Same, again}
use Rattle.secrecy.proofs.Tests.{same_of_shows, shows_of_same}
use Rattle.secrecy.proofs.Counts as Counts

-- ---- what a dealer sends is an element

value_low : (u c k : ℕ) → (outcome {A = Number} k (record { refusal = 0; value = difference u c }) (record { refusal = k; value = 0 })).value < p
unfolding outcome
value_low u c zero = difference_below u c
value_low u c (suc k) = omega arith

pub number_low : (plan : Plan) (draw : Draw) (u : Secrets) (r : ℕ) → dealt_number plan draw u r < p
unfolding dealt_number
number_low plan draw u r = go (plan.raw r)
  where
    c : ℕ
    c = get_or (raw_draw draw r) 0 0

    go : (x : Raw) → when_raw x (dealer_number_of (u r) c).value 0 < p
    go none = omega arith
    go (by dealer) = value_low (u r) c (dealer_refusal (u r) c)

-- ---- the dealers' lines of two draws with the same D lines

each_at : (P : ℕ → Type 0) (j m : ℕ) → All P (each_from j m (λ i. i)) → (r : ℕ) → j ≤ r → r < j + m → P r
unfolding each_from
each_at P j zero h r lo hi = absurd (omega arith)
each_at P j (suc m) h r lo hi = go (ℕ_discrete r j) (λ ne. each_at P (suc j) m h.1 r (omega arith) (omega arith))
  where
    go : Dec (r ≡ j) → (r ≢ j → P r) → P r
    go (yes e) later = subst P (sym e) h.0
    go (no ne) later = later ne

module _ (plan : Plan) (sound : Sound plan) (d d' : Draw) (v v' : Secrets) (e : deal_lines plan d v ≡ deal_lines plan d' v') where
  line_same : (r : ℕ) → deal_seen plan d v r ≡ deal_seen plan d' v' r
  unfolding all_rows deal_seen
  line_same r = go (dec_le (suc r) row_count_of)
    where
      none_there : (x : Raw) → (IsRaw x → r ≤ last_row_at) → (r < row_count_of → ⊥) → (l l' : List ℕ) → when_raw x l [] ≡ when_raw x l' []
      none_there none raw out l l' = refl
      none_there (by dealer) raw out l l' = absurd (out (omega (arith, raw tt)))

      go : Dec (r < row_count_of) → deal_seen plan d v r ≡ deal_seen plan d' v' r
      go (yes low) =
          each_at (λ x. deal_seen plan d v x ≡ deal_seen plan d' v' x) 0 row_count_of
          (map_equal (deal_seen plan d v) (deal_seen plan d' v') all_rows e) r (omega arith) low
      go (no out) = none_there (plan.raw r) (sound.raws r) out _ _

  told : (l : Placed) → line_at plan d v l ≡ line_at plan d' v' l
  told (theirs r) = line_same r
  told (bytes xs) = refl

-- ---- a record of orders, and that of their calls

module _ (plan : Plan) (group : List ℕ) (rows : ℕ → List ℕ) (os : List Item) (R : Seen) where
  abbrev pub steps : List Step
  steps = plain_steps os R.entries none_waiting

  abbrev pub below : Seen
  below =
      record {
        points = R.points;
        raws = R.raws;
        triples = R.triples;
        polynomials = R.polynomials;
        deals = R.deals;
        entries = plain_entries os R.entries none_waiting;
      }

  abbrev pub desks : Draw → ℕ → Desk
  desks draw i = new_desk plan draw (rows i) i

  abbrev starts : Draw → ℕ → Post
  starts draw i = new_post plan draw (rows i) i

  pub start_kept : (v : Secrets) (draw : Draw) (i : ℕ) → (frame (desks draw i).post ≡ 0 → Kept plan draw v none_waiting (desks draw i).state) × (starts draw i ≡ (desks draw i).post)
  unfolding new_desk
  start_kept v draw i = ((λ z. kept_new plan draw v), refl)

  module _ (sound : Sound plan) (members : All (λ i. (1 ≤ i) × (i ≤ plan.n)) group) (same-all : SameAnswers R.entries) where
    module _ (v : Secrets) (draw : Draw) (s : Shows plan group rows os v R draw) where
      pub entries_are : run plan group draw v os (deal_lines plan draw v) (desks draw) ≡ R.entries
      unfolding seen
      entries_are = λ j. (s.same j).entries

      pub deals_are : deal_lines plan draw v ≡ R.deals
      unfolding seen
      deals_are = λ j. (s.same j).deals

      same : SameAnswers (run plan group draw v os (deal_lines plan draw v) (desks draw))
      same = subst SameAnswers (sym entries_are) same-all

      followed : (Calls.run plan group draw v steps (deal_lines plan draw v) (starts draw) ≡ plain_entries os R.entries none_waiting)
          × ((i : ℕ) → 1 ≤ i → i ≤ plan.n → Calls.posts_after plan draw v steps (deal_lines plan draw v) (starts draw) i ≡ (desks_after plan draw v os (deal_lines plan draw v) (desks draw) i).post)
      followed =
          subst (λ (es : List Entry).
          (Calls.run plan group draw v (plain_steps os es none_waiting) (deal_lines plan draw v) (starts draw) ≡ plain_entries os es none_waiting)
          × ((i : ℕ) → 1 ≤ i → i ≤ plan.n → Calls.posts_after plan draw v (plain_steps os es none_waiting) (deal_lines plan draw v) (starts draw) i ≡ (desks_after plan draw v os (deal_lines plan draw v) (desks draw) i).post))
          entries_are
          (along plan group draw v sound (number_low plan draw v) members os (deal_lines plan draw v) (desks draw) (starts draw) none_waiting (λ i lo hi. start_kept v draw i) same)

      -- the posts after the orders are those after the calls
      ends : (i : ℕ) → 1 ≤ i → i ≤ plan.n → Called.posts_of plan rows steps below v draw i ≡ (desks_of plan rows os R v draw i).post
      ends i lo hi =
          subst (λ (l : List (List ℕ)). Calls.posts_after plan draw v steps l (starts draw) i ≡ (desks_after plan draw v os l (desks draw) i).post) deals_are (followed.1 i lo hi)

      pub down : Called.Shows plan group rows steps v below draw
      unfolding Calls.seen seen
      down =
          record {
            is_draw = s.is_draw;
            same = λ j. record {
              points = (s.same j).points;
              raws = (s.same j).raws;
              triples = (s.same j).triples;
              polynomials = (s.same j).polynomials;
              deals = (s.same j).deals;
              entries = followed.0 j;
            };
          }

    module _ (v v' : Secrets) (d d' : Draw) (s : Shows plan group rows os v R d) (s' : Called.Shows plan group rows steps v' below d') where
      deals_are' : deal_lines plan d' v' ≡ R.deals
      unfolding Calls.seen
      deals_are' = λ j. (s'.same j).deals

      shown' : Calls.run plan group d' v' (plain_steps os (run plan group d v os R.deals (desks d)) none_waiting) R.deals (starts d')
          ≡ plain_entries os (run plan group d v os R.deals (desks d)) none_waiting
      unfolding Calls.seen
      shown' =
          subst (λ (es : List Entry). Calls.run plan group d' v' (plain_steps os es none_waiting) R.deals (starts d') ≡ plain_entries os es none_waiting)
          (sym (entries_are v d s) ∙ ap (λ (l : List (List ℕ)). run plan group d v os l (desks d)) (deals_are v d s))
          (ap (λ (l : List (List ℕ)). Calls.run plan group d' v' steps l (starts d')) (sym deals_are') ∙ (λ j. (s'.same j).entries))

      begin_same : Same plan group d d' v v' sound (number_low plan d v) (number_low plan d' v') members (told plan sound d d' v v' (deals_are v d s ∙ sym deals_are')) (desks d) (desks d')
      unfolding new_desk new_post
      begin_same = record { rows = all_map (λ i m. refl) group members; states = λ i lo hi. refl }

      both : (run plan group d' v' os R.deals (desks d') ≡ run plan group d v os R.deals (desks d))
          × ((i : ℕ) → 1 ≤ i → i ≤ plan.n → (desks_after plan d' v' os R.deals (desks d') i).state ≡ (desks_after plan d v os R.deals (desks d) i).state)
      both =
          again plan group d d' v v' sound (number_low plan d v) (number_low plan d' v') members (told plan sound d d' v v' (deals_are v d s ∙ sym deals_are'))
          os R.deals (desks d) (desks d') (starts d) (starts d') none_waiting (λ i lo hi. start_kept v d i) (λ i lo hi. start_kept v' d' i) begin_same
          (subst (λ (l : List (List ℕ)). SameAnswers (run plan group d v os l (desks d))) (deals_are v d s) (same v d s)) shown'

      pub up : Shows plan group rows os v' R d'
      unfolding Calls.seen seen
      up =
          let all = ap (λ (l : List (List ℕ)). run plan group d' v' os l (desks d')) deals_are' ∙ both.0
          ∙ ap (λ (l : List (List ℕ)). run plan group d v os l (desks d)) (sym (deals_are v d s)) ∙ entries_are v d s in
          record {
            is_draw = s'.is_draw;
            same = λ j. record {
              points = (s'.same j).points;
              raws = (s'.same j).raws;
              triples = (s'.same j).triples;
              polynomials = (s'.same j).polynomials;
              deals = (s'.same j).deals;
              entries = all j;
            };
          }

      -- every post abreast
      abreast : (i : ℕ) → 1 ≤ i → i ≤ plan.n
          → Called.Abreast (Called.posts_of plan rows steps below v d i) (Called.posts_of plan rows steps below v' d' i)
          (Calls.book_after v steps below.entries blank) (Calls.book_after v' steps below.entries blank)
          → Abreast (desks_of plan rows os R v d i) (desks_of plan rows os R v' d' i) (book_of v os R) (book_of v' os R)
      abreast i lo hi a =
          let one = subst (λ (x : Post). Called.Abreast x (Called.posts_of plan rows steps below v' d' i) (Calls.book_after v steps below.entries blank) (Calls.book_after v' steps below.entries blank))
          (ends v d s i lo hi) a in
          let two = subst (λ (x : Post). Called.Abreast (desks_of plan rows os R v d i).post x (Calls.book_after v steps below.entries blank) (Calls.book_after v' steps below.entries blank))
          (ends v' d' up i lo hi) one in
          let three = subst (λ (b : Book). Called.Abreast (desks_of plan rows os R v d i).post (desks_of plan rows os R v' d' i).post b (Calls.book_after v' steps below.entries blank))
          (book_plain v os R.entries none_waiting blank) two in
          let four = subst (Called.Abreast (desks_of plan rows os R v d i).post (desks_of plan rows os R v' d' i).post (book_of v os R))
          (book_plain v' os R.entries none_waiting blank) three in
          record { session = four.session; long = four.long; state = sym (both.1 i lo hi); rows = four.rows }

-- ---- the theorems

pub secrecy_everywhere : SecrecyEverywhere
secrecy_everywhere plan group rows os u u' R h = (
  record {
    to = m.to;
    from = m.from;
    to_ok = λ a s. climb u u' a (m.to a) s (m.to_ok a (fall u a s));
    from_ok = λ a s. climb u' u a (m.from a) s (m.from_ok a (fall u' a s));
    from_to = λ a s. m.from_to a (fall u a s);
    to_from = λ a s. m.to_from a (fall u' a s);
  },
  λ d s.
      let b = all.1 d (fall u d s) in
      record {
        points = b.points;
        posts = λ i lo hi.
            abreast plan group rows os R h.sound h.group_few.members h.same_answers u u' d (m.to d) s (m.to_ok d (fall u d s)) i lo hi (b.posts i lo hi);
      },
)
  where
    fall : (v : Secrets) (d : Draw) → Shows plan group rows os v R d → Called.Shows plan group rows (steps plan group rows os R) v (below plan group rows os R) d
    fall = down plan group rows os R h.sound h.group_few.members h.same_answers

    climb : (v v' : Secrets) (d d' : Draw) → Shows plan group rows os v R d
        → Called.Shows plan group rows (steps plan group rows os R) v' (below plan group rows os R) d' → Shows plan group rows os v' R d'
    climb = up plan group rows os R h.sound h.group_few.members h.same_answers

    all : (x : Matching (Called.Shows plan group rows (steps plan group rows os R) u (below plan group rows os R))
        (Called.Shows plan group rows (steps plan group rows os R) u' (below plan group rows os R)))
        × ((d : Draw) → Called.Shows plan group rows (steps plan group rows os R) u (below plan group rows os R) d
        → Called.Beside plan rows (steps plan group rows os R) u u' (below plan group rows os R) d (x.to d))
    all =
        secrecy_called plan group rows (steps plan group rows os R) u u' (below plan group rows os R)
        (record {
          sound = h.sound;
          group_few = h.group_few;
          secrets = h.secrets;
          dealers = h.dealers;
          same_answers = same_plain os R.entries none_waiting h.same_answers;
          rules = rules_plain plan os R.entries R.deals none_waiting h.rules;
          agree = agree_plain plan u u' os R.entries none_waiting all_posts blank blank h.agree;
        })

    m : Matching (Called.Shows plan group rows (steps plan group rows os R) u (below plan group rows os R))
        (Called.Shows plan group rows (steps plan group rows os R) u' (below plan group rows os R))
    m = all.0

pub secrecy : Secrecy
secrecy plan group rows os u u' R h = (secrecy_everywhere plan group rows os u u' R h).0

pub equal_counts : EqualCounts
equal_counts = Counts.equal_counts secrecy

-- what is counted: the list has every draw once, and the test is right
pub shows_right : ShowsRight
shows_right plan group rows os u R d = (same_of_shows plan group rows os u R d, shows_of_same plan group rows os u R d)
