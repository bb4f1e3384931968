-- An example whose record is what its draw shows, and whose premises a search finds, is at work.
use Prim.Native.Nat.{ℕ, zero, suc, ◌≤◌, ◌<◌}
use mathlib.Core.Path.{◌≡◌, refl, sym, subst}
use mathlib.Core.Bool.{Bool, true, false, cond, not, ◌||◌, false≢true}
use mathlib.Core.Logic.{inl, inr}
use mathlib.Core.List.{List, [], ◌∷◌}
use mathlib.Core.Option.{Option, some, IsSome}
use native.Mathlib.Omega.{arith}
use borrow.Author.Tests.{eqb-true, eqb-false, not-true}
use lib.Dec.{eqb}
use lib.ListN.{length, get_or}
use Rattle.field.specs.Modulus.{p}
use Rattle.poly.specs.Counting.{All, Elements}
use Rattle.shape.specs.Bounds.{row_count_of, last_row_at, last_triple}
use Rattle.shape.specs.Lengths.{checks_length}
use Rattle.refusal.specs.Refusal.{first}
use Rattle.refusal.specs.Conditions.{posts_tests, bad_point_count}
use Rattle.vectors.proofs.Draws.{element_at}
use Rattle.runs.specs.Draws as Draws
use Rattle.runs.specs.Draws.{Raw, Plan, Draw, IsRaw, Sound, Lists, IsDraw, raw_length, triple_length}
use Rattle.runs.specs.Calls.{Among}
use Rattle.runs.specs.Callers.{all_posts}
use Rattle.secrecy.specs.Steps.{Secrets}
use Rattle.secrecy.specs.Seen.{member}
use Rattle.secrecy.specs.Waiting.{none_waiting}
use Rattle.secrecy.specs.Book.{blank}
use Rattle.secrecy.specs.Claim.{Group, Premises}
use Rattle.secrecy.specs.Count.{count, draws, shows}
use Rattle.secrecy.proofs.Tests.{shows_of_same}
use Rattle.secrecy.proofs.Listed.{all_draws}
use Rattle.secrecy.proofs.Theorems.{equal_counts}
use Rattle.secrecy_examples.specs.Example.{Example, AtWork, plan_of, secrets_of}
use Rattle.secrecy_examples.proofs.Computing.{sees}
use Rattle.secrecy_examples.proofs.Found.{found, ◌also◌, both, either, tested, equal, at_most, below, each, each_below}
use Rattle.secrecy_examples.proofs.Kept.{elements, same_answers, rules, agree}

-- ---- the draw

abbrev pub Fits : (ℕ → ℕ) → List (List ℕ) → ℕ → Type 0
Fits many ls r = (length (get_or ls r []) ≡ many r) × Elements (get_or ls r [])

unfoldable pub lists : (many : ℕ → ℕ) (ls : List (List ℕ)) → Option (Lists many ls)
unfolding ◌also◌ both equal elements each_below
lists many ls =
    some (λ e h. record { count = e; each = h })
    also equal (length ls) row_count_of
    also each_below (Fits many ls) row_count_of (λ r. both (equal (length (get_or ls r [])) (many r)) (elements (get_or ls r [])))

unfoldable pub is_draw : (plan : Plan) (draw : Draw) → Option (IsDraw plan draw)
unfolding ◌also◌ both equal at_most below each lists
is_draw plan draw =
    some (λ e h raws triples. record { posts = e; points = h; raws = raws; triples = triples })
    also equal (length draw.points) (checks_length (Draws.plan_shape plan))
    also each (λ w. both (at_most 1 w) (below w p)) draw.points
    also lists (raw_length plan) draw.raws
    also lists (triple_length plan) draw.triples

-- ---- the plan, the group and the secrets

raw_listed : (raws : List Raw) (r : ℕ) → IsRaw (get_or raws r Draws.none) → r < length raws
raw_listed [] r h = absurd h
raw_listed (x ∷ raws) zero h = omega arith
raw_listed (x ∷ raws) (suc r) h = let l = raw_listed raws r h in omega arith

module _ (P : ℕ → Type 0) where
  pub of_member : (xs : List ℕ) → All P xs → (r : ℕ) → member r xs ≡ true → P r
  of_member [] a r m = absurd (false≢true m)
  of_member (x ∷ xs) a r m = go (eqb r x) refl m (of_member xs a.1 r)
    where
      go : (b : Bool) → eqb r x ≡ b → (b || member r xs) ≡ true → (member r xs ≡ true → P r) → P r
      go true e m h = subst P (sym (eqb-true r x e)) a.0
      go false e m h = h m

pub outside_group : (group : List ℕ) (d x y : ℕ) → not (member d group) ≡ true
    → (dealer : ℕ) → Draws.by d ≡ Draws.by dealer → member dealer group ≡ true → x ≡ y
outside_group group d x y e dealer q m =
    let e' = not-true (member d group) e in
    let z : false ≡ true = cc in
    absurd (false≢true z)

-- x and y are the two secrets of a row
unfoldable pub dealer_same : (group : List ℕ) (raw : Raw) (x y : ℕ)
    → Option ((dealer : ℕ) → raw ≡ Draws.by dealer → member dealer group ≡ true → x ≡ y)
unfolding either ◌also◌ tested equal
dealer_same group Draws.none x y = some (λ dealer e m. absurd (subst IsRaw (sym e) tt))
dealer_same group (Draws.by d) x y = either (some (λ q dealer e m. q) also equal x y) (tested (not (member d group)) (outside_group group d x y))

-- who deals each row, by the list of an example
module _ (raws : List Raw) (group us us' : List ℕ) where
  abbrev pub Dealer : ℕ → Type 0
  Dealer r = (dealer : ℕ) → get_or raws r Draws.none ≡ Draws.by dealer → member dealer group ≡ true → get_or us r 0 ≡ get_or us' r 0

  pub of_listed : ((r : ℕ) → r < length raws → Dealer r) → (r : ℕ) → Dealer r
  of_listed h r dealer e m = h r (raw_listed raws r (subst IsRaw (sym e) tt)) dealer e m

  unfoldable pub dealers : Option ((r : ℕ) → Dealer r)
  unfolding ◌also◌ each_below dealer_same
  dealers = some of_listed also each_below Dealer (length raws) (λ r. dealer_same group (get_or raws r Draws.none) (get_or us r 0) (get_or us' r 0))

module _ (x : Example) where
  pub raws_in : length x.raws ≤ row_count_of → (r : ℕ) → IsRaw ((plan_of x).raw r) → r ≤ last_row_at
  raws_in l r h = let m = raw_listed x.raws r h in omega arith

  unfoldable pub sound : Option (Sound (plan_of x))
  unfolding ◌also◌ equal tested at_most each
  sound =
      some (λ e c l a. record { posts = e; counted = c; raws = raws_in l; triples = of_member (λ r. r ≤ last_triple) x.triples a })
      also equal (first (posts_tests x.n x.t)) 0
      also tested (not (bad_point_count x.points)) (λ e. not-true (bad_point_count x.points) e)
      also at_most (length x.raws) row_count_of
      also each (λ r. at_most r last_triple) x.triples

  unfoldable pub group_few : Option (Group (plan_of x) x.group)
  unfolding ◌also◌ both at_most each
  group_few =
      some (λ l a. record { few = l; members = a })
      also at_most (length x.group) x.t
      also each (λ i. both (at_most 1 i) (at_most i x.n)) x.group

  -- `sent` are the masks that posts broadcast
  unfoldable pub premises : (sent : List (List ℕ))
      → Option (Premises (plan_of x) x.group (secrets_of x.secrets) (secrets_of x.secrets') x.orders x.shown)
  unfolding ◌also◌ sound group_few elements dealers same_answers rules agree all_posts blank
  premises sent =
      some (λ s g e e' d a k q. record {
        sound = s;
        group_few = g;
        secrets = λ r raw. (element_at x.secrets e r, element_at x.secrets' e' r);
        dealers = d;
        same_answers = a;
        rules = k;
        agree = q;
      })
      also sound
      also group_few
      also elements x.secrets
      also elements x.secrets'
      also dealers x.raws x.group x.secrets x.secrets'
      also same_answers x.shown.entries
      also rules (plan_of x) sent x.orders x.shown.entries x.shown.deals none_waiting
      also agree (plan_of x) (secrets_of x.secrets) (secrets_of x.secrets') x.orders x.shown.entries none_waiting all_posts blank blank

-- ---- the claim

-- where one of a list passes a test, not none pass
pub some_pass : {A : Type 0} (test : A → Bool) (xs : List A) (a : A) → Among a xs → test a ≡ true → 0 < count test xs
unfolding count
some_pass test [] a k q = elim k [ ]
some_pass test (x ∷ xs) a (inl e) q = rw (← e, q) (omega arith)
some_pass test (x ∷ xs) a (inr m) q = go (test x) (some_pass test xs a m q)
  where
    go : (b : Bool) → 0 < count test xs → 0 < cond b (suc (count test xs)) (count test xs)
    go true h = omega arith
    go false h = h

module _ (x : Example) where
  abbrev u : Secrets
  u = secrets_of x.secrets

  -- row r is one in which the two lists differ
  pub at_work : (sent : List (List ℕ)) (r : ℕ) → sees x ≡ x.shown → IsSome (is_draw (plan_of x) x.draw) → IsSome (premises x sent)
      → IsRaw ((plan_of x).raw r) → eqb (secrets_of x.secrets r) (secrets_of x.secrets' r) ≡ false → AtWork x
  unfolding sees
  at_work sent r seen-is d h raw ne =
      let drawn = found (is_draw (plan_of x) x.draw) d in
      let met = found (premises x sent) h in
      record {
        premises = met;
        differ = (r, raw, eqb-false (u r) (secrets_of x.secrets' r) ne);
        shows = record { is_draw = drawn; same = seen-is };
        some =
            some_pass (shows (plan_of x) x.group x.rows x.orders u x.shown) (draws (plan_of x)) x.draw
            ((all_draws (plan_of x)).0 x.draw drawn)
            (shows_of_same (plan_of x) x.group x.rows x.orders u x.shown x.draw seen-is);
        as_many = equal_counts (plan_of x) x.group x.rows x.orders u (secrets_of x.secrets') x.shown met;
      }
