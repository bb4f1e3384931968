-- Document 02, (xiii): a post accepts whom its row's check values say, where its open comes to the walk; else nobody.
use Prim.Native.Nat.{ℕ, zero, suc, ◌+◌, ◌*◌, ◌-◌, ◌≤◌, ◌<◌}
use mathlib.Core.Path.{◌≡◌, refl, sym, ◌∙◌, ap, subst}
use mathlib.Core.Bool.{Bool, true, false, cond, false≢true}
use mathlib.Core.Logic.{◌≢◌, inl, inr}
use mathlib.Core.List.{List, [], ◌∷◌, ◌++◌}
use native.Mathlib.Decide.{ℕ_discrete}
use native.Mathlib.Nat.{mul_comm, mul-le-mul_right}
use native.Mathlib.Omega.{arith}
use borrow.Author.Tests.{eqb-true, eqb-false, eq-eqb}
use lib.Dec.{eqb}
use lib.ListN.{length, take, drop, get_or, length-drop}
use lib.Seq.{get_or-take, get_or-drop, take-take, length-take-le}
use Rattle.poly.specs.Counting.{Distinct}
use Rattle.poly.specs.Polynomial.{value}
use Rattle.parts.proofs.Turns.{block_room}
use Rattle.refusal.specs.Refusal.{Test, ◌when◌, first, or_else, outcome}
use Rattle.refusal.proofs.Laws.{Numbered, first_join}
use Rattle.shape.specs.Row.{point_at}
use Rattle.session.specs.declared.Session.{Session}
use Rattle.session.specs.Sessions.{answer, party_of, points_of}
use Rattle.session.specs.Rows.{width, row_at, coefficients}
use Rattle.blocks.specs.Blocks.{sent}
use Rattle.accepting.specs.Accepting.{accepts, passing}
use Rattle.accepting.proofs.Told.{acceptance_means}
use Rattle.opening.specs.Walking.{accepted, too_few_of, disagree}
use Rattle.opening.specs.Opening.{open_checks_of, open_refusal_of, open_answer}
use Rattle.opening.proofs.Passed.{OpenChecked, open_checked, open_clear, open_framed, open_walks, walk_tests}
use Rattle.runs.specs.Calls.{Post, Among}
use Rattle.runs.proofs.Inside.{among_all}
use Rattle.secrecy.specs.Rules.{Walks}
use Rattle.secrecy.specs.Lies.{accepted_at}
use Rattle.secrecy.specs.LiesRead.{many, row_from, said_by_of, IsAccepted, AcceptancesMean, AcceptancesRead}

-- ---- those that pass a test

among_passing : (test : ℕ → Bool) (j k i : ℕ) → Among i (passing test j k) → (j ≤ i) × (i < j + k) × (test i ≡ true)
unfolding passing
among_passing test j zero i m = absurd m
among_passing test j (suc k) i m = go (among_passing test (suc j) k i) (test j) refl m
  where
    later : (suc j ≤ i) × (i < suc j + k) × (test i ≡ true) → (j ≤ i) × (i < j + suc k) × (test i ≡ true)
    later h = let (a, b, c) = h in (omega arith, omega arith, c)

    go : (Among i (passing test (suc j) k) → (suc j ≤ i) × (i < suc j + k) × (test i ≡ true)) → (b : Bool) → test j ≡ b
        → Among i (elim b as (λ z. List ℕ) [ true ↦ j ∷ passing test (suc j) k | false ↦ passing test (suc j) k ])
        → (j ≤ i) × (i < j + suc k) × (test i ≡ true)
    go h true e (inl q) = (omega arith, omega arith, ap test q ∙ e)
    go h true e (inr m) = later (h m)
    go h false e m = later (h m)

passing_among : (test : ℕ → Bool) (j k i : ℕ) → j ≤ i → i < j + k → test i ≡ true → Among i (passing test j k)
unfolding passing
passing_among test j zero i lo hi t = absurd (omega arith)
passing_among test j (suc k) i lo hi t = go (ℕ_discrete i j) (test j) refl (λ ne. passing_among test (suc j) k i (omega arith) (omega arith) t)
  where
    go : Dec (i ≡ j) → (b : Bool) → test j ≡ b → (i ≢ j → Among i (passing test (suc j) k))
        → Among i (elim b as (λ z. List ℕ) [ true ↦ j ∷ passing test (suc j) k | false ↦ passing test (suc j) k ])
    go (yes e) true f h = inl e
    go (yes e) false f h = absurd (false≢true (sym f ∙ ap test (sym e) ∙ t))
    go (no ne) true f h = inr (h ne)
    go (no ne) false f h = h ne

passing_distinct : (test : ℕ → Bool) (j k : ℕ) → Distinct (passing test j k)
unfolding passing
passing_distinct test j zero = tt
passing_distinct test j (suc k) = go (test j) (passing_distinct test (suc j) k)
  where
    go : (b : Bool) → Distinct (passing test (suc j) k)
        → Distinct {R = ℕ} (elim b as (λ z. List ℕ) [ true ↦ j ∷ passing test (suc j) k | false ↦ passing test (suc j) k ])
    go true d = (among_all (passing test (suc j) k) (λ i m e. let (a, _, _) = among_passing test (suc j) k i m in omega arith), d)
    go false d = d

-- ---- the checks before a walk

refusal_of_lem : (k v : ℕ) (s : Session) → (answer k v s s).refusal ≡ k
unfolding outcome
refusal_of_lem zero v s = refl
refusal_of_lem (suc k) v s = refl

among_outcome : (k j : ℕ) (xs : List ℕ) → Among j (outcome k xs []) → (k ≡ 0) × Among j xs
unfolding outcome
among_outcome zero j xs m = (refl, m)
among_outcome (suc k) j xs m = absurd m

outcome_among : (k j : ℕ) (xs : List ℕ) → k ≡ 0 → Among j xs → Among j (outcome k xs [])
unfolding outcome
outcome_among zero j xs e m = m
outcome_among (suc k) j xs e m = absurd (omega arith)

distinct_outcome : (k : ℕ) (xs : List ℕ) → Distinct xs → Distinct (outcome k xs [])
unfolding outcome
distinct_outcome zero xs d = d
distinct_outcome (suc k) xs d = tt

-- tests 1 to 8
abbrev Small : List Test → Type 0
Small [] = Unit {0}
Small (k when b ∷ ts) = (k ≤ 8) × Small ts

first_small : (ts : List Test) → Small ts → first ts ≤ 8
first_small [] h = omega arith
first_small (k when true ∷ ts) h = h.0
first_small (k when false ∷ ts) h = first_small ts h.1

-- before a walk they refuse nothing
none_before : (ts us : List Test) → Numbered ts → Small ts → Walks (first (ts ++ us)) → first ts ≡ 0
none_before ts us n w e = go (first ts) refl
  where
    low : first ts ≤ 8
    low = first_small ts w

    off : (k : ℕ) → first ts ≡ suc k → Walks (first (ts ++ us)) → ⊥
    off k z (inl e) = let y : suc k ≡ 0 = sym (ap (λ (x : ℕ). or_else x (first us)) z) ∙ sym (first_join ts us n) ∙ e in omega (arith, low)
    off k z (inr (inl e)) = let y : suc k ≡ 9 = sym (ap (λ (x : ℕ). or_else x (first us)) z) ∙ sym (first_join ts us n) ∙ e in omega (arith, low)
    off k z (inr (inr e)) = let y : suc k ≡ 13 = sym (ap (λ (x : ℕ). or_else x (first us)) z) ∙ sym (first_join ts us n) ∙ e in omega (arith, low)

    go : (k : ℕ) → first ts ≡ k → first ts ≡ 0
    go zero z = z
    go (suc k) z = absurd (off k z e)

walks_of : (few away : Bool) → Walks (first (9 when few ∷ 13 when away ∷ []))
walks_of true away = inr (inl refl)
walks_of false true = inr (inr refl)
walks_of false false = inl refl

module _ (r : ℕ) (blocks : List ℕ) (q : Post) where
  open q use {session as s, rows as l}

  abbrev W : ℕ
  W = width s

  abbrev k : ℕ
  k = many r blocks q

  abbrev row : List ℕ
  row = row_at W l r

  abbrev refusal : ℕ
  refusal = (open_answer s l r blocks).refusal

  refusal_is : refusal ≡ open_refusal_of s l r blocks
  refusal_is = refusal_of_lem (open_refusal_of s l r blocks) _ s

  checked_of : Walks refusal → OpenChecked s l r blocks
  unfolding open_refusal_of
  checked_of w =
      open_checked s l r blocks (none_before (open_checks_of s l r blocks) (walk_tests s row blocks) tt (omega arith) (subst Walks refusal_is w))

  walks : OpenChecked s l r blocks → Walks refusal
  walks c = subst Walks (sym (refusal_is ∙ open_walks s l r blocks c)) (walks_of (too_few_of s row blocks) (disagree s row blocks))

  -- where a part is there, it is the own one, or that of a block with mark 1
  own_is : coefficients s row ≡ take k (drop (row_from r blocks q) l)
  own_is = take-take k W (drop (r * W) l) (omega arith)

  block : ℕ → List ℕ
  block j = take k (drop ((j - 1) * (k + 1) + 1) blocks)

  there_is : (j : ℕ) → 0 < length (sent (party_of s) row blocks j)
      → (sent (party_of s) row blocks j ≡ said_by_of r blocks q j) × (j ≢ s.post → get_or blocks ((j - 1) * (k + 1)) 0 ≡ 1)
  unfolding sent
  there_is j h = go (eqb j s.post) refl (eqb (get_or blocks ((j - 1) * (k + 1)) 0) 1) refl h
    where
      mark_is : ℕ
      mark_is = get_or blocks ((j - 1) * (k + 1)) 0

      go : (b : Bool) → eqb j s.post ≡ b → (c : Bool) → eqb (get_or blocks ((j - 1) * (k + 1)) 0) 1 ≡ c
          → 0 < length (cond b (coefficients s row) (cond c (take k (drop ((j - 1) * (k + 1) + 1) blocks)) []))
          → (cond b (coefficients s row) (cond c (take k (drop ((j - 1) * (k + 1) + 1) blocks)) [])
          ≡ cond b (take k (drop (row_from r blocks q) l)) (take k (drop ((j - 1) * (k + 1) + 1) blocks)))
          × (j ≢ s.post → get_or blocks ((j - 1) * (k + 1)) 0 ≡ 1)
      go true e c f h = (own_is, (λ ne. absurd (ne (eqb-true j s.post e))))
      go false e true f h = (refl, (λ ne. eqb-true _ 1 f))
      go false e false f h = absurd (omega arith)

  -- a check value's place in the list
  check_is : (j h : ℕ) → 1 ≤ j → j ≤ s.n → h < s.points
      → get_or row (k + ((j - 1) * s.points + h)) 0 ≡ get_or l (row_from r blocks q + (k + ((j - 1) * s.points + h))) 0
  check_is j h lo hi m =
      get_or-take W (drop (r * W) l) (k + ((j - 1) * s.points + h)) 0
      (omega (arith, block_room (j - 1) s.n s.points (s.points * s.n) (omega arith) (mul_comm s.points s.n)))
      ∙ get_or-drop (r * W) l (k + ((j - 1) * s.points + h)) 0

  only : (j : ℕ) → Among j (accepted_at r blocks q) → Walks refusal × IsAccepted r blocks q j
  unfolding accepted_at
  only j m =
      let (z, listed) = among_outcome (first (open_checks_of s l r blocks)) j (accepted s row blocks) m in
      let c = open_checked s l r blocks z in
      let (lo, hi, t) = among_passing (accepts (party_of s) row blocks) 1 s.n j listed in
      let a = acceptance_means (party_of s) row blocks j in
      let (e, there) = there_is j (a.there t) in
      let few = (open_framed s l r blocks c).sized.valid.points_in_is in (
        walks c,
        record {
          is_post = (lo, omega arith);
          there = there;
          at_first =
              ap (λ (x : List ℕ). value x s.first) (sym e) ∙ a.equals t 0 (omega (arith, few)) ∙ check_is j 0 lo (omega arith) (omega (arith, few))
              ∙ ap (λ (x : ℕ). get_or l x 0) (omega arith);
          at_second = λ two.
              ap (λ (x : List ℕ). value x s.second) (sym e) ∙ a.equals t 1 (omega arith) ∙ check_is j 1 lo (omega arith) (omega arith)
              ∙ ap (λ (x : ℕ). get_or l x 0) (omega arith);
        },
      )

  -- ---- and back

  said_long : (j : ℕ) → OpenChecked s l r blocks → IsAccepted r blocks q j → sent (party_of s) row blocks j ≡ said_by_of r blocks q j
  unfolding sent
  said_long j c a = go (eqb j s.post) refl
    where
      go : (b : Bool) → eqb j s.post ≡ b
          → cond b (coefficients s row) (cond (eqb (get_or blocks ((j - 1) * (k + 1)) 0) 1) (take k (drop ((j - 1) * (k + 1) + 1) blocks)) [])
          ≡ cond b (take k (drop (row_from r blocks q) l)) (take k (drop ((j - 1) * (k + 1) + 1) blocks))
      go true e = own_is
      go false e = rw (eq-eqb (get_or blocks ((j - 1) * (k + 1)) 0) 1 (a.there (eqb-false j s.post e)))

  said_some : (j : ℕ) → OpenChecked s l r blocks → IsAccepted r blocks q j → 0 < length (said_by_of r blocks q j)
  said_some j c a = go (eqb j s.post)
    where
      row_long : length (take k (drop (row_from r blocks q) l)) ≡ k
      row_long =
          length-take-le k (drop (row_from r blocks q) l)
          (omega (arith, length-drop (row_from r blocks q) l, (open_framed s l r blocks c).sized.length_is, mul-le-mul_right W c.placed.row_in))

      block_long : length (take k (drop ((j - 1) * (k + 1) + 1) blocks)) ≡ k
      block_long =
          length-take-le k (drop ((j - 1) * (k + 1) + 1) blocks)
          (omega (arith, length-drop ((j - 1) * (k + 1) + 1) blocks, c.placed.record_long, block_room (j - 1) s.n (k + 1) (s.n * (k + 1)) (omega (arith, a.is_post)) refl))

      go : (b : Bool) → 0 < length (cond b (take k (drop (row_from r blocks q) l)) (take k (drop ((j - 1) * (k + 1) + 1) blocks)))
      go true = omega (arith, row_long)
      go false = omega (arith, block_long)

  all : (j : ℕ) → Walks refusal → IsAccepted r blocks q j → Among j (accepted_at r blocks q)
  unfolding accepted_at
  all j w a =
      let c = checked_of w in
      let few = (open_framed s l r blocks c).sized.valid.points_in_is in
      let e = said_long j c a in
      outcome_among (first (open_checks_of s l r blocks)) j (accepted s row blocks) (open_clear s l r blocks c)
      (passing_among (accepts (party_of s) row blocks) 1 s.n j a.is_post.0 (omega (arith, a.is_post))
      ((acceptance_means (party_of s) row blocks j).passes (subst (λ (x : List ℕ). 0 < length x) (sym e) (said_some j c a)) (λ h m. each h m e few)))
    where
      each : (h : ℕ) → h < s.points → sent (party_of s) row blocks j ≡ said_by_of r blocks q j → (1 ≤ s.points) × (s.points ≤ 2)
          → value (sent (party_of s) row blocks j) (point_at (points_of s) h) ≡ get_or row (k + ((j - 1) * s.points + h)) 0
      each zero m e few =
          ap (λ (x : List ℕ). value x s.first) e ∙ a.at_first ∙ ap (λ (x : ℕ). get_or l x 0) (omega arith)
          ∙ sym (check_is j 0 a.is_post.0 a.is_post.1 m)
      each (suc zero) m e few =
          ap (λ (x : List ℕ). value x s.second) e ∙ a.at_second (omega (arith, few)) ∙ ap (λ (x : ℕ). get_or l x 0) (omega arith)
          ∙ sym (check_is j 1 a.is_post.0 a.is_post.1 m)
      each (suc (suc h)) m e few = absurd (omega (arith, few))

  nobody : (OpenChecked s l r blocks → ⊥) → accepted_at r blocks q ≡ []
  unfolding accepted_at outcome
  nobody h = go (first (open_checks_of s l r blocks)) refl
    where
      go : (k : ℕ) → first (open_checks_of s l r blocks) ≡ k → outcome k (accepted s row blocks) [] ≡ []
      go zero e = absurd (h (open_checked s l r blocks e))
      go (suc k) e = refl

  once : Distinct (accepted_at r blocks q)
  unfolding accepted_at
  once = distinct_outcome (first (open_checks_of s l r blocks)) (accepted s row blocks) (passing_distinct (accepts (party_of s) row blocks) 1 s.n)

  pub acceptances_mean : AcceptancesMean r blocks q
  acceptances_mean =
      record { only = only; all = all; refused = λ h. nobody (λ c. h (walks c)); unheld = λ h. nobody (λ c. h c.placed.is_held); once = once }

pub acceptances_read : AcceptancesRead
acceptances_read r blocks q = acceptances_mean r blocks q
