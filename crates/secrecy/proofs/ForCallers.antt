-- The sets: a record that a draw shows asks for no more than `AgreeCalled`, and of one that no draw shows there are none to match.
use Prim.Native.Nat.{ℕ}
use mathlib.Core.Path.{◌≡◌, refl, sym, ◌∙◌, ap, subst}
use mathlib.Core.Bool.{Bool, true, false}
use mathlib.Core.Logic.{◌⊎◌, inl, inr}
use mathlib.Core.List.{List, [], ◌∷◌}
use native.Mathlib.Omega.{arith}
use Rattle.runs.specs.Draws.{Plan, Draw}
use Rattle.runs.specs.Calls.{Among}
use Rattle.runs.specs.Callers.{Sets, all_posts, set_after}
use Rattle.secrecy.specs.Steps.{Secrets, Step}
use Rattle.secrecy.specs.Seen.{Entry, Seen}
use Rattle.secrecy.specs.Rules.{refusal_of}
use Rattle.secrecy.specs.Book.{Book, blank, booked}
use Rattle.secrecy.specs.Claim.{Matching}
use Rattle.secrecy.specs.Count.{draws, same_seen}
use Rattle.secrecy.proofs.CallRuns.{seen, AgreeCalled}
use Rattle.secrecy.proofs.CallClaims.{Premises, PremisesCalled, Shows, Beside, SecrecyCalled}
use Rattle.secrecy.proofs.Listed.{all_draws}
use Rattle.secrecy.proofs.Tests.{seen_right}
use Rattle.secrecy.proofs.CallTheorems as All
use Rattle.secrecy.proofs.CallTheorems.{agrees_back, secrecy_everywhere}
use Rattle.secrecy.proofs.Called.{barred_add_nothing}

-- Whether a draw shows the record, by going through all of them.
none_or_one : {A : Type 0} (test : A → Bool) (l : List A) → ((x : A) → Among x l → test x ≡ false) ⊎ ((x : A) × Among x l × (test x ≡ true))
none_or_one test [] = inl (λ x m. absurd m)
none_or_one {A} test (x ∷ xs) = go (test x) refl (none_or_one test xs)
  where
    here : test x ≡ false → ((y : A) → Among y xs → test y ≡ false) → (y : A) → (y ≡ x) ⊎ Among y xs → test y ≡ false
    here e z y (inl g) = ap test g ∙ e
    here e z y (inr m) = z y m

    go : (t : Bool) → test x ≡ t → ((y : A) → Among y xs → test y ≡ false) ⊎ ((y : A) × Among y xs × (test y ≡ true))
        → ((y : A) → Among y (x ∷ xs) → test y ≡ false) ⊎ ((y : A) × Among y (x ∷ xs) × (test y ≡ true))
    go true e h = inr (x, inl refl, e)
    go false e (inl z) = inl (here e z)
    go false e (inr (y, m, g)) = inr (y, inr m, g)

module _ (plan : Plan) (group : List ℕ) (rows : ℕ → List ℕ) (cs : List Step) (R : Seen) where
  shows : Secrets → Draw → Bool
  shows u d = same_seen (seen plan group d u rows cs) R

  none_or_shown : (u : Secrets) → ((d : Draw) → Shows plan group rows cs u R d → ⊥) ⊎ ((d : Draw) × Shows plan group rows cs u R d)
  unfolding shows
  none_or_shown u = go (none_or_one (shows u) (draws plan))
    where
      passes : (d : Draw) → Shows plan group rows cs u R d → same_seen (seen plan group d u rows cs) R ≡ true
      passes d s = subst (λ (x : Seen). same_seen (seen plan group d u rows cs) x ≡ true) s.same (seen_right.self (seen plan group d u rows cs))

      go : ((d : Draw) → Among d (draws plan) → shows u d ≡ false) ⊎ ((d : Draw) × Among d (draws plan) × (shows u d ≡ true))
          → ((d : Draw) → Shows plan group rows cs u R d → ⊥) ⊎ ((d : Draw) × Shows plan group rows cs u R d)
      go (inl z) =
          inl (λ d s.
          let e : ◌≡◌ {A = Bool} true false = sym (passes d s) ∙ z d ((all_draws plan).0 d s.is_draw) in
          let y : ◌≡◌ {A = ℕ} 0 1 = cc in omega arith)
      go (inr (d, m, e)) =
          inr (d, record { is_draw = (all_draws plan).1 d m; same = seen_right.equal (seen plan group d u rows cs) R e })

called_back : (plan : Plan) (u u' : Secrets) (cs : List Step) (es : List Entry) (X : Sets) (b b' : Book)
    → AgreeCalled plan u u' cs es X b b' → AgreeCalled plan u' u cs es X b' b
called_back plan u u' [] es X b b' a = tt
called_back plan u u' (c ∷ cs) [] X b b' a = tt
called_back plan u u' (c ∷ cs) (e ∷ es) X b b' a = (
  (λ t. agrees_back c (refusal_of e) b b' (a.0 t)),
  called_back plan u u' cs es (set_after c (refusal_of e) X) (booked u c (refusal_of e) b) (booked u' c (refusal_of e) b') a.1,
)

exchanged : (plan : Plan) (group : List ℕ) (u u' : Secrets) (cs : List Step) (R : Seen) → PremisesCalled plan group u u' cs R → PremisesCalled plan group u' u cs R
exchanged plan group u u' cs R h =
    record {
      sound = h.sound;
      group_few = h.group_few;
      secrets = λ r raw. ((h.secrets r raw).1, (h.secrets r raw).0);
      dealers = λ r dealer e m. sym (h.dealers r dealer e m);
      same_answers = h.same_answers;
      rules = h.rules;
      agree = called_back plan u u' cs R.entries all_posts blank blank h.agree;
    }

-- a record that a draw shows
module _ (plan : Plan) (group : List ℕ) (rows : ℕ → List ℕ) (cs : List Step) (u u' : Secrets) (R : Seen) (h : PremisesCalled plan group u u' cs R) where
  whole : (d : Draw) → Shows plan group rows cs u R d → Premises plan group u u' cs R
  whole d s =
      record {
        sound = h.sound;
        group_few = h.group_few;
        secrets = h.secrets;
        dealers = h.dealers;
        same_answers = h.same_answers;
        rules = h.rules;
        agree = barred_add_nothing plan group rows cs u u' R h.sound (λ r raw. (h.secrets r raw).0) h.same_answers h.rules d s h.agree;
      }

-- the matching; where no draw shows the record there is nothing to match
pub secrecy_called : SecrecyCalled
secrecy_called plan group rows cs u u' R h = go (none_or_shown plan group rows cs R u) (none_or_shown plan group rows cs R u')
  where
    go : ((d : Draw) → Shows plan group rows cs u R d → ⊥) ⊎ ((d : Draw) × Shows plan group rows cs u R d)
        → ((d : Draw) → Shows plan group rows cs u' R d → ⊥) ⊎ ((d : Draw) × Shows plan group rows cs u' R d)
        → (m : Matching (Shows plan group rows cs u R) (Shows plan group rows cs u' R))
        × ((d : Draw) → Shows plan group rows cs u R d → Beside plan rows cs u u' R d (m.to d))
    go (inr (d, s)) other = secrecy_everywhere plan group rows cs u u' R (whole plan group rows cs u u' R h d s)
    go (inl z) (inr (d, s)) =
        secrecy_everywhere plan group rows cs u u' R
        (All.exchanged plan group u' u cs R (whole plan group rows cs u' u R (exchanged plan group u u' cs R h) d s))
    go (inl z) (inl z') = (
      record {
        to = λ d. d;
        from = λ d. d;
        to_ok = λ d s. absurd (z d s);
        from_ok = λ d s. absurd (z' d s);
        from_to = λ d s. refl;
        to_from = λ d s. refl;
      },
      λ d s. absurd (z d s),
    )
