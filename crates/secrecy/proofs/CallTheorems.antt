-- Of calls alone: the draws that show a record under one list of secrets are matched one to one with those that show it under the other.
use Prim.Native.Nat.{ℕ}
use mathlib.Core.Path.{sym}
use mathlib.Core.List.{List, [], ◌∷◌}
use Rattle.poly.proofs.Lists.{all_map}
use Rattle.runs.specs.Draws.{Plan}
use Rattle.runs.specs.Outline.{Sending, its_opening, its_masks, sends}
use Rattle.runs.proofs.Outlines.{every_all, all_every}
use Rattle.secrecy.specs.Steps.{Secrets, Step}
use Rattle.secrecy.specs.Seen.{Entry, Seen}
use Rattle.secrecy.specs.Rules.{refusal_of}
use Rattle.secrecy.specs.Book.{Book, blank, booked, AgreesBy, Agrees}
use Rattle.secrecy.proofs.CallRuns.{Agree}
use Rattle.secrecy.proofs.CallClaims.{Premises, SecrecyEverywhere}
use Rattle.secrecy.proofs.Moved.{moved}
use Rattle.secrecy.proofs.Back.{back}
use Rattle.secrecy.proofs.Reckoned as Reckoned
use Rattle.secrecy.proofs.Reckoned.{reckoned, reckoned_back}
use Rattle.secrecy.proofs.Matched.{Δ, transfer, beside}

-- ---- the premises with the two lists of secrets exchanged

agrees_one : (k : ℕ) (b b' : Book) (s : Sending) → AgreesBy k b b' s → AgreesBy k b' b s
agrees_one k b b' (its_opening r) e = λ z. sym (e z)
agrees_one k b b' (its_masks x y r) e = tt

pub agrees_back : (c : Step) (k : ℕ) (b b' : Book) → Agrees c k b b' → Agrees c k b' b
agrees_back c k b b' e =
    all_every (AgreesBy k b' b) (sends c) (all_map (agrees_one k b b') (sends c) (every_all (AgreesBy k b b') (sends c) e))

agree_back : (u u' : Secrets) (cs : List Step) (es : List Entry) (b b' : Book) → Agree u u' cs es b b' → Agree u' u cs es b' b
agree_back u u' [] es b b' a = tt
agree_back u u' (c ∷ cs) [] b b' a = tt
agree_back u u' (c ∷ cs) (e ∷ es) b b' a =
    (agrees_back c (refusal_of e) b b' a.0, agree_back u u' cs es (booked u c (refusal_of e) b) (booked u' c (refusal_of e) b') a.1)

pub exchanged : (plan : Plan) (group : List ℕ) (u u' : Secrets) (cs : List Step) (R : Seen) → Premises plan group u u' cs R → Premises plan group u' u cs R
exchanged plan group u u' cs R h =
    record {
      sound = h.sound;
      group_few = h.group_few;
      secrets = λ r raw. ((h.secrets r raw).1, (h.secrets r raw).0);
      dealers = λ r dealer e m. sym (h.dealers r dealer e m);
      same_answers = h.same_answers;
      rules = h.rules;
      agree = agree_back u u' cs R.entries blank blank h.agree;
    }

-- ---- the matching, and what is the same at every post
pub secrecy_everywhere : SecrecyEverywhere
unfolding Δ
secrecy_everywhere plan group rows cs u u' R h = (
  record {
    to = moved plan group u u' (Δ plan group rows cs u u' R h);
    from = moved plan group u' u (Δ plan group rows cs u' u R h');
    to_ok = transfer plan group rows cs u u' R h;
    from_ok = transfer plan group rows cs u' u R h';
    from_to = λ d s. back plan group u u' _ _ d h.sound h.group_few s.is_draw (λ r. (opposite r).0) (λ r. (opposite r).1);
    to_from = λ d s. back plan group u' u _ _ d h.sound h.group_few s.is_draw (λ r. (opposite' r).0) (λ r. (opposite' r).1);
  },
  beside plan group rows cs u u' R h,
)
  where
    h' : Premises plan group u' u cs R
    h' = exchanged plan group u u' cs R h

    opposite : (r : ℕ) → Reckoned.Opposite (reckoned u u' cs R.entries blank blank r) (reckoned u' u cs R.entries blank blank r)
    opposite r = reckoned_back u u' cs R.entries blank blank r

    opposite' : (r : ℕ) → Reckoned.Opposite (reckoned u' u cs R.entries blank blank r) (reckoned u u' cs R.entries blank blank r)
    opposite' r = reckoned_back u' u cs R.entries blank blank r
