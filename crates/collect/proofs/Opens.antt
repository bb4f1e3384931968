-- The two numbers that a finish's first call opens, or its refusal, and how the call ends with them.
use Prim.Native.Nat.{ℕ, zero, suc, ◌+◌, ◌≤◌}
use mathlib.Core.Path.{◌≡◌, refl, sym, ◌∙◌, ap, ap₂}
use mathlib.Core.Bool.{Bool, true, false}
use mathlib.Core.List.{List, [], ◌∷◌}
use native.Mathlib.Omega.{arith}
use Rattle.shape.specs.Bounds.{last_triple}
use Rattle.refusal.specs.Refusal.{Test, ◌when◌, first, outcome}
use Rattle.std.specs.Prelude.{Result, Ok, Err}
use Rattle.std.specs.Result.{result_and, result_unwrap_or}
use Rattle.refusal.specs.declared.Refusal.{Refusal}
use Rattle.refusal.specs.Numbers.{number, refused}
use Rattle.refusal.proofs.Checks.{not_zero}
use Rattle.refusal.proofs.Endings.{refused as refused_end, accepted}
use Rattle.refusal.proofs.Groups.{stopped, went_on}
use Rattle.session.specs.declared.Party.{Party}
use Rattle.session.specs.declared.Session.{Session}
use Rattle.session.specs.declared.Answer.{Answer}
use Rattle.session.specs.Sessions.{shape_of, party_of, answer, collected_triple}
use Rattle.session.specs.Between.{Allows}
use Rattle.walk.specs.Number.{value_or_zero, or_nine}
use Rattle.opening.specs.Walking.{too_few_of, disagree, opened}
use Rattle.product_masks.specs.Masks.{mask_row}
use Rattle.mask_opening.specs.declared.OpenedPair.{OpenedPair}
use Rattle.mask_opening.specs.Either.{either_of}
use Rattle.mask_opening.specs.Pair.{opened_pair}
use Rattle.collect.specs.declared.Numbers.{Numbers}
use Rattle.collect.specs.Collect.{mask_a, mask_b, unopened, OpenedMasks, shown, found, opened_both, collect_checks_of, opened_masks, collect_refusal, collect_answer}
use Rattle.collect.proofs.Passed.{collected}

abbrev shows : ℕ → ℕ → ℕ → OpenedMasks
shows refusal y_a_of y_b_of = record { refusal = refusal; y_a = y_a_of; y_b = y_b_of }

-- 9 of either, then 13 of either
refusals : (f f' d d' : Bool) (v v' : ℕ)
    → either_of (refused (or_nine f d v)) (refused (or_nine f' d' v')) ≡ first (9 when f ∷ 9 when f' ∷ 13 when d ∷ 13 when d' ∷ [])
refusals true true d d' v v' = refl
refusals true false d true v v' = refl
refusals true false d false v v' = refl
refusals false true true d' v v' = refl
refusals false true false d' v v' = refl
refusals false false true true v v' = refl
refusals false false true false v v' = refl
refusals false false false true v v' = refl
refusals false false false false v v' = refl

values : (f f' d d' : Bool) (v v' : ℕ) → first (9 when f ∷ 9 when f' ∷ 13 when d ∷ 13 when d' ∷ []) ≡ 0
    → (value_or_zero (or_nine f d v) ≡ v) × (value_or_zero (or_nine f' d' v') ≡ v')
values true f' d d' v v' e = absurd (omega arith)
values false true d d' v v' e = absurd (omega arith)
values false false true d' v v' e = absurd (omega arith)
values false false false true v v' e = absurd (omega arith)
values false false false false v v' e = (refl, refl)

-- both, from what the two openings gave
module _ (s : Session) (m : Party) (em : m ≡ party_of s) (rows l l' : List ℕ) (k k' r : ℕ) (o : OpenedPair)
    (eo : o ≡ opened_pair m rows k k' r l l') where
  abbrev x : List ℕ
  x = mask_row (shape_of s) rows k r

  abbrev x' : List ℕ
  x' = mask_row (shape_of s) rows k' (r + 1)

  abbrev ends : List Test
  ends = unopened s x x' l l'

  own : o ≡ opened_pair (party_of s) rows k k' r l l'
  own = rw em at eo

  first_is : o.a ≡ or_nine (too_few_of s x l) (disagree s x l) (opened s x l)
  first_is = ap (λ (z : OpenedPair). z.a) own

  second_is : o.b ≡ or_nine (too_few_of s x' l') (disagree s x' l') (opened s x' l')
  second_is = ap (λ (z : OpenedPair). z.b) own

  few : either_of (refused o.a) (refused o.b) ≡ first ends
  few =
      ap₂ (λ (a b : Result ℕ Refusal). either_of (refused a) (refused b)) first_is second_is
      ∙ refusals (too_few_of s x l) (too_few_of s x' l') (disagree s x l) (disagree s x' l') (opened s x l) (opened s x' l')

  pub both_refused : (e : Refusal) → number e ≡ either_of (refused o.a) (refused o.b) → shown (Err e) ≡ opened_both s x x' l l'
  both_refused e q =
      let h : number e ≡ first ends = q ∙ few in
      ap (λ (n : ℕ). shows n 0 0) h
      ∙ refused_end (number e) (first ends) (shows 0 (opened s x l) (opened s x' l')) (shows (first ends) 0 0) h (not_zero e)

  pub both_opened : 0 ≡ either_of (refused o.a) (refused o.b) → (y y' : ℕ) → y ≡ value_or_zero o.a → y' ≡ value_or_zero o.b
      → shown (Ok (record { y_a = y; y_b = y' })) ≡ opened_both s x x' l l'
  both_opened q y y' ey ey' =
      let z : first ends ≡ 0 = sym few ∙ sym q in
      let h = values (too_few_of s x l) (too_few_of s x' l') (disagree s x l) (disagree s x' l') (opened s x l) (opened s x' l') z in
      accepted 0 (first ends) (shows 0 y y') (shows 0 (opened s x l) (opened s x' l')) (shows (first ends) 0 0) (sym z) refl
      (ap₂ (shows 0) (ey ∙ ap value_or_zero first_is ∙ h.0) (ey' ∙ ap value_or_zero second_is ∙ h.1))

found_refusal : (k y_a_of y_b_of : ℕ) → (found k y_a_of y_b_of).refusal ≡ k
unfolding outcome
found_refusal zero y_a_of y_b_of = refl
found_refusal (suc k) y_a_of y_b_of = refl

found_answer : (s : Session) (r k y_a_of y_b_of : ℕ)
    → answer (found k y_a_of y_b_of).refusal 0 (collected_triple s r (found k y_a_of y_b_of).y_a (found k y_a_of y_b_of).y_b) s ≡ answer k 0 (collected_triple s r y_a_of y_b_of) s
unfolding outcome
found_answer s r zero y_a_of y_b_of = refl
found_answer s r (suc k) y_a_of y_b_of = refl

-- an answer shows the same of what was opened
module _ (o : Result Numbers Refusal) where
  pub shown_refusal : {B : Type 0} (b : B) (q : Result B Refusal) → q ≡ result_and o (Ok b) → refused q ≡ (shown o).refusal
  shown_refusal b q e = ap refused e ∙ go o
    where
      go : (o : Result Numbers Refusal) → refused (result_and o (Ok b)) ≡ (shown o).refusal
      go (Ok y) = refl
      go (Err r) = refl

  module _ (n : Numbers) (e : n ≡ result_unwrap_or o (record { y_a = 0; y_b = 0 })) where
    pub shown_a : n.y_a ≡ (shown o).y_a
    shown_a = ap (λ (y : Numbers). y.y_a) e ∙ go o
      where
        go : (o : Result Numbers Refusal) → (result_unwrap_or o (record { y_a = 0; y_b = 0 })).y_a ≡ (shown o).y_a
        go (Ok y) = refl
        go (Err r) = refl

    pub shown_b : n.y_b ≡ (shown o).y_b
    shown_b = ap (λ (y : Numbers). y.y_b) e ∙ go o
      where
        go : (o : Result Numbers Refusal) → (result_unwrap_or o (record { y_a = 0; y_b = 0 })).y_b ≡ (shown o).y_b
        go (Ok y) = refl
        go (Err r) = refl

module _ (s : Session) (rows : List ℕ) (r : ℕ) (l l' : List ℕ) where
  abbrev y_a_of : ℕ
  y_a_of = opened s (mask_a s rows r) l

  abbrev y_b_of : ℕ
  y_b_of = opened s (mask_b s rows r) l'

  abbrev late : List Test
  late = unopened s (mask_a s rows r) (mask_b s rows r) l l'

  -- 1 to 8 stop the call, or the openings settle it
  pub masks_unopened : (e : Refusal) → number e ≡ first (collect_checks_of s rows r l l') → shown (Err e) ≡ opened_masks s rows r l l'
  unfolding collect_refusal
  masks_unopened e q =
      let h : number e ≡ collect_refusal s rows r l l' = stopped (collect_checks_of s rows r l l') late tt (number e) q (not_zero e) in
      ap (λ (k : ℕ). shows k 0 0) h
      ∙ refused_end (number e) (collect_refusal s rows r l l') (shows 0 y_a_of y_b_of) (shows (collect_refusal s rows r l l') 0 0) h (not_zero e)

  pub masks_opened_is : 0 ≡ first (collect_checks_of s rows r l l') → (o : Result Numbers Refusal)
      → shown o ≡ opened_both s (mask_a s rows r) (mask_b s rows r) l l' → shown o ≡ opened_masks s rows r l l'
  unfolding collect_refusal
  masks_opened_is e o h =
      h ∙ ap (λ (k : ℕ). found k y_a_of y_b_of) (went_on (collect_checks_of s rows r l l') late tt 0 e (first late) refl refl)

  abbrev found_all : OpenedMasks
  found_all = opened_masks s rows r l l'

  -- the call's end
  module _ {B : Type 0} (q : Result B Refusal) (eq : refused q ≡ found_all.refusal) where
    refusal_is : refused q ≡ collect_refusal s rows r l l'
    refusal_is = eq ∙ found_refusal (collect_refusal s rows r l l') y_a_of y_b_of

    pub collect_allows : Allows (refused q) (r ≤ last_triple)
    collect_allows = record { allowed = λ n. (collected s rows r l l' (sym refusal_is ∙ n)).checked.placed.factors.triple_in }

    -- what stands for y and y' in a refused call is not looked at
    pub collect_ended : (y y' : ℕ) → y ≡ found_all.y_a → y' ≡ found_all.y_b → (a : Answer)
        → a ≡ answer (refused q) 0 (collected_triple s r y y') s → a ≡ collect_answer s rows r l l'
    collect_ended y y' ey ey' a h =
        h
        ∙ ap (λ (k : ℕ). answer k 0 (collected_triple s r y y') s) eq
        ∙ ap₂ (λ (x x' : ℕ). answer found_all.refusal 0 (collected_triple s r x x') s) ey ey'
        ∙ found_answer s r (collect_refusal s rows r l l') y_a_of y_b_of
