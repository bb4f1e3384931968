-- The loops that make a sum's set, and how the sum ends.
use Prim.Native.Nat.{ℕ, zero, suc, ◌+◌, ◌*◌, ◌≤◌, ◌<◌}
use mathlib.Core.Path.{◌≡◌, refl, sym, ◌∙◌, ap, ap₂}
use mathlib.Core.List.{List, [], ◌∷◌}
use native.Mathlib.Omega.{arith}
use lib.Bits.{bit_or}
use lib.ListN.{length, get_or, set, get_or-eq_default}
use Rattle.shape.specs.Bounds.{last_row_at}
use Rattle.shape.specs.Marks.{held}
use Rattle.refusal.specs.Refusal.{outcome}
use Rattle.refusal.proofs.Endings.{refused, accepted}
use Rattle.callers.specs.Sets.{sets_length, shared, shared_all, unbarred}
use Rattle.callers.proofs.Shared.{shared_more, length_kept, length_all, one_end, both_end}
use Rattle.session.specs.declared.Session.{Session}
use Rattle.session.specs.Sessions.{holding, answer, with_marks, with_barred, summed_row}
use Rattle.session.specs.Between.{Allows}
use Rattle.linear.specs.Linear.{linear_refusal_of, linear_answer}
use Rattle.linear.proofs.Passed as Passed

-- there is no row 96: its numbers are 0
pub clear_more : (sets now : List ℕ) (d k : ℕ) → length now ≡ length sets → length sets ≡ sets_length → now ≡ shared k sets d 96 96
    → set now (8 * d + k) 0 ≡ shared (k + 1) sets d 96 96
clear_more sets now d k l l' e =
    let none : get_or now (8 * 96 + k) 0 ≡ 0 = get_or-eq_default now 0 (omega (arith, l, l')) in
    shared_more sets now d 96 96 k 0 0 e (sym none) (sym none)

pub row_96 : (f d : ℕ) → Allows f (d ≤ last_row_at) → f ≡ 0 → d < 96
row_96 f d h z = let k = h.allowed z in omega (arith, k)

pub set_refused : (f : ℕ) (sets new : List ℕ) → (f ≡ 0 → ⊥) → sets ≡ outcome f new sets
set_refused f sets new h = refused f f new sets refl h

pub set_done : (f : ℕ) (sets x new : List ℕ) → f ≡ 0 → x ≡ new → x ≡ outcome f new sets
set_done f sets x new z e = accepted f f x new sets refl z e

pub length_cleared : (sets now : List ℕ) (d : ℕ) → now ≡ unbarred sets d → length sets ≡ sets_length → length now ≡ sets_length
length_cleared sets now d e l = length_kept sets now d 96 96 e l

pub length_joined : (sets now : List ℕ) (d a : ℕ) → now ≡ shared 8 sets d d a → length sets ≡ sets_length → length now ≡ sets_length
length_joined sets now d a e l = length_kept sets now d d a e l

pub all_joined : (sets one two three : List ℕ) (d a b : ℕ) → one ≡ unbarred sets d → two ≡ shared 8 one d d a → three ≡ shared 8 two d d b
    → three ≡ shared_all sets d (a ∷ b ∷ [])
all_joined sets one two three d a b e f g = both_end sets two three d a b (one_end sets one two d a e f) g

pub length_shares : (sets x : List ℕ) (d a b : ℕ) → x ≡ shared_all sets d (a ∷ b ∷ []) → length x ≡ length sets
length_shares sets x d a b e = ap length e ∙ length_all sets d (a ∷ b ∷ [])

pub all_same : (sets one two three : List ℕ) (d a b : ℕ) → one ≡ unbarred sets d → two ≡ shared 8 one d d a → three ≡ shared 8 two d d b
    → length three ≡ length sets
all_same sets one two three d a b e f g = length_shares sets three d a b (all_joined sets one two three d a b e f g)

module _ (s : Session) (rows : List ℕ) (r a b scale fee : ℕ) (f : ℕ) (e : f ≡ linear_refusal_of s rows r a b scale fee) where
  pub allows_a : Allows f (a ≤ last_row_at)
  allows_a = record { allowed = λ n. (Passed.summed s rows r a b scale fee (sym e ∙ n)).placed.a_in }

  pub allows_b : Allows f (b ≤ last_row_at)
  allows_b = record { allowed = λ n. (Passed.summed s rows r a b scale fee (sym e ∙ n)).placed.b_in }

  pub sum_done : (x l : List ℕ) → x ≡ outcome f (shared_all s.barred r (a ∷ b ∷ [])) s.barred → l ≡ outcome f (set s.marks r held) s.marks
      → holding f 0 (with_marks (with_barred s x) l) ≡ linear_answer s rows r a b scale fee
  unfolding outcome
  sum_done x l ex el = rw (← e) (go f ex el)
    where
      go : (k : ℕ) → x ≡ outcome k (shared_all s.barred r (a ∷ b ∷ [])) s.barred → l ≡ outcome k (set s.marks r held) s.marks
          → holding k 0 (with_marks (with_barred s x) l) ≡ answer k 0 (summed_row s r (a ∷ b ∷ [])) s
      go zero q h = ap₂ (λ (y m : List ℕ). holding 0 0 (with_marks (with_barred s y) m)) q h
      go (suc k) q h = ap₂ (λ (y m : List ℕ). holding (suc k) 0 (with_marks (with_barred s y) m)) q h
