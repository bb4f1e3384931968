-- What checks found, one after the other.
use Prim.Native.Nat.{ℕ, zero, suc}
use mathlib.Core.Path.{◌≡◌, refl, sym, ◌∙◌, ap, ap₂}
use mathlib.Core.Bool.{true, false}
use mathlib.Core.List.{List, [], ◌∷◌, ◌++◌}
use native.Mathlib.Omega.{arith}
use Rattle.std.specs.Prelude.{Result, Ok, Err}
use Rattle.std.specs.Result.{result_and, is_ok, is_err}
use Rattle.refusal.specs.declared.Refusal.{Refusal}
use Rattle.refusal.specs.declared.Refusal.TheVariants.{BadPostCount, BadThreshold, BadPost, BadCheckPoint, BadLength, NoSuchRow, WrongMark, NotAnElement, TooFewAccepted, MalformedLine, LineOutOfRange, NoRoom, InconsistentShares, BadTermCount, CallerBarred, BadDealer, PlaceFilled, BadPostList, TooManyPosts}
use Rattle.refusal.specs.Numbers.{number, refused}
use Rattle.refusal.specs.Refusal.{Test, ◌when◌, first, or_else, outcome}
use Rattle.refusal.proofs.Endings as E
use Rattle.refusal.proofs.Laws.{Numbered, first_join}

-- no refusal has the number 0
pub numbered : (r : Refusal) (A : Type 0) → number r ≡ 0 → A
numbered BadPostCount A e = let z : ◌≡◌ {A = ℕ} 1 0 = e in absurd (omega arith)
numbered BadThreshold A e = let z : ◌≡◌ {A = ℕ} 2 0 = e in absurd (omega arith)
numbered BadPost A e = let z : ◌≡◌ {A = ℕ} 3 0 = e in absurd (omega arith)
numbered BadCheckPoint A e = let z : ◌≡◌ {A = ℕ} 4 0 = e in absurd (omega arith)
numbered BadLength A e = let z : ◌≡◌ {A = ℕ} 5 0 = e in absurd (omega arith)
numbered NoSuchRow A e = let z : ◌≡◌ {A = ℕ} 6 0 = e in absurd (omega arith)
numbered WrongMark A e = let z : ◌≡◌ {A = ℕ} 7 0 = e in absurd (omega arith)
numbered NotAnElement A e = let z : ◌≡◌ {A = ℕ} 8 0 = e in absurd (omega arith)
numbered TooFewAccepted A e = let z : ◌≡◌ {A = ℕ} 9 0 = e in absurd (omega arith)
numbered MalformedLine A e = let z : ◌≡◌ {A = ℕ} 10 0 = e in absurd (omega arith)
numbered LineOutOfRange A e = let z : ◌≡◌ {A = ℕ} 11 0 = e in absurd (omega arith)
numbered NoRoom A e = let z : ◌≡◌ {A = ℕ} 12 0 = e in absurd (omega arith)
numbered InconsistentShares A e = let z : ◌≡◌ {A = ℕ} 13 0 = e in absurd (omega arith)
numbered BadTermCount A e = let z : ◌≡◌ {A = ℕ} 14 0 = e in absurd (omega arith)
numbered CallerBarred A e = let z : ◌≡◌ {A = ℕ} 15 0 = e in absurd (omega arith)
numbered BadDealer A e = let z : ◌≡◌ {A = ℕ} 16 0 = e in absurd (omega arith)
numbered PlaceFilled A e = let z : ◌≡◌ {A = ℕ} 17 0 = e in absurd (omega arith)
numbered BadPostList A e = let z : ◌≡◌ {A = ℕ} 18 0 = e in absurd (omega arith)
numbered TooManyPosts A e = let z : ◌≡◌ {A = ℕ} 19 0 = e in absurd (omega arith)

numbered_first : (r : Refusal) (b : ℕ) → number r ≡ or_else (number r) b
numbered_first BadPostCount b = refl
numbered_first BadThreshold b = refl
numbered_first BadPost b = refl
numbered_first BadCheckPoint b = refl
numbered_first BadLength b = refl
numbered_first NoSuchRow b = refl
numbered_first WrongMark b = refl
numbered_first NotAnElement b = refl
numbered_first TooFewAccepted b = refl
numbered_first MalformedLine b = refl
numbered_first LineOutOfRange b = refl
numbered_first NoRoom b = refl
numbered_first InconsistentShares b = refl
numbered_first BadTermCount b = refl
numbered_first CallerBarred b = refl
numbered_first BadDealer b = refl
numbered_first PlaceFilled b = refl
numbered_first BadPostList b = refl
numbered_first TooManyPosts b = refl

pub refused_and : {A B : Type 0} (a : Result A Refusal) (b : Result B Refusal) → refused (result_and a b) ≡ or_else (refused a) (refused b)
refused_and (Ok x) b = refl
refused_and (Err r) b = numbered_first r (refused b)

pub not_zero : (r : Refusal) → number r ≡ 0 → ⊥
not_zero r e = numbered r ⊥ e

pub and_else : {A B : Type 0} (a : Result A Refusal) (b r : Result B Refusal) → r ≡ result_and a b → refused r ≡ or_else (refused a) (refused b)
and_else a b r e = ap refused e ∙ refused_and a b

-- a check that found nothing, and one that did
pub ok_zero : {A : Type 0} (x : Result A Refusal) → is_ok x ≡ true → refused x ≡ 0
ok_zero (Ok a) e = refl
ok_zero (Err r) e = let z : ◌≡◌ false true = e in cc

pub err_not_zero : {A : Type 0} (x : Result A Refusal) → is_ok x ≡ false → refused x ≡ 0 → ⊥
err_not_zero (Ok a) e z = let y : ◌≡◌ true false = e in cc
err_not_zero (Err r) e z = not_zero r z

pub no_err_zero : {A : Type 0} (x : Result A Refusal) → is_err x ≡ false → refused x ≡ 0
no_err_zero (Ok a) e = refl
no_err_zero (Err r) e = let z : ◌≡◌ true false = e in cc

pub is_err_not_zero : {A : Type 0} (x : Result A Refusal) → is_err x ≡ true → refused x ≡ 0 → ⊥
is_err_not_zero (Ok a) e z = let y : ◌≡◌ false true = e in cc
is_err_not_zero (Err r) e z = not_zero r z

-- what is kept where a check found nothing, and else
pub kept_ok : {A B : Type 0} (x : Result A Refusal) (a : A) (new old : B) → x ≡ Ok a → new ≡ outcome (refused x) new old
unfolding outcome
kept_ok x a new old e = rw e refl

pub kept_err : {A B : Type 0} (x : Result A Refusal) (r : Refusal) (new old : B) → x ≡ Err r → old ≡ outcome (refused x) new old
kept_err x r new old e = E.refused (number r) (refused x) new old (ap refused (sym e)) (not_zero r)

-- checks that are all asked, joined by `and`
pub both_asked :
    {A B : Type 0} (xs ys : List Test) → Numbered xs → (a : Result A Refusal) (b r : Result B Refusal)
    → refused a ≡ first xs → refused b ≡ first ys → r ≡ result_and a b → refused r ≡ first (xs ++ ys)
both_asked xs ys n a b r ea eb er = ap refused er ∙ refused_and a b ∙ ap₂ or_else ea eb ∙ sym (first_join xs ys n)

first_numbered : (t u : Test) → Numbered (t ∷ u ∷ []) → Numbered (t ∷ [])
first_numbered (zero when b) u n = absurd n
first_numbered (suc k when b) u n = tt

module _ {A : Type 0} (t u : Test) (a b p : Result A Refusal)
    (ea : refused a ≡ first (t ∷ [])) (eb : refused b ≡ first (u ∷ [])) (ep : p ≡ result_and a b) where
  pub two_asked : Numbered (t ∷ u ∷ []) → refused p ≡ first (t ∷ u ∷ [])
  two_asked n = both_asked (t ∷ []) (u ∷ []) (first_numbered t u n) a b p ea eb ep

  module _ (v : Test) (c q : Result A Refusal) (ec : refused c ≡ first (v ∷ [])) (eq : q ≡ result_and p c) where
    pub three_asked : Numbered (t ∷ u ∷ []) → refused q ≡ first (t ∷ u ∷ v ∷ [])
    three_asked n = both_asked (t ∷ u ∷ []) (v ∷ []) n p c q (two_asked n) ec eq
