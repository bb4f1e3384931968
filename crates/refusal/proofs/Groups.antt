-- Code asks one check after the other and joins the answers by `or_else`: how that meets one flat list of tests.
use Prim.Native.Nat.{ℕ, zero, suc}
use mathlib.Core.Path.{◌≡◌, refl, sym, ◌∙◌, ap}
use mathlib.Core.Bool.{true, false}
use mathlib.Core.List.{List, [], ◌∷◌, ◌++◌}
use Rattle.refusal.specs.Refusal.{Test, ◌when◌, first, or_else, AllFail}
use Rattle.refusal.proofs.Laws.{Numbered, first_join}
use Rattle.refusal.proofs.Endings.{or_else_first}

-- the answers of single tests, joined from the right
abbrev pub chain : List Test → ℕ
chain [] = 0
chain (t ∷ []) = first (t ∷ [])
chain (t ∷ u ∷ ts) = or_else (first (t ∷ [])) (chain (u ∷ ts))

pub first_chain : (ts : List Test) → Numbered ts → first ts ≡ chain ts
first_chain [] n = refl
first_chain (t ∷ []) n = refl
first_chain (zero when b ∷ u ∷ ts) n = absurd n
first_chain (suc k when true ∷ u ∷ ts) n = refl
first_chain (suc k when false ∷ u ∷ ts) n = first_chain (u ∷ ts) n

pub chained : (ts : List Test) → Numbered ts → (q : ℕ) → q ≡ chain ts → q ≡ first ts
chained ts n q e = e ∙ sym (first_chain ts n)

pub three : (t u v : Test) → Numbered (t ∷ u ∷ v ∷ []) → (x y z p q : ℕ) → x ≡ first (t ∷ []) → y ≡ first (u ∷ [])
    → z ≡ first (v ∷ []) → p ≡ or_else y z → q ≡ or_else x p → q ≡ first (t ∷ u ∷ v ∷ [])
three t u v n x y z p q ex ey ez ep eq = chained (t ∷ u ∷ v ∷ []) n q (cc)

-- a call that stops after its early tests, or goes on to the late ones
module _ (early late : List Test) (n : Numbered early) (a : ℕ) (e : a ≡ first early) where
  pub stopped : (a ≡ 0 → ⊥) → a ≡ first (early ++ late)
  stopped h = or_else_first a (first late) h ∙ ap (λ (k : ℕ). or_else k (first late)) e ∙ sym (first_join early late n)

  pub went_on : (b : ℕ) → a ≡ 0 → b ≡ first late → b ≡ first (early ++ late)
  went_on b z q = q ∙ ap (λ (k : ℕ). or_else k (first late)) (sym z ∙ e) ∙ sym (first_join early late n)

-- what fails in a joined list fails in both parts
pub fail_parts : (xs ys : List Test) → AllFail (xs ++ ys) → AllFail xs × AllFail ys
fail_parts [] ys h = (tt, h)
fail_parts (k when b ∷ xs) ys h = let q = fail_parts xs ys h.1 in ((h.0, q.0), q.1)
