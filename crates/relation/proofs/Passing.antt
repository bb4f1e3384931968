-- What holds of every term where its tests refuse nothing, and of the product terms of a list.
use Prim.Native.Nat.{ℕ, zero, suc}
use mathlib.Core.Path.{◌≡◌, refl, sym, ◌∙◌, ap}
use mathlib.Core.Bool.{Bool, true, false}
use mathlib.Core.List.{List, [], ◌∷◌, ◌++◌}
use native.Mathlib.Omega.{arith}
use Rattle.shape.specs.declared.Shape.{Shape}
use Rattle.refusal.specs.Refusal.{Test, ◌when◌, AllFail}
use Rattle.refusal.proofs.Laws.{Numbered, inside}
use Rattle.refusal.proofs.Groups.{fail_parts}
use Rattle.session.specs.Checks.{no_row, no_triple}
use Rattle.session.proofs.Passed.{row_in, triple_in}
use Rattle.terms.specs.declared.Term.{Term}
use Rattle.terms.specs.declared.Terms.{Terms}
use Rattle.terms.specs.Listed.{most_terms, plain, products_of, collected, terms_of, factors_of}
use Rattle.terms.proofs.Placing.{products_fewer, terms_again, factors_again}
use Rattle.relation.specs.Tests.{each_at_of, by_kind, bad_count, place_tests, Counted, Few, Every, Factors, Placed}

pub numbered_append : (xs ys : List Test) → Numbered xs → Numbered ys → Numbered (xs ++ ys)
numbered_append [] ys n m = m
numbered_append (zero when b ∷ xs) ys n m = absurd n
numbered_append (suc k when b ∷ xs) ys n m = numbered_append xs ys n m

pub each_numbered : (f : ℕ → Term → List Test) → ((k : ℕ) (t : Term) → Numbered (f k t)) → (k : ℕ) (ts : List Term) → Numbered (each_at_of f k ts)
unfolding each_at_of
each_numbered f h k [] = tt
each_numbered f h k (t ∷ ts) = numbered_append (f k t) (each_at_of f (suc k) ts) (h k t) (each_numbered f h (suc k) ts)

-- P holds of each term whose tests fail
pub every_passed : (f : ℕ → Term → List Test) (P : Term → Type 0) → ((k : ℕ) (t : Term) → AllFail (f k t) → P t)
    → (k : ℕ) (ts : List Term) → AllFail (each_at_of f k ts) → Every P ts
unfolding each_at_of Every
every_passed f P h k [] a = tt
every_passed f P h k (t ∷ ts) a =
    let q = fail_parts (f k t) (each_at_of f (suc k) ts) a in
    (h k t q.0, every_passed f P h (suc k) ts q.1)

module _ (g : Shape) where
  placed_kind : (t : Term) (b : Bool) → AllFail (by_kind b [] (6 when no_row t.second ∷ 6 when no_triple t.first ∷ []))
      → no_row t.row ≡ false → b ≡ false → Factors g t
  placed_kind t true a r e = let z : ◌≡◌ {A = ℕ} 0 1 = cc in absurd (omega arith)
  placed_kind t false a r e = record { row_in = row_in g t.row r; second_in = row_in g t.second a.0; triple_in = triple_in g t.first a.1.0 }

  placed : (k : ℕ) (t : Term) → AllFail (place_tests t) → Placed g t
  placed k t a = record { row_in = row_in g t.row a.0; factors_in = placed_kind t (plain t) a.1 a.0 }

  pub every_placed : (ts : List Term) → AllFail (each_at_of (λ k. place_tests) 0 ts) → Every (Placed g) ts
  every_placed ts a = every_passed (λ k. place_tests) (Placed g) placed 0 ts a

  factors_step : (b : Bool) (t : Term) (ts : List Term) → plain t ≡ b → Placed g t → Every (Factors g) (products_of ts)
      → Every (Factors g) (elim b [ true ↦ products_of ts | false ↦ t ∷ products_of ts ])
  unfolding Every
  factors_step true t ts e h r = r
  factors_step false t ts e h r = (h.factors_in e, r)

  factors : (ts : List Term) → Every (Placed g) ts → Every (Factors g) (products_of ts)
  unfolding Every products_of
  factors [] h = tt
  factors (t ∷ ts) h = factors_step (plain t) t ts refl h.0 (factors ts h.1)

  pub every_factors : (all : Terms) → Counted all → Few all → Every (Placed g) (terms_of all) → Every (Factors g) (factors_of all)
  every_factors all c f h = rw (c.same f.terms_in) (factors (terms_of all) h)

-- what the walk hands on of any list
pub collected_counted : (ts : List Term) → Counted (collected ts)
collected_counted ts =
    record { fewer = products_fewer ts; same = λ h. factors_again ts h ∙ ap products_of (sym (terms_again ts h)) }

-- what 14 leaves
pub few : (all : Terms) → Counted all → bad_count all.count ≡ false → Few all
few all c e =
    let h = inside 1 most_terms all.count e in
    record { terms_in = h.1; products_in = omega (arith, c.fewer, h.1) }

-- what holds of a session's own shape holds of the shape that the code made of it
pub same_placed : (g h : Shape) (ts : List Term) → g ≡ h → Every (Placed h) ts → Every (Placed g) ts
same_placed g h ts e p = rw e p
