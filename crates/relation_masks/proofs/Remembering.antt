-- The session once each product term's triple remembers its rows, one triple after the other.
use Prim.Native.Nat.{ℕ, suc, ◌≤◌}
use mathlib.Core.Path.{◌≡◌, refl, ap}
use mathlib.Core.List.{List, [], ◌∷◌}
use Rattle.shape.specs.declared.Shape.{Shape}
use Rattle.shape.specs.Bounds.{last_row_at, last_triple}
use Rattle.session.specs.declared.Session.{Session}
use Rattle.session.specs.declared.Answer.{Answer}
use Rattle.session.specs.Sessions.{holding, masked_triple}
use Rattle.terms.specs.declared.Term.{Term}
use Rattle.relation.specs.Tests.{Factors}
use Rattle.relation.specs.Masks.{masked_terms}
use Rattle.relation.proofs.Loops.{walked}

pub session_of_lem : (a : Answer) (s : Session) → a ≡ holding 0 0 s → a.session ≡ s
session_of_lem a s e = ap (λ (x : Answer). x.session) e

abbrev pub remember_in : ℕ → Term → Session → Session
remember_in k t s = masked_triple s t.first t.row t.second

pub masked_walk : (k : ℕ) (s : Session) (ts : List Term) → walked remember_in k ts s ≡ masked_terms s ts
unfolding masked_terms
masked_walk k s [] = refl
masked_walk k s (t ∷ ts) = masked_walk (suc k) (masked_triple s t.first t.row t.second) ts

pub in_range : (g : Shape) (t : Term) → Factors g t → (t.first ≤ last_triple) × (t.row ≤ last_row_at) × (t.second ≤ last_row_at)
in_range g t h = (h.triple_in.triple_in, h.row_in.row_in, h.second_in.row_in)
