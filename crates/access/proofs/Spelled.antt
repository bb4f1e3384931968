-- What a line says, and so its refusals.
use Prim.Native.Nat.{ℕ, suc}
use mathlib.Core.Path.{◌≡◌, refl, ap, subst, ◌∙◌}
use mathlib.Core.Bool.{Bool, true, not, ◌||◌}
use mathlib.Core.List.{List, [], ◌∷◌, ◌++◌}
use native.Mathlib.Omega.{arith}
use lib.Dec.{eqb, ltb}
use lib.ListN.{length, get_or}
use Rattle.refusal.specs.Refusal.{Test, ◌when◌, first, or_else}
use Rattle.refusal.proofs.Laws.{first_join}
use Rattle.csv_fields.specs.Fields.{Small, Parsed, parsed, malformed, numbers_of_of}
use Rattle.session.specs.declared.Session.{Session}
use Rattle.access.specs.Access.{access_fields, bad_access, access_row, access_posts, any_outside, access_refusal}
use Rattle.access.specs.Claims.{access_text}
use Rattle.access.specs.Spelled.{own_table, spelled_table, AccessSpelled}
use Rattle.access.proofs.Tables.{access_table_lem}
use Rattle.access.proofs.Bytes.{access_bytes}

abbrev tests : Session → Bool → ℕ → List ℕ → List Test
tests s bad row posts =
    own_table s ++ (10 when bad ∷ 11 when (ltb 95 row || any_outside s.n posts) ∷ 7 when not (eqb (get_or s.marks row 0) 1) ∷ [])

abbrev by : Session → Parsed → ℕ
by s o = first (tests s (bad_access o) (access_row o) (access_posts o))

refusal_is : (s : Session) (line : List ℕ) → access_refusal s line ≡ by s (access_fields line)
unfolding access_refusal
refusal_is s line = ap first (access_table_lem s line)

said : (s : Session) (o : Parsed) (row : ℕ) (posts : List ℕ) → numbers_of_of o ≡ row ∷ posts → by s o ≡ first (spelled_table s row posts)
said s (parsed xs next) row posts e = rw e refl
said s malformed row posts e = let z : ◌≡◌ {A = ℕ} 0 (suc (length posts)) = ap length e in absurd (omega arith)

unsaid : (s : Session) → by s malformed ≡ or_else (first (own_table s)) 10
unsaid s =
    first_join (own_table s) (10 when true ∷ 11 when (ltb 95 0 || any_outside s.n []) ∷ 7 when not (eqb (get_or s.marks 0 0) 1) ∷ []) tt

pub access_spelled : AccessSpelled
access_spelled = record {
  spelled = λ s row posts h. refusal_is s (access_text row posts) ∙ said s (access_fields (access_text row posts)) row posts (access_bytes.read row posts h);
  otherwise = λ s line n. refusal_is s line ∙ go s line n (access_fields line) refl;
}
  where
    go : (s : Session) (line : List ℕ) → ((row : ℕ) (posts : List ℕ) → Small (row ∷ posts) → line ≡ access_text row posts → ⊥)
        → (o : Parsed) → access_fields line ≡ o → by s o ≡ or_else (first (own_table s)) 10
    go s line n malformed e = unsaid s
    go s line n (parsed xs next) e =
        let w = access_bytes.only line xs next e in absurd (n w.0 w.1 (subst Small w.2 w.4) w.3)
