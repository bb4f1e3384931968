-- What the call returns: the draw itself where the secrets are equal, else the other one; each shows the same record.
use Prim.Native.Nat.{ℕ, zero, suc, ◌+◌, ◌≤◌}
use mathlib.Core.Path.{◌≡◌, refl, sym, ◌∙◌, ap, subst}
use mathlib.Core.Bool.{Bool, true, false, cond, not, ◌&&◌}
use mathlib.Core.Logic.{◌⊎◌, inl, inr}
use mathlib.Core.List.{List, []}
use native.Mathlib.Omega.{arith}
use borrow.Author.Tests.{eq-eqb, eqb-true, eqb-false, lt-ltb, le-ltb}
use lib.Dec.{eqb, ltb}
use lib.ListN.{length}
use Rattle.field.specs.Arithmetic.{difference}
use Rattle.refusal.specs.Refusal.{outcome, AllFail}
use Rattle.refusal.proofs.Laws.{all_fail, not_refused as passes}
use Rattle.shape.specs.Lengths.{shape}
use Rattle.parts.specs.Draw.{each_from}
use Rattle.secrecy.specs.Seen.{posts}
use Rattle.otherdraw.specs.Other.{moved, points_of, other_draw, other_out, not_rising, too_many_of, other_tests, other_refusal_of}
use Rattle.otherdraw_law.specs.OneRow.{record_of, Behind}
use Rattle.otherdraw_law.specs.Claims.{ShowsTheSame, EqualSecrets}
use Rattle.otherdraw.proofs.Passed.{Given, not_refused}
use Rattle.otherdraw_law.proofs.Drawn.{is_draw}
use Rattle.otherdraw_law.proofs.Shows.{few_shows}

module _ (n t points : ℕ) (ws draw : List ℕ) (secret wanted : ℕ) (listed out : List ℕ) where
  pub out_is : other_refusal_of n t points ws draw secret wanted listed out ≡ 0
      → other_out n t points ws draw secret wanted listed out ≡ other_draw n t points ws draw secret wanted listed
  unfolding outcome
  out_is z = ap (λ (k : ℕ). outcome k (other_draw n t points ws draw secret wanted listed) out) z

  abbrev other : List ℕ
  other = moved (shape n t points) listed (points_of points ws listed) (difference wanted secret) draw

  pub draw_equal : secret ≡ wanted → other_draw n t points ws draw secret wanted listed ≡ draw
  unfolding other_draw
  draw_equal e = ap (λ (b : Bool). cond b draw other) (eq-eqb secret wanted e)

  pub draw_moved : eqb secret wanted ≡ false
      → other_draw n t points ws draw secret wanted listed ≡ moved (shape n t points) listed (points_of points ws listed) (difference wanted secret) draw
  unfolding other_draw
  draw_moved e = ap (λ (b : Bool). cond b draw other) e

-- ---- equal secrets, all posts

rising : (n j m : ℕ) → suc (j + m) ≤ suc n → not_rising n j (each_from (suc j) m (λ i. i)) ≡ false
unfolding not_rising each_from
rising n j zero h = refl
rising n j (suc m) h = rw (lt-ltb j (suc j) (omega arith), le-ltb n (suc j) (omega arith)) (rising n (suc j) m (omega arith))

pub equal_secrets : EqualSecrets
unfolding other_refusal_of posts
equal_secrets n t points ws draw secret out = (
  λ listed z. out_is n t points ws draw secret secret listed out z ∙ draw_equal n t points ws draw secret secret listed out refl,
  λ z. passes (other_tests n t points ws draw secret secret (posts n) out) (all_listed (all_fail (other_tests n t points ws draw secret secret [] out) tt z)),
)
  where
    many : too_many_of t secret secret (posts n) ≡ false
    many = ap (λ (b : Bool). not b && ltb t (length (posts n))) (eq-eqb secret secret refl)

    rise : not_rising n 0 (posts n) ≡ false
    rise = rising n 0 n (omega arith)

    all_listed : AllFail (other_tests n t points ws draw secret secret [] out) → AllFail (other_tests n t points ws draw secret secret (posts n) out)
    all_listed h =
        let (one, (two, (count, (four, (five, (six, (seven, (eight, (nine, (ten, _)))))))))) = h in
        (one, (two, (count, (four, (five, (six, (seven, (eight, (nine, (ten, (rise, (many, tt))))))))))))

-- ---- the same record

pub shows_the_same : ShowsTheSame
shows_the_same S draw secret wanted out h z =
    let (g, how) = not_refused S.n S.t S.points S.ws draw secret wanted S.posts out z in
    subst (Behind S draw secret wanted) (sym (out_is S.n S.t S.points S.ws draw secret wanted S.posts out z))
    (by_secrets g how (eqb secret wanted) refl)
  where
    by_secrets : Given S.n S.t S.points S.ws draw secret wanted S.posts → (secret ≡ wanted) ⊎ (length S.posts ≤ S.t)
        → (b : Bool) → eqb secret wanted ≡ b → Behind S draw secret wanted (other_draw S.n S.t S.points S.ws draw secret wanted S.posts)
    by_secrets g how true e =
        let q = eqb-true secret wanted e in
        subst (Behind S draw secret wanted) (sym (draw_equal S.n S.t S.points S.ws draw secret wanted S.posts out q))
        (record { is_draw = is_draw S draw h.row g.points_length g.points_good g.draw_length_is g.draw_elements; same = ap (record_of S draw) (sym q) })
    by_secrets g (inl q) false e = absurd (eqb-false secret wanted e q)
    by_secrets g (inr few) false e =
        subst (Behind S draw secret wanted) (sym (draw_moved S.n S.t S.points S.ws draw secret wanted S.posts out e)) (few_shows S draw secret wanted h g few)
