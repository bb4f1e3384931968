-- What the group sees of the draw itself is the same of the matched draw: its check points, its packs, the polynomials of the
-- dealers in the group, and what the dealers broadcast.
use Prim.Native.Nat.{ℕ, ◌<◌}
use mathlib.Core.Path.{◌≡◌, refl, sym, ◌∙◌, ap, ap₂, fun_ext}
use mathlib.Core.Bool.{Bool, true, false, cond}
use mathlib.Core.List.{List, [], ◌∷◌, map}
use Rattle.field.specs.Modulus.{p}
use Rattle.field.specs.Element.{element}
use Rattle.field.proofs.Elements.{𝓡}
use Rattle.poly.specs.Counting.{All}
use Rattle.poly.proofs.Lists.{all_map}
use Rattle.forms.specs.Lines as Line
use Rattle.forms.specs.Lines.{text}
use Rattle.parts.specs.Draw.{drawn_f}
use Rattle.runs.specs.Draws.{Plan, Raw, none, by, IsRaw, when_raw, Sound, Draw, IsDraw, raw_length, point_of, raw_draw, plan_shape}
use Rattle.secrecy.specs.Steps.{Secrets}
use Rattle.secrecy.specs.Seen.{points_seen, all_rows, member, polynomial_seen, deal_seen, raw_seen, triple_seen}
use Rattle.secrecy.specs.Claim.{Group}
use Rattle.secrecy.proofs.Shift.{shift_none}
use Rattle.secrecy.proofs.Link.{Gaps}
use Rattle.secrecy.proofs.Moved.{lists_elements, layout, secret_gap, moved, moved_points, moved_raw}
use Rattle.secrecy.proofs.Linked.{link}
open 𝓡 use {add as ◌⊕◌, neg, add_neg}

infixl 65 ◌⊕◌
map_same : {S T : Type 0} (f g : S → T) (xs : List S) → All (λ x. f x ≡ g x) xs → map f xs ≡ map g xs
map_same f g [] a = refl
map_same f g (x ∷ xs) a = ap₂ ◌∷◌ a.0 (map_same f g xs a.1)

module _ (plan : Plan) (group : List ℕ) (u u' : Secrets) (Δ : ℕ → Gaps) (d : Draw) (sound : Sound plan)
    (few : Group plan group) (secrets : (r : ℕ) → IsRaw (plan.raw r) → (u r < p) × (u' r < p)) (is : IsDraw plan d) where
  abbrev d' : Draw
  d' = moved plan group u u' Δ d

  pub same_points : map (points_seen plan group d u) group ≡ map (points_seen plan group d' u') group
  unfolding points_seen moved
  same_points = refl

  pub same_raws : map (raw_seen plan group d u) group ≡ map (raw_seen plan group d' u') group
  unfolding raw_seen
  same_raws =
      map_same _ _ group
      (all_map (λ i h. ap (λ (f : ℕ → List ℕ). map (λ r. when_raw (plan.raw r) (f r) []) all_rows) (fun_ext h)) group
      (link plan group u u' Δ d sound few secrets is).raw_group)

  pub same_triples : map (triple_seen plan group d u) group ≡ map (triple_seen plan group d' u') group
  unfolding triple_seen
  same_triples =
      map_same _ _ group
      (all_map (λ i h. ap (λ (f : ℕ → List ℕ). map (λ r. cond (plan.triple r) (f r) []) all_rows) (fun_ext h)) group
      (link plan group u u' Δ d sound few secrets is).triple_group)

  pub same_deals : map (deal_seen plan d u) all_rows ≡ map (deal_seen plan d' u') all_rows
  unfolding deal_seen
  same_deals =
      ap (λ (f : ℕ → ℕ). map (λ r. when_raw (plan.raw r) (text (Line.deal r (f r))) []) all_rows)
      (fun_ext (link plan group u u' Δ d sound few secrets is).deals)

  -- A dealer in the group has one secret, so that nothing was added to its polynomial.
  module _ (dealers : (r dealer : ℕ) → plan.raw r ≡ by dealer → member dealer group ≡ true → u r ≡ u' r) where
    one_secret : (r : ℕ) → u r ≡ u' r → raw_draw d r ≡ raw_draw d' r
    unfolding raw_draw
    one_secret r e =
        sym
        (moved_raw plan group u u' Δ d r
        ∙ shift_none (layout plan group d) (secret_gap u u' r) (raw_draw d r) (lists_elements (raw_length plan) d.raws is.raws r)
        (ap (λ (x : ℕ). element (u' r) ⊕ neg (element x)) e ∙ add_neg (element (u' r))))

    same_polynomial : (r : ℕ) → polynomial_seen plan group d u r ≡ polynomial_seen plan group d' u' r
    unfolding polynomial_seen
    same_polynomial r = go (plan.raw r) refl
      where
        shown : Draw → Raw → List ℕ
        shown e k = elim k [ none ↦ [] | by dealer ↦ cond (member dealer group) (drawn_f (plan_shape plan) (raw_draw e r)) [] ]

        go : (k : Raw) → plan.raw r ≡ k → shown d k ≡ shown d' k
        go none e = refl
        go (by dealer) e = pick (member dealer group) refl
          where
            pick : (b : Bool) → member dealer group ≡ b
                → cond b (drawn_f (plan_shape plan) (raw_draw d r)) [] ≡ cond b (drawn_f (plan_shape plan) (raw_draw d' r)) []
            pick false f = refl
            pick true f = ap (drawn_f (plan_shape plan)) (one_secret r (dealers r dealer e f))

    pub same_polynomials : map (polynomial_seen plan group d u) all_rows ≡ map (polynomial_seen plan group d' u') all_rows
    same_polynomials = ap (λ (f : ℕ → List ℕ). map f all_rows) (fun_ext same_polynomial)
