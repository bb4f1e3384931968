-- The matched draw is linked with the first: each vector is near, by the gap that is asked for; the dealers' numbers are the
-- same; and so are the packs of the group.
use Prim.Native.Nat.{ℕ, ◌+◌, ◌*◌, ◌-◌, ◌≤◌, ◌<◌}
use mathlib.Core.Path.{◌≡◌, refl, sym, ◌∙◌, ap, ap₂, subst}
use mathlib.Core.Bool.{Bool, true, false, cond}
use mathlib.Core.Logic.{◌⊎◌, inl, inr}
use mathlib.Core.List.{List, [], ◌∷◌, ◌++◌}
use native.Mathlib.Omega.{arith}
use lib.ListN.{length, get_or, length-append}
use Rattle.shape.specs.declared.Points.{Points}
use Rattle.field.specs.Modulus.{p}
use Rattle.field.specs.Element.{Element, element}
use Rattle.field.proofs.Modular.{difference_below}
use Rattle.field.proofs.Expression.{A, B, C, ◌:+◌, ◌:-◌, Same}
use Rattle.field.proofs.Solver.{solve}
use Rattle.field.proofs.Elements.{𝓡, element_injective, element_difference}
use Rattle.poly.specs.Counting.{Elements}
use Rattle.poly.proofs.Lists.{all_zip}
use Rattle.refusal.specs.Conditions.{any_beyond}
use Rattle.shape.specs.Bounds.{row_count_of}
use Rattle.parts.specs.Draw.{part, first_draw, second_draw, third_draw}
use Rattle.factory.specs.Calls.{dealer_number_of}
use Rattle.parts.proofs.Laws.{elements_append}
use Rattle.vectors.specs.Vector.{Vector, row_of, vector_of}
use Rattle.runs.specs.Draws.{Plan, plan_shape, Raw, none, by, IsRaw, when_raw, Sound, Draw, IsDraw, drawn_length, raw_length, triple_length, point_of, raw_draw, triple_draw, raw_pack, triple_pack}
use Rattle.runs.proofs.Start.{sizes, all_at}
use Rattle.runs.proofs.Marks.{raw_vector, vector_a, vector_b, vector_ab}
use Rattle.factory.proofs.Laws.{elements_pass}
use Rattle.runs.proofs.Packs.{row_for, Drawn, raw_drawn, a_drawn, b_drawn, ab_drawn, raw_pack_is, triple_pack_is}
use Rattle.runs.proofs.Numbers.{dealer_number_lem}
use Rattle.runs.proofs.Holds.{row_wide, row_elements}
use Rattle.secrecy.specs.Steps.{Secrets, dealt_number}
use Rattle.secrecy.specs.Claim.{Group}
use Rattle.secrecy.proofs.Kernel.{kernel_c}
use Rattle.secrecy.proofs.Near.{gap, Near, Unseen, group_posts, group_points, group_kernel, near_blind}
use Rattle.secrecy.proofs.Shift.{shift, gap_shift, near_shift}
use Rattle.secrecy.proofs.Link.{Gaps, Alike, Link}
use Rattle.secrecy.proofs.Triples.{shift_empty, shift_constant, moved_triple, triple_none}
use Rattle.secrecy.proofs.Moved.{lists_nothing, layout, secret_gap, product_gap, moved, moved_points, moved_raw, moved_triple_is, moved_is, row_some, kernel_unit, layout_unit, group_unseen, moved_a, moved_b, moved_ab}
open 𝓡 use {add as ◌⊕◌, neg}

infixl 65 ◌⊕◌
-- ---- drawn or not

raw_or : (k : Raw) → (k ≡ none) ⊎ IsRaw k
raw_or none = inl refl
raw_or (by dealer) = inr tt

true_or : (b : Bool) → (b ≡ false) ⊎ (b ≡ true)
true_or true = inr refl
true_or false = inl refl

-- ---- two packs of elements, as long

abbrev Both : List ℕ → List ℕ → Type 0
Both xs ys = (length xs ≡ length ys) × Elements xs × Elements ys

both_join : (a b x y : List ℕ) → Both a b → Both x y → Both (a ++ x) (b ++ y)
both_join a b x y h g = (
  length-append a x ∙ ap₂ ◌+◌ h.0 g.0 ∙ sym (length-append b y),
  elements_append a x h.1 g.1,
  elements_append b y h.2 g.2,
)

alike : (xs ys a b : List ℕ) → xs ≡ a → ys ≡ b → Both a b → Alike xs ys
alike xs ys a b e g h =
    record {
      long = ap length e ∙ h.0 ∙ sym (ap length g);
      low = ap any_beyond e ∙ elements_pass a h.1 ∙ sym (ap any_beyond g ∙ elements_pass b h.2);
    }

same_alike : (xs ys : List ℕ) → xs ≡ ys → Alike xs ys
same_alike xs ys e = record { long = ap length e; low = ap any_beyond e }

module _ (plan : Plan) (group : List ℕ) (u u' : Secrets) (Δ : ℕ → Gaps) (d : Draw) (sound : Sound plan)
    (few : Group plan group) (secrets : (r : ℕ) → IsRaw (plan.raw r) → (u r < p) × (u' r < p)) (is : IsDraw plan d) where
  abbrev d' : Draw
  d' = moved plan group u u' Δ d

  abbrev K : Vector
  K = group_kernel plan.points (point_of plan d) group

  is' : IsDraw plan d'
  is' = moved_is plan group u u' Δ d is

  abbrev vector : List ℕ → Vector
  vector = vector_of (plan_shape plan)

  -- ---- near

  abbrev Nearly : Vector → Vector → Type 0
  Nearly = Near (plan_shape plan) (point_of plan d) K

  nearly : (δ : Element) (xs ys : List ℕ) → ys ≡ shift (layout plan group d) δ xs → Drawn (drawn_length plan) xs
      → Nearly (vector xs) (vector ys)
  nearly δ xs ys e h =
      subst (λ (l : List ℕ). Nearly (vector xs) (vector l)) (sym e)
      (near_shift (plan_shape plan) K δ (point_of plan d) xs
      (kernel_c (group_posts plan.points (point_of plan d) group) (group_points plan.points (point_of plan d) group)) (kernel_unit plan group d sound few is) h.many)

  some_drawn : (xs : List ℕ) → Drawn (drawn_length plan) xs → 1 ≤ length xs
  some_drawn xs h = omega (arith, h.many, row_some plan)

  gap_is : (δ : Element) (xs ys : List ℕ) → ys ≡ shift (layout plan group d) δ xs → Drawn (drawn_length plan) xs
      → gap (vector xs) (vector ys) ≡ δ
  gap_is δ xs ys e h =
      ap (λ (l : List ℕ). gap (vector xs) (vector l)) e
      ∙ gap_shift (plan_shape plan) K δ xs (kernel_unit plan group d sound few is) (some_drawn xs h)

  near_raw : (r : ℕ) → r < row_count_of → IsRaw (plan.raw r) → Nearly (raw_vector plan d r) (raw_vector plan d' r)
  near_raw r row h = nearly (secret_gap u u' r) _ _ (moved_raw plan group u u' Δ d r) (raw_drawn plan d is r row h)

  module _ (r : ℕ) (row : r < row_count_of) (h : plan.triple r ≡ true) where
    near_a : Nearly (vector_a plan d r) (vector_a plan d' r)
    near_a = nearly (Δ r).factor_a_is _ _ (moved_a plan group u u' Δ d sound few is r row h) (a_drawn plan d is r row h)

    near_b : Nearly (vector_b plan d r) (vector_b plan d' r)
    near_b = nearly (Δ r).factor_b_is _ _ (moved_b plan group u u' Δ d sound few is r row h) (b_drawn plan d is r row h)

    near_ab : Nearly (vector_ab plan d r) (vector_ab plan d' r)
    near_ab = nearly (product_gap plan Δ d r) _ _ (moved_ab plan group u u' Δ d sound few is r row h) (ab_drawn plan d is r row h)

  -- ---- the dealers' numbers

  same_deals : (r : ℕ) → dealt_number plan d u r ≡ dealt_number plan d' u' r
  unfolding dealt_number Same
  same_deals r = go (plan.raw r) refl
    where
      f0 : ℕ
      f0 = get_or (raw_draw d r) 0 0

      f1 : ℕ
      f1 = get_or (raw_draw d' r) 0 0

      low : (xs : List ℕ) → Drawn (drawn_length plan) xs → get_or xs 0 0 < p
      low xs h = all_at (λ x. x < p) xs h.low 0 (some_drawn xs h)

      go : (k : Raw) → plan.raw r ≡ k → when_raw k (dealer_number_of (u r) f0).value 0 ≡ when_raw k (dealer_number_of (u' r) f1).value 0
      go none e = refl
      go (by m) e =
          let raw : IsRaw (plan.raw r) = subst IsRaw (sym e) tt in
          let row : r < row_count_of = omega (arith, sound.raws r raw) in
          let drawn = raw_drawn plan d is r row raw in
          let new : element f1 ≡ element f0 ⊕ secret_gap u u' r =
          ap (λ (l : List ℕ). element (get_or l 0 0)) (moved_raw plan group u u' Δ d r)
          ∙ shift_constant (layout plan group d) (secret_gap u u' r) (raw_draw d r) (layout_unit plan group d sound few is)
          (some_drawn _ drawn) in
          dealer_number_lem (u r) f0 (secrets r raw).0 (low _ drawn)
          ∙ element_injective _ _ (difference_below (u r) f0) (difference_below (u' r) f1)
          (element_difference (u r) f0
          ∙ solve 𝓡 (element (u r) ∷ element (u' r) ∷ element f0 ∷ []) (A :- C) (B :- (C :+ (B :- A))) refl
          ∙ ap (λ (z : Element). element (u' r) ⊕ neg z) (sym new) ∙ sym (element_difference (u' r) f1))
          ∙ sym (dealer_number_lem (u' r) f1 (secrets r raw).1 (low _ (raw_drawn plan d' is' r row raw)))

  -- ---- packs

  point_same : (i : ℕ) → point_of plan d i ≡ point_of plan d' i
  point_same i = sym (ap (λ (f : ℕ → Points). f i) (moved_points plan group u u' Δ d))

  -- nothing drawn
  raw_same : (i r : ℕ) → plan.raw r ≡ none → raw_pack plan d i r ≡ raw_pack plan d' i r
  unfolding raw_pack raw_draw
  raw_same i r e =
      ap₂ (λ (w : Points) (l : List ℕ). part (plan_shape plan) i w l) (point_same i)
      (empty
      ∙ sym (moved_raw plan group u u' Δ d r ∙ ap (shift (layout plan group d) (secret_gap u u' r)) empty ∙ shift_empty _ _))
    where
      empty : raw_draw d r ≡ []
      empty = lists_nothing (raw_length plan) d.raws is.raws r (ap (λ (k : Raw). when_raw k (drawn_length plan) 0) e)

  triple_same : (i r : ℕ) → plan.triple r ≡ false → triple_pack plan d i r ≡ triple_pack plan d' i r
  unfolding triple_pack triple_draw
  triple_same i r e =
      ap₂
      (λ (w : Points) (l : List ℕ).
      part (plan_shape plan) i w (first_draw (drawn_length plan) l)
      ++ (part (plan_shape plan) i w (second_draw (drawn_length plan) l)
      ++ part (plan_shape plan) i w (third_draw (drawn_length plan) l)))
      (point_same i)
      (empty ∙ sym (moved_triple_is plan group u u' Δ d r ∙ ap (moved_triple _ _ _ _) empty ∙ triple_none _ _ _ _))
    where
      empty : triple_draw d r ≡ []
      empty =
          lists_nothing (triple_length plan) d.triples is.triples r
          (ap (λ (b : Bool). cond b (3 * drawn_length plan - 1) 0) e)

  -- all posts: packs of elements, and as long
  both_rows : (i : ℕ) (X Y : Vector) → Both (row_for plan d i X) (row_for plan d' i Y)
  both_rows i X Y = (
    row_wide plan d i X ∙ sym (row_wide plan d' i Y),
    row_elements plan d i X,
    row_elements plan d' i Y,
  )

  there : (i : ℕ) → i ≤ plan.n → i - 1 < plan.n
  there i hi = omega (arith, hi, (sizes plan sound).n_low)

  raw_alike : (i k : ℕ) → i ≤ plan.n → Alike (raw_pack plan d i k) (raw_pack plan d' i k)
  raw_alike i k hi =
      elim (raw_or (plan.raw k)) [
        | inl e ↦ same_alike _ _ (raw_same i k e)
        | inr h ↦
            let row : k < row_count_of = omega (arith, sound.raws k h) in
            alike _ _ _ _ (raw_pack_is plan d is k row h i (there i hi)) (raw_pack_is plan d' is' k row h i (there i hi))
            (both_rows i (raw_vector plan d k) (raw_vector plan d' k))
      ]

  triple_alike : (i k : ℕ) → i ≤ plan.n → Alike (triple_pack plan d i k) (triple_pack plan d' i k)
  triple_alike i k hi =
      elim (true_or (plan.triple k)) [
        | inl e ↦ same_alike _ _ (triple_same i k e)
        | inr h ↦
            let row : k < row_count_of = omega (arith, sound.triples k h) in
            alike _ _ _ _ (triple_pack_is plan d is k row h i (there i hi)) (triple_pack_is plan d' is' k row h i (there i hi))
            (both_join (row_for plan d i (vector_a plan d k)) (row_for plan d' i (vector_a plan d' k)) _ _
            (both_rows i (vector_a plan d k) (vector_a plan d' k))
            (both_join (row_for plan d i (vector_b plan d k)) (row_for plan d' i (vector_b plan d' k)) _ _
            (both_rows i (vector_b plan d k) (vector_b plan d' k)) (both_rows i (vector_ab plan d k) (vector_ab plan d' k))))
      ]

  -- the group: the same packs
  module _ (i : ℕ) (post : (1 ≤ i) × (i ≤ plan.n)) (un : Unseen (plan_shape plan) i (point_of plan d i) K) where
    same_row : (X Y : Vector) → Nearly X Y → row_for plan d i X ≡ row_for plan d' i Y
    same_row X Y h =
        near_blind (plan_shape plan) (point_of plan d) K X Y h i post.0 post.1 un
        ∙ ap (λ (w : Points). row_of (plan_shape plan) i w Y) (point_same i)

    raw_blind : (k : ℕ) → raw_pack plan d i k ≡ raw_pack plan d' i k
    raw_blind k =
        elim (raw_or (plan.raw k)) [
          | inl e ↦ raw_same i k e
          | inr h ↦
              let row : k < row_count_of = omega (arith, sound.raws k h) in
              raw_pack_is plan d is k row h i (there i post.1) ∙ same_row _ _ (near_raw k row h)
              ∙ sym (raw_pack_is plan d' is' k row h i (there i post.1))
        ]

    triple_blind : (k : ℕ) → triple_pack plan d i k ≡ triple_pack plan d' i k
    triple_blind k =
        elim (true_or (plan.triple k)) [
          | inl e ↦ triple_same i k e
          | inr h ↦
              let row : k < row_count_of = omega (arith, sound.triples k h) in
              triple_pack_is plan d is k row h i (there i post.1)
              ∙ ap₂ ◌++◌ (same_row _ _ (near_a k row h))
              (ap₂ ◌++◌ (same_row _ _ (near_b k row h)) (same_row _ _ (near_ab k row h)))
              ∙ sym (triple_pack_is plan d' is' k row h i (there i post.1))
        ]

  pub link : Link plan group d (moved plan group u u' Δ d) u u' (group_kernel plan.points (point_of plan d) group) Δ
  link =
      record {
        points = moved_points plan group u u' Δ d;
        near_raw = near_raw;
        near_a = near_a;
        near_b = near_b;
        near_ab = near_ab;
        gap_a = λ r row h. gap_is (Δ r).factor_a_is _ _ (moved_a plan group u u' Δ d sound few is r row h) (a_drawn plan d is r row h);
        gap_b = λ r row h. gap_is (Δ r).factor_b_is _ _ (moved_b plan group u u' Δ d sound few is r row h) (b_drawn plan d is r row h);
        deals = same_deals;
        raw_alike = raw_alike;
        triple_alike = triple_alike;
        raw_group = all_zip raw_blind group few.members (group_unseen plan group d sound few is);
        triple_group = all_zip triple_blind group few.members (group_unseen plan group d sound few is);
        unseen = group_unseen plan group d sound few is;
      }
