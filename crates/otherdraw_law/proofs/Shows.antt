-- The other draw shows the listed posts the same record: it differs from the draw by a kernel that they do not see, and the dealer broadcasts the
-- same number.
use Prim.Native.Nat.{ℕ, ◌+◌, ◌-◌, ◌≤◌, ◌<◌}
use mathlib.Core.Path.{◌≡◌, refl, sym, ◌∙◌, ap, subst}
use mathlib.Core.Bool.{Bool, true, false, cond}
use mathlib.Core.List.{List, [], ◌∷◌, map}
use native.Mathlib.Omega.{arith}
use borrow.Author.Tests.{eqb-true}
use lib.Dec.{eqb}
use lib.ListN.{length, get_or}
use Rattle.field.specs.Arithmetic.{difference}
use Rattle.field.specs.Element.{Element, element}
use Rattle.field.proofs.Modular.{difference_below}
use Rattle.field.proofs.Expression.{A, B, C, ◌:+◌, ◌:-◌, Same}
use Rattle.field.proofs.Solver.{solve}
use Rattle.field.proofs.Elements.{𝓡, element_difference, element_injective}
use Rattle.poly.specs.Counting.{All, Elements}
use Rattle.poly.proofs.Lists.{all_map, all_zip, all_of, map_same}
use Rattle.shape.specs.declared.Shape.{Shape}
use Rattle.shape.specs.Bounds.{last_row_at}
use Rattle.shape.specs.Lengths.{draw_length}
use Rattle.packs.specs.Packs.{points_at_of}
use Rattle.parts.specs.Draw.{drawn_f}
use Rattle.vectors.specs.Vector.{Vector, vector_of}
use Rattle.vectors.proofs.Draws.{element_at}
use Rattle.runs.specs.Draws.{Raw, none, by, IsRaw, when_raw, Plan, Draw, IsDraw, point_of, raw_draw, raw_pack}
use Rattle.runs.proofs.Marks.{raw_vector}
use Rattle.runs.proofs.Packs.{row_for, raw_pack_is}
use Rattle.runs.proofs.Holds.{row_wide, row_low}
use Rattle.refusal.specs.Conditions.{any_beyond}
use Rattle.forms.specs.Lines as Line
use Rattle.forms.specs.Lines.{text}
use Rattle.secrecy.specs.Steps.{Secrets, dealt_number}
use Rattle.secrecy.specs.Seen.{all_rows, member, deal_seen, polynomial_seen, points_seen, raw_seen, triple_seen, seen}
use Rattle.secrecy.proofs.Near.{Near, Unseen, near_blind}
use Rattle.secrecy.proofs.Triples.{shift_constant}
use Rattle.secrecy.proofs.Shift.{shift, flat, flat_f, length_shift, elements_shift, near_shift}
use Rattle.secrecy.proofs.Link.{Alike}
use Rattle.otherdraw.specs.Other.{moved, points_of}
use Rattle.otherdraw_law.specs.OneRow.{draw_of, Setting, plan_in, draw_in, record_of, Behind}
use Rattle.otherdraw_law.specs.Claims.{Dealt, shape_in}
use Rattle.otherdraw.proofs.Passed.{Given}
use Rattle.otherdraw_law.proofs.Told.{drawn_row, raw_there, number_is}
use Rattle.otherdraw_law.proofs.Drawn.{is_draw}
use Rattle.otherdraw_law.proofs.Entries.{entries_same}
use Rattle.otherdraw_law.proofs.Shifted.{unseen_kernel, other_is_shifted}
use Rattle.otherdraw_law.proofs.Concealed.{hidden_c, hidden_unit, hidden}
open 𝓡 use {add as ◌⊕◌, neg}

infixl 65 ◌⊕◌
module _ (S : Setting) (draw : List ℕ) (secret wanted : ℕ) (h : Dealt S) (g : Given S.n S.t S.points S.ws draw secret wanted S.posts)
    (few : length S.posts ≤ S.t) where
  abbrev P : Plan
  P = plan_in S

  abbrev s : Shape
  s = shape_in S

  K : Vector
  K = unseen_kernel s S.posts (points_of S.points S.ws S.posts) draw secret wanted g.draw_length_is g.draw_elements

  δ : Element
  δ = element wanted ⊕ neg (element secret)

  other : List ℕ
  other = moved s S.posts (points_of S.points S.ws S.posts) (difference wanted secret) draw

  shifted : other ≡ shift (flat s K) δ draw
  unfolding other K δ
  shifted = other_is_shifted s S.posts (points_of S.points S.ws S.posts) draw secret wanted g.draw_length_is g.draw_elements

  other_long : length other ≡ draw_length s
  other_long = ap length shifted ∙ length_shift _ _ draw ∙ g.draw_length_is

  other_low : Elements other
  other_low = subst Elements (sym shifted) (elements_shift _ _ draw)

  row : S.r ≤ last_row_at
  row = h.row

  d : Draw
  d = draw_in S draw

  d' : Draw
  d' = draw_in S other

  d_is : IsDraw P d
  unfolding d
  d_is = is_draw S draw row g.points_length g.points_good g.draw_length_is g.draw_elements

  d'_is : IsDraw P d'
  unfolding d'
  d'_is = is_draw S other row g.points_length g.points_good other_long other_low

  -- ---- the packs of the row

  near : Near s (point_of P d) K (vector_of s draw) (vector_of s (shift (flat s K) δ draw))
  unfolding K
  near =
      near_shift s K δ (point_of P d) draw (hidden_c S.n S.t S.points S.ws draw secret wanted S.posts g few)
      (hidden_unit S.n S.t S.points S.ws draw secret wanted S.posts g few) g.draw_length_is

  near_there : Near s (point_of P d) K (raw_vector P d S.r) (raw_vector P d' S.r)
  unfolding d d'
  near_there =
      subst (λ (x : List ℕ). Near s (point_of P d) K (vector_of s x) (raw_vector P d' S.r)) (sym (drawn_row S.r S.ws draw row))
      (subst (λ (x : List ℕ). Near s (point_of P d) K (vector_of s draw) (vector_of s x)) (sym (drawn_row S.r S.ws other row ∙ shifted)) near)

  raw_is : IsRaw (P.raw S.r)
  raw_is = subst IsRaw (sym (raw_there S row)) tt

  there : (i : ℕ) → i ≤ S.n → i - 1 < S.n
  there i hi = omega (arith, hi, g.valid.n_in)

  one_pack : (i : ℕ) → i ≤ S.n → raw_pack P d i S.r ≡ row_for P d i (raw_vector P d S.r)
  one_pack i hi = raw_pack_is P d d_is S.r (omega (arith, row)) raw_is i (there i hi)

  two_pack : (i : ℕ) → i ≤ S.n → raw_pack P d' i S.r ≡ row_for P d' i (raw_vector P d' S.r)
  two_pack i hi = raw_pack_is P d' d'_is S.r (omega (arith, row)) raw_is i (there i hi)

  alike : (i : ℕ) → 1 ≤ i → i ≤ S.n → Alike (raw_pack P d i S.r) (raw_pack P d' i S.r)
  alike i lo hi =
      record {
        long = ap length (one_pack i hi) ∙ row_wide P d i _ ∙ sym (ap length (two_pack i hi) ∙ row_wide P d' i _);
        low = ap any_beyond (one_pack i hi) ∙ row_low P d i _ ∙ sym (ap any_beyond (two_pack i hi) ∙ row_low P d' i _);
      }

  pack_seen : (i : ℕ) → (1 ≤ i) × (i ≤ S.n) → Unseen s i (points_at_of S.points S.ws (i - 1)) K → raw_pack P d i S.r ≡ raw_pack P d' i S.r
  unfolding point_of d d' draw_of
  pack_seen i b un = one_pack i b.1 ∙ near_blind s (point_of P d) K _ _ near_there i b.0 b.1 un ∙ sym (two_pack i b.1)

  packs : All (λ i. raw_pack P d i S.r ≡ raw_pack P d' i S.r) S.posts
  unfolding K
  packs = all_zip pack_seen S.posts g.posts_in (hidden S.n S.t S.points S.ws draw secret wanted S.posts g few)

  -- ---- the dealer's number

  new_constant : element (get_or other 0 0) ≡ element (get_or draw 0 0) ⊕ (element wanted ⊕ neg (element secret))
  unfolding δ K
  new_constant =
      ap (λ (x : List ℕ). element (get_or x 0 0)) shifted
      ∙ shift_constant (flat s K) δ draw
      (flat_f s K 0 (omega arith) ∙ hidden_unit S.n S.t S.points S.ws draw secret wanted S.posts g few) (omega (arith, g.draw_length_is))

  number : dealt_number P d (λ q. secret) S.r ≡ dealt_number P d' (λ q. wanted) S.r
  unfolding d d' Same
  number =
      number_is S row draw secret g.secret_low (element_at draw g.draw_elements 0)
      ∙ element_injective _ _ (difference_below secret f0) (difference_below wanted f1)
      (element_difference secret f0 ∙ solve 𝓡 (element secret ∷ element wanted ∷ element f0 ∷ []) (A :- C) (B :- (C :+ (B :- A))) refl
      ∙ ap (λ (z : Element). element wanted ⊕ neg z) (sym new) ∙ sym (element_difference wanted f1))
      ∙ sym (number_is S row other wanted g.wanted_low (element_at other other_low 0))
    where
      f0 : ℕ
      f0 = get_or draw 0 0

      f1 : ℕ
      f1 = get_or other 0 0

      new : element f1 ≡ element f0 ⊕ (element wanted ⊕ neg (element secret))
      new = new_constant

  -- ---- the record, part by part

  -- what is there at row r alone
  at_row : (f f' : ℕ → List ℕ) → f S.r ≡ f' S.r → (q : ℕ) → when_raw (P.raw q) (f q) [] ≡ when_raw (P.raw q) (f' q) []
  at_row f f' e q = go (eqb q S.r) refl
    where
      go : (b : Bool) → eqb q S.r ≡ b → when_raw (cond b (by S.dealer) none) (f q) [] ≡ when_raw (cond b (by S.dealer) none) (f' q) []
      go true x = subst (λ (k : ℕ). f k ≡ f' k) (sym (eqb-true q S.r x)) e
      go false x = refl

  raws : map (raw_seen P S.posts d (λ q. secret)) S.posts ≡ map (raw_seen P S.posts d' (λ q. wanted)) S.posts
  unfolding raw_seen
  raws =
      map_same (raw_seen P S.posts d (λ q. secret)) (raw_seen P S.posts d' (λ q. wanted)) S.posts
      (all_map (λ i e. map_same _ _ all_rows (all_of (at_row (raw_pack P d i) (raw_pack P d' i) e) all_rows)) S.posts packs)

  line : (q : ℕ) → deal_seen P d (λ k. secret) q ≡ deal_seen P d' (λ k. wanted) q
  unfolding deal_seen
  line =
      at_row (λ q. text (Line.deal q (dealt_number P d (λ k. secret) q))) (λ q. text (Line.deal q (dealt_number P d' (λ k. wanted) q)))
      (ap (λ (c : ℕ). text (Line.deal S.r c)) number)

  deals : map (deal_seen P d (λ q. secret)) all_rows ≡ map (deal_seen P d' (λ q. wanted)) all_rows
  deals = map_same (deal_seen P d (λ q. secret)) (deal_seen P d' (λ q. wanted)) all_rows (all_of line all_rows)

  -- no listed post is the dealer
  none_seen : (v : Secrets) (e : Draw) (q : ℕ) → polynomial_seen P S.posts e v q ≡ []
  unfolding polynomial_seen
  none_seen v e q = go (eqb q S.r)
    where
      shown : Raw → List ℕ
      shown k = elim k [ none ↦ [] | by dealer ↦ cond (member dealer S.posts) (drawn_f s (raw_draw e q)) [] ]

      go : (b : Bool) → shown (cond b (by S.dealer) none) ≡ []
      go true = ap (λ (m : Bool). cond m (drawn_f s (raw_draw e q)) []) h.dealer
      go false = refl

  polynomials : map (polynomial_seen P S.posts d (λ q. secret)) all_rows ≡ map (polynomial_seen P S.posts d' (λ q. wanted)) all_rows
  polynomials =
      map_same _ _ all_rows (all_of (λ q. none_seen (λ q. secret) d q ∙ sym (none_seen (λ q. wanted) d' q)) all_rows)

  same_points : d.points ≡ d'.points
  unfolding d d' draw_of
  same_points = refl

  points : map (points_seen P S.posts d (λ q. secret)) S.posts ≡ map (points_seen P S.posts d' (λ q. wanted)) S.posts
  unfolding d d' draw_of points_seen
  points = refl

  triples : map (triple_seen P S.posts d (λ q. secret)) S.posts ≡ map (triple_seen P S.posts d' (λ q. wanted)) S.posts
  unfolding triple_seen
  triples = refl

  own_packs : All (λ i. (1 ≤ i) × (i ≤ S.n) × (raw_pack P d i S.r ≡ raw_pack P d' i S.r)) S.posts
  own_packs = all_zip (λ i b e. (b.0, b.1, e)) S.posts g.posts_in packs

  all_same : record_of S other wanted ≡ record_of S draw secret
  unfolding seen d d'
  all_same =
      let entries = entries_same P S.posts d d' (λ q. secret) (λ q. wanted) S.r (line S.r) number alike own_packs same_points S.todo S.rows _ _ in
      sym
      (λ j. record {
        points = points j;
        raws = raws j;
        triples = triples j;
        polynomials = polynomials j;
        deals = deals j;
        entries = entries j;
      })

  pub few_shows : Behind S draw secret wanted (moved (shape_in S) S.posts (points_of S.points S.ws S.posts) (difference wanted secret) draw)
  unfolding d d' other
  few_shows = record { is_draw = d'_is; same = all_same }
