-- What the record of one row tells: the listed posts' packs of it, and the dealer's number.
use Prim.Native.Nat.{ℕ, zero, suc, ◌+◌, ◌-◌, ◌≤◌, ◌<◌}
use mathlib.Core.Path.{◌≡◌, refl, sym, ◌∙◌, ap, ap₂, subst}
use mathlib.Core.Bool.{Bool, false, cond, ◌||◌}
use mathlib.Core.List.{List, [], map}
use native.Mathlib.Omega.{arith}
use borrow.Author.Tests.{eq-eqb, le-ltb}
use lib.Dec.{eqb}
use lib.ListN.{get_or}
use Rattle.field.specs.Modulus.{p}
use Rattle.field.specs.Arithmetic.{difference}
use Rattle.field.proofs.Modular.{difference_below}
use Rattle.poly.specs.Counting.{All}
use Rattle.poly.specs.Polynomial.{value}
use Rattle.poly.proofs.Lists.{all_map, map_equal}
use Rattle.shape.specs.declared.Points.{Points}
use Rattle.packs.specs.Packs.{points_at_of}
use Rattle.shape.specs.Bounds.{row_count_of, last_row_at}
use Rattle.shape.specs.Lengths.{shape}
use Rattle.refusal.specs.Conditions.{any_beyond}
use Rattle.refusal.proofs.Elements.{element_test}
use Rattle.factory.specs.Calls.{dealer_number_of}
use Rattle.decimal.specs.Numeral.{tens}
use Rattle.forms.specs.Lines as Line
use Rattle.forms.specs.Lines.{text, Message}
use Rattle.forms.specs.Forms.{Sent}
use Rattle.forms.proofs.RoundTrip.{one_message}
use Rattle.parts.specs.Draw.{each_from, part}
use Rattle.runs.specs.Draws.{Raw, none, by, when_raw, Draw, point_of, raw_draw, raw_pack}
use Rattle.runs.proofs.Numbers.{dealer_number_lem}
use Rattle.secrecy.specs.Steps.{dealt_number}
use Rattle.secrecy.specs.Seen.{Seen, all_rows, raw_seen, deal_seen, seen}
use Rattle.otherdraw_law.specs.OneRow.{draw_of, Setting, plan_in, Behind}

-- ---- one row of a list of rows

each_at : (f : ℕ → List ℕ) (j m k : ℕ) → k < m → get_or (map f (each_from j m (λ x. x))) k [] ≡ f (j + k)
unfolding each_from
each_at f j zero k h = absurd (omega arith)
each_at f j (suc m) zero h = ap f (omega arith)
each_at f j (suc m) (suc k) h = each_at f (suc j) m k (omega arith) ∙ ap f (omega arith)

pub row_of_lem : (f : ℕ → List ℕ) (r : ℕ) → r ≤ last_row_at → get_or (map f all_rows) r [] ≡ f r
unfolding all_rows
row_of_lem f r h = each_at f 0 row_count_of r (omega arith) ∙ ap f (omega arith)

pub rows_equal : (f g : ℕ → List ℕ) (r : ℕ) → r ≤ last_row_at → map f all_rows ≡ map g all_rows → f r ≡ g r
rows_equal f g r h e = sym (row_of_lem f r h) ∙ ap (λ (l : List (List ℕ)). get_or l r []) e ∙ row_of_lem g r h

pub drawn_row : (r : ℕ) (points draw : List ℕ) → r ≤ last_row_at → raw_draw (draw_of r points draw) r ≡ draw
unfolding raw_draw draw_of
drawn_row r points draw h = row_of_lem (λ q. cond (eqb q r) draw []) r h ∙ ap (λ (b : Bool). cond b draw []) (eq-eqb r r refl)

-- ---- the D line

dealt_sent : (n k r c : ℕ) → r ≤ last_row_at → c < p → Sent n k (Line.deal r c)
unfolding any_beyond
dealt_sent n k r c row low =
    record { letter_is = refl; count = refl; no_post = λ e. refl; in_range = ap₂ ◌||◌ (le-ltb last_row_at r row) (ap (λ (b : Bool). b || false) (element_test c low)) }

same_number : (n r c c' : ℕ) → n < tens 10 → r ≤ last_row_at → c < p → c' < p → text (Line.deal r c) ≡ text (Line.deal r c') → c ≡ c'
same_number n r c c' small row low low' e =
    ap (λ (m : Message). get_or m.numbers 0 0) (one_message n 1 (Line.deal r c) (Line.deal r c') small (dealt_sent n 1 r c row low) (dealt_sent n 1 r c' row low') e)

-- ---- a record

module _ (S : Setting) (row : S.r ≤ last_row_at) where
  pub raw_there : (plan_in S).raw S.r ≡ by S.dealer
  raw_there = ap (λ (b : Bool). cond b (by S.dealer) none) (eq-eqb S.r S.r refl)

  abbrev Lent : List ℕ → Draw
  Lent draw = draw_of S.r S.ws draw

  -- post i's check points
  abbrev pub point_in : ℕ → Points
  point_in i = points_at_of S.points S.ws (i - 1)

  pub pack_is : (draw : List ℕ) (i : ℕ) → raw_pack (plan_in S) (draw_of S.r S.ws draw) i S.r ≡ part (shape S.n S.t S.points) i (points_at_of S.points S.ws (i - 1)) draw
  unfolding raw_pack point_of draw_of
  pack_is draw i = ap (part (shape S.n S.t S.points) i (point_in i)) (drawn_row S.r S.ws draw row)

  pub number_is : (draw : List ℕ) (u : ℕ) → u < p → get_or draw 0 0 < p
      → dealt_number (plan_in S) (draw_of S.r S.ws draw) (λ q. u) S.r ≡ difference u (get_or draw 0 0)
  unfolding dealt_number
  number_is draw u low flow =
      ap (λ (k : Raw). when_raw k (dealer_number_of u (get_or (raw_draw (Lent draw) S.r) 0 0)).value 0) raw_there
      ∙ ap (λ (d : List ℕ). (dealer_number_of u (get_or d 0 0)).value) (drawn_row S.r S.ws draw row) ∙ dealer_number_lem u (get_or draw 0 0) low flow

  module _ (draw other : List ℕ) (secret wanted : ℕ) (b : Behind S draw secret wanted other) where
    pub packs_same : All (λ i. part (shape S.n S.t S.points) i (points_at_of S.points S.ws (i - 1)) other ≡ part (shape S.n S.t S.points) i (points_at_of S.points S.ws (i - 1)) draw) S.posts
    unfolding seen raw_seen
    packs_same =
        all_map
        (λ i e.
        let at_row : when_raw ((plan_in S).raw S.r) (raw_pack (plan_in S) (Lent other) i S.r) [] ≡ when_raw ((plan_in S).raw S.r) (raw_pack (plan_in S) (Lent draw) i S.r) [] =
        rows_equal (λ q. when_raw ((plan_in S).raw q) (raw_pack (plan_in S) (Lent other) i q) []) (λ q. when_raw ((plan_in S).raw q) (raw_pack (plan_in S) (Lent draw) i q) []) S.r row e in
        let there = subst (λ (k : Raw). when_raw k (raw_pack (plan_in S) (Lent other) i S.r) [] ≡ when_raw k (raw_pack (plan_in S) (Lent draw) i S.r) []) raw_there at_row in
        sym (pack_is other i) ∙ there ∙ pack_is draw i)
        S.posts
        (map_equal (raw_seen (plan_in S) S.posts (Lent other) (λ q. wanted)) (raw_seen (plan_in S) S.posts (Lent draw) (λ q. secret)) S.posts
        (ap (λ (x : Seen). x.raws) b.same))

    pub numbers_same : S.n < tens 10 → secret < p → wanted < p → get_or draw 0 0 < p → get_or other 0 0 < p
        → difference wanted (get_or other 0 0) ≡ difference secret (get_or draw 0 0)
    unfolding seen deal_seen
    numbers_same small low low' flow flow' =
        let at_row : when_raw ((plan_in S).raw S.r) (text (Line.deal S.r (dealt_number (plan_in S) (Lent other) (λ q. wanted) S.r))) []
        ≡ when_raw ((plan_in S).raw S.r) (text (Line.deal S.r (dealt_number (plan_in S) (Lent draw) (λ q. secret) S.r))) [] =
        rows_equal (λ q. when_raw ((plan_in S).raw q) (text (Line.deal q (dealt_number (plan_in S) (Lent other) (λ q. wanted) q))) [])
        (λ q. when_raw ((plan_in S).raw q) (text (Line.deal q (dealt_number (plan_in S) (Lent draw) (λ q. secret) q))) []) S.r row (ap (λ (x : Seen). x.deals) b.same) in
        let there = subst (λ (k : Raw). when_raw k (text (Line.deal S.r (dealt_number (plan_in S) (Lent other) (λ q. wanted) S.r))) []
        ≡ when_raw k (text (Line.deal S.r (dealt_number (plan_in S) (Lent draw) (λ q. secret) S.r))) []) raw_there at_row in
        let one = number_is other wanted low' flow' in
        let two = number_is draw secret low flow in
        same_number S.n S.r _ _ small row (difference_below wanted (get_or other 0 0)) (difference_below secret (get_or draw 0 0))
        (ap (λ (c : ℕ). text (Line.deal S.r c)) (sym one) ∙ there ∙ ap (λ (c : ℕ). text (Line.deal S.r c)) two)
