-- The kinds of rows: the tests of one row, the search among all rows, and how much is drawn for them.
use Prim.Native.Nat.{ℕ, suc, ◌+◌, ◌*◌, ◌≤◌, ◌<◌}
use mathlib.Core.Path.{◌≡◌, refl, sym, ◌∙◌, ap, subst}
use mathlib.Core.Bool.{Bool, true, false, not, ◌||◌, ◌&&◌, cond}
use mathlib.Core.List.{List, [], ◌∷◌}
use native.Mathlib.Numerals.{add-one}
use native.Mathlib.Nat.{suc-mul}
use native.Mathlib.Omega.{arith}
use mir.Syntax.{w64}
use mir.Val.{Fits}
use lib.Dec.{eqb}
use lib.ListN.{length, take, drop, get_or, drop_of_length-le}
use lib.Seq.{drop-cons}
use Rattle.std.specs.Prelude.{Result, Ok, Err}
use Rattle.std.specs.List.{list_any}
use Rattle.shape.specs.declared.Shape.{Shape}
use Rattle.shape.specs.Bounds.{most_posts, longest_row, row_count_of}
use Rattle.shape.specs.Lengths.{Valid, v_length, draw_length, triple_draw_length}
use Rattle.shape.specs.Marks.{empty, raw, unused}
use Rattle.shape.proofs.Small.{each_small}
use Rattle.refusal.specs.Refusal.{◌when◌, first}
use Rattle.refusal.specs.declared.Refusal.{Refusal}
use Rattle.refusal.specs.declared.Refusal.TheVariants.{NotAnElement}
use Rattle.refusal.specs.Numbers.{number}
use Rattle.kinds.specs.declared.Kind.{Kind}
use Rattle.kinds.specs.declared.Kind.TheVariants.{Empty, Raw, Triple}
use Rattle.kinds.specs.Kinds.{kind_of, drawn_for_of, draws_length, any_row, crowded, unknown}

-- ---- what a byte names

module _ {A : Type 0} (u v w : A) where
  abbrev by_kind : Result Kind Refusal → A
  by_kind (Ok Empty) = w
  by_kind (Ok Raw) = u
  by_kind (Ok Triple) = v
  by_kind (Err r) = w

  by_byte : (k : ℕ) → cond (eqb k raw) u (cond (eqb k unused) v w) ≡ by_kind (kind_of k)
  by_byte k = go (eqb k raw) (eqb k unused) (eqb k empty)
    where
      go : (a b c : Bool) → cond a u (cond b v w) ≡ by_kind (cond a (Ok Raw) (cond b (Ok Triple) (cond c (Ok Empty) (Err NotAnElement))))
      go true b c = refl
      go false true c = refl
      go false false true = refl
      go false false false = refl

  module _ (k : ℕ) (x : Result Kind Refusal) (e : x ≡ kind_of k) where
    named : cond (eqb k raw) u (cond (eqb k unused) v w) ≡ by_kind x
    named = by_byte k ∙ ap by_kind (sym e)

    pub of_raw : (d : Kind) → x ≡ Ok d → d ≡ Raw → cond (eqb k raw) u (cond (eqb k unused) v w) ≡ u
    of_raw d f g = named ∙ ap by_kind (f ∙ ap Ok g)

    pub of_triple : (d : Kind) → x ≡ Ok d → d ≡ Triple → cond (eqb k raw) u (cond (eqb k unused) v w) ≡ v
    of_triple d f g = named ∙ ap by_kind (f ∙ ap Ok g)

    pub of_empty : x ≡ Ok Empty → cond (eqb k raw) u (cond (eqb k unused) v w) ≡ w
    of_empty f = named ∙ ap by_kind f

    pub of_none : (r : Refusal) → x ≡ Err r → cond (eqb k raw) u (cond (eqb k unused) v w) ≡ w
    of_none r f = named ∙ ap by_kind f

-- the two rows that a triple covers
pub crowded_is : (row k : ℕ) (ks : List ℕ) → (eqb k unused && list_any (λ k. not (eqb k empty)) (take 2 ks)) ≡ crowded row k ks
unfolding crowded
crowded_is row k [] = refl
crowded_is row k (x ∷ []) = refl
crowded_is row k (x ∷ y ∷ ks) = ap (λ (b : Bool). eqb k unused && (not (eqb x empty) || b)) (alone (not (eqb y empty)))
  where
    alone : (b : Bool) → b || false ≡ b
    alone true = refl
    alone false = refl

-- an unknown kind, which gets 8
module _ (row k : ℕ) (ks : List ℕ) (x : Result Kind Refusal) (e : x ≡ kind_of k) where
  abbrev refused_is : Result Kind Refusal → Bool → Type 0
  refused_is (Ok d) b = b ≡ false
  refused_is (Err r) b = (number r ≡ 8) × (b ≡ true)

  told : refused_is x (unknown row k ks)
  unfolding unknown
  told = subst (λ (y : Result Kind Refusal). refused_is y (unknown row k ks)) (sym e) (go (eqb k raw) (eqb k unused) (eqb k empty))
    where
      go : (a b c : Bool) → refused_is (cond a (Ok Raw) (cond b (Ok Triple) (cond c (Ok Empty) (Err NotAnElement)))) (not c && (not a && not b))
      go true b true = refl
      go true b false = refl
      go false true true = refl
      go false true false = refl
      go false false true = refl
      go false false false = (refl, refl)

  pub known : (d : Kind) → x ≡ Ok d → unknown row k ks ≡ false
  known d f = subst (λ (y : Result Kind Refusal). refused_is y (unknown row k ks)) f told

  pub unknown_is : (r : Refusal) → x ≡ Err r → (number r ≡ 8) × (unknown row k ks ≡ true)
  unknown_is r f = subst (λ (y : Result Kind Refusal). refused_is y (unknown row k ks)) f told

-- ---- the search: the answer for the rows from i on is the answer for all
module _ (test : ℕ → ℕ → List ℕ → Bool) (l : List ℕ) (i : ℕ) (all : Bool) (inv : any_row test i (drop i l) ≡ all) where
  pub row_found : (m : ℕ) → i < length l → test i (get_or l i 0) (drop (i + 1) l) ≡ true → m ≡ first (m when all ∷ [])
  unfolding any_row
  row_found m h t =
      let f : test i (get_or l i 0) (drop (suc i) l) ≡ true = rw (← add-one i) t in
      rw (← inv, drop-cons l i 0 h, f)

  pub row_passed : i < length l → test i (get_or l i 0) (drop (i + 1) l) ≡ false → any_row test (i + 1) (drop (i + 1) l) ≡ all
  unfolding any_row
  row_passed h t =
      let f : test i (get_or l i 0) (drop (suc i) l) ≡ false = rw (← add-one i) t in
      rw (add-one i) (rw (drop-cons l i 0 h, f) at inv)

  pub rows_ended : (m : ℕ) → length l ≤ i → 0 ≡ first (m when all ∷ [])
  unfolding any_row
  rows_ended m h = rw (← inv, drop_of_length-le l h)

-- as a kind is read
module _ (l : List ℕ) (i : ℕ) (all : Bool) (x : Result Kind Refusal) (h : i < length l) (e : x ≡ kind_of (get_or l i 0)) (inv : any_row unknown i (drop i l) ≡ all) where
  pub kind_unknown : (r : Refusal) → x ≡ Err r → number r ≡ first (8 when all ∷ [])
  kind_unknown r f =
      let (eight, t) = unknown_is i (get_or l i 0) (drop (i + 1) l) x e r f in
      eight ∙ row_found unknown l i all inv 8 h t

  pub kind_known : (d : Kind) → x ≡ Ok d → any_row unknown (i + 1) (drop (i + 1) l) ≡ all
  kind_known d f = row_passed unknown l i all inv h (known i (get_or l i 0) (drop (i + 1) l) x e d f)

-- ---- what is drawn
module _ (s : Shape) (k r : ℕ) (x : Result Kind Refusal) (e : x ≡ kind_of k) where
  pub drawn_raw_is : (d : Kind) → x ≡ Ok d → d ≡ Raw → r ≡ draw_length s → r ≡ drawn_for_of s k
  unfolding drawn_for_of
  drawn_raw_is d f g h = h ∙ sym (of_raw (draw_length s) (triple_draw_length s) 0 k x e d f g)

  pub drawn_triple_is : (d : Kind) → x ≡ Ok d → d ≡ Triple → r ≡ triple_draw_length s → r ≡ drawn_for_of s k
  unfolding drawn_for_of
  drawn_triple_is d f g h = h ∙ sym (of_triple (draw_length s) (triple_draw_length s) 0 k x e d f g)

  pub drawn_empty : x ≡ Ok Empty → 0 ≡ drawn_for_of s k
  unfolding drawn_for_of
  drawn_empty f = sym (of_empty (draw_length s) (triple_draw_length s) 0 k x e f)

  pub drawn_none : (y : Refusal) → x ≡ Err y → 0 ≡ drawn_for_of s k
  unfolding drawn_for_of
  drawn_none y f = sym (of_none (draw_length s) (triple_draw_length s) 0 k x e y f)

abbrev most_drawn : ℕ
most_drawn = 3 * (most_posts + most_posts * longest_row)

drawn_small : (s : Shape) (k : ℕ) → Valid s → drawn_for_of s k ≤ most_drawn
unfolding drawn_for_of
drawn_small s k v = go (eqb k raw) (eqb k unused)
  where
    one : draw_length s ≤ most_posts + most_posts * longest_row
    one = omega (arith, each_small s (v_length s) v (omega (arith, v.n_in, v.t_in, v.reach_in)), v.n_in, v.t_in)

    go : (a b : Bool) → cond a (draw_length s) (cond b (triple_draw_length s) 0) ≤ most_drawn
    go true b = omega (arith, one)
    go false true = omega (arith, one)
    go false false = omega arith

draws_small : (s : Shape) (ks : List ℕ) → Valid s → draws_length s ks ≤ length ks * most_drawn
unfolding draws_length
draws_small s [] v = omega arith
draws_small s (k ∷ ks) v = omega (arith, drawn_small s k v, draws_small s ks v, suc-mul (length ks) most_drawn)

-- the draws of the row at i, and of those behind it
pub draws_next : (s : Shape) (l : List ℕ) (i : ℕ) → i < length l
    → draws_length s (drop i l) ≡ drawn_for_of s (get_or l i 0) + draws_length s (drop (i + 1) l)
unfolding draws_length
draws_next s l i h = rw (add-one i, drop-cons l i 0 h)

-- so many are drawn for the first rows
pub record Tallied (s : Shape) (kinds : List ℕ) (sum row : ℕ) : Type 0 where
  pub valid : Valid s
  pub rows : length kinds ≡ row_count_of
  pub within : row ≤ length kinds
  pub says : sum + draws_length s (drop row kinds) ≡ draws_length s kinds

pub tallied_start : (s : Shape) (kinds : List ℕ) → Valid s → length kinds ≡ row_count_of → Tallied s kinds 0 0
tallied_start s kinds v e = record { valid = v; rows = e; within = omega arith; says = omega arith }

module _ (s : Shape) (kinds : List ℕ) (sum row : ℕ) (inv : Tallied s kinds sum row) (r : ℕ) (h : row < length kinds)
    (e : r ≡ drawn_for_of s (get_or kinds row 0)) where
  pub tallied_fits : Fits w64 (sum + r)
  tallied_fits =
      record { fits = omega (arith, inv.says, inv.rows, draws_next s kinds row h, draws_small s kinds inv.valid, e) }

  pub tallied_more : Tallied s kinds (sum + r) (row + 1)
  tallied_more =
      record {
        valid = inv.valid;
        rows = inv.rows;
        within = omega arith;
        says = omega (arith, inv.says, draws_next s kinds row h, e);
      }

pub tallied_end : (s : Shape) (kinds : List ℕ) (sum row : ℕ) → Tallied s kinds sum row → length kinds ≤ row → sum ≡ draws_length s kinds
unfolding draws_length
tallied_end s kinds sum row inv h = omega (arith, inv.says, ap (draws_length s) (drop_of_length-le kinds h))
