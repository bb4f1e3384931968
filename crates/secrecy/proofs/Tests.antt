-- The test of a draw is right: it passes exactly where the draw shows the record.
use Prim.Native.Nat.{ℕ}
use mathlib.Core.Path.{◌≡◌, refl, ap₂, subst}
use mathlib.Core.Bool.{Bool, true, false, ◌&&◌, false≢true, and_assoc}
use mathlib.Core.List.{List, [], ◌∷◌}
use borrow.Author.Tests.{eq-eqb, eqb-true}
use lib.Dec.{eqb}
use Rattle.runs.specs.Draws.{Plan, Draw}
use Rattle.secrecy.specs.Steps.{Secrets, Item}
use Rattle.secrecy.specs.Seen.{Entry, Seen, seen}
use Rattle.secrecy.specs.Count.{same_list, same_numbers, same_lines, same_entry, same_seen, shows}

-- A test of equality: it passes at equal things only, and at each with itself.
pub record Right {A : Type 0} (same : A → A → Bool) : Type 0 where
  pub equal : (x y : A) → same x y ≡ true → x ≡ y
  pub self : (x : A) → same x x ≡ true

-- the first of two tests, and what is left to pass
pub split : {A : Type 0} {same : A → A → Bool} → Right same → (x y : A) (b : Bool) → (same x y && b) ≡ true
    → (x ≡ y) × (b ≡ true)
split {A} {same} right x y b e = go (same x y) refl e
  where
    go : (a : Bool) → same x y ≡ a → (a && b) ≡ true → (x ≡ y) × (b ≡ true)
    go true q e' = (right.equal x y q, e')
    go false q e' = absurd (false≢true e')

pub both_true : {a b : Bool} → a ≡ true → b ≡ true → (a && b) ≡ true
both_true e q = ap₂ ◌&&◌ e q

pub numbers_right : Right eqb
numbers_right = record { equal = λ x y e. eqb-true x y e; self = λ x. eq-eqb x x refl }

module _ {A : Type 0} (same : A → A → Bool) (right : Right same) where
  list_equal : (xs ys : List A) → same_list same xs ys ≡ true → xs ≡ ys
  unfolding same_list
  list_equal [] [] e = refl
  list_equal [] (y ∷ ys) e = absurd (false≢true e)
  list_equal (x ∷ xs) [] e = absurd (false≢true e)
  list_equal (x ∷ xs) (y ∷ ys) e = let (q, rest) = split right x y _ e in ap₂ ◌∷◌ q (list_equal xs ys rest)

  list_self : (xs : List A) → same_list same xs xs ≡ true
  unfolding same_list
  list_self [] = refl
  list_self (x ∷ xs) = both_true (right.self x) (list_self xs)

  pub list_right : Right (same_list same)
  list_right = record { equal = list_equal; self = list_self }

pub numbers_lists_right : Right same_numbers
numbers_lists_right = list_right eqb numbers_right

pub lines_right : Right same_lines
lines_right = list_right same_numbers numbers_lists_right

pub lines_lists_right : Right (same_list same_lines)
lines_lists_right = list_right same_lines lines_right

-- entries and records, part by part
entry_equal : (x y : Entry) → same_entry x y ≡ true → x ≡ y
unfolding same_entry
entry_equal x y e =
    let (refusals, e₁) = split numbers_lists_right x.refusals y.refusals _ (simp and_assoc at e) in
    let (values, e₂) = split numbers_lists_right x.values y.values _ e₁ in
    let (lines, e₃) = split lines_right x.lines y.lines _ e₂ in
    let rows = lines_right.equal x.rows y.rows e₃ in
    λ i. record { refusals = refusals i; values = values i; lines = lines i; rows = rows i }

entry_self : (x : Entry) → same_entry x x ≡ true
unfolding same_entry
entry_self x =
    simp and_assoc
    (both_true (numbers_lists_right.self x.refusals)
    (both_true (numbers_lists_right.self x.values)
    (both_true (lines_right.self x.lines) (lines_right.self x.rows))))

pub entry_right : Right same_entry
entry_right = record { equal = entry_equal; self = entry_self }

pub entries_right : Right (same_list same_entry)
entries_right = list_right same_entry entry_right

seen_equal : (x y : Seen) → same_seen x y ≡ true → x ≡ y
unfolding same_seen
seen_equal x y e =
    let (points, e₁) = split lines_right x.points y.points _ (simp and_assoc at e) in
    let (raws, e₂) = split lines_lists_right x.raws y.raws _ e₁ in
    let (triples, e₃) = split lines_lists_right x.triples y.triples _ e₂ in
    let (polynomials, e₄) = split lines_right x.polynomials y.polynomials _ e₃ in
    let (deals, e₅) = split lines_right x.deals y.deals _ e₄ in
    let entries = entries_right.equal x.entries y.entries e₅ in
    λ i. record {
      points = points i;
      raws = raws i;
      triples = triples i;
      polynomials = polynomials i;
      deals = deals i;
      entries = entries i;
    }

seen_self : (x : Seen) → same_seen x x ≡ true
unfolding same_seen
seen_self x =
    simp and_assoc
    (both_true (lines_right.self x.points)
    (both_true (lines_lists_right.self x.raws)
    (both_true (lines_lists_right.self x.triples)
    (both_true (lines_right.self x.polynomials)
    (both_true (lines_right.self x.deals) (entries_right.self x.entries))))))

pub seen_right : Right same_seen
seen_right = record { equal = seen_equal; self = seen_self }

module _ (plan : Plan) (group : List ℕ) (rows : ℕ → List ℕ) (cs : List Item) (u : Secrets) (R : Seen) (d : Draw) where
  -- where the test passes, the draw's record is R; and back
  pub same_of_shows : shows plan group rows cs u R d ≡ true → seen plan group d u rows cs ≡ R
  unfolding shows
  same_of_shows e = seen_right.equal (seen plan group d u rows cs) R e

  pub shows_of_same : seen plan group d u rows cs ≡ R → shows plan group rows cs u R d ≡ true
  unfolding shows
  shows_of_same e = subst (λ (S : Seen). same_seen (seen plan group d u rows cs) S ≡ true) e (seen_right.self _)
