-- The numbers of a line: each way in which reading them ends.
use Prim.Native.Nat.{ℕ, ◌+◌, ◌≤◌, ◌<◌}
use mathlib.Core.Path.{◌≡◌, refl, ap, sym, ◌∙◌}
use mathlib.Core.List.{List, [], ◌∷◌}
use mathlib.Core.Bool.{Bool, true, false}
use native.Mathlib.Numerals.{add-one}
use native.Mathlib.Omega.{arith}
use borrow.Author.Tests.{lt-ltb, le-ltb}
use lib.ListN.{length, get_or, drop, drop_of_length-le}
use lib.Seq.{drop-cons}
use Rattle.field.specs.Modulus.{p}
use Rattle.refusal.specs.Refusal.{◌when◌, first}
use Rattle.refusal.specs.Conditions.{beyond, any_beyond}
use Rattle.std.specs.Prelude.{Option, Some, None}
use Rattle.csv_fields.specs.declared.Run.{Run}
use Rattle.csv_fields.specs.Fields.{Parsed, parsed, malformed, fields_at, ended, numbers_of_of, largest_from, run_of, Fillable}
use Rattle.csv_fields.specs.Walk.{Roomed}
use Rattle.csv_fields.proofs.Single.{largest_narrow}
use Rattle.csv_fields.proofs.Rooming.{roomed_fill}
use Rattle.forms.specs.Forms.{is_malformed}
use Rattle.forms.proofs.Ranges.{largest_any}
use Rattle.street_reading.specs.Numbers.{number_form, numbers, rows_beyond, elements_refusal, read_refusal}
use Rattle.street_reading.specs.Between.{Taken}
use Rattle.street_reading.proofs.Starts.{ended_broken, same_run, no_run, same_some}

record Found (o : Parsed) (largest : ℕ) : Type 0 where
  numbers : List ℕ
  next : ℕ
  all : o ≡ parsed numbers next
  largest_is : largest ≡ largest_from 0 numbers

found : (o : Parsed) (r : Run) → run_of o ≡ Some r → Found o r.largest
found malformed r e = no_run r e
found (parsed xs n) r e = record { numbers = xs; next = n; all = refl; largest_is = ap (λ (x : Run). x.largest) (same_some r _ (sym e)) }

-- ---- the elements
module _ (s out : List ℕ) (r : Option Run) (e : r ≡ run_of (ended s (fields_at (length out) s 1))) where
  abbrev k : ℕ
  k = length out

  abbrev rest : Parsed
  rest = ended s (fields_at k s 1)

  pub elements_broken : r ≡ None → 10 ≡ elements_refusal k s
  unfolding elements_refusal number_form
  elements_broken w = rw (ended_broken rest (sym e ∙ w))

  module _ (a : Run) (w : r ≡ Some a) where
    there : Found rest a.largest
    there = found rest a (sym e ∙ w)

    refusal_is : elements_refusal k s ≡ first (11 when beyond a.largest ∷ [])
    unfolding elements_refusal number_form
    refusal_is = rw there.all (ap (λ (b : Bool). first (11 when b ∷ [])) (largest_any 0 there.numbers ∙ ap beyond (sym there.largest_is)))

    pub element_beyond : p ≤ a.largest → 11 ≡ elements_refusal k s
    element_beyond g = sym (refusal_is ∙ rw (le-ltb a.largest p g))

    module _ (g : a.largest < p) where
      pub elements_fine : 0 ≡ elements_refusal k s
      elements_fine = sym (refusal_is ∙ rw (lt-ltb a.largest p g))

      same : rest ≡ fields_at k s 1
      same = same_run s (fields_at k s 1) a (sym e ∙ w)

      elements_fillable : Fillable (fields_at k s 1)
      elements_fillable =
          rw (← same, there.all) (largest_narrow 0 there.numbers (omega (arith, there.largest_is)))

      numbers_same : numbers_of_of (fields_at k s 1) ≡ numbers k s
      unfolding number_form
      numbers_same = ap numbers_of_of (sym same)

      pub elements_taken : (l : List ℕ) → Roomed (fields_at k s 1) l → Taken 0 k s l
      elements_taken l q = record { numbers_are = λ z. roomed_fill (fields_at k s 1) l q elements_fillable ∙ numbers_same }

-- of a refused line nothing is said
pub taken_ten : (k : ℕ) (s l : List ℕ) → Taken 10 k s l
taken_ten k s l = record { numbers_are = λ z. absurd (omega (arith, z)) }

pub taken_eleven : (k : ℕ) (s l : List ℕ) → Taken 11 k s l
taken_eleven k s l = record { numbers_are = λ z. absurd (omega (arith, z)) }

-- ---- the rows
-- the first i rows are within their bounds
pub record Passed (lasts xs : List ℕ) (i : ℕ) : Type 0 where
  pub says : rows_beyond (drop i lasts) (drop i xs) ≡ rows_beyond lasts xs

pub bounds_start : (lasts xs : List ℕ) → Passed lasts xs 0
bounds_start lasts xs = record { says = refl }

module _ (lasts xs : List ℕ) (i : ℕ) (inv : Passed lasts xs i) where
  pub bounds_end : length lasts ≤ i → 0 ≡ first (11 when rows_beyond lasts xs ∷ [])
  unfolding rows_beyond
  bounds_end h = let q : false ≡ rows_beyond lasts xs = rw (drop_of_length-le lasts h) at inv.says in rw (← q)

  module _ (h : i < length lasts) (g : length lasts ≤ length xs) where
    pub bounds_in : i < length xs
    bounds_in = omega arith

    pub bounds_beyond : get_or lasts i 0 < get_or xs i 0 → 11 ≡ first (11 when rows_beyond lasts xs ∷ [])
    unfolding rows_beyond
    bounds_beyond l =
        let q : true ≡ rows_beyond lasts xs =
        rw (drop-cons lasts i 0 h, drop-cons xs i 0 bounds_in, lt-ltb (get_or lasts i 0) (get_or xs i 0) l) at inv.says in
        rw (← q)

    pub bounds_more : get_or xs i 0 ≤ get_or lasts i 0 → Passed lasts xs (i + 1)
    unfolding rows_beyond
    bounds_more l =
        record {
          says =
              rw (add-one i)
              (rw (drop-cons lasts i 0 h, drop-cons xs i 0 bounds_in, le-ltb (get_or lasts i 0) (get_or xs i 0) l) at inv.says);
        }

-- ---- both
module _ (lasts s out : List ℕ) (r : ℕ) (e : r ≡ elements_refusal (length out) s) where
  joined : (a b c : Bool) (x y : ℕ) → x ≡ first (10 when a ∷ 11 when b ∷ []) → (x ≡ 0 → ⊥) → x ≡ first (10 when a ∷ 11 when b ∷ 11 when c ∷ [])
  joined true b c x y q n = q
  joined false true c x y q n = q
  joined false false c x y q n = absurd (n q)

  clear_of : (a b c : Bool) (x y : ℕ) → x ≡ first (10 when a ∷ 11 when b ∷ []) → x ≡ 0 → y ≡ first (11 when c ∷ [])
      → y ≡ first (10 when a ∷ 11 when b ∷ 11 when c ∷ [])
  clear_of true b c x y q z f = let w : ◌≡◌ {A = ℕ} 10 0 = sym q ∙ z in absurd (omega arith)
  clear_of false true c x y q z f = let w : ◌≡◌ {A = ℕ} 11 0 = sym q ∙ z in absurd (omega arith)
  clear_of false false c x y q z f = f

  pub read_refused : (r ≡ 0 → ⊥) → r ≡ read_refusal lasts (length out) s
  unfolding elements_refusal read_refusal
  read_refused n = joined (is_malformed (number_form (length out) s)) (any_beyond (numbers (length out) s)) (rows_beyond lasts (numbers (length out) s)) r 0 e n

  read_clear : (v : ℕ) → r ≡ 0 → v ≡ first (11 when rows_beyond lasts (numbers (length out) s) ∷ []) → v ≡ read_refusal lasts (length out) s
  unfolding elements_refusal read_refusal
  read_clear v z f =
      clear_of (is_malformed (number_form (length out) s)) (any_beyond (numbers (length out) s)) (rows_beyond lasts (numbers (length out) s)) r v e z f

  module _ (out' : List ℕ) (v : ℕ) (z : r ≡ 0) (q : Taken r (length out) s out') where
    pub read_bounded : v ≡ first (11 when rows_beyond lasts out' ∷ []) → v ≡ read_refusal lasts (length out) s
    read_bounded f = read_clear v z (rw (q.numbers_are z) at f)

    pub read_taken : Taken v (length out) s out'
    read_taken = record { numbers_are = λ _. q.numbers_are z }
