-- The walk over the fields of a line, one after the other; and what stands behind them.
use Prim.Native.Nat.{ℕ, suc, ◌+◌, ◌-◌, ◌≤◌, ◌<◌}
use mathlib.Core.Path.{◌≡◌, refl, ap, sym, ◌∙◌}
use mathlib.Core.List.{List}
use mathlib.Core.Bool.{Bool, true, false, ◌&&◌, cond}
use native.Mathlib.Omega.{arith}
use borrow.Author.Tests.{ne_eqb}
use lib.ListN.{length, get_or, get_or-eq_default}
use lib.Dec.{eqb, ltb}
use Rattle.std.specs.Prelude.{Option, Some, None}
use Rattle.decimal.specs.declared.Field.{Field}
use Rattle.decimal.specs.Numeral.{field_at}
use Rattle.csv_fields.specs.declared.Run.{Run}
use Rattle.csv_fields.specs.declared.Reader.{Reader}
use Rattle.csv_fields.specs.Walk.{comma_field_of, place_behind, step_from, end_of}
use Rattle.csv_fields.specs.Fields.{Parsed, parsed, malformed, push, behind, fields_at, ended, largest_from, run, run_from, run_of}

-- ---- the field at a position
module _ (s : List ℕ) (at : ℕ) where
  pub comma_short : length s ≤ at → None ≡ comma_field_of s at
  comma_short h = rw (get_or-eq_default s 0 h)

  pub comma_none : (get_or s at 0 ≡ 44 → ⊥) → None ≡ comma_field_of s at
  comma_none h = rw (ne_eqb (get_or s at 0) 44 h)

-- ---- one field more: what is known so far with what the rest says is what the whole says
push_run : (m x : ℕ) (o : Parsed) → run_from m (push x o) ≡ run_from (cond (ltb m x) x m) o
push_run m x (parsed xs next) = refl
push_run m x malformed = refl

-- the fields from a position, by the first of them
pub fields_more : (s : List ℕ) (at n : ℕ) → fields_at (suc n) s at ≡ behind (comma_field_of s at) (λ x next. push x (fields_at n s next))
unfolding fields_at
fields_more s at n = by_comma (eqb (get_or s at 0) 44)
  where
    by_comma : (t : Bool) → cond t (behind (field_at s (at + 1)) (λ x next. push x (fields_at n s next))) malformed
        ≡ behind (cond t (field_at s (at + 1)) None) (λ x next. push x (fields_at n s next))
    by_comma true = refl
    by_comma false = refl

pub passed_more : (s : List ℕ) (at n m : ℕ) (f : Field) → comma_field_of s at ≡ Some f
    → run_from m (fields_at (suc n) s at) ≡ run_from (cond (ltb m f.value) f.value m) (fields_at n s f.next)
passed_more s at n m f e = rw (fields_more s at n, e) (push_run m f.value (fields_at n s f.next))

pub passed_none : (s : List ℕ) (at n : ℕ) → comma_field_of s at ≡ None → fields_at (suc n) s at ≡ malformed
passed_none s at n e = rw (fields_more s at n, e)

-- one turn: a reader r over the line s has read its next field o, and is moved on
module _ (s : List ℕ) (r v : Reader) (o : Option Field) (same : r.line.now ≡ s) (e : o ≡ (step_from r).field) (q : v ≡ (step_from r).reader) where
  pub step_line : v.line.now ≡ s
  step_line = rw q same

  pub step_field : o ≡ comma_field_of s r.at
  step_field = rw (e, same)

  module _ (t k m : ℕ) (h : t < k) where
    pub step_left : k - t ≡ suc (k - (t + 1))
    step_left = omega arith

    pub step_none : o ≡ None → fields_at (k - t) s r.at ≡ malformed
    step_none w = rw step_left (passed_none s r.at (k - (t + 1)) (sym step_field ∙ w))

    pub step_at : (f : Field) → o ≡ Some f → v.at ≡ f.next
    step_at f w = rw q (ap (λ (u : Option Field). place_behind u r.at) (sym e ∙ w))

    pub step_more : (f : Field) (x : ℕ) → o ≡ Some f → x ≡ cond (ltb m f.value) f.value m
        → run_from x (fields_at (k - (t + 1)) s v.at) ≡ run_from m (fields_at (k - t) s r.at)
    step_more f x w p =
        rw (step_left, p, step_at f w) (sym (passed_more s r.at (k - (t + 1)) m f (sym step_field ∙ w)))

-- ---- what stands behind the fields
module _ (s : List ℕ) (o : Parsed) where
  pub end_broken : None ≡ run_of o → None ≡ run_of (ended s o)
  end_broken w = go o w
    where
      go : (o : Parsed) → None ≡ run_of o → None ≡ run_of (ended s o)
      go malformed q = refl
      go (parsed xs next) q = let z : ◌≡◌ {A = ℕ} 0 1 = cc in absurd (omega arith)

  pub end_there : (r : Run) → Some r ≡ run_of o → end_of s r.next r.largest ≡ run_of (ended s o)
  end_there r w = go o w
    where
      last : (xs : List ℕ) (next : ℕ) (t : Bool) → cond t (run (largest_from 0 xs) next) None ≡ run_of (cond t (parsed xs next) malformed)
      last xs next true = refl
      last xs next false = refl

      go : (o : Parsed) → Some r ≡ run_of o → end_of s r.next r.largest ≡ run_of (ended s o)
      go malformed q = let z : ◌≡◌ {A = ℕ} 0 1 = cc in absurd (omega arith)
      go (parsed xs then) q =
          let h : r ≡ record { largest = largest_from 0 xs; next = then } = cc in
          rw h (last xs then (eqb (get_or s then 0) 10 && eqb (length s) (then + 1)))
