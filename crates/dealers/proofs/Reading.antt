-- A `D` line, read by its two fields.
use Prim.Native.Nat.{ℕ, zero, suc, ◌≤◌, ◌<◌}
use mathlib.Core.Path.{◌≡◌, refl, sym, ◌∙◌, ap, ap₂}
use mathlib.Core.Bool.{Bool, true, false, cond}
use mathlib.Core.List.{List, [], ◌∷◌}
use native.Mathlib.Nat.{sub-zero}
use native.Mathlib.Omega.{arith}
use borrow.Author.Tests.{lt-ltb, eq-eqb, ne_eqb}
use lib.ListN.{length, get_or}
use Rattle.refusal.specs.Refusal.{first, outcome}
use Rattle.refusal.specs.Conditions.{beyond}
use Rattle.csv_fields.specs.declared.Run.{Run}
use Rattle.csv_fields.specs.Fields.{malformed, fields_at, ended, numbers_of_of, run, run_of, padded}
use Rattle.std.specs.Prelude.{Option, None}
use Rattle.forms.specs.Lines.{Message}
use Rattle.forms.specs.Forms.{is_letter, number_count_of, form_of, message, out_of_range_of, line_tests}
use Rattle.forms.specs.Between.{Headed, below_limit}
use Rattle.forms.proofs.Scanning.{scan_no_row, scan_deal}
use Rattle.lines.specs.declared.Line.{Line}
use Rattle.lines.specs.Reading.{no_line_of, limit_of_of, line_as, list_as}
use Rattle.lines.proofs.Answers.{broken_line, beyond_line, taken_line, taken_list}
use Rattle.dealers.specs.Calls.{taken_refusal, said_row, said_number}
use Rattle.dealers.specs.Between.{Heard, said_by_of}

-- ---- what the number stays below

module _ (row limit : ℕ) where
  pub limit_fits : limit ≡ limit_of_of (out_of_range_of 2 68 row 0 (beyond 0)) → limit ≤ 4294967296
  limit_fits q = go (out_of_range_of 2 68 row 0 (beyond 0)) q
    where
      go : (t : Bool) → limit ≡ limit_of_of t → limit ≤ 4294967296
      go true e = omega arith
      go false e = omega arith

-- ---- no `D`, and the row

abbrev nothing : ℕ → Heard
nothing k = record { refusal = k; row = 0; c = 0 }

module _ (line : List ℕ) where
  pub not_deal : (get_or line 0 0 ≡ 68 → ⊥) → nothing 10 ≡ said_by_of line
  unfolding taken_refusal outcome
  not_deal n = rw (ne_eqb (get_or line 0 0) 68 n)

  pub no_line : length line < 1 → nothing 10 ≡ said_by_of line
  unfolding taken_refusal outcome
  no_line h = none line h
    where
      none : (l : List ℕ) → length l < 1 → nothing 10 ≡ said_by_of l
      none [] h = refl
      none (x ∷ l) h = absurd (omega arith)

  module _ (d : get_or line 0 0 ≡ 68) where
    taken_is : taken_refusal line ≡ first (line_tests 2 2 line)
    unfolding taken_refusal
    taken_is = rw (eq-eqb (get_or line 0 0) 68 d)

    said_as : (k : ℕ) → first (line_tests 2 2 line) ≡ k
        → outcome k (record { refusal = 0; row = said_row line; c = said_number line }) (record { refusal = k; row = 0; c = 0 }) ≡ said_by_of line
    said_as k e =
        sym (ap (λ (x : ℕ). outcome x (record { refusal = 0; row = said_row line; c = said_number line }) (record { refusal = x; row = 0; c = 0 })) (taken_is ∙ e))

    said_none : (k : ℕ) → first (line_tests 2 2 line) ≡ suc k → nothing (suc k) ≡ said_by_of line
    unfolding outcome
    said_none k e = said_as (suc k) e

    module _ (r : Option Run) (e : r ≡ run_of (fields_at 1 line 1)) where
      one_number : 1 ≡ cond (is_letter (get_or line 0 0)) (number_count_of 2 (get_or line 0 0)) 0
      one_number = rw d

      pub no_row : r ≡ None → nothing 10 ≡ said_by_of line
      no_row w =
          let f : form_of 2 line ≡ malformed = scan_no_row 2 line (omega arith) 1 one_number (omega arith) (sym w ∙ e) in
          said_none 9 (rw f)

      pub row_read : (row next : ℕ) → r ≡ run row next → Headed 2 line 68 row 0 next 1
      row_read row next w =
          let h : Headed 2 line (get_or line 0 0) row 0 next 1 = scan_deal 2 line (omega arith) 1 one_number (omega arith) (record { largest = row; next = next }) (sym w ∙ e) d in
          rw d at h

-- ---- the number

line_refusal_lem : (v : Line) (x : ℕ) (m : Message) → v ≡ line_as x m → v.refusal ≡ x
unfolding outcome
line_refusal_lem v x m e = ap (λ (y : Line). y.refusal) e ∙ go x
  where
    go : (k : ℕ) → (line_as k m).refusal ≡ k
    go zero = refl
    go (suc k) = refl

first_padded : (k : ℕ) (xs : List ℕ) → get_or (padded k xs) 0 0 ≡ get_or xs 0 0
first_padded zero [] = refl
first_padded (suc k) [] = rw (sub-zero (suc k))
first_padded k (x ∷ xs) = refl

module _ (line : List ℕ) (row at : ℕ) (h : Headed 2 line 68 row 0 at 1) (out : List ℕ) (r : Option Run) (d : r ≡ run_of (ended line (fields_at 1 line at))) where
  is_deal : get_or line 0 0 ≡ 68
  is_deal = sym h.letter_is

  pub number_broken : r ≡ None → nothing 10 ≡ said_by_of line
  number_broken u =
      let e = broken_line 2 2 line out 68 row 0 at 1 h r d u (no_line_of 10) refl in
      said_none line is_deal 9 (sym (line_refusal_lem (no_line_of 10) _ (message 2 line) e))

  module _ (largest next : ℕ) (u : r ≡ run largest next) (limit : ℕ) (l : limit ≡ limit_of_of (out_of_range_of 2 68 row 0 (beyond 0))) where
    pub number_beyond : limit ≤ largest → nothing 11 ≡ said_by_of line
    number_beyond w =
        let e = beyond_line 2 2 line out 68 row 0 at 1 h r d largest next u (out_of_range_of 2 68 row 0 (beyond 0)) refl limit l w (no_line_of 11) refl in
        said_none line is_deal 10 (sym (line_refusal_lem (no_line_of 11) _ (message 2 line) e))

    pub number_read : largest < limit → (numbers : List ℕ) → numbers ≡ cond (below_limit r limit) (numbers_of_of (fields_at 1 line at)) out
        → record { refusal = 0; row = row; c = get_or numbers 0 0 } ≡ said_by_of line
    unfolding outcome
    number_read w numbers q =
        ap₂ (λ (x y : ℕ). record { refusal = 0; row = x; c = y }) row_is number_is ∙ said_as line is_deal 0 accepts
      where
        v : Line
        v = record { refusal = 0; letter = 68; row = row; post = 0 }

        as_line : v ≡ line_as (first (line_tests 2 2 line)) (message 2 line)
        as_line = taken_line 2 2 line out 68 row 0 at 1 h r d largest next u (out_of_range_of 2 68 row 0 (beyond 0)) refl limit l w

        below : below_limit r limit ≡ true
        below = rw u (lt-ltb largest limit w)

        as_list : cond (below_limit r limit) (padded (length out) (numbers_of_of (fields_at 1 line at))) out ≡ list_as (first (line_tests 2 2 line)) (message 2 line) out
        as_list =
            taken_list 2 2 line out 68 row 0 at 1 h r d largest next u (out_of_range_of 2 68 row 0 (beyond 0)) refl limit l w _ refl

        accepts : first (line_tests 2 2 line) ≡ 0
        accepts = sym (line_refusal_lem v _ (message 2 line) as_line)

        row_is : row ≡ said_row line
        row_is = ap (λ (x : Line). x.row) (as_line ∙ ap (λ (k : ℕ). line_as k (message 2 line)) accepts)

        number_is : get_or numbers 0 0 ≡ said_number line
        number_is =
            ap (λ (x : List ℕ). get_or x 0 0) (q ∙ ap (λ (t : Bool). cond t (numbers_of_of (fields_at 1 line at)) out) below)
            ∙ sym (first_padded (length out) (numbers_of_of (fields_at 1 line at)))
            ∙ ap (λ (x : List ℕ). get_or x 0 0)
            (sym (ap (λ (t : Bool). cond t (padded (length out) (numbers_of_of (fields_at 1 line at))) out) below)
            ∙ as_list ∙ ap (λ (k : ℕ). list_as k (message 2 line) out) accepts)
            ∙ first_padded (length out) (message 2 line).numbers
