-- One post in two runs, with lists of rows that no check tells apart: the same answers to a load and to a deal, and such lists behind them.
use Prim.Native.Nat.{ℕ, zero, suc, ◌+◌, ◌*◌, ◌<◌}
use mathlib.Core.Path.{◌≡◌, refl, sym, ◌∙◌, ap, ap₂, subst}
use mathlib.Core.Bool.{Bool, false, not}
use mathlib.Core.List.{List, [], ◌∷◌, ◌++◌, map}
use native.Mathlib.Omega.{arith}
use native.Mathlib.Decide.{ℕ_discrete}
use lib.Dec.{eqb}
use lib.ListN.{length, take, drop}
use Rattle.field.specs.Arithmetic.{sum}
use Rattle.field.proofs.Modular.{sum_below}
use Rattle.poly.specs.Counting.{Elements}
use Rattle.parts.proofs.Laws.{elements_take, elements_append}
use Rattle.shape.specs.Bounds.{row_count_of}
use Rattle.shape.specs.Marks.{empty, raw, held}
use Rattle.refusal.specs.Refusal.{◌when◌, first, outcome}
use Rattle.refusal.specs.Conditions.{beyond, any_beyond}
use Rattle.factory.proofs.Laws.{elements_pass, passes_elements}
use Rattle.session.specs.declared.Session.{Session}
use Rattle.session.specs.Sessions.{marked, answer, points_of, session_tests}
use Rattle.session.specs.Rows.{width, sums_at_of, row_at, with_row, plus_sums}
use Rattle.session.specs.Checks.{no_row, wrong_mark_of}
use Rattle.session.proofs.RowLaws.{length_row, length_with_row, row_same, row_other}
use Rattle.sums.proofs.Summed.{length_plus_sums}
use Rattle.load.specs.Load.{load_row_refusal_of, load_row_answer, load_row_rows_of}
use Rattle.load.proofs.Passed.{row_loaded}
use Rattle.deal.specs.Deal.{deal_refusal_of, deal_answer, deal_rows_of}
use Rattle.deal.proofs.Passed.{dealt}
use Rattle.secrecy.proofs.Link.{Alike}

-- as long, and row by row of elements or not
pub record RowsAlike (s : Session) (R R' : List ℕ) : Type 0 where
  pub long : length R ≡ length R'
  pub low : (k : ℕ) → any_beyond (row_at (width s) R k) ≡ any_beyond (row_at (width s) R' k)

-- the refusals, of what the calls look at in the list of rows
loaded_by_lem : Session → (long : ℕ) (r : ℕ) (wide : ℕ) → Bool → ℕ
loaded_by_lem s long r wide high =
    first
    (session_tests s.n s.t s.post s.points (points_of s) ++ (5 when not (eqb long (row_count_of * width s)) ∷ [])
    ++ (5 when not (eqb wide (width s)) ∷ 6 when no_row r ∷ 7 when wrong_mark_of s r empty ∷ 8 when high ∷ []))

loaded_is : (s : Session) (R : List ℕ) (r : ℕ) (xs : List ℕ) → load_row_refusal_of s R r xs ≡ loaded_by_lem s (length R) r (length xs) (any_beyond xs)
unfolding load_row_refusal_of loaded_by_lem
loaded_is s R r xs = refl

dealt_by : Session → (long : ℕ) (r : ℕ) → Bool → ℕ → ℕ
dealt_by s long r high c =
    first
    (session_tests s.n s.t s.post s.points (points_of s) ++ (5 when not (eqb long (row_count_of * width s)) ∷ [])
    ++ (6 when no_row r ∷ 7 when wrong_mark_of s r raw ∷ 8 when beyond c ∷ 8 when high ∷ []))

dealt_is : (s : Session) (R : List ℕ) (r c : ℕ) → deal_refusal_of s R r c ≡ dealt_by s (length R) r (any_beyond (row_at (width s) R r)) c
unfolding deal_refusal_of dealt_by
dealt_is s R r c = refl

-- c added to sums of elements leaves elements
sums_low : (k c : ℕ) (xs : List ℕ) → any_beyond xs ≡ false → any_beyond (plus_sums k c xs) ≡ false
unfolding plus_sums
sums_low k c xs e =
    elements_pass (take k xs ++ map (λ m. sum m c) (drop k xs)) (elements_append (take k xs) _ (elements_take k xs (passes_elements xs e)) (each (drop k xs)))
  where
    each : (ys : List ℕ) → Elements (map (λ m. sum m c) ys)
    each [] = tt
    each (y ∷ ys) = (sum_below y c, each ys)

module _ (s : Session) (R R' : List ℕ) (h : RowsAlike s R R') where
  -- a row written into both
  put_alike : (r : ℕ) (xs ys : List ℕ) → r < row_count_of → length R ≡ row_count_of * width s → length R' ≡ row_count_of * width s
      → length xs ≡ width s → length ys ≡ width s → any_beyond xs ≡ any_beyond ys → RowsAlike s (with_row (width s) r xs R) (with_row (width s) r ys R')
  put_alike r xs ys low size size' wide wide' e =
      record {
        long = length_with_row (width s) row_count_of R r size low xs wide ∙ h.long ∙ sym (length_with_row (width s) row_count_of R' r size' low ys wide');
        low = λ k. go k (ℕ_discrete k r);
      }
    where
      go : (k : ℕ) → Dec (k ≡ r) → any_beyond (row_at (width s) (with_row (width s) r xs R) k) ≡ any_beyond (row_at (width s) (with_row (width s) r ys R') k)
      go k (yes q) =
          ap (λ (z : ℕ). any_beyond (row_at (width s) (with_row (width s) r xs R) z)) q
          ∙ ap any_beyond (row_same (width s) row_count_of R r size low xs wide) ∙ e ∙ sym (ap any_beyond (row_same (width s) row_count_of R' r size' low ys wide'))
          ∙ sym (ap (λ (z : ℕ). any_beyond (row_at (width s) (with_row (width s) r ys R') z)) q)
      go k (no n) =
          ap any_beyond (row_other (width s) row_count_of R r size low xs wide k n) ∙ h.low k
          ∙ sym (ap any_beyond (row_other (width s) row_count_of R' r size' low ys wide' k n))

  -- ---- a load

  module _ (r : ℕ) (xs ys : List ℕ) (a : Alike xs ys) where
    load_refusal : load_row_refusal_of s R r xs ≡ load_row_refusal_of s R' r ys
    load_refusal =
        loaded_is s R r xs ∙ ap (λ (l : ℕ). loaded_by_lem s l r (length xs) (any_beyond xs)) h.long
        ∙ ap₂ (loaded_by_lem s (length R') r) a.long a.low ∙ sym (loaded_is s R' r ys)

    pub load_answer : load_row_answer s R r xs ≡ load_row_answer s R' r ys
    load_answer = ap (λ (k : ℕ). answer k 0 (marked s r raw) s) load_refusal

    after_load : (k : ℕ) → load_row_refusal_of s R r xs ≡ k
        → RowsAlike (answer k 0 (marked s r raw) s).session (outcome k (with_row (width s) r xs R) R) (outcome k (with_row (width s) r ys R') R')
    unfolding outcome
    after_load (suc k) e = record { long = h.long; low = h.low }
    after_load zero e =
        let one = row_loaded s R r xs e in
        let two = row_loaded s R' r ys (sym load_refusal ∙ e) in
        let w = put_alike r xs ys (omega (arith, one.row_in)) one.framed.sized.length_is two.framed.sized.length_is one.pack_long two.pack_long a.low in
        record { long = w.long; low = w.low }

    pub load_rows : RowsAlike (load_row_answer s R r xs).session (load_row_rows_of s R r xs) (load_row_rows_of s R' r ys)
    load_rows =
        subst (λ (k : ℕ). RowsAlike (load_row_answer s R r xs).session (load_row_rows_of s R r xs) (outcome k (with_row (width s) r ys R') R')) load_refusal
        (after_load (load_row_refusal_of s R r xs) refl)

  -- ---- a deal

  module _ (r c : ℕ) where
    deal_refusal_lem : deal_refusal_of s R r c ≡ deal_refusal_of s R' r c
    deal_refusal_lem = dealt_is s R r c ∙ ap₂ (λ (l : ℕ) (b : Bool). dealt_by s l r b c) h.long (h.low r) ∙ sym (dealt_is s R' r c)

    pub deal_answer_is : deal_answer s R r c ≡ deal_answer s R' r c
    deal_answer_is = ap (λ (k : ℕ). answer k 0 (marked s r held) s) deal_refusal_lem

    abbrev dealt_row : List ℕ → List ℕ
    dealt_row l = plus_sums (sums_at_of s) c (row_at (width s) l r)

    after_deal : (k : ℕ) → deal_refusal_of s R r c ≡ k
        → RowsAlike (answer k 0 (marked s r held) s).session (outcome k (with_row (width s) r (dealt_row R) R) R) (outcome k (with_row (width s) r (dealt_row R') R') R')
    unfolding outcome
    after_deal (suc k) e = record { long = h.long; low = h.low }
    after_deal zero e =
        let one = dealt s R r c e in
        let two = dealt s R' r c (sym deal_refusal_lem ∙ e) in
        let low : r < row_count_of = omega (arith, one.placed.row_in) in
        let size = one.framed.sized.length_is in
        let size' = two.framed.sized.length_is in
        let w = put_alike r (dealt_row R) (dealt_row R') low size size'
        (length_plus_sums (sums_at_of s) c _ ∙ length_row (width s) row_count_of R r size low) (length_plus_sums (sums_at_of s) c _ ∙ length_row (width s) row_count_of R' r size' low)
        (sums_low (sums_at_of s) c _ one.row_low ∙ sym (sums_low (sums_at_of s) c _ two.row_low)) in
        record { long = w.long; low = w.low }

    pub deal_rows_is : RowsAlike (deal_answer s R r c).session (deal_rows_of s R r c) (deal_rows_of s R' r c)
    deal_rows_is =
        subst (λ (k : ℕ). RowsAlike (deal_answer s R r c).session (deal_rows_of s R r c) (outcome k (with_row (width s) r (dealt_row R') R') R')) deal_refusal_lem
        (after_deal (deal_refusal_of s R r c) refl)
