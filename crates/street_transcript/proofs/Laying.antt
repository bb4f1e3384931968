-- The lent line: bytes put into it one by one are put into it together.
use Prim.Native.Nat.{ℕ, zero, suc, ◌+◌, ◌-◌, ◌≤◌, ◌<◌}
use mathlib.Core.Path.{◌≡◌, refl, ap, ap₂, sym, ◌∙◌}
use mathlib.Core.List.{List, [], ◌∷◌, ◌++◌}
use mathlib.Core.Bool.{Bool, true, false, cond}
use native.Mathlib.Omega.{arith}
use borrow.Author.Tests.{ltb-true, ltb-false}
use lib.ListN.{length, take, drop, length-append, length-drop}
use lib.Seq.{take-nil, take_all, length-take-le}
use lib.Dec.{eqb, ltb}
use Rattle.csv_fields.specs.Fields.{overwrite}
use Rattle.csv_fields.proofs.Overwriting.{overwrite_nothing, overwrite_twice}
use Rattle.street_splitting.specs.Lines.{segment, kept_length, cut, laid}
use Rattle.street_feeds.specs.Program.{Running, answered, grown}
use Rattle.street_feeds.specs.Between.{segmented}
use Rattle.street_transcript.specs.Between.{line_after_of}
use Rattle.street_transcript.proofs.Chunks.{segment_first, segmented_more}

-- ---- one byte, then others
module _ (len : ℕ) (l : List ℕ) (r : length l ≡ kept_length) where
  -- no room is left
  laid_full : (s : List ℕ) → kept_length ≤ len → laid len s l ≡ l
  laid_full s h = let z : kept_length - len ≡ 0 = omega arith in rw z (sym (overwrite_nothing l len))

  module _ (b : ℕ) (h : len < kept_length) where
    room_more : kept_length - len ≡ suc (kept_length - suc len)
    room_more = omega arith

    laid_byte : laid len (b ∷ []) l ≡ overwrite len (b ∷ []) l
    laid_byte = ap (λ (k : ℕ). overwrite len (take k (b ∷ [])) l) room_more ∙ ap (λ (z : List ℕ). overwrite len (b ∷ z) l) (take-nil (kept_length - suc len))

    laid_next : (s : List ℕ) → laid (suc len) s (laid len (b ∷ []) l) ≡ laid len (b ∷ s) l
    laid_next s =
        let n : suc len ≡ len + 1 = omega arith in
        let w : List ℕ = take (kept_length - suc len) s in
        ap (overwrite (suc len) w) laid_byte
        ∙ ap (λ (k : ℕ). overwrite k w (overwrite len (b ∷ []) l)) n
        ∙ overwrite_twice l (b ∷ []) w len (omega arith)
        ∙ sym (ap (λ (k : ℕ). overwrite len (take k (b ∷ s)) l) room_more)

cut_size : (line : List ℕ) (b : ℕ) → length line < kept_length → length (cut (line ++ (b ∷ []))) ≡ suc (length line)
cut_size line b h =
    let n : length (line ++ (b ∷ [])) ≡ suc (length line) = length-append line (b ∷ []) ∙ omega arith in
    ap length (take_all kept_length (line ++ (b ∷ [])) (omega arith)) ∙ n

cut_full : (line : List ℕ) (b : ℕ) → kept_length ≤ length line → length (cut (line ++ (b ∷ []))) ≡ kept_length
cut_full line b h = length-take-le kept_length (line ++ (b ∷ [])) (omega (arith, length-append line (b ∷ [])))

laid_more : (line : List ℕ) (b : ℕ) (s l : List ℕ) → length l ≡ kept_length
    → laid (length (cut (line ++ (b ∷ [])))) s (laid (length line) (b ∷ []) l) ≡ laid (length line) (b ∷ s) l
laid_more line b s l r = go (ltb (length line) kept_length) refl
  where
    go : (t : Bool) → ltb (length line) kept_length ≡ t
        → laid (length (cut (line ++ (b ∷ [])))) s (laid (length line) (b ∷ []) l) ≡ laid (length line) (b ∷ s) l
    go true e =
        let h : length line < kept_length = ltb-true (length line) kept_length e in
        ap (λ (k : ℕ). laid k s (laid (length line) (b ∷ []) l)) (cut_size line b h) ∙ laid_next (length line) l r b h s
    go false e =
        let h : kept_length ≤ length line = ltb-false (length line) kept_length e in
        ap₂ (λ (k : ℕ) (z : List ℕ). laid k s z) (cut_full line b h) (laid_full (length line) l r (b ∷ []) h)
        ∙ laid_full kept_length l r s (omega arith) ∙ sym (laid_full (length line) l r (b ∷ s) h)

laid_grown : (p : Running) (b : ℕ) (s l : List ℕ) → length l ≡ kept_length
    → laid (length (grown p (b ∷ [])).line) s (laid (length p.line) (b ∷ []) l) ≡ laid (length p.line) (b ∷ s) l
unfolding grown
laid_grown p b s l r = laid_more p.line b s l r

-- ---- it keeps its length
laid_length : (len : ℕ) (s l : List ℕ) → length l ≡ kept_length → length (laid len s l) ≡ kept_length
laid_length len s l r = go (ltb len kept_length) refl
  where
    short : (k : ℕ) (x : List ℕ) → length (take k x) ≤ k
    short zero x = omega arith
    short (suc k) [] = omega arith
    short (suc k) (y ∷ x) = omega (arith, short k x)

    go : (t : Bool) → ltb len kept_length ≡ t → length (laid len s l) ≡ kept_length
    go true e =
        let h : len < kept_length = ltb-true len kept_length e in
        let w : List ℕ = take (kept_length - len) s in
        length-append (take len l) (w ++ drop (len + length w) l)
        ∙ omega (arith, length-append w (drop (len + length w) l), length-take-le len l (omega arith), length-drop (len + length w) l, short (kept_length - len) s)
    go false e = ap length (laid_full len l r s (ltb-false len kept_length e)) ∙ r

-- ---- one line, or what there is of it
line_segment : (p : Running) (l : List ℕ) (b : ℕ) (s : List ℕ) → length l ≡ kept_length
    → line_after_of p l (b ∷ s)
    ≡ line_after_of (segmented p (take (segment (b ∷ s)) (b ∷ s))) (laid (length p.line) (take (segment (b ∷ s)) (b ∷ s)) l) (drop (segment (b ∷ s)) (b ∷ s))
unfolding line_after_of segment
line_segment p l b [] r = go (eqb b 10) refl
  where
    go : (t : Bool) → eqb b 10 ≡ t
        → laid (length p.line) (b ∷ []) l
        ≡ line_after_of (segmented p (take (cond t 1 1) (b ∷ []))) (laid (length p.line) (take (cond t 1 1) (b ∷ [])) l) (drop (cond t 1 1) (b ∷ []))
    go true e = refl
    go false e = refl
line_segment p l b (c ∷ s) r =
    go (eqb b 10) refl (line_segment (grown p (b ∷ [])) (laid (length p.line) (b ∷ []) l) c s (laid_length (length p.line) (b ∷ []) l r))
  where
    inner : (j : ℕ) → 1 ≤ j → segmented (grown p (b ∷ [])) (take j (c ∷ s)) ≡ segmented p (b ∷ take j (c ∷ s))
    inner zero h = absurd (omega arith)
    inner (suc j) h = segmented_more p b c (take j s)

    go : (t : Bool) → eqb b 10 ≡ t
        → line_after_of (grown p (b ∷ [])) (laid (length p.line) (b ∷ []) l) (c ∷ s)
        ≡ line_after_of (segmented (grown p (b ∷ [])) (take (segment (c ∷ s)) (c ∷ s)))
        (laid (length (grown p (b ∷ [])).line) (take (segment (c ∷ s)) (c ∷ s)) (laid (length p.line) (b ∷ []) l)) (drop (segment (c ∷ s)) (c ∷ s))
        → line_after_of (cond t (answered (grown p (b ∷ []))) (grown p (b ∷ []))) (laid (length p.line) (b ∷ []) l) (c ∷ s)
        ≡ line_after_of (segmented p (take (cond t 1 (suc (segment (c ∷ s)))) (b ∷ c ∷ s))) (laid (length p.line) (take (cond t 1 (suc (segment (c ∷ s)))) (b ∷ c ∷ s)) l)
        (drop (cond t 1 (suc (segment (c ∷ s)))) (b ∷ c ∷ s))
    go true e ih = rw e
    go false e ih =
        ih ∙ ap₂ (λ (z : Running) (y : List ℕ). line_after_of z y (drop (segment (c ∷ s)) (c ∷ s))) (inner (segment (c ∷ s)) (segment_first c s)) (laid_grown p b (take (segment (c ∷ s)) (c ∷ s)) l r)

pub line_after : (p : Running) (l s : List ℕ) → length l ≡ kept_length → 1 ≤ length s
    → line_after_of p l s ≡ line_after_of (segmented p (take (segment s) s)) (laid (length p.line) (take (segment s) s) l) (drop (segment s) s)
line_after p l [] r h = absurd (omega arith)
line_after p l (b ∷ s) r h = line_segment p l b s r
