-- The lines of all rows one after the other, measured, and each written into the next part of a list.
use Prim.Native.Nat.{ℕ, suc, ◌+◌, ◌-◌, ◌≤◌, ◌<◌, ◌^◌}
use mathlib.Core.Path.{◌≡◌, refl, sym, ◌∙◌, ap}
use mathlib.Core.List.{List, [], ◌++◌, append-nil}
use native.Mathlib.Numerals.{add-one}
use native.Mathlib.Nat.{add-sub_cancel_left}
use native.Mathlib.Omega.{arith}
use borrow.Rule.Slice.PartMut.{put_mid, same_len_mid}
use mir.Syntax.{w64}
use mir.Val.{Fits}
use lib.ListN.{length, take, drop, get_or, length-append, length-drop, drop_of_length-le}
use lib.Seq.{take-add, drop-cons, drop-drop, take_at, take_all, length-take-le}
use Rattle.shape.specs.Bounds.{row_count_of}
use Rattle.session.specs.declared.Party.{Party}
use Rattle.csv_fields.specs.Fields.{overwrite}
use Rattle.csv_fields.proofs.Overwriting.{overwrite_nothing, overwrite_twice}
use Rattle.decimal.proofs.Positions.{drop_past}
use Rattle.kinds.specs.Kinds.{drawn_for_of, draws_length}
use Rattle.packlines.specs.File.{row_line, row_lines}
use Rattle.packrow.specs.Between.{KindRoom}
use Rattle.packlines.specs.Between.{FileRoom}
use Rattle.kinds.proofs.Kinded.{draws_next}
use Rattle.packlines.proofs.Spelt.{lines_small}

-- ---- what stands in a list up to a place behind a part of it
take_past : (s : List ℕ) (at k : ℕ) (p q : List ℕ) → drop at s ≡ p ++ q → length p ≡ k → take (at + k) s ≡ take at s ++ p
take_past s at k p q e n = take-add at k s ∙ ap (λ (r : List ℕ). take at s ++ r) (rw e (take_at p q k n))

-- ---- the lines of all rows: those of the rows from `row` on stand behind the first `at` bytes
pub record Reached (p : Party) (kinds draws room : List ℕ) (from at row : ℕ) : Type 0 where
  pub file : FileRoom p kinds draws room
  pub within : row ≤ length kinds
  pub tally : from + draws_length p.shape (drop row kinds) ≡ length draws
  pub place : at ≤ length (row_lines p 0 kinds draws)
  pub rest : drop at (row_lines p 0 kinds draws) ≡ row_lines p row (drop row kinds) (drop from draws)

pub reached_start : (p : Party) (kinds draws room : List ℕ) → FileRoom p kinds draws room → Reached p kinds draws room 0 0 0
reached_start p kinds draws room h =
    record { file = h; within = omega arith; tally = omega (arith, h.drawn); place = omega arith; rest = refl }

module _ (p : Party) (kinds draws room : List ℕ) (from at row : ℕ) (inv : Reached p kinds draws room from at row) (h : row < length kinds)
    (k d : ℕ) (q : k ≡ get_or kinds row 0) (e : d ≡ drawn_for_of p.shape k) where
  lent : List ℕ
  lent = take (from + d - from) (drop from draws)

  drawn_here : d ≡ drawn_for_of p.shape (get_or kinds row 0)
  drawn_here = e ∙ ap (drawn_for_of p.shape) q

  pub draw_end : from + d ≤ length draws
  draw_end = omega (arith, inv.tally, draws_next p.shape kinds row h, drawn_here)

  pub draw_end_fits : length draws < 2 ^ 64 → Fits w64 (from + d)
  draw_end_fits b = omega (arith, draw_end)

  pub draw_lent : KindRoom p k (take (from + d - from) (drop from draws)) room
  draw_lent =
      record {
        post = inv.file.post;
        drawn =
            ap (λ (m : ℕ). length (take m (drop from draws))) (add-sub_cancel_left from d)
            ∙ length-take-le d (drop from draws) (omega (arith, draw_end, length-drop from draws)) ∙ e;
        place = inv.file.place;
      }

  pub row_in : row < row_count_of
  row_in = omega (arith, inv.file.rows)

  line_first : drop at (row_lines p 0 kinds draws)
      ≡ row_line p row k (take (from + d - from) (drop from draws)) ++ row_lines p (row + 1) (drop (row + 1) kinds) (drop (from + d) draws)
  unfolding row_lines
  line_first =
      inv.rest
      ∙ rw (drop-cons kinds row 0 h, ← q, ← e, add-sub_cancel_left from d, add-one row)
      (ap (λ (l : List ℕ). row_line p row k (take d (drop from draws)) ++ row_lines p (suc row) (drop (suc row) kinds) l) (drop-drop d from draws))

  pub line_within : at + length (row_line p row k (take (from + d - from) (drop from draws))) ≤ length (row_lines p 0 kinds draws)
  line_within =
      let a : List ℕ = row_line p row k (take (from + d - from) (drop from draws)) in
      let b : List ℕ = row_lines p (row + 1) (drop (row + 1) kinds) (drop (from + d) draws) in
      omega (arith, inv.place, ap length line_first, length-append a b, length-drop at (row_lines p 0 kinds draws))

  pub reached_more : (m : ℕ) (room' : List ℕ) → m ≡ length (row_line p row k (take (from + d - from) (drop from draws)))
      → length room' ≡ length room → Reached p kinds draws room' (from + d) (at + m) (row + 1)
  reached_more m room' l r =
      record {
        file = record { post = inv.file.post; rows = inv.file.rows; drawn = inv.file.drawn; place = r ∙ inv.file.place };
        within = omega arith;
        tally = omega (arith, inv.tally, draws_next p.shape kinds row h, drawn_here);
        place = omega (arith, line_within);
        rest = drop_past (row_lines p 0 kinds draws) at m (row_line p row k (take (from + d - from) (drop from draws))) _ line_first (sym l);
      }

  pub length_fits : (m : ℕ) → m ≡ length (row_line p row k (take (from + d - from) (drop from draws))) → Fits w64 (at + m)
  length_fits m l = record { fits = omega (arith, line_within, lines_small p kinds draws room inv.file) }

module _ (p : Party) (kinds draws room : List ℕ) (from at row : ℕ) (inv : Reached p kinds draws room from at row) (h : length kinds ≤ row) where
  pub reached_end : at ≡ length (row_lines p 0 kinds draws)
  unfolding row_lines
  reached_end =
      let e : drop at (row_lines p 0 kinds draws) ≡ [] =
      inv.rest ∙ ap (λ (l : List ℕ). row_lines p row l (drop from draws)) (drop_of_length-le kinds h) in
      omega (arith, inv.place, ap length e, length-drop at (row_lines p 0 kinds draws))

-- ---- written into the next part
pub tail_laid : (l v ys : List ℕ) (at : ℕ) → at ≤ length l → ys ≡ overwrite 0 v (take (length l - at) (drop at l))
    → put_mid at (length l - at) l ys ≡ overwrite at v l
tail_laid l v ys at h e =
    let t : take (length l - at) (drop at l) ≡ drop at l = take_all (length l - at) (drop at l) (omega (arith, length-drop at l)) in
    let z : drop (length l - at) (drop at l) ≡ [] = drop_of_length-le (drop at l) {i = length l - at} (omega (arith, length-drop at l)) in
    let i : at + (0 + length v) ≡ at + length v = omega arith in
    let d : drop (0 + length v) (drop at l) ≡ drop (at + length v) l =
    drop-drop (0 + length v) at l ∙ ap (λ (k : ℕ). drop k l) i in
    rw (z, append-nil, e, t) (ap (λ (r : List ℕ). take at l ++ (v ++ r)) d)

pub record Laid (p : Party) (kinds draws room out₀ out : List ℕ) (from at row : ℕ) : Type 0 where
  pub reached : Reached p kinds draws room from at row
  pub fits : length (row_lines p 0 kinds draws) ≤ length out₀
  pub same : length out ≡ length out₀
  pub list : out ≡ overwrite 0 (take at (row_lines p 0 kinds draws)) out₀

pub laid_start : (p : Party) (kinds draws room out : List ℕ) → FileRoom p kinds draws room
    → length (row_lines p 0 kinds draws) ≤ length out → Laid p kinds draws room out out 0 0 0
laid_start p kinds draws room out h f =
    record { reached = reached_start p kinds draws room h; fits = f; same = refl; list = overwrite_nothing out 0 }

module _ (p : Party) (kinds draws room out₀ out : List ℕ) (from at row : ℕ) (inv : Laid p kinds draws room out₀ out from at row)
    (h : row < length kinds) (k d : ℕ) (q : k ≡ get_or kinds row 0) (e : d ≡ drawn_for_of p.shape k) where
  pub laid_draw_end : from + d ≤ length draws
  laid_draw_end = draw_end p kinds draws room from at row inv.reached h k d q e

  pub laid_end_fits : length draws < 2 ^ 64 → Fits w64 (from + d)
  laid_end_fits b = omega (arith, laid_draw_end)

  pub laid_lent : KindRoom p k (take (from + d - from) (drop from draws)) room
  laid_lent = draw_lent p kinds draws room from at row inv.reached h k d q e

  pub laid_row : row < row_count_of
  laid_row = row_in p kinds draws room from at row inv.reached h k d q e

  laid_within : at + length (row_line p row k (take (from + d - from) (drop from draws))) ≤ length out
  laid_within = omega (arith, line_within p kinds draws room from at row inv.reached h k d q e, inv.fits, inv.same)

  pub laid_at : at ≤ length out
  laid_at = omega (arith, laid_within)

  pub laid_room : length (row_line p row k (take (from + d - from) (drop from draws))) ≤ length (take (length out - at) (drop at out))
  laid_room =
      rw (take_all (length out - at) (drop at out) (omega (arith, length-drop at out)))
      (omega (arith, laid_within, length-drop at out))

  pub laid_fits : (m : ℕ) → length out < 2 ^ 64 → m ≡ length (row_line p row k (take (from + d - from) (drop from draws))) → Fits w64 (at + m)
  laid_fits m b l = omega (arith, laid_within)

  pub laid_more : (m : ℕ) (room' ys : List ℕ) → m ≡ length (row_line p row k (take (from + d - from) (drop from draws)))
      → length room' ≡ length room → length ys ≡ length (take (length out - at) (drop at out))
      → ys ≡ overwrite 0 (row_line p row k (take (from + d - from) (drop from draws))) (take (length out - at) (drop at out))
      → Laid p kinds draws room' out₀ (put_mid at (length out - at) out ys) (from + d) (at + m) (row + 1)
  laid_more m room' ys l r n f =
      let t : List ℕ = row_lines p 0 kinds draws in
      let w : List ℕ = row_line p row k (take (from + d - from) (drop from draws)) in
      let g : drop at t ≡ w ++ row_lines p (row + 1) (drop (row + 1) kinds) (drop (from + d) draws) =
      line_first p kinds draws room from at row inv.reached h k d q e in
      let a : take (at + m) t ≡ take at t ++ w = take_past t at m w _ g (sym l) in
      let c : at ≡ 0 + length (take at t) = omega (arith, length-take-le at t inv.reached.place) in
      let z : 0 ≤ length out₀ = omega arith in
      record {
        reached = reached_more p kinds draws room from at row inv.reached h k d q e m room' l r;
        fits = inv.fits;
        same = same_len_mid at (length out - at) out ys n ∙ inv.same;
        list =
            tail_laid out w ys at laid_at f
            ∙ ap (λ (i : ℕ). overwrite i w out) c
            ∙ ap (overwrite (0 + length (take at t)) w) inv.list
            ∙ overwrite_twice out₀ (take at t) w 0 z
            ∙ ap (λ (x : List ℕ). overwrite 0 x out₀) (sym a);
      }

module _ (p : Party) (kinds draws room out₀ out : List ℕ) (from at row : ℕ) (inv : Laid p kinds draws room out₀ out from at row)
    (h : length kinds ≤ row) where
  pub laid_end : at ≡ length (row_lines p 0 kinds draws)
  laid_end = reached_end p kinds draws room from at row inv.reached h

  pub laid_whole : out ≡ overwrite 0 (row_lines p 0 kinds draws) out₀
  laid_whole =
      inv.list
      ∙ ap (λ (x : List ℕ). overwrite 0 x out₀) (take_all at (row_lines p 0 kinds draws) (omega (arith, laid_end)))
