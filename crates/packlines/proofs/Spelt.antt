-- One line of a row, measured and written; and no file is long.
use Prim.Native.Nat.{ℕ, suc, ◌+◌, ◌*◌, ◌-◌, ◌≤◌}
use mathlib.Core.Path.{◌≡◌, refl, sym, ◌∙◌, ap}
use mathlib.Core.Bool.{Bool, true, false, cond}
use mathlib.Core.List.{List, [], ◌∷◌, ◌++◌}
use native.Mathlib.Nat.{suc-mul}
use native.Mathlib.Omega.{arith}
use lib.Dec.{eqb}
use lib.ListN.{length, take, drop, length-append, length-take}
use lib.Seq.{length-take-le}
use Rattle.shape.specs.Bounds.{row_count_of, longest_row}
use Rattle.shape.specs.Lengths.{Valid, f_length, v_length, checks_length, row_length, triple_length, draw_length}
use Rattle.shape.specs.Marks.{raw, unused}
use Rattle.session.specs.declared.Party.{Party}
use Rattle.csv_fields.specs.Fields.{written, overwrite}
use Rattle.csv_fields.proofs.Overwriting.{overwrite_nothing, length_fields_le}
use Rattle.csv_fields.proofs.Laying.{length_written}
use Rattle.parts.specs.Draw.{drawn_v, check_of, sum_of, part, each_from, first_draw, second_draw, third_draw}
use Rattle.parts.proofs.Laws.{length_each}
use Rattle.kinds.specs.Kinds.{drawn_for_of}
use Rattle.packrow.specs.Numbers.{post_part, triple_parts, numbers_of_of}
use Rattle.packlines.specs.File.{letter_of_of, line_with, row_line, row_lines}
use Rattle.packrow.specs.Between.{KindRoom, Front}
use Rattle.packlines.specs.Between.{FileRoom}

-- ---- one line
few_numbers : (p : Party) → Valid p.shape → triple_length p.shape ≤ 3 * longest_row
few_numbers p v = omega (arith, v.n_in, v.t_in, v.reach_in, v.checks_in)

module _ (p : Party) (row k : ℕ) (draw room : List ℕ) (r : ℕ) (f : Front r room (numbers_of_of p k draw)) where
  pub line_none : r ≡ 0 → [] ≡ row_line p row k draw
  unfolding row_line
  line_none z = go (numbers_of_of p k draw) f.count
    where
      go : (xs : List ℕ) → r ≡ length xs → [] ≡ line_with (letter_of_of k) row xs
      go [] e = refl
      go (x ∷ xs) e = absurd (omega arith)

  pub line_some : (r ≡ 0 → ⊥) → written (letter_of_of k) ((row ∷ []) ++ take r room) ≡ row_line p row k draw
  unfolding row_line
  line_some n = rw f.front (go (numbers_of_of p k draw) f.count)
    where
      go : (xs : List ℕ) → r ≡ length xs → written (letter_of_of k) ((row ∷ []) ++ xs) ≡ line_with (letter_of_of k) row xs
      go [] e = absurd (n e)
      go (x ∷ xs) e = refl

  pub none_measured : r ≡ 0 → 0 ≡ length (row_line p row k draw)
  none_measured z = ap length (line_none z)

  pub some_measured : (m : ℕ) → (r ≡ 0 → ⊥) → m ≡ length (written 0 ((row ∷ []) ++ take r room)) → m ≡ length (row_line p row k draw)
  some_measured m n e = e ∙ ap length (line_some n)

  pub none_laid : (out : List ℕ) → r ≡ 0 → out ≡ overwrite 0 (row_line p row k draw) out
  none_laid out z = rw (← line_none z) (overwrite_nothing out 0)

  pub some_room : (out : List ℕ) (letter : ℕ) → letter ≡ letter_of_of k → (r ≡ 0 → ⊥) → length (row_line p row k draw) ≤ length out
      → length (written letter ((row ∷ []) ++ take r room)) ≤ length out
  some_room out letter q n h = omega (arith, ap length (line_some n))

  pub some_put : (m letter : ℕ) → letter ≡ letter_of_of k → (r ≡ 0 → ⊥) → m ≡ length (written letter ((row ∷ []) ++ take r room))
      → m ≡ length (row_line p row k draw)
  some_put m letter q n e = e ∙ ap length (line_some n)

  pub some_laid : (out l : List ℕ) (letter : ℕ) → letter ≡ letter_of_of k → (r ≡ 0 → ⊥)
      → l ≡ overwrite 0 (written letter ((row ∷ []) ++ take r room)) out → l ≡ overwrite 0 (row_line p row k draw) out
  some_laid out l letter q n e =
      e ∙ ap (λ (w : List ℕ). overwrite 0 w out) (ap (λ (b : ℕ). written b ((row ∷ []) ++ take r room)) q ∙ line_some n)

pub front_size : (r : ℕ) (room xs : List ℕ) → Front r room xs → r ≡ length (take r room)
front_size r room xs f = sym (length-take-le r room f.within)

pub few_lent : (p : Party) (k r : ℕ) (draw room room' : List ℕ) → KindRoom p k draw room → length room' ≡ length room
    → length (take r room') ≤ 4294967296
few_lent p k r draw room room' h e =
    omega (arith, few_numbers p h.post.valid, h.place, length-take r room')

-- ---- no file is long
abbrev longest_numbers : ℕ
longest_numbers = 3 * longest_row

abbrev longest_text : ℕ
longest_text = 2 + 11 * (1 + longest_numbers)

part_le : (p : Party) (draw : List ℕ) → length (post_part p draw) ≤ row_length p.shape
unfolding post_part part
part_le p draw =
    let n : ℕ = p.shape.n in
    let v : List ℕ = drawn_v p.shape draw p.post in
    let c : List ℕ = each_from 0 (checks_length p.shape) (check_of p.shape p.points draw) in
    let m : List ℕ = each_from 1 n (sum_of p.shape draw) in
    omega (
      arith,
      length-append v (c ++ m),
      length-append c m,
      length_each (check_of p.shape p.points draw) 0 (checks_length p.shape),
      length_each (sum_of p.shape draw) 1 n,
      length-take (v_length p.shape) (drop (f_length p.shape + (p.post - 1) * v_length p.shape) draw),
    )

numbers_le : (p : Party) (k : ℕ) (draw : List ℕ) → length (numbers_of_of p k draw) ≤ triple_length p.shape
unfolding numbers_of_of triple_parts
numbers_le p k draw = go (eqb k raw) (eqb k unused)
  where
    d : ℕ
    d = draw_length p.shape

    a : List ℕ
    a = post_part p (first_draw d draw)

    b : List ℕ
    b = post_part p (second_draw d draw)

    c : List ℕ
    c = post_part p (third_draw d draw)

    go : (x y : Bool) → length (cond x (post_part p draw) (cond y (a ++ (b ++ c)) [])) ≤ triple_length p.shape
    go true y = omega (arith, part_le p draw)
    go false true =
        omega (
          arith,
          length-append a (b ++ c),
          length-append b c,
          part_le p (first_draw d draw),
          part_le p (second_draw d draw),
          part_le p (third_draw d draw),
        )
    go false false = omega arith

line_le : (p : Party) (row k : ℕ) (draw : List ℕ) → Valid p.shape → length (row_line p row k draw) ≤ longest_text
unfolding row_line
line_le p row k draw v = go (numbers_of_of p k draw) (numbers_le p k draw)
  where
    go : (xs : List ℕ) → length xs ≤ triple_length p.shape → length (line_with (letter_of_of k) row xs) ≤ longest_text
    go [] h = omega arith
    go (x ∷ xs) h =
        omega (
          arith,
          few_numbers p v,
          length_written (letter_of_of k) (row ∷ []) (x ∷ xs),
          length_fields_le (row ∷ []),
          length_fields_le (x ∷ xs),
        )

lines_le : (p : Party) (row : ℕ) (ks draws : List ℕ) → Valid p.shape → length (row_lines p row ks draws) ≤ length ks * longest_text
unfolding row_lines
lines_le p row [] draws v = omega arith
lines_le p row (k ∷ ks) draws v =
    simp length-append
    (omega (
      arith,
      line_le p row k (take (drawn_for_of p.shape k) draws) v,
      lines_le p (suc row) ks (drop (drawn_for_of p.shape k) draws) v,
      suc-mul (length ks) longest_text,
    ))

pub lines_small : (p : Party) (kinds draws room : List ℕ) → FileRoom p kinds draws room
    → length (row_lines p 0 kinds draws) ≤ row_count_of * longest_text
lines_small p kinds draws room h =
    let e : length kinds * longest_text ≡ row_count_of * longest_text = ap (λ (k : ℕ). k * longest_text) h.rows in
    omega (arith, lines_le p 0 kinds draws h.post.valid)
