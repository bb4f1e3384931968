-- The whole file: its start line and the rows' lines behind it.
use Prim.Native.Nat.{ℕ, ◌+◌, ◌-◌, ◌≤◌}
use mathlib.Core.Path.{◌≡◌, sym, ◌∙◌, ap}
use mathlib.Core.List.{List, [], ◌∷◌, ◌++◌}
use native.Mathlib.Decide.{dec_le}
use native.Mathlib.Omega.{arith}
use borrow.Rule.Slice.PartMut.{put_mid}
use mir.Syntax.{w64}
use mir.Val.{Fits}
use lib.ListN.{length, take, drop, length-append, length-drop}
use lib.Seq.{length-take-le, take_all}
use Rattle.session.specs.declared.Party.{Party}
use Rattle.csv_fields.specs.Fields.{written, overwrite}
use Rattle.csv_fields.proofs.Overwriting.{overwrite_twice, length_fields_le}
use Rattle.csv_fields.proofs.Laying.{length_written}
use Rattle.packlines.specs.File.{row_lines, start_letter_of, start_line, file}
use Rattle.packrow.specs.Between.{PostIn}
use Rattle.packlines.specs.Between.{FileRoom}
use Rattle.packlines.proofs.Spelt.{lines_small}
use Rattle.packlines.proofs.Rising.{tail_laid}

-- ---- the numbers of the start line, as the code has them
module _ (p : Party) (post : PostIn p) where
  abbrev station : List ℕ
  station = p.shape.n ∷ p.shape.t ∷ []

  abbrev own : List ℕ
  own = p.post ∷ p.points.first ∷ p.points.second ∷ []

  abbrev count : ℕ
  count = p.shape.points + 1

  pub own_within : count ≤ length own
  own_within = omega (arith, post.valid.points_in_is)

  pub own_lent : count ≡ length (take count own)
  own_lent = sym (length-take-le count own own_within)

  pub own_few : length (take count own) ≤ 4294967296
  own_few = omega (arith, own_lent, post.valid.points_in_is)

  start_is : written (start_letter_of p.shape.points) (station ++ take count own) ≡ start_line p
  unfolding start_line
  start_is = by_number (dec_le p.shape.points 1)
    where
      by_number : Dec (p.shape.points ≤ 1) → written (start_letter_of p.shape.points) (station ++ take count own) ≡ start_line p
      by_number (yes h) = let e : p.shape.points ≡ 1 = omega (arith, post.valid.points_in_is) in rw e
      by_number (no g) = let e : p.shape.points ≡ 2 = omega (arith, post.valid.points_in_is) in rw e

  pub start_measured : (m : ℕ) → m ≡ length (written 0 (station ++ take count own)) → m ≡ length (start_line p)
  start_measured m e = e ∙ ap length start_is

  pub start_small : length (start_line p) ≤ 57
  start_small =
      omega (
        arith,
        ap length start_is,
        length_written 0 station (take count own),
        length_fields_le station,
        length_fields_le (take count own),
        own_lent,
        post.valid.points_in_is,
      )

  module _ (letter : ℕ) (el : letter ≡ start_letter_of p.shape.points) where
    pub start_enough : (out : List ℕ) → length (start_line p) ≤ length out → length (written letter (station ++ take count own)) ≤ length out
    start_enough out h = omega (arith, ap length start_is)

    pub start_long : (m : ℕ) → m ≡ length (written letter (station ++ take count own)) → m ≡ length (start_line p)
    start_long m e = e ∙ ap length start_is

    pub start_laid : (out l : List ℕ) → l ≡ overwrite 0 (written letter (station ++ take count own)) out → l ≡ overwrite 0 (start_line p) out
    start_laid out l e =
        e ∙ ap (λ (w : List ℕ). overwrite 0 w out) (ap (λ (b : ℕ). written b (station ++ take count own)) el ∙ start_is)

module _ (p : Party) (kinds draws : List ℕ) where
  file_length : length (file p kinds draws) ≡ length (start_line p) + length (row_lines p 0 kinds draws)
  unfolding file
  file_length = length-append (start_line p) (row_lines p 0 kinds draws)

  module _ (room : List ℕ) (a b : ℕ) (e : a ≡ length (start_line p)) (f : b ≡ length (row_lines p 0 kinds draws)) where
    pub file_measured : a + b ≡ length (file p kinds draws)
    file_measured = omega (arith, file_length)

    pub file_length_fits : FileRoom p kinds draws room → Fits w64 (a + b)
    file_length_fits h =
        record {
          fits = omega (
            arith,
            lines_small p kinds draws room h,
            start_small p h.post,
          );
        }

  module _ (out : List ℕ) (h : length (file p kinds draws) ≤ length out) where
    pub start_room : length (start_line p) ≤ length out
    start_room = omega (arith, file_length)

    module _ (out₁ : List ℕ) (a : ℕ) (e : a ≡ length (start_line p)) (same : length out₁ ≡ length out) where
      pub start_within : a ≤ length out₁
      start_within = omega (arith, start_room)

      pub lines_room : length (row_lines p 0 kinds draws) ≤ length (take (length out₁ - a) (drop a out₁))
      lines_room =
          rw (take_all (length out₁ - a) (drop a out₁) (omega (arith, length-drop a out₁)))
          (omega (arith, file_length, length-drop a out₁))

      pub file_laid : (ys : List ℕ) → out₁ ≡ overwrite 0 (start_line p) out
          → ys ≡ overwrite 0 (row_lines p 0 kinds draws) (take (length out₁ - a) (drop a out₁))
          → put_mid a (length out₁ - a) out₁ ys ≡ overwrite 0 (file p kinds draws) out
      unfolding file
      file_laid ys f g =
          let w : List ℕ = start_line p in
          let t : List ℕ = row_lines p 0 kinds draws in
          let n : a ≡ 0 + length w = omega arith in
          let z : 0 ≤ length out = omega arith in
          tail_laid out₁ t ys a start_within g
          ∙ ap (λ (i : ℕ). overwrite i t out₁) n
          ∙ ap (overwrite (0 + length w) t) f
          ∙ overwrite_twice out w t 0 z
