-- Document 02, (vii): "write that post's file: its `S` line, then `R` and `T` lines by rising row", line by line, whatever the number of posts; a line's
-- bytes are those of `LineBytes` (crate csv), a post's rows those of the factory's `part`. Proved in proofs/Filed.antt.
use Rattle.std.specs.Prelude.{ℕ, suc, ◌<◌, ◌≡◌, List, [], ◌∷◌, ◌++◌, length, take, drop}
use Rattle.session.specs.declared.Party.{Party}
use Rattle.csv_fields.specs.Fields.{written}
use Rattle.shape.specs.Lengths.{draw_length}
use Rattle.parts.specs.Draw.{part, first_draw, second_draw, third_draw}
use Rattle.kinds.specs.Kinds.{drawn_for_of}
use Rattle.packlines.specs.File.{start_line, row_line, row_lines, file}

-- This post's row of a draw, and its three rows of a triple's draw.
abbrev pub row_of : Party → List ℕ → List ℕ
row_of p draw = part p.shape p.post p.points draw

abbrev pub triple_of : Party → List ℕ → List ℕ
triple_of p draw =
    let d = draw_length p.shape in row_of p (first_draw d draw) ++ (row_of p (second_draw d draw) ++ row_of p (third_draw d draw))

pub record FileLines (p : Party) : Type 0 where
  -- "`S,n,t,post,checkpoint`"; "Such a session, and its pack file, starts with `W,n,t,post,first,second`" (02, (ix))
  pub start_one : p.shape.points ≡ 1 → start_line p ≡ written 83 (p.shape.n ∷ p.shape.t ∷ p.post ∷ p.points.first ∷ [])
  pub start_two : p.shape.points ≡ 2
      → start_line p ≡ written 87 (p.shape.n ∷ p.shape.t ∷ p.post ∷ p.points.first ∷ p.points.second ∷ [])
  -- "`R,row,` and a raw row's numbers"; "`T,first,` and a triple's three rows of numbers"; of an empty row nothing
  pub raw_row : (row : ℕ) (draw : List ℕ) → 0 < length (row_of p draw) → row_line p row 1 draw ≡ written 82 (row ∷ row_of p draw)
  pub triple_row : (row : ℕ) (draw : List ℕ) → 0 < length (triple_of p draw) → row_line p row 3 draw ≡ written 84 (row ∷ triple_of p draw)
  pub empty_row : (row : ℕ) (draw : List ℕ) → row_line p row 0 draw ≡ []
  -- "by rising row"; "The draws follow by rising row"
  pub no_rows : (row : ℕ) (draws : List ℕ) → row_lines p row [] draws ≡ []
  pub one_more : (row k : ℕ) (ks draws : List ℕ)
      → row_lines p row (k ∷ ks) draws
      ≡ row_line p row k (take (drawn_for_of p.shape k) draws) ++ row_lines p (suc row) ks (drop (drawn_for_of p.shape k) draws)
  pub whole : (kinds draws : List ℕ) → file p kinds draws ≡ start_line p ++ row_lines p 0 kinds draws

abbrev pub FilesLined : Type 0
FilesLined = (p : Party) → FileLines p
