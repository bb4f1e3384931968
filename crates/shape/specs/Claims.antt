-- The lengths in figures, with one check point a post and with two; proved in proofs/Figures.antt.
use Rattle.std.specs.Prelude.{ℕ, ◌+◌, ◌*◌, ◌-◌, ◌≡◌}
use Rattle.shape.specs.Lengths.{shape, needed, f_length, checks_length, row_length, rows_length, record_length}
use Rattle.shape.specs.Lengths.{draw_length, triple_draw_length, packs_length, message_length, masks_length}

-- Whatever the number of points: "f keeps t+1", and so do the accepted posts that an opening needs.
pub record KeptLengths (n t k : ℕ) : Type 0 where
  pub f : f_length (shape n t k) ≡ t + 1
  pub accepted : needed (shape n t k) ≡ t + 1

-- Document 01's lengths.
pub record OnePoint (n t : ℕ) : Type 0 where
  pub row : row_length (shape n t 1) ≡ t + 1 + 2 * n
  pub rows : rows_length (shape n t 1) ≡ 96 * (t + 1 + 2 * n)
  pub record_long : record_length (shape n t 1) ≡ n * (t + 2)
  pub draw : draw_length (shape n t 1) ≡ t + 1 + n * (t + 1)
  pub triple_draw_is : triple_draw_length (shape n t 1) ≡ 3 * (t + 1 + n * (t + 1)) - 1
  pub packs : packs_length (shape n t 1) ≡ n * (t + 1 + 2 * n)
  pub message : message_length (shape n t 1) ≡ t + 1
  pub line_read : masks_length (shape n t 1) ≡ 2 * (t + 1)
  pub points : checks_length (shape n t 1) ≡ n

-- Document 02, (ix): "v1..vn have 2t+1 coefficients"; "A row has 2t+1+3n numbers"; "Messages have 2t+1 coefficients, and the list of a
-- line read twice that".
pub record TwoPoints (n t : ℕ) : Type 0 where
  pub row : row_length (shape n t 2) ≡ 2 * t + 1 + 3 * n
  pub rows : rows_length (shape n t 2) ≡ 96 * (2 * t + 1 + 3 * n)
  pub record_long : record_length (shape n t 2) ≡ n * (2 * t + 2)
  pub draw : draw_length (shape n t 2) ≡ t + 1 + n * (2 * t + 1)
  pub triple_draw_is : triple_draw_length (shape n t 2) ≡ 3 * (t + 1 + n * (2 * t + 1)) - 1
  pub packs : packs_length (shape n t 2) ≡ n * (2 * t + 1 + 3 * n)
  pub message : message_length (shape n t 2) ≡ 2 * t + 1
  pub line_read : masks_length (shape n t 2) ≡ 2 * (2 * t + 1)
  pub points : checks_length (shape n t 2) ≡ 2 * n

pub record LengthsInFigures : Type 0 where
  pub kept : (n t k : ℕ) → KeptLengths n t k
  pub one : (n t : ℕ) → OnePoint n t
  pub two : (n t : ℕ) → TwoPoints n t
