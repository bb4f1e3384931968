-- Between the functions of the code: what the writers of a row's numbers need of what they are lent, and what they leave. No theorem
-- is stated with these. What they write is in `Numbers.antt`.
use Rattle.std.specs.Prelude.{ℕ, ◌+◌, ◌≤◌, ◌<◌, ◌≡◌, List, length, take}
use Rattle.shape.specs.Bounds.{most_points}
use Rattle.shape.specs.Lengths.{Valid, row_length, triple_length, draw_length, triple_draw_length}
use Rattle.session.specs.declared.Party.{Party}
use Rattle.kinds.specs.Kinds.{drawn_for_of}

-- a post of a valid station
pub record PostIn (p : Party) : Type 0 where
  pub valid : Valid p.shape
  pub first : 1 ≤ p.post
  pub last : p.post ≤ p.shape.n
  -- where it has one check point, the second is 0
  pub lone : p.shape.points < most_points → p.points.second ≡ 0

-- a row's draw but for its first number, and the post's part of it
pub record RestRoom (p : Party) (rest out : List ℕ) : Type 0 where
  pub post : PostIn p
  pub drawn : length rest + 1 ≡ draw_length p.shape
  pub room : length out ≡ row_length p.shape

-- a row's draw
pub record RowRoom (p : Party) (draw out : List ℕ) : Type 0 where
  pub post : PostIn p
  pub drawn : length draw ≡ draw_length p.shape
  pub room : length out ≡ row_length p.shape

-- l and l' of a triple's draw
pub record FactorsRoom (p : Party) (draw out : List ℕ) : Type 0 where
  pub post : PostIn p
  pub drawn : draw_length p.shape + draw_length p.shape ≤ length draw
  pub room : length out ≡ row_length p.shape + row_length p.shape

-- a triple's draw
pub record TripleRoom (p : Party) (draw out : List ℕ) : Type 0 where
  pub post : PostIn p
  pub drawn : length draw ≡ triple_draw_length p.shape
  pub room : length out ≡ triple_length p.shape

-- the draw of a row of this kind, and room for the numbers of any line
pub record KindRoom (p : Party) (k : ℕ) (draw room : List ℕ) : Type 0 where
  pub post : PostIn p
  pub drawn : length draw ≡ drawn_for_of p.shape k
  pub place : length room ≡ triple_length p.shape

-- the first r places of the room hold the numbers xs
pub record Front (r : ℕ) (room xs : List ℕ) : Type 0 where
  pub count : r ≡ length xs
  pub within : r ≤ length room
  pub front : take r room ≡ xs
