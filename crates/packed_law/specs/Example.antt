-- Two files reckoned by hand: of post 2 of three, t = 1, with a raw row 0 and a triple from row 3 on; with one check point a post, and with two. The
-- call refuses neither, so the theorem speaks of them.
use Rattle.std.specs.Prelude.{ℕ, ◌≡◌, List, [], ◌∷◌, ◌++◌, replicate}
use Rattle.csv_fields.specs.Fields.{written}
use Rattle.packlines.specs.File.{file}
use Rattle.packfile.specs.Writing.{post_at, given_refusal}

abbrev pub kinds : List ℕ
kinds = 1 ∷ 0 ∷ 0 ∷ 3 ∷ replicate 92 0

-- The posts' check points and the two draws; the start line, and the numbers of the two lines behind it.
pub record Sample : Type 0 where
  pub points : ℕ
  pub ws : List ℕ
  pub row : List ℕ
  pub triple : List ℕ
  pub start : List ℕ
  pub row_line : List ℕ
  pub triple_line : List ℕ

pub record Reckoned (x : Sample) : Type 0 where
  pub given : given_refusal 3 1 2 x.points x.ws kinds (x.row ++ x.triple) ≡ 0
  pub text : file (post_at 3 1 2 x.points x.ws) kinds (x.row ++ x.triple)
      ≡ x.start ++ (written 82 (0 ∷ x.row_line) ++ written 84 (3 ∷ x.triple_line))

-- The row has f = 7 + 4z, v1 = 1 + 2z, v2 = 3 + z, v3 = 5 + 6z. The triple has 2 to 24, where the third f has no constant: l has v2 = 6 + 7z, l' v2 = 14 + 15z,
-- l'' v2 = 21 + 22z, and f(0) of l'' is 2 times 10.
abbrev pub one_point_of : Sample
one_point_of =
    record {
      points = 1;
      ws = 2 ∷ 3 ∷ 5 ∷ [];
      row = 7 ∷ 4 ∷ 1 ∷ 2 ∷ 3 ∷ 1 ∷ 5 ∷ 6 ∷ [];
      triple =
          2 ∷ 3 ∷ 4 ∷ 5 ∷ 6 ∷ 7 ∷ 8 ∷ 9
          ∷ 10 ∷ 11 ∷ 12 ∷ 13 ∷ 14 ∷ 15 ∷ 16 ∷ 17
          ∷ 18 ∷ 19 ∷ 20 ∷ 21 ∷ 22 ∷ 23 ∷ 24 ∷ [];
      start = written 83 (3 ∷ 1 ∷ 2 ∷ 3 ∷ []);
      row_line = 3 ∷ 1 ∷ 7 ∷ 6 ∷ 23 ∷ 12 ∷ 18 ∷ 24 ∷ [];
      triple_line =
          6 ∷ 7 ∷ 19 ∷ 27 ∷ 35 ∷ 9 ∷ 14 ∷ 19
          ∷ 14 ∷ 15 ∷ 51 ∷ 59 ∷ 67 ∷ 33 ∷ 46 ∷ 59
          ∷ 21 ∷ 22 ∷ 79 ∷ 87 ∷ 95 ∷ 57 ∷ 77 ∷ 97 ∷ [];
    }

-- The row has the same f, v1 = 1 + 2z + 3z², v2 = 3 + z + 2z², v3 = 5 + 6z + z²; post 2 gets v1(3), v1(5), v2(3), v2(5), v3(3), v3(5). The triple has 2 to 33:
-- l has v2 = 7 + 8z + 9z², l' v2 = 18 + 19z + 20z², l'' v2 = 28 + 29z + 30z², and f(0) of l'' is 2 times 13.
abbrev pub two_points : Sample
two_points =
    record {
      points = 2;
      ws = 2 ∷ 4 ∷ 3 ∷ 5 ∷ 5 ∷ 7 ∷ [];
      row = 7 ∷ 4 ∷ 1 ∷ 2 ∷ 3 ∷ 3 ∷ 1 ∷ 2 ∷ 5 ∷ 6 ∷ 1 ∷ [];
      triple =
          2 ∷ 3 ∷ 4 ∷ 5 ∷ 6 ∷ 7 ∷ 8 ∷ 9 ∷ 10 ∷ 11 ∷ 12
          ∷ 13 ∷ 14 ∷ 15 ∷ 16 ∷ 17 ∷ 18 ∷ 19 ∷ 20 ∷ 21 ∷ 22 ∷ 23
          ∷ 24 ∷ 25 ∷ 26 ∷ 27 ∷ 28 ∷ 29 ∷ 30 ∷ 31 ∷ 32 ∷ 33 ∷ [];
      start = written 87 (3 ∷ 1 ∷ 2 ∷ 3 ∷ 5 ∷ []);
      row_line = 3 ∷ 1 ∷ 2 ∷ 34 ∷ 86 ∷ 24 ∷ 58 ∷ 32 ∷ 60 ∷ 12 ∷ 18 ∷ 24 ∷ [];
      triple_line =
          7 ∷ 8 ∷ 9 ∷ 73 ∷ 179 ∷ 112 ∷ 272 ∷ 151 ∷ 365 ∷ 9 ∷ 15 ∷ 21
          ∷ 18 ∷ 19 ∷ 20 ∷ 216 ∷ 520 ∷ 255 ∷ 613 ∷ 294 ∷ 706 ∷ 42 ∷ 59 ∷ 76
          ∷ 28 ∷ 29 ∷ 30 ∷ 346 ∷ 830 ∷ 385 ∷ 923 ∷ 424 ∷ 1016 ∷ 75 ∷ 102 ∷ 129 ∷ [];
    }

abbrev pub BothReckoned : Type 0
BothReckoned = Reckoned one_point_of × Reckoned two_points
