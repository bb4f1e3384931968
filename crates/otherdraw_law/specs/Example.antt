-- P1's draw, carried on: n = 3, t = 1; 100 is dealt by someone who is no post, 42 is wanted, and post 3 is listed. And so with two check points
-- a post, as in `table/specs/TwoPoints.antt`.
use Rattle.std.specs.Prelude.{ℕ, ◌≡◌, List, [], ◌∷◌, map, take, replicate}
use Rattle.runs.specs.Draws.{raw_pack}
use Rattle.secrecy.specs.Steps.{dealt_number}
use Rattle.secrecy.specs.Seen.{Entry}
use Rattle.otherdraw_law.specs.OneRow.{loads, deals, places, turns, Setting, plan_in, draw_in, record_of, Behind}
use Rattle.otherdraw_law.specs.Claims.{Dealt, refusal_in, returned, AllTaken}

-- Row 0, zeros in the lists of rows at first: 96 rows of 8 numbers, or of 12. The dealer is no post, or post 1.
unfoldable pub one_point_of : List ℕ → Setting
one_point_of posts =
    record { n = 3; t = 1; points = 1; r = 0; dealer = 0; todo = loads ∷ deals ∷ []; rows = λ i. replicate 768 0; ws = 2 ∷ 3 ∷ 5 ∷ []; posts = posts }

unfoldable pub two_points : List ℕ → Setting
two_points ws = record { n = 3; t = 1; points = 2; r = 0; dealer = 1; todo = loads ∷ deals ∷ []; rows = λ i. replicate 1152 0; ws = ws; posts = 3 ∷ [] }

-- f = 7 + 4z, v1 = 1 + 2z, v2 = 3 + z, v3 = 5 + 6z; with two points v1 = 1 + 2z + zz, v2 = 3 + z + 2zz, v3 = 5 + 6z + 3zz.
unfoldable pub drawn : List ℕ
drawn = 7 ∷ 4 ∷ 1 ∷ 2 ∷ 3 ∷ 1 ∷ 5 ∷ 6 ∷ []

unfoldable pub drawn_two : List ℕ
drawn_two = 7 ∷ 4 ∷ 1 ∷ 2 ∷ 1 ∷ 3 ∷ 1 ∷ 2 ∷ 5 ∷ 6 ∷ 3 ∷ []

-- In the setting S the call is taken and returns `other`, a draw behind 42 that shows post 3 its pack and the D line's number; both calls of the
-- row are taken.
pub record Found (S : Setting) (draw out other pack : List ℕ) : Type 0 where
  pub dealt : Dealt S
  pub taken : refusal_in S draw 100 42 out ≡ 0
  pub found : returned S draw 100 42 out ≡ other
  pub behind : Behind S draw 100 42 other
  pub answers : AllTaken S draw 100 × AllTaken S other 42
  pub shown : raw_pack (plan_in S) (draw_in S draw) 3 0 ≡ pack
  pub shown_too : raw_pack (plan_in S) (draw_in S other) 3 0 ≡ pack
  pub number : dealt_number (plan_in S) (draw_in S draw) (λ q. 100) 0 ≡ 93
  pub number_too : dealt_number (plan_in S) (draw_in S other) (λ q. 42) 0 ≡ 93

pub record ExampleAtWork : Type 0 where
  -- P4: "post 3's: 5,6,11,8,35,12,18,24"
  pub one_point_is :
      Found (one_point_of (3 ∷ [])) drawn (replicate 8 0)
      (2147483596 ∷ 1431655788 ∷ 715827922 ∷ 1145324606 ∷ 1431655787 ∷ 572662303 ∷ 5 ∷ 6 ∷ [])
      (5 ∷ 6 ∷ 11 ∷ 8 ∷ 35 ∷ 12 ∷ 18 ∷ 24 ∷ [])
  pub two_points_is :
      Found (two_points (2 ∷ 4 ∷ 3 ∷ 5 ∷ 5 ∷ 7 ∷ [])) drawn_two (replicate 11 0)
      (2147483596 ∷ 1431655788 ∷ 715827922 ∷ 122713340 ∷ 1063515713 ∷ 1431655787 ∷ 61356670 ∷ 531757858 ∷ 5 ∷ 6 ∷ 3 ∷ [])
      (5 ∷ 6 ∷ 3 ∷ 36 ∷ 64 ∷ 58 ∷ 108 ∷ 110 ∷ 194 ∷ 12 ∷ 18 ∷ 24 ∷ [])
  -- both of post 3's points are 5, which counts once: the v's change by a degree of 1 alone
  pub equal_points :
      Found (two_points (2 ∷ 4 ∷ 3 ∷ 5 ∷ 5 ∷ 5 ∷ [])) drawn_two (replicate 11 0)
      (2147483596 ∷ 1431655788 ∷ 715827922 ∷ 1145324606 ∷ 1 ∷ 1431655787 ∷ 572662303 ∷ 2 ∷ 5 ∷ 6 ∷ 3 ∷ [])
      (5 ∷ 6 ∷ 3 ∷ 36 ∷ 36 ∷ 58 ∷ 58 ∷ 110 ∷ 110 ∷ 12 ∷ 18 ∷ 24 ∷ [])
  -- nobody is listed: "only f changes"; posts 2 and 3 are: 19; all are, and the secrets are equal: the draw
  pub nobody :
      (refusal_in (one_point_of []) drawn 100 42 (replicate 8 0) ≡ 0)
      × (returned (one_point_of []) drawn 100 42 (replicate 8 0) ≡ 2147483596 ∷ 4 ∷ 1 ∷ 2 ∷ 3 ∷ 1 ∷ 5 ∷ 6 ∷ [])
  pub nineteen : refusal_in (one_point_of (2 ∷ 3 ∷ [])) drawn 100 42 (replicate 8 0) ≡ 19
  pub all_posts_is :
      (refusal_in (one_point_of (1 ∷ 2 ∷ 3 ∷ [])) drawn 100 100 (replicate 8 0) ≡ 0)
      × (returned (one_point_of (1 ∷ 2 ∷ 3 ∷ [])) drawn 100 100 (replicate 8 0) ≡ drawn)

-- By (xii): the line of dealer 8 is placed behind the load, and a turn deals the row. Every order is taken at every post, with both draws, and post 3's
-- row 0 then has c in its sums. (That the whole record is the same is `ShowsTheSame`.)
unfoldable pub by_turn_of : Setting
by_turn_of =
    record {
      n = 3;
      t = 1;
      points = 1;
      r = 0;
      dealer = 0;
      todo = loads ∷ places 8 ∷ turns ∷ [];
      rows = λ i. replicate 768 0;
      ws = 2 ∷ 3 ∷ 5 ∷ [];
      posts = 3 ∷ [];
    }

abbrev pub zeros : List ℕ
zeros = 0 ∷ 0 ∷ 0 ∷ []

abbrev pub last_rows : List Entry → List (List ℕ)
last_rows [] = []
last_rows (e ∷ []) = map (take 8) e.rows
last_rows (e ∷ f ∷ es) = last_rows (f ∷ es)

pub record Turned (draw : List ℕ) (u : ℕ) : Type 0 where
  pub answers : map (λ (e : Entry). e.refusals) (record_of by_turn_of draw u).entries ≡ zeros ∷ zeros ∷ zeros ∷ []
  pub dealt : last_rows (record_of by_turn_of draw u).entries ≡ (5 ∷ 6 ∷ 11 ∷ 8 ∷ 35 ∷ 105 ∷ 111 ∷ 117 ∷ []) ∷ []

pub record TurnAtWork : Type 0 where
  pub given : Turned drawn 100
  pub other : Turned (2147483596 ∷ 1431655788 ∷ 715827922 ∷ 1145324606 ∷ 1431655787 ∷ 572662303 ∷ 5 ∷ 6 ∷ []) 42
