-- The call reckoned by hand; proved by computing in proofs/Reckoning.antt.
use Rattle.std.specs.Prelude.{ℕ, ◌≡◌, List, [], ◌∷◌, replicate}
use Rattle.otherdraw.specs.Other.{other_draw, other_refusal_of, other_out}

-- Document 01's P1: n = 3, t = 1, f = 7 + 4z, v1 = 1 + 2z, v2 = 3 + z, v3 = 5 + 6z, check points 2, 3, 5
abbrev pub ws : List ℕ
ws = 2 ∷ 3 ∷ 5 ∷ []

abbrev pub draw : List ℕ
draw = 7 ∷ 4 ∷ 1 ∷ 2 ∷ 3 ∷ 1 ∷ 5 ∷ 6 ∷ []

-- 42 in place of 100. Post 3 is listed: f changes by −58 (1 − z/3), which is −116/3 at 1 and −58/3 at 2; v1 and v2 by 116/3 and 58/3 times
-- 1 − z/5. 1/3 is 1431655765, 1/5 is 858993459.
pub record OnePoint : Type 0 where
  pub for_three : other_draw 3 1 1 ws draw 100 42 (3 ∷ [])
      ≡ 2147483596 ∷ 1431655788 ∷ 715827922 ∷ 1145324606 ∷ 1431655787 ∷ 572662303 ∷ 5 ∷ 6 ∷ []
  -- "with no posts listed only f changes"
  pub for_nobody : other_draw 3 1 1 ws draw 100 42 [] ≡ 2147483596 ∷ 4 ∷ 1 ∷ 2 ∷ 3 ∷ 1 ∷ 5 ∷ 6 ∷ []
  -- "If the two secrets are equal it returns the draw it was given, even for all n posts."
  pub for_all : other_draw 3 1 1 ws draw 100 100 (1 ∷ 2 ∷ 3 ∷ []) ≡ draw
  -- n = 4, t = 2, posts 2 and 3 have one check point, 3, which counts once: 6 in place of 0, f changes by 6 (1 − z/2)(1 − z/3) = 6 − 5z + z²,
  -- which is 2 at 1 and 2 at 4; v1 and v4 by −2 (1 − z/3) = −2 + 2z/3; 2/3 is 715827883
  pub equal_points : other_draw 4 2 1 (5 ∷ 3 ∷ 3 ∷ 7 ∷ []) (7 ∷ 9 ∷ 1 ∷ 6 ∷ 2 ∷ 3 ∷ 3 ∷ 1 ∷ 2 ∷ 5 ∷ 6 ∷ 1 ∷ 2 ∷ 0 ∷ 4 ∷ []) 0 6 (2 ∷ 3 ∷ [])
      ≡ 13 ∷ 4 ∷ 2 ∷ 4 ∷ 715827885 ∷ 3 ∷ 3 ∷ 1 ∷ 2 ∷ 5 ∷ 6 ∷ 1 ∷ 0 ∷ 715827883 ∷ 4 ∷ []

-- n = 3, t = 1, f = 7 + 10z, v1 = 1 + 2z + 8z², v2 = 3 + 9z + 4z², v3 = 5 + 11z; the posts' points are 2 and 3, 5 and 7, 11 and 13
abbrev pub ws₂ : List ℕ
ws₂ = 2 ∷ 3 ∷ 5 ∷ 7 ∷ 11 ∷ 13 ∷ []

abbrev pub draw₂ : List ℕ
draw₂ = 7 ∷ 10 ∷ 1 ∷ 2 ∷ 8 ∷ 3 ∷ 9 ∷ 4 ∷ 5 ∷ 11 ∷ 0 ∷ []

pub record TwoPoints : Type 0 where
  -- 106 in place of 100, post 1 listed: f changes by 6 (1 − z), which is −6 at 2 and −12 at 3; v2 by 6 (1 − z/2)(1 − z/3) = 6 − 5z + z², v3 by
  -- twice that
  pub for_one : other_draw 3 1 2 ws₂ draw₂ 100 106 (1 ∷ []) ≡ 13 ∷ 4 ∷ 1 ∷ 2 ∷ 8 ∷ 9 ∷ 4 ∷ 5 ∷ 17 ∷ 1 ∷ 2 ∷ []
  -- both points of post 1 are 2, which counts once: 102 in place of 100, v2 changes by 2 (1 − z/2) = 2 − z, v3 by twice that
  pub equal_points : other_draw 3 1 2 (2 ∷ 2 ∷ 5 ∷ 7 ∷ 11 ∷ 13 ∷ []) draw₂ 100 102 (1 ∷ []) ≡ 9 ∷ 8 ∷ 1 ∷ 2 ∷ 8 ∷ 5 ∷ 8 ∷ 4 ∷ 9 ∷ 9 ∷ 0 ∷ []
  pub for_nobody : other_draw 3 1 2 ws₂ draw₂ 100 102 [] ≡ 9 ∷ 10 ∷ 1 ∷ 2 ∷ 8 ∷ 3 ∷ 9 ∷ 4 ∷ 5 ∷ 11 ∷ 0 ∷ []
  pub for_all : other_draw 3 1 2 ws₂ draw₂ 100 100 (1 ∷ 2 ∷ 3 ∷ []) ≡ draw₂

abbrev room : List ℕ
room = replicate 8 9

pub record Refused : Type 0 where
  -- exactly t posts are taken, and all of them with equal secrets
  pub taken : other_refusal_of 3 1 1 ws draw 100 42 (3 ∷ []) room ≡ 0
  pub equal_for_all : other_refusal_of 3 1 1 ws draw 100 100 (1 ∷ 2 ∷ 3 ∷ []) room ≡ 0
  pub too_many : other_refusal_of 3 1 1 ws draw 100 42 (1 ∷ 3 ∷ []) room ≡ 19
  -- 18 is asked of equal secrets too, before 19 and after 8
  pub not_rising_is : other_refusal_of 3 1 1 ws draw 100 100 (2 ∷ 2 ∷ []) room ≡ 18
  pub falling : other_refusal_of 3 1 1 ws draw 100 42 (3 ∷ 1 ∷ []) room ≡ 18
  pub no_post : other_refusal_of 3 1 1 ws draw 100 42 (0 ∷ []) room ≡ 18
  pub no_fourth : other_refusal_of 3 1 1 ws draw 100 42 (4 ∷ []) room ≡ 18
  pub longer : other_refusal_of 3 1 1 ws draw 100 100 (1 ∷ 2 ∷ 3 ∷ 4 ∷ []) room ≡ 18
  pub beyond_first : other_refusal_of 3 1 1 ws draw 100 2147483647 (2 ∷ 2 ∷ []) room ≡ 8
  pub secret_beyond : other_refusal_of 3 1 1 ws draw 2147483647 42 (3 ∷ []) room ≡ 8
  pub three_points : other_refusal_of 3 1 3 ws draw 100 42 (3 ∷ []) room ≡ 4
  pub two_points_is : other_refusal_of 3 1 2 ws draw 100 42 (3 ∷ []) room ≡ 5
  pub short : other_refusal_of 3 1 1 ws draw 100 42 (3 ∷ []) (replicate 7 9) ≡ 5
  pub short_draw : other_refusal_of 3 1 1 ws (replicate 7 9) 100 42 (3 ∷ []) room ≡ 5
  -- what a refused call leaves
  pub left : other_out 3 1 1 ws draw 100 42 (1 ∷ 3 ∷ []) room ≡ 9 ∷ 9 ∷ 9 ∷ 9 ∷ 9 ∷ 9 ∷ 9 ∷ 9 ∷ []
