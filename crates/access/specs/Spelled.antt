-- The refusals of an A line told by its row and its posts, whatever its length: "Numbers that don't rise get 10, then a post outside 1..n gets 11, then
-- a row not raw gets 7"; a line of any other bytes gets 10. The call's table has 10 and 11 by `bad_access`, `access_row` and `access_posts`; without this a
-- line that lists many posts could get 10 for 11. Proved in proofs/Spelled.antt.
use Rattle.std.specs.Prelude.{ℕ, ◌-◌, ◌≡◌, not, ◌||◌, ◌&&◌, List, [], ◌∷◌, ◌++◌, eqb, ltb, get_or}
use Rattle.refusal.specs.Refusal.{Test, ◌when◌, first, or_else}
use Rattle.refusal.specs.Conditions.{outside}
use Rattle.csv_fields.specs.Fields.{Small}
use Rattle.session.specs.declared.Session.{Session}
use Rattle.access.specs.Access.{rising, any_outside, access_refusal}
use Rattle.access.specs.Claims.{access_text}

-- 1 to 4 of the session
abbrev pub own_table : Session → List Test
own_table s =
    1 when outside 2 255 s.n
    ∷ 2 when outside 1 (s.n - 1) s.t
    ∷ 3 when outside 1 s.n s.post
    ∷ 4 when (outside 1 2 s.points || (outside 1 2147483646 s.first || (eqb s.points 2 && outside 1 2147483646 s.second)))
    ∷ []

abbrev pub spelled_table : Session → ℕ → List ℕ → List Test
spelled_table s row posts =
    own_table s
    ++ (10 when not (rising posts) ∷ 11 when (ltb 95 row || any_outside s.n posts) ∷ 7 when not (eqb (get_or s.marks row 0) 1) ∷ [])

pub record AccessSpelled : Type 0 where
  pub spelled : (s : Session) (row : ℕ) (posts : List ℕ) → Small (row ∷ posts)
      → access_refusal s (access_text row posts) ≡ first (spelled_table s row posts)
  pub otherwise : (s : Session) (line : List ℕ)
      → ((row : ℕ) (posts : List ℕ) → Small (row ∷ posts) → line ≡ access_text row posts → ⊥)
      → access_refusal s line ≡ or_else (first (own_table s)) 10
