-- The A line's tests, flat: "Numbers that don't rise get 10, then a post outside 1..n gets 11, then a row not raw gets 7."
use Rattle.std.specs.Prelude.{ℕ, ◌-◌, ◌≡◌, ◌||◌, ◌&&◌, List, [], ◌∷◌, eqb, ltb}
use Rattle.refusal.specs.Refusal.{Test, ◌when◌}
use Rattle.refusal.specs.Conditions.{outside}
use Rattle.session.specs.declared.Session.{Session}
use Rattle.session.specs.Checks.{wrong_mark_of}
use Rattle.access.specs.Access.{access_fields, access_row, access_posts, bad_access, any_outside, access_tests}

abbrev pub access_table : Session → List ℕ → List Test
access_table s line =
    1 when outside 2 255 s.n
    ∷ 2 when outside 1 (s.n - 1) s.t
    ∷ 3 when outside 1 s.n s.post
    ∷ 4 when (outside 1 2 s.points || (outside 1 2147483646 s.first || (eqb s.points 2 && outside 1 2147483646 s.second)))
    ∷ 10 when bad_access (access_fields line)
    ∷ 11 when (ltb 95 (access_row (access_fields line)) || any_outside s.n (access_posts (access_fields line)))
    ∷ 7 when wrong_mark_of s (access_row (access_fields line)) 1
    ∷ []

abbrev pub AccessTable : Type 0
AccessTable = (s : Session) (line : List ℕ) → access_tests s line ≡ access_table s line
