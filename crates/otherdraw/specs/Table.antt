-- Document 01's table and document 02, (xiv), line by line, for the call: one flat list of numbered tests, in figures. proofs/Theorems.antt shows
-- that the call's own tests are these.
use Rattle.std.specs.Prelude.{ℕ, ◌+◌, ◌*◌, ◌-◌, Bool, false, not, ◌||◌, ◌&&◌, List, [], ◌∷◌, eqb, ltb, length}
use Rattle.refusal.specs.Refusal.{Test, ◌when◌}
use Rattle.refusal.specs.Conditions.{outside, wrong_length, any_beyond}
use Rattle.factory.specs.Calls.{any_bad_point}

-- "isn't rising": a post is not above the one before it
unfoldable pub falls : List ℕ → Bool
falls [] = false
falls (i ∷ []) = false
falls (i ∷ j ∷ is) = not (ltb i j) || falls (j ∷ is)

-- "or leaves 1..n": a post is outside 1..n
unfoldable pub leaves : ℕ → List ℕ → Bool
leaves n [] = false
leaves n (i ∷ is) = outside 1 n i || leaves n is

abbrev pub other_table : ℕ → ℕ → ℕ → List ℕ → List ℕ → ℕ → ℕ → List ℕ → List ℕ → List Test
other_table n t points ws draw secret wanted posts out =
    1 when outside 2 255 n
    ∷ 2 when outside 1 (n - 1) t
    ∷ 4 when outside 1 2 points
    ∷ 4 when any_bad_point ws
    ∷ 5 when wrong_length ws (points * n)
    ∷ 5 when wrong_length draw (t + 1 + n * (points * t + 1))
    ∷ 5 when wrong_length out (t + 1 + n * (points * t + 1))
    ∷ 8 when any_beyond draw
    ∷ 8 when ltb 2147483646 secret
    ∷ 8 when ltb 2147483646 wanted
    ∷ 18 when (falls posts || leaves n posts)
    ∷ 19 when (not (eqb secret wanted) && ltb t (length posts))
    ∷ []
