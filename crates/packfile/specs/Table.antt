-- Document 02's (vii) with document 01's table, line by line: one flat list of numbered tests. proofs/Theorems.antt shows that the
-- call's refusal is this list's. Bounds, kinds and lengths are the documents' figures, not the names of `shape` and `kinds`.
use Rattle.std.specs.Prelude.{ℕ, ◌+◌, ◌*◌, ◌-◌, not, ◌&&◌, ◌||◌, cond, List, [], ◌∷◌, eqb, ltb, length, get_or}
use Rattle.refusal.specs.Refusal.{Test, ◌when◌}
use Rattle.refusal.specs.Conditions.{outside, wrong_length, any_beyond}
use Rattle.factory.specs.Calls.{any_bad_point}
use Rattle.kinds.specs.Kinds.{any_row}
use Rattle.packlines.specs.File.{file}
use Rattle.packfile.specs.Writing.{post_at}

-- "their stated length counts each 1 and 3, rightly placed or not": for a 1 "t+1 coefficients of f, then t+1 for each of v1 to vn", for a
-- 3 "three such draws", of which "the third lacks f's constant".
unfoldable pub stated_length : ℕ → ℕ → ℕ → List ℕ → ℕ
stated_length n t points [] = 0
stated_length n t points (k ∷ ks) =
    cond (eqb k 1) (t + 1 + n * (points * t + 1)) (cond (eqb k 3) (3 * (t + 1 + n * (points * t + 1)) - 1) 0) + stated_length n t points ks

-- `room` is the length of the lent list.
abbrev pub pack_table : ℕ → ℕ → ℕ → ℕ → List ℕ → List ℕ → List ℕ → ℕ → List Test
pack_table n t post points ws kinds draws room =
    1 when outside 2 255 n
    ∷ 2 when outside 1 (n - 1) t
    ∷ 3 when outside 1 n post
    ∷ 4 when outside 1 2 points
    ∷ 4 when any_bad_point ws
    ∷ 5 when wrong_length ws (points * n)
    ∷ 5 when wrong_length kinds 96
    ∷ 5 when wrong_length draws (stated_length n t points kinds)
    ∷ 6 when any_row (λ row k ks. eqb k 3 && ltb 93 row) 0 kinds
    ∷ 7 when any_row (λ row k ks. eqb k 3 && (not (eqb (get_or ks 0 0) 0) || not (eqb (get_or ks 1 0) 0))) 0 kinds
    ∷ 8 when any_row (λ row k ks. not (eqb k 0) && (not (eqb k 1) && not (eqb k 3))) 0 kinds
    ∷ 8 when any_beyond draws
    ∷ 12 when ltb room (length (file (post_at n t post points ws) kinds draws))
    ∷ []
