-- Document 02, (xi): "A line `A,row,` and rising post numbers (`A,row,` alone for none), read by a new call on the session ..., sets it on a
-- raw row". "Numbers that don't rise get 10, then a post outside 1..n gets 11, then a row not raw gets 7."
use Rattle.std.specs.Prelude.{ℕ, zero, suc, ◌+◌, ◌*◌, ◌-◌, ◌/◌, ◌%◌, ◌^◌, Bool, true, false, not, ◌||◌, ◌&&◌, cond, List, [], ◌∷◌, ◌++◌, eqb, ltb, length, get_or, set, replicate}
use Rattle.std.specs.Int.Bits.{bit_and}
use Rattle.refusal.specs.Refusal.{Test, ◌when◌, first}
use Rattle.refusal.specs.Conditions.{outside}
use Rattle.shape.specs.Marks.{raw}
use Rattle.session.specs.declared.Session.{Session}
use Rattle.session.specs.declared.Answer.{Answer}
use Rattle.session.specs.Sessions.{points_of, session_tests, with_barred, answer}
use Rattle.session.specs.Checks.{no_row, wrong_mark_of}
use Rattle.csv_fields.specs.Fields.{Parsed, parsed, malformed, push, fields_at, ended}

-- ---- the line's form

-- The number of commas of a line: its row and each of its posts stand behind one.
unfoldable pub commas : List ℕ → ℕ
commas [] = 0
commas (x ∷ xs) = cond (eqb x 44) (suc (commas xs)) (commas xs)

-- "`A,row,` alone for none": behind the row a comma and the line feed, and nothing more.
abbrev pub alone : List ℕ → ℕ → Bool
alone s at = eqb (get_or s at 0) 44 && (eqb (get_or s (at + 1) 0) 10 && eqb (length s) (at + 2))

-- The posts behind the row, to the line's end: one for each comma but the row's, and one at least.
abbrev pub several_at : List ℕ → ℕ → Parsed
several_at s at = cond (ltb (commas s) 2) malformed (ended s (fields_at (commas s - 1) s at))

abbrev pub posts_at : List ℕ → ℕ → Parsed
posts_at s at = cond (alone s at) (parsed [] (at + 1)) (several_at s at)

abbrev pub behind_row : List ℕ → Parsed → Parsed
behind_row s (parsed [] next) = malformed
behind_row s (parsed (row ∷ rest) next) = push row (posts_at s next)
behind_row s malformed = malformed

-- The row and the posts of an A line.
abbrev pub access_fields : List ℕ → Parsed
access_fields s = cond (eqb (get_or s 0 0) 65) (behind_row s (fields_at 1 s 1)) malformed

-- "rising post numbers": each above the one before it.
abbrev pub rising_from : ℕ → List ℕ → Bool
rising_from low [] = true
rising_from low (x ∷ xs) = ltb low x && rising_from x xs

abbrev pub rising : List ℕ → Bool
rising [] = true
rising (x ∷ xs) = rising_from x xs

-- 10
abbrev pub bad_access : Parsed → Bool
bad_access (parsed [] next) = true
bad_access (parsed (r ∷ cs) next) = not (rising cs)
bad_access malformed = true

abbrev pub access_row : Parsed → ℕ
access_row (parsed [] next) = 0
access_row (parsed (r ∷ cs) next) = r
access_row malformed = 0

abbrev pub access_posts : Parsed → List ℕ
access_posts (parsed [] next) = []
access_posts (parsed (r ∷ cs) next) = cs
access_posts malformed = []

-- 11
abbrev pub any_outside : ℕ → List ℕ → Bool
any_outside n [] = false
any_outside n (c ∷ cs) = outside 1 n c || any_outside n cs

-- ---- the call

abbrev pub access_tests : Session → List ℕ → List Test
access_tests s line =
    session_tests s.n s.t s.post s.points (points_of s)
    ++ (10 when bad_access (access_fields line)
    ∷ 11 when (no_row (access_row (access_fields line)) || any_outside s.n (access_posts (access_fields line)))
    ∷ 7 when wrong_mark_of s (access_row (access_fields line)) raw
    ∷ [])

unfoldable pub access_refusal : Session → List ℕ → ℕ
access_refusal s line = first (access_tests s line)

-- ---- the set

-- Eight numbers that bar every post, of which post c is then barred no longer: its bit is c - 1 of 256.
abbrev pub every_post : List ℕ
every_post = replicate 8 4294967295

unfoldable pub admitted : List ℕ → ℕ → List ℕ
admitted words c =
    cond (outside 1 256 c) words
    (set words ((c - 1) / 32) (bit_and (get_or words ((c - 1) / 32) 0) (4294967295 - 2 ^ ((c - 1) % 32))))

abbrev pub admitted_all : List ℕ → List ℕ → List ℕ
admitted_all words [] = words
admitted_all words (c ∷ cs) = admitted_all (admitted words c) cs

-- The first k of them become row r's.
unfoldable pub placed : ℕ → List ℕ → ℕ → List ℕ → List ℕ
placed zero sets r words = sets
placed (suc k) sets r words = set (placed k sets r words) (8 * r + k) (get_or words k 0)

-- Row r is barred to all posts but those listed.
abbrev pub access_sets : List ℕ → List ℕ → List ℕ
access_sets line sets = placed 8 sets (access_row (access_fields line)) (admitted_all every_post (access_posts (access_fields line)))

abbrev pub access_answer : Session → List ℕ → Answer
access_answer s line = answer (access_refusal s line) 0 (with_barred s (access_sets line s.barred)) s
