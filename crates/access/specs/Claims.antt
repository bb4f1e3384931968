-- Demand 1 of the A line, with the flat table for its tests; proved in proofs/Theorems.antt. And what set it leaves, post by post; proved in
-- proofs/Listed.antt; and its bytes, in proofs/Bytes.antt.
use Rattle.std.specs.Prelude.{ℕ, zero, suc, ◌+◌, ◌*◌, ◌-◌, ◌≤◌, ◌<◌, ◌≡◌, ◌≢◌, Bool, true, false, not, ◌||◌, List, [], ◌∷◌, ◌++◌, eqb, length, get_or}
use Rattle.refusal.specs.Refusal.{Test, ◌when◌, first, AllFail}
use Rattle.csv_fields.specs.Fields.{fields, Small, parsed, numbers_of_of}
use Rattle.callers.specs.Sets.{bars}
use Rattle.session.specs.declared.Session.{Session}
use Rattle.session.specs.Sessions.{with_barred}
use Rattle.access.specs.Access.{access_fields, rising, any_outside, access_row, access_posts, access_sets, access_answer}
use Rattle.access.specs.Table.{access_table}

-- A test with this number applies, and none that stands before it. (10 and 11 stand before 7 here, so the numbers' own order does not tell.)
pub data FirstOf (k : ℕ) : List Test → Type 0 where
  here : {ts : List Test} → FirstOf k (k when true ∷ ts)
  later : {j : ℕ} {ts : List Test} → FirstOf k ts → FirstOf k (j when false ∷ ts)

-- It does its one job, or returns the first refusal, with 0 for a value and the session as it came. It is lent no list but the line.
pub record AccessDone (s : Session) (line : List ℕ) : Type 0 where
  pub accepts : first (access_table s line) ≡ 0 → AllFail (access_table s line)
  pub only : AllFail (access_table s line) → first (access_table s line) ≡ 0
  pub applies : (first (access_table s line) ≡ 0 → ⊥) → FirstOf (first (access_table s line)) (access_table s line)
  pub untouched : (first (access_table s line) ≡ 0 → ⊥)
      → access_answer s line ≡ record { refusal = first (access_table s line); value = 0; session = s }
  pub done : first (access_table s line) ≡ 0
      → access_answer s line ≡ record { refusal = 0; value = 0; session = with_barred s (access_sets line s.barred) }

abbrev pub AccessLawful : Type 0
AccessLawful = (s : Session) (line : List ℕ) → AccessDone s line

-- "`A,row,` and rising post numbers ..., sets it": the row bars just the posts that are not listed, whoever it barred before, and every other
-- row bars whom it barred.
abbrev pub listed : ℕ → List ℕ → Bool
listed c [] = false
listed c (x ∷ xs) = eqb c x || listed c xs

abbrev pub SetListed : Type 0
SetListed =
    (line sets : List ℕ) (c : ℕ) → length sets ≡ 768 → 1 ≤ c → c ≤ 255
    → (access_row (access_fields line) < 96
    → bars (access_sets line sets) (access_row (access_fields line)) c ≡ not (listed c (access_posts (access_fields line))))
    × ((r : ℕ) → r ≢ access_row (access_fields line) → bars (access_sets line sets) r c ≡ bars sets r c)

-- ---- the line in bytes: "`A,row,` and rising post numbers (`A,row,` alone for none)", in ASCII, by csv's fields

abbrev pub line_end_of : List ℕ → List ℕ
line_end_of [] = 44 ∷ 10 ∷ []
line_end_of (c ∷ cs) = 10 ∷ []

abbrev pub access_text : ℕ → List ℕ → List ℕ
access_text row posts = 65 ∷ (fields (row ∷ posts) ++ line_end_of posts)

-- Each of these is read, whatever its numbers of at most 10 digits, and a line that is read (10 meets any other) is one of them.
pub record AccessBytes : Type 0 where
  pub read : (row : ℕ) (posts : List ℕ) → Small (row ∷ posts) → numbers_of_of (access_fields (access_text row posts)) ≡ row ∷ posts
  pub only : (line xs : List ℕ) (next : ℕ) → access_fields line ≡ parsed xs next
      → (row : ℕ) × (posts : List ℕ) × (xs ≡ row ∷ posts) × (line ≡ access_text row posts) × Small xs

-- "rising post numbers", each above the one before it, and "a post outside 1..n", any of them: both ways, place by place.
pub record PostsMean : Type 0 where
  pub rises : (cs : List ℕ) → rising cs ≡ true → (i : ℕ) → suc i < length cs → get_or cs i 0 < get_or cs (suc i) 0
  pub risen : (cs : List ℕ) → ((i : ℕ) → suc i < length cs → get_or cs i 0 < get_or cs (suc i) 0) → rising cs ≡ true
  pub all_inside : (n : ℕ) (cs : List ℕ) → any_outside n cs ≡ false → (i : ℕ) → i < length cs → (1 ≤ get_or cs i 0) × (get_or cs i 0 ≤ n)
  pub none_outside : (n : ℕ) (cs : List ℕ) → ((i : ℕ) → i < length cs → (1 ≤ get_or cs i 0) × (get_or cs i 0 ≤ n)) → any_outside n cs ≡ false

-- ---- the longest A line of n posts: 92 bytes at 32, 917 at 255

-- The letter, the last row behind its comma and the line feed; a comma and a digit for each post; a second digit from post 10 on, a third
-- from post 100 on.
abbrev pub longest_access : ℕ → ℕ
longest_access n = 5 + 2 * n + (n - 9) + (n - 99)

-- The posts from c on, k of them.
abbrev pub all_from : ℕ → ℕ → List ℕ
all_from c zero = []
all_from c (suc k) = c ∷ all_from (suc c) k

-- The line that names the last row and all posts.
abbrev pub all_admitted : ℕ → List ℕ
all_admitted n = access_text 95 (all_from 1 n)

-- No line that the call takes is longer, and this one is as long; it is taken wherever a line for the last row is.
pub record LongestAccess : Type 0 where
  pub none_longer : (s : Session) (line : List ℕ) → first (access_table s line) ≡ 0 → length line ≤ longest_access s.n
  pub one_as_long : (n : ℕ) → n ≤ 255 → 1 ≤ n → length (all_admitted n) ≡ longest_access n
  pub taken : (s : Session) (line : List ℕ) → access_row (access_fields line) ≡ 95 → first (access_table s line) ≡ 0
      → first (access_table s (all_admitted s.n)) ≡ 0
  pub at_32 : longest_access 32 ≡ 92
  pub at_255 : longest_access 255 ≡ 917
