-- An A line in bytes, and which bits of which numbers it sets: figures that the definitions must meet.
use Rattle.std.specs.Prelude.{ℕ, ◌≡◌, true, false, List, [], ◌∷◌, get_or, replicate}
use Rattle.csv_fields.specs.Fields.{parsed, malformed}
use Rattle.access.specs.Access.{access_fields, rising, every_post, admitted_all, placed}

pub record Lines : Type 0 where
  -- `A,2,1,3`
  pub listed : access_fields (65 ∷ 44 ∷ 50 ∷ 44 ∷ 49 ∷ 44 ∷ 51 ∷ 10 ∷ []) ≡ parsed (2 ∷ 1 ∷ 3 ∷ []) 7
  -- "`A,row,` alone for none"
  pub none : access_fields (65 ∷ 44 ∷ 50 ∷ 44 ∷ 10 ∷ []) ≡ parsed (2 ∷ []) 4
  -- `A,2`, `A,2,1,`, `A,2,,` and an O
  pub no_comma : access_fields (65 ∷ 44 ∷ 50 ∷ 10 ∷ []) ≡ malformed
  pub comma_behind : access_fields (65 ∷ 44 ∷ 50 ∷ 44 ∷ 49 ∷ 44 ∷ 10 ∷ []) ≡ malformed
  pub two_commas : access_fields (65 ∷ 44 ∷ 50 ∷ 44 ∷ 44 ∷ 10 ∷ []) ≡ malformed
  pub other_letter : access_fields (79 ∷ 44 ∷ 50 ∷ 44 ∷ 49 ∷ 10 ∷ []) ≡ malformed
  -- "Numbers that don't rise": equal ones, and falling ones; a first 0 rises
  pub equal : rising (1 ∷ 1 ∷ []) ≡ false
  pub falling : rising (3 ∷ 2 ∷ []) ≡ false
  pub from_none : rising (0 ∷ 1 ∷ []) ≡ true

-- Posts 1, 3, 32, 33 and 255: bits 0, 2 and 31 of the first number, 0 of the second, 30 of the eighth are clear.
abbrev pub five_posts : List ℕ
five_posts = 2147483642 ∷ 4294967294 ∷ 4294967295 ∷ 4294967295 ∷ 4294967295 ∷ 4294967295 ∷ 4294967295 ∷ 3221225471 ∷ []

pub record Bits : Type 0 where
  pub five : admitted_all every_post (1 ∷ 3 ∷ 32 ∷ 33 ∷ 255 ∷ []) ≡ five_posts
  -- a row's eight numbers stand from 8 × row on
  pub before : get_or (placed 8 (replicate 32 0) 2 five_posts) 15 0 ≡ 0
  pub first : get_or (placed 8 (replicate 32 0) 2 five_posts) 16 0 ≡ 2147483642
  pub eighth : get_or (placed 8 (replicate 32 0) 2 five_posts) 23 0 ≡ 3221225471
  pub behind : get_or (placed 8 (replicate 32 0) 2 five_posts) 24 0 ≡ 0
