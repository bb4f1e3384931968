-- Document 02, (ix), reckoned by hand, as P1 to P10 are for one check point: n = 3, t = 1, check points 2 and 4, 3 and 5, 5 and 7;
-- f = 7 + 4z; v1 = 1 + 2z + zz, v2 = 3 + z + 2zz, v3 = 5 + 6z + 3zz.
use Rattle.std.specs.Prelude.{ℕ, ◌+◌, ◌≡◌, true, false, Ok, Err, List, [], ◌∷◌, ◌++◌, get_or, replicate}
use Rattle.poly.specs.Polynomial.{value}
use Rattle.shape.specs.declared.Points.{Points}
use Rattle.refusal.specs.declared.Refusal.TheVariants.{TooFewAccepted}
use Rattle.factory.specs.Calls.{dealer_number_of, factory_row_refusal, factory_row_out}
use Rattle.session.specs.declared.Session.{Session}
use Rattle.session.specs.declared.Answer.{Answer}
use Rattle.session.specs.Sessions.{created}
use Rattle.session.specs.Rows.{sums_at_of, plus_sums}
use Rattle.opening.specs.Walking.{accepts, share, accepted_posts, opened_row, told}
use Rattle.forms.specs.Lines.{opening, text}
use Rattle.forms.specs.Forms.{message}
use Rattle.lines.specs.Reading.{read_refusal, line_as, list_as}
use Rattle.packlines.specs.File.{start_line}
use Rattle.table.specs.Table as One

-- "both points of each post in a list"
unfoldable pub points : List ℕ
points = 2 ∷ 4 ∷ 3 ∷ 5 ∷ 5 ∷ 7 ∷ []

abbrev pub pair : ℕ → ℕ → Points
pair a b = record { first = a; second = b }

-- "v1..vn have 2t+1 coefficients while f keeps t+1"
unfoldable pub drawn : List ℕ
drawn = 7 ∷ 4 ∷ 1 ∷ 2 ∷ 1 ∷ 3 ∷ 1 ∷ 2 ∷ 5 ∷ 6 ∷ 3 ∷ []

-- Post 1's row, at 2 and 4: v1 is 9 and 25 there, v2 13 and 39, v3 29 and 77; "both check values of each sender follow one another". The
-- public sums are those of P3.
unfoldable pub row1 : List ℕ
row1 = 1 ∷ 2 ∷ 1 ∷ 9 ∷ 25 ∷ 13 ∷ 39 ∷ 29 ∷ 77 ∷ 12 ∷ 18 ∷ 24 ∷ []

-- Post 2's, at 3 and 5, and post 3's, at 5 and 7.
unfoldable pub row2 : List ℕ
row2 = 3 ∷ 1 ∷ 2 ∷ 16 ∷ 36 ∷ 24 ∷ 58 ∷ 50 ∷ 110 ∷ 12 ∷ 18 ∷ 24 ∷ []

unfoldable pub row3 : List ℕ
row3 = 5 ∷ 6 ∷ 3 ∷ 36 ∷ 64 ∷ 58 ∷ 108 ∷ 110 ∷ 194 ∷ 12 ∷ 18 ∷ 24 ∷ []

abbrev pub session1 : Session
session1 = (created 3 1 1 2 (pair 2 4)).session

abbrev pub session3 : Session
session3 = (created 3 1 3 2 (pair 5 7)).session

-- a record with post 2's block alone, and one with the blocks of posts 2 and 3
abbrev pub from_post2 : ℕ → ℕ → ℕ → List ℕ
from_post2 a b c = (0 ∷ 0 ∷ 0 ∷ 0 ∷ []) ++ ((1 ∷ a ∷ b ∷ c ∷ []) ++ (0 ∷ 0 ∷ 0 ∷ 0 ∷ []))

abbrev pub from_both : List ℕ
from_both = (0 ∷ 0 ∷ 0 ∷ 0 ∷ []) ++ ((1 ∷ 3 ∷ 1 ∷ 2 ∷ []) ++ (1 ∷ 5 ∷ 6 ∷ 3 ∷ []))

-- the rows when 100 is dealt, as in P8
abbrev pub dealt : Session → List ℕ → List ℕ
dealt s row = plus_sums (sums_at_of s) (dealer_number_of 100 7).value row

-- `O,0,2,3,1,2`, and lists that are lent for 2(2t+1) numbers, and for three rows
abbrev pub opening_line : List ℕ
opening_line = 79 ∷ 44 ∷ 48 ∷ 44 ∷ 50 ∷ 44 ∷ 51 ∷ 44 ∷ 49 ∷ 44 ∷ 50 ∷ 10 ∷ []

abbrev pub lent : List ℕ
lent = 1 ∷ 1 ∷ 1 ∷ 1 ∷ 1 ∷ 1 ∷ []

abbrev pub lent_rows : List ℕ
lent_rows = replicate 36 0

-- A new session, and refusal 4 of it.
pub record News : Type 0 where
  pub two : ((created 3 1 1 2 (pair 2 4)).refusal ≡ 0) × (session1.points ≡ 2) × (session1.first ≡ 2) × (session1.second ≡ 4)
  -- equal points, and the largest, are taken
  pub equal : (created 3 1 1 2 (pair 2 2)).refusal ≡ 0
  pub largest : (created 3 1 1 2 (pair 2147483646 2147483646)).refusal ≡ 0
  -- "a number of points other than 1 or 2"
  pub none : (created 3 1 1 0 (pair 2 4)).refusal ≡ 4
  pub three : (created 3 1 1 3 (pair 2 4)).refusal ≡ 4
  -- "the second point too gets 4 when 0 or at least p"
  pub first_zero : (created 3 1 1 2 (pair 0 4)).refusal ≡ 4
  pub first_p : (created 3 1 1 2 (pair 2147483647 4)).refusal ≡ 4
  pub second_zero : (created 3 1 1 2 (pair 2 0)).refusal ≡ 4
  pub second_p : (created 3 1 1 2 (pair 2 2147483647)).refusal ≡ 4
  -- with one point the second is not looked at, and is 0 in the session
  pub one : ((created 3 1 1 1 (pair 2 2147483647)).refusal ≡ 0) × ((created 3 1 1 1 (pair 2 2147483647)).session.second ≡ 0)
  -- 3 before 4
  pub order : (created 3 1 4 3 (pair 0 0)).refusal ≡ 3

pub record TwoPoints : Type 0 where
  -- the factory's list: all posts' rows, post 1 first
  pub taken : factory_row_refusal 3 1 2 points drawn lent_rows ≡ 0
  pub packs : factory_row_out 3 1 2 points drawn lent_rows ≡ row1 ++ (row2 ++ row3)
  -- post 1 accepts v2 from post 2
  pub true_one : accepts session1 row1 (from_post2 3 1 2) 2 ≡ true
  -- 13 is v2's value at 2 and not at 4, and 39 at 4 and not at 2: each passes one value and is refused by the other
  pub first_passed : value (13 ∷ 0 ∷ 0 ∷ []) 2 ≡ 13
  pub first_only : accepts session1 row1 (from_post2 13 0 0) 2 ≡ false
  pub second_passed : value (39 ∷ 0 ∷ 0 ∷ []) 4 ≡ 39
  pub second_only : accepts session1 row1 (from_post2 39 0 0) 2 ≡ false
  -- it accepts the false 11 − 5z + 3zz, which is v2 at both; post 3 rejects it
  pub both_passed : accepts session1 row1 (from_post2 11 2147483642 3) 2 ≡ true
  pub other_post : accepts session3 row3 (from_post2 11 2147483642 3) 2 ≡ false
  -- the shares are those of P8, and t+1 accepted posts give 100
  pub share2 : share session1 (dealt session1 row1) (from_post2 3 1 2) 2 ≡ 108
  pub by : accepted_posts session1 (dealt session1 row1) (from_post2 3 1 2) ≡ 1 ∷ 2 ∷ []
  pub gives : opened_row session1 (dealt session1 row1) (from_post2 3 1 2) ≡ Ok 100
  pub gives_told : told (opened_row session1 (dealt session1 row1) (from_post2 3 1 2)) ≡ record { refusal = 0; value = 100 }
  pub all_give : opened_row session1 (dealt session1 row1) from_both ≡ Ok 100
  pub all_give_told : told (opened_row session1 (dealt session1 row1) from_both) ≡ record { refusal = 0; value = 100 }
  pub too_few : opened_row session1 (dealt session1 row1) (from_post2 13 0 0) ≡ Err TooFewAccepted
  pub too_few_told : told (opened_row session1 (dealt session1 row1) (from_post2 13 0 0)) ≡ record { refusal = 9; value = 0 }
  -- "Messages have 2t+1 coefficients, and the list of a line read twice that"
  pub line : text (opening 0 2 (3 ∷ 1 ∷ 2 ∷ [])) ≡ opening_line
  pub line_read : line_as (read_refusal 3 1 2 opening_line lent) (message 3 opening_line) ≡ record { refusal = 0; letter = 79; row = 0; post = 2 }
  pub line_numbers : list_as (read_refusal 3 1 2 opening_line lent) (message 3 opening_line) lent ≡ 3 ∷ 1 ∷ 2 ∷ 0 ∷ 0 ∷ 0 ∷ []
  pub line_short : read_refusal 3 1 2 One.dealt93 One.lent ≡ 5
  pub line_of_three : read_refusal 3 1 3 opening_line lent ≡ 4
  -- `W,3,1,1,2,4` and `S,3,1,1,2`
  pub start_two : start_line (record { shape = record { n = 3; t = 1; points = 2 }; post = 1; points = pair 2 4 })
      ≡ 87 ∷ 44 ∷ 51 ∷ 44 ∷ 49 ∷ 44 ∷ 49 ∷ 44 ∷ 50 ∷ 44 ∷ 52 ∷ 10 ∷ []
  pub start_one : start_line (record { shape = record { n = 3; t = 1; points = 1 }; post = 1; points = pair 2 0 })
      ≡ 83 ∷ 44 ∷ 51 ∷ 44 ∷ 49 ∷ 44 ∷ 49 ∷ 44 ∷ 50 ∷ 10 ∷ []
  pub news : News
