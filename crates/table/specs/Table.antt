-- Document 01, "Reckoned by hand": "P1 to P10 form a table of definitions' results, proved by one theorem." The definitions are
-- those that the contracts cite.
use Rattle.std.specs.Prelude.{ℕ, ◌-◌, ◌≡◌, true, false, Ok, Err, List, [], ◌∷◌, ◌++◌, map, get_or}
use Rattle.shape.specs.declared.Points.{Points}
use Rattle.refusal.specs.declared.Refusal.TheVariants.{InconsistentShares}
use Rattle.shape.specs.Lengths.{shape}
use Rattle.parts.specs.Draw.{part, each_post, first_draw, second_draw, third_draw}
use Rattle.factory.specs.Calls.{dealer_number_of}
use Rattle.session.specs.declared.Session.{Session}
use Rattle.session.specs.Sessions.{created}
use Rattle.session.specs.Rows.{sums_at_of, coefficients, plus_sums}
use Rattle.opening.specs.Walking.{accepts, share, accepted_posts, opened_row, told}
use Rattle.product_masks.specs.Masks.{less}
use Rattle.collect.specs.Collect.{OpenedMasks, opened_both}
use Rattle.multiply.specs.Multiply.{product_row}
use Rattle.forms.specs.Lines.{deal, text}
use Rattle.forms.specs.Forms.{message}
use Rattle.lines.specs.Reading.{read_refusal, line_as, list_as}
use Rattle.lines.specs.Writing.{write_deal_refusal, written_as, part_as}

-- "n = 3, t = 1, check points 2, 3, 5; f = 7 + 4z; v1 = 1 + 2z, v2 = 3 + z, v3 = 5 + 6z."
unfoldable pub point_at : ℕ → ℕ
point_at i = get_or (2 ∷ 3 ∷ 5 ∷ []) (i - 1) 0

unfoldable pub drawn : List ℕ
drawn = 7 ∷ 4 ∷ 1 ∷ 2 ∷ 3 ∷ 1 ∷ 5 ∷ 6 ∷ []

-- one check point a post
abbrev pub points_of : ℕ → Points
points_of i = record { first = point_at i; second = 0 }

-- post i's new session, and its part of a draw
abbrev pub session_at : ℕ → Session
session_at i = (created 3 1 i 1 (points_of i)).session

abbrev pub post_row : List ℕ → ℕ → List ℕ
post_row draw i = part (shape 3 1 1) i (points_of i) draw

-- a record with post 2's block alone
abbrev pub from_post2 : ℕ → ℕ → List ℕ
from_post2 a b = (0 ∷ 0 ∷ 0 ∷ []) ++ ((1 ∷ a ∷ b ∷ []) ++ (0 ∷ 0 ∷ 0 ∷ []))

-- a record with the false 1 + 2z from post 2, and post 3's own polynomial
abbrev pub false_and_true : List ℕ
false_and_true = (0 ∷ 0 ∷ 0 ∷ []) ++ ((1 ∷ 1 ∷ 2 ∷ []) ++ (1 ∷ 5 ∷ 6 ∷ []))

-- a record with what each post holds of a number
abbrev pub from_all_of : (ℕ → List ℕ) → List ℕ
from_all_of row =
    (1 ∷ coefficients (session_at 1) (row 1))
    ++ ((1 ∷ coefficients (session_at 2) (row 2)) ++ (1 ∷ coefficients (session_at 3) (row 3)))

-- P8: post i's row "after P1", when it is dealt
abbrev pub dealt_row : ℕ → List ℕ
dealt_row i = plus_sums (sums_at_of (session_at i)) (dealer_number_of 100 7).value (post_row drawn i)

-- P9: rows of a = 6 and b = 7, and of a triple with l = 2 and l' = 5, whose draw lacks the constant of l''
unfoldable pub drawn_a : List ℕ
drawn_a = 6 ∷ 4 ∷ 1 ∷ 2 ∷ 3 ∷ 1 ∷ 5 ∷ 6 ∷ []

unfoldable pub drawn_b : List ℕ
drawn_b = 7 ∷ 5 ∷ 2 ∷ 1 ∷ 1 ∷ 1 ∷ 4 ∷ 2 ∷ []

unfoldable pub drawn_triple : List ℕ
drawn_triple =
    (2 ∷ 1 ∷ 5 ∷ 1 ∷ 3 ∷ 2 ∷ 1 ∷ 7 ∷ []) ++ ((5 ∷ 2 ∷ 1 ∷ 1 ∷ 6 ∷ 3 ∷ 2 ∷ 2 ∷ []) ++ (9 ∷ 4 ∷ 1 ∷ 8 ∷ 3 ∷ 5 ∷ 2 ∷ []))

abbrev pub row_l : ℕ → List ℕ
row_l i = post_row (first_draw 8 drawn_triple) i

abbrev pub row_l' : ℕ → List ℕ
row_l' i = post_row (second_draw 8 drawn_triple) i

abbrev pub row_l'' : ℕ → List ℕ
row_l'' i = post_row (third_draw 8 drawn_triple) i

-- a − l and b − l', what each post opens of them, and its row of the product
abbrev pub mask_row_a : ℕ → List ℕ
mask_row_a i = less (post_row drawn_a i) (row_l i)

abbrev pub mask_row_b : ℕ → List ℕ
mask_row_b i = less (post_row drawn_b i) (row_l' i)

abbrev pub masks_opened : ℕ → OpenedMasks
masks_opened i = opened_both (session_at i) (mask_row_a i) (mask_row_b i) (from_all_of mask_row_a) (from_all_of mask_row_b)

abbrev pub multiplied : ℕ → List ℕ
multiplied i = product_row (session_at i) (masks_opened i).y_a (masks_opened i).y_b (row_l i) (row_l' i) (row_l'' i)

-- P10: `D,0,93` and `D,0,093`, each with a line feed; and lists that are lent for 2(t+1) numbers and for 7 bytes
abbrev pub dealt93 : List ℕ
dealt93 = 68 ∷ 44 ∷ 48 ∷ 44 ∷ 57 ∷ 51 ∷ 10 ∷ []

abbrev pub dealt093 : List ℕ
dealt093 = 68 ∷ 44 ∷ 48 ∷ 44 ∷ 48 ∷ 57 ∷ 51 ∷ 10 ∷ []

abbrev pub lent : List ℕ
lent = 1 ∷ 1 ∷ 1 ∷ 1 ∷ []

abbrev pub lent_bytes : List ℕ
lent_bytes = 1 ∷ 1 ∷ 1 ∷ 1 ∷ 1 ∷ 1 ∷ 1 ∷ []

-- P10: the line reads, as D of row 0 with 93
pub record Reads : Type 0 where
  pub line : line_as (read_refusal 3 1 1 dealt93 lent) (message 2 dealt93) ≡ record { refusal = 0; letter = 68; row = 0; post = 0 }
  pub numbers : list_as (read_refusal 3 1 1 dealt93 lent) (message 2 dealt93) lent ≡ 93 ∷ 0 ∷ 0 ∷ 0 ∷ []

-- and writes back
pub record Writes : Type 0 where
  pub answer : written_as (write_deal_refusal 3 1 0 93 7) (text (deal 0 93)) ≡ record { refusal = 0; len = 7 }
  pub bytes : part_as (write_deal_refusal 3 1 0 93 7) (text (deal 0 93)) lent_bytes ≡ dealt93

pub record Table : Type 0 where
  -- P1 "dealing 100 gives c = 93."
  pub p1 : dealer_number_of 100 7 ≡ record { refusal = 0; value = 93 }
  -- P2 "dealing 3 gives 2147483643."
  pub p2 : dealer_number_of 3 7 ≡ record { refusal = 0; value = 2147483643 }
  -- P3 "post 1's row: 1,2,5,5,17,12,18,24."
  pub p3 : post_row drawn 1 ≡ 1 ∷ 2 ∷ 5 ∷ 5 ∷ 17 ∷ 12 ∷ 18 ∷ 24 ∷ []
  -- P4 "post 3's: 5,6,11,8,35,12,18,24."
  pub p4 : post_row drawn 3 ≡ 5 ∷ 6 ∷ 11 ∷ 8 ∷ 35 ∷ 12 ∷ 18 ∷ 24 ∷ []
  -- P5 "post 1 accepts 3 + z from post 2."
  pub p5 : accepts (session_at 1) (post_row drawn 1) (from_post2 3 1) 2 ≡ true
  -- P6 "it rejects 6 + 0z."
  pub p6 : accepts (session_at 1) (post_row drawn 1) (from_post2 6 0) 2 ≡ false
  -- P7 "it accepts the false 1 + 2z from post 2; post 3 rejects it."
  pub p7 : accepts (session_at 1) (post_row drawn 1) (from_post2 1 2) 2 ≡ true
  pub p7' : accepts (session_at 3) (post_row drawn 3) (from_post2 1 2) 2 ≡ false
  -- P8 "after P1 the shares are 104, 108, 112;"
  pub p8 : each_post 3 (share (session_at 1) (dealt_row 1) (from_all_of dealt_row)) ≡ 104 ∷ 108 ∷ 112 ∷ []
  -- "posts 1 and 2 give 100, posts 2 and 3 give 100."
  pub p8_by : accepted_posts (session_at 1) (dealt_row 1) (from_post2 3 1) ≡ 1 ∷ 2 ∷ []
  pub p8_gives : opened_row (session_at 1) (dealt_row 1) (from_post2 3 1) ≡ Ok 100
  pub p8_told : told (opened_row (session_at 1) (dealt_row 1) (from_post2 3 1)) ≡ record { refusal = 0; value = 100 }
  pub p8_by' : accepted_posts (session_at 3) (dealt_row 3) (from_post2 3 1) ≡ 2 ∷ 3 ∷ []
  pub p8_gives' : opened_row (session_at 3) (dealt_row 3) (from_post2 3 1) ≡ Ok 100
  pub p8_told' : told (opened_row (session_at 3) (dealt_row 3) (from_post2 3 1)) ≡ record { refusal = 0; value = 100 }
  -- 02, (iv): with post 3's polynomial beside the false one of P7 the shares are 104, 110, 112, and post 1 gets 13.
  pub disagreeing : opened_row (session_at 1) (dealt_row 1) false_and_true ≡ Err InconsistentShares
  pub disagreeing_told : told (opened_row (session_at 1) (dealt_row 1) false_and_true) ≡ record { refusal = 13; value = 0 }
  -- P9 "a = 6, b = 7, l = 2, l' = 5: y = 4, y' = 2, product 42.", at each post
  pub p9 : map masks_opened (1 ∷ 2 ∷ 3 ∷ [])
      ≡ record { refusal = 0; y_a = 4; y_b = 2 } ∷ record { refusal = 0; y_a = 4; y_b = 2 } ∷ record { refusal = 0; y_a = 4; y_b = 2 } ∷ []
  pub p9_product : map (λ i. opened_row (session_at i) (multiplied i) (from_all_of multiplied)) (1 ∷ 2 ∷ 3 ∷ [])
      ≡ Ok 42 ∷ Ok 42 ∷ Ok 42 ∷ []
  pub p9_told : map (λ i. told (opened_row (session_at i) (multiplied i) (from_all_of multiplied))) (1 ∷ 2 ∷ 3 ∷ [])
      ≡ record { refusal = 0; value = 42 } ∷ record { refusal = 0; value = 42 } ∷ record { refusal = 0; value = 42 } ∷ []
  -- P10 "`D,0,93` reads and writes back; `D,0,093` gets 10."
  pub p10_reads : Reads
  pub p10_writes : Writes
  pub p10_refused : read_refusal 3 1 1 dealt093 lent ≡ 10
