-- The law of document 02, (viii), about the old finish, for a second call right behind the first and for a later one; proved in
-- proofs/Pair.antt.
use Rattle.std.specs.Prelude.{ℕ, ◌+◌, ◌≡◌, List, length}
use Rattle.shape.specs.Bounds.{row_count_of}
use Rattle.session.specs.declared.Session.{Session}
use Rattle.session.specs.Sessions.{sharing, factor_a_of, factor_b_of, mark, opened_a_of, opened_b_of, holding, marked, recalling}
use Rattle.session.specs.Rows.{width, row_at, with_row}
use Rattle.collect.specs.Collect.{number_a, number_b, collect_refusal, collect_answer}
use Rattle.multiply.specs.Multiply.{multiply_refusal_of, multiply_answer, multiply_rows_of}
use Rattle.product_law.specs.Finish.{finish_refusal, finish_answer, finish_rows}

-- "A session has 96 rows": what the code's arrays are, of the lists that a call of a finish writes into.
pub record Whole (s : Session) : Type 0 where
  pub marks : length s.marks ≡ row_count_of
  pub y_a_is : length s.y_a ≡ row_count_of
  pub y_b_is : length s.y_b ≡ row_count_of

-- Nothing else is asked: every session of the code, whose arrays have 96 numbers, is one.
abbrev pub WholeIs : Type 0
WholeIs = (s : Session) → length s.marks ≡ 96 → length s.y_a ≡ 96 → length s.y_b ≡ 96 → Whole s

-- A session with the three marks that another one has on the triple at r.
abbrev pub with_marks_of : Session → ℕ → Session → Session
with_marks_of s r other =
    marked (marked (marked (sharing s (r + 2) (factor_a_of s r) (factor_b_of s r)) r (mark other r)) (r + 1) (mark other (r + 1))) (r + 2) (mark other (r + 2))

-- "After both calls the triple's rows are those the old finish left, and its marks 6, 6, 2." The second call gets the session that the
-- first handed back, and the same rows.
module _ (s : Session) (rows : List ℕ) (r : ℕ) (blocks_a blocks_b : List ℕ) where
  abbrev pub collected_session : Session
  collected_session = (collect_answer s rows r blocks_a blocks_b).session

  pub record AsFinish : Type 0 where
    -- the two calls are done exactly where the old one was
    pub both : finish_refusal s rows r blocks_a blocks_b ≡ 0
        → (collect_refusal s rows r blocks_a blocks_b ≡ 0) × (multiply_refusal_of collected_session rows r ≡ 0)
    pub one : collect_refusal s rows r blocks_a blocks_b ≡ 0 → multiply_refusal_of collected_session rows r ≡ 0 → finish_refusal s rows r blocks_a blocks_b ≡ 0
    -- and then leave all the rows, and the session but for the two numbers that stay
    pub rows_are : finish_refusal s rows r blocks_a blocks_b ≡ 0 → multiply_rows_of collected_session rows r ≡ finish_rows s rows r blocks_a blocks_b
    pub session_is : finish_refusal s rows r blocks_a blocks_b ≡ 0
        → multiply_answer collected_session rows r
        ≡ holding 0 0 (recalling (finish_answer s rows r blocks_a blocks_b).session r (number_a s rows r blocks_a) (number_b s rows r blocks_b))

  -- The second call on another session s' and other rows.
  pub record AsFinishLater (s' : Session) (rows' : List ℕ) : Type 0 where
    pub both : finish_refusal s rows r blocks_a blocks_b ≡ 0 → (collect_refusal s rows r blocks_a blocks_b ≡ 0) × (multiply_refusal_of s' rows' r ≡ 0)
    pub one : collect_refusal s rows r blocks_a blocks_b ≡ 0 → multiply_refusal_of s' rows' r ≡ 0 → finish_refusal s rows r blocks_a blocks_b ≡ 0
    -- the third row is the one that the old finish left; nothing else is written
    pub rows_are : finish_refusal s rows r blocks_a blocks_b ≡ 0
        → multiply_rows_of s' rows' r ≡ with_row (width s) (r + 2) (row_at (width s) (finish_rows s rows r blocks_a blocks_b) (r + 2)) rows'
    -- and the triple's marks are those that the old finish left
    pub session_is : finish_refusal s rows r blocks_a blocks_b ≡ 0
        → multiply_answer s' rows' r ≡ holding 0 0 (with_marks_of s' r (finish_answer s rows r blocks_a blocks_b).session)

abbrev pub PairFinishes : Type 0
PairFinishes = (s : Session) (rows : List ℕ) (r : ℕ) (blocks_a blocks_b : List ℕ) → Whole s → AsFinish s rows r blocks_a blocks_b

-- What may stand between the two calls: anything that leaves what the second one reads, the triple's three rows, its three marks and its
-- two numbers, in a session and rows of the same shape.
pub record Untouched (s : Session) (rows : List ℕ) (r : ℕ) (s' : Session) (rows' : List ℕ) : Type 0 where
  pub n_same : s'.n ≡ s.n
  pub t_same : s'.t ≡ s.t
  pub post_same : s'.post ≡ s.post
  pub points_same : s'.points ≡ s.points
  pub first_same : s'.first ≡ s.first
  pub second_same : s'.second ≡ s.second
  pub length_same : length rows' ≡ length rows
  pub first_row : row_at (width s) rows' r ≡ row_at (width s) rows r
  pub second_row : row_at (width s) rows' (r + 1) ≡ row_at (width s) rows (r + 1)
  pub third_row : row_at (width s) rows' (r + 2) ≡ row_at (width s) rows (r + 2)
  pub first_mark : mark s' r ≡ mark s r
  pub second_mark : mark s' (r + 1) ≡ mark s (r + 1)
  pub third_mark : mark s' (r + 2) ≡ mark s (r + 2)
  pub y_a_is : opened_a_of s' r ≡ opened_a_of s r
  pub y_b_is : opened_b_of s' r ≡ opened_b_of s r
  pub factor_a_is : factor_a_of s' r ≡ factor_a_of s r
  pub factor_b_is : factor_b_of s' r ≡ factor_b_of s r
  pub a_mark : mark s' (factor_a_of s r) ≡ mark s (factor_a_of s r)
  pub b_mark : mark s' (factor_b_of s r) ≡ mark s (factor_b_of s r)

-- `PairFinishes` is the case of the first call's own session and rows.
abbrev pub PairFinishesLater : Type 0
PairFinishesLater =
    (s : Session) (rows : List ℕ) (r : ℕ) (blocks_a blocks_b : List ℕ) (s' : Session) (rows' : List ℕ) → Whole s
    → Untouched (collected_session s rows r blocks_a blocks_b) rows r s' rows' → AsFinishLater s rows r blocks_a blocks_b s' rows'
