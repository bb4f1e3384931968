-- Between the functions of the code: what an `X` makes, and the second call of an `F`, where the first was not refused. No theorem is stated
-- with these.
use Rattle.std.specs.Prelude.{ℕ, ◌≤◌, ◌≡◌, List, take, replicate}
use Rattle.shape.specs.Lengths.{masks_length}
use Rattle.refusal.specs.Refusal.{outcome}
use Rattle.session.specs.declared.Session.{Session}
use Rattle.session.specs.declared.Answer.{Answer}
use Rattle.session.specs.Sessions.{shape_of}
use Rattle.product_masks.specs.Masks.{masks_answer, mask_numbers_of}
use Rattle.multiply.specs.Multiply.{multiply_answer, multiply_rows_of}
use Rattle.street_store.specs.Sizes.{street_posts}
use Rattle.street_states.specs.States.{rows_of, with_rows}

-- The answer to an `X` and the lent list: where the masks are not refused they stand at its start, and the post of their line is in range.
pub record Masked (s : Session) (store : List ℕ) (a b first : ℕ) (ans : Answer) (ms : List ℕ) : Type 0 where
  pub answer_is : ans ≡ masks_answer s (rows_of s store) a b first (replicate (masks_length (shape_of s)) 0)
  pub made : ans.refusal ≡ 0 → take (masks_length (shape_of s)) ms ≡ mask_numbers_of s (rows_of s store) a b first
  pub post_in : ans.refusal ≡ 0 → s.post ≤ street_posts

abbrev pub after_answer : Answer → List ℕ → ℕ → Answer
after_answer a store first = outcome a.refusal (multiply_answer a.session (rows_of a.session store) first) a

abbrev pub after_rows : Answer → List ℕ → ℕ → List ℕ
after_rows a store first =
    outcome a.refusal (with_rows a.session (multiply_rows_of a.session (rows_of a.session store) first) store) store
