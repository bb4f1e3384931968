-- A lie that a later post contradicts (document 02, (iv): "a false one among them went through while a later honest post contradicted
-- it"): three posts hold row 0, and post 1 opens it. Of post 2 a record shows the false 1 + 2z, which passes at post 1's check point 2. Then
-- the same with a collect's records and with those of a relation's finish: "It refuses with 13 when an accepted share lies off that
-- polynomial, in either record of a finish".
use Rattle.std.specs.Prelude.{ℕ, ◌≡◌, List, [], ◌∷◌, ◌++◌}
use Rattle.session.specs.Rows.{width, row_at}
use Rattle.opening.specs.Walking.{accepted, opened}
use Rattle.opening.specs.Opening.{open_answer}
use Rattle.collect.specs.Collect.{mask_a, mask_b, collect_answer}
use Rattle.terms.specs.Listed.{collected}
use Rattle.relation.specs.Finish.{relation_finish_answer}
use Rattle.runs.specs.Calls.{Post, message}
use Rattle.correctness.specs.History.{Event, history}
use Rattle.correctness_examples.specs.Station.{call, load, deal_of, room}
use Rattle.correctness_examples.specs.Run.{draw, before, new}
use Rattle.correctness_examples.specs.Fees.{fair, starts, sends}

unfoldable pub dealing : List Event
dealing =
    load draw 1 0 ∷ load draw 2 0 ∷ load draw 3 0 ∷ deal_of draw 1 0 6 ∷ deal_of draw 2 0 6 ∷ deal_of draw 3 0 6
    ∷ call 2 (message 0 1 room) ∷ call 3 (message 0 1 room) ∷ []

abbrev pub opener : Post
opener = (history dealing new).posts 1

-- Post 2's polynomial is 3 + z, post 3's 5 + 6z: both as they were sent; the false one of post 2 with post 3's; and post 2's with the
-- false 17 + 0z of post 3, which passes too.
abbrev pub sent_both : List ℕ
sent_both = 0 ∷ 0 ∷ 0 ∷ 1 ∷ 3 ∷ 1 ∷ 1 ∷ 5 ∷ 6 ∷ []

abbrev pub false_low : List ℕ
false_low = 0 ∷ 0 ∷ 0 ∷ 1 ∷ 1 ∷ 2 ∷ 1 ∷ 5 ∷ 6 ∷ []

abbrev pub false_high : List ℕ
false_high = 0 ∷ 0 ∷ 0 ∷ 1 ∷ 3 ∷ 1 ∷ 1 ∷ 17 ∷ 0 ∷ []

abbrev row_zero : List ℕ
row_zero = row_at (width opener.session) opener.rows 0

abbrev pub refusal_with : List ℕ → ℕ
refusal_with blocks = (open_answer opener.session opener.rows 0 blocks).refusal

-- The lie is accepted, and the number through the lowest two, which was the answer, is not 6; now it is refused with 13, as is a lie
-- behind the lowest two; and what both sent opens to 6.
pub record Contradicted : Type 0 where
  pub accepted_all : accepted opener.session row_zero false_low ≡ 1 ∷ 2 ∷ 3 ∷ []
  pub went_through : opened opener.session row_zero false_low ≡ 4
  pub refused : refusal_with false_low ≡ 13
  pub refused_behind : refusal_with false_high ≡ 13
  pub not_refused : refusal_with sent_both ≡ 0
  pub opens : (open_answer opener.session opener.rows 0 sent_both).value ≡ 6

-- ---- a finish

-- Post 1, once all three have sent their masks of the triple at 2. Those of post 2 are 0 − z of a − l and −5 − 2z of b − l', those of post 3
-- 4 − z and 2 + 0z.
abbrev pub collector : Post
collector = (history before new).posts 1

abbrev pub mask_a_sent : List ℕ
mask_a_sent = 0 ∷ 0 ∷ 0 ∷ 1 ∷ 0 ∷ 2147483646 ∷ 1 ∷ 4 ∷ 2147483646 ∷ []

abbrev pub mask_b_sent : List ℕ
mask_b_sent = 0 ∷ 0 ∷ 0 ∷ 1 ∷ 2147483642 ∷ 2147483645 ∷ 1 ∷ 2 ∷ 0 ∷ []

-- of post 2 the false −2 + 0z of a − l, and −9 + 0z of b − l', which pass at check point 2
abbrev pub mask_a_false : List ℕ
mask_a_false = 0 ∷ 0 ∷ 0 ∷ 1 ∷ 2147483645 ∷ 0 ∷ 1 ∷ 4 ∷ 2147483646 ∷ []

abbrev pub mask_b_false : List ℕ
mask_b_false = 0 ∷ 0 ∷ 0 ∷ 1 ∷ 2147483638 ∷ 0 ∷ 1 ∷ 2 ∷ 0 ∷ []

abbrev pub collect_with : List ℕ → List ℕ → ℕ
collect_with a b = (collect_answer collector.session collector.rows 2 a b).refusal

-- Each lie is accepted, and the collect is refused with 13, whichever record it stands in; with what was sent it is done.
pub record ContradictedCollect : Type 0 where
  pub accepted_a : accepted collector.session (mask_a collector.session collector.rows 2) mask_a_false ≡ 1 ∷ 2 ∷ 3 ∷ []
  pub accepted_b : accepted collector.session (mask_b collector.session collector.rows 2) mask_b_false ≡ 1 ∷ 2 ∷ 3 ∷ []
  pub refused_a : collect_with mask_a_false mask_b_sent ≡ 13
  pub refused_b : collect_with mask_a_sent mask_b_false ≡ 13
  pub not_refused : collect_with mask_a_sent mask_b_sent ≡ 0

-- Post 1 at the finish of the relation `fair`, whose product term has the same rows and triple, into row 7.
abbrev pub finisher : Post
finisher = (history (starts ++ sends) new).posts 1

abbrev pub finish_with : List ℕ → List ℕ → ℕ
finish_with a b = (relation_finish_answer finisher.session finisher.rows (collected fair) 7 (a ++ b)).refusal

pub record ContradictedFinish : Type 0 where
  pub refused_a : finish_with mask_a_false mask_b_sent ≡ 13
  pub refused_b : finish_with mask_a_sent mask_b_false ≡ 13
  pub not_refused : finish_with mask_a_sent mask_b_sent ≡ 0
