-- Document 01, "Calls on a session": the acts of a call, told by the marks that they leave ("0 empty; 1 raw; 2 held; ..."). Demands 2 and 3
-- ask something of every act that the outline has: another one would be another demand, and one too many a premise too many.
use Rattle.std.specs.Prelude.{ℕ, ◌+◌, ◌*◌, ◌≡◌, List, [], ◌∷◌, length, set}
use Rattle.terms.specs.Listed.{products_of}
use Rattle.runs.specs.Outline.{load_row_of, load_triple_of, deal, message, opening, linear, masks, collect, multiply, relation_masks_of, relation_finish_of, access, Act, loads, loads_triple, deals, opens, sums, factors, collects, multiplies, admits, acts}
use Rattle.runs.specs.Calls.{Call, Post, perform}

abbrev pub marks_by : Act → List ℕ → List ℕ
marks_by (loads r) l = set l r 1
marks_by (loads_triple r) l = set (set (set l r 3) (r + 1) 4) (r + 2) 4
marks_by (deals r) l = set l r 2
marks_by (opens r) l = l
marks_by (sums r t ts) l = set l r 2
marks_by (factors a b r) l = set l r 5
marks_by (collects r) l = set l r 7
marks_by (multiplies r) l = set (set (set l r 6) (r + 1) 6) (r + 2) 2
marks_by (admits line) l = l

abbrev pub marks_after : List Act → List ℕ → List ℕ
marks_after [] l = l
marks_after (a ∷ todo) l = marks_after todo (marks_by a l)

-- One act, but for a message, which changes nothing, and a relation, which does for each product term what the single calls do, and then
-- stores the sum.
abbrev pub many : Call → ℕ
many (load_row_of x) = 1
many (load_triple_of x) = 1
many (deal x) = 1
many (message x) = 0
many (opening x) = 1
many (linear x) = 1
many (masks x) = 1
many (collect x) = 1
many (multiply x) = 1
many (access x) = 1
many (relation_masks_of x) = length (products_of x.terms)
many (relation_finish_of x) = 2 * length (products_of x.terms) + 1

-- Of a call that is not refused.
pub record ActsLeave (c : Call) (q : Post) : Type 0 where
  pub marks : (perform c q).answer.session.marks ≡ marks_after (acts c) q.session.marks
  pub count : length (acts c) ≡ many c

abbrev pub ActsDo : Type 0
ActsDo = (c : Call) (q : Post) → (perform c q).answer.refusal ≡ 0 → ActsLeave c q
