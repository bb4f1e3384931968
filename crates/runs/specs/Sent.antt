-- Document 01, demand 3, "a row counts as opened from its first opening message ...; masks don't count": which lines each call sends, said
-- beside the outline, call by call. A row is opened by its opening message and by no other call; the theorems of demand 3 ask for equal
-- numbers at every line of an opening that the outline has.
use Rattle.std.specs.Prelude.{ℕ, ◌*◌, ◌≡◌, List, [], ◌∷◌, ◌++◌, map, length}
use Rattle.terms.specs.declared.Term.{Term}
use Rattle.terms.specs.Listed.{products_of}
use Rattle.runs.specs.Outline.{Kinds, CallOf, load_row_of, load_triple_of, deal, message, opening, linear, masks, collect, multiply, relation_masks_of, relation_finish_of, access, Sending, its_opening, its_masks, sends}
use Rattle.runs.specs.Calls.{Call, Post, perform, pieces}

abbrev pub lines_of : {K : Kinds} → CallOf K → List Sending
lines_of (load_row_of x) = []
lines_of (load_triple_of x) = []
lines_of (deal x) = []
lines_of (message x) = its_opening x.r ∷ []
lines_of (opening x) = []
lines_of (linear x) = []
lines_of (masks x) = its_masks x.a x.b x.r ∷ []
lines_of (collect x) = []
lines_of (multiply x) = []
lines_of (relation_masks_of x) = map (λ t. its_masks t.row t.second t.first) (products_of x.terms)
lines_of (relation_finish_of x) = []
lines_of (access x) = []

-- What the lists of a relation's masks make together.
abbrev pub joined : List (List ℕ) → List ℕ
joined [] = []
joined (xs ∷ parts) = xs ++ joined parts

-- Each call sends these lines; "to broadcast each message that is made": every list that it writes is one of them, and those that a
-- relation's masks are cut into are the whole list.
pub record Sent : Type 1 where
  pub lines : {K : Kinds} (c : CallOf K) → sends c ≡ lines_of c
  pub all : (c : Call) (q : Post) → length (perform c q).lent ≡ length (sends c)
  pub whole : (w m : ℕ) (xs : List ℕ) → length xs ≡ m * w → joined (pieces w m xs) ≡ xs
