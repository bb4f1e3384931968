-- Document 01, "Calls on a session", Open, with document 02, (iv): what a row opens to, the number or the walk's refusal.
use Rattle.std.specs.Prelude.{ℕ, zero, suc, ◌-◌, Bool, true, false, Option, None, Some, Result, Ok, Err, List}
use Rattle.std.specs.Result.{result_unwrap_or}
use Rattle.refusal.specs.declared.Refusal.{Refusal}
use Rattle.refusal.specs.declared.Refusal.TheVariants.{TooFewAccepted, InconsistentShares}
use Rattle.refusal.specs.Numbers.{refused}
use Rattle.shape.specs.Lengths.{needed}
use Rattle.session.specs.declared.Party.{Party}
use Rattle.accepting.specs.Accepting.{accepts, too_few_of, disagree, opened}

-- The number, or 0 where there is none: what an answer shows beside a refusal.
abbrev pub value_or_zero : Result ℕ Refusal → ℕ
value_or_zero found = result_unwrap_or found 0

-- What an answer tells of it: the refusal's number, 0 for none, and the value.
pub record Told : Type 0 where
  pub refusal : ℕ
  pub value : ℕ

abbrev pub told : Result ℕ Refusal → Told
told found = record { refusal = refused found; value = value_or_zero found }

-- 13 where a further share disagrees, else the number
abbrev pub or_thirteen : Bool → ℕ → Result ℕ Refusal
or_thirteen true value = Err InconsistentShares
or_thirteen false value = Ok value

-- 9 where too few are accepted; 13 comes "after 9"
abbrev pub or_nine : Bool → Bool → ℕ → Result ℕ Refusal
or_nine true off value = Err TooFewAccepted
or_nine false off value = or_thirteen off value

-- An opening's number, or 9, or 13.
abbrev pub opened_row : Party → List ℕ → List ℕ → Result ℕ Refusal
opened_row q row blocks = or_nine (too_few_of q row blocks) (disagree q row blocks) (opened q row blocks)

-- How the walk ends: at the post that completes as many as are needed, or at none.
unfoldable pub walk_end_of : (ℕ → Bool) → ℕ → ℕ → ℕ → Option ℕ
walk_end_of test j k zero = Some (j - 1)
walk_end_of test j zero (suc need) = None
walk_end_of test j (suc k) (suc need) =
    elim (test j) [ true ↦ walk_end_of test (suc j) k need | false ↦ walk_end_of test (suc j) k (suc need) ]

abbrev pub outcome_of : Party → List ℕ → List ℕ → Option ℕ
outcome_of q row blocks = walk_end_of (accepts q row blocks) 1 q.shape.n (needed q.shape)

-- What the walk's outcome opens to: 9 where it found too few; where it found enough, the number, or 13 where a further share is off.
abbrev pub answer_of : Option ℕ → Bool → ℕ → Result ℕ Refusal
answer_of None off value = Err TooFewAccepted
answer_of (Some last) off value = or_thirteen off value

-- "If an answer is an enum, a definition gives this paper's number and values for each of the enum's cases": 9 with 0 where the
-- walk found too few; where it found enough, the number, or 13 with 0 where a further share is off.
abbrev pub told_of : Option ℕ → Bool → ℕ → Told
told_of None off value = record { refusal = 9; value = 0 }
told_of (Some last) true value = record { refusal = 13; value = 0 }
told_of (Some last) false value = record { refusal = 0; value = value }
