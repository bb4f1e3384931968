-- What the walk's outcome answers; proved in proofs/Settles.antt.
use Rattle.std.specs.Prelude.{ℕ, ◌≡◌, List}
use Rattle.session.specs.declared.Party.{Party}
use Rattle.accepting.specs.Accepting.{disagree, opened}
use Rattle.walk.specs.Number.{opened_row, told, outcome_of, answer_of, told_of}

-- What a row opens to is what the walk's two cases answer, and what is told of it is what the paper's numbers make of them.
abbrev pub OutcomeAnswers : Type 0
OutcomeAnswers =
    (q : Party) (row blocks : List ℕ)
    → (opened_row q row blocks ≡ answer_of (outcome_of q row blocks) (disagree q row blocks) (opened q row blocks))
    × (told (opened_row q row blocks) ≡ told_of (outcome_of q row blocks) (disagree q row blocks) (opened q row blocks))
