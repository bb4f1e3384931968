-- Between the functions of the code: an answer behind its line's number. No theorem is stated with it.
use Rattle.std.specs.Prelude.{ℕ, List, [], ◌∷◌, ◌++◌}
use Rattle.csv_fields.specs.Fields.{fields}

abbrev pub end_text : ℕ → ℕ → List ℕ
end_text refusal value = fields (refusal ∷ value ∷ []) ++ (10 ∷ [])

-- No more stands there.
abbrev pub longest_end : ℕ
longest_end = 23
