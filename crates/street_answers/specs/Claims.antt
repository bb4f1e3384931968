-- The text of an answer, byte by byte and in its order. Document 01: "per input line its number from 1, the refusal (0 for none) and the
-- number opened (0 if none)." Proved in proofs/Texts.antt.
use Rattle.std.specs.Prelude.{ℕ, ◌≡◌, List, [], ◌∷◌, ◌++◌}
use Rattle.decimal.specs.Numeral.{numeral}
use Rattle.street_answers.specs.Text.{long_numeral, answer_text, print_text}

-- The digits of three numbers, a comma between them and a line feed behind.
abbrev pub three_digits : List ℕ → List ℕ → List ℕ → List ℕ
three_digits a b c = a ++ (44 ∷ (b ++ (44 ∷ (c ++ (10 ∷ [])))))

pub record AnswerTexts : Type 0 where
  -- `12,0,2147483646`
  pub opened : answer_text 12 0 2147483646 ≡ 49 ∷ 50 ∷ 44 ∷ 48 ∷ 44 ∷ 50 ∷ 49 ∷ 52 ∷ 55 ∷ 52 ∷ 56 ∷ 51 ∷ 54 ∷ 52 ∷ 54 ∷ 10 ∷ []
  -- `3,10,0`
  pub refused : answer_text 3 10 0 ≡ 51 ∷ 44 ∷ 49 ∷ 48 ∷ 44 ∷ 48 ∷ 10 ∷ []
  -- 18446744073709551615, the largest number of a line
  pub largest : long_numeral 18446744073709551615
      ≡ 49 ∷ 56 ∷ 52 ∷ 52 ∷ 54 ∷ 55 ∷ 52 ∷ 52 ∷ 48 ∷ 55 ∷ 51 ∷ 55 ∷ 48 ∷ 57 ∷ 53 ∷ 53 ∷ 49 ∷ 54 ∷ 49 ∷ 53 ∷ []
  -- the line's number, then the refusal, then the value
  pub order : (number refusal value : ℕ)
      → answer_text number refusal value ≡ three_digits (long_numeral number) (numeral refusal) (numeral value)
  -- "X, when not refused, also prints its M line, after its answer."
  pub printed : (number refusal value : ℕ) (told : List ℕ)
      → print_text number refusal value told ≡ three_digits (long_numeral number) (numeral refusal) (numeral value) ++ told
