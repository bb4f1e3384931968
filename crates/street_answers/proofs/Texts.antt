-- The text of an answer: two by computing, and its order.
use Prim.Native.Nat.{ℕ}
use mathlib.Core.Path.{◌≡◌, refl, ap}
use mathlib.Core.List.{List, ◌++◌, append_assoc}
use Rattle.decimal.specs.Numeral.{numeral, last_digits, size_within}
use Rattle.csv_fields.specs.Fields.{fields}
use Rattle.street_answers.specs.Text.{long_numeral, answer_text}
use Rattle.street_answers.specs.Claims.{three_digits, AnswerTexts}

in_order : (number refusal value : ℕ) → answer_text number refusal value ≡ three_digits (long_numeral number) (numeral refusal) (numeral value)
unfolding fields
in_order number refusal value = simp append_assoc

pub answer_texts : AnswerTexts
unfolding last_digits size_within fields
answer_texts =
    record {
      opened = refl;
      refused = refl;
      largest = refl;
      order = in_order;
      printed = λ number refusal value told. ap (λ (l : List ℕ). l ++ told) (in_order number refusal value);
    }
