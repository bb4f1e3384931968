-- Document 01, "Broadcast lines" and refusals 10 and 11: the form of a line, and the range of its numbers.
use Rattle.std.specs.Prelude.{ℕ, ◌+◌, ◌*◌, ◌≡◌, List, [], ◌∷◌, Bool, true, false, ◌||◌, cond, length, get_or, drop, eqb, ltb}
use Rattle.refusal.specs.Refusal.{Test, ◌when◌}
use Rattle.refusal.specs.Conditions.{outside, any_beyond}
use Rattle.csv_fields.specs.Fields.{Parsed, parsed, malformed, fields_at, ended, numbers_of_of}
use Rattle.forms.specs.Lines.{Message, last_row_of}

abbrev pub is_letter : ℕ → Bool
is_letter b = eqb b 68 || (eqb b 79 || eqb b 77)

-- How many numbers stand behind row and post, where a message has k coefficients.
abbrev pub number_count_of : ℕ → ℕ → ℕ
number_count_of k b = cond (eqb b 68) 1 (cond (eqb b 79) k (2 * k))

-- How many fields a line has in all.
abbrev pub field_count : ℕ → ℕ → ℕ
field_count k b = cond (eqb b 68) 1 2 + number_count_of k b

-- The fields of a line of the right form: "letter, field count, digits, .. final line feed".
unfoldable pub form_of : ℕ → List ℕ → Parsed
form_of k s = cond (is_letter (get_or s 0 0)) (ended s (fields_at (field_count k (get_or s 0 0)) s 1)) malformed

-- What a letter and a line's numbers say.
abbrev pub message_of : ℕ → List ℕ → Message
message_of b xs =
    record {
      letter = b;
      row = get_or xs 0 0;
      post = cond (eqb b 68) 0 (get_or xs 1 0);
      numbers = drop (cond (eqb b 68) 1 2) xs;
    }

abbrev pub is_malformed : Parsed → Bool
is_malformed (parsed xs next) = false
is_malformed malformed = true

-- What a line says.
abbrev pub message : ℕ → List ℕ → Message
message k s = message_of (get_or s 0 0) (numbers_of_of (form_of k s))

-- "element at least p, row above 95 (a triple's first above 93), post outside 1..n"; `big` says the first.
abbrev pub out_of_range_of : ℕ → ℕ → ℕ → ℕ → Bool → Bool
out_of_range_of n letter row post big = ltb (last_row_of letter) row || (cond (eqb letter 68) false (outside 1 n post) || big)

abbrev pub beyond_range : ℕ → Message → Bool
beyond_range n m = out_of_range_of n m.letter m.row m.post (any_beyond m.numbers)

-- 10 and 11 of a line.
abbrev pub line_tests : ℕ → ℕ → List ℕ → List Test
line_tests n k s = 10 when is_malformed (form_of k s) ∷ 11 when beyond_range n (message k s) ∷ []

-- A message that posts send: what a line may say, where a message has k coefficients.
pub record Sent (n k : ℕ) (m : Message) : Type 0 where
  pub letter_is : is_letter m.letter ≡ true
  pub count : length m.numbers ≡ number_count_of k m.letter
  pub no_post : m.letter ≡ 68 → m.post ≡ 0
  pub in_range : beyond_range n m ≡ false
