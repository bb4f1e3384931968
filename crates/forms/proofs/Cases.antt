-- P10 and its neighbours of document 01, "Reckoned by hand", by computing.
use Prim.Native.Nat.{ℕ}
use mathlib.Core.Path.{◌≡◌, refl}
use mathlib.Core.List.{List, [], ◌∷◌}
use Rattle.refusal.specs.Refusal.{first}
use Rattle.refusal.specs.Conditions.{any_beyond}
use Rattle.decimal.specs.Numeral.{last_digits, size_within, leading, value_after, field_of}
use Rattle.csv_fields.specs.Fields.{fields, fields_at}
use Rattle.forms.specs.Lines.{deal, text}
use Rattle.forms.specs.Forms.{form_of, message, line_tests}

-- `D,0,93` and a line feed
abbrev pub dealt93 : List ℕ
dealt93 = 68 ∷ 44 ∷ 48 ∷ 44 ∷ 57 ∷ 51 ∷ 10 ∷ []

-- `D,0,093`
abbrev pub dealt093 : List ℕ
dealt093 = 68 ∷ 44 ∷ 48 ∷ 44 ∷ 48 ∷ 57 ∷ 51 ∷ 10 ∷ []

-- `D,0,2147483646`
abbrev pub dealt_last : List ℕ
dealt_last = 68 ∷ 44 ∷ 48 ∷ 44 ∷ 50 ∷ 49 ∷ 52 ∷ 55 ∷ 52 ∷ 56 ∷ 51 ∷ 54 ∷ 52 ∷ 54 ∷ 10 ∷ []

-- `D,0,2147483647`
abbrev pub dealt_p : List ℕ
dealt_p = 68 ∷ 44 ∷ 48 ∷ 44 ∷ 50 ∷ 49 ∷ 52 ∷ 55 ∷ 52 ∷ 56 ∷ 51 ∷ 54 ∷ 52 ∷ 55 ∷ 10 ∷ []

-- P10, with n = 3 and t = 1
pub p10 : (first (line_tests 3 2 dealt93) ≡ 0) × (message 2 dealt93 ≡ deal 0 93) × (text (deal 0 93) ≡ dealt93) × (first (line_tests 3 2 dealt093) ≡ 10)
unfolding last_digits size_within leading value_after field_of fields fields_at form_of any_beyond
p10 = (refl, refl, refl, refl)

-- "`D,0,2147483646` is read; `D,0,2147483647` gets 11."
pub element_bound : (first (line_tests 3 2 dealt_last) ≡ 0) × (message 2 dealt_last ≡ deal 0 2147483646) × (first (line_tests 3 2 dealt_p) ≡ 11)
unfolding last_digits size_within leading value_after field_of fields fields_at form_of any_beyond
element_bound = (refl, refl, refl)
