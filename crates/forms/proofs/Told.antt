-- A line gets 10 exactly where it is not the text of a letter and its numbers.
use Prim.Native.Nat.{ℕ}
use mathlib.Core.Path.{◌≡◌, refl}
use mathlib.Core.Logic.{inl, inr}
use mathlib.Core.Bool.{Bool, true, false}
use mathlib.Core.List.{List}
use native.Mathlib.Omega.{arith}
use borrow.Author.Tests.{eqb-true}
use lib.Dec.{eqb}
use lib.ListN.{length, get_or}
use Rattle.csv_fields.specs.Fields.{written, Parsed, parsed, malformed, Small}
use Rattle.forms.specs.Forms.{is_letter, field_count, form_of, is_malformed}
use Rattle.forms.specs.Ten.{FieldsOf, Spelled, TenMeans}
use Rattle.forms.proofs.Forms.{form_spelled, form_read}

-- the letters and their counts
letters : (k b count : ℕ) → is_letter b ≡ true → count ≡ field_count k b → FieldsOf k b count
letters k b count = go (eqb b 68) refl (eqb b 79) refl (eqb b 77) refl
  where
    go : (x : Bool) → eqb b 68 ≡ x → (y : Bool) → eqb b 79 ≡ y → (z : Bool) → eqb b 77 ≡ z → is_letter b ≡ true → count ≡ field_count k b → FieldsOf k b count
    go true d y o z m l e = inl (eqb-true b 68 d, rw d at e)
    go false d true o z m l e = inr (inl (eqb-true b 79 o, rw (d, o) at e))
    go false d false o true m l e = inr (inr (eqb-true b 77 m, rw (d, o) at e))
    go false d false o false m l e = let z : ◌≡◌ {A = ℕ} 0 1 = cc in absurd (omega arith)

spelled : (k : ℕ) (s : List ℕ) (o : Parsed) → form_of k s ≡ o → is_malformed o ≡ false → Spelled k s
spelled k s malformed f e = let z : ◌≡◌ {A = ℕ} 0 1 = cc in absurd (omega arith)
spelled k s (parsed xs next) f e =
    let w = form_spelled k s xs next f in
    record { letter = get_or s 0 0; numbers = xs; fields = letters k (get_or s 0 0) (length xs) w.letter w.number; small = w.small; text = w.text }

read : (k b : ℕ) (xs : List ℕ) → FieldsOf k b (length xs) → Small xs → is_malformed (form_of k (written b xs)) ≡ false
read k b xs (inl h) small = rw (form_read k b xs (rw h.0) (rw h.0 h.1) small)
read k b xs (inr (inl h)) small = rw (form_read k b xs (rw h.0) (rw h.0 h.1) small)
read k b xs (inr (inr h)) small = rw (form_read k b xs (rw h.0) (rw h.0 h.1) small)

pub ten_means : TenMeans
ten_means k s =
    (spelled k s (form_of k s) refl, λ h. rw h.text (read k h.letter h.numbers h.fields h.small))
