-- Rows, sums of rows and a session's lists, place by place.
use Prim.Native.Nat.{ℕ, zero, suc, ◌+◌, ◌*◌, ◌-◌, ◌≤◌, ◌<◌}
use mathlib.Core.Path.{◌≡◌, refl, sym, ◌∙◌, ap}
use mathlib.Core.List.{List, [], ◌∷◌, ◌++◌, map}
use native.Mathlib.Omega.{arith}
use borrow.Author.Tests.{eq-eqb}
use lib.ListN.{length, get_or, take, drop, length-append, length-map, length-drop, take-append-drop, get_or-append}
use lib.Seq.{get_or-take, get_or-drop, get_or-append-add, length-take-le}
use Rattle.field.specs.Arithmetic.{sum, product}
use Rattle.lists.proofs.Parts.{part_length, length_put, part_after}
use Rattle.refusal.proofs.Laws.{equal}
use Rattle.session.specs.declared.Session.{Session}
use Rattle.session.specs.Sessions.{mark}
use Rattle.session.specs.Rows.{with_row, combined, plus_sums}
use Rattle.session.specs.Places.{Fields, RowPlaces, WrittenPlaces, Raised, Places}

fields_placed : (s : Session) (r : ℕ) → Fields s r
fields_placed s r = record {
  mark_is = refl;
  wrong_mark_is = λ m e. equal (mark s r) m e;
  right_mark = λ m e. rw (eq-eqb (mark s r) m e);
  factors = (refl, refl);
  numbers = (refl, refl);
  marked_is = λ m. refl;
  remembering_is = λ a b. refl;
  recalling_is = λ y y'. refl;
  barred_is = λ c. refl;
  barring_is = λ sets. refl;
  sharing_is = λ a b. refl;
}

rows_placed : (w : ℕ) (rows : List ℕ) (r : ℕ) → RowPlaces w rows r
rows_placed w rows r = record {
  read = λ i h. get_or-take w (drop (r * w) rows) i 0 h ∙ get_or-drop (r * w) rows i 0;
  read_all = λ h. part_length (r * w) w rows h;
}

-- a number of a list, as the only one of a part
number_at : (l : List ℕ) (j : ℕ) → get_or l j 0 ≡ get_or (take 1 (drop j l)) 0 0
number_at l j = sym (get_or-take 1 (drop j l) 0 0 (omega arith) ∙ get_or-drop j l 0 0 ∙ ap (λ (n : ℕ). get_or l n 0) (omega arith))

written_placed : (w : ℕ) (rows : List ℕ) (r : ℕ) (x : List ℕ) → r * w + w ≤ length rows → length x ≡ w → WrittenPlaces w rows r x
written_placed w rows r x room wide = record {
  written = λ i h.
      ap (λ (n : ℕ). get_or (with_row w r x rows) (n + i) 0) (sym front)
      ∙ get_or-append-add (take (r * w) rows) (x ++ rest) i 0
      ∙ get_or-append x rest 0 i (omega arith);
  before = λ j h.
      get_or-append (take (r * w) rows) (x ++ rest) 0 j (omega (arith, front)) ∙ get_or-take (r * w) rows j 0 h;
  behind = λ j h.
      number_at (with_row w r x rows) j
      ∙ ap (λ (l : List ℕ). get_or l 0 0) (part_after (r * w) w rows x room wide j 1 h)
      ∙ sym (number_at rows j);
  as_long = length_put (r * w) w rows x room wide;
}
  where
    front : length (take (r * w) rows) ≡ r * w
    front = length-take-le (r * w) rows (omega arith)

    rest : List ℕ
    rest = drop w (drop (r * w) rows)

combined_at : (s : ℕ) (x y : List ℕ) → length x ≡ length y → (i : ℕ) → i < length x
    → get_or (combined s x y) i 0 ≡ sum (get_or x i 0) (product s (get_or y i 0))
unfolding combined
combined_at s [] y e i h = absurd (omega arith)
combined_at s (a ∷ x) [] e i h = absurd (omega arith)
combined_at s (a ∷ x) (b ∷ y) e zero h = refl
combined_at s (a ∷ x) (b ∷ y) e (suc i) h = combined_at s x y (omega arith) i (omega arith)

combined_long : (s : ℕ) (x y : List ℕ) → length x ≡ length y → length (combined s x y) ≡ length x
unfolding combined
combined_long s [] y e = refl
combined_long s (a ∷ x) [] e = absurd (omega arith)
combined_long s (a ∷ x) (b ∷ y) e = ap suc (combined_long s x y (omega arith))

mapped : (f : ℕ → ℕ) (l : List ℕ) (i : ℕ) → i < length l → get_or (map f l) i 0 ≡ f (get_or l i 0)
mapped f [] i h = absurd (omega arith)
mapped f (x ∷ l) zero h = refl
mapped f (x ∷ l) (suc i) h = mapped f l i (omega arith)

raised_placed : (k c : ℕ) (row : List ℕ) → k ≤ length row → Raised k c row
unfolding plus_sums
raised_placed k c row room = record {
  others = λ i h. get_or-append (take k row) raised 0 i (omega (arith, front)) ∙ get_or-take k row i 0 h;
  sums = λ i h l.
      let e : i ≡ length (take k row) + (i - k) = omega (arith, front) in
      let f : k + (i - k) ≡ i = omega arith in
      ap (λ (n : ℕ). get_or (take k row ++ raised) n 0) e
      ∙ get_or-append-add (take k row) raised (i - k) 0
      ∙ mapped (λ m. sum m c) (drop k row) (i - k) (omega (arith, length-drop k row))
      ∙ ap (λ (m : ℕ). sum m c) (get_or-drop k row (i - k) 0 ∙ ap (λ (n : ℕ). get_or row n 0) f);
  as_long =
      length-append (take k row) raised ∙ ap (λ (n : ℕ). length (take k row) + n) (length-map (drop k row) (λ m. sum m c))
      ∙ sym (length-append (take k row) (drop k row)) ∙ ap length (take-append-drop k row);
}
  where
    front : length (take k row) ≡ k
    front = length-take-le k row room

    raised : List ℕ
    raised = map (λ m. sum m c) (drop k row)

pub places : Places
places = record {
  fields = fields_placed;
  parts = λ refusal value s. record { refusal_is = refl; value_is = refl; session_is = refl };
  rows = rows_placed;
  written = written_placed;
  combined_rows = λ s x y e. record { each = combined_at s x y e; as_long = combined_long s x y e };
  raised_rows = raised_placed;
}
