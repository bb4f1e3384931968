-- Document 02, (vii): "A kind is 0 for empty, 1 for raw, 3 for a triple's first row, which then covers the next two." These are
-- the marks that the rows get when they are loaded.
use Rattle.std.specs.Prelude.{ℕ, suc, ◌≡◌, ◌+◌, Result, Ok, Err, Bool, false, not, ◌&&◌, ◌||◌, cond, List, [], ◌∷◌, eqb, ltb, get_or}
use Rattle.std.specs.Borrow.{Bor}
use Rattle.shape.specs.declared.Shape.{Shape}
use Rattle.refusal.specs.declared.Refusal.{Refusal}
use Rattle.refusal.specs.declared.Refusal.TheVariants.{NotAnElement}
use Rattle.kinds.specs.declared.Kind.{Kind}
use Rattle.kinds.specs.declared.Kind.TheVariants.{Empty, Raw, Triple}
use Rattle.shape.specs.Bounds.{last_triple}
use Rattle.shape.specs.Lengths.{draw_length, triple_draw_length}
use Rattle.shape.specs.Marks.{empty, raw, unused}

-- The kind that a byte names; any other is refused.
abbrev pub kind_of : ℕ → Result Kind Refusal
kind_of k = cond (eqb k raw) (Ok Raw) (cond (eqb k unused) (Ok Triple) (cond (eqb k empty) (Ok Empty) (Err NotAnElement)))

-- How many numbers are drawn for a row of this kind.
unfoldable pub drawn_for_of : Shape → ℕ → ℕ
drawn_for_of s k = cond (eqb k raw) (draw_length s) (cond (eqb k unused) (triple_draw_length s) 0)

-- "The draws follow by rising row; their stated length counts each 1 and 3, rightly placed or not."
unfoldable pub draws_length : Shape → List ℕ → ℕ
draws_length s [] = 0
draws_length s (k ∷ ks) = drawn_for_of s k + draws_length s ks

-- A test holds for some row: of its number, which is `row` for the first, its kind, and the kinds behind it.
unfoldable pub any_row : (ℕ → ℕ → List ℕ → Bool) → ℕ → List ℕ → Bool
any_row test row [] = false
any_row test row (k ∷ ks) = test row k ks || any_row test (suc row) ks

-- a call tells what the test does of a row
abbrev pub Tells : (ℕ → ℕ → Bor (List ℕ) → Bool → Type 0) → (ℕ → ℕ → List ℕ → Bool) → Type 0
Tells post test = (row k : ℕ) (ks : Bor (List ℕ)) (b : Bool) → post row k ks b → b ≡ test row k ks.now

-- "A 3 above row 93 gets 6"
unfoldable pub late : ℕ → ℕ → List ℕ → Bool
late row k ks = eqb k unused && ltb last_triple row

-- "a kind other than 0 inside a triple gets 7"
unfoldable pub crowded : ℕ → ℕ → List ℕ → Bool
crowded row k ks = eqb k unused && (not (eqb (get_or ks 0 empty) empty) || not (eqb (get_or ks 1 empty) empty))

-- "any unknown kind gets 8"
unfoldable pub unknown : ℕ → ℕ → List ℕ → Bool
unknown row k ks = not (eqb k empty) && (not (eqb k raw) && not (eqb k unused))
