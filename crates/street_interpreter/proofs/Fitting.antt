-- What a change and a look ask of the session and of the numbers: a session of the street, and room for what a line holds.
use Prim.Native.Nat.{ℕ, ◌+◌, ◌≤◌}
use mathlib.Core.Path.{◌≡◌, ap, sym, ◌∙◌}
use mathlib.Core.List.{List}
use native.Mathlib.Omega.{arith}
use mir.Syntax.{w64}
use mir.Val.{Fits}
use lib.ListN.{length, take}
use lib.Seq.{length-take-le}
use Rattle.shape.specs.declared.Shape.{Shape}
use Rattle.shape.specs.Lengths.{v_length, masks_length, row_length, triple_length}
use Rattle.session.specs.declared.Session.{Session}
use Rattle.session.specs.Sessions.{shape_of}
use Rattle.street_store.specs.Sizes.{InStreet, numbers_room}
use Rattle.street_store.proofs.Keeping.{v_room, row_room}
use Rattle.street_orders.specs.declared.Order.{Order}
use Rattle.street_interpreter.specs.Changes.{Able, Brief}
use Rattle.street_steps.proofs.Letters.{some_letter}

-- ---- the session is one of the street's
module _ (s : Session) (o : Order) (y : Able s o) where
  abbrev Street : Type 0
  Street = InStreet (shape_of s)

  pub street_d : o.letter ≡ 68 → Street
  street_d e = y.street (λ z. omega arith) (λ z. omega arith)

  pub street_r : o.letter ≡ 82 → Street
  street_r e = y.street (λ z. omega arith) (λ z. omega arith)

  pub street_t : o.letter ≡ 84 → Street
  street_t e = y.street (λ z. omega arith) (λ z. omega arith)

  pub street_l : o.letter ≡ 76 → Street
  street_l e = y.street (λ z. omega arith) (λ z. omega arith)

  pub street_x : Brief o.letter → Street
  street_x w = y.street w.no_s (some_letter o.letter w.changes)

  pub street_f : o.letter ≡ 70 → Street
  street_f e = y.street (λ z. omega arith) (λ z. omega arith)

  pub street_g : o.letter ≡ 71 → Street
  street_g e = y.street (λ z. omega arith) (λ z. omega arith)

  module _ (g : Shape) (d : g ≡ shape_of s) where
    pub street_o : o.letter ≡ 79 → InStreet g
    street_o e = rw d (y.street (λ z. omega arith) (λ z. omega arith))

    pub street_m : o.letter ≡ 77 → InStreet g
    street_m e = rw d (y.street (λ z. omega arith) (λ z. omega arith))

    pub low_o : o.letter ≡ 79 → 1 ≤ o.post
    low_o e = (y.post_in (rw e)).0

    pub high_o : o.letter ≡ 79 → o.post ≤ g.n
    high_o e = rw d (y.post_in (rw e)).1

    pub low_m : o.letter ≡ 77 → 1 ≤ o.post
    low_m e = (y.post_in (rw e)).0

    pub high_m : o.letter ≡ 77 → o.post ≤ g.n
    high_m e = rw d (y.post_in (rw e)).1

-- ---- the numbers
module _ (g h : Shape) (i : InStreet h) (d : g ≡ h) (xs : List ℕ) (l : length xs ≡ numbers_room) (k : ℕ) where
  pub row_in : k ≡ row_length g → 1 + k ≤ length xs
  row_in e = let r : k ≡ row_length h = e ∙ ap row_length d in omega (arith, r, l, v_room h i, row_room h i)

  pub row_fits : k ≡ row_length g → Fits w64 (1 + k)
  row_fits e = let r : k ≡ row_length h = e ∙ ap row_length d in omega (arith, r, l, v_room h i, row_room h i)

  pub row_prefix : k ≡ row_length g → 1 + k ≡ length (take (1 + k) xs)
  row_prefix e = sym (length-take-le (1 + k) xs (row_in e))

  pub triple_in : k ≡ triple_length g → 1 + k ≤ length xs
  triple_in e = let r : k ≡ triple_length h = e ∙ ap triple_length d in omega (arith, r, l, v_room h i, row_room h i)

  pub triple_fits : k ≡ triple_length g → Fits w64 (1 + k)
  triple_fits e = let r : k ≡ triple_length h = e ∙ ap triple_length d in omega (arith, r, l, v_room h i, row_room h i)

  pub triple_prefix : k ≡ triple_length g → 1 + k ≡ length (take (1 + k) xs)
  triple_prefix e = sym (length-take-le (1 + k) xs (triple_in e))

module _ (g : Shape) (i : InStreet g) (xs : List ℕ) (l : length xs ≡ numbers_room) (k : ℕ) where
  pub message_in : k ≡ v_length g → k ≤ length xs
  message_in e = omega (arith, e, l, v_room g i)

  pub message_prefix : k ≡ v_length g → k ≡ length (take k xs)
  message_prefix e = sym (length-take-le k xs (message_in e))

  pub message_length_is : k ≡ v_length g → length (take k xs) ≡ v_length g
  message_length_is e = sym (message_prefix e) ∙ e

  pub both_in : k ≡ masks_length g → k ≤ length xs
  both_in e = omega (arith, e, l, v_room g i)

  pub both_prefix : k ≡ masks_length g → k ≡ length (take k xs)
  both_prefix e = sym (length-take-le k xs (both_in e))

  pub both_length : k ≡ masks_length g → length (take k xs) ≡ masks_length g
  both_length e = sym (both_prefix e) ∙ e

pub some_numbers : (xs : List ℕ) (k : ℕ) → 1 + k ≡ length (take (1 + k) xs) → 1 ≤ length (take (1 + k) xs)
some_numbers xs k e = omega (arith, e)
