-- A look, letter by letter: what it hands back is what the order leads to.
use Prim.Native.Nat.{ℕ}
use mathlib.Core.Path.{◌≡◌, refl, ap}
use mathlib.Core.List.{List}
use borrow.Author.Tests.{ne_eqb}
use lib.ListN.{get_or, take, drop}
use lib.Dec.{eqb}
use Rattle.shape.specs.declared.Shape.{Shape}
use Rattle.shape.specs.Lengths.{v_length, masks_length}
use Rattle.session.specs.declared.Session.{Session}
use Rattle.session.specs.declared.Answer.{Answer}
use Rattle.session.specs.Sessions.{shape_of}
use Rattle.street_store.specs.Sizes.{openings_at, masks_a_at, masks_b_at}
use Rattle.street_store.specs.Records.{kept}
use Rattle.street_states.specs.States.{answering, leaving}
use Rattle.street_postlines.specs.Steps.{keep_step, keep_masks_step, keep_halves_step}
use Rattle.street_orders.specs.declared.Order.{Order}
use Rattle.street_interpreter.specs.declared.Outcome.{Outcome}
use Rattle.street_orders.specs.Orders.{looking}
use Rattle.street_interpreter.specs.Changes.{held, Looked, Opened, OpeningKept, HalvesKept}

module _ (s : Session) (keptRow triple : ℕ) (o : Order) (xs store : List ℕ) where
  pub look_open : (v : Outcome) (row : ℕ) → row ≡ get_or xs 0 0 → o.letter ≡ 71 → Opened s keptRow triple store row v → Looked s keptRow triple o xs store v store
  unfolding looking
  look_open v row w e h =
      record {
        says = λ b.
            rw (e, h.kept_same, h.triple_same, ← w) (ap (λ (z : Answer). leaving (answering (held s b keptRow triple) z) store) h.says);
      }

  module _ (g : Shape) (d : g ≡ shape_of s) (v : Outcome) (store' : List ℕ) where
    pub look_keep : o.letter ≡ 79 → OpeningKept g keptRow triple o xs store v store' → Looked s keptRow triple o xs store v store'
    unfolding looking keep_step
    look_keep e h = record { says = λ b. rw (e, h.is, h.stored, d) }

    pub look_masks : o.letter ≡ 77 → HalvesKept g keptRow triple o xs store v store' → Looked s keptRow triple o xs store v store'
    unfolding looking keep_halves_step keep_masks_step
    look_masks e h = record { says = λ b. rw (e, h.is, h.stored, d) }

  pub look_refused : (o.letter ≡ 71 → ⊥) → (o.letter ≡ 79 → ⊥) → (o.letter ≡ 77 → ⊥)
      → Looked s keptRow triple o xs store (record { refusal = o.refusal; value = 0; kept = keptRow; triple = triple }) store
  unfolding looking
  look_refused a b c = record { says = λ f. rw (ne_eqb o.letter 71 a, ne_eqb o.letter 79 b, ne_eqb o.letter 77 c) }

-- ---- the records
module _ (g : Shape) (keptRow triple : ℕ) (o : Order) (xs store store' : List ℕ) (k : ℕ) where
  pub opening_kept : k ≡ v_length g → store' ≡ kept openings_at g (eqb keptRow o.row) o.post (take k xs) store
      → OpeningKept g keptRow triple o xs store (record { refusal = 0; value = 0; kept = o.row; triple = triple }) store'
  opening_kept w r = record { is = refl; stored = rw (r, w) }

  pub halves_kept : k ≡ masks_length g
      → store' ≡ kept masks_b_at g (eqb triple o.row) o.post (drop (v_length g) (take k xs)) (kept masks_a_at g (eqb triple o.row) o.post (take (v_length g) (take k xs)) store)
      → HalvesKept g keptRow triple o xs store (record { refusal = 0; value = 0; kept = keptRow; triple = o.row }) store'
  halves_kept w r = record { is = refl; stored = rw (r, w) }
