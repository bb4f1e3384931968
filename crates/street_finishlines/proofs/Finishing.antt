-- The calls of an `F`, on the session's rows and the records in the store.
use Prim.Native.Nat.{ℕ, zero, suc, ◌+◌, ◌≤◌}
use mathlib.Core.Path.{◌≡◌, refl, ap, sym, ◌∙◌}
use mathlib.Core.Bool.{Bool}
use mathlib.Core.List.{List, ◌++◌}
use native.Mathlib.Omega.{arith}
use lib.ListN.{length, take, drop, take-append-drop}
use Rattle.shape.specs.declared.Shape.{Shape}
use Rattle.shape.specs.Lengths.{rows_length}
use Rattle.refusal.specs.Refusal.{or_else, outcome}
use Rattle.refusal.proofs.Endings.{refused, accepted}
use Rattle.session.specs.declared.Session.{Session}
use Rattle.session.specs.declared.Answer.{Answer}
use Rattle.session.specs.Sessions.{shape_of, answer, collected_triple, finished_triple}
use Rattle.collect.specs.Collect.{number_a, number_b, collect_refusal, collect_answer}
use Rattle.multiply.specs.Multiply.{multiply_refusal_of, multiply_answer, multiply_rows_of}
use Rattle.street_store.specs.Sizes.{InStreet, record_room, store_room, masks_a_at, masks_b_at}
use Rattle.street_store.specs.Records.{record_at, record_if}
use Rattle.street_states.specs.States.{rows_of, with_rows, settled}
use Rattle.street_finishlines.specs.Steps.{pair_answer, pair_rows}
use Rattle.street_finishlines.specs.Between.{after_answer, after_rows}

-- ---- where the records stand
pub masks_a_within : (store : List ℕ) → length store ≡ store_room → masks_a_at + record_room ≤ length store
masks_a_within store l = omega arith

pub masks_b_within : (store : List ℕ) → length store ≡ store_room → masks_b_at + record_room ≤ length store
masks_b_within store l = omega arith

pub collected_kept : (s : Session) (store a b : List ℕ) (g : Shape) (end first : ℕ) (same : Bool) (ans : Answer) → g ≡ shape_of s
    → end ≡ rows_length (shape_of s) → a ≡ record_if same (record_at masks_a_at g store) → b ≡ record_if same (record_at masks_b_at g store)
    → ans ≡ collect_answer s (take end store) first a b
    → ans
    ≡ collect_answer s (rows_of s store) first (record_if same (record_at masks_a_at (shape_of s) store)) (record_if same (record_at masks_b_at (shape_of s) store))
collected_kept s store a b g end first same ans d e f h q = q ∙ rw (e, f, h, d)

-- ---- the second call
module _ (a : Answer) (store : List ℕ) (first : ℕ) where
  module _ (n : a.refusal ≡ 0 → ⊥) where
    pub after_refused : a ≡ after_answer a store first
    after_refused = refused a.refusal a.refusal _ a refl n

    pub after_unwritten : store ≡ after_rows a store first
    after_unwritten = refused a.refusal a.refusal _ store refl n

  module _ (z : a.refusal ≡ 0) (end : ℕ) (e : end ≡ rows_length (shape_of a.session)) where
    pub after_done : (b : Answer) → b ≡ multiply_answer a.session (take end store) first → b ≡ after_answer a store first
    after_done b q = accepted a.refusal a.refusal b _ a refl z (q ∙ rw e)

    pub after_written : (part : List ℕ) → part ≡ multiply_rows_of a.session (take end store) first → part ++ drop end store ≡ after_rows a store first
    after_written part q = accepted a.refusal a.refusal (part ++ drop end store) _ store refl z (rw (q, e))

-- ---- both
collected_shape : (x : ℕ) (s : Session) (first y y' : ℕ) → shape_of (answer x 0 (collected_triple s first y y') s).session ≡ shape_of s
unfolding outcome
collected_shape zero s first y y' = refl
collected_shape (suc k) s first y y' = refl

module _ (s : Session) (store : List ℕ) (first : ℕ) (same : Bool) (c : Answer) where
  abbrev rows : List ℕ
  rows = rows_of s store

  abbrev blocks_a : List ℕ
  blocks_a = record_if same (record_at masks_a_at (shape_of s) store)

  abbrev blocks_b : List ℕ
  blocks_b = record_if same (record_at masks_b_at (shape_of s) store)

  module _ (e : c ≡ collect_answer s rows first blocks_a blocks_b) where
    c_shape : shape_of c.session ≡ shape_of s
    c_shape = ap (λ (x : Answer). shape_of x.session) e ∙ collected_shape (collect_refusal s rows first blocks_a blocks_b) s first (number_a s rows first blocks_a) (number_b s rows first blocks_b)

    pub collected_street : InStreet (shape_of s) → InStreet (shape_of c.session)
    collected_street i = rw c_shape i

    abbrev done : Session
    done = collected_triple s first (number_a s rows first blocks_a) (number_b s rows first blocks_b)

    twice : (m : ℕ) (new old : Session) → settled s (answer m 0 new old) ≡ answer m 0 (answer m 0 new old).session s
    unfolding outcome
    twice zero new old = refl
    twice (suc k) new old = refl

    settle : (k : ℕ)
        → (let h = (answer k 0 done s).session in settled s (after_answer (answer k 0 done s) store first) ≡ answer (or_else k (multiply_refusal_of h rows first)) 0 (multiply_answer h rows first).session s)
    unfolding outcome
    settle zero = twice (multiply_refusal_of done rows first) (finished_triple done first) done
    settle (suc k) = refl

    pub pair_settled : (r : Answer) → r ≡ after_answer c store first → settled s r ≡ pair_answer s rows first blocks_a blocks_b
    pair_settled r q =
        ap (settled s) (q ∙ ap (λ (x : Answer). after_answer x store first) e) ∙ settle (collect_refusal s rows first blocks_a blocks_b)

    leaves : (m : ℕ) (new old : List ℕ) → outcome m new old ≡ outcome m (outcome m new old) old
    unfolding outcome
    leaves zero new old = refl
    leaves (suc k) new old = refl

    write : (k : ℕ)
        → (let h = (answer k 0 done s).session in after_rows (answer k 0 done s) store first ≡ with_rows s (outcome (or_else k (multiply_refusal_of h rows first)) (multiply_rows_of h rows first) rows) store)
    unfolding outcome
    write zero = ap (λ (l : List ℕ). with_rows s l store) (leaves (multiply_refusal_of done rows first) _ rows)
    write (suc k) = sym (take-append-drop (rows_length (shape_of s)) store)

    pub pair_written : (l : List ℕ) → l ≡ after_rows c store first → l ≡ with_rows s (pair_rows s rows first blocks_a blocks_b) store
    pair_written l q = q ∙ ap (λ (x : Answer). after_rows x store first) e ∙ write (collect_refusal s rows first blocks_a blocks_b)
