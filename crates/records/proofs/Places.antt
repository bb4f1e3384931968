-- The refusals of the two calls from the checks that their code joins, and what holds where there is none.
use Prim.Native.Nat.{ℕ, zero, suc}
use mathlib.Core.Path.{◌≡◌, refl, sym, ◌∙◌}
use mathlib.Core.List.{List, [], ◌∷◌}
use native.Mathlib.Omega.{arith}
use lib.ListN.{length}
use Rattle.shape.specs.Lengths.{shape, Valid, v_length, record_length, message_length}
use Rattle.refusal.specs.Refusal.{Test, ◌when◌, first, or_else}
use Rattle.refusal.specs.Conditions.{party_tests, wrong_length, any_beyond}
use Rattle.refusal.proofs.Laws.{equal, all_fail, not_refused}
use Rattle.refusal.proofs.Groups.{chained, stopped, went_on, fail_parts}
use Rattle.refusal.proofs.Endings.{accepted}
use Rattle.refusal.proofs.Ranges.{party_valid, party_in}
use Rattle.blocks.specs.Between.{PostIn}
use Rattle.blocks.proofs.Blocks.{post_in}
use Rattle.records.specs.Records.{place_tests, place_refusal_of, message_tests, put_tests, put_refusal_of, with_block, block_of, no_block, put_record, removed_record}

halts : (a b : ℕ) → (a ≡ 0 → ⊥) → a ≡ or_else a b
halts zero b ne = absurd (ne refl)
halts (suc a) b ne = refl

goes_on : (a b : ℕ) → a ≡ 0 → b ≡ or_else a b
goes_on zero b z = refl
goes_on (suc a) b z = absurd (omega (arith, z))

module _ (n t points : ℕ) (blocks : List ℕ) (post : ℕ) where
  abbrev late : List Test
  late = 5 when wrong_length blocks (record_length (shape n t points)) ∷ []

  module _ (f : ℕ) (e : f ≡ first (party_tests n t post points)) where
    pub place_stopped : (f ≡ 0 → ⊥) → f ≡ place_refusal_of n t points blocks post
    unfolding place_refusal_of
    place_stopped h = stopped (party_tests n t post points) late tt f e h

    pub place_sized : (w z : ℕ) → f ≡ 0 → w ≡ record_length (shape n t points) → z ≡ first (5 when wrong_length blocks w ∷ [])
        → z ≡ place_refusal_of n t points blocks post
    unfolding place_refusal_of
    place_sized w z h ew ez = went_on (party_tests n t post points) late tt f e z h (rw ew at ez)

  module _ (f : ℕ) (e : f ≡ place_refusal_of n t points blocks post) (h : f ≡ 0) where
    passed : Valid (shape n t points) × PostIn (shape n t points) post × (length blocks ≡ record_length (shape n t points))
    unfolding place_refusal_of
    passed =
        let parts = fail_parts (party_tests n t post points) late (all_fail (place_tests n t points blocks post) tt (sym e ∙ h)) in
        let v = party_valid n t post points parts.0 in
        let i = party_in n t post points parts.0 in
        (v, post_in (shape n t points) post i.0 i.1, equal (length blocks) (record_length (shape n t points)) parts.1.0)

    pub place_valid : Valid (shape n t points)
    place_valid = passed.0

    pub place_in : PostIn (shape n t points) post
    place_in = passed.1

    pub place_long : length blocks ≡ record_length (shape n t points)
    place_long = passed.2

    pub removed : (out : List ℕ) → out ≡ with_block (shape n t points) post (no_block (shape n t points)) blocks → out ≡ removed_record n t points blocks post
    removed out eo =
        accepted f (place_refusal_of n t points blocks post) out (with_block (shape n t points) post (no_block (shape n t points)) blocks) blocks e h eo

  module _ (message : List ℕ) where
    module _ (f : ℕ) (e : f ≡ place_refusal_of n t points blocks post) where
      pub put_stopped : (f ≡ 0 → ⊥) → f ≡ put_refusal_of n t points blocks post message
      unfolding place_refusal_of put_refusal_of
      put_stopped h = stopped (place_tests n t points blocks post) (message_tests n t points message) tt f e h

      joined : (w a b z : ℕ) → f ≡ 0 → w ≡ v_length (shape n t points) → a ≡ first (5 when wrong_length message w ∷ [])
          → b ≡ first (8 when any_beyond message ∷ []) → z ≡ or_else a b → z ≡ put_refusal_of n t points blocks post message
      unfolding place_refusal_of put_refusal_of
      joined w a b z h ew ea eb ez =
          let ea' : a ≡ first (5 when wrong_length message (message_length (shape n t points)) ∷ []) = rw ew at ea in
          went_on (place_tests n t points blocks post) (message_tests n t points message) tt f e z h (chained (message_tests n t points message) tt z (cc))

      pub size_stopped : (w a : ℕ) → f ≡ 0 → w ≡ v_length (shape n t points) → a ≡ first (5 when wrong_length message w ∷ []) → (a ≡ 0 → ⊥)
          → a ≡ put_refusal_of n t points blocks post message
      size_stopped w a h ew ea ne = let b = first (8 when any_beyond message ∷ []) in joined w a b a h ew ea refl (halts a b ne)

      pub numbers_asked : (w a b : ℕ) → f ≡ 0 → w ≡ v_length (shape n t points) → a ≡ first (5 when wrong_length message w ∷ []) → a ≡ 0
          → b ≡ first (8 when any_beyond message ∷ []) → b ≡ put_refusal_of n t points blocks post message
      numbers_asked w a b h ew ea z eb = joined w a b b h ew ea eb (goes_on a b z)

    module _ (f : ℕ) (e : f ≡ put_refusal_of n t points blocks post message) (h : f ≡ 0) where
      placed : 0 ≡ place_refusal_of n t points blocks post
      unfolding place_refusal_of put_refusal_of
      placed =
          sym
          (not_refused (place_tests n t points blocks post)
          (fail_parts (place_tests n t points blocks post) (message_tests n t points message) (all_fail (put_tests n t points blocks post message) tt (sym e ∙ h))).0)

      pub put_valid : Valid (shape n t points)
      put_valid = place_valid 0 placed refl

      pub put_in : PostIn (shape n t points) post
      put_in = place_in 0 placed refl

      pub put_long_is : length blocks ≡ record_length (shape n t points)
      put_long_is = place_long 0 placed refl

      pub message_long : length message ≡ message_length (shape n t points)
      unfolding put_refusal_of
      message_long =
          let parts = fail_parts (place_tests n t points blocks post) (message_tests n t points message) (all_fail (put_tests n t points blocks post message) tt (sym e ∙ h)) in
          equal (length message) (message_length (shape n t points)) parts.1.0

      pub was_put : (out : List ℕ) → out ≡ with_block (shape n t points) post (block_of message) blocks → out ≡ put_record n t points blocks post message
      was_put out eo =
          accepted f (put_refusal_of n t points blocks post message) out (with_block (shape n t points) post (block_of message) blocks) blocks e h eo
