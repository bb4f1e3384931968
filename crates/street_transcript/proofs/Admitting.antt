-- There is room for k bytes exactly where they are not refused; and what the calls hand back.
use Prim.Native.Nat.{ℕ, ◌+◌, ◌-◌, ◌*◌, ◌/◌, ◌≤◌, ◌<◌, ◌^◌}
use mathlib.Core.Path.{◌≡◌, refl, ap, ap₂, sym, ◌∙◌}
use mathlib.Core.List.{List, [], ◌∷◌}
use mathlib.Core.Bool.{true, false}
use native.Mathlib.Omega.{arith}
use borrow.Author.Tests.{lt-ltb, le-ltb, eq-eqb, ne_eqb, ltb-false}
use lib.ListN.{length}
use Rattle.std.specs.Prelude.{Result}
use Rattle.std.specs.Result.{result_and}
use Rattle.refusal.specs.declared.Refusal.{Refusal}
use Rattle.refusal.specs.Numbers.{refused}
use Rattle.refusal.proofs.Checks.{refused_and}
use Rattle.refusal.specs.Refusal.{first, or_else}
use Rattle.refusal.proofs.Laws.{or_else_zero, all_fail, equal}
use Rattle.street_steps.specs.Stepping.{room_refusal_of}
use Rattle.street_steps.proofs.Room.{none_ready, ready_none}
use Rattle.street_feeds.specs.declared.Feed.{Feed}
use Rattle.street_answers.specs.Text.{longest_print}
use Rattle.street_splitting.specs.Lines.{kept_length}
use Rattle.street_feeds.specs.Program.{Running, running}
use Rattle.street_feeds.specs.Between.{Open, Added, Fed}
use Rattle.street_transcript.specs.Between.{Moved, Closing}
use Rattle.street_transcript.specs.Limits.{last_number, feed_tests, feed_refusal_of}

-- ---- the tests, one by one
module _ (f : Feed) (line out : List ℕ) (k : ℕ) where
  pub line_missized : (length line ≡ kept_length → ⊥) → 5 ≡ first (feed_tests f line out k)
  line_missized n = rw (ne_eqb (length line) kept_length n)

  module _ (l : length line ≡ kept_length) where
    pub len_beyond : kept_length < f.len → 5 ≡ first (feed_tests f line out k)
    len_beyond h = rw (eq-eqb (length line) kept_length l, lt-ltb kept_length f.len h)

    module _ (s : f.len ≤ kept_length) where
      full : length out < f.at + longest_print * k → 5 ≡ first (feed_tests f line out k)
      full h = rw (eq-eqb (length line) kept_length l, le-ltb kept_length f.len s, lt-ltb (length out) (f.at + longest_print * k) h)

      pub at_beyond : length out < f.at → 5 ≡ first (feed_tests f line out k)
      at_beyond h = full (omega arith)

      module _ (a : f.at ≤ length out) where
        pub room_small : (length out - f.at) / longest_print < k → 5 ≡ first (feed_tests f line out k)
        room_small h = full (omega arith)

        module _ (c : k ≤ (length out - f.at) / longest_print) where
          fits : f.at + longest_print * k ≤ length out
          fits = omega arith

          pub number_beyond : last_number - f.number < k → 11 ≡ first (feed_tests f line out k)
          number_beyond h =
              let n : last_number < f.number + k = omega arith in
              rw (eq-eqb (length line) kept_length l, le-ltb kept_length f.len s, le-ltb (length out) (f.at + longest_print * k) fits, lt-ltb last_number (f.number + k) n)

          pub feed_fine : f.number < 2 ^ 64 → k ≤ last_number - f.number → 0 ≡ first (feed_tests f line out k)
          feed_fine b h =
              let n : f.number + k ≤ last_number = omega arith in
              rw (eq-eqb (length line) kept_length l, le-ltb kept_length f.len s, le-ltb (length out) (f.at + longest_print * k) fits, le-ltb last_number (f.number + k) n)

-- ---- all together
module _ (f : Feed) (store line out : List ℕ) (k : ℕ) where
  pub refusal_joined : {A : Type 0} (r a b : Result A Refusal) → r ≡ result_and a b → refused a ≡ room_refusal_of f.state store
      → refused b ≡ first (feed_tests f line out k) → refused r ≡ feed_refusal_of f store line out k
  unfolding feed_refusal_of
  refusal_joined r a b e p q = ap refused e ∙ refused_and a b ∙ ap₂ or_else p q

  pub none_open : (r : ℕ) → r ≡ feed_refusal_of f store line out k → r ≡ 0 → Open f store line out k
  unfolding feed_refusal_of
  none_open r e z =
      let a = or_else_zero (room_refusal_of f.state store) (first (feed_tests f line out k)) (sym e ∙ z) in
      let b = all_fail (feed_tests f line out k) tt a.1 in
      record {
        ready = none_ready f.state store (room_refusal_of f.state store) refl a.0;
        line_room = equal (length line) kept_length b.0;
        len_in = ltb-false kept_length f.len b.1.0;
        numbers = omega (arith, ltb-false last_number (f.number + k) b.1.1.1.0);
        room = ltb-false (length out) (f.at + longest_print * k) b.1.1.0;
      }

  pub open_none : Open f store line out k → feed_refusal_of f store line out k ≡ 0
  unfolding feed_refusal_of
  open_none o =
      let n : f.number + k ≤ last_number = omega (arith, o.numbers) in
      rw (ready_none f.state store o.ready, eq-eqb (length line) kept_length o.line_room, le-ltb kept_length f.len o.len_in, le-ltb (length out) (f.at + longest_print * k) o.room, le-ltb last_number (f.number + k) n)

-- ---- a chunk, and the end of the input as one byte
pub not_closing : (chunk : List ℕ) → Closing false chunk
not_closing chunk = record { one = λ t. absurd (let z : ◌≡◌ {A = ℕ} 0 1 = cc in omega arith) }

pub is_closing : (b : ℕ) → Closing true (b ∷ [])
is_closing b = record { one = λ t. refl }
