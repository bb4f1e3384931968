-- A false polynomial is caught at all but (k t)^k of the lists of k check points that the post might have.
use Prim.Native.Nat.{ℕ, ◌*◌, ◌≤◌, ◌<◌}
use mathlib.Core.Path.{◌≡◌, sym, ◌∙◌, ap}
use mathlib.Core.Bool.{Bool, true}
use mathlib.Core.List.{List, [], ◌∷◌}
use native.Mathlib.Decide.{ℕ_discrete}
use native.Mathlib.Omega.{arith}
use borrow.Author.Tests.{eq-eqb}
use lib.Dec.{eqb}
use lib.ListN.{length, get_or}
use Rattle.poly.specs.Counting.{All}
use Rattle.poly.specs.Polynomial.{value}
use Rattle.shape.specs.Marks.{present}
use Rattle.shape.specs.Bounds.{most_points}
use Rattle.shape.specs.Lengths.{v_length}
use Rattle.shape.specs.Row.{point_at}
use Rattle.session.specs.Sessions.{shape_of}
use Rattle.opening.specs.Walking.{block_mark, block_coefficients, accepts}
use Rattle.vectors.specs.Vector.{numbers}
use Rattle.vectors.specs.Claims.{held_row}
use Rattle.vectors.proofs.Linear.{length_numbers}
use Rattle.vectors.proofs.HeldRows.{accepted_agrees}
use Rattle.runs.proofs.Lines.{numbers_elements}
use Rattle.runs.proofs.Records.{Present, sent_there, accepted_there, block_many, block_low}
use Rattle.correctness.specs.Parts.{at_points, points_passed, passed_most, PassedInFigures, FalseCaught}
use Rattle.correctness.proofs.Tuples.{count_none, false_tuples, power_one, power_two}
use Rattle.correctness.specs.Tuples.{power}

-- at all points of a list of k, k at most two
all_points : (P : ℕ → Type 0) (k : ℕ) → k ≤ most_points → (ws : List ℕ) → length ws ≡ k
    → ((h : ℕ) → h < k → P (point_at (record { first = get_or ws 0 0; second = get_or ws 1 0 }) h)) → All P ws
all_points P k few [] e f = tt
all_points P k few (a ∷ []) e f = (f 0 (omega (arith, e)), tt)
all_points P k few (a ∷ b ∷ []) e f = (f 0 (omega (arith, e)), (f 1 (omega (arith, e)), tt))
all_points P k few (a ∷ b ∷ c ∷ ws) e f = absurd (omega (arith, e, few))

pub false_caught : FalseCaught
false_caught s X blocks j small lo hi other proper untrue = go (ℕ_discrete (block_mark (v_length (shape_of s)) blocks j) present)
  where
    block : List ℕ
    block = block_coefficients (v_length (shape_of s)) blocks j

    own : List ℕ
    own = numbers (v_length (shape_of s)) (X.v j)

    passes : List ℕ → Bool
    passes ws = accepts (at_points s ws) (held_row (at_points s ws) X) blocks j

    there_at : (ws : List ℕ) → passes ws ≡ true → Present s blocks j
    there_at ws a = accepted_there (at_points s ws) blocks j lo hi other (held_row (at_points s ws) X) a

    -- accepted at these points: the two have one value at each
    agrees_at : (ws : List ℕ) → length ws ≡ s.points → passes ws ≡ true → All (λ w. eqb (value block w) (value own w) ≡ true) ws
    agrees_at ws e a =
        all_points (λ w. eqb (value block w) (value own w) ≡ true) s.points small ws e
        (λ h low.
        let w = point_at (record { first = get_or ws 0 0; second = get_or ws 1 0 }) h in
        eq-eqb (value block w) (value own w)
        (sym (ap (λ (q : List ℕ). value q w) (sent_there (at_points s ws) blocks j lo hi other (held_row (at_points s ws) X) (there_at ws a)))
        ∙ accepted_agrees (at_points s ws) X blocks j lo hi a h low))

    go : Dec (Present s blocks j) → points_passed s X blocks j ≤ passed_most s
    go (yes there) =
        false_tuples (s.points * s.t) s.points block own (block_low s blocks j lo hi other proper there)
        (numbers_elements (v_length (shape_of s)) (X.v j)) (block_many s blocks j lo hi other proper there)
        (length_numbers (v_length (shape_of s)) (X.v j)) (λ e. untrue (sent_there s blocks j lo hi other (held_row s X) there ∙ e)) passes agrees_at
    go (no absent) = omega (arith, count_none s.points passes (λ ws e a. absent (there_at ws a)))

pub passed_in_figures : PassedInFigures
passed_in_figures s =
    (λ e. ap (λ (k : ℕ). power (k * s.t) k) e ∙ power_one s.t, λ e. ap (λ (k : ℕ). power (k * s.t) k) e ∙ power_two s.t)
