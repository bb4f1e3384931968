-- A record shows all check points of each member's session.
use Prim.Native.Nat.{ℕ, zero, suc, ◌+◌, ◌*◌, ◌-◌, ◌≤◌, ◌<◌}
use mathlib.Core.Path.{◌≡◌, refl, sym, ◌∙◌, ap, ap₂}
use mathlib.Core.Bool.{cond}
use mathlib.Core.List.{List, [], ◌∷◌, map}
use native.Mathlib.Nat.{mul_comm}
use native.Mathlib.Numerals.{add-one}
use native.Mathlib.Omega.{arith}
use lib.Dec.{eqb}
use lib.ListN.{length, take, drop, get_or}
use lib.Seq.{drop-cons}
use Rattle.poly.specs.Counting.{All}
use Rattle.shape.specs.Bounds.{most_points}
use Rattle.refusal.proofs.Laws.{inside}
use Rattle.parts.proofs.Turns.{block_room}
use Rattle.runs.specs.Draws.{Plan, Draw, Sound, IsDraw, point_of}
use Rattle.runs.specs.Calls.{new_post}
use Rattle.runs.proofs.Start.{made}
use Rattle.secrecy.specs.Steps.{Secrets}
use Rattle.secrecy.specs.Seen.{points_seen, seen}
use Rattle.secrecy.specs.Points.{session_points, PointsShown}

-- one number of a list, or two that follow one another
one_or_two : (k m : ℕ) (l : List ℕ) → 1 ≤ k → k ≤ most_points → m + k ≤ length l
    → take k (drop m l) ≡ cond (eqb k 2) (get_or l m 0 ∷ cond (eqb k 2) (get_or l (m + 1) 0) 0 ∷ []) (get_or l m 0 ∷ [])
one_or_two zero m l a b h = absurd (omega arith)
one_or_two (suc zero) m l a b h = rw (drop-cons l m 0 (omega arith))
one_or_two (suc (suc zero)) m l a b h = rw (drop-cons l m 0 (omega arith), add-one m, drop-cons l (suc m) 0 (omega arith))
one_or_two (suc (suc (suc k))) m l a b h = absurd (omega arith)

module _ (plan : Plan) (group : List ℕ) (draw : Draw) (u : Secrets) (rows : ℕ → List ℕ) (sound : Sound plan) (is : IsDraw plan draw) where
  points_of_lem : (i : ℕ) → 1 ≤ i → i ≤ plan.n → points_seen plan group draw u i ≡ session_points (new_post plan draw (rows i) i).session
  unfolding points_seen new_post point_of
  points_of_lem i lo hi =
      let k = plan.points in
      let few = inside 1 most_points k sound.counted in
      one_or_two k ((i - 1) * k) draw.points few.0 few.1
      (omega (arith, is.posts, block_room (i - 1) plan.n k (plan.n * k) (omega arith) refl, mul_comm k plan.n))
      ∙ ap session_points (sym (made plan draw sound is i lo hi))

  all_of : (is : List ℕ) → All (λ i. (1 ≤ i) × (i ≤ plan.n)) is
      → map (points_seen plan group draw u) is ≡ map (λ i. session_points (new_post plan draw (rows i) i).session) is
  all_of [] a = refl
  all_of (i ∷ is) a = ap₂ ◌∷◌ (points_of_lem i a.0.0 a.0.1) (all_of is a.1)

pub points_shown : PointsShown
unfolding seen
points_shown plan group draw u rows cs sound is few = all_of plan group draw u rows sound is group few.members
