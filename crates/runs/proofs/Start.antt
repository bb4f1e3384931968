-- Where a run starts: new sessions, whose rows are all empty. And n and t, as 1 and 2 leave them.
use Prim.Native.Nat.{ℕ, zero, suc, ◌+◌, ◌*◌, ◌-◌, ◌≤◌, ◌<◌}
use mathlib.Core.Path.{◌≡◌, refl, sym, ◌∙◌, ap, ap₂, subst}
use mathlib.Core.Bool.{Bool, true, false, cond, ◌||◌}
use mathlib.Core.Logic.{inl, inr}
use mathlib.Core.List.{List, [], ◌∷◌}
use native.Mathlib.Nat.{mul_comm}
use native.Mathlib.Decide.{dec_lt, ℕ_discrete}
use native.Mathlib.Omega.{arith}
use borrow.Author.Tests.{le-ltb, eq-eqb, ne_eqb}
use lib.Dec.{eqb}
use lib.ListN.{length, get_or, replicate, length-replicate, get_or-replicate, get_or-eq_default}
use Rattle.field.specs.Modulus.{p}
use Rattle.poly.specs.Counting.{All}
use Rattle.shape.specs.Bounds.{fewest_posts, most_posts, most_points, row_count_of}
use Rattle.shape.specs.Row.{point_at}
use Rattle.parts.proofs.Turns.{block_room}
use Rattle.shape.specs.Marks.{empty}
use Rattle.refusal.specs.Refusal.{◌when◌, first, or_else, outcome}
use Rattle.refusal.specs.Conditions.{outside, bad_point, bad_second, bad_points, posts_tests}
use Rattle.refusal.proofs.Laws.{first_join, not_refused, all_fail, inside}
use Rattle.refusal.proofs.Elements.{element_test}
use Rattle.session.specs.Sessions.{as_many_of, no_points, session_of, session_tests, created, answer}
use Rattle.decimal.specs.Numeral.{tens}
use Rattle.vectors.specs.Vector.{Vector}
use Rattle.runs.specs.Draws.{Plan, Draw, IsDraw, Sound, point_of}
use Rattle.runs.specs.Calls.{new_post}
use Rattle.runs.proofs.Marks.{Marks, mark_of, Sized, Opened, session_at}
use Rattle.runs.proofs.Steps.{Stands}
use Rattle.runs.proofs.Facts.{Facts}

pub record Sizes (plan : Plan) : Type 0 where
  pub n_low : fewest_posts ≤ plan.n
  pub n_most : plan.n ≤ most_posts
  pub n_high : plan.n < tens 10
  pub n_element : plan.n < p
  pub t_low : 1 ≤ plan.t
  pub t_high : plan.t < plan.n

pub sizes : (plan : Plan) → Sound plan → Sizes plan
sizes plan s =
    let h = all_fail (posts_tests plan.n plan.t) tt s.posts in
    let n_in = inside fewest_posts most_posts plan.n h.0 in
    let t_in = inside 1 (plan.n - 1) plan.t h.1.0 in
    record { n_low = n_in.0; n_most = n_in.1; n_high = omega arith; n_element = omega arith; t_low = t_in.0; t_high = omega arith }

pub all_at : (P : ℕ → Type 0) (xs : List ℕ) → All P xs → (i : ℕ) → i < length xs → P (get_or xs i 0)
all_at P [] a i h = absurd (omega arith)
all_at P (x ∷ xs) a zero h = a.0
all_at P (x ∷ xs) a (suc i) h = all_at P xs a.1 i (omega arith)

-- the marks of a new session
unfoldable pub start : Marks
start = record { marks = replicate row_count_of 0; factor_a_is = replicate row_count_of 0; factor_b_is = replicate row_count_of 0; sets = replicate 768 0 }

pub start_sized : Sized start
unfolding start
start_sized = record { marks = length-replicate {A = ℕ} row_count_of 0; factor_a_is = length-replicate {A = ℕ} row_count_of 0; factor_b_is = length-replicate {A = ℕ} row_count_of 0 }

pub start_mark : (r : ℕ) → mark_of start r ≡ empty
unfolding start
start_mark r = elim (dec_lt r row_count_of) [
  | yes low ↦ get_or-replicate row_count_of r 0 0 low
  | no high ↦ get_or-eq_default (replicate row_count_of 0) 0 {n = r} (omega (arith, length-replicate {A = ℕ} row_count_of 0))
]

-- and its numbers
pub blanks : Opened
blanks = record { y_a_is = replicate row_count_of 0; y_b_is = replicate row_count_of 0 }

off : (r : ℕ) {k : ℕ} → mark_of start r ≡ suc k → ⊥
off r e = omega (arith, start_mark r)

module _ (plan : Plan) (draw : Draw) (sound : Sound plan) (is : IsDraw plan draw) where
  counted : (1 ≤ plan.points) × (plan.points ≤ most_points)
  counted = inside 1 most_points plan.points sound.counted

  -- the h-th number of post i in the list of points
  abbrev number : ℕ → ℕ → ℕ
  number i h = get_or draw.points ((i - 1) * plan.points + h) 0

  listed : (i h : ℕ) → 1 ≤ i → i ≤ plan.n → h < plan.points → (1 ≤ number i h) × (number i h < p)
  listed i h lo hi low =
      all_at (λ w. (1 ≤ w) × (w < p)) draw.points is.points ((i - 1) * plan.points + h)
      (omega (arith, is.posts, block_room (i - 1) plan.n plan.points (plan.n * plan.points) (omega arith) refl, mul_comm plan.points plan.n))

  second_is : (i : ℕ) → plan.points ≡ most_points → (point_of plan draw i).second ≡ number i 1
  unfolding point_of
  second_is i two = ap (λ (b : Bool). cond b (number i 1) 0) (eq-eqb plan.points most_points two)

  first_is : (i : ℕ) → (point_of plan draw i).first ≡ number i 0
  unfolding point_of
  first_is i = ap (λ (k : ℕ). get_or draw.points k 0) next
    where
      next : (i - 1) * plan.points ≡ (i - 1) * plan.points + 0
      next = omega arith

  -- each check point is from 1 to p - 1
  pub point_in_is : (i : ℕ) → 1 ≤ i → i ≤ plan.n → (h : ℕ) → h < plan.points
      → (1 ≤ point_at (point_of plan draw i) h) × (point_at (point_of plan draw i) h < p)
  point_in_is i lo hi zero low = subst (λ (w : ℕ). (1 ≤ w) × (w < p)) (sym (first_is i)) (listed i 0 lo hi low)
  point_in_is i lo hi (suc h) low =
      let two : plan.points ≡ most_points = omega (arith, counted, low) in
      subst (λ (w : ℕ). (1 ≤ w) × (w < p)) (sym (second_is i two)) (listed i 1 lo hi (omega (arith, two)))

  -- 1 to 4 let the post pass
  pub post_passes : (i : ℕ) → 1 ≤ i → i ≤ plan.n → outside 1 plan.n i ≡ false
  post_passes i lo hi = ap₂ ◌||◌ (le-ltb i 1 lo) (le-ltb plan.n i hi)

  point_good : (w : ℕ) → (1 ≤ w) × (w < p) → bad_point w ≡ false
  point_good w h = ap₂ ◌||◌ (ne_eqb w 0 (omega (arith, h.0))) (element_test w h.1)

  pub point_passes : (i : ℕ) → 1 ≤ i → i ≤ plan.n → bad_points plan.points (point_of plan draw i) ≡ false
  unfolding bad_points
  point_passes i lo hi =
      ap₂ ◌||◌ sound.counted
      (ap₂ ◌||◌ (point_good (point_of plan draw i).first (point_in_is i lo hi 0 (omega (arith, counted)))) (go (ℕ_discrete plan.points most_points)))
    where
      go : Dec (plan.points ≡ most_points) → bad_second plan.points (point_of plan draw i).second ≡ false
      go (yes two) =
          ap (λ (b : Bool). cond b (bad_point (point_of plan draw i).second) false) (eq-eqb plan.points most_points two)
          ∙ point_good (point_of plan draw i).second (point_in_is i lo hi 1 (omega (arith, two)))
      go (no n) = ap (λ (b : Bool). cond b (bad_point (point_of plan draw i).second) false) (ne_eqb plan.points most_points n)

  pub session_passes : (i : ℕ) → 1 ≤ i → i ≤ plan.n → first (session_tests plan.n plan.t i plan.points (point_of plan draw i)) ≡ 0
  session_passes i lo hi =
      first_join (posts_tests plan.n plan.t) (3 when outside 1 plan.n i ∷ 4 when bad_points plan.points (point_of plan draw i) ∷ []) tt
      ∙ ap₂ or_else sound.posts
      (not_refused (3 when outside 1 plan.n i ∷ 4 when bad_points plan.points (point_of plan draw i) ∷ []) (post_passes i lo hi, (point_passes i lo hi, tt)))

  -- the draw's second point is 0 where there is one
  as_many : (i : ℕ) → as_many_of plan.points (point_of plan draw i) ≡ point_of plan draw i
  unfolding point_of
  as_many i = λ t. record { first = get_or draw.points ((i - 1) * plan.points) 0; second = twice (eqb plan.points most_points) t }
    where
      twice : (b : Bool) → cond b (cond b (get_or draw.points ((i - 1) * plan.points + 1) 0) 0) 0 ≡ cond b (get_or draw.points ((i - 1) * plan.points + 1) 0) 0
      twice true = refl
      twice false = refl

  pub made : (i : ℕ) → 1 ≤ i → i ≤ plan.n → (created plan.n plan.t i plan.points (point_of plan draw i)).session ≡ session_at plan draw i start blanks
  unfolding created start blanks outcome
  made i lo hi = go (first (session_tests plan.n plan.t i plan.points (point_of plan draw i))) (session_passes i lo hi)
    where
      go : (k : ℕ) → k ≡ 0
          → (answer k 0 (session_of plan.n plan.t i plan.points (as_many_of plan.points (point_of plan draw i))) (session_of 0 0 0 0 no_points)).session
          ≡ session_at plan draw i start blanks
      go zero e = ap (session_of plan.n plan.t i plan.points) (as_many i)
      go (suc k) e = absurd (omega arith)

  pub start_stands : (vec : ℕ → Vector) (rows : List ℕ) (i : ℕ) → 1 ≤ i → i ≤ plan.n
      → Stands plan draw (length rows) i start vec (new_post plan draw rows i)
  unfolding new_post blanks
  start_stands vec rows i lo hi =
      record {
        opened = blanks;
        session = made i lo hi;
        holds = record { long = refl; rows = λ r low ne. absurd (ne (start_mark r)) };
        recalls = record { sized = start_sized; a_long = length-replicate {A = ℕ} row_count_of 0; b_long = length-replicate {A = ℕ} row_count_of 0; each = λ r e. absurd (off r e) };
      }

  pub start_facts : (Held : ℕ → Vector → Type 0) (Waits : ℕ → ℕ → ℕ → Type 0) (vec : ℕ → Vector) → Facts plan draw Held Waits start vec
  start_facts Held Waits vec r low =
      record {
        raw = λ e. absurd (off r e);
        held = λ e. absurd (off r e);
        triple = λ e. elim e [ inl h ↦ absurd (off r h) | inr (inl h) ↦ absurd (off r h) | inr (inr h) ↦ absurd (off r h) ];
        waiting = λ e. elim e [ inl h ↦ absurd (off r h) | inr h ↦ absurd (off r h) ];
      }
