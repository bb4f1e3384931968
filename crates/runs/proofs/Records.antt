-- Records: what the checks leave of a block, whose polynomials the walk can take, and a post that is alone.
use Prim.Native.Nat.{ℕ, zero, suc, ◌+◌, ◌*◌, ◌-◌, ◌≤◌, ◌<◌}
use mathlib.Core.Path.{◌≡◌, refl, sym, ◌∙◌, ap, subst}
use mathlib.Core.Bool.{true, false}
use mathlib.Core.Logic.{◌≢◌}
use mathlib.Core.List.{List, [], ◌∷◌}
use native.Mathlib.Decide.{ℕ_discrete}
use native.Mathlib.Omega.{arith}
use borrow.Author.Tests.{eq-eqb, ne_eqb, lt-ltb}
use lib.ListN.{length, drop, length-drop}
use lib.Seq.{length-take-le}
use Rattle.field.specs.Element.{element}
use Rattle.poly.specs.Counting.{All, Distinct, Elements}
use Rattle.poly.proofs.Lists.{all_map}
use Rattle.shape.specs.Marks.{present}
use Rattle.shape.specs.Lengths.{needed, v_length, block_length}
use Rattle.refusal.proofs.Laws.{or_false}
use Rattle.session.specs.declared.Session.{Session}
use Rattle.session.specs.Sessions.{points_of, shape_of}
use Rattle.blocks.specs.Blocks as Blocks
use Rattle.blocks.proofs.Blocks.{post_in}
use Rattle.accepting.specs.Accepting as Accepting
use Rattle.accepting.proofs.Accepted.{all_accepted, distinct_accepted}
use Rattle.opening.specs.Walking.{block_mark, block_coefficients, bad_block_of, bad_blocks, sent, accepts, accepted, accepted_posts, too_few_of}
use Rattle.vectors.specs.Vector.{Vector, numbers}
use Rattle.vectors.specs.Claims.{held_row, Truly}
use Rattle.vectors.proofs.Passing.{all_passing}
use Rattle.vectors.proofs.Shares.{all_enough}
use Rattle.runs.specs.Calls.{Proper}
use Rattle.runs.proofs.Finishing.{Trusted}
use Rattle.factory.proofs.Laws.{passes_elements}
use Rattle.runs.proofs.Steps.{own_numbers}

module _ (s : Session) (blocks : List ℕ) where
  -- post j's block is there
  abbrev pub Present : ℕ → Type 0
  Present j = block_mark (v_length (shape_of s)) blocks j ≡ present

  abbrev block : ℕ → List ℕ
  block j = block_coefficients (v_length (shape_of s)) blocks j

  good_block : (j k : ℕ) → bad_blocks s blocks j k ≡ false → (x : ℕ) → j ≤ x → x < j + k → bad_block_of s blocks x ≡ false
  unfolding Blocks.bad_blocks
  good_block j zero e x lo hi = absurd (omega arith)
  good_block j (suc k) e x lo hi = go (ℕ_discrete x j) (λ g. good_block (suc j) k both.1 x (omega arith) (omega arith))
    where
      both : (bad_block_of s blocks j ≡ false) × (bad_blocks s blocks (suc j) k ≡ false)
      both = or_false (bad_block_of s blocks j) (bad_blocks s blocks (suc j) k) e

      go : Dec (x ≡ j) → (x ≢ j → bad_block_of s blocks x ≡ false) → bad_block_of s blocks x ≡ false
      go (yes g) later = ap (bad_block_of s blocks) g ∙ both.0
      go (no g) later = later g

  module _ (j : ℕ) (lo : 1 ≤ j) (hi : j ≤ s.n) (other : j ≢ s.post) where
    pub sent_there : (row : List ℕ) → Present j → sent s row blocks j ≡ block j
    unfolding Blocks.sent
    sent_there row e = rw (ne_eqb j s.post other, eq-eqb (block_mark (v_length (shape_of s)) blocks j) present e)

    -- a post that is accepted has its block there
    pub accepted_there : (row : List ℕ) → accepts s row blocks j ≡ true → Present j
    unfolding Accepting.accepts Blocks.sent
    accepted_there row a = go (ℕ_discrete (block_mark (v_length (shape_of s)) blocks j) present)
      where
        go : Dec (block_mark (v_length (shape_of s)) blocks j ≡ present) → Present j
        go (yes e) = e
        go (no e) =
            let z : false ≡ true = rw (ne_eqb j s.post other, ne_eqb (block_mark (v_length (shape_of s)) blocks j) present e) at a in
            let w : ◌≡◌ {A = ℕ} 0 1 = cc in absurd (omega arith)

    module _ (proper : Proper s blocks) (there : Present j) where
      block_room : (j - 1) * block_length (shape_of s) + 1 + v_length (shape_of s) ≤ length blocks
      block_room = omega (arith, (post_in (shape_of s) j lo hi).room, proper.long)

      pub block_many : length (block j) ≡ v_length (shape_of s)
      block_many = length-take-le (v_length (shape_of s)) (drop ((j - 1) * block_length (shape_of s) + 1) blocks) (omega (arith, block_room, length-drop ((j - 1) * block_length (shape_of s) + 1) blocks))

      pub block_low : Elements (block j)
      unfolding Blocks.bad_block_of
      block_low =
          let good = good_block 1 s.n proper.low j lo (omega arith) in
          passes_elements (block j) (rw (ne_eqb j s.post other, there) at good)

  -- ---- the own polynomial, and all of them

  pub own_true : (S : Vector) → Truly s S blocks s.post
  unfolding Blocks.sent
  own_true S = rw (eq-eqb s.post s.post refl) (own_numbers (shape_of s) s.post (points_of s) S)

  -- the walk takes posts of 1..n that pass
  pub walked : (row : List ℕ) (P : ℕ → Type 0)
      → ((j : ℕ) → 1 ≤ j → j ≤ s.n → accepts s row blocks j ≡ true → P j) → All P (accepted_posts s row blocks)
  walked row P h =
      all_map (λ j a. h j a.from_on (omega (arith, a.before)) a.passes) (accepted_posts s row blocks)
      (all_accepted (accepts s row blocks) 1 s.n (needed (shape_of s)))

  -- where each block that is there is its sender's, so is each that is accepted
  pub all_true : (S : Vector) → ((j : ℕ) → 1 ≤ j → j ≤ s.n → j ≢ s.post → Present j → block j ≡ numbers (v_length (shape_of s)) (S.v j))
      → All (Truly s S blocks) (accepted s (held_row s S) blocks)
  all_true S h =
      all_map (λ j a. go j a.from_on (omega (arith, a.before)) a.passes (ℕ_discrete j s.post)) (accepted s (held_row s S) blocks)
      (all_passing (accepts s (held_row s S) blocks) 1 s.n)
    where
      go : (j : ℕ) → 1 ≤ j → j ≤ s.n → accepts s (held_row s S) blocks j ≡ true → Dec (j ≡ s.post) → Truly s S blocks j
      go j lo hi a (yes e) = subst (Truly s S blocks) (sym e) (own_true S)
      go j lo hi a (no e) =
          let there = accepted_there j lo hi e (held_row s S) a in
          sent_there j lo hi e (held_row s S) there ∙ h j lo hi e there

  pub all_trusted : (S : Vector) → ((j : ℕ) → 1 ≤ j → j ≤ s.n → j ≢ s.post → Present j → block j ≡ numbers (v_length (shape_of s)) (S.v j))
      → Trusted s S blocks
  all_trusted S h few enough = all_enough s S blocks few enough (all_true S h)

  -- ---- a post that is alone has too few

  at_most_one : (l : List ℕ) (x : ℕ) → All (λ j. j ≡ x) l → Distinct l → length l ≤ 1
  at_most_one [] x a d = omega arith
  at_most_one (y ∷ []) x a d = omega arith
  at_most_one (y ∷ z ∷ l) x a d = absurd (d.0.0 (a.1.0 ∙ sym a.0))

  pub alone : (row : List ℕ) → 1 ≤ s.t → ((j : ℕ) → 1 ≤ j → j ≤ s.n → j ≢ s.post → Present j → ⊥) → too_few_of s row blocks ≡ true
  alone row low nobody =
      lt-ltb (length (accepted_posts s row blocks)) (needed (shape_of s))
      (omega (arith, at_most_one (accepted_posts s row blocks) s.post (walked row (λ j. j ≡ s.post) own) (distinct_accepted (accepts s row blocks) 1 s.n (needed (shape_of s)))))
    where
      own : (j : ℕ) → 1 ≤ j → j ≤ s.n → accepts s row blocks j ≡ true → j ≡ s.post
      own j lo hi a = go (ℕ_discrete j s.post)
        where
          go : Dec (j ≡ s.post) → j ≡ s.post
          go (yes e) = e
          go (no e) = absurd (nobody j lo hi e (accepted_there j lo hi e row a))
