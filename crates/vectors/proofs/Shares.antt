-- One opening: the shares of posts whose polynomials are their own lie on one polynomial, f with c added to its constant.
use Prim.Native.Nat.{ℕ, zero, suc, ◌+◌, ◌≤◌, ◌<◌}
use mathlib.Core.Path.{◌≡◌, refl, sym, ◌∙◌, ap, ap₂, subst}
use mathlib.Core.Bool.{false, not}
use mathlib.Core.List.{List, [], ◌∷◌, ◌++◌, map, map-append}
use native.Mathlib.Omega.{arith}
use borrow.Author.Tests.{le-ltb, not-false}
use lib.ListN.{length, get_or, take-append-drop, length-map, length-take}
use Rattle.field.specs.Modulus.{p}
use Rattle.field.specs.Arithmetic.{difference}
use Rattle.field.specs.Element.{Element, element}
use Rattle.field.proofs.Expression.{A, B, C, D, 𝟘, ◌:+◌, ◌:*◌, ◌:-◌, Same}
use Rattle.field.proofs.Solver.{solve}
use Rattle.field.proofs.Elements.{𝓡, element_zero, element_difference, element_of_number, number_below}
use Rattle.field.proofs.Modular.{difference_below}
use Rattle.poly.specs.Polynomial.{value}
use Rattle.poly.specs.Counting.{All, Distinct, Elements}
use Rattle.poly.proofs.Lists.{all_map, all_zip}
use Rattle.agreement.specs.Agreement.{all_agree, Given}
use Rattle.agreement.proofs.Agreeing.{agreement_exact, true_values_agree}
use Rattle.shape.specs.declared.Shape.{Shape}
use Rattle.shape.specs.Lengths.{needed, f_length, v_length}
use Rattle.session.specs.declared.Session.{Session}
use Rattle.session.specs.Sessions.{points_of, shape_of}
use Rattle.accepting.specs.Accepting as Accepting
use Rattle.accepting.proofs.Accepted.{Accepted, all_accepted, distinct_accepted, accepted_enough, walk_first}
use Rattle.opening.specs.Walking.{accepts, share, accepted, accepted_posts, further, too_few_of, disagree, opened}
use Rattle.vectors.specs.Vector.{Vector, number, firsts, numbers, value_at, sum_at}
use Rattle.vectors.specs.Claims.{held_row, Truly, EnoughTruly}
use Rattle.vectors.proofs.Linear.{length_numbers}
use Rattle.vectors.proofs.Draws.{value_numbers}
use Rattle.vectors.proofs.Passing.{all_parts, all_passing, passing_most, given_passing}
use Rattle.vectors.proofs.HeldRows.{number_at, sum_of_row, true_passes}
open 𝓡 use {add as ◌⊕◌, mul as ◌⊗◌, neg}

infixl 65 ◌⊕◌
infixl 70 ◌⊗◌
-- f with c added to its constant
share_of : Vector → ℕ → Element
share_of S zero = S.f 0 ⊕ S.c
share_of S (suc i) = S.f (suc i)

value_at_share : (k : ℕ) → 1 ≤ k → (S : Vector) (x : Element) → value_at k (share_of S) x ≡ value_at k S.f x ⊕ S.c
unfolding value_at firsts share_of Same
value_at_share zero h S x = absurd (omega arith)
value_at_share (suc k) h S x =
    solve 𝓡 (S.f 0 ∷ S.c ∷ x ∷ value_at k (λ i. S.f (suc i)) x ∷ []) (A :+ B :+ C :* D) (A :+ C :* D :+ B) refl

value_at_zero_of : (k : ℕ) → 1 ≤ k → (a : ℕ → Element) → value_at k a (element 0) ≡ a 0
unfolding value_at firsts Same
value_at_zero_of zero h a = absurd (omega arith)
value_at_zero_of (suc k) h a =
    ap (λ (z : Element). a 0 ⊕ z ⊗ rest) element_zero ∙ solve 𝓡 (a 0 ∷ rest ∷ []) (A :+ 𝟘 :* B) A refl
  where
    rest : Element
    rest = value_at k (λ i. a (suc i)) (element 0)

module _ (s : Session) (S : Vector) (blocks : List ℕ) where
  abbrev g : Shape
  g = shape_of s

  abbrev row : List ℕ
  row = held_row s S

  -- the polynomial that the shares lie on
  line : List ℕ
  line = numbers (f_length g) (share_of S)

  at_zero : value line 0 ≡ (number S).0
  unfolding line share_of Same
  at_zero =
      value_numbers (f_length g) (share_of S) 0
      ∙ ap (λ (z : Element). z.0)
      (value_at_zero_of (f_length g) (omega arith) (share_of S) ∙ solve 𝓡 (S.f 0 ∷ S.c ∷ []) (A :+ B) (B :+ A) refl)

  share_true : (j : ℕ) → j < s.n → Truly s S blocks (suc j) → share s row blocks (suc j) ≡ value line (suc j)
  unfolding Accepting.share line Same
  share_true j h e =
      ap₂ difference (sum_of_row g s.post (points_of s) S j h)
      (ap (λ (q : List ℕ). get_or q 0 0) e ∙ number_at (v_length g) (S.v (suc j)) 0 (omega arith))
      ∙ sym (number_below (difference m.0 v.0) (difference_below m.0 v.0))
      ∙ ap (λ (z : Element). z.0)
      (element_difference m.0 v.0 ∙ ap₂ (λ (x y : Element). x ⊕ neg y) (element_of_number m) (element_of_number v)
      ∙ solve 𝓡 (v ∷ f ∷ S.c ∷ []) (A :+ B :+ C :- A) (B :+ C) refl
      ∙ sym (value_at_share (f_length g) (omega arith) S (element (suc j))))
      ∙ sym (value_numbers (f_length g) (share_of S) (suc j))
    where
      v : Element
      v = S.v (suc j) 0

      f : Element
      f = value_at (f_length g) S.f (element (suc j))

      m : Element
      m = sum_at g S j

  shares_true : (l : List ℕ) → All (Accepted (accepts s row blocks) 1 s.n) l → All (Truly s S blocks) l
      → map (share s row blocks) l ≡ map (value line) l
  shares_true [] a b = refl
  shares_true (zero ∷ l) a b = absurd (omega (arith, a.0.from_on))
  shares_true (suc j ∷ l) a b = ap₂ ◌∷◌ (share_true j (omega (arith, a.0.before)) b.0) (shares_true l a.1 b.1)

  -- all that are accepted: the walk's posts, and the further ones
  posts : List ℕ
  posts = accepted_posts s row blocks

  abbrev behind : List ℕ
  behind = further s row blocks

  in_range : All (Accepted (accepts s row blocks) 1 s.n) posts
  unfolding posts
  in_range = all_accepted (accepts s row blocks) 1 s.n (needed g)

  in_all : posts ++ behind ≡ accepted s row blocks
  unfolding posts
  in_all =
      ap (λ (l : List ℕ). l ++ behind) (walk_first (accepts s row blocks) 1 s.n (needed g))
      ∙ take-append-drop (needed g) (accepted s row blocks)

  all_parts_of : (P : ℕ → Type 0) → All P (accepted s row blocks) → All P posts × All P behind
  all_parts_of P a = all_parts P posts behind (subst (All P) (sym in_all) a)

  -- where t+1 posts' polynomials are their own, t+1 are accepted
  true_accepts : (j : ℕ) → (1 ≤ j) × (j ≤ s.n) × Truly s S blocks j → Accepted (accepts s row blocks) 1 s.n j
  true_accepts zero h = absurd (omega (arith, h.0))
  true_accepts (suc j) h =
      record { passes = true_passes s S blocks j (omega (arith, h.1)) h.2; from_on = h.0; before = omega (arith, h.1) }

  pub truly_enough : EnoughTruly s S blocks → too_few_of s row blocks ≡ false
  truly_enough t =
      le-ltb (length (accepted_posts s row blocks)) (needed g)
      (omega (
        arith,
        ap length (walk_first (accepts s row blocks) 1 s.n (needed g)),
        length-take (needed g) (accepted s row blocks),
        t.many,
        passing_most (accepts s row blocks) 1 s.n t.good t.different (all_map true_accepts t.good t.truly),
      ))

  module _ (few : s.n < p) (enough : too_few_of s row blocks ≡ false) where
    posts_low : Elements posts
    posts_low = all_map (λ j a. omega (arith, a.before)) posts in_range

    different : Distinct posts
    unfolding posts
    different = distinct_accepted (accepts s row blocks) 1 s.n (needed g)

    posts_many : length posts ≡ needed g
    unfolding posts
    posts_many = accepted_enough (accepts s row blocks) 1 s.n (needed g) enough

    -- as many are needed as f has coefficients
    line_long : length line ≤ length posts
    unfolding line
    line_long = omega (arith, length_numbers (f_length g) (share_of S), posts_many)

    -- the number that the accepted posts give, where t+1 of them are true and no share is off the line
    pub opened_exact : EnoughTruly s S blocks → disagree s row blocks ≡ false → opened s row blocks ≡ (number S).0
    unfolding Accepting.opened Accepting.disagree posts
    opened_exact t agree =
        agreement_exact posts (map (share s row blocks) posts) behind (map (share s row blocks) behind) posts_low different
        (sym (length-map posts (share s row blocks))) (sym (length-map behind (share s row blocks)))
        (not-false (all_agree posts (map (share s row blocks) posts) behind (map (share s row blocks) behind)) agree) line t.good line_long
        (omega (arith, posts_many, t.many)) (all_map (λ j h. omega (arith, h.1)) t.good t.truly) t.different
        (all_map given t.good t.truly) 0
        ∙ at_zero
      where
        given : (j : ℕ) → (1 ≤ j) × (j ≤ s.n) × Truly s S blocks j
            → Given j (value line j) (posts ++ behind) (map (share s row blocks) posts ++ map (share s row blocks) behind)
        given zero h = absurd (omega (arith, h.0))
        given (suc j) h =
            rw (← map-append (share s row blocks) posts behind, in_all, ← share_true j (omega (arith, h.1)) h.2)
            (given_passing (accepts s row blocks) (share s row blocks) 1 s.n (suc j) (true_accepts (suc j) h))

    -- where all accepted are true, no share is off the line
    pub true_agree : All (Truly s S blocks) (accepted s row blocks) → disagree s row blocks ≡ false
    unfolding Accepting.disagree posts
    true_agree a =
        let there = all_parts_of (Accepted (accepts s row blocks) 1 s.n) (all_passing (accepts s row blocks) 1 s.n) in
        let true-parts = all_parts_of (Truly s S blocks) a in
        ap not
        (ap₂ (λ (ys ws : List ℕ). all_agree posts ys behind ws) (shares_true posts there.0 true-parts.0) (shares_true behind there.1 true-parts.1)
        ∙ true_values_agree posts behind posts_low different line line_long)

    -- and the posts that the walk takes are enough
    pub all_enough : All (Truly s S blocks) (accepted s row blocks) → EnoughTruly s S blocks
    all_enough a = record {
      good = posts;
      many = omega (arith, posts_many);
      different = different;
      truly =
          all_zip (λ j h t. (h.from_on, omega (arith, h.before), t)) posts in_range (all_parts_of (Truly s S blocks) a).0;
    }
