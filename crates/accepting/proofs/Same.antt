-- Records from which a party takes the same parts: it accepts the same posts with the same shares, and opens the same.
use Prim.Native.Nat.{ℕ, zero, suc, ◌+◌, ◌≤◌, ◌<◌}
use mathlib.Core.Path.{◌≡◌, refl, sym, ◌∙◌, ap, ap₂}
use mathlib.Core.Bool.{Bool, true, false, not, true≢false}
use mathlib.Core.List.{List, [], ◌∷◌, map}
use native.Mathlib.Omega.{arith}
use lib.Dec.{ltb}
use lib.ListN.{length, take, drop}
use Rattle.poly.specs.Interpolation.{interpolated}
use Rattle.agreement.specs.Agreement.{all_agree}
use Rattle.shape.specs.Lengths.{needed}
use Rattle.session.specs.declared.Party.{Party}
use Rattle.blocks.specs.Blocks.{sent}
use Rattle.accepting.specs.Accepting.{accepts, passing, accepted, share, accepted_posts, further, too_few_of, opened, disagree}
use Rattle.accepting.proofs.Accepted.{takes_first}

map_take : (f : ℕ → ℕ) (n : ℕ) (l : List ℕ) → map f (take n l) ≡ take n (map f l)
map_take f zero l = refl
map_take f (suc n) [] = refl
map_take f (suc n) (x ∷ xs) = ap (λ (l : List ℕ). f x ∷ l) (map_take f n xs)

map_drop : (f : ℕ → ℕ) (n : ℕ) (l : List ℕ) → map f (drop n l) ≡ drop n (map f l)
map_drop f zero l = refl
map_drop f (suc n) [] = refl
map_drop f (suc n) (x ∷ xs) = map_drop f n xs

abbrev with_first : ℕ → Bool → List ℕ → List ℕ
with_first j b l = elim b [ true ↦ j ∷ l | false ↦ l ]

-- posts that pass, and a function's values for them, go by the tests and values of those posts alone
module _ (test test' : ℕ → Bool) (f g : ℕ → ℕ) where
  abbrev Same : ℕ → ℕ → Type 0
  Same j k = (passing test j k ≡ passing test' j k) × (map f (passing test j k) ≡ map g (passing test' j k))

  same_passing : (j k : ℕ) → ((i : ℕ) → j ≤ i → i < j + k → (test i ≡ test' i) × (f i ≡ g i)) → Same j k
  unfolding passing
  same_passing j zero h = (refl, refl)
  same_passing j (suc k) h =
      let (t, v) = h j (omega arith) (omega arith) in
      go (test j) (test' j) t (same_passing (suc j) k (λ i a b. h i (omega arith) (omega arith))) v
    where
      go : (b c : Bool) → b ≡ c → Same (suc j) k → f j ≡ g j
          → (with_first j b (passing test (suc j) k) ≡ with_first j c (passing test' (suc j) k))
          × (map f (with_first j b (passing test (suc j) k)) ≡ map g (with_first j c (passing test' (suc j) k)))
      go true true e s v = (ap (λ (l : List ℕ). j ∷ l) s.0, ap₂ (λ (x : ℕ) (l : List ℕ). x ∷ l) v s.1)
      go true false e s v = absurd (true≢false e)
      go false true e s v = absurd (true≢false (sym e))
      go false false e s v = s

module _ (q : Party) (row a b : List ℕ) (same : (j : ℕ) → 1 ≤ j → j ≤ q.shape.n → sent q row a j ≡ sent q row b j) where
  abbrev need : ℕ
  need = needed q.shape

  abbrev shares : List ℕ → List ℕ → List ℕ
  shares blocks posts = map (share q row blocks) posts

  at : (j : ℕ) → 1 ≤ j → j < 1 + q.shape.n → (accepts q row a j ≡ accepts q row b j) × (share q row a j ≡ share q row b j)
  unfolding accepts share
  at j low high = let e = same j low (omega arith) in (rw e, rw e)

  all : (accepted q row a ≡ accepted q row b) × (shares a (accepted q row a) ≡ shares b (accepted q row b))
  all = same_passing (accepts q row a) (accepts q row b) (share q row a) (share q row b) 1 q.shape.n at

  lowest : accepted_posts q row a ≡ accepted_posts q row b
  lowest = takes_first q row a ∙ ap (take need) all.0 ∙ sym (takes_first q row b)

  lowest_shares : shares a (accepted_posts q row a) ≡ shares b (accepted_posts q row b)
  lowest_shares =
      ap (shares a) (takes_first q row a)
      ∙ map_take (share q row a) need (accepted q row a)
      ∙ ap (take need) all.1
      ∙ sym (map_take (share q row b) need (accepted q row b))
      ∙ ap (shares b) (sym (takes_first q row b))

  rest : further q row a ≡ further q row b
  rest = ap (drop need) all.0

  rest_shares : shares a (further q row a) ≡ shares b (further q row b)
  rest_shares =
      map_drop (share q row a) need (accepted q row a)
      ∙ ap (drop need) all.1
      ∙ sym (map_drop (share q row b) need (accepted q row b))

  pub same_few : too_few_of q row a ≡ too_few_of q row b
  same_few = ap (λ (l : List ℕ). ltb (length l) need) lowest

  pub same_opened : opened q row a ≡ opened q row b
  unfolding opened
  same_opened = ap₂ (λ (xs ys : List ℕ). interpolated xs ys 0) lowest lowest_shares

  pub same_disagree : disagree q row a ≡ disagree q row b
  unfolding disagree
  same_disagree =
      ap₂ (λ (xs ys : List ℕ). not (all_agree xs ys (further q row a) (shares a (further q row a)))) lowest lowest_shares
      ∙ ap₂ (λ (zs ws : List ℕ). not (all_agree (accepted_posts q row b) (shares b (accepted_posts q row b)) zs ws)) rest rest_shares
