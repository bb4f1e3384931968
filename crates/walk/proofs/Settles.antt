-- What both walks hand on settles an opening: 9, 13, or the number.
use Prim.Native.Nat.{ℕ, suc, ◌+◌, ◌-◌, ◌≤◌}
use mathlib.Core.Path.{◌≡◌, refl, sym, ◌∙◌, ap, ap₂}
use mathlib.Core.Bool.{Bool, true, false, not}
use Rattle.std.specs.Prelude.{Option, None, Some, Result, Ok, Err}
use mathlib.Core.List.{List, [], ◌∷◌, ◌++◌, map}
use native.Mathlib.Omega.{arith}
use borrow.Author.Tests.{lt-ltb, le-ltb}
use lib.ListN.{length, take, drop, length-map, length-append, take-append-drop}
use lib.Seq.{take_at, drop_at, length-take-le}
use Rattle.agreement.specs.Agreement as Found
use Rattle.agreement.specs.Agreement.{all_agree}
use Rattle.agreement.specs.Sums.{Reached}
use Rattle.poly.specs.Interpolation.{interpolated}
use Rattle.shape.specs.Lengths.{needed}
use Rattle.session.specs.declared.Party.{Party}
use Rattle.refusal.specs.declared.Refusal.{Refusal}
use Rattle.refusal.specs.declared.Refusal.TheVariants.{TooFewAccepted, InconsistentShares}
use Rattle.accepting.specs.Accepting.{passing, accepts, share, accepted_posts, accepted, further, too_few_of, disagree, opened}
use Rattle.refusal.specs.Refusal.{◌when◌, first, outcome}
use Rattle.walk.specs.Number.{or_nine, opened_row, Told, told, outcome_of, answer_of, told_of}
use Rattle.walk.specs.Between.{WalkedAs, BehindIn, FurtherAs, agreed_on}
use Rattle.walk.specs.Claims.{OutcomeAnswers}
use Rattle.accepting.proofs.Accepted.{takes_first}
use Rattle.walk.proofs.Walks.{Counted, counted}
use Rattle.walk.proofs.Behind.{Behind, end_behind}
use Rattle.walk.proofs.Upward.{passing_rises, passing_last}

-- what the agreement found
module _ (xs ys zs ws : List ℕ) (v : ℕ) (a : Bool) (f : Found.Settles xs ys zs ws v a) where
  pub agreed_number : a ≡ true → Ok v ≡ agreed_on xs ys zs ws
  agreed_number e = let h : all_agree xs ys zs ws ≡ true = sym f.1 ∙ e in rw (h, ← f.0)

  pub agreed_off : a ≡ false → Err InconsistentShares ≡ agreed_on xs ys zs ws
  agreed_off e = let h : all_agree xs ys zs ws ≡ false = sym f.1 ∙ e in rw h

module _ (q : Party) (row blocks : List ℕ) where
  abbrev lowest : List ℕ
  lowest = accepted_posts q row blocks

  abbrev rest : List ℕ
  rest = further q row blocks

  abbrev need : ℕ
  need = needed q.shape

  abbrev n : ℕ
  n = q.shape.n

  behind : Behind (outcome_of q row blocks) (accepts q row blocks) 1 n need (passing (accepts q row blocks) 1 n)
  behind = end_behind (accepts q row blocks) 1 n need (omega arith)

  module _ (end : Option ℕ) (last : ℕ) (ee : end ≡ Some last) (p₀ q₀ : List ℕ) (w : WalkedAs q row blocks end p₀ q₀) where
    ended : outcome_of q row blocks ≡ Some last
    ended = sym w.ended ∙ ee

    many : length lowest ≡ need
    many = let h : Counted (Some last) (length lowest) need = rw ended at (counted q row blocks) in h

    stopped : (need + 1 ≤ suc last) × (suc last ≤ 1 + n) × (drop need (passing (accepts q row blocks) 1 n) ≡ passing (accepts q row blocks) (suc last) (1 + n - suc last))
    stopped =
        let h : Behind (Some last) (accepts q row blocks) 1 n need (passing (accepts q row blocks) 1 n) = rw ended at behind in h

    pub behind_in : (k : ℕ) → k ≡ need → n ≤ length p₀ → n ≤ length q₀ → BehindIn n k last p₀ q₀
    behind_in k e hp hq = record { behind = (omega (arith, stopped.0), omega (arith, stopped.1)); posts_room = hp; shares_room = hq }

    module _ (k : ℕ) (ek : k ≡ need) (count : ℕ) (p q₁ : List ℕ) (f : FurtherAs q row blocks k last p₀ q₀ count p q₁) where
      abbrev shares : List ℕ → List ℕ
      shares l = map (share q row blocks) l

      rest_is : passing (accepts q row blocks) (suc last) (n - last) ≡ rest
      rest_is =
          let e : n - last ≡ 1 + n - suc last = omega arith in
          ap (passing (accepts q row blocks) (suc last)) e ∙ sym stopped.2

      posts_are : take count p ≡ lowest ++ rest
      posts_are =
          f.posts_are
          ∙ ap₂ (λ (a b : List ℕ). a ++ b) (ap (λ (m : ℕ). take m p₀) (ek ∙ sym many) ∙ w.posts_are) rest_is

      shares_are : take count q₁ ≡ shares lowest ++ shares rest
      shares_are =
          f.shares_are
          ∙ ap₂ (λ (a b : List ℕ). a ++ b) (ap (λ (m : ℕ). take m q₀) (ek ∙ sym many) ∙ w.shares_are) (ap shares rest_is)

      some : length lowest ≡ k
      some = many ∙ sym ek

      paired : length (shares lowest) ≡ k
      paired = length-map lowest (share q row blocks) ∙ some

      -- the lists as the code lends them
      enough_in : k ≤ length (take count p)
      enough_in = rw posts_are (omega (arith, length-append lowest rest, some))

      same_many : length (take count q₁) ≡ length (take count p)
      same_many =
          ap length shares_are
          ∙ length-append (shares lowest) (shares rest)
          ∙ ap₂ ◌+◌ (length-map lowest (share q row blocks)) (length-map rest (share q row blocks))
          ∙ sym (ap length posts_are ∙ length-append lowest rest)

      all_posts_is : take count p ≡ accepted q row blocks
      all_posts_is =
          posts_are ∙ ap (λ (l : List ℕ). l ++ rest) (takes_first q row blocks) ∙ take-append-drop need (accepted q row blocks)

      pub reached_in : (t : List ℕ) → n ≤ length t → Reached (take count p) (take count q₁) k t
      reached_in t h = record {
        rising = rw all_posts_is (passing_rises (accepts q row blocks) 0 1 n (omega arith));
        within = rw all_posts_is (omega (arith, passing_last (accepts q row blocks) 0 1 n n (omega arith) (omega arith)));
        paired = same_many;
        some = omega arith;
        enough = enough_in;
      }

      pub opens_agreed : (r : Result ℕ Refusal)
          → r ≡ agreed_on (take k (take count p)) (take k (take count q₁)) (drop k (take count p)) (drop k (take count q₁))
          → r ≡ answer_of end (disagree q row blocks) (opened q row blocks)
      unfolding opened disagree
      opens_agreed r e =
          e
          ∙ (rw (low, low_shares, high, high_shares))
          ∙ ap (λ (w : Option ℕ). answer_of w (disagree q row blocks) (opened q row blocks)) (sym ee)
        where
          low : take k (take count p) ≡ lowest
          low = ap (take k) posts_are ∙ take_at lowest rest k some

          low_shares : take k (take count q₁) ≡ shares lowest
          low_shares = ap (take k) shares_are ∙ take_at (shares lowest) (shares rest) k paired

          high : drop k (take count p) ≡ rest
          high = ap (drop k) posts_are ∙ drop_at lowest rest k some

          high_shares : drop k (take count q₁) ≡ shares rest
          high_shares = ap (drop k) shares_are ∙ drop_at (shares lowest) (shares rest) k paired

  pub opens_few : (end : Option ℕ) → end ≡ None → Err TooFewAccepted ≡ answer_of end (disagree q row blocks) (opened q row blocks)
  opens_few end e = ap (λ (w : Option ℕ). answer_of w (disagree q row blocks) (opened q row blocks)) (sym e)

-- what is told of a row's opening, by the tests of 9 and 13
abbrev pub opening_of : ℕ → ℕ → Told
opening_of k v = outcome k (record { refusal = 0; value = v }) (record { refusal = k; value = 0 })

abbrev pub decided : Bool → Bool → ℕ → Told
decided few off v = opening_of (first (9 when few ∷ 13 when off ∷ [])) v

pub opened_decided : (q : Party) (row blocks : List ℕ)
    → told (opened_row q row blocks) ≡ decided (too_few_of q row blocks) (disagree q row blocks) (opened q row blocks)
unfolding outcome
opened_decided q row blocks = go (too_few_of q row blocks) (disagree q row blocks)
  where
    go : (few off : Bool) → told (or_nine few off (opened q row blocks)) ≡ decided few off (opened q row blocks)
    go true off = refl
    go false true = refl
    go false false = refl

-- by the walk's two cases
answered : (q : Party) (row blocks : List ℕ) → opened_row q row blocks ≡ answer_of (outcome_of q row blocks) (disagree q row blocks) (opened q row blocks)
answered q row blocks = go (outcome_of q row blocks) (counted q row blocks)
  where
    off : Bool
    off = disagree q row blocks

    number : ℕ
    number = opened q row blocks

    go : (end : Option ℕ) → Counted end (length (accepted_posts q row blocks)) (needed q.shape)
        → or_nine (too_few_of q row blocks) off number ≡ answer_of end off number
    go None h = rw (lt-ltb (length (accepted_posts q row blocks)) (needed q.shape) h)
    go (Some last) h =
        let same : length (accepted_posts q row blocks) ≡ needed q.shape = h in
        rw (le-ltb (length (accepted_posts q row blocks)) (needed q.shape) (omega arith))

numbers_told : (end : Option ℕ) (off : Bool) (v : ℕ) → told (answer_of end off v) ≡ told_of end off v
numbers_told None off v = refl
numbers_told (Some last) true v = refl
numbers_told (Some last) false v = refl

pub outcome_answers : OutcomeAnswers
outcome_answers q row blocks =
    (answered q row blocks, ap told (answered q row blocks) ∙ numbers_told (outcome_of q row blocks) (disagree q row blocks) (opened q row blocks))

-- what the walk's outcome answers is what the row opens to
pub row_settled : (q : Party) (row blocks : List ℕ) (end : Option ℕ) (posts shares : List ℕ) → WalkedAs q row blocks end posts shares
    → (r : Result ℕ Refusal) → r ≡ answer_of end (disagree q row blocks) (opened q row blocks) → r ≡ opened_row q row blocks
row_settled q row blocks end posts shares w r e =
    e ∙ ap (λ (o : Option ℕ). answer_of o (disagree q row blocks) (opened q row blocks)) w.ended ∙ sym (answered q row blocks)
