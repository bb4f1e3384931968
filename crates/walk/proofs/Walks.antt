-- The walk over the posts, turn by turn: what has been collected, and the walk that is left, make the whole walk.
use Prim.Native.Nat.{ℕ, zero, suc, ◌+◌, ◌-◌, ◌≤◌, ◌<◌}
use mathlib.Core.Path.{◌≡◌, refl, sym, ◌∙◌, ap}
use mathlib.Core.Bool.{Bool, true, false}
use Rattle.std.specs.Prelude.{Option, None, Some}
use mathlib.Core.List.{List, [], ◌∷◌, ◌++◌, map, append_assoc, append-nil}
use native.Mathlib.Numerals.{add-one}
use native.Mathlib.Omega.{arith}
use lib.ListN.{length, take, set, length-set, length-map}
use lib.Seq.{take-suc-set, length-take-le}
use Rattle.shape.specs.Lengths.{needed}
use Rattle.session.specs.declared.Party.{Party}
use Rattle.accepting.specs.Accepting.{walk, accepts, share, accepted_posts}
use Rattle.walk.specs.Number.{walk_end_of, outcome_of}
use Rattle.walk.specs.Between.{WalkedAs}

-- one post
module _ (test : ℕ → Bool) (j k need : ℕ) where
  pub walk_accepted : test j ≡ true → walk test j (suc k) (suc need) ≡ j ∷ walk test (suc j) k need
  unfolding walk
  walk_accepted e = rw (e, walk)

  pub walk_rejected : test j ≡ false → walk test j (suc k) (suc need) ≡ walk test (suc j) k (suc need)
  unfolding walk
  walk_rejected e = rw (e, walk)

  pub end_accepted : test j ≡ true → walk_end_of test j (suc k) (suc need) ≡ walk_end_of test (suc j) k need
  unfolding walk_end_of
  end_accepted e = rw (e, walk_end_of)

  pub end_rejected : test j ≡ false → walk_end_of test j (suc k) (suc need) ≡ walk_end_of test (suc j) k (suc need)
  unfolding walk_end_of
  end_rejected e = rw (e, walk_end_of)

-- the branch of an accepted post
pub accepted_so : (q : Party) (row blocks : List ℕ) (j : ℕ) (ok : Bool) → ok ≡ accepts q row blocks j → ok ≡ true → accepts q row blocks j ≡ true
accepted_so q row blocks j ok is e = sym is ∙ e

-- with room for a posts and b shares
pub record Walking (test : ℕ → Bool) (f : ℕ → ℕ) (n need a b : ℕ) (posts shares : List ℕ) (count j : ℕ) : Type 0 where
  pub j_from : 1 ≤ j
  pub j_to : j ≤ n + 1
  pub count_to : count ≤ need
  pub fits : (need ≤ a) × (need ≤ b)
  pub posts_room : length posts ≡ a
  pub shares_room : length shares ≡ b
  pub posts_so_far : take count posts ++ walk test j (n + 1 - j) (need - count) ≡ walk test 1 n need
  pub shares_so_far : take count shares ++ map f (walk test j (n + 1 - j) (need - count)) ≡ map f (walk test 1 n need)
  pub end_so_far : walk_end_of test j (n + 1 - j) (need - count) ≡ walk_end_of test 1 n need

module _ (test : ℕ → Bool) (f : ℕ → ℕ) (n need a b : ℕ) where
  abbrev At : List ℕ → List ℕ → ℕ → ℕ → Type 0
  At = Walking test f n need a b

  pub walking_start : (p q : List ℕ) → length p ≡ a → length q ≡ b → need ≤ a → need ≤ b → At p q 0 1
  walking_start p q h k ha hb =
      record {
        j_from = omega arith;
        j_to = omega arith;
        count_to = omega arith;
        fits = (ha, hb);
        posts_room = h;
        shares_room = k;
        posts_so_far = rw (all, none);
        shares_so_far = rw (all, none);
        end_so_far = rw (all, none);
      }
    where
      all : n + 1 - 1 ≡ n
      all = omega arith

      none : need - 0 ≡ need
      none = omega arith

  -- a post that is not accepted
  pub walking_skip : (p p' q q' : List ℕ) (c c' j : ℕ) (ok : Bool) → At p q c j → (c ≡ need → ⊥) → j ≤ n → ok ≡ test j → ok ≡ false
      → p' ≡ p → q' ≡ q → c' ≡ c → At p' q' c' (j + 1)
  walking_skip p p' q q' c c' j ok s ne h t e ep eq ec =
      record {
        j_from = omega arith;
        j_to = omega arith;
        count_to = omega (arith, s.count_to);
        fits = s.fits;
        posts_room = rw ep s.posts_room;
        shares_room = rw eq s.shares_room;
        posts_so_far = rw (ep, ec, add-one j, more) (rw (turn, more, walk_rejected test j _ _ (sym t ∙ e)) at s.posts_so_far);
        shares_so_far = rw (eq, ec, add-one j, more) (rw (turn, more, walk_rejected test j _ _ (sym t ∙ e)) at s.shares_so_far);
        end_so_far = rw (ec, add-one j, more) (rw (turn, more, end_rejected test j _ _ (sym t ∙ e)) at s.end_so_far);
      }
    where
      turn : n + 1 - j ≡ suc (n + 1 - suc j)
      turn = omega arith

      more : need - c ≡ suc (need - suc c)
      more = omega (arith, s.count_to)

  -- a post that is accepted
  pub walking_take : (p p' q q' : List ℕ) (c c' j v : ℕ) (ok : Bool) → At p q c j → (c ≡ need → ⊥) → j ≤ n
      → ok ≡ test j → ok ≡ true → v ≡ f j → p' ≡ set p c j → q' ≡ set q c v → c' ≡ c + 1 → At p' q' c' (j + 1)
  walking_take p p' q q' c c' j v ok s ne h t e ev ep eq ec =
      record {
        j_from = omega arith;
        j_to = omega arith;
        count_to = omega (arith, s.count_to);
        fits = s.fits;
        posts_room = rw (ep, length-set) s.posts_room;
        shares_room = rw (eq, length-set) s.shares_room;
        posts_so_far = rw (ep, ec, add-one c, add-one j, take-suc-set p c j in_p, append_assoc) (rw (turn, more, walk_accepted test j _ _ (sym t ∙ e)) at s.posts_so_far);
        shares_so_far = rw (eq, ec, ev, add-one c, add-one j, take-suc-set q c (f j) in_q, append_assoc) (rw (turn, more, walk_accepted test j _ _ (sym t ∙ e)) at s.shares_so_far);
        end_so_far = rw (ec, add-one c, add-one j) (rw (turn, more, end_accepted test j _ _ (sym t ∙ e)) at s.end_so_far);
      }
    where
      turn : n + 1 - j ≡ suc (n + 1 - suc j)
      turn = omega arith

      more : need - c ≡ suc (need - suc c)
      more = omega (arith, s.count_to)

      in_p : c < length p
      in_p = omega (arith, s.count_to, s.fits.0, s.posts_room)

      in_q : c < length q
      in_q = omega (arith, s.count_to, s.fits.1, s.shares_room)

  -- what is collected at the end
  front : (l p : List ℕ) (c : ℕ) → c ≤ length p → take c p ≡ l → take (length l) p ≡ l
  front l p c h e = ap (λ (k : ℕ). take k p) (sym (ap length e) ∙ length-take-le c p h) ∙ e

  no_more : (j k : ℕ) → walk test j k 0 ≡ []
  unfolding walk
  no_more j zero = refl
  no_more j (suc k) = refl

  none_left : (j m : ℕ) → walk test j 0 m ≡ []
  unfolding walk
  none_left j m = refl

  collected : (p q : List ℕ) (c j : ℕ) → At p q c j → walk test j (n + 1 - j) (need - c) ≡ []
      → (take (length (walk test 1 n need)) p ≡ walk test 1 n need) × (take (length (walk test 1 n need)) q ≡ map f (walk test 1 n need))
  collected p q c j s e = (
    front (walk test 1 n need) p c in_p (sym (append-nil (take c p)) ∙ rw e at s.posts_so_far),
    ap (λ (k : ℕ). take k q) (sym (length-map (walk test 1 n need) f))
        ∙ front (map f (walk test 1 n need)) q c in_q (sym (append-nil (take c q)) ∙ rw e at s.shares_so_far),
  )
    where
      in_p : c ≤ length p
      in_p = omega (arith, s.count_to, s.fits.0, s.posts_room)

      in_q : c ≤ length q
      in_q = omega (arith, s.count_to, s.fits.1, s.shares_room)

  pub walking_enough : (p q : List ℕ) (c j : ℕ) → At p q c j → c ≡ need
      → (take (length (walk test 1 n need)) p ≡ walk test 1 n need) × (take (length (walk test 1 n need)) q ≡ map f (walk test 1 n need))
      × (Some (j - 1) ≡ walk_end_of test 1 n need)
  unfolding walk_end_of
  walking_enough p q c j s e =
      let got = collected p q c j s (ap (walk test j (n + 1 - j)) zero_left ∙ no_more j (n + 1 - j)) in
      (got.0, got.1, rw zero_left at s.end_so_far)
    where
      zero_left : need - c ≡ 0
      zero_left = omega arith

  pub walking_few : (p q : List ℕ) (c j : ℕ) → At p q c j → (c ≡ need → ⊥) → n < j
      → (take (length (walk test 1 n need)) p ≡ walk test 1 n need) × (take (length (walk test 1 n need)) q ≡ map f (walk test 1 n need))
      × (None ≡ walk_end_of test 1 n need)
  unfolding walk_end_of
  walking_few p q c j s ne h =
      let got = collected p q c j s (ap (λ (k : ℕ). walk test j k (need - c)) no_post ∙ none_left j (need - c)) in
      (got.0, got.1, rw (no_post, more) at s.end_so_far)
    where
      no_post : n + 1 - j ≡ 0
      no_post = omega arith

      more : need - c ≡ suc (need - suc c)
      more = omega (arith, s.count_to)

-- the same for a party's walk, each fact as the code has it
module _ (q : Party) (row blocks : List ℕ) (a b need : ℕ) (en : need ≡ needed q.shape) where
  abbrev Test : ℕ → Bool
  Test = accepts q row blocks

  abbrev Share : ℕ → ℕ
  Share = share q row blocks

  abbrev n : ℕ
  n = q.shape.n

  abbrev k : ℕ
  k = needed q.shape

  abbrev In : List ℕ → List ℕ → ℕ → ℕ → Type 0
  In = Walking Test Share n k a b

  module _ (c j : ℕ) (ne : c ≡ need → ⊥) where
    more : c ≡ k → ⊥
    more e = ne (e ∙ sym en)

    pub party_take : (x x' y y' : List ℕ) (c' v : ℕ) (ok : Bool) → In x y c j → j ≤ n → ok ≡ accepts q row blocks j → ok ≡ true
        → v ≡ share q row blocks j → x' ≡ set x c j → y' ≡ set y c v → c' ≡ c + 1 → In x' y' c' (j + 1)
    party_take x x' y y' c' v ok w = walking_take Test Share n k a b x x' y y' c c' j v ok w more

    pub party_skip : (x x' y y' : List ℕ) (c' : ℕ) (ok : Bool) → In x y c j → j ≤ n → ok ≡ accepts q row blocks j → ok ≡ false
        → x' ≡ x → y' ≡ y → c' ≡ c → In x' y' c' (j + 1)
    party_skip x x' y y' c' ok w = walking_skip Test Share n k a b x x' y y' c c' j ok w more

    pub party_few : (x y : List ℕ) → In x y c j → n < j → WalkedAs q row blocks None x y
    party_few x y w h =
        let got = walking_few Test Share n k a b x y c j w more h in
        record { ended = got.2; posts_are = got.0; shares_are = got.1; posts_room = omega (arith, w.fits, w.posts_room); shares_room = omega (arith, w.fits, w.shares_room) }

  pub party_enough : (x y : List ℕ) (c j : ℕ) → In x y c j → c ≡ need → WalkedAs q row blocks (Some (j - 1)) x y
  party_enough x y c j w e =
      let got = walking_enough Test Share n k a b x y c j w (e ∙ en) in
      record { ended = got.2; posts_are = got.0; shares_are = got.1; posts_room = omega (arith, w.fits, w.posts_room); shares_room = omega (arith, w.fits, w.shares_room) }

  -- the walk stops behind the post that was accepted last
  pub party_full : (x y : List ℕ) (c j : ℕ) → In x y c (j + 1) → c ≡ need → WalkedAs q row blocks (Some j) x y
  party_full x y c j w e =
      let back : j + 1 - 1 ≡ j = omega arith in
      rw back at (party_enough x y c (j + 1) w e)

-- the outcome says how many were accepted
abbrev pub Counted : Option ℕ → ℕ → ℕ → Type 0
Counted (Some j) accepted need = accepted ≡ need
Counted None accepted need = accepted < need

end_counts : (test : ℕ → Bool) (j k need : ℕ) → Counted (walk_end_of test j k need) (length (walk test j k need)) need
unfolding walk walk_end_of
end_counts test j zero zero = refl
end_counts test j (suc k) zero = refl
end_counts test j zero (suc need) = omega arith
end_counts test j (suc k) (suc need) = go (test j) (end_counts test (suc j) k need) (end_counts test (suc j) k (suc need))
  where
    one_more : (w : Option ℕ) (l : ℕ) → Counted w l need → Counted w (suc l) (suc need)
    one_more (Some i) l h = ap suc h
    one_more None l h = omega arith

    go : (b : Bool) → Counted (walk_end_of test (suc j) k need) (length (walk test (suc j) k need)) need
        → Counted (walk_end_of test (suc j) k (suc need)) (length (walk test (suc j) k (suc need))) (suc need)
        → Counted (elim b as (λ z. Option ℕ) [ true ↦ walk_end_of test (suc j) k need | false ↦ walk_end_of test (suc j) k (suc need) ])
        (length {A = ℕ} (elim b as (λ z. List ℕ) [ true ↦ j ∷ walk test (suc j) k need | false ↦ walk test (suc j) k (suc need) ]))
        (suc need)
    go true h g = one_more (walk_end_of test (suc j) k need) (length (walk test (suc j) k need)) h
    go false h g = g

pub counted : (q : Party) (row blocks : List ℕ)
    → Counted (outcome_of q row blocks) (length (accepted_posts q row blocks)) (needed q.shape)
counted q row blocks = end_counts (accepts q row blocks) 1 q.shape.n (needed q.shape)
