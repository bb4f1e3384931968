-- The second walk, over the posts behind the one at which the first stopped: turn by turn, and that it finds the further accepted posts.
use Prim.Native.Nat.{ℕ, zero, suc, ◌+◌, ◌-◌, ◌≤◌, ◌<◌}
use mathlib.Core.Path.{◌≡◌, refl, sym, ◌∙◌, ap}
use mathlib.Core.Bool.{Bool, true, false}
use Rattle.std.specs.Prelude.{Option, None, Some}
use mathlib.Core.List.{List, [], ◌∷◌, ◌++◌, map, append_assoc, append-nil}
use native.Mathlib.Numerals.{add-one}
use native.Mathlib.Omega.{arith}
use lib.ListN.{length, take, drop, set, length-set}
use lib.Seq.{take-suc-set}
use Rattle.session.specs.declared.Party.{Party}
use Rattle.accepting.specs.Accepting.{passing, accepts, share}
use Rattle.walk.specs.Number.{walk_end_of}
use Rattle.walk.specs.Between.{BehindIn, FurtherAs}

-- one post
module _ (test : ℕ → Bool) (j k : ℕ) where
  pub passing_accepted : test j ≡ true → passing test j (suc k) ≡ j ∷ passing test (suc j) k
  unfolding passing
  passing_accepted e = rw (e, passing)

  pub passing_rejected : test j ≡ false → passing test j (suc k) ≡ passing test (suc j) k
  unfolding passing
  passing_rejected e = rw (e, passing)

-- the turns
-- what has been collected, and what is left to find, make all of it
pub record Seeking (test : ℕ → Bool) (f : ℕ → ℕ) (n need last : ℕ) (posts₀ shares₀ posts shares : List ℕ) (count j : ℕ) : Type 0 where
  pub j_from : 1 ≤ j
  pub j_behind : suc last ≤ j
  pub j_to : j ≤ n + 1
  pub count_from_is : need ≤ count
  pub count_to : count < j
  pub fits : (n ≤ length posts₀) × (n ≤ length shares₀)
  pub posts_room : length posts ≡ length posts₀
  pub shares_room : length shares ≡ length shares₀
  pub posts_so_far : take count posts ++ passing test j (n + 1 - j) ≡ take need posts₀ ++ passing test (suc last) (n - last)
  pub shares_so_far : take count shares ++ map f (passing test j (n + 1 - j)) ≡ take need shares₀ ++ map f (passing test (suc last) (n - last))

module _ (test : ℕ → Bool) (f : ℕ → ℕ) (n need last : ℕ) (p₀ q₀ : List ℕ) where
  abbrev At : List ℕ → List ℕ → ℕ → ℕ → Type 0
  At = Seeking test f n need last p₀ q₀

  pub seeking_start : BehindIn n need last p₀ q₀ → At p₀ q₀ need (last + 1)
  seeking_start b = record {
    j_from = omega arith;
    j_behind = omega arith;
    j_to = omega (arith, b.behind);
    count_from_is = omega arith;
    count_to = omega (arith, b.behind);
    fits = (b.posts_room, b.shares_room);
    posts_room = refl;
    shares_room = refl;
    posts_so_far = rw (add-one last, left);
    shares_so_far = rw (add-one last, left);
  }
    where
      left : n + 1 - suc last ≡ n - last
      left = omega arith

  -- a post that is not accepted
  pub seeking_skip : (p p' q q' : List ℕ) (c c' j : ℕ) (b : Bool) → At p q c j → j ≤ n → b ≡ test j → b ≡ false
      → p' ≡ p → q' ≡ q → c' ≡ c → At p' q' c' (j + 1)
  seeking_skip p p' q q' c c' j b s h t e ep eq ec =
      record {
        j_from = omega arith;
        j_behind = omega (arith, s.j_behind);
        j_to = omega arith;
        count_from_is = omega (arith, s.count_from_is);
        count_to = omega (arith, s.count_to);
        fits = s.fits;
        posts_room = rw ep s.posts_room;
        shares_room = rw eq s.shares_room;
        posts_so_far = rw (ep, ec, add-one j) (rw (turn, passing_rejected test j _ (sym t ∙ e)) at s.posts_so_far);
        shares_so_far = rw (eq, ec, add-one j) (rw (turn, passing_rejected test j _ (sym t ∙ e)) at s.shares_so_far);
      }
    where
      turn : n + 1 - j ≡ suc (n + 1 - suc j)
      turn = omega arith

  -- a post that is accepted
  pub seeking_take : (p p' q q' : List ℕ) (c c' j v : ℕ) (b : Bool) → At p q c j → j ≤ n → b ≡ test j → b ≡ true → v ≡ f j
      → p' ≡ set p c j → q' ≡ set q c v → c' ≡ c + 1 → At p' q' c' (j + 1)
  seeking_take p p' q q' c c' j v b s h t e ev ep eq ec =
      record {
        j_from = omega arith;
        j_behind = omega (arith, s.j_behind);
        j_to = omega arith;
        count_from_is = omega (arith, s.count_from_is);
        count_to = omega (arith, s.count_to);
        fits = s.fits;
        posts_room = rw (ep, length-set) s.posts_room;
        shares_room = rw (eq, length-set) s.shares_room;
        posts_so_far = rw (ep, ec, add-one c, add-one j, take-suc-set p c j in_p, append_assoc) (rw (turn, passing_accepted test j _ (sym t ∙ e)) at s.posts_so_far);
        shares_so_far = rw (eq, ec, ev, add-one c, add-one j, take-suc-set q c (f j) in_q, append_assoc) (rw (turn, passing_accepted test j _ (sym t ∙ e)) at s.shares_so_far);
      }
    where
      turn : n + 1 - j ≡ suc (n + 1 - suc j)
      turn = omega arith

      in_p : c < length p
      in_p = omega (arith, s.count_to, s.fits.0, s.posts_room)

      in_q : c < length q
      in_q = omega (arith, s.count_to, s.fits.1, s.shares_room)

  none_left : (j k : ℕ) → k ≡ 0 → passing test j k ≡ []
  unfolding passing
  none_left j k e = rw e

  pub seeking_end : (p q : List ℕ) (c j : ℕ) → At p q c j → n < j
      → (take c p ≡ take need p₀ ++ passing test (suc last) (n - last)) × (take c q ≡ take need q₀ ++ map f (passing test (suc last) (n - last)))
  seeking_end p q c j s h =
      let none : passing test j (n + 1 - j) ≡ [] = none_left j (n + 1 - j) (omega arith) in
      (sym (append-nil (take c p)) ∙ rw none at s.posts_so_far, sym (append-nil (take c q)) ∙ rw none at s.shares_so_far)

-- the same for a party's walk
module _ (q : Party) (row blocks : List ℕ) (need last : ℕ) (p₀ q₀ : List ℕ) where
  abbrev In : List ℕ → List ℕ → ℕ → ℕ → Type 0
  In = Seeking (accepts q row blocks) (share q row blocks) q.shape.n need last p₀ q₀

  pub party_sought : (x y : List ℕ) (c j : ℕ) → In x y c j → q.shape.n < j → FurtherAs q row blocks need last p₀ q₀ c x y
  party_sought x y c j w h =
      let got = seeking_end (accepts q row blocks) (share q row blocks) q.shape.n need last p₀ q₀ x y c j w h in
      record { count_in_is = (w.count_from_is, omega (arith, w.count_to, w.j_to)); posts_are = got.0; shares_are = got.1 }

-- where the first walk stops: at or behind the need-th post, and all that pass behind it are the further ones
abbrev pub Behind : Option ℕ → (ℕ → Bool) → ℕ → ℕ → ℕ → List ℕ → Type 0
Behind None test j k need l = Unit {0}
Behind (Some e) test j k need l =
    (need + j ≤ suc e) × (suc e ≤ j + k) × (drop need l ≡ passing test (suc e) (j + k - suc e))

pub end_behind : (test : ℕ → Bool) (j k need : ℕ) → 1 ≤ j → Behind (walk_end_of test j k need) test j k need (passing test j k)
unfolding walk_end_of passing
end_behind test j k zero h =
    let q : suc (j - 1) ≡ j = omega arith in
    let m : j + k - j ≡ k = omega arith in
    (omega arith, omega arith, rw (q, m))
end_behind test j zero (suc need) h = tt
end_behind test j (suc k) (suc need) h =
    go (test j) (end_behind test (suc j) k need (omega arith)) (end_behind test (suc j) k (suc need) (omega arith))
  where
    swap : (e : ℕ) → suc j + k - e ≡ j + suc k - e
    swap e = omega arith

    one_more : (w : Option ℕ) (l : List ℕ) → Behind w test (suc j) k need l → Behind w test j (suc k) (suc need) (j ∷ l)
    one_more None l b = tt
    one_more (Some e) l b = (omega (arith, b.0), omega (arith, b.1), b.2 ∙ ap (passing test (suc e)) (swap (suc e)))

    on : (w : Option ℕ) (l : List ℕ) → Behind w test (suc j) k (suc need) l → Behind w test j (suc k) (suc need) l
    on None l b = tt
    on (Some e) l b = (omega (arith, b.0), omega (arith, b.1), b.2 ∙ ap (passing test (suc e)) (swap (suc e)))

    go : (b : Bool) → Behind (walk_end_of test (suc j) k need) test (suc j) k need (passing test (suc j) k)
        → Behind (walk_end_of test (suc j) k (suc need)) test (suc j) k (suc need) (passing test (suc j) k)
        → Behind (elim b as (λ z. Option ℕ) [ true ↦ walk_end_of test (suc j) k need | false ↦ walk_end_of test (suc j) k (suc need) ]) test j (suc k)
        (suc need) (elim b as (λ z. List ℕ) [ true ↦ j ∷ passing test (suc j) k | false ↦ passing test (suc j) k ])
    go true a c = one_more (walk_end_of test (suc j) k need) (passing test (suc j) k) a
    go false a c = on (walk_end_of test (suc j) k (suc need)) (passing test (suc j) k) c
