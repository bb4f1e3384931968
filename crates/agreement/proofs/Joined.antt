-- What joins the functions of src/lib.rt: from the two lists to the agreement of all further values.
use Prim.Native.Nat.{ℕ, suc, ◌+◌, ◌-◌, ◌≤◌, ◌<◌}
use mathlib.Core.Path.{◌≡◌, refl, sym, ◌∙◌, ap, subst}
use mathlib.Core.Bool.{Bool, true, false}
use mathlib.Core.List.{List, [], ◌∷◌}
use native.Mathlib.Omega.{arith}
use lib.ListN.{length, replicate, take, drop, get_or, length-drop, length-replicate}
use lib.Seq.{take_all, length-take-le}
use Rattle.std.specs.Result.{MatchResult}
use Rattle.std.proofs.Common.{Result}
use Rattle.agreement.specs.Agreement.{all_pairs, all_agree, agrees, Settles}
use Rattle.poly.specs.Counting.{All}
use Rattle.poly.specs.Interpolation.{interpolated}
use Rattle.inverses.specs.InverseTable.{most}
use Rattle.barycentric.specs.Nodes.{Rising, last_of}
use Rattle.barycentric.specs.Weights.{Prepared, WeightsOf}
use Rattle.agreement.specs.Sums.{fits, all_fit, tops, bottoms, Weighed, Cleared, Further, Reached, Rooms}
use Rattle.poly.proofs.Lists.{all_map}
use Rattle.barycentric.proofs.Rows.{length_firsts}
use Rattle.barycentric.proofs.Ascent.{rising_last, rising_count, last_of_take, rising_take, rising_further}
use Rattle.agreement.proofs.Fitting.{pairs_same}
use Rattle.agreement.proofs.Dense.{fits_agrees}

pub cleared_of : (k n : ℕ) (l : List ℕ) → k ≡ n → l ≡ replicate k 0 → Cleared n l
cleared_of k n l q e = record { sized = ap length e ∙ length-replicate k 0 ∙ q; zeros = e ∙ ap (λ (i : ℕ). replicate i 0) q }

module _ (xs ys : List ℕ) (v : ℕ) (ws zs ss t a₀ b₀ : List ℕ) (weighed : Weighed xs ys v ws) (further : Further (last_of 0 xs) zs ss t a₀ b₀)
    (above below : List ℕ) where
  pub reached_of : below ≡ bottoms xs → All (λ z. (length below ≤ z) × (z ≤ length t)) zs
  reached_of e =
      let n : length below ≡ suc (last_of 0 xs) = ap length e ∙ length_firsts _ (suc (last_of 0 xs)) in
      all_map (λ z h. (omega (arith, h.0), h.1)) zs further.reached

  pub all_agreed : (r : Bool) → above ≡ tops xs ys → below ≡ bottoms xs → r ≡ all_fit t above below zs ss → r ≡ all_agree xs ys zs ss
  all_agreed r et eb e =
      e
      ∙ pairs_same (fits t above below) (agrees xs ys) zs ss
      (all_map
      (λ z h y. fits_agrees xs t weighed.rising further.table z h.0 h.1 ys (sym weighed.same) above below et eb y) zs
      further.reached)

pub none_further : (test : ℕ → ℕ → Bool) (zs ws : List ℕ) → length zs ≡ 0 → true ≡ all_pairs test zs ws
unfolding all_pairs
none_further test [] ws e = refl
none_further test (z ∷ zs) ws e = absurd (omega arith)

pub weighed_of : (xs ys t gs l₀ l : List ℕ) (v : ℕ) → Prepared xs t gs l₀ → length ys ≡ length xs → v ≡ interpolated xs ys 0 → WeightsOf xs l
    → length l ≡ length l₀ → Weighed xs ys v l
weighed_of xs ys t gs l₀ l v prepared same e w k = record {
  rising = prepared.rising;
  low = omega (arith, prepared.within, prepared.table.short);
  same = same;
  at_zero = e;
  room = omega (arith, prepared.room);
  weights_are = w;
}

-- what the posts' rising shows of the first k and of the further ones
record Parted (xs : List ℕ) (limit k last : ℕ) : Type 0 where
  pub rising : Rising 0 (take k xs)
  pub is_last : last ≡ last_of 0 (take k xs)
  pub most : last ≤ limit
  pub count : k ≤ last
  pub reached : All (λ z. (suc last ≤ z) × (z ≤ limit)) (drop k xs)

parted : (xs ys t : List ℕ) (k last : ℕ) → Reached xs ys k t → last ≡ get_or xs (k - 1) 0 → Parted xs (length t) k last
parted xs ys t k last f el =
    let q : suc (k - 1) ≡ k = omega (arith, f.some) in
    let i : k - 1 < length xs = omega (arith, f.some, f.enough) in
    let il : last ≡ last_of 0 (take k xs) = el ∙ sym (last_of_take 0 xs (k - 1) i) ∙ ap (λ (n : ℕ). last_of 0 (take n xs)) q in
    record {
      rising = rising_take 0 xs k f.rising;
      is_last = il;
      most = omega (arith, f.within, rising_last 0 xs (k - 1) f.rising i);
      count = omega (arith, rising_count 0 xs k f.rising f.enough);
      reached = all_map (λ z h. (omega (arith, h.0), omega (arith, h.1, f.within))) (drop k xs) (rising_further 0 xs k f.rising);
    }

-- a list's end as the code lends it
pub rest_all : (l : List ℕ) (n k : ℕ) → n ≡ length l → take (n - k) (drop k l) ≡ drop k l
rest_all l n k e = take_all (n - k) (drop k l) (omega (arith, length-drop k l))

pub parted_same : (xs ys t : List ℕ) (k : ℕ) → Reached xs ys k t → length (take k ys) ≡ length (take k xs)
parted_same xs ys t k r = length-take-le k ys (omega (arith, r.enough, r.paired)) ∙ sym (length-take-le k xs r.enough)

module _ (posts shares t gs l a b : List ℕ) (k last : ℕ) (r : Reached posts shares k t) (is : last ≡ get_or posts (k - 1) 0)
    (rooms : Rooms t gs l a b) where
  f : Parted posts (length t) k last
  f = parted posts shares t k last r is

  -- the lists' parts that the code lends
  pub count_in_is : k ≤ last
  count_in_is = f.count

  pub end_in : last ≤ most
  end_in = omega (arith, f.most, rooms.table.short)

  pub gaps_in : last - k ≤ length gs
  gaps_in = omega (arith, f.most, rooms.gap_room)

  pub list_in_is : last + 1 ≤ length l
  list_in_is = omega (arith, f.most, rooms.room)

  pub above_in : last + 1 ≤ length a
  above_in = omega (arith, f.most, rooms.above_room)

  pub below_in : last + 1 ≤ length b
  below_in = omega (arith, f.most, rooms.below_room)

  pub parted_prepared : Prepared (take k posts) t (take (last - k) gs) (take (last + 1) l)
  parted_prepared =
      let n = length-take-le k posts r.enough in
      record {
        rising = f.rising;
        some = omega (arith, r.some);
        table = rooms.table;
        within = omega (arith, f.is_last, f.most);
        gap_room = omega (arith, f.is_last, f.count, length-take-le (last - k) gs gaps_in);
        room = omega (arith, f.is_last, length-take-le (last + 1) l list_in_is);
      }

  pub parted_further : (zs ss : List ℕ) → zs ≡ drop k posts → ss ≡ drop k shares
      → Further (last_of 0 (take k posts)) zs ss t (take (last + 1) a) (take (last + 1) b)
  parted_further zs ss ez es = record {
    paired = ap length es ∙ length-drop k shares ∙ ap (λ (n : ℕ). n - k) r.paired ∙ sym (ap length ez ∙ length-drop k posts);
    table = rooms.table;
    reached = subst (λ (s : List ℕ). All (λ z. (suc (last_of 0 (take k posts)) ≤ z) × (z ≤ length t)) s) (sym ez)
        (all_map (λ z h. (omega (arith, h.0, f.is_last), h.1)) (drop k posts) f.reached);
    above_room = omega (arith, f.is_last, length-take-le (last + 1) a above_in);
    below_room = omega (arith, f.is_last, length-take-le (last + 1) b below_in);
  }

-- the answer, with the further ones as the code lends them
pub settled_rest : (xs ys zs ss zs' ss' : List ℕ) (r : Result ℕ ℕ) → zs' ≡ zs → ss' ≡ ss
    → MatchResult r (λ v. Settles xs ys zs' ss' v true) (λ v. Settles xs ys zs' ss' v false)
    → MatchResult r (λ v. Settles xs ys zs ss v true) (λ v. Settles xs ys zs ss v false)
settled_rest xs ys zs ss zs' ss' r ez es e = rw (← ez, ← es) e
