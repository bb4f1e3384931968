-- The turns of the loop over the posts, each of whose parts is written into its own place of one list.
use Prim.Native.Nat.{ℕ, zero, suc, ◌+◌, ◌*◌, ◌-◌, ◌≤◌, ◌<◌}
use mathlib.Core.Path.{◌≡◌, refl, sym, ◌∙◌, ap, ap₂}
use mathlib.Core.Bool.{Bool, cond}
use mathlib.Core.Logic.{◌⊎◌, inl, inr}
use mathlib.Core.List.{List, ◌++◌, append_assoc, append-nil}
use native.Mathlib.Numerals.{add-one}
use native.Mathlib.Nat.{suc-mul, zero-mul, add-zero, add-sub_cancel_left, mul-le-mul_right, mul_comm}
use native.Mathlib.Omega.{arith}
use borrow.Author.Tests.{eq-eqb, ne_eqb}
use mir.Syntax.{w64}
use mir.Val.{Fits}
use lib.ListN.{length, take, drop, get_or, length-append, length-drop, take-append-drop}
use lib.Seq.{length-take-le, take_at, drop_at, take_all}
use borrow.Rule.Slice.PartMut.{put_mid, same_len_mid}
use Rattle.shape.specs.declared.Shape.{Shape}
use Rattle.shape.specs.declared.Points.{Points}
use Rattle.shape.specs.Bounds.{most_posts, most_points, longest_row}
use Rattle.shape.specs.Lengths.{Valid, v_length, checks_length, sums_at_of, row_length}
use Rattle.shape.proofs.Small.{each_small}
use Rattle.parts.specs.Between.{v_of, check_at, check_values, part_with, Drawn}
use Rattle.packs.specs.Between.{passed_on, first_sums, parts_with, points_on_of, RowAt, PartsRoom}
use Rattle.packs.specs.Packs.{points_at_of}
use Rattle.parts.proofs.Turns.{block_room}
use Rattle.parts.proofs.Laws.{length_each}
use Rattle.packs.proofs.Passed.{first_sums_of, passed_front, passed_length, passed_sums}

-- places: the j-th post has the w numbers from j * w on
module _ (j n w at m : ℕ) (place : at ≡ j * w) where
  pub end_room : j < n → m ≡ n * w → at + w ≤ m
  end_room h e = omega (arith, block_room j n w m h e)

  pub next_place : at + w ≡ (j + 1) * w
  next_place = rw (add-one j, suc-mul j w, place)

-- none of them wraps
module _ (s : Shape) (i j w at count : ℕ) (points out : List ℕ) (room : PartsRoom s i count points out) (valid : Valid s)
    (ew : w ≡ row_length s) (place : at ≡ j * w) (h : j < count) where
  small : at + w ≤ most_posts * longest_row
  small =
      omega (
        arith,
        end_room j s.n w at (s.n * w) place (omega (arith, room.posts)) refl,
        each_small s w valid (omega (arith, ew, valid.n_in, valid.t_in, valid.reach_in, valid.checks_in)),
      )

  pub end_fits : Fits w64 (at + w)
  end_fits = record { fits = omega (arith, small) }

  pub place_fits : Fits w64 (at * 4)
  place_fits = record { fits = omega (arith, small) }

part_room : (l : List ℕ) (at w : ℕ) → at + w ≤ length l → length (take (at + w - at) (drop at l)) ≡ w
part_room l at w h =
    ap (λ (k : ℕ). length (take k (drop at l))) (add-sub_cancel_left at w)
    ∙ length-take-le w (drop at l) (omega (arith, length-drop at l))

pub part_lent : (s : Shape) (l : List ℕ) (at w : ℕ) → w ≡ row_length s → at + w ≤ length l
    → length (take (at + w - at) (drop at l)) ≡ row_length s
part_lent s l at w e h = part_room l at w h ∙ e

pub parts_room : (s : Shape) (i w count : ℕ) (points out : List ℕ) → PartsRoom s i count points out → w ≡ row_length s
    → length out ≡ count * w
parts_room s i w count points out r e = r.room ∙ ap (λ (k : ℕ). count * k) (sym e)

pub same_room : (s : Shape) (i w count : ℕ) (points old out : List ℕ) → PartsRoom s i count points old → w ≡ row_length s
    → length out ≡ count * w → length out ≡ length old
same_room s i w count points old out r e f = f ∙ sym (parts_room s i w count points old r e)

pub out_kept : (l ys : List ℕ) (a k m : ℕ) → length l ≡ m → length ys ≡ length (take k (drop a l))
    → length (put_mid a k l ys) ≡ m
out_kept l ys a k m e f = same_len_mid a k l ys f ∙ e

module _ (s : Shape) (vs m : List ℕ) (i : ℕ) (ws : ℕ → Points) (count : ℕ) (l : List ℕ) where
  pub posts_start : take 0 l ++ parts_with s vs m ws (i + 0) (count - 0) ≡ parts_with s vs m ws i count
  posts_start = ap₂ (parts_with s vs m ws) (add-zero i) (omega arith)

  pub posts_turn : (j at w : ℕ) (ys : List ℕ) → j < count → at ≡ j * w → length l ≡ count * w
      → take at l ++ parts_with s vs m ws (i + j) (count - j) ≡ parts_with s vs m ws i count
      → length ys ≡ length (take (at + w - at) (drop at l)) → ys ≡ part_with s vs m (i + j) (ws (i + j))
      → take (at + w) (put_mid at (at + w - at) l ys) ++ parts_with s vs m ws (i + (j + 1)) (count - (j + 1))
      ≡ parts_with s vs m ws i count
  unfolding parts_with
  posts_turn j at w ys h p e inv kept f =
      let r : at + w ≤ length l = end_room j count w at (length l) p h e in
      let left : count - j ≡ suc (count - suc j) = omega arith in
      let q : i + (j + 1) ≡ suc (i + j) = omega arith in
      let c : length (take at l ++ ys) ≡ at + w =
      length-append (take at l) ys ∙ omega (arith, length-take-le at l (omega arith), kept, part_room l at w r) in
      rw (← append_assoc (take at l) ys _, take_at (take at l ++ ys) _ (at + w) c, append_assoc, f, q, add-one j)
      (rw left at inv)

  pub posts_end : (j at w : ℕ) → count ≤ j → at ≡ j * w → length l ≡ count * w
      → take at l ++ parts_with s vs m ws (i + j) (count - j) ≡ parts_with s vs m ws i count → l ≡ parts_with s vs m ws i count
  unfolding parts_with
  posts_end j at w h p e inv =
      let r : length l ≤ at = omega (arith, mul-le-mul_right w h) in
      let none : count - j ≡ 0 = omega arith in
      sym (append-nil l) ∙ rw (none, take_all at l r) at inv

-- the places of rows: the first, or behind it
pub row_at : (s : Shape) (j w at count : ℕ) (out : List ℕ) → Valid s → w ≡ row_length s → at ≡ j * w → j < count
    → length out ≡ count * w → RowAt s at out
row_at s j w at count out v ew place h sized =
    record { valid = v; apart = apart j place; inside = rw ew at (end_room j count w at (length out) place h sized) }
  where
    apart : (j : ℕ) → at ≡ j * w → (at ≡ 0) ⊎ (row_length s ≤ at)
    apart zero e = inl (e ∙ zero-mul w)
    apart (suc k) e = inr (omega (arith, e, suc-mul k w, ew))

-- the loop of `write_parts`: the sums stand in the first row, and the parts of the first j posts are written
pub record Standing (s : Shape) (vs m : List ℕ) (ws : ℕ → Points) (i count : ℕ) (out : List ℕ) (at j : ℕ) : Type 0 where
  pub sums : first_sums s out ≡ m
  pub written : take at out ++ parts_with s vs m ws (i + j) (count - j) ≡ parts_with s vs m ws i count

module _ (s : Shape) (vs m : List ℕ) (ws : ℕ → Points) (i count : ℕ) where
  sums_in_part : (rest : List ℕ) (w : Points) → Drawn s vs → i < s.n → length m ≡ s.n
      → first_sums s (part_with s vs m i w ++ rest) ≡ m
  sums_in_part rest w d h sized =
      let own : length (v_of s vs i) ≡ v_length s =
      length-take-le (v_length s) (drop (i * v_length s) vs)
      (omega (arith, length-drop (i * v_length s) vs, block_room i s.n (v_length s) (length vs) h d.drawn)) in
      let front : length (v_of s vs i ++ check_values s w vs) ≡ sums_at_of s =
      length-append (v_of s vs i) (check_values s w vs) ∙ omega (arith, own, length_each (check_at s w vs) 0 (checks_length s)) in
      let joined : part_with s vs m i w ≡ (v_of s vs i ++ check_values s w vs) ++ m = sym (append_assoc (v_of s vs i) (check_values s w vs) m) in
      first_sums_of s (part_with s vs m i w) rest
      (omega (arith, ap length joined, length-append (v_of s vs i ++ check_values s w vs) m, front, sized))
      ∙ ap (first_sums s) joined
      ∙ ap (take s.n) (drop_at (v_of s vs i ++ check_values s w vs) m (sums_at_of s) front)
      ∙ take_all s.n m (omega (arith, sized))

  sums_in_all : (c : ℕ) → 0 < c → Drawn s vs → i < s.n → length m ≡ s.n → first_sums s (parts_with s vs m ws i c) ≡ m
  unfolding parts_with
  sums_in_all zero some d h sized = absurd (omega arith)
  sums_in_all (suc c) some d h sized = sums_in_part (parts_with s vs m ws (suc i) c) (ws i) d h sized

  sums_stay : (l r : List ℕ) (at : ℕ) → row_length s ≤ at → at ≤ length l → 0 < count → Drawn s vs → i < s.n → length m ≡ s.n
      → take at l ++ r ≡ parts_with s vs m ws i count → first_sums s l ≡ m
  sums_stay l r at h room some d hi sized e =
      let front : row_length s ≤ length (take at l) = omega (arith, length-take-le at l room) in
      ap (first_sums s) (sym (take-append-drop at l)) ∙ first_sums_of s (take at l) (drop at l) front
      ∙ sym (first_sums_of s (take at l) r front) ∙ ap (first_sums s) e ∙ sums_in_all count some d hi sized

  pub standing_end : (out : List ℕ) (j at w : ℕ) → count ≤ j → at ≡ j * w → length out ≡ count * w
      → Standing s vs m ws i count out at j → out ≡ parts_with s vs m ws i count
  standing_end out j at w h place sized t = posts_end s vs m i ws count out j at w h place sized t.written

  -- l is the list with the sums in row j, and ys the part that is written there
  module _ (points old out l ys : List ℕ) (j at w : ℕ) (d : Drawn s vs) (room : PartsRoom s i count points old) (ew : w ≡ row_length s)
      (place : at ≡ j * w) (h : j < count) (sized : length out ≡ count * w)
      (t : Standing s vs m ws i count out at j) (e : l ≡ passed_on s at out) where
    here : RowAt s at out
    here = row_at s j w at count out d.valid ew place h sized

    pub passed_sized : length l ≡ count * w
    passed_sized = passed_length s at out l here e ∙ sized

    pub standing_turn : length ys ≡ length (take (at + w - at) (drop at l))
        → (v : Points) → v ≡ ws (i + j) → ys ≡ part_with s vs (drop (sums_at_of s) (take (at + w - at) (drop at l))) (i + j) v
        → Standing s vs m ws i count (put_mid at (at + w - at) l ys) (at + w) (j + 1)
    standing_turn kept v ev f =
        let m-sized : length m ≡ s.n =
        sym (ap length t.sums) ∙ length-take-le s.n (drop (sums_at_of s) out) (omega (arith, length-drop (sums_at_of s) out, here.inside)) in
        let part : ys ≡ part_with s vs m (i + j) (ws (i + j)) =
        f ∙ ap₂ (λ (k : List ℕ) (x : Points). part_with s vs k (i + j) x) (passed_sums s at out l here e w ew ∙ t.sums) ev in
        let before : take at l ++ parts_with s vs m ws (i + j) (count - j) ≡ parts_with s vs m ws i count =
        ap (λ (k : List ℕ). k ++ parts_with s vs m ws (i + j) (count - j)) (passed_front s at out l here e) ∙ t.written in
        let after = posts_turn s vs m i ws count l j at w ys h place passed_sized before kept part in
        let inside : at + w ≤ length (put_mid at (at + w - at) l ys) =
        omega (arith, out_kept l ys at (at + w - at) (count * w) passed_sized kept, sized, here.inside, ew) in
        record {
          sums = sums_stay (put_mid at (at + w - at) l ys) _ (at + w) (omega (arith, ew)) inside (omega arith) d
              (omega (arith, room.posts)) m-sized after;
          written = after;
        }

pub standing_start : (s : Shape) (vs : List ℕ) (ws : ℕ → Points) (out : List ℕ) (i count : ℕ) → Standing s vs (first_sums s out) ws i count out 0 0
standing_start s vs ws out i count = record { sums = refl; written = posts_start s vs (first_sums s out) i ws count out }

-- the j-th post of the list is post i + j
points_on : (s : Shape) (points : List ℕ) (i j : ℕ) (v : Points) → v ≡ points_at_of s.points points j → v ≡ points_on_of s points i (i + j)
points_on s points i j v e = e ∙ ap (points_at_of s.points points) (sym (add-sub_cancel_left i j))

module _ (s : Shape) (vs m : List ℕ) (i count : ℕ) (points old out l ys : List ℕ) (j at w : ℕ) (d : Drawn s vs) (room : PartsRoom s i count points old)
    (ew : w ≡ row_length s) (place : at ≡ j * w) (h : j < count) (sized : length out ≡ count * w)
    (t : Standing s vs m (points_on_of s points i) i count out at j) (e : l ≡ passed_on s at out) where
  pub next_sized : length l ≡ count * w
  next_sized = passed_sized s vs m (points_on_of s points i) i count points old out l ys j at w d room ew place h sized t e

  pub standing_next : length ys ≡ length (take (at + w - at) (drop at l)) → (v : Points) → v ≡ points_at_of s.points points j
      → ys ≡ part_with s vs (drop (sums_at_of s) (take (at + w - at) (drop at l))) (i + j) v
      → Standing s vs m (points_on_of s points i) i count (put_mid at (at + w - at) l ys) (at + w) (j + 1)
  standing_next kept v ev f =
      standing_turn s vs m (points_on_of s points i) i count points old out l ys j at w d room ew place h sized t e kept v (points_on s points i j v ev) f

pub few_posts_is : (s : Shape) (i count : ℕ) (points out : List ℕ) → PartsRoom s i count points out → count ≤ s.n
few_posts_is s i count points out room = omega (arith, room.posts)

-- the check points of the j-th post of the list
module _ (s : Shape) (points : List ℕ) (j count : ℕ) (pointed : length points ≡ s.points * count) (h : j < count) where
  pub points_room : j * s.points + s.points ≤ length points
  points_room = omega (arith, pointed, block_room j count s.points (count * s.points) h refl, mul_comm s.points count)

  module _ (valid : Valid s) (few : count ≤ s.n) where
    points_few : j * s.points + s.points ≤ checks_length s
    points_few = omega (arith, block_room j s.n s.points (s.n * s.points) (omega arith) refl, mul_comm s.points s.n)

    pub points_fit : Fits w64 (j * s.points)
    points_fit = record { fits = omega (arith, points_few, valid.checks_in, valid.n_in) }

    pub first_fits : Fits w64 (j * s.points * 4)
    first_fits = record { fits = omega (arith, points_few, valid.checks_in, valid.n_in) }

    pub next_fits : Fits w64 (j * s.points + 1)
    next_fits = record { fits = omega (arith, points_few, valid.checks_in, valid.n_in, valid.points_in_is) }

    pub second_fits : Fits w64 ((j * s.points + 1) * 4)
    second_fits = record { fits = omega (arith, points_few, valid.checks_in, valid.n_in, valid.points_in_is) }

    pub first_in : j * s.points < length points
    first_in = omega (arith, points_room, valid.points_in_is)

    pub one_there : s.points < 2 → ◌≡◌ {A = Points} (record { first = get_or points (j * s.points) 0; second = 0 }) (points_at_of s.points points j)
    one_there one =
        sym (ap (λ (b : Bool). record { first = get_or points (j * s.points) 0; second = cond b (get_or points (j * s.points + 1) 0) 0 })
        (ne_eqb s.points most_points (λ e. omega (arith, one, e))))

    module _ (two : 2 ≤ s.points) where
      pub second_in : j * s.points + 1 < length points
      second_in = omega (arith, points_room, two)

      pub two_there : ◌≡◌ {A = Points} (record { first = get_or points (j * s.points) 0; second = get_or points (j * s.points + 1) 0 })
          (points_at_of s.points points j)
      two_there =
          sym (ap (λ (b : Bool). record { first = get_or points (j * s.points) 0; second = cond b (get_or points (j * s.points + 1) 0) 0 })
          (eq-eqb s.points most_points (omega (arith, valid.points_in_is, two))))
