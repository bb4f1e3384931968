-- A post's part of a draw, its parts of a triple, and the numbers of a row's line at the start of a room.
use Prim.Native.Nat.{ℕ, ◌+◌, ◌*◌, ◌-◌, ◌≤◌, ◌<◌}
use mathlib.Core.Path.{◌≡◌, refl, sym, ◌∙◌, ap}
use mathlib.Core.List.{List, [], ◌∷◌, ◌++◌, append_assoc, append-nil}
use native.Mathlib.Nat.{add-sub_cancel_left}
use native.Mathlib.Numerals.{add-one}
use native.Mathlib.Decide.{dec_le}
use native.Mathlib.Omega.{arith}
use borrow.Rule.Slice.PartMut.{put_mid}
use lib.ListN.{length, take, drop, get_or, length-append, length-drop}
use lib.Seq.{length-take-le, take_all, take_at}
use Rattle.std.specs.Prelude.{Result, Ok, Err}
use Rattle.field.specs.Arithmetic.{product}
use Rattle.shape.specs.declared.Points.{Points}
use Rattle.shape.specs.Lengths.{row_length, triple_length, draw_length, triple_draw_length}
use Rattle.session.specs.declared.Party.{Party}
use Rattle.parts.specs.Draw.{part, first_draw, second_draw, third_draw}
use Rattle.packs.specs.Packs.{points_at_of, points_from, parts_from}
use Rattle.packs.specs.Between.{PostsRoom}
use Rattle.packs.proofs.Rest.{rest_of}
use Rattle.parts.proofs.Halves.{fronted, back, front_length, back_length, joined}
use Rattle.refusal.specs.declared.Refusal.{Refusal}
use Rattle.kinds.specs.declared.Kind.{Kind}
use Rattle.kinds.specs.declared.Kind.TheVariants.{Empty, Raw, Triple}
use Rattle.kinds.specs.Kinds.{kind_of, drawn_for_of}
use Rattle.kinds.proofs.Kinded.{of_raw, of_triple, of_empty, of_none}
use Rattle.packrow.specs.Numbers.{post_part, triple_parts, numbers_of_of}
use Rattle.packrow.specs.Between.{RestRoom, RowRoom, FactorsRoom, TripleRoom, KindRoom, Front}

-- ---- the factory's writer, for one post, whose check points are a list of its own
module _ (p : Party) (c : ℕ) (rest out : List ℕ) (room : RestRoom p rest out) where
  abbrev k : ℕ
  k = p.shape.points

  abbrev own : List ℕ
  own = p.points.first ∷ p.points.second ∷ []

  pub own_within : k ≤ length own
  own_within = omega (arith, room.post.valid.points_in_is)

  pub own_lent : k ≡ length (take k own)
  own_lent = sym (length-take-le k own own_within)

  pub posts_room : PostsRoom p.shape (p.post - 1) 1 (take k own) rest out
  posts_room = record {
    valid = room.post.valid;
    posts = omega (arith, room.post.first, room.post.last);
    pointed = sym own_lent ∙ omega arith;
    drawn = room.drawn;
    room = omega (arith, room.room);
  }

  own_points : (j : ℕ) → j ≡ 0 → points_at_of k (take k own) j ≡ p.points
  own_points j z = rw z (by_number (dec_le k 1))
    where
      by_number : Dec (k ≤ 1) → points_at_of k (take k own) 0 ≡ p.points
      by_number (yes h) =
          let e : k ≡ 1 = omega (arith, room.post.valid.points_in_is) in
          rw e (ap (λ (s : ℕ). record { first = p.points.first; second = s }) (sym (room.post.lone (omega (arith, h)))))
      by_number (no g) =
          let e : k ≡ 2 = omega (arith, room.post.valid.points_in_is) in
          rw e

  pub part_written : (l : List ℕ) → l ≡ parts_from p.shape (c ∷ rest) (points_from p.shape (take k own) (p.post - 1)) (p.post - 1 + 1) 1
      → l ≡ post_part p (c ∷ rest)
  unfolding post_part parts_from
  part_written l e =
      let i : p.post - 1 + 1 ≡ p.post = omega (arith, room.post.first) in
      e ∙ append-nil _
      ∙ ap (λ (w : Points). part p.shape (p.post - 1 + 1) w (c ∷ rest)) (own_points (p.post - 1 + 1 - (p.post - 1 + 1)) (omega arith))
      ∙ ap (λ (j : ℕ). part p.shape j p.points (c ∷ rest)) i

-- ---- the draw of a row, whose first number stands in it
module _ (p : Party) (draw out : List ℕ) (room : RowRoom p draw out) where
  pub row_drawn : 0 < length draw
  row_drawn = omega (arith, room.drawn)

  pub row_rest : RestRoom p (take (length draw - 1) (drop 1 draw)) out
  row_rest = record { post = room.post; drawn = add-one _ ∙ ap length (rest_of draw row_drawn) ∙ room.drawn; room = room.room }

  pub row_written : (l : List ℕ) → l ≡ post_part p (get_or draw 0 0 ∷ take (length draw - 1) (drop 1 draw)) → l ≡ post_part p draw
  row_written l e = e ∙ ap (post_part p) (rest_of draw row_drawn)

-- ---- l and l', with d drawn and w written numbers each
module _ (p : Party) (d w : ℕ) (draw out : List ℕ) (room : FactorsRoom p draw out) (ed : d ≡ draw_length p.shape)
    (ew : w ≡ row_length p.shape) where
  pub two_drawn : d + d ≤ length draw
  two_drawn = omega (arith, room.drawn, ed)

  pub first_drawn : d ≡ length (take d draw)
  first_drawn = sym (length-take-le d draw (omega (arith, two_drawn)))

  two_rooms : length out ≡ w + w
  two_rooms = omega (arith, room.room, ew)

  pub first_lent : w ≡ length (take w out)
  first_lent = sym (front_length w w out two_rooms)

  pub first_sized : length (take d draw) ≡ draw_length p.shape
  first_sized = sym first_drawn ∙ ed

  pub second_sized : length (take (d + d - d) (drop d draw)) ≡ draw_length p.shape
  second_sized =
      rw (add-sub_cancel_left d d) (length-take-le d (drop d draw) (omega (arith, two_drawn, length-drop d draw)) ∙ ed)

  pub front_sized : length (take w out) ≡ row_length p.shape
  front_sized = sym first_lent ∙ ew

  module _ (ys : List ℕ) (kept : length ys ≡ length (take w out)) where
    pub back_sized : length (back w out ys) ≡ row_length p.shape
    back_sized = back_length w w out two_rooms ys kept ∙ ew

    pub factors_written : (zs : List ℕ) → ys ≡ post_part p (take d draw) → zs ≡ post_part p (take (d + d - d) (drop d draw))
        → put_mid w (length (fronted w out ys) - w) (fronted w out ys) zs
        ≡ post_part p (first_draw (draw_length p.shape) draw) ++ post_part p (second_draw (draw_length p.shape) draw)
    factors_written zs e f =
        joined w w out two_rooms ys kept zs _ _ e (f ∙ rw (add-sub_cancel_left d d))
        ∙ ap (λ (k : ℕ). post_part p (first_draw k draw) ++ post_part p (second_draw k draw)) ed

-- ---- a triple, with the rows of l and l' in the first 2 w places
module _ (p : Party) (w : ℕ) (draw out : List ℕ) (room : TripleRoom p draw out) (ew : w ≡ row_length p.shape) where
  three_rooms : length out ≡ 2 * w + w
  three_rooms = omega (arith, room.room, ew)

  pub factors_lent : length (take (2 * w) out) ≡ 2 * w
  factors_lent = front_length (2 * w) w out three_rooms

  pub factors_room : FactorsRoom p draw (take (2 * w) out)
  factors_room = record { post = room.post; drawn = omega (arith, room.drawn); room = factors_lent ∙ omega (arith, ew) }

module _ (p : Party) (d w : ℕ) (draw out : List ℕ) (room : TripleRoom p draw out) (ed : d ≡ draw_length p.shape)
    (ew : w ≡ row_length p.shape) where
  triple_drawn : length draw + 1 ≡ d + d + d
  triple_drawn = omega (arith, room.drawn, ed)

  pub third_drawn : d + d ≤ length draw
  third_drawn = omega (arith, triple_drawn, ed)

  third_is : take (length draw - (d + d)) (drop (d + d) draw) ≡ drop (d + d) draw
  third_is = take_all (length draw - (d + d)) (drop (d + d) draw) (omega (arith, length-drop (d + d) draw))

  third_part : (c : ℕ) → c ≡ product (get_or draw 0 0) (get_or draw d 0)
      → post_part p (c ∷ take (length draw - (d + d)) (drop (d + d) draw)) ≡ post_part p (third_draw d draw)
  third_part c f = rw (third_is, f)

  module _ (ys : List ℕ) (kept : length ys ≡ length (take (2 * w) out)) where
    pub third_room : RestRoom p (take (length draw - (d + d)) (drop (d + d) draw)) (back (2 * w) out ys)
    third_room = rw third_is (record {
      post = room.post;
      drawn = omega (arith, length-drop (d + d) draw, triple_drawn, ed);
      room = back_length (2 * w) w out (three_rooms p w draw out room ew) ys kept ∙ ew;
    })

    pub triple_written_is : (zs : List ℕ) (c : ℕ)
        → ys ≡ post_part p (first_draw (draw_length p.shape) draw) ++ post_part p (second_draw (draw_length p.shape) draw)
        → c ≡ product (get_or draw 0 0) (get_or draw d 0)
        → zs ≡ post_part p (c ∷ take (length draw - (d + d)) (drop (d + d) draw))
        → put_mid (2 * w) (length (fronted (2 * w) out ys) - 2 * w) (fronted (2 * w) out ys) zs ≡ triple_parts p draw
    unfolding triple_parts
    triple_written_is zs c e f g =
        joined (2 * w) w out (three_rooms p w draw out room ew) ys kept zs _ _ e
        (g ∙ third_part c f ∙ ap (λ (k : ℕ). post_part p (third_draw k draw)) ed)
        ∙ append_assoc (post_part p (first_draw (draw_length p.shape) draw)) _ _

-- ---- the numbers of a line, by the row's kind
module _ (p : Party) (k : ℕ) (draw room : List ℕ) (h : KindRoom p k draw room) (x : Result Kind Refusal) (q : x ≡ kind_of k) where
  abbrev rows : List ℕ
  rows = post_part p draw

  abbrev triple : List ℕ
  triple = triple_parts p draw

  module _ (d : Kind) (e : x ≡ Ok d) (g : d ≡ Raw) (w : ℕ) (ew : w ≡ row_length p.shape) where
    raw_sized : length room ≡ w + 2 * w
    raw_sized = omega (arith, h.place, ew)

    pub raw_lent : length (take w room) ≡ w
    raw_lent = front_length w (2 * w) room raw_sized

    pub raw_room : RowRoom p draw (take w room)
    unfolding drawn_for_of
    raw_room =
        record { post = h.post; drawn = h.drawn ∙ of_raw (draw_length p.shape) (triple_draw_length p.shape) 0 k x q d e g; room = raw_lent ∙ ew }

    pub raw_front : (ys : List ℕ) → length ys ≡ length (take w room) → ys ≡ post_part p draw → Front w (ys ++ drop w room) (numbers_of_of p k draw)
    unfolding numbers_of_of
    raw_front ys n f =
        let l : length ys ≡ w = n ∙ raw_lent in
        rw (of_raw rows triple [] k x q d e g) (record {
          count = sym l ∙ ap length f;
          within = omega (arith, length-append ys (drop w room));
          front = take_at ys (drop w room) w l ∙ f;
        })

  module _ (d : Kind) (e : x ≡ Ok d) (g : d ≡ Triple) where
    pub triple_room : TripleRoom p draw room
    unfolding drawn_for_of
    triple_room =
        record { post = h.post; drawn = h.drawn ∙ of_triple (draw_length p.shape) (triple_draw_length p.shape) 0 k x q d e g; room = h.place }

    pub triple_front : (r : ℕ) (l : List ℕ) → r ≡ triple_length p.shape → length l ≡ length room → l ≡ triple_parts p draw
        → Front r l (numbers_of_of p k draw)
    unfolding numbers_of_of
    triple_front r l f n i =
        rw (of_triple rows triple [] k x q d e g) (record {
          count = omega (arith, h.place, ap length i);
          within = omega (arith, h.place);
          front = take_all r l (omega (arith, h.place)) ∙ i;
        })

  none : Front 0 room []
  none = record { count = refl; within = omega arith; front = refl }

  pub empty_front : x ≡ Ok Empty → Front 0 room (numbers_of_of p k draw)
  unfolding numbers_of_of
  empty_front e = rw (of_empty rows triple [] k x q e) none

  pub unknown_front : (r : Refusal) → x ≡ Err r → Front 0 room (numbers_of_of p k draw)
  unfolding numbers_of_of
  unknown_front r e = rw (of_none rows triple [] k x q r e) none
