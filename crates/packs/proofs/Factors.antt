-- A triple: the packs of l and l', and behind them those of l''.
use Prim.Native.Nat.{ℕ, ◌+◌, ◌*◌, ◌-◌, ◌≤◌}
use mathlib.Core.Path.{◌≡◌, ◌∙◌, ap}
use mathlib.Core.List.{List, ◌∷◌, ◌++◌, append_assoc}
use native.Mathlib.Nat.{add-sub_cancel_left}
use native.Mathlib.Omega.{arith}
use lib.ListN.{length, take, drop, get_or, length-drop}
use lib.Seq.{length-take-le, take_all}
use borrow.Rule.Slice.PartMut.{put_mid}
use Rattle.field.specs.Arithmetic.{product}
use Rattle.shape.specs.declared.Shape.{Shape}
use Rattle.shape.specs.Lengths.{draw_length, triple_draw_length, packs_length}
use Rattle.parts.specs.Draw.{first_draw, second_draw, third_draw}
use Rattle.packs.specs.Packs.{points_from, parts_from, packs, triple_packs}
use Rattle.packs.specs.Between.{PostsRoom, Fine, FactorsRoom}
use Rattle.parts.proofs.Halves.{fronted, back, front_length, back_length, joined}

-- `write_factors`, with d drawn and w written numbers each
module _ (s : Shape) (d w : ℕ) (points draw out : List ℕ) (room : FactorsRoom s points draw out) (ed : d ≡ draw_length s)
    (ew : w ≡ packs_length s) where
  pub two_drawn : d + d ≤ length draw
  two_drawn = omega (arith, room.draws, ed)

  pub first_drawn : length (take d draw) ≡ d
  first_drawn = length-take-le d draw (omega (arith, two_drawn))

  second_drawn : length (take d (drop d draw)) ≡ d
  second_drawn = length-take-le d (drop d draw) (omega (arith, two_drawn, length-drop d draw))

  two_rooms : length out ≡ w + w
  two_rooms = omega (arith, room.room, ew)

  pub first_lent : length (take w out) ≡ w
  first_lent = front_length w w out two_rooms

  pub first_fine : Fine s points (take d draw) (draw_length s) (take w out) (packs_length s)
  first_fine = record {
    valid = room.valid;
    points_length = room.points_length;
    draw_length_is = first_drawn ∙ ed;
    out_length = first_lent ∙ ew;
  }

  module _ (ys : List ℕ) (kept : length ys ≡ length (take w out)) where
    pub second_fine : Fine s points (take (d + d - d) (drop d draw)) (draw_length s) (back w out ys) (packs_length s)
    second_fine = record {
      valid = room.valid;
      points_length = room.points_length;
      draw_length_is = rw (add-sub_cancel_left d d) (second_drawn ∙ ed);
      out_length = back_length w w out two_rooms ys kept ∙ ew;
    }

    pub factors_written : (zs : List ℕ) → ys ≡ packs s points (take d draw) → zs ≡ packs s points (take (d + d - d) (drop d draw))
        → put_mid w (length (fronted w out ys) - w) (fronted w out ys) zs
        ≡ packs s points (first_draw (draw_length s) draw) ++ packs s points (second_draw (draw_length s) draw)
    factors_written zs e f =
        joined w w out two_rooms ys kept zs _ _ e (f ∙ rw (add-sub_cancel_left d d))
        ∙ ap (λ (k : ℕ). packs s points (first_draw k draw) ++ packs s points (second_draw k draw)) ed

-- `write_triple`
module _ (s : Shape) (d w : ℕ) (points draw out : List ℕ)
    (fine : Fine s points draw (triple_draw_length s) out (3 * packs_length s)) (ed : d ≡ draw_length s) (ew : w ≡ packs_length s) where
  draw_length_is : length draw + 1 ≡ d + d + d
  draw_length_is = omega (arith, fine.draw_length_is, ed)

  out_length : length out ≡ w + w + w
  out_length = omega (arith, fine.out_length, ew)

  pub factors_lent : length (take (w + w) out) ≡ w + w
  factors_lent = front_length (w + w) w out out_length

  pub third_drawn : d + d ≤ length draw
  third_drawn = omega (arith, draw_length_is, ed)

  pub factors_room : FactorsRoom s points draw (take (w + w) out)
  factors_room = record {
    valid = fine.valid;
    points_length = fine.points_length;
    draws = omega (arith, third_drawn, ed);
    room = factors_lent ∙ omega (arith, ew);
  }

  third_is : take (length draw - (d + d)) (drop (d + d) draw) ≡ drop (d + d) draw
  third_is = take_all (length draw - (d + d)) (drop (d + d) draw) (omega (arith, length-drop (d + d) draw))

  third_packs : (c : ℕ) → c ≡ product (get_or draw 0 0) (get_or draw d 0)
      → packs s points (c ∷ take (length draw - (d + d)) (drop (d + d) draw)) ≡ packs s points (third_draw d draw)
  third_packs c f = rw (third_is, f)

  module _ (ys : List ℕ) (kept : length ys ≡ length (take (w + w) out)) where
    pub third_room : PostsRoom s 0 s.n points (take (length draw - (d + d)) (drop (d + d) draw)) (back (w + w) out ys)
    third_room = rw third_is (record {
      valid = fine.valid;
      posts = omega arith;
      pointed = fine.points_length;
      drawn = omega (arith, length-drop (d + d) draw, draw_length_is, ed);
      room = back_length (w + w) w out out_length ys kept ∙ ew;
    })

    pub triple_written_is : (zs : List ℕ) (c : ℕ)
        → ys ≡ packs s points (first_draw (draw_length s) draw) ++ packs s points (second_draw (draw_length s) draw)
        → c ≡ product (get_or draw 0 0) (get_or draw d 0)
        → zs ≡ parts_from s (c ∷ take (length draw - (d + d)) (drop (d + d) draw)) (points_from s points 0) (0 + 1) s.n
        → put_mid (w + w) (length (fronted (w + w) out ys) - (w + w)) (fronted (w + w) out ys) zs
        ≡ triple_packs s points draw
    unfolding triple_packs
    triple_written_is zs c e f g =
        joined (w + w) w out out_length ys kept zs _ _ e
        (g ∙ third_packs c f ∙ ap (λ (k : ℕ). packs s points (third_draw k draw)) ed)
        ∙ append_assoc (packs s points (first_draw (draw_length s) draw)) _ _
