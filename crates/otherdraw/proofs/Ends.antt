-- The call: the rooms, and its three ends.
use Prim.Native.Nat.{ℕ, ◌+◌, ◌*◌, ◌≤◌}
use mathlib.Core.Path.{◌≡◌, sym, ◌∙◌, ap, subst}
use mathlib.Core.Bool.{Bool, cond}
use mathlib.Core.Logic.{◌⊎◌, inl, inr}
use mathlib.Core.List.{List}
use native.Mathlib.Nat.{mul-le-mul_right, mul_comm}
use native.Mathlib.Omega.{arith}
use borrow.Author.Tests.{eq-eqb, ne_eqb}
use mir.Syntax.{w64}
use mir.Val.{Fits}
use lib.ListN.{length, take}
use lib.Seq.{length-take-le}
use Rattle.field.specs.Arithmetic.{difference}
use Rattle.shape.specs.declared.Shape.{Shape}
use Rattle.shape.specs.Lengths.{shape, Valid, f_length, v_length}
use Rattle.refusal.proofs.Endings.{accepted}
use Rattle.otherdraw.specs.Other.{points_of, moved, other_draw, other_refusal_of, other_out}
use Rattle.otherdraw.specs.Between.{Seeing, Finding, Roomed}
use Rattle.otherdraw.proofs.Passed.{Given, not_refused, out_fits}

-- ---- the rooms

module _ (s : Shape) (ws posts draw out : List ℕ) (g : Finding s ws posts draw out) where
  few_points : length posts * s.points ≤ s.points * s.t
  few_points = omega (arith, mul-le-mul_right {m = length posts} {n = s.t} s.points g.few, mul_comm s.points s.t)

  pub points_fit : Fits w64 (length posts * s.points)
  points_fit = record { fits = omega (arith, few_points, g.valid.reach_in, g.valid.t_in, g.valid.n_in) }

  module _ (root known factor powers : List ℕ) (r : Roomed s root known factor powers) where
    pub root_lent : (f : ℕ) → f ≡ f_length s → f ≡ length (take f root)
    root_lent f e = sym (length-take-le f root (omega (arith, e, r.root_room)))

    pub known_in : length posts * s.points ≤ length known
    known_in = omega (arith, few_points, r.known_room)

    pub known_lent : length posts * s.points ≡ length (take (length posts * s.points) known)
    known_lent = sym (length-take-le (length posts * s.points) known known_in)

    pub factor_lent : (v : ℕ) → v ≡ v_length s → v ≡ length (take v factor)
    factor_lent v e = sym (length-take-le v factor (omega (arith, e, r.factor_room)))

    pub powers_lent : (f : ℕ) → f ≡ f_length s → f ≡ length (take f powers)
    powers_lent f e = sym (length-take-le f powers (omega (arith, e, r.powers_room)))

    pub lent_seeing : (f v : ℕ) → f ≡ f_length s → v ≡ v_length s
        → Seeing s ws posts (take f root) draw (take (length posts * s.points) known) (take v factor) (take f powers) out
    lent_seeing f v ef ev =
        record {
          gathering = record { valid = g.valid; posts_in = g.posts_in; few = g.few; ws_length = g.ws_length; ws_nonzero = g.ws_nonzero; known_length = sym known_lent };
          root_length = sym (root_lent f ef) ∙ ef;
          factor_length = sym (factor_lent v ev) ∙ ev;
          powers_length = sym (powers_lent f ef) ∙ ef;
          draw_length_is = g.draw_length_is;
          draw_elements = g.draw_elements;
          out_length = g.out_length;
        }

-- rooms for `most` posts: as many coefficients of f, and of a v with two points
pub rooms : (s : Shape) (most : ℕ) → s.n ≤ most → Valid s → (root known factor powers : List ℕ) → length root ≡ most → length known + 1 ≡ 2 * most
    → length factor + 1 ≡ 2 * most → length powers ≡ most → Roomed s root known factor powers
rooms s most h v root known factor powers er ek ef ep =
    record {
      root_room = omega (arith, er, h, v.t_in, v.n_in);
      known_room = omega (arith, ek, h, v.t_in, v.n_in, v.reach_in);
      factor_room = omega (arith, ef, h, v.t_in, v.n_in, v.reach_in);
      powers_room = omega (arith, ep, h, v.t_in, v.n_in);
    }

-- a station whose posts have one check point
module _ (s : Shape) (ws posts draw out : List ℕ) (e : s.points ≡ 1) where
  pub one_finding : Finding s ws posts draw out → Finding (shape s.n s.t 1) ws posts draw out
  one_finding g = subst (λ (k : ℕ). Finding (shape s.n s.t k) ws posts draw out) e g

  pub one_moved : (δ : ℕ) (new : List ℕ) → new ≡ moved (shape s.n s.t 1) posts (points_of 1 ws posts) δ draw
      → new ≡ moved s posts (points_of s.points ws posts) δ draw
  one_moved δ new h = h ∙ ap (λ (k : ℕ). moved (shape s.n s.t k) posts (points_of k ws posts) δ draw) (sym e)

-- ---- the call

module _ (n t points : ℕ) (ws draw : List ℕ) (secret wanted : ℕ) (posts out : List ℕ) (r : ℕ) (e : r ≡ other_refusal_of n t points ws draw secret wanted posts out)
    (z : r ≡ 0) where
  there : Given n t points ws draw secret wanted posts × ((secret ≡ wanted) ⊎ (length posts ≤ t))
  there = not_refused n t points ws draw secret wanted posts out (sym e ∙ z)

  pub copy_long : length draw ≡ length out
  copy_long = there.0.draw_length_is ∙ sym (out_fits n t points ws draw secret wanted posts out (sym e ∙ z))

  pub call_finding : (secret ≡ wanted → ⊥) → Finding (shape n t points) ws posts draw out
  call_finding ne =
      record {
        valid = there.0.valid;
        posts_in = there.0.posts_in;
        few = elim there.1 [ inl q ↦ absurd (ne q) | inr h ↦ h ];
        ws_length = there.0.points_length;
        ws_nonzero = there.0.points_good;
        draw_length_is = there.0.draw_length_is;
        draw_elements = there.0.draw_elements;
        out_length = out_fits n t points ws draw secret wanted posts out (sym e ∙ z);
      }

  pub call_equal : (new : List ℕ) → secret ≡ wanted → new ≡ draw → new ≡ other_out n t points ws draw secret wanted posts out
  unfolding other_draw
  call_equal new q h =
      accepted r (other_refusal_of n t points ws draw secret wanted posts out) new (other_draw n t points ws draw secret wanted posts) out e z
      (h ∙ ap (λ (b : Bool). cond b draw (moved (shape n t points) posts (points_of points ws posts) (difference wanted secret) draw)) (sym (eq-eqb secret wanted q)))

  pub call_moved : (new : List ℕ) (δ : ℕ) → (secret ≡ wanted → ⊥) → δ ≡ difference wanted secret → new ≡ moved (shape n t points) posts (points_of points ws posts) δ draw
      → new ≡ other_out n t points ws draw secret wanted posts out
  unfolding other_draw
  call_moved new δ ne q h =
      accepted r (other_refusal_of n t points ws draw secret wanted posts out) new (other_draw n t points ws draw secret wanted posts) out e z
      (h ∙ ap (λ (x : ℕ). moved (shape n t points) posts (points_of points ws posts) x draw) q
      ∙ ap (λ (b : Bool). cond b draw (moved (shape n t points) posts (points_of points ws posts) (difference wanted secret) draw)) (sym (ne_eqb secret wanted ne)))
