-- A post's part, as the code looks at it: none, or its value at a check point; and its mark, a share or p.
use Prim.Native.Nat.{ℕ, ◌+◌, ◌*◌, ◌-◌, ◌≤◌, ◌<◌}
use mathlib.Core.Path.{◌≡◌, refl, sym, ◌∙◌, ap, ap₂}
use mathlib.Core.Bool.{Bool, true, false, not, ◌&&◌}
use mathlib.Core.List.{List, [], ◌∷◌}
use native.Mathlib.Omega.{arith}
use borrow.Author.Tests.{eq-eqb, ne_eqb}
use lib.Dec.{eqb}
use lib.ListN.{length, get_or}
use Rattle.field.specs.Modulus.{p}
use Rattle.field.specs.Arithmetic.{difference}
use Rattle.field.proofs.Modular.{difference_below}
use Rattle.poly.specs.Polynomial.{value}
use Rattle.shape.specs.Lengths.{v_length, checks_at_of}
use Rattle.shape.specs.Row.{point_at, check_value, public_sum_of}
use Rattle.session.specs.declared.Party.{Party}
use Rattle.blocks.specs.Blocks.{sent}
use Rattle.blocks.proofs.Blocks.{length_sent}
use Rattle.accepting.specs.Accepting.{matches, share}
use Rattle.accepting.specs.Between.{passes_at, unmarked, MarkedAs}

-- p is no mark of a post that passes
gone : unmarked p ≡ false
gone = refl

there : (m : ℕ) → m < p → unmarked m ≡ true
there m low = ap not (ne_eqb m p (λ e. omega (arith, low, e)))

module _ (q : Party) (row blocks : List ℕ) (j h mark : ℕ) where
  abbrev passed : Bool
  passed = unmarked mark && passes_at q row blocks j h

  -- a post that does not pass is marked with p
  off : (r : ℕ) → r ≡ p → false ≡ passed → MarkedAs q row blocks j h mark r
  off r e none = record {
    passes = ap unmarked e ∙ gone ∙ none;
    share_is = λ is. let f : false ≡ true = sym gone ∙ sym (ap unmarked e) ∙ is in let z : ◌≡◌ {A = ℕ} 0 1 = cc in absurd (omega arith);
  }

  pub mark_kept : mark ≡ p → MarkedAs q row blocks j h mark mark
  mark_kept e = off mark e (sym (ap (λ (b : Bool). b && passes_at q row blocks j h) (ap unmarked e ∙ gone)))

  module _ (z : mark ≡ p → ⊥) (part : List ℕ) (e : part ≡ sent q row blocks j) where
    by_point : passes_at q row blocks j h ≡ passed
    by_point = sym (ap (λ (b : Bool). not b && passes_at q row blocks j h) (ne_eqb mark p z))

    pub mark_absent : length part ≡ 0 → MarkedAs q row blocks j h mark p
    unfolding passes_at
    mark_absent none =
        off p refl
        (sym (ap (λ (b : Bool). not b && matches q row (sent q row blocks j) j h) (eq-eqb (length (sent q row blocks j)) 0 (sym (ap length e) ∙ none)))
        ∙ by_point)

    module _ (some : length part ≡ 0 → ⊥) (w v checks : ℕ) (ew : w ≡ point_at q.points h) (ev : v ≡ value part w) (ec : checks ≡ checks_at_of q.shape) where
      abbrev at : ℕ
      at = checks + (j - 1) * q.shape.points + h

      matched : eqb v (get_or row at 0) ≡ passes_at q row blocks j h
      unfolding passes_at
      matched =
          ap₂ eqb (ev ∙ ap₂ value e ew) (ap (λ (i : ℕ). get_or row i 0) place)
          ∙ sym (ap (λ (b : Bool). not b && matches q row (sent q row blocks j) j h) (ne_eqb (length (sent q row blocks j)) 0 (λ z. some (ap length e ∙ z))))
        where
          place : at ≡ checks_at_of q.shape + ((j - 1) * q.shape.points + h)
          place = omega (arith, ec)

      pub mark_right : v ≡ get_or row at 0 → (r : ℕ) → r ≡ difference (public_sum_of q.shape row j) (get_or part 0 0) → MarkedAs q row blocks j h mark r
      unfolding share
      mark_right is r er = record {
        passes = there r (rw er (difference_below (public_sum_of q.shape row j) (get_or part 0 0))) ∙ sym (eq-eqb v (get_or row at 0) is) ∙ matched ∙ by_point;
        share_is = λ is. er ∙ ap (λ (l : List ℕ). difference (public_sum_of q.shape row j) (get_or l 0 0)) e;
      }

      pub mark_wrong : (v ≡ get_or row at 0 → ⊥) → MarkedAs q row blocks j h mark p
      mark_wrong ne = off p refl (sym (ne_eqb v (get_or row at 0) ne) ∙ matched ∙ by_point)

pub part_there : (part : List ℕ) → (length part ≡ 0 → ⊥) → 0 < length part
part_there part some = omega (arith, some)

pub part_short : (q : Party) (row blocks : List ℕ) (j : ℕ) (part : List ℕ) → part ≡ sent q row blocks j → length part ≤ v_length q.shape
part_short q row blocks j part e = rw e (length_sent q row blocks j)
