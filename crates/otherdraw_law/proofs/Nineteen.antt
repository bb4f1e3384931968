-- Where the call gives 19 there is no draw behind the wanted secret: f is known at more than t posts.
use Prim.Native.Nat.{ℕ, ◌+◌, ◌<◌}
use mathlib.Core.Path.{◌≡◌, refl, sym, ◌∙◌, ap}
use mathlib.Core.List.{List, [], ◌∷◌}
use native.Mathlib.Omega.{arith}
use lib.ListN.{length, get_or}
use lib.Seq.{get_or-take, length-take-le}
use Rattle.field.specs.Modulus.{p}
use Rattle.field.specs.Arithmetic.{difference}
use Rattle.field.specs.Element.{Element, element}
use Rattle.field.proofs.Expression.{A, B, ◌:+◌, ◌:-◌, Same}
use Rattle.field.proofs.Solver.{solve}
use Rattle.field.proofs.Elements.{𝓡, element_difference, element_injective}
use Rattle.poly.proofs.Lists.{all_map}
use Rattle.poly.proofs.Theorems.{coefficients_determined}
use Rattle.shape.specs.declared.Shape.{Shape}
use Rattle.shape.specs.Lengths.{shape, f_length, draw_length}
use Rattle.parts.specs.Draw.{drawn_f}
use Rattle.parts.proofs.Laws.{elements_take}
use Rattle.otherdraw.proofs.Passed.{nineteen}
use Rattle.otherdraw_law.specs.Claims.{NoneWhereNineteen}
use Rattle.otherdraw_law.proofs.Sees.{long, low, f_same, constant_same}
open 𝓡 use {add as ◌⊕◌, neg}

infixl 65 ◌⊕◌
-- the same less, the same difference
difference_cancel : (x y a : ℕ) → x < p → y < p → difference x a ≡ difference y a → x ≡ y
unfolding Same
difference_cancel x y a lx ly e =
    element_injective x y lx ly
    (solve 𝓡 (element x ∷ element a ∷ []) A (A :- B :+ B) refl
    ∙ ap (λ (z : Element). z ⊕ element a) (sym (element_difference x a) ∙ ap element e ∙ element_difference y a)
    ∙ solve 𝓡 (element y ∷ element a ∷ []) (A :- B :+ B) A refl)

pub length_f : (s : Shape) (draw : List ℕ) → length draw ≡ draw_length s → length (drawn_f s draw) ≡ f_length s
length_f s draw e = length-take-le (f_length s) draw (omega (arith, e))

pub constant_f : (s : Shape) (draw : List ℕ) → get_or (drawn_f s draw) 0 0 ≡ get_or draw 0 0
constant_f s draw = get_or-take (f_length s) draw 0 0 (omega arith)

pub none_where_nineteen : NoneWhereNineteen
none_where_nineteen S draw secret wanted out row refused other b =
    let (g, differ, many) = nineteen S.n S.t S.points S.ws draw secret wanted S.posts out refused in
    let s = shape S.n S.t S.points in
    let far = long S row draw secret wanted g other b in
    let e : drawn_f s other ≡ drawn_f s draw =
    coefficients_determined S.posts (all_map (λ i h. omega (arith, h, g.valid.n_in)) S.posts g.posts_in) g.posts_apart (drawn_f s other) (drawn_f s draw)
    (elements_take (f_length s) other (low S row draw secret wanted g other b)) (elements_take (f_length s) draw g.draw_elements)
    (length_f s other far ∙ sym (length_f s draw g.draw_length_is)) (omega (arith, length_f s other far, many)) (f_same S row draw secret wanted g other b) in
    let constants : get_or other 0 0 ≡ get_or draw 0 0 = sym (constant_f s other) ∙ ap (λ (l : List ℕ). get_or l 0 0) e ∙ constant_f s draw in
    differ
    (sym
    (difference_cancel wanted secret (get_or draw 0 0) g.wanted_low g.secret_low
    (ap (difference wanted) (sym constants) ∙ constant_same S row draw secret wanted g other b)))
