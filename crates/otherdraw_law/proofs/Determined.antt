-- Lists of coefficients that agree from the m-th on and have one value at m different points are equal; and what follows for a change of least
-- degree.
use Prim.Native.Nat.{ℕ, zero, suc, ◌+◌, ◌*◌, ◌-◌, ◌%◌, ◌≤◌, ◌<◌}
use mathlib.Core.Path.{◌≡◌, refl, sym, ◌∙◌, ap, ap₂}
use mathlib.Core.List.{List, [], ◌∷◌, ◌++◌}
use native.Mathlib.Nat.{zero-mul, mul-zero}
use native.Mathlib.Omega.{arith}
use native.Mathlib.Decide.{dec_le}
use lib.ListN.{length, take, drop, get_or, take-append-drop}
use lib.Seq.{drop-drop, get_or-drop, length-take-le}
use Rattle.field.specs.Modulus.{p}
use Rattle.field.specs.Arithmetic.{sum, product}
use Rattle.field.specs.Element.{Element, element}
use Rattle.field.proofs.Modular.{sum_comm, sum_zero}
use Rattle.field.proofs.Expression.{A, B, C, D, E, 𝟘, ◌:+◌, ◌:*◌, ◌:-◌, Same}
use Rattle.field.proofs.Solver.{solve}
use Rattle.field.proofs.Elements.{𝓡, element_injective}
use Rattle.poly.specs.Counting.{All, Distinct, Elements}
use Rattle.poly.specs.Polynomial.{value}
use Rattle.poly.proofs.Bounds.{value_below}
use Rattle.poly.proofs.Lists.{all_map}
use Rattle.poly.proofs.Coefficients.{ev}
use Rattle.poly.proofs.Numbers.{to_elements, element_value_lem}
use Rattle.poly.proofs.Theorems.{coefficients_determined}
use Rattle.parts.proofs.Laws.{elements_take}
use Rattle.session.specs.Rows.{combined}
use Rattle.vanishing.proofs.Vanish.{Ends}
use Rattle.otherdraw_law.specs.Claims.{Below, Least}
open 𝓡 use {add as ◌⊕◌, mul as ◌⊗◌, neg, zero as 0ᴱ}

infixl 65 ◌⊕◌
infixl 70 ◌⊗◌
-- ---- values

-- the same coefficients behind two lists
behind : (a b c : List ℕ) (z : Element) → length a ≡ length b
    → ev 𝓡 (to_elements (a ++ c)) z ⊕ neg (ev 𝓡 (to_elements (b ++ c)) z) ≡ ev 𝓡 (to_elements a) z ⊕ neg (ev 𝓡 (to_elements b) z)
unfolding ev Same
behind [] [] c z e = solve 𝓡 (ev 𝓡 (to_elements c) z ∷ []) (A :- A) (𝟘 :- 𝟘) refl
behind [] (y ∷ b) c z e = absurd (omega arith)
behind (x ∷ a) [] c z e = absurd (omega arith)
behind (x ∷ a) (y ∷ b) c z e =
    solve 𝓡 (element x ∷ element y ∷ z ∷ ev 𝓡 (to_elements (a ++ c)) z ∷ ev 𝓡 (to_elements (b ++ c)) z ∷ [])
    (A :+ C :* D :- (B :+ C :* E)) (A :- B :+ C :* (D :- E)) refl
    ∙ ap (λ (w : Element). element x ⊕ neg (element y) ⊕ z ⊗ w) (behind a b c z (let q : suc (length a) ≡ suc (length b) = e in omega arith))
    ∙ solve 𝓡 (element x ∷ element y ∷ z ∷ ev 𝓡 (to_elements a) z ∷ ev 𝓡 (to_elements b) z ∷ []) (A :- B :+ C :* (D :- E)) (A :+ C :* D :- (B :+ C :* E)) refl

value_first : (a b c : List ℕ) (r : ℕ) → length a ≡ length b → value (a ++ c) r ≡ value (b ++ c) r → value a r ≡ value b r
unfolding Same
value_first a b c r e h =
    element_injective (value a r) (value b r) (value_below a r) (value_below b r)
    (element_value_lem a r ∙ solve 𝓡 (ev 𝓡 (to_elements a) (element r) ∷ ev 𝓡 (to_elements b) (element r) ∷ []) A (A :- B :+ B) refl
    ∙ ap (λ (w : Element). w ⊕ ev 𝓡 (to_elements b) (element r))
    (sym (behind a b c (element r) e)
    ∙ ap (λ (w : Element). w ⊕ neg (ev 𝓡 (to_elements (b ++ c)) (element r))) (sym (element_value_lem (a ++ c) r) ∙ ap element h ∙ element_value_lem (b ++ c) r)
    ∙ 𝓡.add_neg (ev 𝓡 (to_elements (b ++ c)) (element r)))
    ∙ solve 𝓡 (ev 𝓡 (to_elements b) (element r) ∷ []) (𝟘 :+ A) A refl ∙ sym (element_value_lem b r))

module _ (xs ys : List ℕ) (m : ℕ) (nodes : List ℕ) (long : length xs ≡ length ys) (room : m ≤ length xs) (low : Elements xs) (low' : Elements ys)
    (elements : Elements nodes) (apart : Distinct nodes) (many : m ≤ length nodes) (same : drop m xs ≡ drop m ys) where
  firsts : length (take m xs) ≡ length (take m ys)
  firsts = length-take-le m xs room ∙ sym (length-take-le m ys (omega (arith, long, room)))

  whole : (r : ℕ) → value xs r ≡ value ys r → value (take m xs) r ≡ value (take m ys) r
  whole r e =
      value_first (take m xs) (take m ys) (drop m xs) r firsts
      (ap (λ (l : List ℕ). value l r) (take-append-drop m xs) ∙ e ∙ ap (λ (l : List ℕ). value l r) (sym (take-append-drop m ys))
      ∙ ap (λ (d : List ℕ). value (take m ys ++ d) r) (sym same))

  pub determined : All (λ r. value xs r ≡ value ys r) nodes → xs ≡ ys
  determined h =
      sym (take-append-drop m xs)
      ∙ ap₂ ◌++◌
      (coefficients_determined nodes elements apart (take m xs) (take m ys) (elements_take m xs low) (elements_take m ys low') firsts
      (omega (arith, length-take-le m xs room, many)) (all_map whole nodes h))
      same
      ∙ take-append-drop m ys

pub value_at_zero : (cs : List ℕ) → Elements cs → value cs 0 ≡ get_or cs 0 0
unfolding value product
value_at_zero [] low = refl
value_at_zero (c ∷ cs) low = ap (λ (x : ℕ). sum c (x % p)) (zero-mul (value cs 0)) ∙ sum_comm c 0 ∙ sum_zero c low.0

-- ---- a change that ends

pub combined_ends : (m a : ℕ) (xs ys : List ℕ) → length xs ≡ length ys → Elements xs → Ends m ys → drop m (combined a xs ys) ≡ drop m xs
unfolding combined product
combined_ends zero a [] ys e low h = refl
combined_ends zero a (x ∷ xs) [] e low h = absurd (omega arith)
combined_ends zero a (x ∷ xs) (y ∷ ys) e low h =
    ap₂ ◌∷◌ (nothing x y low.0 h.0) (combined_ends zero a xs ys (let q : suc (length xs) ≡ suc (length ys) = e in omega arith) low.1 h.1)
  where
    nothing : (x y : ℕ) → x < p → y ≡ 0 → sum x (product a y) ≡ x
    nothing x y l e = ap (λ (z : ℕ). sum x (product a z)) e ∙ ap (λ (z : ℕ). sum x (z % p)) (mul-zero a) ∙ sum_comm x 0 ∙ sum_zero x l
combined_ends (suc m) a [] ys e low h = refl
combined_ends (suc m) a (x ∷ xs) [] e low h = absurd (omega arith)
combined_ends (suc m) a (x ∷ xs) (y ∷ ys) e low h =
    combined_ends m a xs ys (let q : suc (length xs) ≡ suc (length ys) = e in omega arith) low.1 h

-- ---- least

further : (k m : ℕ) (a b : List ℕ) → k ≤ m → drop k a ≡ drop k b → drop m a ≡ drop m b
further k m a b h e =
    let q : k + (m - k) ≡ m = omega arith in
    ap (λ (n : ℕ). drop n a) (sym q) ∙ sym (drop-drop (m - k) k a) ∙ ap (drop (m - k)) e ∙ drop-drop (m - k) k b ∙ ap (λ (n : ℕ). drop n b) q

-- no coefficient changes from the m-th on: by places, and as lists
behind_places : (m : ℕ) (a b : List ℕ) → drop m a ≡ drop m b → Below m b a
behind_places m a b e q h =
    let at : m + (q - m) ≡ q = omega arith in
    ap (λ (z : ℕ). get_or a z 0) (sym at) ∙ sym (get_or-drop m a (q - m) 0) ∙ ap (λ (l : List ℕ). get_or l (q - m) 0) e ∙ get_or-drop m b (q - m) 0
    ∙ ap (λ (z : ℕ). get_or b z 0) at

behind_lists : (m : ℕ) (a b : List ℕ) → length a ≡ length b → Below m b a → drop m a ≡ drop m b
behind_lists m [] [] e h = refl
behind_lists m [] (y ∷ b) e h = absurd (omega arith)
behind_lists m (x ∷ a) [] e h = absurd (omega arith)
behind_lists zero (x ∷ a) (y ∷ b) e h =
    ap₂ ◌∷◌ (h 0 (omega arith)) (behind_lists zero a b (let q : suc (length a) ≡ suc (length b) = e in omega arith) (λ q l. h (suc q) (omega arith)))
behind_lists (suc m) (x ∷ a) (y ∷ b) e h =
    behind_lists m a b (let q : suc (length a) ≡ suc (length b) = e in omega arith) (λ q l. h (suc q) (omega arith))

-- a change that ends before k, and the only one that does
pub least_by : (Does : List ℕ → Type 0) (old new : List ℕ) (k : ℕ) → ((xs : List ℕ) → Does xs → length xs ≡ length old) → Does new
    → drop k new ≡ drop k old → ((xs : List ℕ) → Does xs → drop k xs ≡ drop k old → xs ≡ new) → Least Does old new
least_by Does old new k long does ends alone =
    record {
      does = does;
      least = λ xs d m b. go xs d m b (dec_le k m);
      only = λ xs d h. alone xs d (behind_lists k xs old (long xs d) (h k (behind_places k new old ends)));
    }
  where
    go : (xs : List ℕ) → Does xs → (m : ℕ) → Below m old xs → Dec (k ≤ m) → Below m old new
    go xs d m b (yes h) = behind_places m new old (further k m new old h ends)
    go xs d m b (no h) =
        let same : xs ≡ new = alone xs d (further m k xs old (omega arith) (behind_lists m xs old (long xs d) b)) in
        λ q l. ap (λ (z : List ℕ). get_or z q 0) (sym same) ∙ b q l
