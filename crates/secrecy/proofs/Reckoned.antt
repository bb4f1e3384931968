-- The masks to come: by how much the two factors of each triple differ in the two books when its masks are made.
use Prim.Native.Nat.{ℕ, zero, suc}
use mathlib.Core.Path.{◌≡◌, refl}
use mathlib.Core.Bool.{Bool, true, false, cond}
use mathlib.Core.List.{List, [], ◌∷◌}
use lib.Dec.{eqb}
use Rattle.field.specs.Element.{element}
use Rattle.field.proofs.Expression.{A, B, 𝟘, ◌:-◌, :-◌, Same}
use Rattle.field.proofs.Solver.{solve}
use Rattle.field.proofs.Elements.{𝓡}
use Rattle.runs.specs.Outline.{Act, acts}
use Rattle.runs.proofs.Marks.{Masking, of, masking}
use Rattle.secrecy.specs.Steps.{Secrets, Step}
use Rattle.secrecy.specs.Seen.{Entry}
use Rattle.secrecy.specs.Rules.{refusal_of}
use Rattle.secrecy.specs.Book.{Book, entered_by, booked}
use Rattle.secrecy.proofs.Link.{Gaps}
use Rattle.secrecy.proofs.Pair.{apart}
open 𝓡 use {neg, zero as 0ᴱ}

abbrev none : Gaps
none = record { factor_a_is = 0ᴱ; factor_b_is = 0ᴱ }

-- by how much the numbers of a and b differ in the two books
abbrev pub factors_apart : Book → Book → ℕ → ℕ → Gaps
factors_apart b b' x y = record { factor_a_is = apart (b.place x) (b'.place x); factor_b_is = apart (b.place y) (b'.place y) }

-- of the triple at r, with these masks in front of the rest; with these acts; with this call
abbrev pub reckoned_by : Masking → Book → Book → ℕ → Gaps → Gaps
reckoned_by Masking.none b b' r rest = rest
reckoned_by (of x y r') b b' r rest = cond (eqb r r') (factors_apart b b' x y) rest

abbrev pub reckoned_all : Secrets → Secrets → List Act → Book → Book → ℕ → Gaps → Gaps
reckoned_all u u' [] b b' r rest = rest
reckoned_all u u' (a ∷ todo) b b' r rest =
    reckoned_by (masking a) b b' r (reckoned_all u u' todo (entered_by u a b) (entered_by u' a b') r rest)

abbrev pub reckoned_here : Secrets → Secrets → Step → ℕ → Book → Book → ℕ → Gaps → Gaps
reckoned_here u u' c zero b b' r rest = reckoned_all u u' (acts c) b b' r rest
reckoned_here u u' c (suc k) b b' r rest = rest

unfoldable pub reckoned : Secrets → Secrets → List Step → List Entry → Book → Book → ℕ → Gaps
reckoned u u' [] es b b' r = none
reckoned u u' (c ∷ cs) [] b b' r = none
reckoned u u' (c ∷ cs) (e ∷ es) b b' r =
    reckoned_here u u' c (refusal_of e) b b' r (reckoned u u' cs es (booked u c (refusal_of e) b) (booked u' c (refusal_of e) b') r)

-- ---- with the two lists of secrets exchanged

abbrev pub Opposite : Gaps → Gaps → Type 0
Opposite g g' = (g'.factor_a_is ≡ neg g.factor_a_is) × (g'.factor_b_is ≡ neg g.factor_b_is)

apart_back : (x x' : ℕ) → apart x' x ≡ neg (apart x x')
unfolding Same
apart_back x x' = solve 𝓡 (element x ∷ element x' ∷ []) (A :- B) (:- (B :- A)) refl

none_back : Opposite none none
unfolding Same
none_back = (solve 𝓡 [] 𝟘 (:- 𝟘) refl, solve 𝓡 [] 𝟘 (:- 𝟘) refl)

back_by : (m : Masking) (b b' : Book) (r : ℕ) (g g' : Gaps) → Opposite g g' → Opposite (reckoned_by m b b' r g) (reckoned_by m b' b r g')
back_by Masking.none b b' r g g' o = o
back_by (of x y r') b b' r g g' o = go (eqb r r')
  where
    go : (t : Bool) → Opposite (cond t (factors_apart b b' x y) g) (cond t (factors_apart b' b x y) g')
    go true = (apart_back (b.place x) (b'.place x), apart_back (b.place y) (b'.place y))
    go false = o

back_all : (u u' : Secrets) (todo : List Act) (b b' : Book) (r : ℕ) (g g' : Gaps) → Opposite g g'
    → Opposite (reckoned_all u u' todo b b' r g) (reckoned_all u' u todo b' b r g')
back_all u u' [] b b' r g g' o = o
back_all u u' (a ∷ todo) b b' r g g' o =
    back_by (masking a) b b' r _ _ (back_all u u' todo (entered_by u a b) (entered_by u' a b') r g g' o)

here_back : (u u' : Secrets) (c : Step) (k : ℕ) (b b' : Book) (r : ℕ) (g g' : Gaps) → Opposite g g'
    → Opposite (reckoned_here u u' c k b b' r g) (reckoned_here u' u c k b' b r g')
here_back u u' c zero b b' r g g' o = back_all u u' (acts c) b b' r g g' o
here_back u u' c (suc k) b b' r g g' o = o

pub reckoned_back : (u u' : Secrets) (cs : List Step) (es : List Entry) (b b' : Book) (r : ℕ)
    → Opposite (reckoned u u' cs es b b' r) (reckoned u' u cs es b' b r)
unfolding reckoned
reckoned_back u u' [] es b b' r = none_back
reckoned_back u u' (c ∷ cs) [] b b' r = none_back
reckoned_back u u' (c ∷ cs) (e ∷ es) b b' r =
    here_back u u' c (refusal_of e) b b' r _ _
    (reckoned_back u u' cs es (booked u c (refusal_of e) b) (booked u' c (refusal_of e) b') r)
