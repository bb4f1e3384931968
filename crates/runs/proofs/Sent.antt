-- Each call sends the lines that specs/Sent.antt says, and no others.
use Prim.Native.Nat.{ℕ, zero, suc, ◌*◌}
use mathlib.Core.Path.{◌≡◌, refl, ◌∙◌, ap}
use mathlib.Core.List.{List, [], ◌∷◌, ◌++◌, map}
use native.Mathlib.Omega.{arith}
use lib.ListN.{length, take, drop, length-drop, take-append-drop}
use Rattle.terms.specs.declared.Term.{Term}
use Rattle.terms.specs.Listed.{products_of}
use Rattle.runs.specs.Outline.{Kinds, CallOf, load_row_of, load_triple_of, deal, message, opening, linear, masks, collect, multiply, relation_masks_of, relation_finish_of, access, Sending, its_masks, maskings, sends}
use Rattle.runs.specs.Calls.{Call, Post, perform, pieces}
use Rattle.runs.specs.Sent.{lines_of, joined, Sent}

maskings_are : (ts : List Term) → maskings ts ≡ map (λ (t : Term). its_masks t.row t.second t.first) ts
maskings_are [] = refl
maskings_are (t ∷ ts) = ap (λ (ss : List Sending). its_masks t.row t.second t.first ∷ ss) (maskings_are ts)

by_call : {K : Kinds} (c : CallOf K) → sends c ≡ lines_of c
by_call (load_row_of x) = refl
by_call (load_triple_of x) = refl
by_call (deal x) = refl
by_call (message x) = refl
by_call (opening x) = refl
by_call (linear x) = refl
by_call (masks x) = refl
by_call (collect x) = refl
by_call (multiply x) = refl
by_call (relation_masks_of x) = maskings_are (products_of x.terms)
by_call (relation_finish_of x) = refl
by_call (access x) = refl

pieces_many : (w m : ℕ) (xs : List ℕ) → length (pieces w m xs) ≡ m
pieces_many w zero xs = refl
pieces_many w (suc m) xs = ap suc (pieces_many w m (drop w xs))

maskings_many : (ts : List Term) → length ts ≡ length (maskings ts)
maskings_many [] = refl
maskings_many (t ∷ ts) = ap suc (maskings_many ts)

all_sent : (c : Call) (q : Post) → length (perform c q).lent ≡ length (sends c)
unfolding perform
all_sent (load_row_of x) q = refl
all_sent (load_triple_of x) q = refl
all_sent (deal x) q = refl
all_sent (message x) q = refl
all_sent (opening x) q = refl
all_sent (linear x) q = refl
all_sent (masks x) q = refl
all_sent (collect x) q = refl
all_sent (multiply x) q = refl
all_sent (relation_masks_of x) q = pieces_many _ (length (products_of x.terms)) _ ∙ maskings_many (products_of x.terms)
all_sent (relation_finish_of x) q = refl
all_sent (access x) q = refl

pieces_whole : (w m : ℕ) (xs : List ℕ) → length xs ≡ m * w → joined (pieces w m xs) ≡ xs
pieces_whole w zero [] e = refl
pieces_whole w zero (x ∷ xs) e = absurd (omega arith)
pieces_whole w (suc m) xs e = ap (λ (ys : List ℕ). take w xs ++ ys) (pieces_whole w m (drop w xs) (omega (arith, length-drop w xs))) ∙ take-append-drop w xs

pub sent : Sent
sent = record { lines = by_call; all = all_sent; whole = pieces_whole }
