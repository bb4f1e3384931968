-- What a relation's finish writes: the products, the cleared row, and the sum of the terms; and the session that it leaves.
use Prim.Native.Nat.{ℕ, suc, ◌+◌, ◌*◌, ◌-◌}
use mathlib.Core.Path.{◌≡◌, refl, sym, ◌∙◌, ap}
use mathlib.Core.Bool.{Bool, true, false}
use mathlib.Core.List.{List, [], ◌∷◌}
use native.Mathlib.Omega.{arith}
use lib.ListN.{length, take, drop, get_or, replicate}
use borrow.Rule.Slice.PartMut.{put_mid}
use Rattle.field.specs.Arithmetic.{product}
use Rattle.shape.specs.declared.Shape.{Shape}
use Rattle.shape.specs.Lengths as Lengths
use Rattle.shape.specs.Lengths.{row_length}
use Rattle.callers.specs.Sets.{shared, joining, shared_all}
use Rattle.session.specs.declared.Session.{Session}
use Rattle.session.specs.declared.Answer.{Answer}
use Rattle.session.specs.Sessions.{shape_of, with_barred, sharing_all, holding, collected_triple, finished_triple}
use Rattle.session.specs.Rows.{row_at, with_row, summed}
use Rattle.session.specs.Between.{Framed, Sized, RowIn, TripleIn}
use Rattle.session.proofs.Passed.{row_below}
use Rattle.session.proofs.RowLaws.{row_wide, row_put}
use Rattle.multiply.specs.Multiply.{product_row, with_product}
use Rattle.terms.specs.declared.Term.{Term}
use Rattle.terms.specs.Listed.{plain}
use Rattle.relation.specs.Tests.{by_kind, Factors, Placed}
use Rattle.relation.specs.Finish.{term_number_a, term_number_b, with_products, number_row_of, number_rows, plus_term, plus_terms, with_sum, pair_done, finished_terms}
use Rattle.relation_writing.specs.Steps.{products_written, triples_finished}
use Rattle.relation.proofs.Loops.{walked}

-- the row with a term's number
module _ (t : Term) (b : Bool) (eb : b ≡ plain t) where
  pub row_plain : b ≡ true → t.row ≡ number_row_of t
  row_plain e = let k : plain t ≡ true = sym eb ∙ e in rw k refl

  pub row_product : b ≡ false → t.first + 2 ≡ number_row_of t
  row_product e = let k : plain t ≡ false = sym eb ∙ e in rw k refl

pub number_in : (g : Shape) (t : Term) → Placed g t → RowIn g (number_row_of t)
number_in g t h = go (plain t) refl
  where
    go : (b : Bool) → plain t ≡ b → RowIn g (by_kind b t.row (t.first + 2))
    go true e = h.row_in
    go false e = row_below g (t.first + 2) (omega (arith, (h.factors_in e).triple_in.triple_in))

-- a list of rows of the same length is as good
pub framed_kept : (s : Session) (before now : List ℕ) → Framed s before → length now ≡ length before → Framed s now
framed_kept s before now f e = record {
  sized = record { valid = f.sized.valid; length_is = e ∙ f.sized.length_is };
  post_in = f.post_in;
  point_in_is = f.point_in_is;
}

module _ (s : Session) (g : Shape) (eg : g ≡ shape_of s) (rows : List ℕ) (t : Term) where
  pub product_triple : Factors (shape_of s) t → TripleIn g t.first
  product_triple h = rw eg h.triple_in

  pub product_is : (y_a_of y_b_of : ℕ) (out : List ℕ)
      → out ≡ with_row (row_length g) (t.first + 2)
      (summed (Lengths.sums_at_of g) y_b_of (product y_a_of y_b_of)
      (summed (Lengths.sums_at_of g) y_a_of 0 (row_at (row_length g) rows (t.first + 2)) (row_at (row_length g) rows (t.first + 1))) (row_at (row_length g) rows t.first)) rows
      → out ≡ with_product s y_a_of y_b_of t.first rows
  unfolding with_product product_row
  product_is y_a_of y_b_of out e = rw eg at e

  pub sum_dest : (d : ℕ) → RowIn (shape_of s) d → RowIn g d
  sum_dest d h = rw eg h

  pub sum_row : (r : ℕ) → Placed (shape_of s) t → r ≡ number_row_of t → RowIn g r
  sum_row r p e = rw (eg, e) (number_in (shape_of s) t p)

  pub sum_is : (d c r : ℕ) (out : List ℕ) → r ≡ number_row_of t
      → out ≡ with_row (row_length g) d (summed (Lengths.sums_at_of g) c 0 (row_at (row_length g) rows d) (row_at (row_length g) rows r)) rows
      → c ≡ t.coefficient → out ≡ plus_term s d t rows
  sum_is d c r out e eo ec = rw (eg, e, ec) at eo

abbrev pub product_in : Session → List ℕ → List ℕ → ℕ → Term → List ℕ → List ℕ
product_in s y_a_of y_b_of k t rows = with_product s (get_or y_a_of k 0) (get_or y_b_of k 0) t.first rows

pub products_walk : (s : Session) (y_a_of y_b_of : List ℕ) (k : ℕ) (ts : List Term) (rows : List ℕ)
    → walked (product_in s y_a_of y_b_of) k ts rows ≡ products_written s y_a_of y_b_of k ts rows
unfolding products_written
products_walk s y_a_of y_b_of k [] rows = refl
products_walk s y_a_of y_b_of k (t ∷ ts) rows = products_walk s y_a_of y_b_of (suc k) ts (product_in s y_a_of y_b_of k t rows)

abbrev pub term_in : Session → ℕ → ℕ → Term → List ℕ → List ℕ
term_in s d k t rows = plus_term s d t rows

pub terms_walk : (s : Session) (d k : ℕ) (ts : List Term) (rows : List ℕ) → walked (term_in s d) k ts rows ≡ plus_terms s d ts rows
unfolding plus_terms
terms_walk s d k [] rows = refl
terms_walk s d k (t ∷ ts) rows = terms_walk s d (suc k) ts (plus_term s d t rows)

-- a row of zeros
pub clear_is : (g : Shape) (rows : List ℕ) (d from w : ℕ) → from ≡ d * row_length g → w ≡ row_length g → Sized g rows → RowIn g d
    → (x : List ℕ) → x ≡ replicate (length (take (from + w - from) (drop from rows))) 0
    → put_mid from (from + w - from) rows x ≡ with_row (row_length g) d (replicate (row_length g) 0) rows
clear_is g rows d from w ef ew z i x e =
    let q : x ≡ replicate (row_length g) 0 =
    e ∙ ap (λ (k : ℕ). replicate k 0) (row_wide g rows d from w ef ew z i) in
    row_put g rows d from w ef ew x (replicate (row_length g) 0) q

-- the three writes, one after the other
module _ (s : Session) (g : Shape) (eg : g ≡ shape_of s) where
  pub same_row : (d : ℕ) → RowIn (shape_of s) d → RowIn g d
  same_row d h = rw eg h

  pub sized_kept : (before now : List ℕ) → Framed s before → length now ≡ length before → Sized g now
  sized_kept before now f e = rw eg (framed_kept s before now f e).sized

  pub write_is : (d : ℕ) (ts fs : List Term) (y_a_of y_b_of rows one two three : List ℕ) → one ≡ products_written s y_a_of y_b_of 0 fs rows
      → two ≡ with_row (row_length g) d (replicate (row_length g) 0) one → three ≡ plus_terms s d ts two
      → three ≡ with_sum s d ts (products_written s y_a_of y_b_of 0 fs rows)
  write_is d ts fs y_a_of y_b_of rows one two three e1 e2 e3 =
      e3 ∙ ap (plus_terms s d ts) ((rw eg at e2) ∙ ap (λ (l : List ℕ). with_row (row_length (shape_of s)) d (replicate (row_length (shape_of s)) 0) l) e1)

-- the pair of calls on one triple, and on every product term's
pub pair_of : (s : Session) (r y y' : ℕ) (a b : Answer) → a ≡ holding 0 0 (collected_triple s r y y') → b ≡ holding 0 0 (finished_triple a.session r)
    → b.session ≡ pair_done s r y y'
pair_of s r y y' a b ea eb = ap (λ (x : Answer). x.session) eb ∙ ap (λ (x : Answer). finished_triple x.session r) ea

-- the sum's set
-- the sets
pub share_is : (sets now : List ℕ) (d r : ℕ) (t : Term) → r ≡ number_row_of t → now ≡ shared 8 sets d d r → now ≡ shared 8 sets d d (number_row_of t)
share_is sets now d r t e eo = rw e at eo

abbrev pub share_in : ℕ → ℕ → Term → List ℕ → List ℕ
share_in d k t sets = shared 8 sets d d (number_row_of t)

pub shares_walk : (d k : ℕ) (ts : List Term) (sets : List ℕ) → walked (share_in d) k ts sets ≡ joining d (number_rows ts) sets
shares_walk d k [] sets = refl
shares_walk d k (t ∷ ts) sets = shares_walk d (suc k) ts (share_in d k t sets)

pub shared_is : (sets one two : List ℕ) (d : ℕ) (rows : List ℕ) → one ≡ shared 8 sets d 96 96 → two ≡ joining d rows one → two ≡ shared_all sets d rows
shared_is sets one two d rows e e' = e' ∙ ap (joining d rows) e

pub set_is : (s : Session) (d : ℕ) (rows x : List ℕ) → x ≡ shared_all s.barred d rows → with_barred s x ≡ sharing_all s d rows
set_is s d rows x e = ap (with_barred s) e

pub settled_is : (f g o : Session) (d : ℕ) (rows : List ℕ) → f ≡ g → o ≡ sharing_all f d rows → o ≡ sharing_all g d rows
settled_is f g o d rows e eo = eo ∙ ap (λ (s : Session). sharing_all s d rows) e

abbrev pub finish_in : List ℕ → List ℕ → ℕ → Term → Session → Session
finish_in y_a_of y_b_of k t s = pair_done s t.first (get_or y_a_of k 0) (get_or y_b_of k 0)

pub finished_walk : (y_a_of y_b_of : List ℕ) (k : ℕ) (ts : List Term) (s : Session) → walked (finish_in y_a_of y_b_of) k ts s ≡ triples_finished y_a_of y_b_of k ts s
unfolding triples_finished
finished_walk y_a_of y_b_of k [] s = refl
finished_walk y_a_of y_b_of k (t ∷ ts) s = finished_walk y_a_of y_b_of (suc k) ts (finish_in y_a_of y_b_of k t s)

-- products and triples with the numbers that the terms open to
module _ (s : Session) (rows blocks : List ℕ) where
  abbrev pub product_of : ℕ → Term → List ℕ → List ℕ
  product_of k t now = with_product s (term_number_a s rows blocks k t) (term_number_b s rows blocks k t) t.first now

  pub products_of_is : (k : ℕ) (ts : List Term) (now : List ℕ) → walked product_of k ts now ≡ with_products s rows blocks k ts now
  unfolding with_products
  products_of_is k [] now = refl
  products_of_is k (t ∷ ts) now = products_of_is (suc k) ts (product_of k t now)

  abbrev pub finish_of : ℕ → Term → Session → Session
  finish_of k t now = pair_done now t.first (term_number_a s rows blocks k t) (term_number_b s rows blocks k t)

  pub finished_of : (k : ℕ) (ts : List Term) (now : Session) → walked finish_of k ts now ≡ finished_terms s rows blocks k ts now
  unfolding finished_terms
  finished_of k [] now = refl
  finished_of k (t ∷ ts) now = finished_of (suc k) ts (finish_of k t now)
