-- What demand 2's premises ask of a call is what specs/Asked.antt says, and no more.
use Prim.Native.Nat.{ℕ, suc, ◌+◌, ◌*◌}
use mathlib.Core.Path.{◌≡◌, refl}
use mathlib.Core.List.{List, [], ◌∷◌, ◌++◌}
use lib.ListN.{length}
use Rattle.poly.specs.Counting.{All}
use Rattle.terms.specs.declared.Term.{Term}
use Rattle.terms.specs.Listed.{products_of}
use Rattle.runs.specs.Draws.{Plan, Draw}
use Rattle.runs.specs.Outline.{Move, load_row_of, load_triple_of, deal, message, opening, linear, masks, collect, multiply, relation_masks_of, relation_finish_of, access, cut, factoring, finishing, summing, takes, Every}
use Rattle.runs.specs.Calls.{Actual, Post, Call}
use Rattle.runs.specs.Orders.{Comes, no_call, a_call, Asked, comes_to}
use Rattle.runs.proofs.Outlines.{all_every}
use Rattle.correctness.specs.History.{World, desk}
use Rattle.correctness.specs.Ledger.{Ledger, product, WrittenBy, Written}
use Rattle.correctness.specs.Truth.{OwnWith, OwnPart, TrueWith, TrueFinish}
use Rattle.correctness.specs.Relation.{SumIn, EachAt}
use Rattle.correctness.specs.Asked.{PartAsked, LedgerAsked, BothTrue, TruthAsked, PremisesAsk, RunsAsk}

-- P of every act of a relation's calls
module _ (P : Move Actual → Type 0) where
  joined : (xs ys : List (Move Actual)) → All P xs → All P ys → All P (xs ++ ys)
  joined [] ys a b = b
  joined (x ∷ xs) ys a b = (a.0, joined xs ys a.1 b)

  masks_every : (ts : List Term) → All P (factoring Actual ts) → Every P (factoring Actual ts)
  masks_every ts a = all_every P (factoring Actual ts) a

  finish_every : (m : ℕ) (blocks : List ℕ) (r : ℕ) (ts all : List Term) → All P (finishing Actual m blocks 0 ts) → All P (summing Actual r all)
      → Every P (finishing Actual m blocks 0 ts ++ summing Actual r all)
  finish_every m blocks r ts all a b =
      all_every P (finishing Actual m blocks 0 ts ++ summing Actual r all) (joined (finishing Actual m blocks 0 ts) (summing Actual r all) a b)

module _ (plan : Plan) (draw : Draw) (i : ℕ) where
  abbrev Own : Move Actual → Type 0
  Own m = OwnWith plan draw i (takes m.0) m.1

  own_factors : (ts : List Term) → All Own (factoring Actual ts)
  own_factors [] = tt
  own_factors (t ∷ ts) = (tt, own_factors ts)

  own_finishes : (m : ℕ) (blocks : List ℕ) (k : ℕ) (ts : List Term) → All Own (finishing Actual m blocks k ts)
  own_finishes m blocks k [] = tt
  own_finishes m blocks k (t ∷ ts) = (tt, (tt, own_finishes m blocks (suc k) ts))

  own_sum : (r : ℕ) (ts : List Term) → All Own (summing Actual r ts)
  own_sum r [] = tt
  own_sum r (t ∷ ts) = (tt, tt)

  part_asked : (c : Call) → PartAsked plan draw i c → OwnPart plan draw i c
  part_asked (load_row_of x) h = h
  part_asked (load_triple_of x) h = h
  part_asked (deal x) h = tt
  part_asked (message x) h = tt
  part_asked (opening x) h = tt
  part_asked (linear x) h = tt
  part_asked (masks x) h = tt
  part_asked (collect x) h = tt
  part_asked (multiply x) h = tt
  part_asked (access x) h = tt
  part_asked (relation_masks_of x) h = masks_every Own (products_of x.terms) (own_factors (products_of x.terms))
  part_asked (relation_finish_of x) h =
      let m = 2 * length (products_of x.terms) in
      finish_every Own m x.blocks x.r (products_of x.terms) x.terms (own_finishes m x.blocks 0 (products_of x.terms))
      (own_sum x.r x.terms)

module _ (draw : Draw) (L : Ledger) where
  abbrev By : Move Actual → Type 0
  By m = WrittenBy draw L m.0 m.1

  by_factors : (ts : List Term) → All (λ t. L (t.first + 2) ≡ product t.first t.row t.second) ts → All By (factoring Actual ts)
  by_factors [] a = tt
  by_factors (t ∷ ts) a = (a.0, by_factors ts a.1)

  by_finishes : (m : ℕ) (blocks : List ℕ) (k : ℕ) (ts : List Term) → All By (finishing Actual m blocks k ts)
  by_finishes m blocks k [] = tt
  by_finishes m blocks k (t ∷ ts) = (tt, (tt, by_finishes m blocks (suc k) ts))

  by_sum : (r : ℕ) (ts : List Term) → SumIn L r ts → All By (summing Actual r ts)
  by_sum r [] h = tt
  by_sum r (t ∷ ts) h = (h, tt)

  ledger_asked : (c : Call) → LedgerAsked draw L c → Written draw L c
  ledger_asked (load_row_of x) h = tt
  ledger_asked (load_triple_of x) h = tt
  ledger_asked (deal x) h = h
  ledger_asked (message x) h = tt
  ledger_asked (opening x) h = tt
  ledger_asked (linear x) h = h
  ledger_asked (masks x) h = h
  ledger_asked (collect x) h = tt
  ledger_asked (multiply x) h = tt
  ledger_asked (access x) h = tt
  ledger_asked (relation_masks_of x) h = masks_every By (products_of x.terms) (by_factors (products_of x.terms) h)
  ledger_asked (relation_finish_of x) h =
      let m = 2 * length (products_of x.terms) in
      finish_every By m x.blocks x.r (products_of x.terms) x.terms (by_finishes m x.blocks 0 (products_of x.terms))
      (by_sum x.r x.terms h)

module _ (S : ℕ → Type 0) (w : World) (q : Post) where
  abbrev True : Move Actual → Type 0
  True m = TrueWith S w q (takes m.0) m.1

  true_factors : (ts : List Term) → All True (factoring Actual ts)
  true_factors [] = tt
  true_factors (t ∷ ts) = (tt, true_factors ts)

  true_finishes : (m : ℕ) (blocks : List ℕ) (k : ℕ) (ts : List Term)
      → EachAt (λ k t. BothTrue S w q t.first (cut m (2 * k) blocks) (cut m (2 * k + 1) blocks)) k ts → All True (finishing Actual m blocks k ts)
  true_finishes m blocks k [] h = tt
  true_finishes m blocks k (t ∷ ts) h = (h.0, (tt, true_finishes m blocks (suc k) ts h.1))

  true_sum : (r : ℕ) (ts : List Term) → All True (summing Actual r ts)
  true_sum r [] = tt
  true_sum r (t ∷ ts) = (tt, tt)

  truth_asked : (c : Call) → TruthAsked S w q c → TrueFinish S w q c
  truth_asked (load_row_of x) h = tt
  truth_asked (load_triple_of x) h = tt
  truth_asked (deal x) h = tt
  truth_asked (message x) h = tt
  truth_asked (opening x) h = tt
  truth_asked (linear x) h = tt
  truth_asked (masks x) h = tt
  truth_asked (collect x) h = h
  truth_asked (multiply x) h = tt
  truth_asked (access x) h = tt
  truth_asked (relation_masks_of x) h = masks_every True (products_of x.terms) (true_factors (products_of x.terms))
  truth_asked (relation_finish_of x) h =
      let m = 2 * length (products_of x.terms) in
      finish_every True m x.blocks x.r (products_of x.terms) x.terms (true_finishes m x.blocks 0 (products_of x.terms) h)
      (true_sum x.r x.terms)

pub premises_ask : PremisesAsk
premises_ask plan draw L S w i q c = record { part = part_asked plan draw i c; ledger = ledger_asked draw L c; truth = truth_asked S w q c }

asked_of : {P : Call → Type 0} (x : Comes Actual) → ((c : Call) → x ≡ a_call c → P c) → Asked P x
asked_of no_call h = tt
asked_of (a_call c) h = h c refl

pub runs_ask : RunsAsk
runs_ask S P = record { ends = λ w. tt; next = λ e es w h rest. (λ s z. asked_of (comes_to e.order (desk w e.post)) (h s z), rest) }
