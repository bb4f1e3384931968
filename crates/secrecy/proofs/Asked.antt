-- What the rules ask of a call is what specs/Asked.antt says, and no more.
use Prim.Native.Nat.{ℕ, suc, ◌+◌, ◌*◌}
use mathlib.Core.Path.{◌≡◌, refl, sym, subst}
use mathlib.Core.Logic.{inl, inr}
use mathlib.Core.List.{List, [], ◌∷◌, ◌++◌}
use lib.ListN.{length}
use Rattle.poly.specs.Counting.{All}
use Rattle.terms.specs.declared.Term.{Term}
use Rattle.terms.specs.Listed.{products_of}
use Rattle.runs.specs.Draws.{Plan}
use Rattle.runs.specs.Outline.{Move, load_row_of, load_triple_of, deal, message, opening, linear, masks, collect, multiply, relation_masks_of, relation_finish_of, access, factoring, finishing, summing, takes}
use Rattle.runs.specs.Orders.{Comes, no_call, a_call, Asked}
use Rattle.runs.proofs.Outlines.{all_every}
use Rattle.secrecy.specs.Steps.{Fixed, Record, Step}
use Rattle.secrecy.specs.Waiting.{comes_of}
use Rattle.secrecy.specs.Rules.{RuleWith, Rule, refusal_of}
use Rattle.secrecy.specs.Asked.{TermsSent, RuleAsked, RulesAsk, RulesOfLists}
use Rattle.secrecy.proofs.Dealt.{from_dealer}

module _ (plan : Plan) (k : ℕ) (lines : List (List ℕ)) where
  abbrev Kept : Move Fixed → Type 0
  Kept m = RuleWith plan k lines (takes m.0) m.1

  joined : (xs ys : List (Move Fixed)) → All Kept xs → All Kept ys → All Kept (xs ++ ys)
  joined [] ys a b = b
  joined (x ∷ xs) ys a b = (a.0, joined xs ys a.1 b)

  kept_factors : (ts : List Term) → All Kept (factoring Fixed ts)
  kept_factors [] = tt
  kept_factors (t ∷ ts) = (tt, kept_factors ts)

  kept_finishes : (m : ℕ) (blocks : Record) (j : ℕ) (ts : List Term) → TermsSent plan k lines m blocks j ts → All Kept (finishing Fixed m blocks j ts)
  kept_finishes m blocks j [] h = tt
  kept_finishes m blocks j (t ∷ ts) h = (h.0, (tt, kept_finishes m blocks (suc j) ts h.1))

  kept_sum : (r : ℕ) (ts : List Term) → All Kept (summing Fixed r ts)
  kept_sum r [] = tt
  kept_sum r (t ∷ ts) = (tt, tt)

  rule_asked : (c : Step) → RuleAsked plan k lines c → Rule plan c k lines
  rule_asked (load_row_of x) h = h
  rule_asked (load_triple_of x) h = h
  rule_asked (deal x) h = λ z. from_dealer lines x.r x.c (h z)
  rule_asked (message x) h = tt
  rule_asked (opening x) h = h
  rule_asked (linear x) h = tt
  rule_asked (masks x) h = tt
  rule_asked (collect x) h = h
  rule_asked (multiply x) h = tt
  rule_asked (access x) h = tt
  rule_asked (relation_masks_of x) h = all_every Kept (factoring Fixed (products_of x.terms)) (kept_factors (products_of x.terms))
  rule_asked (relation_finish_of x) h =
      let m = 2 * length (products_of x.terms) in
      let pairs = finishing Fixed m x.blocks 0 (products_of x.terms) in
      let sum = summing Fixed x.r x.terms in
      all_every Kept (pairs ++ sum) (joined pairs sum (kept_finishes m x.blocks 0 (products_of x.terms) h) (kept_sum x.r x.terms))

pub rules_ask : RulesAsk
rules_ask plan k lines c h = rule_asked plan k lines c h

asked_of : {P : Step → Type 0} (x : Comes Fixed) → ((c : Step) → x ≡ a_call c → P c) → Asked P x
asked_of no_call h = tt
asked_of (a_call c) h = h c refl

pub rules_of_lists : RulesOfLists
rules_of_lists plan =
    record {
      ends = λ es lines w. tt;
      unanswered = λ o os lines w. tt;
      next = λ o os e es lines w h rest. (asked_of (comes_of w o) (λ c q. rules_ask plan (refusal_of e) lines c (h c q)), rest);
    }
