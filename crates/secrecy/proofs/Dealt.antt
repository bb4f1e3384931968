-- A number that a dealer broadcast is one that the rules let a post deal with.
use Prim.Native.Nat.{ℕ}
use mathlib.Core.Path.{refl, sym, subst}
use mathlib.Core.Logic.{inl, inr}
use mathlib.Core.List.{List}
use Rattle.secrecy.specs.Steps.{Number}
use Rattle.secrecy.specs.Rules.{FromDealer}
use Rattle.secrecy.specs.Asked.{Broadcast}

pub from_dealer : (lines : List (List ℕ)) (r : ℕ) (c : Number) → Broadcast lines r c → FromDealer lines r c
from_dealer lines r c (inl e) = subst (FromDealer lines r) (sym e) refl
from_dealer lines r c (inr (x, e, low, told)) = subst (FromDealer lines r) (sym e) (low, told)
