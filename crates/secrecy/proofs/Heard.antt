-- Every post that makes a call is heard in it.
use Prim.Native.Nat.{ℕ}
use mathlib.Core.Path.{◌≡◌, refl}
use mathlib.Core.Bool.{true}
use Rattle.runs.specs.Outline.{load_row_of, load_triple_of, deal, message, opening, linear, masks, collect, multiply, relation_masks_of, relation_finish_of, access}
use Rattle.secrecy.specs.Steps.{Step, heard_from}
use Rattle.secrecy.specs.Record.{CallsIn}

pub heard_is : (c : Step) (i : ℕ) → CallsIn c i → heard_from c i ≡ true
heard_is (message x) i h = h
heard_is (load_row_of x) i h = refl
heard_is (load_triple_of x) i h = refl
heard_is (deal x) i h = refl
heard_is (opening x) i h = refl
heard_is (linear x) i h = refl
heard_is (masks x) i h = refl
heard_is (collect x) i h = refl
heard_is (multiply x) i h = refl
heard_is (relation_masks_of x) i h = refl
heard_is (relation_finish_of x) i h = refl
heard_is (access x) i h = refl
