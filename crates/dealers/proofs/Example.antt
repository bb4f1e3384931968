-- Exactly eight turns are needed there: computed.
use mathlib.Core.Path.{refl}
use Rattle.refusal.specs.Refusal.{outcome}
use Rattle.refusal.specs.Conditions.{bad_points}
use Rattle.dealers.specs.State.{overlong, bad_state, first_after, chosen}
use Rattle.dealers.specs.Calls.{place_refusal_of, count_refusal}
use Rattle.dealers.specs.Example.{EightNeeded}

pub eight_needed : EightNeeded
unfolding outcome bad_points overlong bad_state first_after chosen place_refusal_of count_refusal
eight_needed = (refl, refl, refl)
