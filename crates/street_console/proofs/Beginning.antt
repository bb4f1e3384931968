-- From the header on.
use Prim.Native.Nat.{ℕ}
use mathlib.Core.Path.{◌≡◌, refl, sym, ◌∙◌}
use mathlib.Core.Bool.{Bool, true, false, not, true≢false}
use mathlib.Core.List.{[]}
use lib.ListN.{length}
use Rattle.street_answers.specs.Text.{header}
use Rattle.street_feeds.specs.Program.{passed, printed_for, fed}
use Rattle.street_port.specs.declared.Printed.{Printed}
use Rattle.street_serving.specs.Serving.{Ended}
use Rattle.street_serving.specs.Between.{Begun}

pub header_taken : (p : Printed) (b : Bool) → p.total ≡ length header → b ≡ p.whole → b ≡ true → Begun p
header_taken p b t e w = record { total_is = t; whole_is = sym e ∙ w }

pub none_read : (p : Printed) (t : ℕ) → t ≡ p.total → p.total ≡ length header → Ended 0 t false true false
unfolding passed printed_for fed
none_read p t e h =
    record {
      chunks = [];
      last = [];
      filled = tt;
      why = λ w. absurd (true≢false (sym w));
      told = λ _. refl;
      lines_is = refl;
      count = e ∙ h;
    }

pub ended_told : (n t t' : ℕ) (u u' w w' k : Bool) → t' ≡ t → u' ≡ u → w' ≡ w → Ended n t u (not w) k → Ended n t' u' (not w') k
ended_told n t t' u u' w w' k a b c h = rw (a, b, c) h
