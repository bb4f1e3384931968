-- By unfolding.
use mathlib.Core.Path.{refl}
use Rattle.session.specs.declared.Session.{Session}
use Rattle.session.specs.Known.{Known, SessionKnown}

known : (s : Session) → Known s
known s = record {
  shape_is = refl;
  points_are = refl;
  party_is = refl;
  width_is = refl;
  sums_at = refl;
  coefficients_are = λ row. refl;
  with_opened_is = λ ys ys'. refl;
  sharing_all_is = λ d rows. refl;
  summed_row_is = λ d rows. refl;
}

pub session_known : SessionKnown
session_known = record { known = known; summed_is = λ k scale fee x y. refl }
