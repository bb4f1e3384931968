-- The setting by rows and figures.
use mathlib.Core.Path.{◌≡◌, refl, ap}
use mathlib.Core.Bool.{Bool, true, false, cond}
use borrow.Author.Tests.{eq-eqb, ne_eqb}
use Rattle.runs.specs.Draws.{none, by}
use Rattle.secrecy.specs.Seen.{member}
use Rattle.secrecy.proofs.Enough.{member_among}
use Rattle.otherdraw_law.specs.OneRow.{draw_of}
use Rattle.otherdraw_law.specs.Laws.{OneRowIs, Orders, RecordIs, DealtAsks}
use Rattle.otherdraw_law.proofs.Told.{drawn_row, pack_is, number_is}
use Rattle.otherdraw_law.proofs.Drawn.{no_draw}

pub one_row_is : OneRowIs
unfolding draw_of
one_row_is S draw =
    record {
      for_dealer = ap (λ (b : Bool). cond b (by S.dealer) none) (eq-eqb S.r S.r refl);
      none_else = λ q ne. ap (λ (b : Bool). cond b (by S.dealer) none) (ne_eqb q S.r ne);
      no_triple_is = λ q. refl;
      points = refl;
      drawn = λ row. drawn_row S.r S.ws draw row;
      not_drawn = λ q ne. no_draw S draw q (ne_eqb q S.r ne);
      part_is = λ row i. pack_is S row draw i;
      number_is = λ row u low flow. number_is S row draw u low flow;
    }

pub orders : Orders
orders = record { to_load = λ r. refl; to_deal = λ r. refl; to_place = λ r d. refl; to_turn = λ r. refl }

pub record_is : RecordIs
record_is S draw u = refl

pub dealt_asks : DealtAsks
dealt_asks S row out = record { row = row; dealer = go (member S.dealer S.posts) refl }
  where
    go : (b : Bool) → member S.dealer S.posts ≡ b → b ≡ false
    go true e = absurd (out (member_among S.dealer S.posts e))
    go false e = refl
