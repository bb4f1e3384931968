-- Where the numbers of a row come from, by unfolding.
use mathlib.Core.Path.{refl}
use Rattle.parts.specs.Draw.{each_from, part}
use Rattle.packs.specs.Packs.{triple_packs}
use Rattle.table.specs.Drawn.{DrawPlaced}

pub draw_placed : DrawPlaced
unfolding part each_from triple_packs
draw_placed =
    record {
      row = λ n t points i w draw. refl;
      no_more = λ j f. refl;
      one_more = λ j m f. refl;
      triple = λ n t points ws draw. refl;
      draws = λ d draw. (refl, refl, refl);
      points_in_order = λ w. (refl, refl);
    }
