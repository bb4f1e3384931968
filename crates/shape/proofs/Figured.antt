-- The names have the documents' figures, by what they are.
use mathlib.Core.Path.{refl}
use Rattle.shape.specs.Figures.{Figured}

pub figured : Figured
figured = record {
  lengths = λ s. record {
    needed_is = refl;
    of_f = refl;
    of_v = refl;
    checks_at_is = refl;
    sums_at = refl;
    of_row = refl;
    of_triple_is = refl;
    of_rows = refl;
    of_block = refl;
    of_record = refl;
    of_draw = refl;
    of_triple_draw = refl;
    of_packs = refl;
    of_message = refl;
    of_masks_is = refl;
  };
  rows = λ s row. record { first_part = refl; second_part = λ j h. refl; third_part = λ j. refl };
  marks = record {
    bounds = (refl, refl, refl, refl, refl);
    of_rows = (refl, refl, refl);
    of_triples = (refl, refl, refl, refl, refl);
    of_blocks = (refl, refl);
  };
}
