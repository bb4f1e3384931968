-- The first row's sums are written, and then the parts.
use Rattle.std.proofs.Common.{rules}
use Rattle.packs.proofs.Rest.{higher_length, higher_fits, vs_drawn, none_there, first_inside, first_lent, first_row, posts_written}
use Rattle.packs.proofs.write_posts.Goals as goal

pub returns : goal.returns
returns c = search (rules, higher_length, higher_fits, vs_drawn, none_there, first_inside, first_lent, first_row, posts_written)
