use Rattle.std.proofs.Common.{rules}
use Rattle.otherdraw.proofs.Writing.{post_room, known_room, known_next, gather_turn, gather_kept, gather_all}
use Rattle.otherdraw.proofs.change.gather.Goals as goal

pub loop-post-preserved : goal.loop-post-preserved
loop-post-preserved c =
    record {
      within = search rules;
      place = search (rules, known_next);
      long = search (rules, post_room, known_room, gather_kept);
      gathered = search (rules, post_room, known_room, gather_turn);
    }

pub returns : goal.returns
returns c = search (rules, gather_all)
