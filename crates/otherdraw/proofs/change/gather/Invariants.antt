-- What is written, and the points from the listed post at this index on, make them all.
use Rattle.std.proofs.Common.{◌≡◌, ◌*◌, ◌≤◌, length}
use Rattle.otherdraw.proofs.Writing.{Gathered}
use Rattle.otherdraw.proofs.change.gather.Given as goal

abbrev pub invariant-loop-post : goal.invariant-loop-post
invariant-loop-post l = record {
  within : l.post-index ≤ length l.posts;
  place : l.at ≡ l.post-index * l.k;
  long : length l.known ≡ length l.fn.known;
  gathered : Gathered l.k l.ws l.posts l.known l.at l.post-index;
}
