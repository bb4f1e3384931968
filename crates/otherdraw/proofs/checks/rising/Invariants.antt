-- Whether the rest rises behind the last post is whether the list does.
use Rattle.std.proofs.Common.{◌≡◌, drop}
use Rattle.otherdraw.specs.Other.{not_rising}
use Rattle.otherdraw.proofs.checks.rising.Given as goal

abbrev pub invariant-loop-post : goal.invariant-loop-post
invariant-loop-post l = not_rising l.n l.last (drop l.post-index l.posts) ≡ not_rising l.n 0 l.posts
