-- `walk_posts` meets its contract.
use mathlib.Core.Path.{refl, sym, ◌∙◌}
use native.Mathlib.Omega.{arith}
use Rattle.walk.proofs.Walks.{party_take, party_skip, party_full, party_few}
use Rattle.walk.proofs.walk_posts.Goals as goal
use Rattle.walk.proofs.walk_posts.Goals.{then-accepts+else-count-need, else-accepts}

pub returns-then-count-need : goal.returns-then-count-need
returns-then-count-need c =
    let l = c.loop-j in
    let (low, walked) = l.invariant in
    party_full _ _ _ _ _ _ refl _ _ _ _
    (party_take _ _ _ _ _ _ refl l.count l.j (λ e. omega arith) l.posts _ l.shares _ _ _ _ walked (omega arith) c.accepts.ensures c.if-accepts.true c.share.ensures refl refl refl)
    (c.if-count-need.true ∙ c.needed-need.ensures)

pub loop-j-preserved : goal.loop-j-preserved
loop-j-preserved c =
    let l = c.loop-j in
    let (low, walked) = l.invariant in
    elim c.if-accepts.branch [
      | then-accepts+else-count-need w ↦ (
        omega (arith, low, w.count-is, w.if-count-need.false, c.needed-need.ensures),
        party_take _ _ _ _ _ _ refl l.count l.j (λ e. omega arith) l.posts _ l.shares _ _ _ _ walked (omega arith) c.accepts.ensures w.if-accepts.true w.share.ensures w.posts-is w.shares-is w.count-is,
      )
      | else-accepts w ↦ (
        omega (arith, low, w.count-is),
        party_skip _ _ _ _ _ _ refl l.count l.j (λ e. omega arith) l.posts _ l.shares _ _ _ walked (omega arith) c.accepts.ensures w.if-accepts.false w.posts-is w.shares-is w.count-is,
      )
    ]

pub returns : goal.returns
returns c =
    let (low, walked) = c.loop-j.invariant in
    party_few _ _ _ _ _ _ refl c.loop-j.count c.loop-j.j (λ e. omega arith) _ _ walked (omega arith)
