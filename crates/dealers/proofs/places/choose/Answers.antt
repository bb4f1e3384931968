-- Before the first turn: the dealer last served.
use Rattle.dealers.proofs.Choosing.{seek_start}
use Rattle.dealers.proofs.places.choose.Goals as goal

pub loop-turn-init : goal.loop-turn-init
loop-turn-init c = seek_start c.args.state.now c.from-dealer.result c.requires c.from-dealer.ensures
