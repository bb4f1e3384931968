-- `serve`: what the calls ensured, together.
use Rattle.street_serving.proofs.Closing.{all_served}
use Rattle.street_serving.proofs.serve.Goals as goal

pub returns : goal.returns
returns g c =
    all_served c.serve_chunks-served.result c.finish-last.result _ _ _ _ c.serve_chunks-served.ensures.stopped c.whole-taken.ensures
    c.finish-last.ensures
