-- Both are asked, and the first refusal is the answer.
use Rattle.street_transcript.proofs.Admitting.{refusal_joined}
use Rattle.street_transcript.proofs.limits.open_refusal.Goals as goal

pub returns : goal.returns
returns c = refusal_joined _ _ _ _ _ _ _ _ c.and.ensures c.room_refusal.ensures c.feed_refusal.ensures
