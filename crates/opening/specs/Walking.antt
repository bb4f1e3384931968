-- The words of an opening for the party that a session is.
use Rattle.std.specs.Prelude.{ℕ, Bool, Result, List}
use Rattle.refusal.specs.declared.Refusal.{Refusal}
use Rattle.shape.specs.Lengths as Lengths
use Rattle.session.specs.declared.Session.{Session}
use Rattle.session.specs.Sessions.{shape_of, party_of}
use Rattle.blocks.specs.Blocks as Blocks
use Rattle.accepting.specs.Accepting as Accepting
use Rattle.walk.specs.Number as Number
pub use Rattle.blocks.specs.Blocks.{block_mark, block_coefficients}
pub use Rattle.walk.specs.Number.{told}
unfoldable pub use Rattle.accepting.specs.Accepting.{walk}

abbrev pub record_length : Session → ℕ
record_length s = Lengths.record_length (shape_of s)

abbrev pub bad_block_of : Session → List ℕ → ℕ → Bool
bad_block_of s = Blocks.bad_block_of (party_of s)

abbrev pub bad_blocks : Session → List ℕ → ℕ → ℕ → Bool
bad_blocks s = Blocks.bad_blocks (party_of s)

abbrev pub bad_record : Session → List ℕ → Bool
bad_record s = Blocks.bad_record (party_of s)

abbrev pub sent : Session → List ℕ → List ℕ → ℕ → List ℕ
sent s = Blocks.sent (party_of s)

abbrev pub accepts : Session → List ℕ → List ℕ → ℕ → Bool
accepts s = Accepting.accepts (party_of s)

abbrev pub share : Session → List ℕ → List ℕ → ℕ → ℕ
share s = Accepting.share (party_of s)

abbrev pub accepted_posts : Session → List ℕ → List ℕ → List ℕ
accepted_posts s = Accepting.accepted_posts (party_of s)

abbrev pub too_few_of : Session → List ℕ → List ℕ → Bool
too_few_of s = Accepting.too_few_of (party_of s)

abbrev pub accepted : Session → List ℕ → List ℕ → List ℕ
accepted s = Accepting.accepted (party_of s)

abbrev pub further : Session → List ℕ → List ℕ → List ℕ
further s = Accepting.further (party_of s)

abbrev pub disagree : Session → List ℕ → List ℕ → Bool
disagree s = Accepting.disagree (party_of s)

abbrev pub opened : Session → List ℕ → List ℕ → ℕ
opened s = Accepting.opened (party_of s)

abbrev pub opened_row : Session → List ℕ → List ℕ → Result ℕ Refusal
opened_row s = Number.opened_row (party_of s)
