-- The rooms for the numbers of a line: of few posts, and of the most.
use Prim.Native.Nat.{ℕ, ◌*◌, ◌≤◌}
use mathlib.Core.Path.{◌≡◌, ◌∙◌}
use mathlib.Core.List.{List}
use native.Mathlib.Omega.{arith}
use lib.ListN.{length, take}
use lib.Seq.{length-take-le}
use Rattle.shape.specs.Bounds.{longest_row}
use Rattle.shape.specs.Lengths.{triple_length}
use Rattle.session.specs.declared.Party.{Party}
use Rattle.packlines.specs.Between.{FileRoom}
use Rattle.packfile.specs.Between.{Given}

module _ (p : Party) (kinds draws : List ℕ) (given : Given p kinds draws) (end : ℕ) (e : end ≡ triple_length p.shape) (room : List ℕ) where
  module _ (m : ℕ) (sized : length room ≡ m) (fits : triple_length p.shape ≤ m) where
    pub lent_length : length (take end room) ≡ end
    lent_length = length-take-le end room (omega (arith, e))

    pub lent_room : FileRoom p kinds draws (take end room)
    lent_room = record { post = given.post; rows = given.rows; drawn = given.drawn; place = lent_length ∙ e }

-- a line of the most posts
pub most_fits : (p : Party) (kinds draws : List ℕ) → Given p kinds draws → triple_length p.shape ≤ 3 * longest_row
most_fits p kinds draws given =
    omega (arith, given.post.valid.n_in, given.post.valid.t_in, given.post.valid.reach_in, given.post.valid.checks_in)

-- a room that was written to is as long as before
pub room_again : (p : Party) (kinds draws room new : List ℕ) → FileRoom p kinds draws room → length new ≡ length room → FileRoom p kinds draws new
room_again p kinds draws room new h e = record { post = h.post; rows = h.rows; drawn = h.drawn; place = e ∙ h.place }
