-- The examples are at work: the run by computing, the premises by a search, the counts by demand 3.
use mathlib.Core.Path.{◌≡◌, refl}
use mathlib.Core.List.{◌++◌}
use Rattle.runs.specs.Callers.{all_posts}
use Rattle.secrecy.specs.Seen.{desks_after}
use Rattle.secrecy.specs.Book.{book_after}
use Rattle.secrecy_examples.specs.Example.{AtWork}
use Rattle.secrecy_examples.specs.ThreePosts as Three
use Rattle.secrecy_examples.specs.ThreePostsSeen.{three, ThreeLent, ThreeEnds, ThreeOpened}
use Rattle.secrecy_examples.specs.FourPosts as Four
use Rattle.secrecy_examples.specs.FourPostsSeen.{four, FourOpened, FourBooks, FourMixed}
use Rattle.secrecy_examples.specs.Charge.{charge, ChargeOpened, ChargeBooks}
use Rattle.secrecy_examples.specs.Relation as Relation
use Rattle.secrecy_examples.specs.Relation.{relation, RelationOpened, RelationBooks}
use Rattle.secrecy_examples.specs.TwoPoints as Two
use Rattle.secrecy_examples.specs.TwoPoints.{two_points, TwoPointsOpened}
use Rattle.secrecy_examples.specs.Barred.{barred, sets_over, BarredBooks, BarredSets, BarredKept}
use Rattle.secrecy_examples.specs.Turns.{turns, TurnsBooks, TurnsKept}
use Rattle.secrecy_examples.proofs.Computing.{sees}
use Rattle.secrecy_examples.proofs.Premised.{is_draw, premises, at_work}

three_seen : sees three ≡ three.shown
unfolding sees three
three_seen = refl

pub three_at_work : AtWork three
unfolding sees three is_draw premises
three_at_work = at_work three Three.masks_sent 0 three_seen tt tt tt refl

pub three_opened : ThreeOpened
unfolding sees three
three_opened = (refl, refl)

pub three_lent : ThreeLent
unfolding sees three
three_lent = refl

pub three_ends : ThreeEnds
unfolding sees three desks_after
three_ends = refl

four_seen : sees four ≡ four.shown
unfolding sees four
four_seen = refl

pub four_at_work : AtWork four
unfolding sees four is_draw premises
four_at_work = at_work four Four.masks_sent 0 four_seen tt tt tt refl

pub four_opened : FourOpened
unfolding sees four
four_opened = (refl, refl)

pub four_books : FourBooks
unfolding sees four premises book_after
four_books = (refl, refl, refl, refl)

pub four_mixed : FourMixed
unfolding sees four
four_mixed = refl

charge_seen : sees charge ≡ charge.shown
unfolding sees charge
charge_seen = refl

pub charge_at_work : AtWork charge
unfolding sees charge is_draw premises
charge_at_work = at_work charge Three.masks_sent 0 charge_seen tt tt tt refl

pub charge_opened : ChargeOpened
unfolding sees charge
charge_opened = refl

pub charge_books : ChargeBooks
unfolding sees charge premises book_after
charge_books = (refl, refl, refl, refl)

relation_seen : sees relation ≡ relation.shown
unfolding sees relation
relation_seen = refl

pub relation_at_work : AtWork relation
unfolding sees relation is_draw premises
relation_at_work = at_work relation (Three.masks_sent ++ Relation.square_sent) 0 relation_seen tt tt tt refl

pub relation_opened : RelationOpened
unfolding sees relation
relation_opened = refl

pub relation_books : RelationBooks
unfolding sees relation premises book_after
relation_books = (refl, refl, refl, refl, refl, refl)

two_points_seen : sees two_points ≡ two_points.shown
unfolding sees two_points
two_points_seen = refl

pub two_points_at_work : AtWork two_points
unfolding sees two_points is_draw premises
two_points_at_work = at_work two_points Two.masks_sent 0 two_points_seen tt tt tt refl

pub two_points_opened : TwoPointsOpened
unfolding sees two_points
two_points_opened = (refl, refl)

barred_seen : sees barred ≡ barred.shown
unfolding sees barred
barred_seen = refl

pub barred_at_work : AtWork barred
unfolding sees barred is_draw premises
barred_at_work = at_work barred Three.masks_sent 0 barred_seen tt tt tt refl

pub barred_books : BarredBooks
unfolding sees barred premises book_after
barred_books = (refl, refl, refl, refl, refl)

pub barred_sets : BarredSets
unfolding sees barred sets_over all_posts
barred_sets = refl

pub barred_kept : BarredKept
unfolding sees barred desks_after
barred_kept = refl

turns_seen : sees turns ≡ turns.shown
unfolding sees turns
turns_seen = refl

pub turns_at_work : AtWork turns
unfolding sees turns is_draw premises
turns_at_work = at_work turns Three.masks_sent 0 turns_seen tt tt tt refl

pub turns_books : TurnsBooks
unfolding sees turns premises book_after
turns_books = (refl, refl, refl)

pub turns_kept : TurnsKept
unfolding sees turns desks_after
turns_kept = refl
