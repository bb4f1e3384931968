-- The examples of document 02, (xiii), are at work: the list and the last opening by computing, the premises by a search, the counts by the theorem.
use Prim.Native.Nat.{ℕ}
use mathlib.Core.Path.{◌≡◌, refl}
use mathlib.Core.Bool.{false}
use mathlib.Core.List.{[]}
use mathlib.Core.Option.{IsSome}
use borrow.Author.Tests.{eqb-false}
use lib.Dec.{eqb}
use Rattle.runs.specs.Draws.{Plan, IsRaw}
use Rattle.secrecy.specs.Steps.{Secrets}
use Rattle.secrecy.specs.Seen.{desks_after}
use Rattle.secrecy.specs.Book.{blank, book_after}
use Rattle.secrecy.specs.Claim.{book_of}
use Rattle.secrecy.specs.Count.{draws}
use Rattle.secrecy.specs.Lies.{PremisesToTheLast, accepted_at, those, desk_by, entry_by, glimpse, desks_then, last_opening, SeenToTheLast, seen_to_the_last, shows_to_the_last}
use Rattle.secrecy.proofs.Listed.{all_draws}
use Rattle.secrecy.proofs.LyingTheorems.{shows_to_the_last_right, equal_counts_with_lies}
use Rattle.secrecy_examples.specs.Example.{plan_of, secrets_of}
use Rattle.secrecy_examples.specs.Lying.{LastExample, LastAtWork, shown_to_the_last, seen_of_last, lying}
use Rattle.secrecy_examples.specs.LyingBarred.{lying_barred}
use Rattle.secrecy_examples.proofs.Computing.{sees}
use Rattle.secrecy_examples.proofs.Found.{found}
use Rattle.secrecy_examples.proofs.Premised.{is_draw, premises, some_pass}

unfoldable pub sees_to_the_last : LastExample → SeenToTheLast
unfolding sees desks_after accepted_at those desk_by entry_by glimpse desks_then last_opening seen_to_the_last
sees_to_the_last x = seen_of_last x

-- an example whose record is what its draw shows, and whose premises a search finds; r is a row in which the two lists differ
module _ (x : LastExample) where
  abbrev plan : Plan
  plan = plan_of x.before

  abbrev u : Secrets
  u = secrets_of x.before.secrets

  abbrev u' : Secrets
  u' = secrets_of x.before.secrets'

  pub last_at_work : (r : ℕ) → sees_to_the_last x ≡ shown_to_the_last x → IsSome (is_draw plan x.before.draw) → IsSome (premises x.before [])
      → (book_of u x.before.orders x.before.shown).place x.row ≡ (book_of u' x.before.orders x.before.shown).place x.row
      → IsRaw (plan.raw r) → eqb (u r) (u' r) ≡ false → LastAtWork x
  unfolding sees_to_the_last
  last_at_work r seen-is d h row raw ne =
      let drawn = found (is_draw plan x.before.draw) d in
      let met : PremisesToTheLast plan x.before.group u u' x.before.orders x.row (shown_to_the_last x) =
      record { before = found (premises x.before []) h; row = row } in
      record {
        premises = met;
        differ = (r, raw, eqb-false (u r) (u' r) ne);
        shows = record { is_draw = drawn; same = seen-is };
        some =
            some_pass (shows_to_the_last plan x.before.group x.before.rows x.before.orders x.row x.choices u (shown_to_the_last x)) (draws plan)
            x.before.draw ((all_draws plan).0 x.before.draw drawn)
            ((shows_to_the_last_right plan x.before.group x.before.rows x.before.orders x.row x.choices u (shown_to_the_last x) x.before.draw).1 seen-is);
        as_many =
            equal_counts_with_lies plan x.before.group x.before.rows x.before.orders x.row x.choices u u' (shown_to_the_last x) met;
      }

lying_seen : sees_to_the_last lying ≡ shown_to_the_last lying
unfolding sees_to_the_last lying
lying_seen = refl

pub lying_at_work : LastAtWork lying
unfolding sees_to_the_last lying is_draw premises book_after
lying_at_work = last_at_work lying 0 lying_seen tt tt refl tt refl

lying_barred_seen : sees_to_the_last lying_barred ≡ shown_to_the_last lying_barred
unfolding sees_to_the_last lying_barred
lying_barred_seen = refl

pub lying_barred_at_work : LastAtWork lying_barred
unfolding sees_to_the_last lying_barred is_draw premises book_after
lying_barred_at_work = last_at_work lying_barred 0 lying_barred_seen tt tt refl tt refl
