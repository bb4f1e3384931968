-- Numbers of a record that nobody looks at change no test, no number and no answer of an opening.
use Prim.Native.Nat.{ℕ, ◌≤◌}
use mathlib.Core.Path.{◌≡◌, ap₂}
use mathlib.Core.List.{List}
use lib.ListN.{length}
use Rattle.session.specs.declared.Session.{Session}
use Rattle.session.specs.Sessions.{party_of, answer}
use Rattle.session.specs.Rows.{width, row_at}
use Rattle.blocks.specs.Claims.{Alike}
use Rattle.blocks.proofs.Reading.{parts_unread}
use Rattle.accepting.proofs.Same.{same_few, same_opened, same_disagree}
use Rattle.opening.specs.Walking.{record_length, sent, bad_record, too_few_of, disagree, opened}
use Rattle.opening.specs.Opening.{open_refusal_of}
use Rattle.opening.specs.Claims.{OwnUnread}

-- any row, opened with either record
module _ (s : Session) (row a b : List ℕ) (la : length a ≡ record_length s) (lb : length b ≡ record_length s) (like : Alike (party_of s) a b) where
  parts : (j : ℕ) → 1 ≤ j → j ≤ s.n → sent s row a j ≡ sent s row b j
  parts = (parts_unread (party_of s) row a b la lb like).1

  pub bad_same : bad_record s a ≡ bad_record s b
  bad_same = (parts_unread (party_of s) row a b la lb like).0

  pub few_same : too_few_of s row a ≡ too_few_of s row b
  few_same = same_few (party_of s) row a b parts

  pub off_same : disagree s row a ≡ disagree s row b
  off_same = same_disagree (party_of s) row a b parts

  pub number_same : opened s row a ≡ opened s row b
  number_same = same_opened (party_of s) row a b parts

pub own_unread : OwnUnread
unfolding open_refusal_of
own_unread s rows r a b la lb like = ap₂ (λ (k v : ℕ). answer k v s s) refused (number_same s row a b la lb like)
  where
    row : List ℕ
    row = row_at (width s) rows r

    refused : open_refusal_of s rows r a ≡ open_refusal_of s rows r b
    refused = rw (la, lb, bad_same s row a b la lb like, few_same s row a b la lb like, off_same s row a b la lb like)
