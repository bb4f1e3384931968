-- Document 02, (v): "One call makes the masks of all product terms". The single call `masks`, made for one product term after the other, by
-- the definitions that its own contract cites.
use Rattle.std.specs.Prelude.{ℕ, ◌≡◌, List, [], ◌∷◌, ◌++◌, take, drop}
use Rattle.shape.specs.Lengths.{masks_length}
use Rattle.session.specs.declared.Session.{Session}
use Rattle.session.specs.declared.Answer.{Answer}
use Rattle.session.specs.Sessions.{shape_of}
use Rattle.product_masks.specs.Masks.{masks_answer, masks_out_of}
use Rattle.terms.specs.declared.Term.{Term}

module _ (rows : List ℕ) where
  -- The call on one product term. Of the lent list it gets the first 2(t+1) numbers, and the terms behind it get the rest.
  abbrev pub single_call : Term → Session → List ℕ → Answer
  single_call t s out = masks_answer s rows t.row t.second t.first (take (masks_length (shape_of s)) out)

  -- What it leaves in them.
  abbrev pub single_list : Term → Session → List ℕ → List ℕ
  single_list t s out = masks_out_of s rows t.row t.second t.first (take (masks_length (shape_of s)) out)

  abbrev pub list_behind : Session → List ℕ → List ℕ
  list_behind s out = drop (masks_length (shape_of s)) out

  -- The call is accepted at every product term; the next one gets the session that this one handed back.
  unfoldable pub SinglesAccepted : List Term → Session → List ℕ → Type 0
  SinglesAccepted [] s out = Unit {0}
  SinglesAccepted (t ∷ ts) s out = ((single_call t s out).refusal ≡ 0) × SinglesAccepted ts (single_call t s out).session (list_behind s out)

  -- The session behind the last of them.
  unfoldable pub singles_session : List Term → Session → List ℕ → Session
  singles_session [] s out = s
  singles_session (t ∷ ts) s out = singles_session ts (single_call t s out).session (list_behind s out)

  -- Their lists, joined.
  unfoldable pub singles_lists : List Term → Session → List ℕ → List ℕ
  singles_lists [] s out = []
  singles_lists (t ∷ ts) s out = single_list t s out ++ singles_lists ts (single_call t s out).session (list_behind s out)
