-- Document 01, "What a group of posts sees": "Demand 3's list holds loads and calls on a session", and by document 02, (xii), lines placed
-- and turns. One list for all posts, who carry out its orders in step; of each what is fixed, and what follows the draw.
use Rattle.std.specs.Prelude.{ℕ, ◌%◌, refl, Bool, true, List, [], ◌∷◌, map, get_or}
use Rattle.field.specs.Modulus.{p}
use Rattle.factory.specs.Calls.{dealer_number_of}
use Rattle.runs.specs.Draws.{Plan, Draw, when_raw, raw_draw, raw_pack, triple_pack}
use Rattle.runs.specs.Outline.{cut, Kinds, CallOf, outline, Filling, filled}
use Rattle.runs.specs.Calls.{Actual, Call}
use Rattle.runs.specs.Orders.{OrderOf}
pub use Rattle.runs.specs.Calls.{load_row_of, load_triple_of, deal, opening, linear, masks, collect, multiply, relation_masks_of, relation_finish_of, access}

-- "A list of secrets gives one u for each row with a dealer."
abbrev pub Secrets : Type 0
Secrets = ℕ → ℕ

-- The c that row r's dealer broadcasts: "The dealer's number is c = u − f(0)", by the call that gives it.
unfoldable pub dealt_number : Plan → Draw → Secrets → ℕ → ℕ
dealt_number plan draw u r = when_raw (plan.raw r) (dealer_number_of (u r) (get_or (raw_draw draw r) 0 0)).value 0

-- A number that follows the draw in any way, and the secrets, as what earlier calls left in a list does.
abbrev pub Following : Type 0
Following = Draw → Secrets → ℕ

-- A number of a pack that is not the own part: fixed, or an element that follows the draw. So how long the pack is, and whether 8 meets
-- it, is fixed.
pub data PackNumber : Type 0 where
  fixed : ℕ → PackNumber
  element : Following → PackNumber

-- What a post loads: "its own part" of what was drawn for row k; or other numbers, as of another post's pack. A pack may be of another
-- kind at each post.
pub data PackAt : Type 0 where
  its : (k : ℕ) → PackAt
  other : List PackNumber → PackAt

abbrev pub Pack : Type 0
Pack = ℕ → PackAt

abbrev pub own : (k : ℕ) → Pack
own k i = its k

-- The number that a row is dealt with: the c that row k's dealer broadcast ("the one value in the fixed calls that follows the
-- draw, beside the packs and the messages"), or a fixed one.
pub data Number : Type 0 where
  sent : (k : ℕ) → Number
  fixed : ℕ → Number

-- A record: for each post a list that may follow the lines broadcast before.
abbrev pub Record : Type 0
Record = ℕ → List (List ℕ) → List ℕ

-- A list to write into: for each post what stands in it, which may follow the draw; how long it is, is fixed.
abbrev pub Lent : Type 0
Lent = ℕ → List Following

-- A line that is placed, the same at every post: the D line of row r's dealer, or fixed bytes. (A row without a dealer has no such line.)
pub data Placed : Type 0 where
  theirs : (r : ℕ) → Placed
  bytes : List ℕ → Placed

-- A call of the list, with the numbers fixed in it. An opening message may be made by few posts: `heard` says by which. It changes
-- nothing at a post, so one that is not heard stands for none.
abbrev pub Fixed : Kinds
Fixed =
    record {
      Pack = Pack;
      Number = Number;
      Record = Record;
      Lent = Lent;
      Heard = ℕ → Bool;
      Line = Placed;
      part = λ m j blocks. λ i lines. cut m j (blocks i lines);
    }

abbrev pub Step : Type 0
Step = CallOf Fixed

-- An order of the list: such a call, a line placed, a turn.
abbrev pub Item : Type 0
Item = OrderOf Fixed

abbrev pub message : (r caller : ℕ) (lent : Lent) (heard : ℕ → Bool) → Step
message r caller lent heard = CallOf.message (record { r = r; caller = caller; lent = lent; heard = heard })

abbrev pub pack_number : Draw → Secrets → PackNumber → ℕ
pack_number draw u (fixed x) = x
pack_number draw u (element x) = x draw u % p

abbrev pub packed : PackAt → Draw → Secrets → (ℕ → List ℕ) → List ℕ
packed (its k) draw u packs = packs k
packed (other xs) draw u packs = map (pack_number draw u) xs

abbrev pub dealt_with : Number → (ℕ → ℕ) → ℕ
dealt_with (sent k) cs = cs k
dealt_with (fixed x) cs = x

-- What post i puts in, after the lines broadcast so far; and the call as it makes it.
abbrev pub filling : Plan → Draw → Secrets → List (List ℕ) → ℕ → Filling Fixed Actual
filling plan draw u lines i =
    record {
      row = λ pack. packed (pack i) draw u (raw_pack plan draw i);
      triple = λ pack. packed (pack i) draw u (triple_pack plan draw i);
      number = λ r c. dealt_with c (dealt_number plan draw u);
      blocks = λ blocks. blocks i lines;
      lent = λ lent. map (λ x. x draw u) (lent i);
      heard = λ heard. tt;
      parts = λ m j blocks. refl;
    }

abbrev pub call_at : Plan → Draw → Secrets → List (List ℕ) → ℕ → Step → Call
call_at plan draw u lines i c = filled (filling plan draw u lines i) c

-- Whether post i makes the message, of an opening message; any other call is every post's.
abbrev heard_by : List (ℕ → Bool) → ℕ → Bool
heard_by [] i = true
heard_by (heard ∷ others) i = heard i

abbrev pub heard_from : Step → ℕ → Bool
heard_from c i = heard_by (outline c).heard i
