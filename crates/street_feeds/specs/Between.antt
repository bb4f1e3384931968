-- Between the functions of the code: what one hands to the next, and what holds in between. No theorem is stated with these. What a
-- program prints is in `Program.antt`.
use Rattle.std.specs.Prelude.{ℕ, ◌+◌, ◌-◌, ◌*◌, ◌≤◌, ◌<◌, ◌^◌, ◌≡◌, List, [], Bool, true, cond, length, get_or, take, drop, eqb}
use Rattle.shape.specs.declared.Shape.{Shape}
use Rattle.shape.specs.Lengths.{masks_length}
use Rattle.refusal.specs.Refusal.{outcome}
use Rattle.csv_fields.specs.Fields.{overwrite}
use Rattle.forms.specs.Lines as Lines
use Rattle.session.specs.declared.Session.{Session}
use Rattle.street_store.specs.Sizes.{InStreet, most_masks, street_posts}
use Rattle.street_states.specs.declared.Head.{Head}
use Rattle.street_states.specs.States.{state_of}
use Rattle.street_orders.specs.declared.Order.{Order}
use Rattle.street_orders.specs.Orders.{looking, Reads}
use Rattle.street_steps.specs.Stepping.{Ready}
use Rattle.street_feeds.specs.declared.Feed.{Feed}
use Rattle.street_feeds.specs.declared.Part.{Part}
use Rattle.street_answers.specs.Text.{print_text, longest_print}
use Rattle.street_splitting.specs.Lines.{kept_length, laid}
use Rattle.street_feeds.specs.Program.{Running, left_by, answered, grown, closed, running}

-- What holds between bytes, with room for k more.
pub record Open (f : Feed) (store line out : List ℕ) (k : ℕ) : Type 0 where
  pub ready : Ready f.state store
  pub line_room : length line ≡ kept_length
  pub len_in : f.len ≤ kept_length
  pub numbers : f.number + k < 2 ^ 64
  pub room : f.at + longest_print * k ≤ length out

-- A part of a line, which a line feed may end.
abbrev pub segmented : Running → List ℕ → Running
segmented p s = cond (eqb (get_or s (length s - 1) 0) 10) (answered (grown p s)) (grown p s)

-- Answers were put behind those before them, and what stands behind is as it was.
pub record Added (f r : Feed) (out out' : List ℕ) : Type 0 where
  pub grows : f.at ≤ r.at
  pub behind : drop r.at out' ≡ drop r.at out

-- What is left after k bytes more.
pub record Fed (f r : Feed) (store : List ℕ) (k : ℕ) : Type 0 where
  pub ready : Ready r.state store
  pub len_in : r.len ≤ kept_length
  pub numbers : r.number ≤ f.number + k
  pub room : r.at ≤ f.at + longest_print * k

-- ---- the session, and all else
abbrev pub head_of : Feed → Head
head_of f =
    record {
      started = f.state.started;
      kept = f.state.kept;
      triple = f.state.triple;
      number = f.number;
      len = f.len;
      at = f.at;
    }

abbrev pub feed_of : Session → Head → Feed
feed_of s h = record { state = state_of s h; number = h.number; len = h.len; at = h.at }

abbrev pub grown_head : Head → ℕ → Head
grown_head h len = record { started = h.started; kept = h.kept; triple = h.triple; number = h.number; len = len; at = h.at }

abbrev pub answered_head : Head → ℕ → ℕ → ℕ → Head
answered_head h letter refusal at =
    record {
      started = cond (eqb letter 83) (eqb refusal 0) h.started;
      kept = h.kept;
      triple = h.triple;
      number = h.number + 1;
      len = 0;
      at = at;
    }

-- ---- a part of a line, or the end of the input
abbrev pub unread_order : Order
unread_order = record { letter = 0; refusal = 0; row = 0; post = 0 }

abbrev pub turned : Bool → Running → List ℕ → Running
turned closing p s = cond closing (closed p) (segmented p s)

pub record PartRead (g : Shape) (h : Head) (line part : List ℕ) (closing : Bool) (r : Part) (line' xs : List ℕ) : Type 0 where
  pub head_is : r.head ≡ grown_head h r.head.len
  pub len_in : r.head.len ≤ kept_length
  pub line_is : line' ≡ cond closing line (laid h.len part line)
  pub reads : r.ended ≡ true → Reads h.started g (take r.head.len line') r.order xs
  pub says : (s : Session) (store out : List ℕ)
      → turned closing (running (feed_of s h) store line out) part
      ≡ cond r.ended (answered (running (feed_of s r.head) store line' out)) (running (feed_of s r.head) store line' out)

-- ---- a line is answered
abbrev pub told_text : ℕ → ℕ → ℕ → Shape → List ℕ → List ℕ → List ℕ
told_text letter refusal post g xs ms =
    cond (eqb letter 88) (outcome refusal (Lines.text (Lines.masks (get_or xs 2 0) post (take (masks_length g) ms))) []) []

pub record TellRoom (letter refusal post : ℕ) (g : Shape) (xs ms : List ℕ) : Type 0 where
  pub number_in : 3 ≤ length xs
  pub masks_room : length ms ≡ most_masks
  pub street : letter ≡ 88 → refusal ≡ 0 → InStreet g
  pub post_in : letter ≡ 88 → refusal ≡ 0 → post ≤ street_posts

pub record Answered (h : Head) (letter refusal : ℕ) (told out : List ℕ) (at : ℕ) (out' : List ℕ) : Type 0 where
  pub at_is : at ≡ h.at + length (print_text (h.number + 1) refusal 0 told)
  pub out_is : out' ≡ overwrite h.at (print_text (h.number + 1) refusal 0 told) out
  pub at_in : at ≤ h.at + longest_print

-- A look is answered, whatever the line was.
pub record Seen (s : Session) (h : Head) (o : Order) (xs store out : List ℕ) (r : Head) (store' out' : List ℕ) : Type 0 where
  pub says : (line : List ℕ) → running (feed_of s r) store' line out' ≡ left_by (running (feed_of s h) store line out) (looking (state_of s h) store o xs)
  pub len_none : r.len ≡ 0
  pub number_next : r.number ≡ h.number + 1
  pub at_in : r.at ≤ h.at + longest_print
  pub added : Added (feed_of s h) (feed_of s r) out out'
