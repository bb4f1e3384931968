-- Searches for the proof that a record keeps the rules, that its answers are the same, and that the numbers opened agree.
use Prim.Native.Nat.{ℕ, ◌+◌, ◌≤◌}
use mathlib.Core.Path.{◌≡◌, ap}
use mathlib.Core.Bool.{Bool, true, false, false≢true}
use mathlib.Core.Logic.{◌≢◌, ⊎_elim}
use mathlib.Core.List.{List, [], ◌∷◌, ◌++◌}
use mathlib.Core.Option.{Option, none, some}
use borrow.Author.Tests.{eqb-true}
use lib.Dec.{eqb}
use lib.ListN.{length, take, drop}
use Rattle.field.specs.Modulus.{p}
use Rattle.poly.specs.Counting.{Elements}
use Rattle.shape.specs.declared.Shape.{Shape}
use Rattle.shape.specs.Marks.{present}
use Rattle.shape.specs.Lengths.{v_length, masks_length}
use Rattle.opening.specs.Walking.{block_mark, block_coefficients}
use Rattle.refusal.specs.Refusal.{outcome}
use Rattle.refusal.specs.Conditions.{any_beyond}
use Rattle.decimal.specs.Numeral.{leading, value_after, field_of}
use Rattle.csv_fields.specs.Fields.{fields_at}
use Rattle.forms.specs.Forms.{form_of}
use Rattle.dealers.specs.State.{first_after}
use Rattle.dealers.specs.Calls.{taken_refusal}
use Rattle.forms.specs.Lines as Line
use Rattle.forms.specs.Lines.{text}
use Rattle.runs.specs.Draws as Draws
use Rattle.runs.specs.Draws.{Plan, Raw, IsRaw, plan_shape}
use Rattle.runs.specs.Outline.{Taking, nothing_taken, a_row_pack, a_triple_pack, a_number, a_record, two_records, takes, Given, moves, Sending, its_opening, its_masks, sends, EveryFrom, Every}
use Rattle.runs.specs.Calls.{Told, ToldHalf, masks_line, opening_line}
use Rattle.runs.specs.Calls.{at}
use Rattle.runs.specs.Callers.{Sets}
use Rattle.runs.specs.Orders.{Comes, no_call, a_call, Asked, sets_after}
use Rattle.secrecy.specs.Steps as Steps
use Rattle.secrecy.specs.Steps.{Secrets, Fixed, Step, Item, Pack, PackAt, its, other, Number}
use Rattle.secrecy.specs.Seen.{Entry}
use Rattle.secrecy.specs.Waiting.{Waiting, waiting_after, comes_of}
use Rattle.secrecy.specs.Callers.{called}
use Rattle.secrecy.specs.Rules.{AllSame, SameAnswers, refusal_of, OwnPack, FromDealer, OnlySent, Walks, RuleWith, Rule, heard_of, Rules}
use Rattle.secrecy.specs.Book.{Book, booked_by, AgreesBy, Agrees, Agree}
use Rattle.secrecy_examples.proofs.Found.{◌also◌, both, either, tested, same, equal, below, where_equal, each, each_post_lem, among}

-- ---- the same answers

unfoldable pub all_same : (xs : List ℕ) → Option (AllSame xs)
unfolding each equal
all_same [] = some tt
all_same (x ∷ xs) = each (λ y. equal y x) xs

unfoldable pub same_answers : (es : List Entry) → Option (SameAnswers es)
unfolding each all_same
same_answers es = each (λ e. all_same e.refusals) es

-- ---- the rules

unfoldable pub elements : (xs : List ℕ) → Option (Elements xs)
unfolding each below
elements xs = each (λ x. below x p) xs

unfoldable pub drawn_raw_is : (raw : Raw) → Option (IsRaw raw)
drawn_raw_is Draws.none = none
drawn_raw_is (Draws.by dealer) = some tt

unfoldable pub own_at : (x : PackAt) (r : ℕ) → Option (x ≡ its r)
unfolding ◌also◌ equal
own_at (its k) r = some (λ (e : k ≡ r). ap its e) also equal k r
own_at (other xs) r = none

unfoldable pub own_pack : {D : Type 0} (plan : Plan) (pack : Pack) (r : ℕ) → Option D → Option (OwnPack plan pack r D)
unfolding both each_post_lem own_at
own_pack plan pack r drawn = both drawn (each_post_lem (λ i. pack i ≡ its r) plan.n (λ i. own_at (pack i) r))

unfoldable pub from_dealer : (lines : List (List ℕ)) (r : ℕ) (c : Number) → Option (FromDealer lines r c)
unfolding both equal below among
from_dealer lines r (Steps.sent k) = equal k r
from_dealer lines r (Number.fixed c) = both (below c p) (among (text (Line.deal r c)) lines)

-- the messages that post j broadcast; of masks it is searched among the lists of `sent`
unfoldable pub told : (lines : List (List ℕ)) (r j : ℕ) (xs : List ℕ) → Option (Told lines r j xs)
unfolding among
told lines r j xs = among (opening_line r j xs) lines

unfoldable pub told_half : (sent : List (List ℕ)) (g : Shape) (half : List ℕ → List ℕ) (r : ℕ) (lines : List (List ℕ)) (j : ℕ) (xs : List ℕ)
    → Option (ToldHalf g half r lines j xs)
unfolding either ◌also◌ equal elements among same
told_half [] g half r lines j xs = none
told_half (m ∷ sent) g half r lines j xs =
    either
    (some (λ many low line e. (m, many, low, line, e))
    also equal (length m) (masks_length g) also elements m also among (masks_line r j m) lines also same xs (half m))
    (told_half sent g half r lines j xs)

-- what is asked of post j's block in post i's record
abbrev pub Block : Plan → (ℕ → List ℕ → Type 0) → (ℕ → List ℕ) → ℕ → ℕ → Type 0
Block plan Shown blocks i j =
    j ≢ i → block_mark (v_length (plan_shape plan)) (blocks i) j ≡ present → Shown j (block_coefficients (v_length (plan_shape plan)) (blocks i) j)

module _ (plan : Plan) (Shown : ℕ → List ℕ → Type 0) (shown : (j : ℕ) (xs : List ℕ) → Option (Shown j xs)) (blocks : ℕ → List ℕ) where
  unfoldable pub block : (i j : ℕ) → Option (Block plan Shown blocks i j)
  unfolding either ◌also◌ tested where_equal
  block i j =
      either (tested (eqb j i) (λ e ne. absurd (ne (eqb-true j i e))))
      (some (λ h ne. h)
      also where_equal (block_mark (v_length (plan_shape plan)) (blocks i) j) present (shown j (block_coefficients (v_length (plan_shape plan)) (blocks i) j)))

  unfoldable pub only_sent : Option (OnlySent plan Shown blocks)
  unfolding ◌also◌ each_post_lem block
  only_sent =
      some (λ h i j i-low i-high low high. h i i-low i-high j low high)
      also each_post_lem (λ i. (j : ℕ) → 1 ≤ j → j ≤ plan.n → Block plan Shown blocks i j) plan.n
      (λ i. each_post_lem (Block plan Shown blocks i) plan.n (block i))

-- asked where the walk is reached
unfoldable pub where_walks : {A : Type 0} (k : ℕ) → Option A → Option (Walks k → A)
unfolding ◌also◌ where_equal
where_walks k o = some (λ f g h. ⊎_elim f (⊎_elim g h)) also where_equal k 0 o also where_equal k 9 o also where_equal k 13 o

-- of each of a list
module _ {A : Type 0} (P : A → Type 0) (found : (x : A) → Option (P x)) where
  unfoldable pub every_from : (x : A) (xs : List A) → Option (EveryFrom P x xs)
  unfolding both
  every_from x [] = found x
  every_from x (y ∷ ys) = both (found x) (every_from y ys)

  unfoldable pub every : (xs : List A) → Option (Every P xs)
  unfolding every_from
  every [] = some tt
  every (x ∷ xs) = every_from x xs

-- of the call that an order comes to
unfoldable pub asked : (P : Step → Type 0) → ((c : Step) → Option (P c)) → (m : Comes Fixed) → Option (Asked P m)
asked P f no_call = some tt
asked P f (a_call c) = f c

module _ (plan : Plan) (sent : List (List ℕ)) where
  unfoldable pub rule_with : (k : ℕ) (lines : List (List ℕ)) (t : Taking) (x : Given Fixed t) → Option (RuleWith plan k lines t x)
  unfolding both tested where_equal where_walks drawn_raw_is own_pack from_dealer told told_half only_sent
  rule_with k lines nothing_taken x = some tt
  rule_with k lines (a_row_pack r) pack = where_equal k 0 (own_pack plan pack r (drawn_raw_is (plan.raw r)))
  rule_with k lines (a_triple_pack r) pack = where_equal k 0 (own_pack plan pack r (tested (plan.triple r) (λ e. e)))
  rule_with k lines (a_number r) c = where_equal k 0 (from_dealer lines r c)
  rule_with k lines (a_record r) blocks = where_walks k (only_sent plan (Told lines r) (told lines r) (λ i. blocks i lines))
  rule_with k lines (two_records r) blocks =
      where_walks k
      (both
      (only_sent plan (ToldHalf (plan_shape plan) (take (v_length (plan_shape plan))) r lines) (told_half sent (plan_shape plan) (take (v_length (plan_shape plan))) r lines) (λ i. blocks.0 i lines))
      (only_sent plan (ToldHalf (plan_shape plan) (drop (v_length (plan_shape plan))) r lines) (told_half sent (plan_shape plan) (drop (v_length (plan_shape plan))) r lines) (λ i. blocks.1 i lines)))

  unfoldable pub rule : (c : Step) (k : ℕ) (lines : List (List ℕ)) → Option (Rule plan c k lines)
  unfolding every rule_with
  rule c k lines =
      every (λ m. RuleWith plan k lines (takes m.0) m.1) (λ m. rule_with k lines (takes m.0) m.1) (moves c)

  unfoldable pub rules : (os : List Item) (es : List Entry) (lines : List (List ℕ)) (w : Waiting) → Option (Rules plan os es lines w)
  unfolding both rule asked first_after at outcome taken_refusal form_of leading value_after field_of fields_at any_beyond
  rules [] es lines w = some tt
  rules (o ∷ os) [] lines w = some tt
  rules (o ∷ os) (e ∷ es) lines w =
      both (asked (λ c. Rule plan c (refusal_of e) lines) (λ c. rule c (refusal_of e) lines) (comes_of w o))
      (rules os es (lines ++ heard_of o e) (waiting_after o (refusal_of e) w))

-- ---- the numbers opened

unfoldable pub agrees_by : (k : ℕ) (b b' : Book) (s : Sending) → Option (AgreesBy k b b' s)
unfolding where_equal equal
agrees_by k b b' (its_opening r) = where_equal k 0 (equal (b.place r) (b'.place r))
agrees_by k b b' (its_masks x y r) = some tt

unfoldable pub agrees : (c : Step) (k : ℕ) (b b' : Book) → Option (Agrees c k b b')
unfolding every agrees_by
agrees c k b b' = every (AgreesBy k b b') (agrees_by k b b') (sends c)

-- asked where a test passes
unfoldable pub where_true : {A : Type 0} (b : Bool) → Option A → Option (b ≡ true → A)
unfolding ◌also◌
where_true true o = some (λ x e. x) also o
where_true false o = some (λ e. absurd (false≢true e))

unfoldable pub agree : (plan : Plan) (u u' : Secrets) (os : List Item) (es : List Entry) (w : Waiting) (X : Sets) (b b' : Book)
    → Option (Agree plan u u' os es w X b b')
unfolding both agrees asked where_true first_after at outcome taken_refusal form_of leading value_after field_of fields_at any_beyond
agree plan u u' [] es w X b b' = some tt
agree plan u u' (o ∷ os) [] w X b b' = some tt
agree plan u u' (o ∷ os) (e ∷ es) w X b b' =
    both
    (asked (λ c. called plan X c ≡ true → Agrees c (refusal_of e) b b') (λ c. where_true (called plan X c) (agrees c (refusal_of e) b b')) (comes_of w o))
    (agree plan u u' os es (waiting_after o (refusal_of e) w) (sets_after (comes_of w o) (refusal_of e) X) (booked_by u (comes_of w o) (refusal_of e) b)
    (booked_by u' (comes_of w o) (refusal_of e) b'))
