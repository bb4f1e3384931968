-- What the program does with a line of a file: the start line begins the post's session, a row's line loads its numbers. `performing_law` says what such lines do.
use Prim.Native.Nat.{ℕ, ◌+◌, ◌-◌, ◌≤◌, ◌<◌}
use mathlib.Core.Path.{◌≡◌, refl, sym, ◌∙◌, ap, ap₂}
use mathlib.Core.Bool.{Bool, true, false, ◌||◌, cond}
use mathlib.Core.List.{List, [], ◌∷◌, ◌++◌}
use native.Mathlib.Omega.{arith}
use borrow.Author.Tests.{le-ltb, eqb-true, eqb-false}
use lib.Dec.{eqb, ltb}
use lib.ListN.{length, drop, get_or, set}
use lib.Seq.{take_at, drop_at}
use Rattle.poly.specs.Counting.{Elements}
use Rattle.shape.specs.Bounds.{last_row_at, last_triple, most_points}
use Rattle.shape.specs.Lengths.{row_length, rows_length, triple_length}
use Rattle.shape.specs.Marks.{raw, unused, further}
use Rattle.refusal.specs.Refusal.{first, outcome}
use Rattle.refusal.proofs.Laws.{not_refused}
use Rattle.csv_fields.specs.Fields.{written}
use Rattle.session.specs.declared.Party.{Party}
use Rattle.session.specs.declared.Answer.{Answer}
use Rattle.session.specs.Claims.{fresh_session}
use Rattle.session.specs.Sessions.{session_of}
use Rattle.session.specs.Rows.{with_row}
use Rattle.load.specs.Load.{load_row_refusal_of, load_triple_refusal_of, with_triple}
use Rattle.street_store.specs.Sizes.{street_posts, longest_line, InStreet}
use Rattle.street_states.specs.declared.State.{State}
use Rattle.street_states.specs.States.{After, first_state, begun_with, refusing, leaving, session_rows, calling}
use Rattle.street_steps.specs.Stepping.{step}
use Rattle.performing_law.specs.Lines.{TenDigits}
use Rattle.performing_law.specs.Claims.{Does}
use Rattle.performing_law.specs.Starting.{OneOrTwo, start_letter_of, figured, any_no_point, settings_table}
use Rattle.performing_law.proofs.Heard.{line_short}
use Rattle.performing_law.proofs.Loading.{street_loads}
use Rattle.performing_law.proofs.Starting.{street_starts}
use Rattle.performing_law.proofs.TwoLines.{same_state}
use Rattle.packlines.specs.File.{start_line}
use Rattle.packrow.specs.Between.{PostIn}
use Rattle.packed_law.proofs.Loading.{session_at}

-- ---- a step, from its parts
same_after : (a b : After) → a.given.state ≡ b.given.state → a.given.refusal ≡ b.given.refusal → a.given.value ≡ b.given.value
    → a.store ≡ b.store → a.told ≡ b.told → a ≡ b
same_after a b e f g h i =
    ap (λ (x : State). record { given = record { state = x; refusal = a.given.refusal; value = a.given.value }; store = a.store; told = a.told }) e
    ∙ ap (λ (x : ℕ). record { given = record { state = b.given.state; refusal = x; value = a.given.value }; store = a.store; told = a.told }) f
    ∙ ap (λ (x : ℕ). record { given = record { state = b.given.state; refusal = b.given.refusal; value = x }; store = a.store; told = a.told }) g
    ∙ ap (λ (x : List ℕ). record { given = b.given; store = x; told = a.told }) h
    ∙ ap (λ (x : List ℕ). record { given = b.given; store = b.store; told = x }) i

done : (st : State) (store : List ℕ) (a : Answer) (rows : List ℕ) (v : After) → Does st store a rows v → v ≡ calling st store a rows
done st store a rows v d =
    let e = d.acts in
    same_after v (calling st store a rows)
    (same_state v.given.state (calling st store a rows).given.state e.session e.started e.kept e.triple) e.refusal e.value
    e.rows_left d.quiet.told

-- ---- the start line
-- a post's check points are 1 to p − 1
pub record Pointed (q : Party) : Type 0 where
  pub first_in : (1 ≤ q.points.first) × (q.points.first ≤ 2147483646)
  pub second_in : q.shape.points ≡ most_points → (1 ≤ q.points.second) × (q.points.second ≤ 2147483646)

pub none : {a b : Bool} → a ≡ false → b ≡ false → (a || b) ≡ false
none e f = ap₂ ◌||◌ e f

pub in_range : (x : ℕ) → (1 ≤ x) × (x ≤ 2147483646) → (ltb x 1 || ltb 2147483646 x) ≡ false
in_range x h = none (le-ltb x 1 h.0) (le-ltb 2147483646 x h.1)

module _ (q : Party) (is : PostIn q) (good : Pointed q) (street : q.shape.n ≤ street_posts) where
  abbrev n : ℕ
  n = q.shape.n

  abbrev t : ℕ
  t = q.shape.t

  abbrev points : ℕ
  points = q.shape.points

  abbrev one : ℕ
  one = q.points.first

  abbrev two : ℕ
  two = q.points.second

  abbrev line : Bool → List ℕ
  line b = cond b (one ∷ two ∷ []) (one ∷ [])

  abbrev own : List ℕ
  own = line (eqb points most_points)

  -- the line's check points: as many as the post has
  record Holds (ws : List ℕ) : Type 0 where
    few : OneOrTwo ws
    digits : TenDigits ws
    passes : any_no_point ws ≡ false
    count : length ws ≡ points
    first_is : get_or ws 0 0 ≡ one
    second_is : get_or ws 1 0 ≡ two

  holds : Holds own
  holds = go (eqb points most_points) refl
    where
      go : (b : Bool) → eqb points most_points ≡ b → Holds (line b)
      go true e =
          let k = eqb-true points most_points e in
          let h = good.second_in k in
          record {
            few = (omega arith, omega arith);
            digits = (omega (arith, good.first_in.1), (omega (arith, h.1), tt));
            passes = none (in_range one good.first_in) (none (in_range two h) refl);
            count = sym k;
            first_is = refl;
            second_is = refl;
          }
      go false e =
          let k : points < most_points = omega (arith, is.valid.points_in_is.1, eqb-false points most_points e) in
          record {
            few = (omega arith, omega arith);
            digits = (omega (arith, good.first_in.1), tt);
            passes = none (in_range one good.first_in) refl;
            count = omega (arith, is.valid.points_in_is.0);
            first_is = refl;
            second_is = sym (is.lone k);
          }

  pub start_text : start_line q ≡ figured n t q.post own
  unfolding start_line
  start_text = go (eqb points most_points)
    where
      go : (b : Bool) → cond b (written 87 (n ∷ t ∷ q.post ∷ one ∷ two ∷ [])) (written 83 (n ∷ t ∷ q.post ∷ one ∷ [])) ≡ figured n t q.post (line b)
      go true = refl
      go false = refl

  pub start_short : length (figured n t q.post own) ≤ longest_line
  start_short = line_short (start_letter_of own) (n ∷ t ∷ q.post ∷ own) (omega (arith, holds.few.1))

  pub start_byte : 11 ≤ start_letter_of own
  start_byte = go (eqb (length own) 2)
    where
      go : (b : Bool) → 11 ≤ cond b 87 83
      go true = omega arith
      go false = omega arith

  digits : TenDigits (n ∷ t ∷ q.post ∷ own)
  digits = (omega (arith, street), (omega (arith, street, is.valid.t_in.1), (omega (arith, street, is.last), holds.digits)))

  settings : first (settings_table n t q.post own) ≡ 0
  settings =
      let v = is.valid in
      not_refused (settings_table n t q.post own) (
        none (le-ltb n 2 v.n_in.0) (le-ltb 32 n street),
        (
          none (le-ltb t 1 v.t_in.0) (le-ltb (n - 1) t v.t_in.1),
          (none (le-ltb q.post 1 is.first) (le-ltb n q.post is.last), (holds.passes, tt)),
        ),
      )

  abbrev begun : State
  begun = begun_with first_state (session_of n t q.post points q.points)

  new_session : fresh_session n t q.post (length own) (get_or own 0 0) (get_or own 1 0) ≡ begun.session
  new_session = rw (holds.count, holds.first_is, holds.second_is)

  pub start_taken : (store : List ℕ) → step first_state store (figured n t q.post own) ≡ leaving (refusing begun 0) store
  start_taken store =
      let starts = street_starts first_state store refl in
      let b = starts.begins n t q.post own holds.few digits settings in
      same_after (step first_state store (figured n t q.post own)) (leaving (refusing begun 0) store)
      (same_state _ begun (b.session ∙ new_session) b.started b.kept b.triple) (starts.settings n t q.post own holds.few digits ∙ settings)
      b.value b.store_kept b.quiet.told

-- ---- a load, on the session's rows in the store
module _ (q : Party) (street : InStreet q.shape) (marks rows tail : List ℕ) (room : length rows ≡ rows_length q.shape) (row : ℕ) (pack : List ℕ)
    (elements : Elements pack) where
  abbrev st : State
  st = begun_with first_state (session_at q marks)

  own_rows : session_rows st (rows ++ tail) ≡ rows
  own_rows = take_at rows tail (rows_length q.shape) room

  own_rest : drop (rows_length q.shape) (rows ++ tail) ≡ tail
  own_rest = drop_at rows tail (rows_length q.shape) room

  module _ (low : row ≤ last_row_at) (long : length pack ≡ row_length q.shape) (clear : load_row_refusal_of (session_at q marks) rows row pack ≡ 0) where
    pub row_taken : step st (rows ++ tail) (written 82 (row ∷ pack))
        ≡ leaving (refusing (begun_with first_state (session_at q (set marks row raw))) 0) (with_row (row_length q.shape) row pack rows ++ tail)
    unfolding outcome
    row_taken =
        done st (rows ++ tail) _ _ _ ((street_loads st (rows ++ tail) refl street).load row pack low long elements) ∙ rw (own_rows, clear, own_rest)

  module _ (low : row ≤ last_triple) (long : length pack ≡ triple_length q.shape) (clear : load_triple_refusal_of (session_at q marks) rows row pack ≡ 0) where
    pub triple_taken : step st (rows ++ tail) (written 84 (row ∷ pack))
        ≡ leaving (refusing (begun_with first_state (session_at q (set (set (set marks row unused) (row + 1) further) (row + 2) further))) 0) (with_triple (row_length q.shape) row pack rows ++ tail)
    unfolding outcome
    triple_taken =
        done st (rows ++ tail) _ _ _ ((street_loads st (rows ++ tail) refl street).triple row pack low long elements) ∙ rw (own_rows, clear, own_rest)
