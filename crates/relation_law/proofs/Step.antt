-- One pair of calls in the walk: it is accepted, what it leaves, and that the terms behind it wait as they did.
use Prim.Native.Nat.{ℕ, ◌+◌, ◌≤◌, ◌<◌}
use mathlib.Core.Path.{◌≡◌, refl, sym, ◌∙◌, ap, ap₂, subst}
use mathlib.Core.Logic.{◌≢◌}
use mathlib.Core.List.{List}
use native.Mathlib.Omega.{arith}
use lib.ListN.{length, set}
use lib.Seq.{get_or-set_same, get_or-set_other}
use Rattle.field.specs.Modulus.{p}
use Rattle.shape.specs.Bounds.{row_count_of, last_row_at, last_triple}
use Rattle.shape.specs.Marks.{held, further, masked, spent, collected as collectedMark}
use Rattle.refusal.specs.Refusal.{first, outcome}
use Rattle.refusal.specs.Conditions.{any_beyond}
use Rattle.refusal.proofs.Laws.{not_refused}
use Rattle.refusal.proofs.Endings.{accepted}
use Rattle.session.specs.declared.Session.{Session}
use Rattle.session.specs.declared.Answer.{Answer}
use Rattle.session.specs.Sessions.{shape_of, mark_in, factor_a_of, factor_b_of, opened_a_of, opened_b_of, with_marks, with_opened, collected_triple, finished_triple, holding, answer, with_barred, mark}
use Rattle.session.specs.Rows.{width, row_at}
use Rattle.session.specs.Checks.{frame_tests}
use Rattle.session.specs.Between.{Sized}
use Rattle.session.proofs.Calls.{frame_passed}
use Rattle.session.proofs.Endings.{accepted_answer}
use Rattle.opening.specs.Walking.{record_length, too_few_of, disagree, opened}
use Rattle.opening.proofs.Theorems.{opened_below}
use Rattle.product_masks.specs.Masks.{less}
use Rattle.collect.specs.Collect.{mask_a, mask_b, unopened, collect_refusal}
use Rattle.collect.proofs.Passed.{CollectChecked, collect_walks}
use Rattle.multiply.specs.Multiply.{product_row, with_product, multiply_refusal_of, multiply_answer, multiply_rows_of}
use Rattle.multiply.proofs.Passed.{multiply_clear}
use Rattle.multiply.proofs.Written.{others_read, length_written}
use Rattle.terms.specs.declared.Term.{Term}
use Rattle.relation.specs.Finish.{record_a_of, record_b_of, term_mask_a, term_mask_b, term_number_a, term_number_b, pair_done}
use Rattle.relation.proofs.Passed.{Enough, Agreed, RecordsLow}
use Rattle.relation_law.specs.Pairs.{first_call, second_call, second_rows}
use Rattle.relation_law.proofs.Lows.{TermLow}

-- a session in the walk: marks and remembered numbers are new
abbrev pub state_of : Session → List ℕ → List ℕ → List ℕ → List ℕ → Session
state_of s m a b sets = with_barred (with_opened (with_marks s m) a b) sets

-- the marks behind a pair
abbrev pub pair_marks : List ℕ → ℕ → List ℕ
pair_marks m r = set (set (set (set m r collectedMark) r spent) (r + 1) spent) (r + 2) held

pub answered : (x : ℕ) (new old : Session) → x ≡ 0 → answer x 0 new old ≡ holding 0 0 new
answered x new old e = sym (accepted_answer x x 0 0 new new old refl e refl refl)

pub left : (x : ℕ) (new old : List ℕ) → x ≡ 0 → outcome x new old ≡ new
left x new old e = sym (accepted x x new new old refl e refl)

-- s and rows are those that the relation's finish got. In the walk the marks are m, the remembered numbers a and b, and the rows l.
module _ (s : Session) (rows blocks : List ℕ) where
  abbrev w : ℕ
  w = width s

  -- of a product term at place k: what stays
  pub record Stays (k : ℕ) (t : Term) : Type 0 where
    pub remembered : (factor_a_of s t.first ≡ t.row) × (factor_b_of s t.first ≡ t.second)
    pub low : TermLow s rows t
    pub a_long : length (record_a_of s blocks k) ≡ record_length s
    pub b_long : length (record_b_of s blocks k) ≡ record_length s
    pub records_low : RecordsLow s blocks k t
    pub enough : Enough s rows blocks k t
    pub agreed : Agreed s rows blocks k t

  -- and what each pair before it leaves as it was: marks, and rows
  pub record Waits (m l : List ℕ) (t : Term) : Type 0 where
    pub a_in : t.row ≤ last_row_at
    pub b_in : t.second ≤ last_row_at
    pub triple_in : t.first ≤ last_triple
    pub a_held : mark_in m t.row ≡ held
    pub b_held : mark_in m t.second ≡ held
    pub first_mark : mark_in m t.first ≡ masked
    pub second_mark : mark_in m (t.first + 1) ≡ further
    pub third_mark : mark_in m (t.first + 2) ≡ further
    pub a_row : row_at w l t.row ≡ row_at w rows t.row
    pub b_row : row_at w l t.second ≡ row_at w rows t.second
    pub first_row : row_at w l t.first ≡ row_at w rows t.first
    pub second_row : row_at w l (t.first + 1) ≡ row_at w rows (t.first + 1)
    pub third_row : row_at w l (t.first + 2) ≡ row_at w rows (t.first + 2)

  -- the lists are as long as they were
  pub record Long (m a b sets l : List ℕ) : Type 0 where
    pub marks : length m ≡ row_count_of
    pub y_a_is : length a ≡ row_count_of
    pub y_b_is : length b ≡ row_count_of
    pub as_long : length l ≡ length rows

  module _ (frame : first (frame_tests s rows) ≡ 0) (m a b sets l : List ℕ) (long : Long m a b sets l) (k : ℕ) (t : Term) (f : Stays k t) (h : Waits m l t) where
    abbrev now : Session
    now = state_of s m a b sets

    abbrev r : ℕ
    r = t.first

    abbrev la : List ℕ
    la = record_a_of s blocks k

    abbrev lb : List ℕ
    lb = record_b_of s blocks k

    abbrev y : ℕ
    y = term_number_a s rows blocks k t

    abbrev y' : ℕ
    y' = term_number_b s rows blocks k t

    abbrev between : Session
    between = collected_triple now r y y'

    frame_now : first (frame_tests s l) ≡ 0
    frame_now = rw long.as_long frame

    sized : Sized (shape_of s) l
    sized = (frame_passed s l 0 (sym frame_now) refl).sized

    mask_a_is : mask_a now l r ≡ term_mask_a s rows t
    mask_a_is = ap₂ less (ap (row_at w l) f.remembered.0 ∙ h.a_row) h.first_row

    mask_b_is : mask_b now l r ≡ term_mask_b s rows t
    mask_b_is = ap₂ less (ap (row_at w l) f.remembered.1 ∙ h.b_row) h.second_row

    checked : CollectChecked now l r la lb
    checked =
        let (ea, eb) = f.remembered in
        let (low, _) = f.low in
        record {
          frame = frame_now;
          placed = record {
            a_long = f.a_long;
            b_long = f.b_long;
            factors = record {
              a_in = subst (λ (x : ℕ). x ≤ last_row_at) (sym ea) h.a_in;
              b_in = subst (λ (x : ℕ). x ≤ last_row_at) (sym eb) h.b_in;
              triple_in = h.triple_in;
              a_held = ap (mark_in m) ea ∙ h.a_held;
              b_held = ap (mark_in m) eb ∙ h.b_held;
              first_mark = h.first_mark;
              second_mark = h.second_mark;
              third_mark = h.third_mark;
            };
          };
          numbers = record {
            rows_low = record {
              a_low = ap any_beyond (ap (row_at w l) ea ∙ h.a_row) ∙ low.a_low;
              b_low = ap any_beyond (ap (row_at w l) eb ∙ h.b_row) ∙ low.b_low;
              first_low = ap any_beyond h.first_row ∙ low.first_low;
              second_low = ap any_beyond h.second_row ∙ low.second_low;
            };
            record_a_low = f.records_low.0;
            record_b_low = f.records_low.1;
          };
        }

    collect_done : collect_refusal now l r la lb ≡ 0
    collect_done =
        collect_walks now l r la lb checked
        ∙ not_refused (unopened now (mask_a now l r) (mask_b now l r) la lb) (
          ap (λ (x : List ℕ). too_few_of s x la) mask_a_is ∙ f.enough.0,
          (
            ap (λ (x : List ℕ). too_few_of s x lb) mask_b_is ∙ f.enough.1,
            (ap (λ (x : List ℕ). disagree s x la) mask_a_is ∙ f.agreed.0, (ap (λ (x : List ℕ). disagree s x lb) mask_b_is ∙ f.agreed.1, tt)),
          ),
        )

    pub first_is : first_call blocks k t now l ≡ holding 0 0 (collected_triple now t.first (term_number_a s rows blocks k t) (term_number_b s rows blocks k t))
    first_is =
        answered (collect_refusal now l r la lb) _ now collect_done
        ∙ ap₂ (λ (x x' : List ℕ). holding 0 0 (collected_triple now r (opened s x la) (opened s x' lb))) mask_a_is mask_b_is

    low : r < row_count_of
    low = omega (arith, h.triple_in)

    a_is : opened_a_of between r ≡ y
    a_is = get_or-set_same a r y 0 (omega (arith, low, long.y_a_is))

    b_is : opened_b_of between r ≡ y'
    b_is = get_or-set_same b r y' 0 (omega (arith, low, long.y_b_is))

    multiply_done : multiply_refusal_of between l r ≡ 0
    multiply_done =
        multiply_clear between l r frame_now
        (record {
          triple_in = h.triple_in;
          first_mark = get_or-set_same m r collectedMark 0 (omega (arith, low, long.marks));
          second_mark = get_or-set_other m r (r + 1) collectedMark 0 (λ e. omega arith) ∙ h.second_mark;
          third_mark = get_or-set_other m r (r + 2) collectedMark 0 (λ e. omega arith) ∙ h.third_mark;
          a_held = ap (λ (q : ℕ). mark between q) f.remembered.0 ∙ get_or-set_other m r t.row collectedMark 0 (λ e. omega (arith, ap (mark_in m) e, h.a_held, h.first_mark)) ∙ h.a_held;
          b_held = ap (λ (q : ℕ). mark between q) f.remembered.1 ∙ get_or-set_other m r t.second collectedMark 0 (λ e. omega (arith, ap (mark_in m) e, h.b_held, h.first_mark)) ∙ h.b_held;
        })
        (record {
          a_element = subst (λ (x : ℕ). x < p) (sym a_is) (opened_below s (term_mask_a s rows t) la);
          b_element = subst (λ (x : ℕ). x < p) (sym b_is) (opened_below s (term_mask_b s rows t) lb);
          first_low = ap any_beyond h.first_row ∙ f.low.0.first_low;
          second_low = ap any_beyond h.second_row ∙ f.low.0.second_low;
          third_low = ap any_beyond h.third_row ∙ f.low.1;
        })

    pub second_is : second_call blocks k t now l ≡ holding 0 0 (pair_done now t.first (term_number_a s rows blocks k t) (term_number_b s rows blocks k t))
    second_is =
        ap (λ (x : Answer). multiply_answer x.session l r) first_is ∙ answered (multiply_refusal_of between l r) (finished_triple between r) between multiply_done

    product_is : with_product between (opened_a_of between r) (opened_b_of between r) r l ≡ with_product s y y' r l
    unfolding with_product product_row
    product_is = ap₂ (λ (x x' : ℕ). with_product s x x' r l) a_is b_is

    pub rows_are : second_rows blocks k t now l ≡ with_product s (term_number_a s rows blocks k t) (term_number_b s rows blocks k t) t.first l
    rows_are =
        ap (λ (x : Answer). multiply_rows_of x.session l r) first_is
        ∙ left (multiply_refusal_of between l r) (with_product between (opened_a_of between r) (opened_b_of between r) r l) l multiply_done
        ∙ product_is

    -- ---- what is left to the terms behind

    pub written_long : length (with_product s (term_number_a s rows blocks k t) (term_number_b s rows blocks k t) t.first l) ≡ length l
    written_long = length_written s l r y y' sized h.triple_in

    other_row : (q : ℕ) → q ≢ r + 2 → row_at w (with_product s y y' r l) q ≡ row_at w l q
    other_row q ne = others_read s l r y y' sized h.triple_in q ne

    other_mark : (q : ℕ) → q ≢ r → q ≢ r + 1 → q ≢ r + 2 → mark_in (pair_marks m r) q ≡ mark_in m q
    other_mark q n0 n1 n2 =
        let one = set m r collectedMark in
        let two = set one r spent in
        let three = set two (r + 1) spent in
        get_or-set_other three (r + 2) q held 0 n2 ∙ get_or-set_other two (r + 1) q spent 0 n1 ∙ get_or-set_other one r q spent 0 n0
        ∙ get_or-set_other m r q collectedMark 0 n0

    -- a held row is none of the triple's
    held_mark : (q : ℕ) → mark_in m q ≡ held → mark_in (pair_marks m r) q ≡ held
    held_mark q e =
        other_mark q (λ g. omega (arith, ap (mark_in m) g, e, h.first_mark)) (λ g. omega (arith, ap (mark_in m) g, e, h.second_mark))
        (λ g. omega (arith, ap (mark_in m) g, e, h.third_mark))
        ∙ e

    held_row_is : (q : ℕ) → mark_in m q ≡ held → row_at w (with_product s y y' r l) q ≡ row_at w l q
    held_row_is q e = other_row q (λ g. omega (arith, ap (mark_in m) g, e, h.third_mark))

    module _ (u : Term) (ne : u.first ≢ t.first) (v : Waits m l u) where
      abbrev q : ℕ
      q = u.first

      -- a first row is no further row
      not_second : q ≢ r + 1
      not_second g = omega (arith, ap (mark_in m) g, v.first_mark, h.second_mark)

      not_third : q ≢ r + 2
      not_third g = omega (arith, ap (mark_in m) g, v.first_mark, h.third_mark)

      second_not : q + 1 ≢ r
      second_not g = omega (arith, ap (mark_in m) g, v.second_mark, h.first_mark)

      third_not : q + 2 ≢ r
      third_not g = omega (arith, ap (mark_in m) g, v.third_mark, h.first_mark)

      pub still_waits : Waits (pair_marks m t.first) (with_product s (term_number_a s rows blocks k t) (term_number_b s rows blocks k t) t.first l) u
      still_waits = record {
        a_in = v.a_in;
        b_in = v.b_in;
        triple_in = v.triple_in;
        a_held = held_mark u.row v.a_held;
        b_held = held_mark u.second v.b_held;
        first_mark = other_mark q ne not_second not_third ∙ v.first_mark;
        second_mark = other_mark (q + 1) second_not (λ e. ne (omega arith)) (λ e. not_second (omega arith)) ∙ v.second_mark;
        third_mark = other_mark (q + 2) third_not (λ e. second_not (omega arith)) (λ e. ne (omega arith)) ∙ v.third_mark;
        a_row = held_row_is u.row v.a_held ∙ v.a_row;
        b_row = held_row_is u.second v.b_held ∙ v.b_row;
        first_row = other_row q not_third ∙ v.first_row;
        second_row = other_row (q + 1) (λ e. not_second (omega arith)) ∙ v.second_row;
        third_row = other_row (q + 2) (λ e. ne (omega arith)) ∙ v.third_row;
      }
