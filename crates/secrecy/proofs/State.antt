-- One run of the list: what every post holds, what the marks say of vectors and book, and what was broadcast.
use Prim.Native.Nat.{ℕ, ◌+◌, ◌≤◌, ◌<◌}
use mathlib.Core.Path.{◌≡◌, refl, sym, ◌∙◌, ap, ap₂, subst}
use mathlib.Core.Logic.{inl, inr}
use mathlib.Core.List.{List, [], ◌∷◌, ◌++◌, map}
use native.Mathlib.Omega.{arith}
use lib.ListN.{length, take, drop, get_or}
use lib.Seq.{take_at, drop_at}
use Rattle.field.specs.Modulus.{p}
use Rattle.field.specs.Arithmetic.{product}
use Rattle.field.specs.Element.{element}
use Rattle.field.proofs.Elements.{𝓡, element_product}
use Rattle.poly.specs.Counting.{All, Elements}
use Rattle.poly.proofs.Lists.{all_map}
use Rattle.shape.specs.Bounds.{row_count_of}
use Rattle.shape.specs.Marks.{raw, held, collected}
use Rattle.shape.specs.Lengths.{v_length, masks_length}
use Rattle.refusal.specs.Refusal.{first}
use Rattle.factory.specs.Calls.{dealer_number_of}
use Rattle.vectors.specs.Vector.{Vector, raised, number, numbers, vector_of}
use Rattle.vectors.proofs.Linear.{length_numbers}
use Rattle.forms.specs.Lines as Line
use Rattle.forms.specs.Lines.{text}
use Rattle.runs.specs.Draws.{Plan, plan_shape, Draw, IsDraw, Sound, IsRaw, Raw, by, when_raw, raw_draw, raw_pack, triple_pack}
use Rattle.runs.specs.Outline.{Act, loads, loads_triple, deals, opens, Summand, once, times, fee, sums, factors, collects, multiplies, admits, Taking, nothing_taken, a_row_pack, a_triple_pack, a_number, a_record, two_records, takes, Given, Move, moves, acts_in, acts, sends}
use Rattle.runs.specs.Calls.{Post, Actual, opening_line, masks_line, Among}
use Rattle.runs.proofs.Outlines.{every_all, given_by, filled_move, moves_filled}
use Rattle.runs.proofs.Marks.{Marks, Sized, mark_of, remembered_a, remembered_b, mask_vector_a, mask_vector_b, written, no_numbers, session_at, none, marks_by, vectors_by, marks_all, vectors_all, at_same, Masked}
use Rattle.runs.proofs.Sums.{product_sum_lem}
use Rattle.runs.proofs.Numbers.{dealt_number_is, product_number, third_number}
use Rattle.runs.proofs.Start.{sizes}
use Rattle.runs.proofs.Steps.{Stands, FitsWith, Fits, Stand}
use Rattle.runs.proofs.Lines.{Opening, Masks}
use Rattle.runs.proofs.Records.{all_trusted}
use Rattle.runs.proofs.Facts as Facts
use Rattle.runs.proofs.Facts.{HeldIn, AllowedBy, AllowedAll, ReadyFor, Allowed, Facts, Meant}
use Rattle.runs.proofs.Rows.{sized_by}
use Rattle.runs.proofs.Kept.{facts_by}
use Rattle.secrecy.specs.Steps.{Secrets, Fixed, Step, PackAt, Number, sent, packed, dealt_with, filling, call_at, dealt_number}
use Rattle.secrecy.specs.Rules.{FromDealer, RuleWith, Rule}
use Rattle.secrecy.specs.Book.{Book, entered_by, entered_all, entered}
use Rattle.secrecy.proofs.Moves.{number_at, vectors_then}
use Rattle.secrecy.proofs.Entered.{Numbered, total_number, Past, place_by, notes_by, place_all}
open 𝓡 use {add as ◌⊕◌, mul as ◌⊗◌, zero as 0ᴱ}

infixl 65 ◌⊕◌
infixl 70 ◌⊗◌
-- what a run is made with; `len` is how long each post's list of rows is
pub record Run : Type 0 where
  pub plan : Plan
  pub draw : Draw
  pub u : Secrets
  pub len : ℕ → ℕ
  pub sound : Sound plan
  pub is_draw : IsDraw plan draw
  pub low : (r : ℕ) → IsRaw (plan.raw r) → u r < p

-- where it stands: the marks and the rows' vectors, the same at every post; the book; what was broadcast; the posts
pub record Moment : Type 0 where
  pub marks : Marks
  pub vec : ℕ → Vector
  pub book : Book
  pub lines : List (List ℕ)
  pub posts : ℕ → Post

-- by the book: the number of a held row's vector, and the numbers that masks noted
abbrev pub Held : Book → ℕ → Vector → Type 0
Held b r X = number X ≡ element (b.place r)

abbrev pub Waits : Book → ℕ → ℕ → ℕ → Type 0
Waits b r x y = (b.factor_a_of r ≡ b.place x) × (b.factor_b_of r ≡ b.place y)

module _ (C : Run) where
  open C use {plan, draw, u, len}

  -- a well-formed O line; a well-formed M line
  abbrev pub AnOpening : ℕ → ℕ → List ℕ → Type 0
  AnOpening r j xs = Opening C.plan.n (v_length (plan_shape C.plan)) (sizes C.plan C.sound).n_high r j xs

  abbrev pub AMask : ℕ → ℕ → List ℕ → Type 0
  AMask r j xs = Masks C.plan.n (v_length (plan_shape C.plan)) (sizes C.plan C.sound).n_high r j xs

  -- what an M line of the triple at r shows of post j
  abbrev pub mask_numbers : Marks → (ℕ → Vector) → ℕ → ℕ → List ℕ
  mask_numbers M vec r j = numbers (v_length (plan_shape C.plan)) ((mask_vector_a M vec r).v j) ++ numbers (v_length (plan_shape C.plan)) ((mask_vector_b M vec r).v j)

  -- a D line among the lines shows the dealer's number
  abbrev pub Dealt : List (List ℕ) → Type 0
  Dealt lines = (r x : ℕ) → r < row_count_of → x < p → Among (text (Line.deal r x)) lines → x ≡ dealt_number C.plan C.draw C.u r

  pub record State (m : Moment) : Type 0 where
    pub sized : Sized m.marks
    pub posts : (i : ℕ) → 1 ≤ i → i ≤ C.plan.n → Stands C.plan C.draw (C.len i) i m.marks m.vec (m.posts i)
    pub facts : Facts C.plan C.draw (Held m.book) (Waits m.book) m.marks m.vec
    pub dealings : Dealt m.lines
    pub openings : (r j : ℕ) (xs : List ℕ) → AnOpening r j xs → Among (opening_line r j xs) m.lines
        → (mark_of m.marks r ≡ held) × (xs ≡ numbers (v_length (plan_shape C.plan)) ((m.vec r).v j))
    pub maskings : (r j : ℕ) (xs : List ℕ) → AMask r j xs → Among (masks_line r j xs) m.lines
        → Past m.marks r × (Masked (mark_of m.marks r) → xs ≡ mask_numbers m.marks m.vec r j)

  -- a post of it
  abbrev pub stand_at : (m : Moment) → State m → (i : ℕ) → 1 ≤ i → i ≤ C.plan.n → Stand
  stand_at m S i lo hi = record {
    plan = C.plan;
    draw = C.draw;
    is_draw = C.is_draw;
    len = C.len i;
    post = i;
    high = hi;
    marks = m.marks;
    vec = m.vec;
    state = m.posts i;
    stands = S.posts i lo hi;
  }

  -- ---- one act after the other: what the marks say of vectors and book

  module _ (lines : List (List ℕ)) (ds : Dealt lines) where
    -- a deal by the rules is with the dealer's number
    from_dealer : (r : ℕ) → r < row_count_of → (c : Number) → FromDealer lines r c → dealt_with c (dealt_number plan draw u) ≡ dealt_number plan draw u r
    from_dealer r lr (sent k) e = ap (dealt_number plan draw u) e
    from_dealer r lr (Number.fixed x) o = ds r x lr o.0 o.1

    module _ (M : Marks) (vec : ℕ → Vector) (b : Book) (f : Facts plan draw (Held b) (Waits b) M vec) where
      dealt_is : (r : ℕ) → r < row_count_of → mark_of M r ≡ raw → number (raised (element (dealt_number plan draw u r)) (vec r)) ≡ element (u r)
      unfolding dealt_number
      dealt_is r lr one =
          let g = (f r lr).raw one in
          ap (λ (X : Vector). number (raised (element (dealt_number plan draw u r)) X)) g.1
          ∙ ap (λ (c : ℕ). number (raised (element c) (vector_of (plan_shape plan) (raw_draw draw r)))) (go (plan.raw r) g.0)
          ∙ dealt_number_is plan draw C.is_draw r (u r) (C.low r g.0)
        where
          go : (w : Raw) → IsRaw w → when_raw w (dealer_number_of (u r) (get_or (raw_draw draw r) 0 0)).value 0 ≡ (dealer_number_of (u r) (get_or (raw_draw draw r) 0 0)).value
          go Raw.none x = absurd x
          go (by dealer) x = refl

      product_is : (r : ℕ) → Facts.Tripled collected M r
          → number (written M vec r) ≡ element (product (b.factor_a_of r) (b.factor_b_of r))
      product_is r al =
          let g = f r (omega (arith, al.r_low)) in
          let t = g.triple (inr (inr al.first)) in
          let w = g.waiting (inr al.first) in
          ap number (product_sum_lem vec r _ _)
          ∙ product_number (vec (remembered_a M r)) (vec (remembered_b M r)) (vec r) (vec (r + 1)) (vec (r + 2))
          (ap number t.is_ab ∙ third_number plan draw r ∙ sym (ap₂ (λ (X Y : Vector). number X ⊗ number Y) t.is_a t.is_b))
          ∙ ap₂ ◌⊗◌
          ((f (remembered_a M r) w.a_low).held w.a_held ∙ ap element (sym w.means.0))
          ((f (remembered_b M r) w.b_low).held w.b_held ∙ ap element (sym w.means.1))
          ∙ sym (element_product (b.factor_a_of r) (b.factor_b_of r))

      -- the rows of a sum
      number_of : (t : Summand) → HeldIn M t → Numbered vec b.place t
      number_of (once a) h = (f a h.0).held h.1
      number_of (times s x) h = (f x h.0).held h.1
      number_of (fee k) h = tt

      meant : (a : Act) (x : Given Fixed (takes a)) → AllowedBy a M → RuleWith plan 0 lines (takes a) x
          → Meant plan draw (Held (entered_by u a b)) (Waits (entered_by u a b)) a (number_at plan draw u (takes a) x) M vec
      meant (loads r) x al rule = (rule refl).0
      meant (loads_triple r) x al rule = (rule refl).0
      meant (deals r) c al rule =
          ap (λ (x : ℕ). number (raised (element x) (vec r))) (from_dealer r al.0.0 c (rule refl))
          ∙ dealt_is r al.0.0 al.0.1 ∙ ap element (sym (at_same b.place r (u r)))
      meant (opens r) blocks al rule = tt
      meant (sums r t ts) x al rule =
          total_number vec b.place t ts (number_of t al.0.held.0) (all_map number_of ts al.0.held.1)
          ∙ ap element (sym (at_same b.place r _))
      meant (factors x y r) t al rule = (at_same b.factor_a_of r (b.place x), at_same b.factor_b_of r (b.place y))
      meant (collects r) blocks al rule = tt
      meant (multiplies r) x al rule = product_is r al.0 ∙ ap element (sym (at_same b.place (r + 2) _))
      meant (admits line) x al rule = tt

    pub facts_step : (M : Marks) (vec : ℕ → Vector) (b : Book) (a : Act) (x : Given Fixed (takes a)) → Sized M → AllowedBy a M
        → RuleWith plan 0 lines (takes a) x → Facts plan draw (Held b) (Waits b) M vec
        → Facts plan draw (Held (entered_by u a b)) (Waits (entered_by u a b)) (marks_by a M)
        (vectors_by plan draw a (number_at plan draw u (takes a) x) M vec)
    facts_step M vec b a x z al rule f =
        facts_by plan draw (Held b) (Waits b) (Held (entered_by u a b)) (Waits (entered_by u a b)) a _ M vec z al (meant M vec b f a x al rule)
        (λ x lx two h. h ∙ ap element (sym (place_by u M b a al x two)))
        (λ x lx five five' w.
        let n = notes_by u M b a al x (inl five) in
        let g = (f x lx).waiting five in (
          n.0 ∙ w.0 ∙ sym (place_by u M b a al (remembered_a M x) g.a_held),
          n.1 ∙ w.1 ∙ sym (place_by u M b a al (remembered_b M x) g.b_held),
        ))
        f

    abbrev Ruled : Move Fixed → Type 0
    Ruled m = RuleWith plan 0 lines (takes m.0) m.1

    pub facts_all : (ms : List (Move Fixed)) (M : Marks) (vec : ℕ → Vector) (b : Book) → Sized M → AllowedAll (acts_in Fixed ms) M
        → All Ruled ms → Facts plan draw (Held b) (Waits b) M vec
        → Facts plan draw (Held (entered_all u (acts_in Fixed ms) b)) (Waits (entered_all u (acts_in Fixed ms) b)) (marks_all (acts_in Fixed ms) M)
        (vectors_all plan draw Fixed (number_at plan draw u) ms M vec)
    facts_all [] M vec b z al rule f = f
    facts_all (m ∷ ms) M vec b z al rule f =
        facts_all ms (marks_by m.0 M) (vectors_by plan draw m.0 (number_at plan draw u (takes m.0) m.1) M vec) (entered_by u m.0 b)
        (sized_by m.0 M z) al.1 rule.1 (facts_step M vec b m.0 m.1 z al.0 rule.0 f)

  module _ (m : Moment) (S : State m) where
    open m use {marks as M, vec, book as b, lines}

    -- ---- the rules give each post what its rows need

    module _ (i : ℕ) (lo : 1 ≤ i) (hi : i ≤ plan.n) where
      abbrev put : (t : Taking) → Given Fixed t → Given Actual t
      put t x = given_by (filling plan draw u lines i) t x

      fits_with : (t : Taking) (x : Given Fixed t) → ReadyFor M t → RuleWith plan 0 lines t x → FitsWith plan draw i M vec t (put t x)
      fits_with nothing_taken x al rule = tt
      fits_with (a_row_pack r) x al rule = let o = rule refl in (o.0, ap (λ (y : PackAt). packed y draw u (raw_pack plan draw i)) (o.1 i lo hi))
      fits_with (a_triple_pack r) x al rule = let o = rule refl in (o.0, ap (λ (y : PackAt). packed y draw u (triple_pack plan draw i)) (o.1 i lo hi))
      fits_with (a_number r) x al rule = tt
      fits_with (a_record r) x al rule = tt
      fits_with (two_records r) x al rule = (
        all_trusted (session_at plan draw i M no_numbers) (x.0 i lines) (mask_vector_a M vec r) (λ j lj hj ne there.
            let o = (rule (inl refl)).0 i j lo hi lj hj ne there in
            o.4 ∙ ap (take (v_length (plan_shape plan))) (both_are j lj hj o.0 o.1 o.2 o.3)
            ∙ take_at (numbers (v_length (plan_shape plan)) ((mask_vector_a M vec r).v j)) _ (v_length (plan_shape plan)) (length_numbers (v_length (plan_shape plan)) ((mask_vector_a M vec r).v j))),
        all_trusted (session_at plan draw i M no_numbers) (x.1 i lines) (mask_vector_b M vec r) (λ j lj hj ne there.
            let o = (rule (inl refl)).1 i j lo hi lj hj ne there in
            o.4 ∙ ap (drop (v_length (plan_shape plan))) (both_are j lj hj o.0 o.1 o.2 o.3)
            ∙ drop_at (numbers (v_length (plan_shape plan)) ((mask_vector_a M vec r).v j)) _ (v_length (plan_shape plan)) (length_numbers (v_length (plan_shape plan)) ((mask_vector_a M vec r).v j))),
      )
        where
          -- what an M line of the triple shows of post j
          both_are : (j : ℕ) → 1 ≤ j → j ≤ plan.n → (both : List ℕ) → length both ≡ masks_length (plan_shape plan) → Elements both
              → Among (masks_line r j both) lines → both ≡ mask_numbers M vec r j
          both_are j lj hj both many els st =
              (S.maskings r j both (record { row = omega (arith, al.r_low); post = (lj, hj); many = many; low = els }) st).1 (inl al.first)

      fits_all : (ms : List (Move Fixed)) → All (λ a. ReadyFor M (takes a)) (acts_in Fixed ms) → All (λ m. RuleWith plan 0 lines (takes m.0) m.1) ms
          → All (λ m. FitsWith plan draw i M vec (takes m.0) m.1) (map (filled_move (filling plan draw u lines i)) ms)
      fits_all [] al rule = tt
      fits_all (m ∷ ms) al rule = (fits_with (takes m.0) m.1 al.0 rule.0, fits_all ms al.1 rule.1)

      pub fits : (c : Step) → Allowed (acts c) (sends c) M → Rule plan c 0 lines → Fits plan draw i M vec (call_at plan draw u lines i c)
      fits c al rule =
          subst (All (λ m. FitsWith plan draw i M vec (takes m.0) m.1)) (sym (moves_filled (filling plan draw u lines i) c))
          (fits_all (moves c) al.ready (every_all _ (moves c) rule))

    -- ---- after the call

    pub facts_on : (c : Step) → Allowed (acts c) (sends c) M → Rule plan c 0 lines
        → Facts plan draw (Held (entered u c b)) (Waits (entered u c b)) (marks_all (acts c) M) (vectors_then plan draw u c M vec)
    facts_on c al rule = facts_all lines S.dealings (moves c) M vec b S.sized al.moving (every_all _ (moves c) rule) S.facts

    -- a held row's place stays
    pub place_stays : (c : Step) → Allowed (acts c) (sends c) M → (x : ℕ) → mark_of M x ≡ held → (entered u c b).place x ≡ b.place x
    place_stays c al x two = place_all plan draw u (acts c) M b S.sized al.moving x two
