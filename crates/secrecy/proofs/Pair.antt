-- Two runs side by side, of one list of calls, under the two lists of secrets and with the two draws: the same answers and lines.
use Prim.Native.Nat.{ℕ, ◌+◌, ◌≤◌, ◌<◌}
use mathlib.Core.Path.{◌≡◌, refl, sym, ◌∙◌, ap, ap₂}
use mathlib.Core.Bool.{Bool, true, false}
use mathlib.Core.Logic.{◌≢◌, ◌⊎◌, inl, inr}
use mathlib.Core.List.{List, [], ◌∷◌}
use native.Mathlib.Decide.{ℕ_discrete}
use native.Mathlib.Omega.{arith}
use Rattle.shape.specs.declared.Points.{Points}
use Rattle.field.specs.Modulus.{p}
use Rattle.field.specs.Element.{Element, element}
use Rattle.field.proofs.Elements.{𝓡, element_path}
use Rattle.poly.specs.Counting.{All}
use Rattle.shape.specs.Bounds.{row_count_of}
use Rattle.shape.specs.Marks.{empty, held, unused}
use Rattle.shape.specs.Lengths.{v_length}
use Rattle.refusal.specs.Refusal.{◌when◌, first}
use Rattle.session.specs.declared.Session.{Session}
use Rattle.session.specs.Rows.{row_at}
use Rattle.opening.specs.Walking.{block_coefficients, too_few_of, disagree}
use Rattle.opening.specs.Opening.{open_refusal_of}
use Rattle.opening.proofs.Passed.{OpenChecked, open_walks}
use Rattle.vectors.specs.Vector.{Vector, number, row_of}
use Rattle.runs.specs.Draws.{Plan, Draw, IsDraw, Sound, IsRaw, point_of, plan_shape}
use Rattle.runs.specs.Outline.{Act, a_record, acts}
use Rattle.runs.specs.Calls.{Proper, Post, opening_line, Among}
use Rattle.runs.proofs.Marks.{Marks, Sized, mark_of, remembered_a, remembered_b, session_at, less, mask_vector_a, mask_vector_b, Masking, none, of, masking, Masked}
use Rattle.runs.proofs.Holds.{Holds, wide}
use Rattle.runs.proofs.Records.{Present, block_many, block_low, alone}
use Rattle.secrecy.specs.Steps.{Secrets, Step, Record}
use Rattle.secrecy.specs.Rules.{RuleWith, Walks}
use Rattle.secrecy.specs.Book.{Book, entered_by}
use Rattle.secrecy.proofs.Near.{gap, Near, mask_number}
use Rattle.secrecy.proofs.Link.{Gaps, Link}
use Rattle.secrecy.proofs.State.{Run, Moment, Held, Waits, AnOpening, State}
use Rattle.runs.proofs.Facts.{Facts}
use Rattle.runs.proofs.Start.{sizes}
open 𝓡 use {add as ◌⊕◌, neg}

infixl 65 ◌⊕◌
-- by how much the numbers in a place differ
abbrev pub apart : ℕ → ℕ → Element
apart x x' = element x' ⊕ neg (element x)

-- the two runs
pub record Two : Type 0 where
  pub plan : Plan
  pub group : List ℕ
  pub members : All (λ i. (1 ≤ i) × (i ≤ plan.n)) group
  pub sound : Sound plan
  pub len : ℕ → ℕ
  pub d : Draw
  pub d' : Draw
  pub u : Secrets
  pub u' : Secrets
  pub is_draw : IsDraw plan d
  pub is_draw' : IsDraw plan d'
  pub low : (r : ℕ) → IsRaw (plan.raw r) → u r < p
  pub low' : (r : ℕ) → IsRaw (plan.raw r) → u' r < p
  pub K : Vector
  pub Δ : ℕ → Gaps
  pub link : Link plan group d d' u u' K Δ

abbrev pub run_one : Two → Run
run_one T = record { plan = T.plan; draw = T.d; u = T.u; len = T.len; sound = T.sound; is_draw = T.is_draw; low = T.low }

abbrev pub run_two : Two → Run
run_two T = record { plan = T.plan; draw = T.d'; u = T.u'; len = T.len; sound = T.sound; is_draw = T.is_draw'; low = T.low' }

-- where they stand: marks and lines are the same in both
pub record Moments : Type 0 where
  pub marks : Marks
  pub vec : ℕ → Vector
  pub vec' : ℕ → Vector
  pub book : Book
  pub book' : Book
  pub lines : List (List ℕ)
  pub posts : ℕ → Post
  pub posts' : ℕ → Post

abbrev pub moment_one : Moments → Moment
moment_one m = record { marks = m.marks; vec = m.vec; book = m.book; lines = m.lines; posts = m.posts }

abbrev pub moment_two : Moments → Moment
moment_two m = record { marks = m.marks; vec = m.vec'; book = m.book'; lines = m.lines; posts = m.posts' }

module _ (T : Two) where
  pub record Pair (m : Moments) : Type 0 where
    pub one : State (run_one T) (moment_one m)
    pub two : State (run_two T) (moment_two m)
    pub near : (r : ℕ) → r < row_count_of → mark_of m.marks r ≢ empty
        → Near (plan_shape T.plan) (point_of T.plan T.d) T.K (m.vec r) (m.vec' r)
    pub sessions : (i : ℕ) → 1 ≤ i → i ≤ T.plan.n → (m.posts i).session ≡ (m.posts' i).session
    pub group_same : All (λ i. m.posts i ≡ m.posts' i) T.group
    pub agreed : (r j : ℕ) (xs : List ℕ) → AnOpening (run_one T) r j xs → Among (opening_line r j xs) m.lines
        → m.book.place r ≡ m.book'.place r
    pub waiting : (r : ℕ) → r < row_count_of → Masked (mark_of m.marks r)
        → (apart (m.book.factor_a_of r) (m.book'.factor_a_of r) ≡ (T.Δ r).factor_a_is)
        × (apart (m.book.factor_b_of r) (m.book'.factor_b_of r) ≡ (T.Δ r).factor_b_is)

  -- what of it marks, vectors and books show
  pub record Core (M : Marks) (vec vec' : ℕ → Vector) (b b' : Book) : Type 0 where
    pub sized : Sized M
    pub one : Facts T.plan T.d (Held b) (Waits b) M vec
    pub two : Facts T.plan T.d' (Held b') (Waits b') M vec'
    pub near : (r : ℕ) → r < row_count_of → mark_of M r ≢ empty → Near (plan_shape T.plan) (point_of T.plan T.d) T.K (vec r) (vec' r)
    pub waiting : (r : ℕ) → r < row_count_of → Masked (mark_of M r)
        → (apart (b.factor_a_of r) (b'.factor_a_of r) ≡ (T.Δ r).factor_a_is) × (apart (b.factor_b_of r) (b'.factor_b_of r) ≡ (T.Δ r).factor_b_is)

  -- ---- numbers in the two runs

  module _ (M : Marks) (vec vec' : ℕ → Vector) (b b' : Book) (K : Core M vec vec' b b') where
    held_one : (r : ℕ) → r < row_count_of → mark_of M r ≡ held → number (vec r) ≡ element (b.place r)
    held_one r lr two = (K.one r lr).held two

    held_two : (r : ℕ) → r < row_count_of → mark_of M r ≡ held → number (vec' r) ≡ element (b'.place r)
    held_two r lr two = (K.two r lr).held two

    -- a held row with one place in both books has one number
    core_place : (r : ℕ) → r < row_count_of → mark_of M r ≡ held → b.place r ≡ b'.place r → number (vec r) ≡ number (vec' r)
    core_place r lr two e = held_one r lr two ∙ ap element e ∙ sym (held_two r lr two)

    held_gap : (r : ℕ) → r < row_count_of → mark_of M r ≡ held → gap (vec r) (vec' r) ≡ apart (b.place r) (b'.place r)
    held_gap r lr two = ap₂ (λ (x y : Element). x ⊕ neg y) (held_two r lr two) (held_one r lr two)

    triple_gap : (r : ℕ) → r < row_count_of → (mark_of M r ≡ unused) ⊎ Masked (mark_of M r)
        → (gap (vec r) (vec' r) ≡ (T.Δ r).factor_a_is) × (gap (vec (r + 1)) (vec' (r + 1)) ≡ (T.Δ r).factor_b_is)
    triple_gap r lr m =
        let x = (K.one r lr).triple m in
        let y = (K.two r lr).triple m in
        (ap₂ gap x.is_a y.is_a ∙ T.link.gap_a r lr x.drawn, ap₂ gap x.is_b y.is_b ∙ T.link.gap_b r lr x.drawn)

    -- the masks have one number in both runs
    core_masks : (r x y : ℕ) → r < row_count_of → (mark_of M r ≡ unused) ⊎ Masked (mark_of M r) → x < row_count_of → mark_of M x ≡ held → y < row_count_of → mark_of M y ≡ held
        → apart (b.place x) (b'.place x) ≡ (T.Δ r).factor_a_is → apart (b.place y) (b'.place y) ≡ (T.Δ r).factor_b_is
        → (number (less (vec x) (vec r)) ≡ number (less (vec' x) (vec' r)))
        × (number (less (vec y) (vec (r + 1))) ≡ number (less (vec' y) (vec' (r + 1))))
    core_masks r x y lr m lx hx ly hy ea eb =
        let g = triple_gap r lr m in (
          mask_number (vec x) (vec' x) (vec r) (vec' r) (held_gap x lx hx ∙ ea ∙ sym g.0),
          mask_number (vec y) (vec' y) (vec (r + 1)) (vec' (r + 1)) (held_gap y ly hy ∙ eb ∙ sym g.1),
        )

    pub core_wait : (r : ℕ) → Masked (mark_of M r) → r < row_count_of
        → (number (mask_vector_a M vec r) ≡ number (mask_vector_a M vec' r)) × (number (mask_vector_b M vec r) ≡ number (mask_vector_b M vec' r))
    core_wait r five lr =
        let w = (K.one r lr).waiting five in
        let w' = (K.two r lr).waiting five in
        let e = K.waiting r lr five in
        core_masks r (remembered_a M r) (remembered_b M r) lr (inr five) w.a_low w.a_held w.b_low w.b_held
        (ap₂ apart (sym w.means.0) (sym w'.means.0) ∙ e.0) (ap₂ apart (sym w.means.1) (sym w'.means.1) ∙ e.1)

  -- what the call's place in the list says of masks: they are those that the matching reckoned with
  abbrev pub FitBy : Masking → Book → Book → Type 0
  FitBy none b b' = Unit {0}
  FitBy (of x y r) b b' = (apart (b.place x) (b'.place x) ≡ (T.Δ r).factor_a_is) × (apart (b.place y) (b'.place y) ≡ (T.Δ r).factor_b_is)

  abbrev pub FitAll : List Act → Book → Book → Type 0
  FitAll [] b b' = Unit {0}
  FitAll (a ∷ todo) b b' = FitBy (masking a) b b' × FitAll todo (entered_by T.u a b) (entered_by T.u' a b')

  module _ (m : Moments) (R : Pair m) where
    open m use {marks as M, vec, vec', book as b, book' as b', lines, posts as q, posts' as q'}

    pub core : Core m.marks m.vec m.vec' m.book m.book'
    core = record { sized = R.one.sized; one = R.one.facts; two = R.two.facts; near = R.near; waiting = R.waiting }

    pub place_number : (r : ℕ) → r < row_count_of → mark_of M r ≡ held → b.place r ≡ b'.place r → number (vec r) ≡ number (vec' r)
    place_number = core_place M vec vec' b b' core

    pub masks_number : (r x y : ℕ) → r < row_count_of → (mark_of M r ≡ unused) ⊎ Masked (mark_of M r) → x < row_count_of → mark_of M x ≡ held → y < row_count_of → mark_of M y ≡ held
        → apart (b.place x) (b'.place x) ≡ (T.Δ r).factor_a_is → apart (b.place y) (b'.place y) ≡ (T.Δ r).factor_b_is
        → (number (less (vec x) (vec r)) ≡ number (less (vec' x) (vec' r)))
        × (number (less (vec y) (vec (r + 1))) ≡ number (less (vec' y) (vec' (r + 1))))
    masks_number = core_masks M vec vec' b b' core

    pub wait_numbers : (r : ℕ) → Masked (mark_of M r) → r < row_count_of
        → (number (mask_vector_a M vec r) ≡ number (mask_vector_a M vec' r)) × (number (mask_vector_b M vec r) ≡ number (mask_vector_b M vec' r))
    wait_numbers = core_wait M vec vec' b b' core

    abbrev pub Fit : Step → Type 0
    Fit c = FitAll (acts c) b b'

    -- ---- one post

    module _ (i : ℕ) (lo : 1 ≤ i) (hi : i ≤ T.plan.n) where
      abbrev s : Session
      s = session_at T.plan T.d i M (R.one.posts i lo hi).opened

      abbrev l : List ℕ
      l = (q i).rows

      abbrev l' : List ℕ
      l' = (q' i).rows

      pub h : Holds T.plan T.d (T.len i) i M vec (q i).rows
      h = (R.one.posts i lo hi).holds

      -- the second run's post, with the first draw's check point, which is the same
      pub h' : Holds T.plan T.d (T.len i) i M vec' (q' i).rows
      h' =
          let g = (R.two.posts i lo hi).holds in
          record {
            long = g.long;
            rows = λ r lr ne. g.rows r lr ne ∙ ap (λ (f : ℕ → Points). row_of (plan_shape T.plan) i (f i) (vec' r)) T.link.points;
          }

      -- an opening that comes to the walk finds one number in both runs, or nobody's polynomial but the own
      module _ (r : ℕ) (blocks : Record) (rule : RuleWith T.plan (open_refusal_of s l r (blocks i lines)) lines (a_record r) blocks) where
        abbrev few_in : List ℕ → Bool
        few_in rows = too_few_of s (row_at (wide T.plan) rows r) (blocks i lines)

        walks_of : (few off : Bool) → Walks (first (9 when few ∷ 13 when off ∷ []))
        walks_of true off = inr (inl refl)
        walks_of false true = inr (inr refl)
        walks_of false false = inl refl

        walks : OpenChecked s l r (blocks i lines) → Walks (open_refusal_of s l r (blocks i lines))
        walks f = rw (open_walks s l r (blocks i lines) f) (walks_of (few_in l) (disagree s (row_at (wide T.plan) l r) (blocks i lines)))

        -- others' polynomials in the record were broadcast, so the number agrees
        told : OpenChecked s l r (blocks i lines) → (j : ℕ) → 1 ≤ j → j ≤ T.plan.n → j ≢ i → Present s (blocks i lines) j
            → number (vec r) ≡ number (vec' r)
        told f j lj hj ne there =
            place_number r (omega (arith, f.placed.row_in)) f.placed.is_held (R.agreed r j _ message (rule (walks f) i j lo hi lj hj ne there))
          where
            proper : Proper s (blocks i lines)
            proper = record { long = f.placed.record_long; low = f.record_low }

            message : AnOpening (run_one T) r j (block_coefficients (v_length (plan_shape T.plan)) (blocks i lines) j)
            message =
                record {
                  row = f.placed.row_in;
                  post = (lj, hj);
                  many = block_many s (blocks i lines) j lj hj ne proper there;
                  low = block_low s (blocks i lines) j lj hj ne proper there;
                }

        pub few_same : OpenChecked s l r (blocks i lines) → (number (vec r) ≡ number (vec' r)) ⊎ ((few_in l ≡ true) × (few_in l' ≡ true))
        few_same f = go (ℕ_discrete (number (vec r)).0 (number (vec' r)).0)
          where
            t_low : 1 ≤ T.plan.t
            t_low = (sizes T.plan T.sound).t_low

            nobody : (number (vec r)).0 ≢ (number (vec' r)).0 → (j : ℕ) → 1 ≤ j → j ≤ T.plan.n → j ≢ i → Present s (blocks i lines) j → ⊥
            nobody ne j lj hj ji there = ne (ap (λ (z : Element). z.0) (told f j lj hj ji there))

            go : Dec ((number (vec r)).0 ≡ (number (vec' r)).0)
                → (number (vec r) ≡ number (vec' r)) ⊎ ((few_in l ≡ true) × (few_in l' ≡ true))
            go (yes e) = inl (element_path _ _ e)
            go (no ne) = inr (alone s (blocks i lines) _ t_low (nobody ne), alone s (blocks i lines) _ t_low (nobody ne))
