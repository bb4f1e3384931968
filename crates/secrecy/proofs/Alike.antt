-- One post in the two runs: the same lines.
use Prim.Native.Nat.{ℕ, zero, suc, ◌+◌, ◌-◌, ◌≤◌, ◌<◌}
use mathlib.Core.Path.{◌≡◌, refl, sym, ◌∙◌, ap, ap₂, subst}
use mathlib.Core.Logic.{◌≢◌, inl, inr}
use mathlib.Core.List.{List, [], ◌∷◌, ◌++◌, map}
use native.Mathlib.Omega.{arith}
use lib.ListN.{take}
use Rattle.field.specs.Modulus.{p}
use Rattle.field.specs.Element.{element}
use Rattle.poly.specs.Counting.{All}
use Rattle.shape.specs.Bounds.{row_count_of}
use Rattle.shape.specs.Marks.{empty, held as heldMark}
use Rattle.shape.specs.Lengths.{v_length}
use Rattle.session.specs.Sessions.{answer}
use Rattle.vectors.specs.Vector.{Vector, number, numbers}
use Rattle.runs.specs.Draws.{point_of, plan_shape}
use Rattle.runs.specs.Outline.{Act, acts, Sending, its_opening, its_masks, sends}
use Rattle.runs.specs.Calls.{Post, Call, Performed, perform, sent_by, broadcast, line_of, Among}
use Rattle.runs.proofs.Outlines.{every_all}
use Rattle.runs.proofs.Marks.{Marks, Sized, mark_of, less, raw_vector, Masking, of, masking, marks_by}
use Rattle.runs.proofs.Outcomes.{refusal_of, refusal_is, silent}
use Rattle.runs.proofs.Facts.{AllowedAll, Allowed, Sendable}
use Rattle.runs.proofs.Rows.{sized_by, held_by, nonzero}
use Rattle.runs.proofs.Allowed.{allowed}
use Rattle.runs.proofs.Steps.{own_numbers, Says, SaysAll, says}
use Rattle.secrecy.specs.Steps.{Step, call_at}
use Rattle.secrecy.specs.Rules.{Rule}
use Rattle.secrecy.specs.Book.{Book, entered_by, AgreesBy, Agrees}
use Rattle.secrecy.proofs.Moves.{acts_at, sends_at}
use Rattle.secrecy.proofs.Entered.{place_by}
use Rattle.secrecy.proofs.Near.{Near, near_plus_times, near_same}
use Rattle.secrecy.proofs.State.{stand_at}
use Rattle.secrecy.proofs.Pair.{Two, run_one, run_two, Moments, moment_one, moment_two, Pair, apart, FitBy, FitAll, place_number, masks_number, Fit}
use Rattle.secrecy.proofs.Answers.{is_p1, answers_same}

-- masks among the acts are those that were reckoned with: the numbers of held rows stay
fit_among : (T : Two) (todo : List Act) (M : Marks) (b b' : Book) → Sized M → AllowedAll todo M → FitAll T todo b b' → (x y r : ℕ)
    → Among (of x y r) (map masking todo) → mark_of M x ≡ heldMark → mark_of M y ≡ heldMark → FitBy T (of x y r) b b'
fit_among T [] M b b' z al fit x y r k hx hy = elim k [ ]
fit_among T (a ∷ todo) M b b' z al fit x y r (inl e) hx hy = subst (λ (m : Masking). FitBy T m b b') (sym e) fit.0
fit_among T (a ∷ todo) M b b' z al fit x y r (inr there) hx hy =
    let k = fit_among T todo (marks_by a M) (entered_by T.u a b) (entered_by T.u' a b') (sized_by a M z) al.1 fit.1 x y r there (held x hx) (held y hy) in
    (sym (places x hx) ∙ k.0, sym (places y hy) ∙ k.1)
  where
    held : (w : ℕ) → mark_of M w ≡ heldMark → mark_of (marks_by a M) w ≡ heldMark
    held w h = (held_by T.plan T.d a 0 M (raw_vector T.plan T.d) z al.0 w h).0

    places : (w : ℕ) → mark_of M w ≡ heldMark → apart ((entered_by T.u a b).place w) ((entered_by T.u' a b').place w) ≡ apart (b.place w) (b'.place w)
    places w h = ap₂ apart (place_by T.u M b a al.0 w h) (place_by T.u' M b' a al.0 w h)

module _ (T : Two) (m : Moments) (R : Pair T m) (i : ℕ) (lo : 1 ≤ i) (hi : i ≤ T.plan.n) where
  open m use {marks as M, vec, vec', book as b, book' as b', lines, posts as q, posts' as q'}

  abbrev c1 : Step → Call
  c1 c = call_at T.plan T.d T.u lines i c

  abbrev c2 : Step → Call
  c2 c = call_at T.plan T.d' T.u' lines i c

  abbrev near : (r : ℕ) → r < row_count_of → mark_of M r ≢ empty → Near (plan_shape T.plan) (point_of T.plan T.d) T.K (vec r) (vec' r)
  near = R.near

  abbrev k : ℕ
  k = v_length (plan_shape T.plan)

  -- post i's numbers of two near vectors with one number
  numbers_same : (S S' : Vector) → Near (plan_shape T.plan) (point_of T.plan T.d) T.K S S' → number S ≡ number S'
      → numbers k (S.v i) ≡ numbers k (S'.v i)
  numbers_same S S' h e =
      sym (own_numbers (plan_shape T.plan) i (point_of T.plan T.d i) S)
      ∙ ap (take k) (near_same (plan_shape T.plan) (point_of T.plan T.d) T.K S S' h e i lo hi)
      ∙ own_numbers (plan_shape T.plan) i (point_of T.plan T.d i) S'

  mask_numbers_is : (x y : ℕ) → x < row_count_of → mark_of M x ≢ empty → y < row_count_of → mark_of M y ≢ empty → number (less (vec x) (vec y)) ≡ number (less (vec' x) (vec' y))
      → numbers k ((less (vec x) (vec y)).v i) ≡ numbers k ((less (vec' x) (vec' y)).v i)
  mask_numbers_is x y lx hx ly hy e =
      numbers_same (less (vec x) (vec y)) (less (vec' x) (vec' y))
      (near_plus_times (plan_shape T.plan) (point_of T.plan T.d) T.K (p - 1) (vec x) (vec' x) (vec y) (vec' y) (near x lx hx) (near y ly hy)) e

  -- what is sent of a call with these acts
  module _ (todo : List Act) (al : AllowedAll todo M) (fit : FitAll T todo b b') where
    part_same : (s : Sending) (xs xs' : List ℕ) → Sendable todo M s → Says T.plan T.d i vec s xs → Says T.plan T.d' i vec' s xs'
        → AgreesBy 0 b b' s → xs ≡ xs'
    part_same (its_opening r) xs xs' ok said said' agree =
        said ∙ numbers_same (vec r) (vec' r) (near r ok.0 (nonzero M r ok.1)) (place_number T m R r ok.0 ok.1 (agree refl)) ∙ sym said'
    part_same (its_masks x y r) xs xs' ok said said' agree =
        let o = ok.0 in
        let f = fit_among T todo M b b' R.one.sized al fit x y r ok.1 o.a_held o.b_held in
        let lr : r < row_count_of = omega (arith, o.r_low) in
        let e = masks_number T m R r x y lr (inl o.first) o.a_low o.a_held o.b_low o.b_held f.0 f.1 in
        said
        ∙ ap₂ ◌++◌ (mask_numbers_is x r o.a_low (nonzero M x o.a_held) lr (nonzero M r o.first) e.0)
        (mask_numbers_is y (r + 1) o.b_low (nonzero M y o.b_held) (omega (arith, o.r_low)) (nonzero M (r + 1) o.second) e.1)
        ∙ sym said'

    parts_same : (ss : List Sending) (parts parts' : List (List ℕ)) → All (Sendable todo M) ss → SaysAll T.plan T.d i vec ss parts
        → SaysAll T.plan T.d' i vec' ss parts' → All (AgreesBy 0 b b') ss → sent_by i 0 ss parts ≡ sent_by i 0 ss parts'
    parts_same [] parts parts' ok said said' agree = refl
    parts_same (s ∷ ss) [] parts' ok said said' agree = absurd said
    parts_same (s ∷ ss) (xs ∷ parts) [] ok said said' agree = absurd said'
    parts_same (s ∷ ss) (xs ∷ parts) (xs' ∷ parts') ok said said' agree =
        ap₂ (λ (x : List ℕ) (ls : List (List ℕ)). line_of i s x ∷ ls) (part_same s xs xs' ok.0 said.0 said'.0 agree.0)
        (parts_same ss parts parts' ok.1 said.1 said'.1 agree.1)

  -- ---- the post as it stands

  abbrev FitIf : ℕ → Step → Type 0
  FitIf k c = k ≡ 0 → Fit T m R c

  lines_of : (c : Step) (j j' : ℕ) → refusal_of (c1 c) (q i) ≡ j → refusal_of (c2 c) (q' i) ≡ j' → j ≡ j' → Agrees c j b b' → FitIf j c
      → sent_by i j (sends c) (perform (c1 c) (q i)).lent ≡ sent_by i j' (sends c) (perform (c2 c) (q' i)).lent
  lines_of c (suc j) j' z z' e agree fit = silent i (suc j) j (sends c) _ refl ∙ sym (silent i j' j (sends c) _ (sym e))
  lines_of c zero (suc j) z z' e agree fit = absurd (omega arith)
  lines_of c zero zero z z' e agree fit =
      parts_same (acts c) al.moving (fit refl) (sends c) _ _ al.sending
      (subst (λ (ss : List Sending). SaysAll T.plan T.d i vec ss (perform (c1 c) (q i)).lent) (sends_at T.plan T.d T.u lines i c)
      (says (stand_at (run_one T) (moment_one m) R.one i lo hi) (c1 c) z))
      (subst (λ (ss : List Sending). SaysAll T.plan T.d' i vec' ss (perform (c2 c) (q' i)).lent) (sends_at T.plan T.d' T.u' lines i c)
      (says (stand_at (run_two T) (moment_two m) R.two i lo hi) (c2 c) z'))
      (every_all (AgreesBy 0 b b') (sends c) agree)
    where
      al : Allowed (acts c) (sends c) M
      al =
          subst (λ (ss : List Sending). Allowed (acts c) ss M) (sends_at T.plan T.d T.u lines i c)
          (subst (λ (todo : List Act). Allowed todo (sends (c1 c)) M) (acts_at T.plan T.d T.u lines i c)
          (allowed T.plan T.d i M (R.one.posts i lo hi).opened (q i).rows (c1 c) (subst (λ (x : Post). refusal_of (c1 c) x ≡ 0) (is_p1 T m R i lo hi) z)))

  pub record Same (o o' : Performed) (c c' : Call) : Type 0 where
    pub refusal : o.answer.refusal ≡ o'.answer.refusal
    pub value : o.answer.value ≡ o'.answer.value
    pub lines_same : broadcast i c o ≡ broadcast i c' o'

  pub same_answers : (c : Step) → Rule T.plan c (refusal_of (c1 c) (q i)) lines → Agrees c (refusal_of (c1 c) (q i)) b b'
      → FitIf (refusal_of (c1 c) (q i)) c → Same (perform (c1 c) (q i)) (perform (c2 c) (q' i)) (c1 c) (c2 c)
  same_answers c rule agree fit =
      let o = perform (c1 c) (q i) in
      let o' = perform (c2 c) (q' i) in
      let e = answers_same T m R i lo hi c rule in
      let one : o.answer.refusal ≡ refusal_of (c1 c) (q i) = refusal_is (c1 c) (q i) in
      let two : o'.answer.refusal ≡ refusal_of (c2 c) (q' i) = refusal_is (c2 c) (q' i) in
      record {
        refusal = e.0;
        value = e.1;
        lines_same =
            ap₂ (λ (j : ℕ) (ss : List Sending). sent_by i j ss o.lent) one (sends_at T.plan T.d T.u lines i c)
            ∙ lines_of c _ _ refl refl (sym one ∙ e.0 ∙ two) agree fit
            ∙ sym (ap₂ (λ (j : ℕ) (ss : List Sending). sent_by i j ss o'.lent) two (sends_at T.plan T.d' T.u' lines i c));
      }
