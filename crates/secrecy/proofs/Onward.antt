-- The two runs after one more call: not refused at any post, or refused at all of them.
use Prim.Native.Nat.{ℕ, suc, ◌≤◌}
use mathlib.Core.Path.{◌≡◌, refl, sym, ◌∙◌, ap, subst}
use mathlib.Core.Bool.{Bool, true, false, cond}
use mathlib.Core.Logic.{◌⊎◌, inl, inr}
use mathlib.Core.List.{List, [], ◌∷◌, ◌++◌, map, append-nil}
use native.Mathlib.Omega.{arith}
use Rattle.poly.specs.Counting.{All}
use Rattle.shape.specs.Marks.{held}
use Rattle.vectors.specs.Vector.{Vector}
use Rattle.forms.specs.Lines as Line
use Rattle.forms.specs.Lines.{text}
use Rattle.runs.specs.Outline.{Sending, its_opening, its_masks, acts, sends}
use Rattle.runs.specs.Calls.{Post, Call, perform, after, broadcast, opening_line, masks_line, Among}
use Rattle.runs.proofs.Outlines.{every_all}
use Rattle.runs.proofs.Marks.{Marks, mark_of, marks_all}
use Rattle.runs.proofs.Outcomes.{refusal_of, refusal_is, silent}
use Rattle.runs.proofs.Steps.{stands_refused}
use Rattle.runs.proofs.Facts.{Allowed}
use Rattle.secrecy.specs.Steps.{Step, call_at, heard_from}
use Rattle.secrecy.specs.Seen.{posts, joined}
use Rattle.secrecy.specs.Rules.{Rule}
use Rattle.secrecy.specs.Book.{Book, AgreesBy, Agrees, entered}
use Rattle.secrecy.proofs.CallRuns.{lines_of}
use Rattle.secrecy.proofs.Moves.{vectors_then}
use Rattle.secrecy.proofs.State.{Run, Moment, AnOpening, State, stand_at, place_stays}
use Rattle.runs.proofs.Start.{sizes}
use Rattle.secrecy.proofs.Broadcasts.{among_append, among_posts, among_heard, allowed_at, MessageIn, new_opening}
use Rattle.secrecy.proofs.Advance.{advance}
use Rattle.secrecy.proofs.Pair.{Two, run_one, run_two, Moments, moment_one, moment_two, Pair, Fit}
use Rattle.secrecy.proofs.OneCall.{posts_same, refused_two, lines_two, group_two}
use Rattle.secrecy.proofs.Together.{core_after}
use Rattle.secrecy.proofs.Sessions.{session_idle, session_live}

-- ---- refused: nothing is broadcast, and the posts are as they were

nothing : ℕ → List (List ℕ)
nothing i = []

either_none : (t : Bool) → ◌≡◌ {A = List (List ℕ)} (cond t [] []) []
either_none true = refl
either_none false = refl

joined_none : (l : List ℕ) → joined (map nothing l) ≡ []
unfolding joined nothing
joined_none [] = refl
joined_none (i ∷ l) = joined_none l

module _ (C : Run) (m : Moment) (c : Step) (k : ℕ)
    (z : (i : ℕ) → 1 ≤ i → i ≤ C.plan.n → refusal_of (call_at C.plan C.draw C.u m.lines i c) (m.posts i) ≡ suc k) where
  open C use {plan, draw, u, len}
  open m use {marks as M, vec, book as b, lines, posts as q}

  no_lines : lines_of plan draw u lines c q ≡ []
  unfolding nothing
  no_lines =
      ap joined (posts_same _ nothing plan.n (λ i lo hi.
      ap (λ (l : List (List ℕ)). cond (heard_from c i) l [])
      (silent i _ k (sends (call_at plan draw u lines i c)) (perform (call_at plan draw u lines i c) (q i)).lent
      (refusal_is (call_at plan draw u lines i c) (q i) ∙ z i lo hi))
      ∙ either_none (heard_from c i)))
      ∙ joined_none (posts plan.n)

  as_before : lines ++ lines_of plan draw u lines c q ≡ lines
  as_before = ap (λ (x : List (List ℕ)). lines ++ x) no_lines ∙ append-nil lines

  abbrev pub idle_moment : Moment
  idle_moment =
      record {
        marks = m.marks;
        vec = m.vec;
        book = m.book;
        lines = m.lines ++ lines_of C.plan C.draw C.u m.lines c m.posts;
        posts = λ i. after (perform (call_at C.plan C.draw C.u m.lines i c) (m.posts i));
      }

  pub idle_state : State C m → State C idle_moment
  idle_state S =
      record {
        sized = S.sized;
        posts = λ i lo hi.
            stands_refused (stand_at C m S i lo hi) (call_at plan draw u lines i c) k (z i lo hi);
        facts = S.facts;
        dealings = λ r x lr lx a. S.dealings r x lr lx (subst (Among (text (Line.deal r x))) as_before a);
        openings = λ r j xs o a. S.openings r j xs o (subst (Among (opening_line r j xs)) as_before a);
        maskings = λ r j xs o a. S.maskings r j xs o (subst (Among (masks_line r j xs)) as_before a);
      }

module _ (T : Two) (m : Moments) (R : Pair T m) where
  open m use {marks as M, vec, vec', book as b, book' as b', lines, posts as q, posts' as q'}

  abbrev c1 : ℕ → Step → Call
  c1 i c = call_at T.plan T.d T.u lines i c

  abbrev c2 : ℕ → Step → Call
  c2 i c = call_at T.plan T.d' T.u' lines i c

  -- the moments after a call: refused at all posts, done at all posts
  abbrev pub idle_moments : Step → Moments
  idle_moments c =
      record {
        marks = M;
        vec = vec;
        vec' = vec';
        book = b;
        book' = b';
        lines = lines ++ lines_of T.plan T.d T.u lines c q;
        posts = λ i. after (perform (c1 i c) (q i));
        posts' = λ i. after (perform (c2 i c) (q' i));
      }

  abbrev pub live_moments : Step → Moments
  live_moments c =
      record {
        marks = marks_all (acts c) M;
        vec = vectors_then T.plan T.d T.u c M vec;
        vec' = vectors_then T.plan T.d' T.u' c M vec';
        book = entered T.u c b;
        book' = entered T.u' c b';
        lines = lines ++ lines_of T.plan T.d T.u lines c q;
        posts = λ i. after (perform (c1 i c) (q i));
        posts' = λ i. after (perform (c2 i c) (q' i));
      }

  -- the second run's state, with the lines that it shares with the first
  shared : (N : Marks) (v : ℕ → Vector) (e : Book) (x y : List (List ℕ)) (p : ℕ → Post) → x ≡ y
      → State (run_two T) (record { marks = N; vec = v; book = e; lines = lines ++ y; posts = p })
      → State (run_two T) (record { marks = N; vec = v; book = e; lines = lines ++ x; posts = p })
  shared N v e x y p g S =
      subst (λ (w : List (List ℕ)). State (run_two T) (record { marks = N; vec = v; book = e; lines = lines ++ w; posts = p })) (sym g) S

  pub idle : (c : Step) (k : ℕ) → ((i : ℕ) → 1 ≤ i → i ≤ T.plan.n → refusal_of (c1 i c) (q i) ≡ suc k) → Rule T.plan c (suc k) lines
      → Agrees c (suc k) b b' → Pair T (idle_moments c)
  idle c k z rule agree =
      record {
        one = idle_state (run_one T) (moment_one m) c k z R.one;
        two = shared M vec' b' _ _ _ (lines_two T m R c (suc k) z rule agree none)
            (idle_state (run_two T) (moment_two m) c k (refused_two T m R c (suc k) z rule agree none) R.two);
        near = R.near;
        sessions = λ i lo hi. session_idle T m R c i lo hi k (z i lo hi) (refused_two T m R c (suc k) z rule agree none i lo hi);
        group_same = group_two T m R c (suc k) z rule agree none;
        agreed = λ r j xs o a. R.agreed r j xs o (subst (Among (opening_line r j xs)) (as_before (run_one T) (moment_one m) c k z) a);
        waiting = R.waiting;
      }
    where
      none : suc k ≡ 0 → Fit T m R c
      none e = absurd (omega arith)

  module _ (c : Step) (z : (i : ℕ) → 1 ≤ i → i ≤ T.plan.n → refusal_of (c1 i c) (q i) ≡ 0) (rule : Rule T.plan c 0 lines)
      (agree : Agrees c 0 b b') (fit : Fit T m R c) where
    one_post : 1 ≤ T.plan.n
    one_post = omega (arith, (sizes T.plan T.sound).n_low)

    z' : (i : ℕ) → 1 ≤ i → i ≤ T.plan.n → refusal_of (c2 i c) (q' i) ≡ 0
    z' = refused_two T m R c 0 z rule agree (λ e. fit)

    al : Allowed (acts c) (sends c) M
    al = allowed_at (run_one T) (moment_one m) R.one c z 1 (omega arith) one_post

    al' : Allowed (acts c) (sends c) M
    al' = allowed_at (run_two T) (moment_two m) R.two c z' 1 (omega arith) one_post

    -- a row that was opened keeps its place in both books
    places : (r : ℕ) → mark_of M r ≡ held → b.place r ≡ b'.place r → (entered T.u c b).place r ≡ (entered T.u' c b').place r
    places r two e =
        place_stays (run_one T) (moment_one m) R.one c al r two ∙ e
        ∙ sym (place_stays (run_two T) (moment_two m) R.two c al' r two)

  -- a row whose opening message is among the lines: its places agree
  told_now : (ss : List Sending) → All (AgreesBy 0 b b') ss → (r : ℕ) → MessageIn ss r → b.place r ≡ b'.place r
  told_now [] agree r m = absurd m
  told_now (its_opening r' ∷ ss) agree r (inl m) = ap b.place m ∙ agree.0 refl ∙ sym (ap b'.place m)
  told_now (its_masks x y r' ∷ ss) agree r (inl m) = absurd m
  told_now (s ∷ ss) agree r (inr m) = told_now ss agree.1 r m

  pub live : (c : Step) → ((i : ℕ) → 1 ≤ i → i ≤ T.plan.n → refusal_of (c1 i c) (q i) ≡ 0) → Rule T.plan c 0 lines
      → Agrees c 0 b b' → Fit T m R c → Pair T (live_moments c)
  live c z rule agree fit =
      record {
        one = advance (run_one T) (moment_one m) R.one c rule z;
        two = shared _ _ _ _ _ _ (lines_two T m R c 0 z rule agree (λ e. fit))
            (advance (run_two T) (moment_two m) R.two c rule (z' c z rule agree fit));
        near = (core_after T m R c (al c z rule agree fit) rule fit).near;
        sessions = λ i lo hi. session_live T m R c i lo hi (z i lo hi) (z' c z rule agree fit i lo hi) (al c z rule agree fit) rule fit;
        group_same = group_two T m R c 0 z rule agree (λ e. fit);
        agreed = λ r j xs o a. by_line r j xs o (among_append (opening_line r j xs) lines (lines_of T.plan T.d T.u lines c q) a);
        waiting = (core_after T m R c (al c z rule agree fit) rule fit).waiting;
      }
    where
      by_line : (r j : ℕ) (xs : List ℕ) → AnOpening (run_one T) r j xs
          → Among (opening_line r j xs) lines ⊎ Among (opening_line r j xs) (lines_of T.plan T.d T.u lines c q)
          → (entered T.u c b).place r ≡ (entered T.u' c b').place r
      by_line r j xs o (inl a) = places c z rule agree fit r (R.one.openings r j xs o a).0 (R.agreed r j xs o a)
      by_line r j xs o (inr a) =
          let w = among_posts (opening_line r j xs) (λ i. cond (heard_from c i) (broadcast i (c1 i c) (perform (c1 i c) (q i))) []) T.plan.n a in
          let n = new_opening (run_one T) (moment_one m) R.one w.0 w.1 w.2 c (z w.0 w.1 w.2)
          (allowed_at (run_one T) (moment_one m) R.one c z w.0 w.1 w.2) r j xs o (among_heard _ (heard_from c w.0) _ w.3) in
          places c z rule agree fit r n.3 (told_now (sends c) (every_all (AgreesBy 0 b b') (sends c) agree) r n.0)
