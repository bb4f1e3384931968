-- The two runs give the same entries, from any place where they stand side by side.
use Prim.Native.Nat.{ℕ, zero, suc, ◌+◌, ◌≤◌, ◌<◌}
use mathlib.Core.Path.{◌≡◌, refl, sym, ◌∙◌, ap, ap₂, subst}
use mathlib.Core.Bool.{Bool, cond}
use mathlib.Core.Logic.{◌≢◌, inl, inr}
use mathlib.Core.List.{List, [], ◌∷◌, ◌++◌, map}
use native.Mathlib.Decide.{ℕ_discrete}
use native.Mathlib.Omega.{arith}
use borrow.Author.Tests.{eq-eqb, ne_eqb}
use lib.ListN.{get_or, set}
use lib.Seq.{get_or-set_same}
use Rattle.poly.specs.Counting.{All}
use Rattle.shape.specs.Bounds.{row_count_of}
use Rattle.shape.specs.Marks.{masked}
use Rattle.refusal.specs.Refusal.{outcome}
use Rattle.parts.specs.Draw.{each_from}
use Rattle.vectors.specs.Vector.{Vector}
use Rattle.runs.specs.Outline.{Act, acts, sends}
use Rattle.runs.specs.Calls.{Post, Call, Performed, after}
use Rattle.runs.proofs.Marks.{Marks, Sized, Masking, none, of, masking, remembered, marks_of, mark_all_of, marks_by, marks_all}
use Rattle.runs.proofs.Outcomes as Outcomes
use Rattle.runs.proofs.Outcomes.{refusal_is}
use Rattle.runs.proofs.Facts.{Maskable, AllowedAll, Allowed}
use Rattle.runs.proofs.Rows.{sized_marks, sized_by, past_by, past_stays}
use Rattle.secrecy.specs.Steps.{Step, call_at}
use Rattle.secrecy.specs.Seen.{Entry, posts}
use Rattle.secrecy.specs.Rules.{AllSame, SameAnswers, Rule, refusal_of}
use Rattle.secrecy.specs.Book.{Book, Agrees, entered_by, entered, booked}
use Rattle.secrecy.proofs.CallRuns.{done_at, lines_of, posts_after, entry_of, run, Rules, Agree, book_after}
use Rattle.secrecy.proofs.Link.{Gaps}
use Rattle.secrecy.proofs.Entered.{Past}
use Rattle.runs.proofs.Start.{sizes}
use Rattle.secrecy.proofs.Broadcasts.{allowed_at}
use Rattle.secrecy.proofs.Pair.{Two, run_one, Moments, moment_one, Pair, FitBy, FitAll, Fit}
use Rattle.secrecy.proofs.Reckoned.{factors_apart, reckoned_by, reckoned_all, reckoned_here, reckoned}
use Rattle.secrecy.proofs.OneCall.{posts_same, same_at, lines_two, group_two}
use Rattle.secrecy.proofs.Onward.{idle, live}

-- ---- "the same answers": each post's refusal is the first post's

each_is : (f : ℕ → ℕ) (x j m : ℕ) → All (λ y. y ≡ x) (map f (each_from j m (λ i. i))) → (i : ℕ) → j ≤ i → i < j + m → f i ≡ x
unfolding each_from
each_is f x j zero a i lo hi = absurd (omega arith)
each_is f x j (suc m) a i lo hi = go (ℕ_discrete i j) (λ ne. each_is f x (suc j) m a.1 i (omega arith) (omega arith))
  where
    go : Dec (i ≡ j) → (i ≢ j → f i ≡ x) → f i ≡ x
    go (yes e) later = ap f e ∙ a.0
    go (no ne) later = later ne

pub same_refusal : (f : ℕ → ℕ) (n : ℕ) → AllSame (map f (posts n)) → (i : ℕ) → 1 ≤ i → i ≤ n → f i ≡ get_or (map f (posts n)) 0 0
unfolding posts each_from
same_refusal f zero a i lo hi = absurd (omega arith)
same_refusal f (suc n) a i lo hi = go (ℕ_discrete i 1)
  where
    go : Dec (i ≡ 1) → f i ≡ f 1
    go (yes e) = ap f e
    go (no ne) = each_is f (f 1) 2 n a i (omega arith) (omega arith)

rows_all : (f g : ℕ → Performed) (l : List ℕ) → All (λ i. after (f i) ≡ after (g i)) l → map (λ i. (f i).rows) l ≡ map (λ i. (g i).rows) l
rows_all f g [] a = refl
rows_all f g (i ∷ l) a = ap₂ ◌∷◌ (ap (λ (o : Post). o.rows) a.0) (rows_all f g l a.1)

module _ (T : Two) where
  abbrev c1 : List (List ℕ) → ℕ → Step → Call
  c1 lines i c = call_at T.plan T.d T.u lines i c

  -- masks are made of a triple that has none yet
  other_by : (m : Masking) (M N : Marks) → Sized N → Maskable m M → (b b' : Book) (r : ℕ) → (Past (remembered m N) r → ⊥) → (rest : Gaps)
      → reckoned_by m b b' r rest ≡ rest
  other_by none M N z al b b' r np rest = refl
  other_by (of x y r') M N z al b b' r np rest = ap (λ (t : Bool). cond t (factors_apart b b' x y) rest) (ne_eqb r r' ne)
    where
      ne : r ≢ r'
      ne e = np (inl (inl (ap (λ (w : ℕ). get_or (set N.marks r' masked) w 0) e ∙ get_or-set_same N.marks r' masked 0 (omega (arith, al.r_low, z.marks)))))

  -- the masks made now are those that were reckoned with
  fit_by : (m : Masking) (M : Marks) → Maskable m M → (b b' : Book) (rest : ℕ → Gaps)
      → ((r : ℕ) → r < row_count_of → (Past M r → ⊥) → reckoned_by m b b' r (rest r) ≡ T.Δ r) → FitBy T m b b'
  fit_by none M al b b' rest h = tt
  fit_by (of x y r') M al b b' rest h = (ap (λ (g : Gaps). g.factor_a_is) now, ap (λ (g : Gaps). g.factor_b_is) now)
    where
      young : Past M r' → ⊥
      young (inl (inl five)) = omega (arith, al.first)
      young (inl (inr seven)) = omega (arith, al.first)
      young (inr six) = omega (arith, al.first)

      now : factors_apart b b' x y ≡ T.Δ r'
      now = sym (ap (λ (t : Bool). cond t (factors_apart b b' x y) (rest r')) (eq-eqb r' r' refl)) ∙ h r' (omega (arith, al.r_low)) young

  other_all : (todo : List Act) (M : Marks) (b b' : Book) → Sized M → AllowedAll todo M → (r : ℕ) → (Past (marks_all todo M) r → ⊥) → (rest : Gaps)
      → reckoned_all T.u T.u' todo b b' r rest ≡ rest
  other_all [] M b b' z al r np rest = refl
  other_all (a ∷ todo) M b b' z al r np rest =
      other_by (masking a) M (mark_all_of (marks_of a) M) (sized_marks (marks_of a) M z) al.0.1 b b' r
      (λ past. np (past_stays T.plan T.d todo (marks_by a M) (sized_by a M z) al.1 r past)) _
      ∙ other_all todo (marks_by a M) (entered_by T.u a b) (entered_by T.u' a b') (sized_by a M z) al.1 r np rest

  fit_all : (todo : List Act) (M : Marks) (b b' : Book) → Sized M → AllowedAll todo M → (rest : ℕ → Gaps)
      → ((r : ℕ) → r < row_count_of → (Past M r → ⊥) → reckoned_all T.u T.u' todo b b' r (rest r) ≡ T.Δ r) → FitAll T todo b b'
  fit_all [] M b b' z al rest h = tt
  fit_all (a ∷ todo) M b b' z al rest h = (
    fit_by (masking a) M al.0.1 b b' (λ r. reckoned_all T.u T.u' todo (entered_by T.u a b) (entered_by T.u' a b') r (rest r)) h,
    fit_all todo (marks_by a M) (entered_by T.u a b) (entered_by T.u' a b') (sized_by a M z) al.1 rest
        (λ r lr np.
        sym (other_by (masking a) M (mark_all_of (marks_of a) M) (sized_marks (marks_of a) M z) al.0.1 b b' r np _)
        ∙ h r lr (λ past. np (past_by T.plan T.d a M z al.0 r past))),
  )

  module _ (m : Moments) (R : Pair T m) where
    open m use {marks as M, vec, vec', book as b, book' as b', lines, posts as q, posts' as q'}

    here_other : (c : Step) → Allowed (acts c) (sends c) M → (r : ℕ) → r < row_count_of → (Past (marks_all (acts c) M) r → ⊥) → (rest : Gaps)
        → reckoned_here T.u T.u' c 0 b b' r rest ≡ rest
    here_other c al r lr np rest = other_all (acts c) M b b' R.one.sized al.moving r np rest

    fit_of : (c : Step) → Allowed (acts c) (sends c) M → (rest : ℕ → Gaps)
        → ((r : ℕ) → r < row_count_of → (Past M r → ⊥) → reckoned_here T.u T.u' c 0 b b' r (rest r) ≡ T.Δ r) → Fit T m R c
    fit_of c al rest h = fit_all (acts c) M b b' R.one.sized al.moving rest h

  -- ---- the whole list

  -- the masks to come are those that were reckoned with
  abbrev pub Foreseen : List Step → Marks → List Entry → Book → Book → Type 0
  Foreseen cs M es b b' = (r : ℕ) → r < row_count_of → (Past M r → ⊥) → reckoned T.u T.u' cs es b b' r ≡ T.Δ r

  -- what the two runs show from here on
  abbrev pub shown_one : List Step → Moments → List Entry
  shown_one cs m = run T.plan T.group T.d T.u cs m.lines m.posts

  abbrev pub shown_two : List Step → Moments → List Entry
  shown_two cs m = run T.plan T.group T.d' T.u' cs m.lines m.posts'

  -- the two runs to the end: the same entries, and side by side after them
  pub record Ended (cs : List Step) (m : Moments) : Type 0 where
    pub entries : shown_one cs m ≡ shown_two cs m
    pub end : Moments
    pub pair : Pair T end
    pub book_is : end.book ≡ book_after T.u cs (shown_one cs m) m.book
    pub book_is' : end.book' ≡ book_after T.u' cs (shown_one cs m) m.book'
    pub posts_are : end.posts ≡ posts_after T.plan T.d T.u cs m.lines m.posts
    pub posts_are' : end.posts' ≡ posts_after T.plan T.d' T.u' cs m.lines m.posts'

  pub runs : (cs : List Step) (m : Moments) → Pair T m → SameAnswers (shown_one cs m) → Rules T.plan cs (shown_one cs m) m.lines
      → Agree T.u T.u' cs (shown_one cs m) m.book m.book' → Foreseen cs m.marks (shown_one cs m) m.book m.book' → Ended cs m
  unfolding run entry_of reckoned outcome posts_after book_after
  runs [] m R same rules agree fore =
      record { entries = refl; end = m; pair = R; book_is = refl; book_is' = refl; posts_are = refl; posts_are' = refl }
  runs (c ∷ cs) m R same rules agree fore =
      go (refusal_of e) refl (λ N v v' x x' Q. runs cs (next N v v' x x') Q same.1)
    where
      b : Book
      b = m.book

      b' : Book
      b' = m.book'

      lines : List (List ℕ)
      lines = m.lines

      q : ℕ → Post
      q = m.posts

      q' : ℕ → Post
      q' = m.posts'

      e : Entry
      e = entry_of T.plan T.group T.d T.u lines c q

      -- the moment after the call, but for what the call makes of marks, vectors and books
      next : Marks → (ℕ → Vector) → (ℕ → Vector) → Book → Book → Moments
      next N v v' x x' =
          record {
            marks = N;
            vec = v;
            vec' = v';
            book = x;
            book' = x';
            lines = lines ++ lines_of T.plan T.d T.u lines c q;
            posts = λ i. after (done_at T.plan T.d T.u lines c q i);
            posts' = λ i. after (done_at T.plan T.d' T.u' lines c q' i);
          }

      es : List Entry
      es =
          run T.plan T.group T.d T.u cs (lines ++ lines_of T.plan T.d T.u lines c q)
          (λ i. after (done_at T.plan T.d T.u lines c q i))

      -- every post gives the refusal that the record has for the call
      answers : (i : ℕ) → 1 ≤ i → i ≤ T.plan.n → Outcomes.refusal_of (c1 lines i c) (q i) ≡ refusal_of e
      answers i lo hi =
          sym (refusal_is (c1 lines i c) (q i))
          ∙ same_refusal (λ i. (done_at T.plan T.d T.u lines c q i).answer.refusal) T.plan.n same.0 i lo hi

      -- every post answers with k
      Answered : ℕ → Type 0
      Answered k = (i : ℕ) → 1 ≤ i → i ≤ T.plan.n → Outcomes.refusal_of (c1 lines i c) (q i) ≡ k

      entry_same : (k : ℕ) → Answered k → Rule T.plan c k lines → Agrees c k b b' → (k ≡ 0 → Fit T m R c)
          → entry_of T.plan T.group T.d T.u lines c q ≡ entry_of T.plan T.group T.d' T.u' lines c q'
      entry_same k z rule ag fit =
          let same_here = same_at T m R c k z rule ag fit in
          let refusals : map (λ i. (done_at T.plan T.d T.u lines c q i).answer.refusal) (posts T.plan.n)
          ≡ map (λ i. (done_at T.plan T.d' T.u' lines c q' i).answer.refusal) (posts T.plan.n) =
          posts_same _ _ T.plan.n (λ i lo hi. (same_here i lo hi).refusal) in
          let values : map (λ i. (done_at T.plan T.d T.u lines c q i).answer.value) (posts T.plan.n)
          ≡ map (λ i. (done_at T.plan T.d' T.u' lines c q' i).answer.value) (posts T.plan.n) =
          posts_same _ _ T.plan.n (λ i lo hi. (same_here i lo hi).value) in
          let said = lines_two T m R c k z rule ag fit in
          let rows : map (λ i. (done_at T.plan T.d T.u lines c q i).rows) T.group
          ≡ map (λ i. (done_at T.plan T.d' T.u' lines c q' i).rows) T.group =
          rows_all (done_at T.plan T.d T.u lines c q) (done_at T.plan T.d' T.u' lines c q') T.group
          (group_two T m R c k z rule ag fit) in
          λ j. record { refusals = refusals j; values = values j; lines = said j; rows = rows j }

      joinup : (k : ℕ) → Answered k → Rule T.plan c k lines → Agrees c k b b' → (k ≡ 0 → Fit T m R c)
          → (N : Marks) (v v' : ℕ → Vector) (x x' : Book) → x ≡ booked T.u c (refusal_of e) b → x' ≡ booked T.u' c (refusal_of e) b'
          → Ended cs (next N v v' x x') → Ended (c ∷ cs) m
      joinup k z rule ag fit N v v' x x' ex ex' ih =
          let said = lines_two T m R c k z rule ag fit in
          record {
            entries = ap₂ ◌∷◌ (entry_same k z rule ag fit)
                (ih.entries
                ∙ ap (λ (w : List (List ℕ)). run T.plan T.group T.d' T.u' cs (lines ++ w) (λ i. after (done_at T.plan T.d' T.u' lines c q' i))) said);
            end = ih.end;
            pair = ih.pair;
            book_is = ih.book_is ∙ ap (book_after T.u cs es) ex;
            book_is' = ih.book_is' ∙ ap (book_after T.u' cs es) ex';
            posts_are = ih.posts_are;
            posts_are' = ih.posts_are'
                ∙ ap (λ (w : List (List ℕ)). posts_after T.plan T.d' T.u' cs (lines ++ w) (λ i. after (done_at T.plan T.d' T.u' lines c q' i))) said;
          }

      go : (k : ℕ) → refusal_of e ≡ k
          → ((N : Marks) (v v' : ℕ → Vector) (x x' : Book) → Pair T (next N v v' x x')
          → Rules T.plan cs es (lines ++ lines_of T.plan T.d T.u lines c q) → Agree T.u T.u' cs es x x' → Foreseen cs N es x x'
          → Ended cs (next N v v' x x'))
          → Ended (c ∷ cs) m
      go zero ek ih =
          joinup 0 z rule ag (λ g. fit) _ _ _ _ _ (ap (λ (k : ℕ). booked T.u c k b) (sym ek)) (ap (λ (k : ℕ). booked T.u' c k b') (sym ek))
          (ih _ _ _ _ _ (live T m R c z rule ag fit) rules.1
          (subst (λ (k : ℕ). Agree T.u T.u' cs es (booked T.u c k b) (booked T.u' c k b')) ek agree.1)
          (λ r lr np. sym (here_other m R c al r lr np _) ∙ now r lr (λ past. np (past_stays T.plan T.d (acts c) m.marks R.one.sized al.moving r past))))
        where
          z : (i : ℕ) → 1 ≤ i → i ≤ T.plan.n → Outcomes.refusal_of (c1 lines i c) (q i) ≡ 0
          z i lo hi = answers i lo hi ∙ ek

          rule : Rule T.plan c 0 lines
          rule = subst (λ (k : ℕ). Rule T.plan c k lines) ek rules.0

          ag : Agrees c 0 b b'
          ag = subst (λ (k : ℕ). Agrees c k b b') ek agree.0

          al : Allowed (acts c) (sends c) m.marks
          al =
              allowed_at (run_one T) (moment_one m) R.one c z 1 (omega arith) (omega (arith, (sizes T.plan T.sound).n_low))

          now : (r : ℕ) → r < row_count_of → (Past m.marks r → ⊥)
              → reckoned_here T.u T.u' c 0 b b' r (reckoned T.u T.u' cs es (entered T.u c b) (entered T.u' c b') r) ≡ T.Δ r
          now r lr np =
              subst (λ (k : ℕ). reckoned_here T.u T.u' c k b b' r (reckoned T.u T.u' cs es (booked T.u c k b) (booked T.u' c k b') r) ≡ T.Δ r) ek
              (fore r lr np)

          fit : Fit T m R c
          fit = fit_of m R c al (reckoned T.u T.u' cs es (entered T.u c b) (entered T.u' c b')) now
      go (suc k) ek ih =
          joinup (suc k) z rule ag (λ g. absurd (omega arith)) _ _ _ _ _ (ap (λ (j : ℕ). booked T.u c j b) (sym ek))
          (ap (λ (j : ℕ). booked T.u' c j b') (sym ek))
          (ih _ _ _ _ _ (idle T m R c k z rule ag) rules.1
          (subst (λ (j : ℕ). Agree T.u T.u' cs es (booked T.u c j b) (booked T.u' c j b')) ek agree.1)
          (λ r lr np.
          subst (λ (j : ℕ). reckoned_here T.u T.u' c j b b' r (reckoned T.u T.u' cs es (booked T.u c j b) (booked T.u' c j b') r) ≡ T.Δ r) ek (fore r lr np)))
        where
          z : (i : ℕ) → 1 ≤ i → i ≤ T.plan.n → Outcomes.refusal_of (c1 lines i c) (q i) ≡ suc k
          z i lo hi = answers i lo hi ∙ ek

          rule : Rule T.plan c (suc k) lines
          rule = subst (λ (j : ℕ). Rule T.plan c j lines) ek rules.0

          ag : Agrees c (suc k) b b'
          ag = subst (λ (j : ℕ). Agrees c j b b') ek agree.0
