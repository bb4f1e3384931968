-- One post that stands by the ledger: what its openings give, and that it accepts what is true, for every record that 5 and 8
-- let pass.
use Prim.Native.Nat.{ℕ, ◌≤◌, ◌<◌}
use mathlib.Core.Path.{◌≡◌, refl, sym, ◌∙◌, ap, subst}
use mathlib.Core.Bool.{Bool, true, false, cond, true≢false}
use mathlib.Core.Logic.{◌≢◌, ◌⊎◌, inl, inr}
use mathlib.Core.List.{List}
use native.Mathlib.Decide.{ℕ_discrete}
use native.Mathlib.Omega.{arith}
use lib.ListN.{take, drop}
use Rattle.shape.specs.Bounds.{row_count_of, last_row_at}
use Rattle.shape.specs.Marks.{held, masked}
use Rattle.shape.specs.Lengths.{needed, v_length}
use Rattle.refusal.specs.Refusal.{first}
use Rattle.session.specs.declared.Session.{Session}
use Rattle.session.specs.declared.Answer.{Answer}
use Rattle.session.specs.Sessions.{holding, shape_of, opened_a_of, opened_b_of}
use Rattle.opening.specs.Walking.{sent, accepts, too_few_of, disagree}
use Rattle.opening.specs.Opening.{open_checks_of, open_answer}
use Rattle.opening.proofs.Theorems.{open_nine, open_thirteen, open_number_lem}
use Rattle.collect.specs.Collect as Collect
use Rattle.vectors.specs.Vector.{Vector, number, numbers}
use Rattle.vectors.specs.Claims.{held_row, Truly}
use Rattle.vectors.proofs.HeldRows.{true_accepted}
use Rattle.vectors.proofs.Theorems.{opening_exact}
use Rattle.runs.specs.Draws.{Plan, Draw, plan_shape}
use Rattle.runs.specs.Calls.{Proper, Post}
use Rattle.runs.proofs.Marks.{mark_of, remembered_a, remembered_b, less, vector_a, mask_vector_a, mask_vector_b, Masked}
use Rattle.runs.proofs.Finishing.{Trusted, opens_a, opens_b, opened_is}
use Rattle.runs.proofs.Records.{own_true}
use Rattle.runs.proofs.Start.{sizes}
use Rattle.correctness.specs.History.{World}
use Rattle.correctness.specs.Ledger.{Ledger, Plain, MaskNumbers}
use Rattle.correctness.specs.Truth.{TrueMask, EnoughTrue}
use Rattle.correctness.specs.Claim.{how_many, Opens, Done, Remembers, Collects, Right}
use Rattle.correctness.proofs.Meanings.{Is, plain, mask_numbers_is}
use Rattle.correctness.proofs.Accepting.{Formed, too_few, not_few, formed}
use Rattle.correctness.proofs.Fitting.{all_true_of, enough_true_of, AllSaid, told_a, told_b}
use Rattle.correctness.proofs.Permitted as Permitted
use Rattle.correctness.proofs.Permitted.{Stander, holder, below, is_row, open_passes, waiting, multiply_done}
use Rattle.correctness.proofs.Permitted.{collect_few, collect_done, collect_recalls, collect_thirteen, collect_otherwise}
use Rattle.correctness.proofs.Halves.{all_agree_is, all_trusted, trusted, many}

-- what a truth of polynomials must give, to be used in an opening
abbrev pub Reliable : Plan → Draw → Ledger → (ℕ → ℕ → List ℕ → Type 0) → Type 0
Reliable plan draw L P =
    (r j : ℕ) (xs : List ℕ) → r ≤ last_row_at → 1 ≤ j → j ≤ plan.n → Formed (v_length (plan_shape plan)) xs → P r j xs
    → (X : Vector) → Is plan draw L r X → xs ≡ numbers (v_length (plan_shape plan)) (X.v j)

module _ (G : Stander) where
  open G use {plan, draw, ledger as L, is_draw as is, post as i, marks as M, vec, rows as l, known as f}

  abbrev s : Session
  s = Permitted.s G

  abbrev q : Post
  q = Permitted.q G

  abbrev row : ℕ → List ℕ
  row = Permitted.row G

  -- ---- a true polynomial is accepted

  -- of a row that is the post's part of S
  true_taken : (x : List ℕ) (S : Vector) → x ≡ held_row s S → (blocks : List ℕ) (j : ℕ) → 1 ≤ j → j ≤ plan.n
      → (j ≢ i → sent s x blocks j ≡ numbers (v_length (plan_shape plan)) (S.v j)) → accepts s x blocks j ≡ true
  true_taken x S e blocks j lj hj truly =
      ap (λ (y : List ℕ). accepts s y blocks j) e ∙ true_accepted s S blocks j lj hj (go (ℕ_discrete j i))
    where
      go : Dec (j ≡ i) → Truly s S blocks j
      go (yes g) = subst (Truly s S blocks) (sym g) (own_true s blocks S)
      go (no g) = sym (ap (λ (y : List ℕ). sent s y blocks j) e) ∙ truly g

  module _ (r : ℕ) (five : mark_of M r ≡ masked) where
    pub mask_a_is : Collect.mask_a s l r ≡ held_row s (mask_vector_a M vec r)
    mask_a_is = opens_a (holder G) r (waiting G r five)

    pub mask_b_is : Collect.mask_b s l r ≡ held_row s (mask_vector_b M vec r)
    mask_b_is = opens_b (holder G) r (waiting G r five)

  -- y and y' by the ledger, of a triple whose masks were made; and a session that has them
  module _ (r : ℕ) (low : r < row_count_of) (m : Masked (mark_of M r)) where
    mask_numbers_are : MaskNumbers plan draw L r (number (mask_vector_a M vec r)).0 (number (mask_vector_b M vec r)).0
    mask_numbers_are =
        let w = (f r low).waiting m in
        let t = (f r low).triple (inr m) in
        subst (λ (A : Vector). MaskNumbers plan draw L r (number (less (vec (remembered_a M r)) A)).0 (number (mask_vector_b M vec r)).0) (sym t.is_a)
        (subst (λ (B : Vector). MaskNumbers plan draw L r (number (less (vec (remembered_a M r)) (vector_a plan draw r))).0 (number (less (vec (remembered_b M r)) B)).0) (sym t.is_b)
        (mask_numbers_is plan draw L is w.means ((f (remembered_a M r) w.a_low).held w.a_held) ((f (remembered_b M r) w.b_low).held w.b_held)))

    pub remembered : (s' : Session) → opened_a_of s' r ≡ (number (mask_vector_a M vec r)).0 → opened_b_of s' r ≡ (number (mask_vector_b M vec r)).0
        → Remembers plan draw L s' r
    remembered s' ea eb =
        subst (λ (y : ℕ). MaskNumbers plan draw L r y (opened_b_of s' r)) (sym ea)
        (subst (MaskNumbers plan draw L r (number (mask_vector_a M vec r)).0) (sym eb) mask_numbers_are)

  module _ (P : ℕ → ℕ → List ℕ → Type 0) (truth : Reliable plan draw L P) where
    sent_is : (r : ℕ) (blocks : List ℕ) (j : ℕ) → mark_of M r ≡ held → Proper s blocks → 1 ≤ j → j ≤ plan.n → j ≢ i
        → P r j (sent s (row r) blocks j) → sent s (row r) blocks j ≡ numbers (v_length (plan_shape plan)) ((vec r).v j)
    sent_is r blocks j two pr lj hj ne x =
        truth r j (sent s (row r) blocks j) (omega (arith, below G r two)) lj hj (formed s (row r) blocks pr j lj hj ne) x (vec r)
        ((f r (below G r two)).held two)

    opens : (r : ℕ) (blocks : List ℕ) → mark_of M r ≡ held → Proper s blocks → Opens L (P r) q r blocks
    opens r blocks two pr = record {
      few = λ e. ap (λ (o : Answer). o.refusal) (open_nine s l r blocks clear (too_few s (row r) blocks e));
      exact = λ e t.
          number_given ((opening_exact s (vec r) l r blocks clear is_held).1 (enough e) (all_true_of s (vec r) blocks (P r) (row r) is_held gives t));
      agreed = λ t. elim ((opening_exact s (vec r) l r blocks clear is_held).2 (enough_true_of s (vec r) blocks (P r) (row r) is_held gives t)) [
        | inl o ↦ inl (number_given o)
        | inr o ↦ inr (ap (λ (o : Answer). o.refusal) o)
      ];
      otherwise = λ e. either (disagree s (row r) blocks) _ (answers e (disagree s (row r) blocks) refl);
      thirteen = λ e. exactly (disagree s (row r) blocks) _ (answers e (disagree s (row r) blocks) refl);
    }
      where
        clear : first (open_checks_of s l r blocks) ≡ 0
        clear = open_passes G r blocks two pr

        is_held : row r ≡ held_row s (vec r)
        is_held = is_row G r two

        gives : (j : ℕ) → 1 ≤ j → j ≤ plan.n → j ≢ i → P r j (sent s (row r) blocks j) → sent s (row r) blocks j ≡ numbers (v_length (plan_shape plan)) ((vec r).v j)
        gives j lj hj ne x = sent_is r blocks j two pr lj hj ne x

        enough : needed (shape_of s) ≤ how_many s (row r) blocks → too_few_of s (held_row s (vec r)) blocks ≡ false
        enough e = sym (ap (λ (x : List ℕ). too_few_of s x blocks) is_held) ∙ not_few s (row r) blocks e

        number_given : {o : Answer} → o ≡ holding 0 (number (vec r)).0 s → (o.refusal ≡ 0) × Plain L r o.value
        number_given e = (
          ap (λ (o : Answer). o.refusal) e,
          subst (Plain L r) (sym (ap (λ (o : Answer). o.value) e)) (plain plan draw L is ((f r (below G r two)).held two)),
        )

        -- with enough accepted, the refusal goes by whether a share is off
        answers : needed (shape_of s) ≤ how_many s (row r) blocks → (off : Bool) → disagree s (row r) blocks ≡ off
            → (open_answer s l r blocks).refusal ≡ cond off 13 0
        answers e true z = ap (λ (o : Answer). o.refusal) (open_thirteen s l r blocks clear (not_few s (row r) blocks e) z)
        answers e false z = ap (λ (o : Answer). o.refusal) (open_number_lem s l r blocks clear (not_few s (row r) blocks e) z)

        either : (off : Bool) (k : ℕ) → k ≡ cond off 13 0 → (k ≡ 0) ⊎ (k ≡ 13)
        either true k e = inr e
        either false k e = inl e

        exactly : (off : Bool) (k : ℕ) → k ≡ cond off 13 0 → (off ≡ true → k ≡ 13) × (k ≡ 13 → off ≡ true)
        exactly true k e = ((λ y. e), (λ y. refl))
        exactly false k e = ((λ y. absurd (true≢false (sym y))), (λ y. absurd (omega (arith, e, y))))

    accepts_true : (r : ℕ) (blocks : List ℕ) (j : ℕ) → mark_of M r ≡ held → Proper s blocks → 1 ≤ j → j ≤ plan.n
        → (j ≢ i → P r j (sent s (row r) blocks j)) → accepts s (row r) blocks j ≡ true
    accepts_true r blocks j two pr lj hj x =
        true_taken (row r) (vec r) (is_row G r two) blocks j lj hj (λ ne. sent_is r blocks j two pr lj hj ne (x ne))

    -- ---- what posts told of masks

    module _ (S : ℕ → Type 0) (w : World) (all : AllSaid plan draw L G.sound is S w) where
      module _ (r : ℕ) (five : mark_of M r ≡ masked) where
        abbrev Half : (List ℕ → List ℕ) → ℕ → List ℕ → Type 0
        Half half = TrueMask S w (plan_shape plan) half r

        said_a : (j : ℕ) → 1 ≤ j → j ≤ plan.n → (xs : List ℕ) → Half (take (v_length (plan_shape plan))) j xs → xs ≡ numbers (v_length (plan_shape plan)) ((mask_vector_a M vec r).v j)
        said_a = told_a plan draw L G.sound is S w all M vec f r (waiting G r five)

        said_b : (j : ℕ) → 1 ≤ j → j ≤ plan.n → (xs : List ℕ) → Half (drop (v_length (plan_shape plan))) j xs → xs ≡ numbers (v_length (plan_shape plan)) ((mask_vector_b M vec r).v j)
        said_b = told_b plan draw L G.sound is S w all M vec f r (waiting G r five)

        -- where t+1 of them are true and no share is off, it is done, and y and y' are remembered
        both_opened : (blocks_a blocks_b : List ℕ) → Proper s blocks_a → Proper s blocks_b → needed (shape_of s) ≤ how_many s (Collect.mask_a s l r) blocks_a
            → needed (shape_of s) ≤ how_many s (Collect.mask_b s l r) blocks_b → disagree s (Collect.mask_a s l r) blocks_a ≡ false
            → disagree s (Collect.mask_b s l r) blocks_b ≡ false → Trusted s (mask_vector_a M vec r) blocks_a → Trusted s (mask_vector_b M vec r) blocks_b
            → Done q r blocks_a blocks_b × Remembers plan draw L (Collect.collect_answer s l r blocks_a blocks_b).session r
        both_opened blocks_a blocks_b pr pr' e e' on on' t t' =
            let small = (sizes plan G.sound).n_element in
            let back = collect_recalls G r blocks_a blocks_b five pr pr' e e' on on' in
            let y = opened_is (holder G) small (Collect.mask_a s l r) (mask_vector_a M vec r) blocks_a (mask_a_is r five) t (not_few s _ blocks_a e) on in
            let y' = opened_is (holder G) small (Collect.mask_b s l r) (mask_vector_b M vec r) blocks_b (mask_b_is r five) t' (not_few s _ blocks_b e') on' in (
              collect_done G r blocks_a blocks_b five pr pr' e e' on on',
              remembered r (below G r five) (inl five) (Collect.collect_answer s l r blocks_a blocks_b).session (back.0 ∙ y) (back.1 ∙ y'),
            )

        abbrev half : List ℕ → List ℕ
        half = take (v_length (plan_shape plan))

        abbrev half' : List ℕ → List ℕ
        half' = drop (v_length (plan_shape plan))

        collects : (blocks_a blocks_b : List ℕ) → Proper s blocks_a → Proper s blocks_b → Collects plan draw L (Half half) (Half half') q r blocks_a blocks_b
        collects blocks_a blocks_b pr pr' = record {
          few = collect_few G r blocks_a blocks_b five pr pr';
          exact = λ e e' t t'.
              both_opened blocks_a blocks_b pr pr' e e' (all_agree_is G S w half r xa XA (mask_a_is r five) said_a blocks_a e t)
              (all_agree_is G S w half' r xb XB (mask_b_is r five) said_b blocks_b e' t')
              (all_trusted G S w half r xa XA (mask_a_is r five) said_a blocks_a t) (all_trusted G S w half' r xb XB (mask_b_is r five) said_b blocks_b t');
          agreed = λ t t'.
              go t t' (many G S w half r xa XA (mask_a_is r five) said_a blocks_a t) (many G S w half' r xb XB (mask_b_is r five) said_b blocks_b t') (disagree s xa blocks_a)
              (disagree s xb blocks_b) refl refl;
          otherwise = collect_otherwise G r blocks_a blocks_b five pr pr';
          thirteen = collect_thirteen G r blocks_a blocks_b five pr pr';
        }
          where
            xa : List ℕ
            xa = Collect.mask_a s l r

            xb : List ℕ
            xb = Collect.mask_b s l r

            XA : Vector
            XA = mask_vector_a M vec r

            XB : Vector
            XB = mask_vector_b M vec r

            go : EnoughTrue (Half half) s xa blocks_a → EnoughTrue (Half half') s xb blocks_b → needed (shape_of s) ≤ how_many s xa blocks_a
                → needed (shape_of s) ≤ how_many s xb blocks_b → (x y : Bool) → disagree s xa blocks_a ≡ x → disagree s xb blocks_b ≡ y
                → (Done q r blocks_a blocks_b × Remembers plan draw L (Collect.collect_answer s l r blocks_a blocks_b).session r)
                ⊎ ((Collect.collect_answer s l r blocks_a blocks_b).refusal ≡ 13)
            go t t' e e' true y ex ey = inr ((collect_thirteen G r blocks_a blocks_b five pr pr' e e').0 (inl ex))
            go t t' e e' false true ex ey = inr ((collect_thirteen G r blocks_a blocks_b five pr pr' e e').0 (inr ey))
            go t t' e e' false false ex ey =
                inl (both_opened blocks_a blocks_b pr pr' e e' ex ey (λ few enough. trusted G S w half r xa XA (mask_a_is r five) said_a blocks_a t)
                (λ few enough. trusted G S w half' r xb XB (mask_b_is r five) said_b blocks_b t'))

      pub right : Right plan draw L P (TrueMask S w (plan_shape plan)) q
      right = record {
        opens = opens;
        accepts_true = accepts_true;
        collects = λ r blocks_a blocks_b five. collects r five blocks_a blocks_b;
        remembers = λ r seven. let k = G.recalls.each r seven in remembered r (below G r seven) (inr seven) s k.is_a k.is_b;
        multiplies = λ r seven. multiply_done G r seven;
        accepts_a = λ r blocks j five pr lj hj x.
            true_taken (Collect.mask_a s l r) (mask_vector_a M vec r) (mask_a_is r five) blocks j lj hj (λ ne. said_a r five j lj hj _ (x ne));
        accepts_b = λ r blocks j five pr lj hj x.
            true_taken (Collect.mask_b s l r) (mask_vector_b M vec r) (mask_b_is r five) blocks j lj hj (λ ne. said_b r five j lj hj _ (x ne));
      }
