-- What posts have broadcast: each line is an opening message or masks, and its numbers are those of the ledger's vectors. That
-- never ages.
use Prim.Native.Nat.{ℕ, zero, suc, ◌+◌, ◌*◌, ◌≤◌, ◌<◌}
use mathlib.Core.Path.{◌≡◌, refl, sym, ◌∙◌, ap, ap₂, subst}
use mathlib.Core.Logic.{◌⊎◌, inl, inr}
use mathlib.Core.List.{List, [], ◌∷◌, ◌++◌, map, append_assoc}
use native.Mathlib.Omega.{arith}
use lib.ListN.{length, get_or, drop, length-append}
use lib.Seq.{get_or_at}
use Rattle.poly.specs.Counting.{All, Elements}
use Rattle.shape.specs.Bounds.{row_count_of, last_row_at}
use Rattle.shape.specs.Marks.{held, unused}
use Rattle.shape.specs.Lengths.{v_length}
use Rattle.decimal.specs.Numeral.{tens, leading}
use Rattle.csv_fields.specs.Fields.{fields, written, Parsed, parsed, malformed, fields_at, Small}
use Rattle.csv_fields.proofs.Overwriting.{fields_append}
use Rattle.csv_fields.proofs.Reading.{fields_read}
use Rattle.parts.proofs.Laws.{elements_append}
use Rattle.vectors.specs.Vector.{Vector, numbers}
use Rattle.vectors.proofs.Linear.{length_numbers}
use Rattle.runs.specs.Draws.{Plan, Draw, IsDraw, plan_shape}
use Rattle.runs.specs.Outline.{Act, loads, loads_triple, deals, opens, sums, factors, collects, multiplies, admits, takes, Given, Move, moves, acts_in, Sending, its_opening, its_masks, sends}
use Rattle.runs.specs.Calls.{Post, Actual, Call, perform, sent_if, opening_line, masks_line, line_of, sent_by, broadcast, Among}
use Rattle.runs.proofs.Outlines.{every_all}
use Rattle.runs.proofs.Marks.{mark_of, less, vector_a, vector_b, Masking, none, of, masking}
use Rattle.runs.proofs.Outcomes.{refusal_of, refusal_is}
use Rattle.runs.proofs.Facts.{Sendable, Multiplying, Triple}
use Rattle.runs.proofs.Inside.{all_among}
use Rattle.runs.proofs.Lines.{Opening, Masks, same_opening, same_masks, not_both, numbers_elements}
use Rattle.runs.proofs.Steps.{Says, SaysAll, says}
use Rattle.correctness.specs.Ledger.{Ledger, product, WrittenBy, Written}
use Rattle.correctness.proofs.Meanings.{Is, one}
use Rattle.correctness.proofs.Standing.{Good, stand_of, allowed_at}

-- ---- an O line without numbers is none with some

next_of : Parsed → ℕ
next_of (parsed xs next) = next
next_of malformed = 0

one_byte : (u v w : List ℕ) → length u ≡ length v → u ++ (10 ∷ []) ≡ v ++ (44 ∷ w) → ⊥
one_byte u v w e h =
    let z : ◌≡◌ {A = ℕ} 10 44 = sym (get_or_at u 10 [] 0 (length u) refl) ∙ ap (λ (l : List ℕ). get_or l (length u) 0) h ∙ get_or_at v 44 w 0 (length u) (sym e) in
    omega arith

module _ (r j r' j' x : ℕ) (xs : List ℕ) (small : Small (r ∷ j ∷ [])) (small' : Small (r' ∷ j' ∷ [])) where
  bare : List ℕ
  bare = written 79 (r ∷ j ∷ [])

  more : List ℕ
  more = fields (x ∷ xs) ++ (10 ∷ [])

  whole : List ℕ
  whole = written 79 (r' ∷ j' ∷ x ∷ xs)

  pub not_bare : opening_line r j [] ≡ opening_line r' j' (x ∷ xs) → ⊥
  unfolding fields leading bare more whole next_of
  not_bare e =
      let z : 1 + length (fields (r ∷ j ∷ [])) ≡ 1 + length (fields (r' ∷ j' ∷ [])) = ap next_of (sym reads ∙ ap (λ (s : List ℕ). fields_at 2 s 1) e ∙ reads') in
      one_byte (fields (r ∷ j ∷ [])) (fields (r' ∷ j' ∷ [])) _ (omega arith) (ap (drop 1) e ∙ behind)
    where
      behind : fields (r' ∷ j' ∷ x ∷ xs) ++ (10 ∷ []) ≡ fields (r' ∷ j' ∷ []) ++ more
      behind =
          ap (λ (l : List ℕ). l ++ (10 ∷ [])) (fields_append (r' ∷ j' ∷ []) (x ∷ xs))
          ∙ append_assoc (fields (r' ∷ j' ∷ [])) (fields (x ∷ xs)) (10 ∷ [])

      reads : fields_at 2 bare 1 ≡ parsed (r ∷ j ∷ []) (1 + length (fields (r ∷ j ∷ [])))
      reads = fields_read (r ∷ j ∷ []) bare (10 ∷ []) 1 small refl refl

      reads' : fields_at 2 whole 1 ≡ parsed (r' ∷ j' ∷ []) (1 + length (fields (r' ∷ j' ∷ [])))
      reads' = fields_read (r' ∷ j' ∷ []) whole more 1 small' refl behind

-- ---- lines by the ledger

-- j's masks by the triple at r, of rows with the vectors X and Y
abbrev pub halves : Plan → Draw → ℕ → ℕ → Vector → Vector → List ℕ
halves plan draw r j X Y =
    numbers (v_length (plan_shape plan)) ((less X (vector_a plan draw r)).v j) ++ numbers (v_length (plan_shape plan)) ((less Y (vector_b plan draw r)).v j)

module _ (plan : Plan) (draw : Draw) (L : Ledger) (small : plan.n < tens 10) where
  abbrev k : ℕ
  k = v_length (plan_shape plan)

  module _ (r j : ℕ) (X Y : Vector) where
    first_half : List ℕ
    first_half = numbers k ((less X (vector_a plan draw r)).v j)

    second_half : List ℕ
    second_half = numbers k ((less Y (vector_b plan draw r)).v j)

    halves_many : length (halves plan draw r j X Y) ≡ 2 * k
    unfolding first_half second_half
    halves_many = length-append first_half second_half ∙ omega (arith, length_numbers k ((less X (vector_a plan draw r)).v j), length_numbers k ((less Y (vector_b plan draw r)).v j))

    halves_low : Elements (halves plan draw r j X Y)
    unfolding first_half second_half
    halves_low = elements_append first_half second_half (numbers_elements k _) (numbers_elements k _)

  pub record OpeningSaid (line : List ℕ) : Type 0 where
    pub row : ℕ
    pub post : ℕ
    pub xs : List ℕ
    pub is : line ≡ opening_line row post xs
    pub form : Opening plan.n k small row post xs
    pub X : Vector
    pub meant : Is plan draw L row X
    pub says : xs ≡ numbers k (X.v post)

  pub record MasksSaid (line : List ℕ) : Type 0 where
    pub row : ℕ
    pub post : ℕ
    pub xs : List ℕ
    pub is : line ≡ masks_line row post xs
    pub form : Masks plan.n k small row post xs
    pub a : ℕ
    pub b : ℕ
    pub means : L (row + 2) ≡ product row a b
    pub X : Vector
    pub Y : Vector
    pub meant_a : Is plan draw L a X
    pub meant_b : Is plan draw L b Y
    pub says : xs ≡ halves plan draw row post X Y

  abbrev pub Said : List ℕ → Type 0
  Said line = OpeningSaid line ⊎ MasksSaid line

  module _ (lines : List (List ℕ)) (all : All Said lines) where
    -- an opening message that was broadcast is its sender's of the ledger's vector
    pub told : (r j : ℕ) (xs : List ℕ) → Opening plan.n k small r j xs → Among (opening_line r j xs) lines
        → (X : Vector) → Is plan draw L r X → xs ≡ numbers k (X.v j)
    told r j xs o m X is = elim (all_among Said lines all (opening_line r j xs) m) [
      | inl l ↦
          let e = same_opening plan.n k small r j l.row l.post xs l.xs o l.form l.is in
          e.2 ∙ l.says
          ∙ ap₂ (λ (Z : Vector) (y : ℕ). numbers k (Z.v y)) (one plan draw L l.meant (subst (λ (y : ℕ). Is plan draw L y X) e.0 is)) (sym e.1)
      | inr l ↦ absurd (not_both plan.n k small r j l.row l.post xs l.xs o l.form l.is)
    ]

    -- none has no numbers
    pub never_bare : (r j : ℕ) → r ≤ last_row_at → j ≤ plan.n → Among (opening_line r j []) lines → ⊥
    never_bare r j hr hj m = elim (all_among Said lines all (opening_line r j []) m) [
      | inl l ↦ go l l.xs refl
      | inr l ↦ let z : ◌≡◌ {A = ℕ} 79 77 = ap (λ (s : List ℕ). get_or s 0 0) l.is in omega arith
    ]
      where
        few : r < tens 10
        few = omega arith

        go : (l : OpeningSaid (opening_line r j [])) (xs : List ℕ) → l.xs ≡ xs → ⊥
        go l [] e = omega (arith, l.form.many, ap length e)
        go l (x ∷ xs) e =
            not_bare r j l.row l.post x xs (few, (omega arith, tt)) (omega (arith, l.form.row), (omega (arith, l.form.post.1), tt))
            (l.is ∙ ap (opening_line l.row l.post) e)

    -- masks that were broadcast are their sender's of the ledger's vectors
    pub told_masks : (r j : ℕ) (both : List ℕ) → Masks plan.n k small r j both → Among (masks_line r j both) lines
        → (a b : ℕ) → L (r + 2) ≡ product r a b → (X Y : Vector) → Is plan draw L a X → Is plan draw L b Y → both ≡ halves plan draw r j X Y
    told_masks r j both o m a b me X Y ia ib = elim (all_among Said lines all (masks_line r j both) m) [
      | inl l ↦ absurd (not_both plan.n k small l.row l.post r j l.xs both l.form o (sym l.is))
      | inr l ↦
          let e = same_masks plan.n k small r j l.row l.post both l.xs o l.form l.is in
          let means : L (r + 2) ≡ product r l.a l.b = subst (λ (y : ℕ). L (y + 2) ≡ product y l.a l.b) (sym e.0) l.means in
          let ga : l.a ≡ a = cc in let gb : l.b ≡ b = cc in
          e.2 ∙ l.says
          ∙ ap₂ (λ (y z : ℕ). halves plan draw y z l.X l.Y) (sym e.0) (sym e.1)
          ∙ ap₂ (halves plan draw r j) (one plan draw L (subst (λ (y : ℕ). Is plan draw L y l.X) ga l.meant_a) ia)
          (one plan draw L (subst (λ (y : ℕ). Is plan draw L y l.Y) gb l.meant_b) ib)
    ]

  -- ---- what one call broadcasts

  module _ (is : IsDraw plan draw) (len i : ℕ) (lo : 1 ≤ i) (hi : i ≤ plan.n) (q : Post) (g : Good plan draw L len i q) where
    once : (P : List ℕ → Type 0) (refusal : ℕ) (line : List ℕ) (lines : List (List ℕ)) → (refusal ≡ 0 → P line) → All P lines
        → All P (sent_if refusal line lines)
    once P zero line lines f a = (f refl, a)
    once P (suc n) line lines f a = a

    new_opening : (r : ℕ) (xs : List ℕ) → (r < row_count_of) × (mark_of g.marks r ≡ held) → xs ≡ numbers k ((g.vec r).v i) → OpeningSaid (opening_line r i xs)
    new_opening r xs ok says = record {
      row = r;
      post = i;
      xs = xs;
      is = refl;
      form = record {
        row = omega (arith, ok.0);
        post = (lo, hi);
        many = ap length says ∙ length_numbers k ((g.vec r).v i);
        low = rw says (numbers_elements k ((g.vec r).v i));
      };
      X = g.vec r;
      meant = (g.facts r ok.0).held ok.1;
      says = says;
    }

    new_masks : (a b r : ℕ) (xs : List ℕ) → Multiplying unused g.marks a b r
        → xs ≡ numbers k ((less (g.vec a) (g.vec r)).v i) ++ numbers k ((less (g.vec b) (g.vec (r + 1))).v i) → L (r + 2) ≡ product r a b
        → MasksSaid (masks_line r i xs)
    new_masks a b r xs ok said means = record {
      row = r;
      post = i;
      xs = xs;
      is = refl;
      form = record {
        row = omega (arith, ok.r_low);
        post = (lo, hi);
        many = ap length says ∙ halves_many r i (g.vec a) (g.vec b);
        low = rw says (halves_low r i (g.vec a) (g.vec b));
      };
      a = a;
      b = b;
      means = means;
      X = g.vec a;
      Y = g.vec b;
      meant_a = (g.facts a ok.a_low).held ok.a_held;
      meant_b = (g.facts b ok.b_low).held ok.b_held;
      says = says;
    }
      where
        t : Triple plan draw g.marks g.vec r
        t = (g.facts r (omega (arith, ok.r_low))).triple (inl ok.first)

        says : xs ≡ halves plan draw r i (g.vec a) (g.vec b)
        says =
            said
            ∙ ap₂ (λ (X Y : Vector). numbers k ((less (g.vec a) X).v i) ++ numbers k ((less (g.vec b) Y).v i)) t.is_a t.is_b

    abbrev Wrote : Move Actual → Type 0
    Wrote m = WrittenBy draw L m.0 m.1

    -- masks that the call makes are in the ledger
    abbrev Noted : Masking → Type 0
    Noted none = Unit {0}
    Noted (of a b r) = L (r + 2) ≡ product r a b

    noted : (a : Act) (x : Given Actual (takes a)) → WrittenBy draw L a x → Noted (masking a)
    noted (loads r) x w = tt
    noted (loads_triple r) x w = tt
    noted (deals r) x w = tt
    noted (opens r) x w = tt
    noted (sums r t ts) x w = tt
    noted (factors a b r) x w = w
    noted (collects r) x w = tt
    noted (multiplies r) x w = tt
    noted (admits line) x w = tt

    all_noted : (ms : List (Move Actual)) → All Wrote ms → All Noted (map masking (acts_in Actual ms))
    all_noted [] w = tt
    all_noted (m ∷ ms) w = (noted m.0 m.1 w.0, all_noted ms w.1)

    said_one : (ms : List (Move Actual)) (s : Sending) (xs : List ℕ) → Sendable (acts_in Actual ms) g.marks s → Says plan draw i g.vec s xs
        → All Wrote ms → Said (line_of i s xs)
    said_one ms (its_opening r) xs ok says w = inl (new_opening r xs ok says)
    said_one ms (its_masks a b r) xs ok says w =
        inr (new_masks a b r xs ok.0 says (all_among Noted (map masking (acts_in Actual ms)) (all_noted ms w) (of a b r) ok.1))

    said_by_lem : (ms : List (Move Actual)) (ss : List Sending) (k : ℕ) (parts : List (List ℕ))
        → (k ≡ 0 → All (Sendable (acts_in Actual ms) g.marks) ss × SaysAll plan draw i g.vec ss parts × All Wrote ms)
        → All Said (sent_by i k ss parts)
    said_by_lem ms [] k parts f = tt
    said_by_lem ms (s ∷ ss) k [] f = tt
    said_by_lem ms (s ∷ ss) k (xs ∷ parts) f =
        once Said k (line_of i s xs) (sent_by i k ss parts) (λ z. let h = f z in said_one ms s xs h.0.0 h.1.0 h.2)
        (said_by_lem ms ss k parts (λ z. let h = f z in (h.0.1, h.1.1, h.2)))

    pub new_said : (c : Call) → (refusal_of c q ≡ 0 → Written draw L c) → All Said (broadcast i c (perform c q))
    new_said c w =
        said_by_lem (moves c) (sends c) (perform c q).answer.refusal (perform c q).lent (λ e.
        let z = sym (refusal_is c q) ∙ e in (
          (allowed_at plan draw L len i q g c z).sending,
          says (stand_of plan draw L is len i hi q g) c z,
          every_all Wrote (moves c) (w z),
        ))
