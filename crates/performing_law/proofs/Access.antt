-- The `A` line: the library's call on the session and the line, and the table of its refusals.
use Prim.Native.Nat.{ℕ, zero, suc, ◌+◌, ◌≤◌, ◌<◌}
use mathlib.Core.Path.{◌≡◌, refl, ap, ap₂, sym, subst, ◌∙◌}
use mathlib.Core.Bool.{Bool, true, false, not, ◌||◌}
use mathlib.Core.List.{List, [], ◌∷◌, ◌++◌, append_assoc}
use native.Mathlib.Omega.{arith}
use borrow.Author.Tests.{le-ltb, ltb-true, ltb-false}
use lib.Dec.{eqb, ltb}
use lib.ListN.{length, get_or, drop, take-append-drop}
use lib.Seq.{drop_at}
use Rattle.shape.specs.Lengths.{rows_length}
use Rattle.refusal.specs.Refusal.{Test, ◌when◌, first, outcome}
use Rattle.refusal.proofs.Laws.{all_fail, or_false}
use Rattle.decimal.specs.Numeral.{number}
use Rattle.decimal.proofs.Numerals.{number_same}
use Rattle.decimal.specs.Numeral.{tens, size, numeral, field_of, leading}
use Rattle.decimal.proofs.Numerals.{length_numeral, numeral_reads}
use Rattle.csv_fields.specs.Fields.{fields, written, Small, Parsed, parsed, malformed, numbers_of_of}
use Rattle.callers.specs.Sets.{bars}
use Rattle.session.specs.declared.Session.{Session}
use Rattle.session.specs.Sessions.{shape_of, with_barred, answer}
use Rattle.access.specs.Access.{access_fields, bad_access, access_row, access_posts, rising, any_outside, access_refusal, access_sets, access_answer}
use Rattle.access.specs.Claims.{access_text, listed}
use Rattle.access.proofs.Tables.{access_table_lem}
use Rattle.access.proofs.Listed.{set_listed}
use Rattle.access.proofs.Bytes.{access_bytes}
use Rattle.street_store.specs.Sizes.{longest_line}
use Rattle.street_states.specs.declared.State.{State}
use Rattle.street_states.specs.States.{After, session_rows}
use Rattle.street_states.proofs.Calling.{answer_refusal}
use Rattle.street_steps.specs.Stepping.{access_step, letters_step, late_step, step}
use Rattle.performing_law.specs.Claims.{Does, AccessLine}
use Rattle.performing_law.specs.Lines.{TenDigits, refusal_of, own_table, access_table, AccessLetter}
use Rattle.performing_law.specs.Sets.{Admits, StreetAdmits}
use Rattle.performing_law.proofs.Spelling.{small, short, one_text}
use Rattle.performing_law.proofs.Lines.{over}

-- ---- what a line says
-- the three that the tests ask of it
pub record Says (o : Parsed) (row : ℕ) (posts : List ℕ) : Type 0 where
  pub bad : bad_access o ≡ not (rising posts)
  pub row_is : access_row o ≡ row
  pub posts_are : access_posts o ≡ posts

says : (o : Parsed) (row : ℕ) (posts : List ℕ) → numbers_of_of o ≡ row ∷ posts → Says o row posts
says (parsed xs next) row posts e = rw e (record { bad = refl; row_is = refl; posts_are = refl })
says malformed row posts e = let z : ◌≡◌ {A = ℕ} 0 (suc (length posts)) = ap length e in absurd (omega arith)

says_text : (row : ℕ) (posts : List ℕ) → TenDigits (row ∷ posts) → Says (access_fields (access_text row posts)) row posts
says_text row posts h = says _ row posts (access_bytes.read row posts (small (row ∷ posts) h))

-- a row alone does not end with a comma
no_comma : (x y : ℕ) → x < tens 10 → y < tens 10 → numeral x ++ (10 ∷ []) ≡ numeral y ++ (44 ∷ 10 ∷ []) → ⊥
unfolding leading
no_comma x y h g q =
    let f : number x (0 + size x) ≡ number y (0 + size y) =
    sym (numeral_reads x 0 (10 ∷ []) h refl) ∙ ap (λ (l : List ℕ). field_of l 0) q ∙ numeral_reads y 0 (44 ∷ 10 ∷ []) g refl in
    let p : x ≡ y = (number_same x (0 + size x) y (0 + size y) f).0 in
    let r : ◌≡◌ {A = List ℕ} (10 ∷ []) (44 ∷ 10 ∷ []) =
    sym (drop_at (numeral x) (10 ∷ []) (size x) (length_numeral x)) ∙ ap (drop (size x)) q
    ∙ ap (λ (k : ℕ). drop (size k) (numeral y ++ (44 ∷ 10 ∷ []))) p ∙ drop_at (numeral y) (44 ∷ 10 ∷ []) (size y) (length_numeral y) in
    let z : ◌≡◌ {A = ℕ} 10 44 = ap (λ (l : List ℕ). get_or l 0 0) r in
    omega arith

-- `A,row` is not read
one_comma_unread : (row : ℕ) → TenDigits (row ∷ []) → access_fields (written 65 (row ∷ [])) ≡ malformed
unfolding fields
one_comma_unread row h = go (access_fields (written 65 (row ∷ []))) refl
  where
    no : (row' : ℕ) (posts : List ℕ) → Small (row' ∷ posts) → written 65 (row ∷ []) ≡ access_text row' posts → ⊥
    no row' [] s e =
        no_comma row row' h.0 s.0
        (sym (append_assoc (numeral row) [] (10 ∷ [])) ∙ ap (drop 2) e ∙ append_assoc (numeral row') [] (44 ∷ 10 ∷ []))
    no row' (c ∷ cs) s e =
        let q : row ∷ [] ≡ row' ∷ c ∷ cs = one_text (row ∷ []) (row' ∷ c ∷ cs) (small (row ∷ []) h) s (ap (drop 1) e) in
        let z : ◌≡◌ {A = ℕ} 1 (suc (suc (length cs))) = ap length q in omega arith

    go : (o : Parsed) → access_fields (written 65 (row ∷ [])) ≡ o → o ≡ malformed
    go malformed e = refl
    go (parsed xs next) e =
        let w = access_bytes.only (written 65 (row ∷ [])) xs next e in
        let s : Small (w.0 ∷ w.1) = subst Small w.2 w.4 in
        absurd (no w.0 w.1 s w.3)

-- ---- the refusal
module _ (st : State) (store : List ℕ) (started : st.started ≡ true) where
  abbrev own : Session
  own = st.session

  access_is : (rest : List ℕ) → length (65 ∷ rest) ≤ 5252 → step st store (65 ∷ rest) ≡ access_step st store (65 ∷ rest)
  unfolding step late_step letters_step
  access_is rest h = rw (started, le-ltb longest_line (length (65 ∷ rest)) h)

  abbrev Done : List ℕ → After → Type 0
  Done rest a = Does st store (access_answer own (65 ∷ rest)) (session_rows st store) a × (a.store ≡ store)

  access_done : (rest : List ℕ) → Done rest (access_step st store (65 ∷ rest))
  unfolding access_step
  access_done rest = (
    record {
      acts =
          record {
            session = refl;
            started = refl;
            kept = refl;
            triple = refl;
            rows_left = sym (take-append-drop (rows_length (shape_of own)) store);
            refusal = refl;
            value = refl;
          };
      quiet = record { told = refl };
    },
    refl,
  )

  pub access_line : AccessLine st store
  access_line rest h = subst (Done rest) (sym (access_is rest h)) (access_done rest)

  -- the call's tests, in figures, by what the line says
  abbrev tests : Bool → ℕ → List ℕ → List Test
  tests bad row posts =
      own_table st store ++ (10 when bad ∷ 11 when (ltb 95 row || any_outside own.n posts) ∷ 7 when not (eqb (get_or own.marks row 0) 1) ∷ [])

  refusal_is : (rest : List ℕ) → length (65 ∷ rest) ≤ 5252
      → (let o = access_fields (65 ∷ rest) in refusal_of st store (65 ∷ rest) ≡ first (tests (bad_access o) (access_row o) (access_posts o)))
  unfolding access_step access_refusal
  refusal_is rest h =
      ap (λ (a : After). a.given.refusal) (access_is rest h)
      ∙ answer_refusal (access_refusal own (65 ∷ rest)) 0 _ own ∙ ap first (access_table_lem own (65 ∷ rest))

  -- where 1 to 4 do not apply
  unread : first (own_table st store) ≡ 0 → (rest : List ℕ) → length (65 ∷ rest) ≤ 5252 → access_fields (65 ∷ rest) ≡ malformed
      → refusal_of st store (65 ∷ rest) ≡ 10
  unread z rest h e =
      let a = all_fail (own_table st store) tt z in
      let ten : first (tests true 0 []) ≡ 10 = rw (a.0, a.1.0, a.1.1.0, a.1.1.1.0) in
      refusal_is rest h ∙ ap (λ (o : Parsed). first (tests (bad_access o) (access_row o) (access_posts o))) e ∙ ten

  access_refusal_lem : (row : ℕ) (posts : List ℕ) → TenDigits (row ∷ posts) → refusal_of st store (access_text row posts) ≡ first (access_table st store row posts)
  access_refusal_lem row posts h = long (ltb 5252 (length (access_text row posts))) refl
    where
      long : (x : Bool) → ltb 5252 (length (access_text row posts)) ≡ x
          → refusal_of st store (access_text row posts) ≡ first (10 when x ∷ tests (not (rising posts)) row posts)
      long true e = over st store started (access_text row posts) (ltb-true 5252 (length (access_text row posts)) e)
      long false e =
          let s = says_text row posts h in
          refusal_is _ (ltb-false 5252 (length (access_text row posts)) e)
          ∙ ap (λ (b : Bool). first (tests b (access_row (access_fields (access_text row posts))) (access_posts (access_fields (access_text row posts))))) s.bad
          ∙ ap₂ (λ (r : ℕ) (ps : List ℕ). first (tests (not (rising posts)) r ps)) s.row_is s.posts_are

  abbrev Found : List ℕ → Type 0
  Found rest = (row : ℕ) × (posts : List ℕ) × TenDigits (row ∷ posts) × (65 ∷ rest ≡ access_text row posts)

  access_spelled : first (own_table st store) ≡ 0 → (rest : List ℕ) → (refusal_of st store (65 ∷ rest) ≡ 10 → ⊥) → Found rest
  access_spelled z rest n = long (ltb 5252 (length (65 ∷ rest))) refl
    where
      form : (o : Parsed) → length (65 ∷ rest) ≤ 5252 → access_fields (65 ∷ rest) ≡ o → Found rest
      form malformed l e = absurd (n (unread z rest l e))
      form (parsed xs next) l e =
          let w = access_bytes.only (65 ∷ rest) xs next e in
          (w.0, w.1, short (w.0 ∷ w.1) (subst Small w.2 w.4), w.3)

      long : (x : Bool) → ltb 5252 (length (65 ∷ rest)) ≡ x → Found rest
      long true e = absurd (n (over st store started (65 ∷ rest) (ltb-true 5252 (length (65 ∷ rest)) e)))
      long false e = form (access_fields (65 ∷ rest)) (ltb-false 5252 (length (65 ∷ rest)) e) refl

  pub access_letter : AccessLetter st store
  access_letter =
      record {
        refusal = access_refusal_lem;
        spelled = access_spelled;
        one_comma = λ z row h. go row h z (ltb 5252 (length (written 65 (row ∷ [])))) refl;
      }
    where
      go : (row : ℕ) → TenDigits (row ∷ []) → first (own_table st store) ≡ 0 → (x : Bool) → ltb 5252 (length (written 65 (row ∷ []))) ≡ x
          → refusal_of st store (written 65 (row ∷ [])) ≡ 10
      go row h z true e = over st store started (written 65 (row ∷ [])) (ltb-true 5252 (length (written 65 (row ∷ []))) e)
      go row h z false e = unread z _ (ltb-false 5252 (length (written 65 (row ∷ []))) e) (one_comma_unread row h)

-- ---- the set
taken_session : (x : ℕ) (new old : Session) → x ≡ 0 → (answer x 0 new old).session ≡ new
unfolding outcome
taken_session zero new old e = refl
taken_session (suc x) new old e = absurd (omega arith)

pub street_admits : StreetAdmits
street_admits st store started long row posts h z =
    let own = st.session in
    let line = access_text row posts in
    let s = says_text row posts h in
    let t = all_fail (access_table st store row posts) tt (sym (access_refusal_lem st store started row posts h) ∙ z) in
    let low : row ≤ 95 = ltb-false 95 row (or_false (ltb 95 row) _ t.1.1.1.1.1.1.0).0 in
    let d = (access_line st store started _ (ltb-false 5252 (length line) t.0)).0.acts in
    let new = with_barred own (access_sets line own.barred) in
    let x : access_refusal own line ≡ 0 = sym (answer_refusal (access_refusal own line) 0 new own) ∙ sym d.refusal ∙ z in
    subst (Admits own row posts) (sym (d.session ∙ taken_session (access_refusal own line) new own x))
    (record {
      rest = refl;
      row_is =
          λ c lo hi.
          subst (λ (r : ℕ). r < 96 → bars (access_sets line own.barred) r c ≡ not (listed c posts)) s.row_is
          (subst (λ (ps : List ℕ). access_row (access_fields line) < 96 → bars (access_sets line own.barred) (access_row (access_fields line)) c ≡ not (listed c ps))
          s.posts_are (set_listed line own.barred c long lo hi).0) (omega arith);
      others = λ r c n lo hi. (set_listed line own.barred c long lo hi).1 r (λ e. n (e ∙ s.row_is));
    })
