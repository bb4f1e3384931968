-- Document 02, (v): a relation's masks are those of the single call, made for one product term after the other. By induction over them.
use Prim.Native.Nat.{ℕ, suc, ◌+◌, ◌*◌}
use mathlib.Core.Path.{◌≡◌, refl, sym, ◌∙◌, ap, ap₂, subst}
use mathlib.Core.Bool.{Bool, false, not}
use mathlib.Core.Logic.{◌≢◌}
use mathlib.Core.List.{List, [], ◌∷◌, ◌++◌}
use native.Mathlib.Nat.{suc-mul}
use native.Mathlib.Omega.{arith}
use borrow.Author.Tests.{le-ltb, eq-eqb}
use lib.Dec.{eqb}
use lib.ListN.{length, take, drop, length-take, length-drop}
use lib.Seq.{get_or-set_other}
use Rattle.shape.specs.Bounds.{last_row_at, last_triple}
use Rattle.shape.specs.Marks.{held, unused, further, masked}
use Rattle.shape.specs.Lengths.{masks_length}
use Rattle.poly.specs.Counting.{All}
use Rattle.poly.proofs.Lists.{all_zip}
use Rattle.refusal.specs.Refusal.{first, AllFail}
use Rattle.refusal.proofs.Laws.{all_fail, not_refused}
use Rattle.refusal.proofs.Groups.{fail_parts}
use Rattle.session.specs.declared.Session.{Session}
use Rattle.session.specs.declared.Answer.{Answer}
use Rattle.session.specs.Sessions.{shape_of, mark, masked_triple, holding}
use Rattle.session.specs.Rows.{width}
use Rattle.session.specs.Checks.{frame_tests}
use Rattle.opening.proofs.Passed.{clear_parts, clear_join}
use Rattle.product_masks.specs.Masks.{triple_marks_of, factor_numbers_of, mask_numbers, masks_place_of, masks_refusal_of, both_masks, mask_numbers_of}
use Rattle.product_masks.proofs.Passed.{Factored, FactorsLow, factors_low}
use Rattle.terms.specs.declared.Term.{Term}
use Rattle.terms.specs.Listed.{plain, products_of, collected, terms_of, factors_of}
use Rattle.terms.proofs.Placing.{terms_again, factors_again}
use Rattle.relation.specs.Tests.{each, by_kind, place_tests, named_twice_of}
use Rattle.relation.specs.Masks.{masks_sizes, masks_marks, mask_number_tests, masked_terms, term_masks, relation_masks_refusal}
use Rattle.relation.proofs.Naming.{twice_parts}
use Rattle.relation.proofs.Numbering.{masks_numbered}
use Rattle.relation.proofs.Passed.{each_fail, forget, products_all, RelationMasksMade, relation_masks_made}
use Rattle.relation_law.specs.Singles.{single_call, single_list, list_behind, SinglesAccepted, singles_session, singles_lists}
use Rattle.relation_law.specs.Claims.{MasksAreSingles}
use Rattle.relation_law.proofs.Step.{answered, left}
use Rattle.relation_law.proofs.Walk.{refusal_is}

-- where its checks pass, the single call is accepted
masks_clear : (s : Session) (rows : List ℕ) (a b r : ℕ) (out : List ℕ) → first (frame_tests s rows) ≡ 0 → length out ≡ masks_length (shape_of s)
    → Factored s a b r unused → FactorsLow s rows a b r → masks_refusal_of s rows a b r out ≡ 0
unfolding masks_refusal_of
masks_clear s rows a b r out frame long f w =
    let place = masks_place_of s a b r out in
    let marks = triple_marks_of s a b r unused in
    let numbers = mask_numbers s rows a b r in
    clear_join (frame_tests s rows) (place ++ (marks ++ numbers)) tt frame
    (clear_join place (marks ++ numbers) tt
    (not_refused place (
      ap not (eq-eqb (length out) (masks_length (shape_of s)) long),
      (le-ltb last_row_at a f.a_in, (le-ltb last_row_at b f.b_in, (le-ltb last_triple r f.triple_in, tt))),
    ))
    (clear_join marks numbers tt
    (not_refused marks (
      is a held f.a_held,
      (is b held f.b_held, (is r unused f.first_mark, (is (r + 1) further f.second_mark, (is (r + 2) further f.third_mark, tt)))),
    ))
    (not_refused numbers (w.a_low, (w.b_low, (w.first_low, (w.second_low, tt)))))))
  where
    is : (x m : ℕ) → mark s x ≡ m → not (eqb (mark s x) m) ≡ false
    is x m e = ap not (eq-eqb (mark s x) m e)

-- a part of w numbers, and the parts behind it
cut_part : (w k : ℕ) (l : List ℕ) → length l ≡ suc k * w → (length (take w l) ≡ w) × (length (drop w l) ≡ k * w)
cut_part w k l e =
    let f : length l ≡ k * w + w = e ∙ suc-mul k w in (
      omega (arith, length-take w l, f),
      omega (arith, length-drop w l, f),
    )

-- a product term whose masks may be made
abbrev Ready : List ℕ → Session → Term → Type 0
Ready rows s t = Factored s t.row t.second t.first unused × FactorsLow s rows t.row t.second t.first

-- the masks of one term leave another as it was
still_ready : (rows : List ℕ) (s : Session) (t : Term) → Ready rows s t → (u : Term) → u.first ≢ t.first → Ready rows s u
    → Ready rows (masked_triple s t.first t.row t.second) u
still_ready rows s t (h, _) u ne (v, low) = (
  record {
    a_in = v.a_in;
    b_in = v.b_in;
    triple_in = v.triple_in;
    a_held = other u.row (λ g. omega (arith, ap (mark s) g, v.a_held, h.first_mark)) ∙ v.a_held;
    b_held = other u.second (λ g. omega (arith, ap (mark s) g, v.b_held, h.first_mark)) ∙ v.b_held;
    first_mark = other u.first ne ∙ v.first_mark;
    second_mark = other (u.first + 1) (λ g. omega (arith, ap (mark s) g, v.second_mark, h.first_mark)) ∙ v.second_mark;
    third_mark = other (u.first + 2) (λ g. omega (arith, ap (mark s) g, v.third_mark, h.first_mark)) ∙ v.third_mark;
  },
  record { a_low = low.a_low; b_low = low.b_low; first_low = low.first_low; second_low = low.second_low },
)
  where
    other : (q : ℕ) → q ≢ t.first → mark (masked_triple s t.first t.row t.second) q ≡ mark s q
    other q g = get_or-set_other s.marks t.first q masked 0 g

module _ (rows : List ℕ) where
  -- the walk is accepted, and leaves the session and the list of the relation's masks
  abbrev Made : List Term → Session → List ℕ → Type 0
  Made ts s out =
      SinglesAccepted rows ts s out × (masked_terms s ts ≡ singles_session rows ts s out) × (term_masks (shape_of s) rows ts ≡ singles_lists rows ts s out)

  none : (s : Session) (out : List ℕ) → Made [] s out
  unfolding SinglesAccepted singles_session singles_lists masked_terms term_masks
  none s out = (tt, refl, refl)

  -- one term more in front
  in_front : (t : Term) (ts : List Term) (s : Session) (out : List ℕ)
      → single_call rows t s out ≡ holding 0 0 (masked_triple s t.first t.row t.second)
      → single_list rows t s out ≡ both_masks (shape_of s) rows t.row t.second t.first
      → Made ts (masked_triple s t.first t.row t.second) (list_behind rows s out) → Made (t ∷ ts) s out
  unfolding SinglesAccepted singles_session singles_lists masked_terms term_masks
  in_front t ts s out one list (ok, session, lists) =
      let behind = list_behind rows s out in
      let e = sym (ap (λ (x : Answer). x.session) one) in (
        (ap (λ (x : Answer). x.refusal) one, subst (λ (q : Session). SinglesAccepted rows ts q behind) e ok),
        session ∙ ap (λ (q : Session). singles_session rows ts q behind) e,
        ap₂ ◌++◌ (sym list) (lists ∙ ap (λ (q : Session). singles_lists rows ts q behind) e),
      )

  made : (ts : List Term) (s : Session) (out : List ℕ) → first (frame_tests s rows) ≡ 0 → length out ≡ length ts * masks_length (shape_of s)
      → All (Ready rows s) ts → named_twice_of ts ≡ false → Made ts s out
  unfolding mask_numbers_of
  made [] s out frame long h once = none s out
  made (t ∷ ts) s out frame long (h, hs) once =
      let w = masks_length (shape_of s) in
      let own = take w out in
      let (fits, rest-long) = cut_part w (length ts) out long in
      let (apart, rest) = twice_parts t ts once in
      let z = masks_clear s rows t.row t.second t.first own frame fits h.0 h.1 in
      in_front t ts s out (answered (masks_refusal_of s rows t.row t.second t.first own) (masked_triple s t.first t.row t.second) s z)
      (left (masks_refusal_of s rows t.row t.second t.first own) (mask_numbers_of s rows t.row t.second t.first) own z)
      (made ts (masked_triple s t.first t.row t.second) (drop w out) frame rest-long (all_zip (λ u ne v. still_ready rows s t h u ne v) ts apart hs) rest)

-- ---- the start: what the relation's masks found

low_of : (s : Session) (rows : List ℕ) (t : Term) → plain t ≡ false → AllFail (mask_number_tests (width s) rows t)
    → FactorsLow s rows t.row t.second t.first
low_of s rows t e h =
    factors_low s rows t.row t.second t.first
    (subst (λ (k : Bool). AllFail (by_kind k [] (factor_numbers_of (width s) rows t.row t.second t.first))) e h.1)

module _ (s : Session) (rows : List ℕ) (ts : List Term) (out : List ℕ) (z : relation_masks_refusal s rows (collected ts) out ≡ 0) where
  passed : RelationMasksMade s rows ts out
  passed = relation_masks_made s rows ts out z

  frame_and_low : (first (frame_tests s rows) ≡ 0) × All (λ t. FactorsLow s rows t.row t.second t.first) (products_of ts)
  unfolding relation_masks_refusal
  frame_and_low =
      let all = collected ts in
      let tests = mask_number_tests (width s) rows in
      let eights = each tests (terms_of all) in
      let behind = each place_tests (terms_of all) ++ (masks_marks s all ++ eights) in
      let (frame, own) = clear_parts (frame_tests s rows) (masks_sizes s all out ++ behind) tt z in
      let (_, later) = fail_parts (masks_sizes s all out) behind (all_fail (masks_sizes s all out ++ behind) (masks_numbered s rows all) own) in
      let (_, marks) = fail_parts (each place_tests (terms_of all)) (masks_marks s all ++ eights) later in
      let (_, low) = fail_parts (masks_marks s all) eights marks in (
        frame,
        products_all (λ t. AllFail (tests t)) _ (low_of s rows) ts
            (subst (All (λ t. AllFail (tests t))) (terms_again ts passed.placed.few)
            (forget (λ t. AllFail (tests t)) 0 (terms_of all) (each_fail (λ k. tests) 0 (terms_of all) low))),
      )

  all_made : Made rows (products_of ts) s out
  all_made =
      let (frame, low) = frame_and_low in
      let k = passed.placed in
      made rows (products_of ts) s out frame k.out_long (all_zip (λ t f w. (f, w)) (products_of ts) k.factors low) k.once

pub masks_are_singles : MasksAreSingles
masks_are_singles s rows ts out e =
    let all = collected ts in
    let x = relation_masks_refusal s rows all out in
    let z = refusal_is x (masked_terms s (factors_of all)) s e in
    let (ok, session, lists) = all_made s rows ts out z in
    let again = factors_again ts (passed s rows ts out z).placed.few in
    record {
      accepted = ok;
      session_is = ap (λ (q : Answer). q.session) (answered x (masked_terms s (factors_of all)) s z) ∙ ap (masked_terms s) again ∙ session;
      lists_are = left x (term_masks (shape_of s) rows (factors_of all)) out z ∙ ap (term_masks (shape_of s) rows) again ∙ lists;
    }
