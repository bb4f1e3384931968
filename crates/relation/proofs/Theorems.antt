-- A relation's two calls keep to the law of every call, with 14 right behind 5.
use Prim.Native.Nat.{ℕ, ◌+◌, ◌≤◌}
use mathlib.Core.Path.{◌≡◌, refl, sym, ap, ap₂}
use mathlib.Core.Bool.{Bool, true, false, not}
use mathlib.Core.List.{List, [], ◌∷◌, ◌++◌, append_assoc}
use borrow.Author.Rules.{rules}
use lib.Dec.{eqb, ltb}
use lib.ListN.{length}
use Rattle.refusal.specs.Refusal.{Test, ◌when◌, first, outcome}
use Rattle.refusal.specs.Conditions.{any_beyond}
use Rattle.refusal.proofs.Laws.{inside}
use Rattle.refusal.proofs.Endings.{refused, accepted}
use Rattle.session.specs.declared.Session.{Session}
use Rattle.session.specs.Sessions.{shape_of, factor_a_of, factor_b_of, answer}
use Rattle.session.specs.Rows.{width, row_at}
use Rattle.session.specs.Checks.{no_row, no_triple, wrong_mark_of}
use Rattle.session.proofs.Endings.{refused_answer, accepted_answer}
use Rattle.opening.specs.Walking.{too_few_of, disagree}
use Rattle.terms.specs.declared.Term.{Term}
use Rattle.terms.specs.Listed.{most_terms, plain, products_of, collected, terms_of, factors_of}
use Rattle.terms.proofs.Placing.{terms_again, factors_again}
use Rattle.relation.specs.Tests.{each_at_of, each, by_kind}
use Rattle.relation.specs.Masks.{masked_terms, term_masks, relation_masks_refusal}
use Rattle.relation.specs.Finish.{record_a_of, record_b_of, record_pair, term_mask_a, term_mask_b, with_products, with_sum, relation_done, relation_finish_refusal}
use Rattle.relation.specs.Order.{Ranked, LawfulAfterFive}
use Rattle.relation.specs.Table.{sixes, sevens, relation_masks_table, relation_finish_table, repeats, triples_of}
use Rattle.relation.specs.Claims.{RelationLawful}
use Rattle.relation.proofs.Ranks.{settles, Only, only_append, each_only, ranked_group, ranked_last}
use Rattle.relation.proofs.Tables.{relation_tables}

-- a call whose refusal is that of tests in order, and whose session and list are what they are said to be where nothing is refused
lawful : (tests : List Test) → Ranked 0 tests → (r : ℕ) → r ≡ first tests → (new new' old : Session) → (first tests ≡ 0 → new ≡ new')
    → (written written' before : List ℕ) → (first tests ≡ 0 → written ≡ written')
    → LawfulAfterFive tests new old written before (answer r 0 new' old) (outcome r written' before)
lawful tests o r e new new' old hn written written' before hw = record {
  refusal = settles 0 tests o;
  untouched = λ n. (sym (refused_answer (first tests) r 0 old new' old (sym e) n refl), sym (refused (first tests) r written' before (sym e) n));
  done = λ z. (
    sym (accepted_answer (first tests) r 0 0 new new' old (sym e) z refl (hn z)),
    sym (accepted (first tests) r written written' before (sym e) z (hw z)),
  );
}

-- the tests of a term have one number
six_only : (k : ℕ) (t : Term) → Only 6 (sixes t)
six_only k t = go (plain t)
  where
    go : (b : Bool) → Only 6 (6 when no_row t.row ∷ by_kind b [] (6 when no_row t.second ∷ 6 when no_triple t.first ∷ []))
    go true = (refl, tt)
    go false = (refl, (refl, (refl, tt)))

seven_only : (s : Session) (m k : ℕ) (t : Term) → Only 7 (sevens s m t)
seven_only s m k t = go (plain t)
  where
    go : (b : Bool)
        → Only 7 (by_kind b (7 when wrong_mark_of s t.row 2 ∷ [])
        (7 when wrong_mark_of s t.row 2 ∷ 7 when wrong_mark_of s t.second 2 ∷ 7 when wrong_mark_of s t.first m
        ∷ 7 when wrong_mark_of s (t.first + 1) 4 ∷ 7 when wrong_mark_of s (t.first + 2) 4 ∷ []))
    go true = (refl, tt)
    go false = (refl, (refl, (refl, (refl, (refl, tt)))))

-- 8, of a term's coefficient and of these rows of it
abbrev eights : List Test → List Test → Term → List Test
eights one other t = 8 when ltb 2147483646 t.coefficient ∷ by_kind (plain t) one other

eight_only : (one other : Term → List Test) → ((t : Term) → Only 8 (one t)) → ((t : Term) → Only 8 (other t)) → (k : ℕ) (t : Term)
    → Only 8 (eights (one t) (other t) t)
eight_only one other f g k t = (refl, go (plain t))
  where
    go : (b : Bool) → Only 8 (by_kind b (one t) (other t))
    go true = f t
    go false = g t

module _ (s : Session) (rows : List ℕ) (ts : List Term) where
  abbrev row : ℕ → Test
  row r = 8 when any_beyond (row_at (width s) rows r)

  abbrev four : Term → List Test
  four t = row t.row ∷ row t.second ∷ row t.first ∷ row (t.first + 1) ∷ []

  abbrev five : Term → List Test
  five t = row t.row ∷ row t.second ∷ row t.first ∷ row (t.first + 1) ∷ row (t.first + 2) ∷ []

  abbrev alone : Term → List Test
  alone t = row t.row ∷ []

  abbrev six : List Test
  six = each sixes ts

  six_all : Only 6 (each sixes ts)
  six_all = each_only 6 (λ k. sixes) six_only 0 ts

  masks_ranked : (out : List ℕ) → Ranked 0 (relation_masks_table s rows ts out)
  masks_ranked out =
      let seven = each (sevens s 3) ts ++ (7 when repeats (triples_of ts) ∷ []) in
      let eight = each (λ t. eights [] (four t) t) ts in
      let o7 : Only 7 seven =
      only_append 7 (each (sevens s 3) ts) (7 when repeats (triples_of ts) ∷ []) (each_only 7 (λ k. sevens s 3) (seven_only s 3) 0 ts) (refl, tt) in
      let o8 : Only 8 eight = each_only 8 (λ k t. eights [] (four t) t) (eight_only (λ t. []) four (λ t. tt) (λ t. (refl, (refl, (refl, (refl, tt)))))) 0 ts in
      let tail : Ranked 11 (six ++ (seven ++ eight)) =
      ranked_group 11 6 six (seven ++ eight) (search rules) (search rules) six_all
      (ranked_group 12 7 seven eight (search rules) (search rules) o7 (ranked_last 14 8 eight (search rules) (search rules) o8)) in (
        search rules,
        search rules,
        (
          search rules,
          search rules,
          (
            search rules,
            search rules,
            (
              search rules,
              search rules,
              (search rules, search rules, (search rules, search rules, (search rules, search rules, tail))),
            ),
          ),
        ),
      )

  finish_ranked : (d : ℕ) (blocks : List ℕ) → Ranked 0 (relation_finish_table s rows ts d blocks)
  finish_ranked d blocks =
      let sixth = six ++ (6 when no_row d ∷ []) in
      let kept = each (λ t. 7 when not (eqb (factor_a_of s t.first) t.row) ∷ 7 when not (eqb (factor_b_of s t.first) t.second) ∷ []) (products_of ts) in
      let seven = each (sevens s 5) ts ++ (7 when repeats (triples_of ts) ∷ (kept ++ (7 when wrong_mark_of s d 0 ∷ []))) in
      let pairs = each_at_of (λ k t. record_pair s blocks k) 0 (products_of ts) in
      let eight = each (λ t. eights (alone t) (five t) t) ts ++ pairs in
      let nine = each_at_of (λ k t. 9 when too_few_of s (term_mask_a s rows t) (record_a_of s blocks k) ∷ 9 when too_few_of s (term_mask_b s rows t) (record_b_of s blocks k) ∷ []) 0 (products_of ts) in
      let thirteen = each_at_of (λ k t. 13 when disagree s (term_mask_a s rows t) (record_a_of s blocks k) ∷ 13 when disagree s (term_mask_b s rows t) (record_b_of s blocks k) ∷ []) 0 (products_of ts) in
      let o6 : Only 6 sixth = only_append 6 six (6 when no_row d ∷ []) six_all (refl, tt) in
      let ok : Only 7 kept =
      each_only 7 (λ k t. 7 when not (eqb (factor_a_of s t.first) t.row) ∷ 7 when not (eqb (factor_b_of s t.first) t.second) ∷ [])
      (λ k t. (refl, (refl, tt))) 0 (products_of ts) in
      let o7 : Only 7 seven =
      only_append 7 (each (sevens s 5) ts) (7 when repeats (triples_of ts) ∷ (kept ++ (7 when wrong_mark_of s d 0 ∷ [])))
      (each_only 7 (λ k. sevens s 5) (seven_only s 5) 0 ts) (refl, only_append 7 kept (7 when wrong_mark_of s d 0 ∷ []) ok (refl, tt)) in
      let o8 : Only 8 eight =
      only_append 8 (each (λ t. eights (alone t) (five t) t) ts) pairs
      (each_only 8 (λ k t. eights (alone t) (five t) t) (eight_only alone five (λ t. (refl, tt)) (λ t. (refl, (refl, (refl, (refl, (refl, tt))))))) 0 ts)
      (each_only 8 (λ k t. record_pair s blocks k) (λ k t. (refl, (refl, tt))) 0 (products_of ts)) in
      let o9 : Only 9 nine =
      each_only 9 (λ k t. 9 when too_few_of s (term_mask_a s rows t) (record_a_of s blocks k) ∷ 9 when too_few_of s (term_mask_b s rows t) (record_b_of s blocks k) ∷ [])
      (λ k t. (refl, (refl, tt))) 0 (products_of ts) in
      let o13 : Only 13 thirteen =
      each_only 13 (λ k t. 13 when disagree s (term_mask_a s rows t) (record_a_of s blocks k) ∷ 13 when disagree s (term_mask_b s rows t) (record_b_of s blocks k) ∷ [])
      (λ k t. (refl, (refl, tt))) 0 (products_of ts) in
      let opens = nine ++ thirteen in
      let tail : Ranked 11 (sixth ++ (seven ++ (eight ++ opens))) =
      ranked_group 11 6 sixth (seven ++ (eight ++ opens)) (search rules) (search rules) o6
      (ranked_group 12 7 seven (eight ++ opens) (search rules) (search rules) o7
      (ranked_group 14 8 eight opens (search rules) (search rules) o8
      (ranked_group 16 9 nine thirteen (search rules) (search rules) o9 (ranked_last 18 13 thirteen (search rules) (search rules) o13)))) in
      let whole : Ranked 11 ((sixth ++ (seven ++ eight)) ++ opens) = rw (append_assoc sixth (seven ++ eight) opens, append_assoc seven eight opens) tail in (
        search rules,
        search rules,
        (
          search rules,
          search rules,
          (
            search rules,
            search rules,
            (
              search rules,
              search rules,
              (search rules, search rules, (search rules, search rules, (search rules, search rules, whole))),
            ),
          ),
        ),
      )

  module _ (out : List ℕ) (z : first (relation_masks_table s rows ts out) ≡ 0) where
    masks_few : length ts ≤ most_terms
    masks_few = (inside 1 most_terms (length ts) ((settles 0 (relation_masks_table s rows ts out) (masks_ranked out)).accepts z).1.1.1.1.1.1.0).1

  module _ (d : ℕ) (blocks : List ℕ) (z : first (relation_finish_table s rows ts d blocks) ≡ 0) where
    finish_few : length ts ≤ most_terms
    finish_few = (inside 1 most_terms (length ts) ((settles 0 (relation_finish_table s rows ts d blocks) (finish_ranked d blocks)).accepts z).1.1.1.1.1.1.0).1

pub relation_lawful : RelationLawful
relation_lawful = record {
  masks = λ s rows ts out.
      lawful (relation_masks_table s rows ts out) (masks_ranked s rows ts out) (relation_masks_refusal s rows (collected ts) out) (relation_tables.masks s rows ts out)
      (masked_terms s (products_of ts)) (masked_terms s (factors_of (collected ts))) s
      (λ z. ap (masked_terms s) (sym (factors_again ts (masks_few s rows ts out z))))
      (term_masks (shape_of s) rows (products_of ts)) (term_masks (shape_of s) rows (factors_of (collected ts))) out
      (λ z. ap (term_masks (shape_of s) rows) (sym (factors_again ts (masks_few s rows ts out z))));
  finish = λ s rows ts d blocks.
      lawful (relation_finish_table s rows ts d blocks) (finish_ranked s rows ts d blocks) (relation_finish_refusal s rows (collected ts) d blocks)
      (relation_tables.finish s rows ts d blocks)
      (relation_done s rows blocks (products_of ts) ts d) (relation_done s rows blocks (factors_of (collected ts)) (terms_of (collected ts)) d) s
      (λ z. ap₂ (λ (f l : List Term). relation_done s rows blocks f l d) (sym (factors_again ts (finish_few s rows ts d blocks z)))
      (sym (terms_again ts (finish_few s rows ts d blocks z))))
      (with_sum s d ts (with_products s rows blocks 0 (products_of ts) rows))
      (with_sum s d (terms_of (collected ts)) (with_products s rows blocks 0 (factors_of (collected ts)) rows)) rows
      (λ z. ap₂ (λ (l f : List Term). with_sum s d l (with_products s rows blocks 0 f rows)) (sym (terms_again ts (finish_few s rows ts d blocks z)))
      (sym (factors_again ts (finish_few s rows ts d blocks z))));
}
