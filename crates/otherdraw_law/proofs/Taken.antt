-- With lists of rows of the right length the row is loaded and dealt at every post.
use Prim.Native.Nat.{ℕ, zero, suc, ◌-◌, ◌≤◌, ◌<◌}
use mathlib.Core.Path.{◌≡◌, refl, sym, ◌∙◌, ap, ap₂, subst}
use mathlib.Core.Bool.{false, not, false≢true}
use mathlib.Core.List.{List, [], ◌∷◌, map}
use native.Mathlib.Omega.{arith}
use borrow.Author.Tests.{eq-eqb, le-ltb}
use lib.Dec.{eqb}
use lib.ListN.{length, replicate}
use lib.Seq.{get_or-set_same}
use Rattle.field.specs.Modulus.{p}
use Rattle.poly.proofs.Lists.{all_map, map_same}
use Rattle.shape.specs.Bounds.{row_count_of, last_row_at}
use Rattle.shape.specs.Marks.{empty, raw, held}
use Rattle.shape.specs.Lengths.{row_length, rows_length}
use Rattle.refusal.specs.Refusal.{outcome, AllFail}
use Rattle.refusal.specs.Conditions.{any_beyond, posts_tests, station_tests}
use Rattle.refusal.proofs.Laws.{all_fail, not_refused as passes}
use Rattle.refusal.proofs.Elements.{element_test}
use Rattle.parts.specs.Draw.{each_from}
use Rattle.session.specs.declared.Session.{Session}
use Rattle.session.specs.declared.Answer.{Answer}
use Rattle.session.specs.Sessions.{marked, answer, session_tests}
use Rattle.session.specs.Rows.{width, with_row}
use Rattle.session.proofs.RowLaws.{length_with_row, row_same}
use Rattle.load.specs.Load.{load_row_tests, load_row_refusal_of, load_row_answer, load_row_rows_of}
use Rattle.deal.specs.Deal.{deal_tests, deal_refusal_of, deal_answer}
use Rattle.runs.specs.Draws.{IsRaw, Plan, plan_shape, Draw, IsDraw, Sound, point_of, raw_pack}
use Rattle.runs.specs.Calls.{Post, new_post, perform}
use Rattle.runs.specs.Orders.{carry}
use Rattle.runs.proofs.Marks.{session_at, raw_vector}
use Rattle.runs.proofs.Packs.{row_for, raw_pack_is}
use Rattle.runs.proofs.Holds.{row_wide, row_low}
use Rattle.runs.proofs.Start.{start, start_sized, start_mark, blanks, session_passes, made}
use Rattle.secrecy.specs.Steps.{dealt_number}
use Rattle.secrecy.specs.Seen.{posts, new_desk, entry_of, run, seen, Entry, deal_lines}
use Rattle.secrecy.proofs.Theorems.{number_low}
use Rattle.otherdraw_law.specs.OneRow.{Doing, loads, deals, order, Setting, plan_in, draw_in}
use Rattle.otherdraw_law.specs.Claims.{returned, shape_in, AllTaken, BothTaken}
use Rattle.otherdraw.proofs.Passed.{not_refused}
use Rattle.otherdraw_law.proofs.Drawn.{only_row, is_draw}
use Rattle.otherdraw_law.proofs.Returned.{shows_the_same}
use Rattle.otherdraw_law.proofs.Told.{raw_there}
use Rattle.otherdraw_law.proofs.Entries.{posts_in}

-- no test of an equality that holds applies
agrees : (a b : ℕ) → a ≡ b → not (eqb a b) ≡ false
agrees a b e = ap not (eq-eqb a b e)

-- what a post answers to a load and to a deal behind it, from its session, rows, pack and number
module _ (r : ℕ) (q : Post) (xs : List ℕ) (c : ℕ) where
  abbrev loaded_at : Answer
  loaded_at = load_row_answer q.session q.rows r xs

  abbrev dealt_at : Answer
  dealt_at = deal_answer (load_row_answer q.session q.rows r xs).session (load_row_rows_of q.session q.rows r xs) r c

-- ---- one post

module _ (plan : Plan) (draw : Draw) (sound : Sound plan) (is : IsDraw plan draw) (r : ℕ) (row : r ≤ last_row_at) (i : ℕ) (lo : 1 ≤ i) (hi : i ≤ plan.n)
    (R : List ℕ) (long : length R ≡ rows_length (plan_shape plan)) (pack : List ℕ) (wide : length pack ≡ row_length (plan_shape plan))
    (low : any_beyond pack ≡ false) (c : ℕ) (c-low : c < p) where
  abbrev s : Session
  s = session_at plan draw i start blanks

  in_frame : AllFail (session_tests plan.n plan.t i plan.points (point_of plan draw i))
  in_frame = all_fail (session_tests plan.n plan.t i plan.points (point_of plan draw i)) tt (session_passes plan draw sound is i lo hi)

  load_passes : load_row_refusal_of s R r pack ≡ 0
  unfolding load_row_refusal_of
  load_passes =
      let (one, (two, (three, (four, _)))) = in_frame in
      passes (load_row_tests s R r pack)
      (one, (two, (three, (four, (agrees _ _ long, (agrees _ _ wide, (le-ltb last_row_at r row, (agrees _ _ (start_mark r), (low, tt)))))))))

  abbrev R' : List ℕ
  R' = with_row (width s) r pack R

  deal_passes : deal_refusal_of (marked s r raw) R' r c ≡ 0
  unfolding deal_refusal_of
  deal_passes =
      let (one, (two, (three, (four, _)))) = in_frame in
      let below : r < row_count_of = omega (arith, row) in
      passes (deal_tests (marked s r raw) R' r c) (
        one,
        (
          two,
          (
            three,
            (
              four,
              (
                agrees _ _ (length_with_row (width s) row_count_of R r long below pack wide ∙ long),
                (
                  le-ltb last_row_at r row,
                  (
                    agrees _ _ (get_or-set_same start.marks r raw empty (omega (arith, start_sized.marks, row))),
                    (element_test c c-low, (ap any_beyond (row_same (width s) row_count_of R r long below pack wide) ∙ low, tt)),
                  ),
                ),
              ),
            ),
          ),
        ),
      )

  pub load_taken : (loaded_at r (new_post plan draw R i) pack c).refusal ≡ 0
  unfolding new_post outcome
  load_taken =
      ap (λ (x : Session). (load_row_answer x R r pack).refusal) (made plan draw sound is i lo hi)
      ∙ ap (λ (k : ℕ). (answer k 0 (marked s r raw) s).refusal) load_passes

  pub deal_taken : (dealt_at r (new_post plan draw R i) pack c).refusal ≡ 0
  unfolding new_post outcome
  deal_taken =
      ap (λ (x : Session). (deal_answer (load_row_answer x R r pack).session (load_row_rows_of x R r pack) r c).refusal) (made plan draw sound is i lo hi)
      ∙ ap (λ (k : ℕ). (deal_answer (answer k 0 (marked s r raw) s).session (outcome k R' R) r c).refusal) load_passes
      ∙ ap (λ (k : ℕ). (answer k 0 (marked (marked s r raw) r held) (marked s r raw)).refusal) deal_passes

-- ---- all posts

all_zero : (n : ℕ) (f : ℕ → ℕ) → ((i : ℕ) → 1 ≤ i → i ≤ n → f i ≡ 0) → map f (posts n) ≡ replicate n 0
unfolding posts each_from
all_zero n f h = map_same f (λ i. 0) (posts n) (all_map (λ i k. h i k.0 k.1) (posts n) (posts_in n)) ∙ zeros 1 n
  where
    zeros : (j m : ℕ) → map {B = ℕ} (λ (i : ℕ). 0) (each_from j m (λ i. i)) ≡ replicate m 0
    zeros j zero = refl
    zeros j (suc m) = ap (λ (l : List ℕ). 0 ∷ l) (zeros (suc j) m)

-- every draw of the row, with every secret
module _ (S : Setting) (draw : List ℕ) (u : ℕ) (row : S.r ≤ last_row_at) (sound : Sound (plan_in S)) (is : IsDraw (plan_in S) (draw_in S draw))
    (twice : S.todo ≡ loads ∷ deals ∷ []) (long : (i : ℕ) → 1 ≤ i → i ≤ S.n → length (S.rows i) ≡ rows_length (shape_in S)) where
  abbrev P : Plan
  P = plan_in S

  abbrev d : Draw
  d = draw_in S draw

  abbrev q : ℕ → Post
  q i = new_post P d (S.rows i) i

  abbrev x : ℕ → List ℕ
  x i = raw_pack P d i S.r

  abbrev c : ℕ
  c = dealt_number P d (λ k. u) S.r

  raw_is : IsRaw (P.raw S.r)
  raw_is = subst IsRaw (sym (raw_there S row)) tt

  pack_is : (i : ℕ) → 1 ≤ i → i ≤ S.n → x i ≡ row_for P d i (raw_vector P d S.r)
  pack_is i lo hi = raw_pack_is P d is S.r (omega (arith, row)) raw_is i (omega (arith, lo, hi))

  wide : (i : ℕ) → 1 ≤ i → i ≤ S.n → length (x i) ≡ row_length (shape_in S)
  wide i lo hi = ap length (pack_is i lo hi) ∙ row_wide P d i _

  low : (i : ℕ) → 1 ≤ i → i ≤ S.n → any_beyond (x i) ≡ false
  low i lo hi = ap any_beyond (pack_is i lo hi) ∙ row_low P d i _

  taken : AllTaken S draw u
  unfolding seen run entry_of new_desk carry perform
  taken =
      ap
      (λ (todo : List Doing). map (λ (e : Entry). e.refusals)
      (run P S.posts d (λ k. u) (map (order S.r) todo) (deal_lines P d (λ k. u)) (λ i. new_desk P d (S.rows i) i))) twice
      ∙ ap₂ (λ (a b : List ℕ). a ∷ b ∷ [])
      (all_zero S.n (λ i. (loaded_at S.r (q i) (x i) c).refusal)
      (λ i lo hi. load_taken P d sound is S.r row i lo hi (S.rows i) (long i lo hi) (x i) (wide i lo hi) (low i lo hi) c (number_low P d (λ k. u) S.r)))
      (all_zero S.n (λ i. (dealt_at S.r (q i) (x i) c).refusal)
      (λ i lo hi. deal_taken P d sound is S.r row i lo hi (S.rows i) (long i lo hi) (x i) (wide i lo hi) (low i lo hi) c (number_low P d (λ k. u) S.r)))

pub both_taken : BothTaken
both_taken S draw secret wanted out h z twice long =
    let g = (not_refused S.n S.t S.points S.ws draw secret wanted S.posts out z).0 in
    let (one, (two, (count, _))) = all_fail (station_tests S.n S.t S.points) tt g.station_fine in
    let sound : Sound (plan_in S) = record {
      posts = passes (posts_tests S.n S.t) (one, (two, tt));
      counted = count;
      raws = λ q raw. subst (λ (k : ℕ). k ≤ last_row_at) (sym (only_row S q raw)) h.row;
      triples = λ q e. absurd (false≢true e);
    } in (
      taken S draw secret h.row sound (is_draw S draw h.row g.points_length g.points_good g.draw_length_is g.draw_elements) twice long,
      taken S (returned S draw secret wanted out) wanted h.row sound (shows_the_same S draw secret wanted out h z).is_draw twice long,
    )
