-- A call that is not refused: the marks allow it, and the list of rows has its full length.
use Prim.Native.Nat.{ℕ, ◌+◌}
use mathlib.Core.Path.{◌≡◌, refl, sym, ◌∙◌, subst}
use mathlib.Core.Logic.{◌⊎◌, inl, inr}
use mathlib.Core.Bool.{◌||◌}
use mathlib.Core.List.{List, [], ◌∷◌, ◌++◌}
use native.Mathlib.Omega.{arith}
use lib.ListN.{length}
use Rattle.session.specs.declared.Session.{Session}
use Rattle.session.specs.Sessions.{mark, points_of, session_tests}
use Rattle.refusal.proofs.Laws.{equal, all_fail}
use Rattle.refusal.proofs.Groups.{fail_parts}
use Rattle.access.specs.Access.{access_fields, access_row, access_posts, bad_access, any_outside, access_refusal}
use Rattle.refusal.specs.Refusal.{Test, ◌when◌}
use Rattle.session.specs.Checks.{no_row, wrong_mark_of}
use Rattle.load.proofs.Passed.{row_loaded, triple_loaded_lem}
use Rattle.deal.proofs.Passed.{dealt}
use Rattle.message.proofs.Passed.{message_made}
use Rattle.linear.proofs.Passed.{summed}
use Rattle.opening.proofs.Passed.{row_opened, open_framed}
use Rattle.product_masks.proofs.Passed.{Factored, masks_made}
use Rattle.collect.proofs.Passed.{collected, collect_framed}
use Rattle.multiply.proofs.Passed.{multiplied}
use Rattle.poly.specs.Counting.{All}
use Rattle.poly.proofs.Lists.{all_map, all_zip}
use Rattle.shape.specs.Marks.{raw, unused, masked, collected as collectedMark}
use Rattle.shape.specs.Lengths.{rows_length}
use Rattle.terms.specs.declared.Term.{Term}
use Rattle.terms.specs.Listed.{products_of}
use Rattle.relation.proofs.Passed.{RelationFinishPlaced, relation_masks_made, relation_finished}
use Rattle.runs.specs.Draws.{Plan, Draw, plan_shape}
use Rattle.runs.specs.Outline.{load_row_of, load_triple_of, deal, message, opening, linear, masks, collect, multiply, relation_masks_of, relation_finish_of, access, takes, acts_in, finishing, summing, acts, sends}
use Rattle.runs.specs.Calls.{Actual, Call}
use Rattle.runs.proofs.Marks.{Marks, mark_of, remembered_b, Opened, session_at}
use Rattle.runs.proofs.Outcomes.{refusal_of}
use Rattle.runs.proofs.Facts.{AllowedAll, ReadyFor, Allowed, Multiplying, Tripled}
use Rattle.runs.proofs.Relations.{apart, Waits, finished_all, allowed_masks, ready_masks, sending_masks, stays_all, products_held, allowed_products, ready_products, terms_held, allowed_sum, ready_sum}

-- an A line that is not refused
access_raw : (s : Session) (line : List ℕ) → access_refusal s line ≡ 0 → mark s (access_row (access_fields line)) ≡ raw
unfolding access_refusal
access_raw s line z =
    let head = session_tests s.n s.t s.post s.points (points_of s) in
    let x = access_fields line in
    let own : List Test = 10 when bad_access x ∷ 11 when (no_row (access_row x) || any_outside s.n (access_posts x)) ∷ 7 when wrong_mark_of s (access_row x) raw ∷ [] in
    equal _ _ (fail_parts head own (all_fail (head ++ own) tt z)).1.1.1.0

module _ (plan : Plan) (draw : Draw) (i : ℕ) (M : Marks) (Y : Opened) (l : List ℕ) where
  abbrev s : Session
  s = session_at plan draw i M Y

  pub multiplying : (a b r m : ℕ) → Factored s a b r m → Multiplying m M a b r
  multiplying a b r m f = record {
    a_low = omega (arith, f.a_in);
    b_low = omega (arith, f.b_in);
    r_low = omega (arith, f.triple_in);
    a_held = f.a_held;
    b_held = f.b_held;
    first = f.first_mark;
    second = f.second_mark;
    third = f.third_mark;
  }

  -- a relation's finish: its product terms wait; then its acts
  pub waiting : (ts : List Term) (d : ℕ) (blocks : List ℕ) → RelationFinishPlaced s ts d blocks → All (Waits M) (products_of ts)
  waiting ts d blocks f =
      all_zip (λ t k e. subst (λ (a : ℕ). Multiplying masked M a (remembered_b M t.first) t.first) (sym e.0)
      (subst (λ (b : ℕ). Multiplying masked M t.row b t.first) (sym e.1) (multiplying t.row t.second t.first masked k)))
      (products_of ts) f.factors f.remembered

  module _ (ts : List Term) (d : ℕ) (blocks : List ℕ) (f : RelationFinishPlaced s ts d blocks) where
    abbrev fs : List Term
    fs = products_of ts

    pub sum_allowed : AllowedAll (acts_in Actual (summing Actual d ts)) (finished_all (products_of ts) M)
    sum_allowed =
        let w = waiting ts d blocks f in
        let a = apart fs f.once in
        allowed_sum (finished_all fs M) d ts f.some (omega (arith, f.sum_in))
        (stays_all fs M w a d (λ e. omega (arith, f.sum_empty)) (λ e. omega (arith, f.sum_empty)) ∙ f.sum_empty)
        (terms_held (finished_all fs M) ts
        (all_map (λ t h. (omega (arith, h.0), stays_all fs M w a t.row (λ e. omega (arith, h.1)) (λ e. omega (arith, h.1)) ∙ h.1)) ts f.terms_held)
        (products_held fs M w a))

    finish_allowed : (m : ℕ) → AllowedAll (acts_in Actual (finishing Actual m blocks 0 (products_of ts) ++ summing Actual d ts)) M
    finish_allowed m = allowed_products m blocks 0 fs (summing Actual d ts) M (waiting ts d blocks f) (apart fs f.once) sum_allowed

    finish_ready : (m : ℕ) → All (λ a. ReadyFor M (takes a)) (acts_in Actual (finishing Actual m blocks 0 (products_of ts) ++ summing Actual d ts))
    finish_ready m = ready_products m blocks 0 fs (summing Actual d ts) M (waiting ts d blocks f) (ready_sum d ts M)

  abbrev Passes : Call → Type 0
  Passes c = Allowed (acts c) (sends c) M × ((length l ≡ rows_length (plan_shape plan)) ⊎ ((r : ℕ) × (mark_of M r ≡ raw)))

  passes : (c : Call) → refusal_of c (record { session = session_at plan draw i M Y; rows = l }) ≡ 0 → Passes c
  passes (load_row_of x) z =
      let f = row_loaded s l x.r x.pack z in
      (record { moving = (((omega (arith, f.row_in), f.is_empty), tt), tt); ready = (tt, tt); sending = tt }, inl f.framed.sized.length_is)
  passes (load_triple_of x) z = let f = triple_loaded_lem s l x.r x.pack z in (
    record {
      moving = (((omega (arith, f.triple_in), f.first_empty, f.second_empty, f.third_empty), tt), tt);
      ready = (tt, tt);
      sending = tt;
    },
    inl f.framed.sized.length_is,
  )
  passes (deal x) z =
      let f = dealt s l x.r x.c z in
      (record { moving = (((omega (arith, f.placed.row_in), f.placed.is_raw), tt), tt); ready = (tt, tt); sending = tt }, inl f.framed.sized.length_is)
  passes (message x) z =
      let f = message_made s l x.r x.caller x.lent z in
      (record { moving = tt; ready = tt; sending = ((omega (arith, f.placed.row_in), f.placed.is_held), tt) }, inl f.framed.sized.length_is)
  passes (opening x) z =
      let f = (row_opened s l x.r x.blocks z).checked in (
        record { moving = (((omega (arith, f.placed.row_in), f.placed.is_held), tt), tt); ready = (tt, tt); sending = tt },
        inl (open_framed s l x.r x.blocks f).sized.length_is,
      )
  passes (linear x) z = let f = summed s l x.r x.a x.b x.scale x.fee z in let k = f.placed in (
    record {
      moving = (
        (
          record {
            r_low = omega (arith, k.row_in);
            r_empty = k.is_empty;
            held = ((omega (arith, k.a_in), k.a_held), ((omega (arith, k.b_in), k.b_held), (k.fee_low, tt)));
          },
          tt,
        ),
        tt,
      );
      ready = (tt, tt);
      sending = tt;
    },
    inl f.framed.sized.length_is,
  )
  passes (masks x) z =
      let f = masks_made s l x.a x.b x.r x.lent z in
      let m = multiplying x.a x.b x.r unused f.placed.factors in
      (record { moving = ((tt, m), tt); ready = (tt, tt); sending = ((m, inl refl), tt) }, inl f.framed.sized.length_is)
  passes (collect x) z =
      let f = (collected s l x.r x.blocks_a x.blocks_b z).checked in
      let m = multiplying _ _ x.r masked f.placed.factors in (
        record { moving = ((m, tt), tt); ready = (m, tt); sending = tt },
        inl (collect_framed s l x.r x.blocks_a x.blocks_b f).sized.length_is,
      )
  passes (multiply x) z =
      let f = multiplied s l x.r z in
      let k = f.placed in
      let m : Tripled collectedMark M x.r =
      record { r_low = omega (arith, k.triple_in); first = k.first_mark; second = k.second_mark; third = k.third_mark; a_held = k.a_held; b_held = k.b_held } in
      (record { moving = ((m, tt), tt); ready = (tt, tt); sending = tt }, inl f.framed.sized.length_is)
  passes (relation_masks_of x) z =
      let f = relation_masks_made s l x.terms x.lent z in
      let fs = products_of x.terms in
      let h = all_map (λ t k. multiplying t.row t.second t.first unused k) fs f.placed.factors in (
        record {
          moving = allowed_masks fs M h (apart fs f.placed.once);
          ready = ready_masks fs M;
          sending = sending_masks (acts (relation_masks_of x)) M fs h (λ m a. a);
        },
        inl f.framed.sized.length_is,
      )
  passes (relation_finish_of x) z =
      let f = (relation_finished s x.terms x.r x.blocks l z).checked in (
        record {
          moving = finish_allowed x.terms x.r x.blocks f.placed _;
          ready = finish_ready x.terms x.r x.blocks f.placed _;
          sending = tt;
        },
        inl f.framed.sized.length_is,
      )
  passes (access x) z =
      (record { moving = ((tt, tt), tt); ready = (tt, tt); sending = tt }, inr (access_row (access_fields x.line), access_raw s x.line z))

  pub allowed : (c : Call) → refusal_of c (record { session = session_at plan draw i M Y; rows = l }) ≡ 0 → Allowed (acts c) (sends c) M
  allowed c z = (passes c z).0

  -- the list has its full length, or, where an A line was read, which is lent no list, a row is raw
  pub room : (c : Call) → refusal_of c (record { session = session_at plan draw i M Y; rows = l }) ≡ 0
      → (length l ≡ rows_length (plan_shape plan)) ⊎ ((r : ℕ) × (mark_of M r ≡ raw))
  room c z = (passes c z).1
