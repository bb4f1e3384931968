-- A change, letter by letter: what it hands back is what the order leads to.
use Prim.Native.Nat.{ℕ, zero, suc, ◌+◌}
use mathlib.Core.Path.{◌≡◌, refl, ap, sym, ◌∙◌}
use mathlib.Core.List.{List, []}
use mathlib.Core.Bool.{Bool, false}
use native.Mathlib.Omega.{arith}
use lib.ListN.{get_or, take, drop, replicate}
use lib.Dec.{eqb}
use Rattle.shape.specs.declared.Shape.{Shape}
use Rattle.shape.specs.Lengths.{masks_length, row_length, triple_length}
use Rattle.refusal.specs.Refusal.{outcome}
use Rattle.forms.specs.Lines as Lines
use Rattle.session.specs.declared.Session.{Session}
use Rattle.session.specs.declared.Answer.{Answer}
use Rattle.session.specs.Sessions.{shape_of, answer, masked_triple}
use Rattle.load.specs.Load.{load_row_answer, load_row_rows_of, load_triple_answer, load_triple_rows_of}
use Rattle.deal.specs.Deal.{deal_answer, deal_rows_of}
use Rattle.product_masks.specs.Masks.{masks_refusal_of}
use Rattle.access.specs.Access.{access_answer}
use Rattle.street_store.specs.Sizes.{masks_a_at, masks_b_at}
use Rattle.street_store.specs.Records.{record_for}
use Rattle.street_states.specs.States.{After, answering, leaving, rows_of, with_rows, settled}
use Rattle.street_states.proofs.Calling.{answer_refusal}
use Rattle.street_startlines.specs.Between.{start_answer}
use Rattle.street_startlines.proofs.Settings.{start_begun}
use Rattle.street_rowlines.specs.Loads.{loading, loading_triple}
use Rattle.street_rowlines.specs.Steps.{sum_answer, sum_rows_of, adding}
use Rattle.street_finishlines.specs.Masks.{masking, masking_of}
use Rattle.street_finishlines.specs.Between.{Masked}
use Rattle.street_finishlines.specs.Steps.{pair_answer, pair_rows, finishing}
use Rattle.street_orders.specs.declared.Order.{Order}
use Rattle.street_steps.specs.Stepping.{access_step}
use Rattle.street_orders.specs.Orders.{changing}
use Rattle.street_interpreter.specs.Changes.{held, changed, Brief, Changed, Finished, Alone}
use Rattle.street_steps.proofs.Letters.{only_masks}

-- ---- a call of the library on the session's rows
value_none : (x : ℕ) (new old : Session) → (answer x 0 new old).value ≡ 0
unfolding outcome
value_none zero new old = refl
value_none (suc k) new old = refl

settled_same : (x : ℕ) (new old : Session) → settled old (answer x 0 new old) ≡ answer x 0 new old
unfolding outcome
settled_same zero new old = refl
settled_same (suc k) new old = refl

stays_as : (x : ℕ) (new s : Session) (a : Answer) → a ≡ answer x 0 new s → a.session ≡ (settled s a).session
stays_as x new s a r = ap (λ (z : Answer). z.session) (r ∙ sym (settled_same x new s) ∙ sym (ap (settled s) r))

masks_end : (s : Session) (b : Bool) (k triple : ℕ) (store : List ℕ) (x : ℕ) (new : Session) (t t' : List ℕ) → (x ≡ 0 → t ≡ t')
    → (let a = answer x 0 new s in
    ◌≡◌ {A = After}
    (record { given = record { state = held (settled s a).session b k triple; refusal = (settled s a).refusal; value = 0 }; store = store; told = outcome a.refusal t [] })
    (outcome x (record { given = answering (held s b k triple) a; store = store; told = t' }) (leaving (answering (held s b k triple) a) store)))
unfolding outcome
masks_end s b k triple store zero new t t' f =
    ap (λ (l : List ℕ). record { given = record { state = held new b k triple; refusal = 0; value = 0 }; store = store; told = l }) (f refl)
masks_end s b k triple store (suc j) new t t' f = refl

module _ (s : Session) (started : Bool) (keptRow triple : ℕ) (letter : ℕ) (xs l ms : List ℕ) (a : Answer) where
  call_changed : (x : ℕ) (new : Session) → eqb letter 88 ≡ false → eqb letter 83 ≡ false → settled s a ≡ answer x 0 new s
      → changed (held s started keptRow triple) letter xs a l ms ≡ leaving (answering (held s started keptRow triple) (answer x 0 new s)) l
  unfolding changed
  call_changed x new p q e = rw (p, q, e, value_none x new s)

module _ (s : Session) (triple : ℕ) (o : Order) (xs line store : List ℕ) (a : Answer) (store' ms : List ℕ) where
  abbrev Done : Type 0
  Done = Changed s triple o xs line store a store' ms

  plain : (letter x : ℕ) (new : Session) → o.letter ≡ letter → eqb letter 88 ≡ false → eqb letter 83 ≡ false → a ≡ answer x 0 new s
      → ((b : Bool) (k : ℕ) → leaving (answering (held s b k triple) (answer x 0 new s)) store' ≡ changing (held s b k triple) store o xs line) → Done
  plain letter x new e p q r f =
      record {
        says = λ b k n.
            call_changed s b k triple o.letter xs store' ms a x new (rw e p) (rw e q) (ap (settled s) r ∙ settled_same x new s) ∙ f b k;
        stays = stays_as x new s a r;
        post_in = λ z. absurd (no88 (rw (sym e ∙ z) at p));
      }
    where
      no88 : eqb 88 88 ≡ false → ⊥
      no88 h = let y : ◌≡◌ {A = ℕ} 0 1 = cc in omega arith

  pub change_deal : o.letter ≡ 68 → a ≡ deal_answer s (rows_of s store) o.row (get_or xs 0 0)
      → store' ≡ with_rows s (deal_rows_of s (rows_of s store) o.row (get_or xs 0 0)) store → Done
  unfolding changing
  change_deal e q r = plain 68 _ _ e refl refl q (λ b k. rw (e, r))

  module _ (g : Shape) (d : g ≡ shape_of s) (k : ℕ) where
    abbrev ys : List ℕ
    ys = take (1 + k) xs

    pub change_load : k ≡ row_length g → o.letter ≡ 82 → a ≡ load_row_answer s (rows_of s store) (get_or ys 0 0) (drop 1 ys)
        → store' ≡ with_rows s (load_row_rows_of s (rows_of s store) (get_or ys 0 0) (drop 1 ys)) store → Done
    unfolding changing loading
    change_load w e q r = let v : k ≡ row_length (shape_of s) = w ∙ ap row_length d in plain 82 _ _ e refl refl q (λ b j. rw (e, r, v))

    pub change_triple : k ≡ triple_length g → o.letter ≡ 84 → a ≡ load_triple_answer s (rows_of s store) (get_or ys 0 0) (drop 1 ys)
        → store' ≡ with_rows s (load_triple_rows_of s (rows_of s store) (get_or ys 0 0) (drop 1 ys)) store → Done
    unfolding changing loading_triple
    change_triple w e q r = let v : k ≡ triple_length (shape_of s) = w ∙ ap triple_length d in plain 84 _ _ e refl refl q (λ b j. rw (e, r, v))

  pub change_sum : o.letter ≡ 76 → a ≡ sum_answer s (rows_of s store) xs → store' ≡ with_rows s (sum_rows_of s (rows_of s store) xs) store → Done
  unfolding changing adding
  change_sum e q r = plain 76 _ _ e refl refl q (λ b k. rw (e, r))

  pub change_finish : (first : ℕ) → first ≡ get_or xs 0 0 → o.letter ≡ 70
      → settled s a ≡ pair_answer s (rows_of s store) first (record_for masks_a_at (shape_of s) triple first store) (record_for masks_b_at (shape_of s) triple first store)
      → store' ≡ with_rows s (pair_rows s (rows_of s store) first (record_for masks_a_at (shape_of s) triple first store) (record_for masks_b_at (shape_of s) triple first store)) store
      → a.session ≡ (settled s a).session → Done
  unfolding changing finishing
  change_finish first w e q r z =
      record {
        says = λ b k n.
            call_changed s b k triple o.letter xs store' ms a _ _ (rw e) (rw e) q ∙ rw (e, r, ← w);
        stays = z;
        post_in = λ u. absurd (let y : 70 ≡ 88 = sym e ∙ u in omega arith);
      }

  pub change_access : o.letter ≡ 65 → a ≡ access_answer s line → store' ≡ store → Done
  unfolding changing access_step
  change_access e q r = plain 65 _ _ e refl refl q (λ b k. rw (e, r))

  pub change_start : o.letter ≡ 83 → settled s a ≡ settled s (start_answer line) → a.session ≡ (settled s a).session → store' ≡ store → Done
  unfolding changing changed
  change_start e q z r =
      record {
        says = λ b k n. rw (e, q, r) (ap (λ (v : _). leaving v store) (start_begun (held s b k triple) (n e) line));
        stays = z;
        post_in = λ u. absurd (let y : 83 ≡ 88 = sym e ∙ u in omega arith);
      }

  -- ---- an `X` prints its M line
  pub change_masks : Brief o.letter → (o.letter ≡ 68 → ⊥) → (o.letter ≡ 82 → ⊥) → (o.letter ≡ 84 → ⊥) → (o.letter ≡ 76 → ⊥)
      → Masked s store (get_or xs 0 0) (get_or xs 1 0) (get_or xs 2 0) a ms → store' ≡ store → Done
  unfolding changing masking_of masking changed
  change_masks w a₁ b₁ c₁ d₁ m r =
      let e : o.letter ≡ 88 = only_masks o.letter w.changes a₁ b₁ c₁ d₁ w.no_a w.no_f w.no_s in
      let x : ℕ = masks_refusal_of s (rows_of s store) (get_or xs 0 0) (get_or xs 1 0) (get_or xs 2 0) (replicate (masks_length (shape_of s)) 0) in
      let new : Session = masked_triple s (get_or xs 2 0) (get_or xs 0 0) (get_or xs 1 0) in
      record {
        says = λ b k n.
            rw (e, r)
            (ap (λ (z : Answer). changed (held s b k triple) 88 xs z store ms) m.answer_is
            ∙ masks_end s b k triple store x new _ _
            (λ z. ap (λ (l : List ℕ). Lines.text (Lines.masks (get_or xs 2 0) s.post l)) (m.made (ap (λ (y : Answer). y.refusal) m.answer_is ∙ answer_refusal x 0 new s ∙ z))));
        stays = stays_as x new s a m.answer_is;
        post_in = λ z. m.post_in;
      }

-- ---- the changes that are functions of their own
module _ (s : Session) (o : Order) (a r : Answer) (u : settled s r ≡ settled s a) (z : r.session ≡ (settled s a).session) where
  stays_so : r.session ≡ (settled s r).session
  stays_so = z ∙ sym (ap (λ (x : Answer). x.session) u)

  pub finish_ends : (triple : ℕ) (xs store store' : List ℕ) (first : ℕ) → first ≡ get_or xs 0 0 → o.letter ≡ 70
      → settled s a ≡ pair_answer s (rows_of s store) first (record_for masks_a_at (shape_of s) triple first store) (record_for masks_b_at (shape_of s) triple first store)
      → store' ≡ with_rows s (pair_rows s (rows_of s store) first (record_for masks_a_at (shape_of s) triple first store) (record_for masks_b_at (shape_of s) triple first store)) store
      → Finished s triple o xs store r store'
  finish_ends triple xs store store' first w e q v =
      record { says = λ line ms. change_finish s triple o xs line store r store' ms first w e (u ∙ q) v stays_so }

  pub start_ends : (line : List ℕ) → o.letter ≡ 83 → a ≡ start_answer line → Alone s o line r
  start_ends line e q =
      record { says = λ triple xs store ms. change_start s triple o xs line store r store ms e (u ∙ ap (settled s) q) stays_so refl }

pub admit_ends : (s : Session) (o : Order) (line : List ℕ) (r : Answer) → o.letter ≡ 65 → r ≡ access_answer s line → Alone s o line r
admit_ends s o line r e q = record { says = λ triple xs store ms. change_access s triple o xs line store r store ms e q refl }
