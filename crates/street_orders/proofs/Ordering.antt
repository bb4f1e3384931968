-- The order of a line leads to what the line does: letter by letter.
use Prim.Native.Nat.{ℕ, zero, suc, ◌+◌, ◌≤◌, ◌<◌}
use mathlib.Core.Path.{◌≡◌, refl, ap, sym, ◌∙◌}
use mathlib.Core.List.{List, [], ◌∷◌, ◌++◌}
use mathlib.Core.Bool.{Bool, true, false, cond}
use native.Mathlib.Omega.{arith}
use borrow.Author.Tests.{lt-ltb, le-ltb, ne_eqb}
use lib.ListN.{length, get_or, take, drop, get_or-eq_default}
use lib.Seq.{take_at, length-take-le, get_or-take}
use Rattle.shape.specs.declared.Shape.{Shape}
use Rattle.shape.specs.Bounds.{last_row_at, last_triple}
use Rattle.shape.specs.Lengths.{row_length, triple_length}
use Rattle.refusal.specs.Refusal.{outcome}
use Rattle.refusal.proofs.Endings.{refused, accepted}
use Rattle.session.specs.Sessions.{shape_of}
use Rattle.street_store.specs.Sizes.{InStreet, numbers_room, longest_line}
use Rattle.street_store.proofs.Keeping.{row_room}
use Rattle.street_reading.specs.Numbers.{numbers, read_refusal}
use Rattle.street_reading.specs.Between.{Taken}
use Rattle.street_states.specs.declared.State.{State}
use Rattle.street_states.specs.States.{After, refusing, leaving, unless}
use Rattle.street_startlines.specs.Steps.{early_step}
use Rattle.street_rowlines.specs.Loads.{loading, load_step, loading_triple, load_triple_step}
use Rattle.street_rowlines.specs.Steps.{adding, linear_step, opening, open_step}
use Rattle.street_finishlines.specs.Masks.{masking_of, mask_step}
use Rattle.street_finishlines.specs.Steps.{finishing, finish_step}
use Rattle.street_reading.specs.Starting.{is_start_of}
use Rattle.street_orders.specs.declared.Order.{Order}
use Rattle.street_steps.specs.Stepping.{access_step, letters_step, late_step, step}
use Rattle.street_orders.specs.Orders.{refused_order, order_of, early_order, changing, looking, acting, Numbered, is_kept, Leads, lettered, lated, Accepted, Reads}

-- ---- before a start line
pub early_start : (s : List ℕ) (b : Bool) (o : Order) → b ≡ is_start_of s → b ≡ true → o ≡ order_of 83 0 → o ≡ early_order s
early_start s b o e t q = q ∙ rw (← e, t)

pub early_other : (s : List ℕ) (b : Bool) (o : Order) → b ≡ is_start_of s → b ≡ false → o ≡ refused_order 1 → o ≡ early_order s
early_other s b o e t q = q ∙ rw (← e, t)

-- ---- the numbers of a line
pub ordered_refused : (letter x : ℕ) (o : Order) → (x ≡ 0 → ⊥) → o ≡ refused_order x → o ≡ order_of letter x
ordered_refused letter x o n q = q ∙ refused x x _ (refused_order x) refl n

pub ordered_fine : (letter x : ℕ) → x ≡ 0 → ◌≡◌ {A = Order} (record { letter = letter; refusal = 0; row = 0; post = 0 }) (order_of letter x)
ordered_fine letter x z = accepted x x (record { letter = letter; refusal = 0; row = 0; post = 0 }) _ (refused_order x) refl z refl

pub numbers_prefix : (xs : List ℕ) (k : ℕ) → k ≤ length xs → k ≡ length (take k xs)
numbers_prefix xs k h = sym (length-take-le k xs h)

pub lasts_in : (lasts xs : List ℕ) (k : ℕ) → length lasts ≤ k → k ≤ length xs → length lasts ≤ length (take k xs)
lasts_in lasts xs k h l = omega (arith, length-take-le k xs l)

pub numbered_is : (letter : ℕ) (lasts s xs part : List ℕ) (k r : ℕ) (o : Order) → k ≤ length xs → r ≡ read_refusal lasts (length (take k xs)) s
    → Taken r (length (take k xs)) s part → length part ≡ length (take k xs)
    → o ≡ order_of letter r → Numbered letter lasts k s o (part ++ drop k xs)
numbered_is letter lasts s xs part k r o h e f m q =
    let l : length (take k xs) ≡ k = length-take-le k xs h in
    let e' : r ≡ read_refusal lasts k s = rw l at e in
    record {
      order_is = q ∙ ap (order_of letter) e';
      numbers_are = λ z. take_at part (drop k xs) k (m ∙ l) ∙ f.numbers_are (e' ∙ z) ∙ ap (λ (j : ℕ). numbers j s) l;
    }

-- ---- room for them
pub row_count : (g : Shape) (xs : List ℕ) (k : ℕ) → InStreet g → length xs ≡ numbers_room → k ≡ row_length g → 1 + k ≤ length xs
row_count g xs k i l e = omega (arith, l, e, row_room g i)

pub triple_count : (g : Shape) (xs : List ℕ) (k : ℕ) → InStreet g → length xs ≡ numbers_room → k ≡ triple_length g → 1 + k ≤ length xs
triple_count g xs k i l e = omega (arith, l, e, row_room g i)

-- ---- a line that is refused when it is read
refused_acts : (st : State) (store xs s : List ℕ) (x : ℕ) → acting st store (refused_order x) xs s ≡ leaving (refusing st x) store
unfolding looking
refused_acts st store xs s x = refl

pub refused_leads : (g : Shape) (s xs : List ℕ) (x : ℕ) (new : State → List ℕ → After)
    → ((st : State) (store : List ℕ) → new st store ≡ leaving (refusing st x) store) → Leads g s (refused_order x) xs new
refused_leads g s xs x new f =
    record {
      says = λ st store d. refused_acts st store xs s x ∙ sym (f st store);
      post_in = λ (k : false ≡ true). absurd (let z : ◌≡◌ {A = ℕ} 0 1 = cc in omega arith);
      no_start = λ z. omega (arith, z);
    }

-- a letter with numbers: what it does where they are read, and 10 or 11
module _ (g : Shape) (s xs : List ℕ) (letter : ℕ) (new : State → List ℕ → After) (did : State → List ℕ → After) (kept : is_kept letter ≡ false)
    (start : letter ≡ 83 → ⊥) where
  abbrev whole : Order
  whole = record { letter = letter; refusal = 0; row = 0; post = 0 }

  number_leads : (x : ℕ) → ((st : State) (store : List ℕ) → shape_of st.session ≡ g → new st store ≡ unless x st store (did st store))
      → (x ≡ 0 → (st : State) (store : List ℕ) → shape_of st.session ≡ g → acting st store whole xs s ≡ did st store) → Leads g s (order_of letter x) xs new
  unfolding outcome
  number_leads zero f h =
      record {
        says = λ st store d. h refl st store d ∙ sym (f st store d);
        post_in = λ k. absurd (let z : ◌≡◌ {A = Bool} true false = sym k ∙ kept in let y : ◌≡◌ {A = ℕ} 0 1 = cc in omega arith);
        no_start = start;
      }
  number_leads (suc k) f h =
      record {
        says = λ st store d. refused_acts st store xs s (suc k) ∙ sym (f st store d);
        post_in = λ (k : false ≡ true). absurd (let z : ◌≡◌ {A = ℕ} 0 1 = cc in omega arith);
        no_start = λ z. omega (arith, z);
      }

module _ (g : Shape) (s xs : List ℕ) (o : Order) where
  pub leads_load : (k : ℕ) → k ≡ row_length g → get_or s 0 0 ≡ 82 → Numbered 82 (last_row_at ∷ []) (1 + k) s o xs → Leads g s o xs (lettered s)
  unfolding changing letters_step load_step
  leads_load k e l n =
      rw n.order_is
      (number_leads g s xs 82 (lettered s) (λ st store. loading st store (numbers (1 + k) s)) refl (λ z. omega (arith, z)) (read_refusal (last_row_at ∷ []) (1 + k) s)
      (λ st store d. let w : row_length (shape_of st.session) ≡ k = ap row_length d ∙ sym e in
      rw l (ap (λ (j : ℕ). unless (read_refusal (last_row_at ∷ []) (1 + j) s) st store (loading st store (numbers (1 + j) s))) w))
      (λ z st store d. let w : row_length (shape_of st.session) ≡ k = ap row_length d ∙ sym e in
      ap (λ (j : ℕ). loading st store (take (1 + j) xs)) w ∙ ap (loading st store) (n.numbers_are z)))

  pub leads_triple : (k : ℕ) → k ≡ triple_length g → get_or s 0 0 ≡ 84 → Numbered 84 (last_triple ∷ []) (1 + k) s o xs → Leads g s o xs (lettered s)
  unfolding changing letters_step load_triple_step
  leads_triple k e l n =
      rw n.order_is
      (number_leads g s xs 84 (lettered s) (λ st store. loading_triple st store (numbers (1 + k) s)) refl (λ z. omega (arith, z)) (read_refusal (last_triple ∷ []) (1 + k) s)
      (λ st store d. let w : triple_length (shape_of st.session) ≡ k = ap triple_length d ∙ sym e in
      rw l (ap (λ (j : ℕ). unless (read_refusal (last_triple ∷ []) (1 + j) s) st store (loading_triple st store (numbers (1 + j) s))) w))
      (λ z st store d. let w : triple_length (shape_of st.session) ≡ k = ap triple_length d ∙ sym e in
      ap (λ (j : ℕ). loading_triple st store (take (1 + j) xs)) w ∙ ap (loading_triple st store) (n.numbers_are z)))

  pub leads_open : get_or s 0 0 ≡ 71 → Numbered 71 (last_row_at ∷ []) 1 s o xs → Leads g s o xs (lettered s)
  unfolding looking letters_step open_step
  leads_open l n =
      rw n.order_is
      (number_leads g s xs 71 (lettered s) (λ st store. opening st store (numbers 1 s)) refl (λ z. omega (arith, z)) (read_refusal (last_row_at ∷ []) 1 s)
      (λ st store d. rw l) (λ z st store d. ap (λ (j : ℕ). opening st store (j ∷ [])) (sym (get_or-take 1 xs 0 0 (omega arith)) ∙ ap (λ (ys : List ℕ). get_or ys 0 0) (n.numbers_are z))))

  pub leads_finish : get_or s 0 0 ≡ 70 → Numbered 70 (last_triple ∷ []) 1 s o xs → Leads g s o xs (lettered s)
  unfolding changing letters_step finish_step
  leads_finish l n =
      rw n.order_is
      (number_leads g s xs 70 (lettered s) (λ st store. finishing st store (get_or (numbers 1 s) 0 0)) refl (λ z. omega (arith, z)) (read_refusal (last_triple ∷ []) 1 s)
      (λ st store d. rw l) (λ z st store d. ap (finishing st store) (sym (get_or-take 1 xs 0 0 (omega arith)) ∙ ap (λ (ys : List ℕ). get_or ys 0 0) (n.numbers_are z))))

  pub leads_sum : get_or s 0 0 ≡ 76 → Numbered 76 (last_row_at ∷ last_row_at ∷ last_row_at ∷ []) 5 s o xs → Leads g s o xs (lettered s)
  unfolding changing letters_step linear_step adding
  leads_sum l n =
      rw n.order_is
      (number_leads g s xs 76 (lettered s) (λ st store. adding st store (numbers 5 s)) refl (λ z. omega (arith, z)) (read_refusal (last_row_at ∷ last_row_at ∷ last_row_at ∷ []) 5 s)
      (λ st store d. rw l)
      (λ z st store d.
      rw (← n.numbers_are z, get_or-take 5 xs 0 0 (omega arith), get_or-take 5 xs 1 0 (omega arith), get_or-take 5 xs 2 0 (omega arith), get_or-take 5 xs 3 0 (omega arith), get_or-take 5 xs 4 0 (omega arith))))

  pub leads_masks : get_or s 0 0 ≡ 88 → Numbered 88 (last_row_at ∷ last_row_at ∷ last_triple ∷ []) 3 s o xs → Leads g s o xs (lettered s)
  unfolding changing mask_step masking_of
  leads_masks l n =
      rw n.order_is
      (number_leads g s xs 88 (lettered s) (λ st store. masking_of st store (numbers 3 s)) refl (λ z. omega (arith, z)) (read_refusal (last_row_at ∷ last_row_at ∷ last_triple ∷ []) 3 s)
      (λ st store d. rw l)
      (λ z st store d. rw (← n.numbers_are z, get_or-take 3 xs 0 0 (omega arith), get_or-take 3 xs 1 0 (omega arith), get_or-take 3 xs 2 0 (omega arith))))

  pub leads_access : get_or s 0 0 ≡ 65 → o ≡ order_of 65 0 → Leads g s o xs (lettered s)
  unfolding changing letters_step outcome
  leads_access l q =
      rw q
      (number_leads g s xs 65 (lettered s) (λ st store. access_step st store s) refl (λ z. omega (arith, z)) 0 (λ st store d. rw l) (λ z st store d. refl))

  pub leads_other : (get_or s 0 0 ≡ 82 → ⊥) → (get_or s 0 0 ≡ 84 → ⊥) → (get_or s 0 0 ≡ 71 → ⊥) → (get_or s 0 0 ≡ 76 → ⊥) → (get_or s 0 0 ≡ 70 → ⊥)
      → (get_or s 0 0 ≡ 88 → ⊥) → (get_or s 0 0 ≡ 65 → ⊥) → (get_or s 0 0 ≡ 68 → ⊥) → (get_or s 0 0 ≡ 79 → ⊥) → (get_or s 0 0 ≡ 77 → ⊥) → o ≡ refused_order 10 → Leads g s o xs (lettered s)
  unfolding letters_step
  leads_other a b c d e i k f h j q =
      rw q
      (refused_leads g s xs 10 (lettered s)
      (λ st store.
      rw (ne_eqb (get_or s 0 0) 88 i, ne_eqb (get_or s 0 0) 82 a, ne_eqb (get_or s 0 0) 84 b, ne_eqb (get_or s 0 0) 71 c, ne_eqb (get_or s 0 0) 76 d, ne_eqb (get_or s 0 0) 70 e, ne_eqb (get_or s 0 0) 65 k, ne_eqb (get_or s 0 0) 68 f, ne_eqb (get_or s 0 0) 79 h, ne_eqb (get_or s 0 0) 77 j)))

  -- ---- the line's length
  pub leads_long : longest_line < length s → o ≡ refused_order 10 → Leads g s o xs (lated s)
  unfolding late_step
  leads_long h q = rw q (refused_leads g s xs 10 (lated s) (λ st store. rw (lt-ltb longest_line (length s) h)))

  module _ (h : length s ≤ longest_line) where
    pub leads_empty : length s < 1 → o ≡ refused_order 10 → Leads g s o xs (lated s)
    unfolding late_step letters_step
    leads_empty z q =
        let l : length s ≤ 0 = omega arith in
        rw q (refused_leads g s xs 10 (lated s) (λ st store. rw (le-ltb longest_line (length s) h, get_or-eq_default s 0 l)))

    pub leads_late : Leads g s o xs (lettered s) → Leads g s o xs (lated s)
    unfolding late_step
    leads_late d = record { says = λ st store e. d.says st store e ∙ rw (le-ltb longest_line (length s) h); post_in = d.post_in; no_start = d.no_start }

  -- ---- before and after a start line
  pub accepted_street : (started : Bool) → Accepted started g → started ≡ true → InStreet g
  accepted_street started a t = a.in_range t

  pub reads_late : (started : Bool) → started ≡ true → Leads g s o xs (lated s) → Reads started g s o xs
  unfolding step
  reads_late started t d =
      record {
        says = λ st store e f. d.says st store f ∙ rw (e ∙ t);
        post_in = d.post_in;
        late = λ n m. t;
        early = λ z. absurd (d.no_start z);
      }

  pub reads_early : (started : Bool) → started ≡ false → o ≡ early_order s → Reads started g s o xs
  unfolding step early_step outcome changing looking
  reads_early started t q = rw q (go (is_start_of s) refl)
    where
      go : (b : Bool) → is_start_of s ≡ b → Reads started g s (cond b (order_of 83 0) (refused_order 1)) xs
      go true e = record { says = λ st store f d. rw (f ∙ t, e); post_in = λ (k : false ≡ true). absurd (let z : ◌≡◌ {A = ℕ} 0 1 = cc in omega arith); late = λ n m. absurd (n refl); early = λ z. t }
      go false e = record { says = λ st store f d. rw (f ∙ t, e); post_in = λ (k : false ≡ true). absurd (let z : ◌≡◌ {A = ℕ} 0 1 = cc in omega arith); late = λ n m. absurd (m refl); early = λ z. t }
