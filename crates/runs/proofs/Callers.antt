-- The sets that sessions keep are those of the calls, act by act.
use Prim.Native.Nat.{ℕ, zero, suc, ◌+◌, ◌*◌, ◌-◌, ◌/◌, ◌%◌, ◌^◌, ◌≤◌, ◌<◌}
use mathlib.Core.Path.{◌≡◌, refl, sym, ◌∙◌, ap, ap₂, subst}
use mathlib.Core.Logic.{◌≢◌}
use mathlib.Core.Bool.{Bool, true, false, not, ◌||◌, ◌&&◌}
use mathlib.Core.List.{List, [], ◌∷◌}
use native.Mathlib.Nat.{zero-div}
use native.Mathlib.Decide.{ℕ_discrete}
use native.Mathlib.Omega.{arith}
use lib.Dec.{eqb}
use lib.ListN.{length, get_or, set, length-replicate, get_or-replicate}
use lib.Seq.{get_or-set_same, get_or-set_other}
use Rattle.poly.specs.Counting.{All}
use Rattle.shape.specs.Bounds.{row_count_of}
use Rattle.callers.specs.Sets.{sets_length, bit_at, bars, shared, any_bars, Others, shared_all}
use Rattle.callers.proofs.Shared.{length_shared, length_all, shares_both, shares_all}
use Rattle.access.specs.Access.{access_fields, access_row, access_posts, access_sets}
use Rattle.access.specs.Claims.{listed}
use Rattle.access.proofs.Listed.{length_access, set_listed}
use Rattle.runs.specs.Outline.{Act, loads, loads_triple, deals, opens, Summand, once, times, fee, rows_in_of, sums, factors, collects, multiplies, admits}
use Rattle.runs.specs.Calls.{at}
use Rattle.runs.specs.Callers.{Sets, all_posts, all_have, set_by, set_all}
use Rattle.runs.proofs.Marks.{at_same, at_other, Marks, mark_of, remembered_a, remembered_b, Sized, marks_by, marks_all}
use Rattle.runs.proofs.Facts.{HeldIn, AllowedBy, AllowedAll}
use Rattle.runs.proofs.Rows.{marked_low, sized_by}
use Rattle.runs.proofs.Start.{start}

-- the numbers that sessions keep say who is not in a row's set, and the factor rows are those noted
pub record Tells (M : Marks) (X : Sets) : Type 0 where
  pub long : length M.sets ≡ sets_length
  pub bars_are : (r c : ℕ) → r < row_count_of → 1 ≤ c → c ≤ 255 → bars M.sets r c ≡ not (X.has r c)
  pub a_is : (r : ℕ) → r < row_count_of → remembered_a M r ≡ X.factor_a_is r
  pub b_is : (r : ℕ) → r < row_count_of → remembered_b M r ≡ X.factor_b_is r

-- ---- a new session

no_bit : (k : ℕ) → bit_at 0 k ≡ false
no_bit k = ap (λ (x : ℕ). eqb (x % 2) 1) (zero-div (2 ^ k))

pub tells_start : Tells start all_posts
unfolding start all_posts
tells_start = record {
  long = length-replicate {A = ℕ} 768 0;
  bars_are = λ r c lr lo hi. ap (λ (x : ℕ). bit_at x ((c - 1) % 32)) (get_or-replicate 768 (8 * r + (c - 1) / 32) 0 0 (omega arith)) ∙ no_bit ((c - 1) % 32);
  a_is = λ r lr. get_or-replicate row_count_of r 0 0 lr;
  b_is = λ r lr. get_or-replicate row_count_of r 0 0 lr;
}

-- ---- one act

de_morgan : (a b : Bool) → not a || not b ≡ not (a && b)
de_morgan true b = refl
de_morgan false b = refl

-- a function of two arguments changed at one place
has_same : (has : ℕ → ℕ → Bool) (r : ℕ) (new : ℕ → Bool) (c : ℕ) → at has r new r c ≡ new c
has_same has r new c = ap (λ (f : ℕ → Bool). f c) (at_same has r new)

has_other : (has : ℕ → ℕ → Bool) (r : ℕ) (new : ℕ → Bool) (q c : ℕ) → q ≢ r → at has r new q c ≡ has q c
has_other has r new q c n = ap (λ (f : ℕ → Bool). f c) (at_other has r new q n)

-- row r bars whom `new` does not have, every other row as before
module _ (M : Marks) (X : Sets) (h : Tells M X) (sets : List ℕ) (r : ℕ) (new : ℕ → Bool) where
  set_anew : ((c : ℕ) → 1 ≤ c → c ≤ 255 → r < row_count_of → bars sets r c ≡ not (new c)) → ((q c : ℕ) → 1 ≤ c → c ≤ 255 → q ≢ r → bars sets q c ≡ bars M.sets q c)
      → (q c : ℕ) → q < row_count_of → 1 ≤ c → c ≤ 255 → bars sets q c ≡ not (at X.has r new q c)
  set_anew here others q c lq lo hi = go (ℕ_discrete q r)
    where
      go : Dec (q ≡ r) → bars sets q c ≡ not (at X.has r new q c)
      go (yes e) =
          ap (λ (x : ℕ). bars sets x c) e ∙ here c lo hi (subst (λ (x : ℕ). x < row_count_of) e lq)
          ∙ ap not (sym (has_same X.has r new c)) ∙ ap (λ (x : ℕ). not (at X.has r new x c)) (sym e)
      go (no n) = others q c lo hi n ∙ h.bars_are q c lq lo hi ∙ ap not (sym (has_other X.has r new q c n))

-- the rows of a sum are held, and its own row is not
module _ (M : Marks) (r : ℕ) (empty-now : mark_of M r ≡ 0) where
  others_held : (ts : List Summand) → All (HeldIn M) ts → Others r (rows_in_of ts)
  others_held [] a = tt
  others_held (once a ∷ ts) (h, k) = ((λ e. omega (arith, ap (mark_of M) e, h.1)), others_held ts k)
  others_held (times s b ∷ ts) (h, k) = ((λ e. omega (arith, ap (mark_of M) e, h.1)), others_held ts k)
  others_held (fee k ∷ ts) (h, k') = others_held ts k'

-- whom one of a sum's rows bars
any_are : (M : Marks) (X : Sets) → Tells M X → (c : ℕ) → 1 ≤ c → c ≤ 255 → (ts : List Summand) → All (HeldIn M) ts
    → any_bars M.sets c (rows_in_of ts) ≡ not (all_have X.has (rows_in_of ts) c)
any_are M X h c lo hi [] a = refl
any_are M X h c lo hi (once r ∷ ts) (k, l) =
    ap₂ ◌||◌ (h.bars_are r c k.0 lo hi) (any_are M X h c lo hi ts l) ∙ de_morgan (X.has r c) (all_have X.has (rows_in_of ts) c)
any_are M X h c lo hi (times s r ∷ ts) (k, l) =
    ap₂ ◌||◌ (h.bars_are r c k.0 lo hi) (any_are M X h c lo hi ts l) ∙ de_morgan (X.has r c) (all_have X.has (rows_in_of ts) c)
any_are M X h c lo hi (fee x ∷ ts) (k, l) = any_are M X h c lo hi ts l

-- a place of a list set, and of a function
noted : (l : List ℕ) (f : ℕ → ℕ) (r a : ℕ) → length l ≡ row_count_of → r < row_count_of → ((q : ℕ) → q < row_count_of → get_or l q 0 ≡ f q)
    → (q : ℕ) → q < row_count_of → get_or (set l r a) q 0 ≡ at f r a q
noted l f r a long lr h q lq = go (ℕ_discrete q r)
  where
    go : Dec (q ≡ r) → get_or (set l r a) q 0 ≡ at f r a q
    go (yes e) =
        ap (λ (x : ℕ). get_or (set l r a) x 0) e ∙ get_or-set_same l r a 0 (omega arith) ∙ sym (at_same f r a) ∙ ap (at f r a) (sym e)
    go (no n) = get_or-set_other l r q a 0 n ∙ h q lq ∙ sym (at_other f r a q n)

pub tells_by : (a : Act) (M : Marks) (X : Sets) → Sized M → AllowedBy a M → Tells M X → Tells (marks_by a M) (set_by a X)
tells_by (loads r) M X z al h = record { long = h.long; bars_are = h.bars_are; a_is = h.a_is; b_is = h.b_is }
tells_by (loads_triple r) M X z al h = record { long = h.long; bars_are = h.bars_are; a_is = h.a_is; b_is = h.b_is }
tells_by (deals r) M X z al h = record { long = h.long; bars_are = h.bars_are; a_is = h.a_is; b_is = h.b_is }
tells_by (opens r) M X z al h = record { long = h.long; bars_are = h.bars_are; a_is = h.a_is; b_is = h.b_is }
tells_by (sums r t ts) M X z al h =
    let k = al.0 in
    let o = others_held M r k.r_empty (t ∷ ts) k.held in
    record {
      long = length_all M.sets r (rows_in_of (t ∷ ts)) ∙ h.long;
      bars_are = set_anew M X h (shared_all M.sets r (rows_in_of (t ∷ ts))) r (all_have X.has (rows_in_of (t ∷ ts)))
          (λ c lo hi lr. (shares_all M.sets r (rows_in_of (t ∷ ts)) c h.long lr o lo hi).0 ∙ any_are M X h c lo hi (t ∷ ts) k.held)
          (λ q c lo hi n. (shares_all M.sets r (rows_in_of (t ∷ ts)) c h.long k.r_low o lo hi).1 q n);
      a_is = h.a_is;
      b_is = h.b_is;
    }
tells_by (factors a b r) M X z al h = record {
  long = h.long;
  bars_are = h.bars_are;
  a_is = noted M.factor_a_is X.factor_a_is r a z.factor_a_is (omega (arith, al.1.r_low)) h.a_is;
  b_is = noted M.factor_b_is X.factor_b_is r b z.factor_b_is (omega (arith, al.1.r_low)) h.b_is;
}
tells_by (collects r) M X z al h = record { long = h.long; bars_are = h.bars_are; a_is = h.a_is; b_is = h.b_is }
tells_by (multiplies r) M X z al h =
    let k = al.0 in
    let low : r < row_count_of = omega (arith, k.r_low) in
    let third : r + 2 < row_count_of = omega (arith, k.r_low) in
    let one : (c : ℕ) → 1 ≤ c → c ≤ 255 → bars M.sets (remembered_a M r) c ≡ not (X.has (X.factor_a_is r) c)
    = λ c lo hi. h.bars_are (remembered_a M r) c (marked_low M z (remembered_a M r) k.a_held) lo hi ∙ ap (λ (x : ℕ). not (X.has x c)) (h.a_is r low) in
    let two : (c : ℕ) → 1 ≤ c → c ≤ 255 → bars M.sets (remembered_b M r) c ≡ not (X.has (X.factor_b_is r) c)
    = λ c lo hi. h.bars_are (remembered_b M r) c (marked_low M z (remembered_b M r) k.b_held) lo hi ∙ ap (λ (x : ℕ). not (X.has x c)) (h.b_is r low) in
    record {
      long = length_shared M.sets (r + 2) (remembered_a M r) (remembered_b M r) 8 ∙ h.long;
      bars_are = set_anew M X h (shared 8 M.sets (r + 2) (remembered_a M r) (remembered_b M r)) (r + 2) (λ c. X.has (X.factor_a_is r) c && X.has (X.factor_b_is r) c)
          (λ c lo hi lr.
          (shares_both M.sets (r + 2) (remembered_a M r) (remembered_b M r) c h.long third lo hi).0 ∙ ap₂ ◌||◌ (one c lo hi) (two c lo hi)
          ∙ de_morgan (X.has (X.factor_a_is r) c) (X.has (X.factor_b_is r) c))
          (λ q c lo hi n. (shares_both M.sets (r + 2) (remembered_a M r) (remembered_b M r) c h.long third lo hi).1 q n);
      a_is = h.a_is;
      b_is = h.b_is;
    }
tells_by (admits line) M X z al h = record {
  long = length_access line M.sets ∙ h.long;
  bars_are = set_anew M X h (access_sets line M.sets) (access_row (access_fields line)) (λ c. listed c (access_posts (access_fields line)))
      (λ c lo hi lr. (set_listed line M.sets c h.long lo hi).0 lr)
      (λ q c lo hi n. (set_listed line M.sets c h.long lo hi).1 q n);
  a_is = h.a_is;
  b_is = h.b_is;
}

-- ---- one act after the other

pub tells_all : (todo : List Act) (M : Marks) (X : Sets) → Sized M → AllowedAll todo M → Tells M X → Tells (marks_all todo M) (set_all todo X)
tells_all [] M X z al h = h
tells_all (a ∷ todo) M X z al h = tells_all todo (marks_by a M) (set_by a X) (sized_by a M z) al.1 (tells_by a M X z al.0 h)
