-- Start lines: each way in which their scan ends.
use Prim.Native.Nat.{ℕ, zero, suc, ◌+◌, ◌-◌, ◌≤◌, ◌<◌, ◌^◌}
use mathlib.Core.Path.{◌≡◌, refl, ap, sym, ◌∙◌}
use mathlib.Core.List.{List, [], ◌∷◌}
use mathlib.Core.Bool.{Bool, true, false, ◌&&◌, cond}
use native.Mathlib.Omega.{arith}
use borrow.Author.Tests.{lt-ltb, le-ltb, ne_eqb, eqb-true}
use mir.Syntax.{w64}
use mir.Val.{Fits}
use lib.ListN.{length, get_or, get_or-eq_default}
use lib.Dec.{eqb}
use Rattle.shape.specs.Bounds.{most_points}
use Rattle.decimal.proofs.Positions.{inside}
use Rattle.decimal.proofs.Digits.{and_true}
use Rattle.std.specs.Prelude.{Option, Some, None}
use Rattle.csv_fields.specs.declared.Run.{Run}
use Rattle.csv_fields.specs.Fields.{Parsed, parsed, malformed, push, fields_at, ended, run, run_of}
use Rattle.csv_fields.proofs.Single.{first_found, first_broken}
use Rattle.street_reading.specs.declared.Settings.{Settings}
use Rattle.street_reading.specs.Starting.{starts_with, is_start_of, points_in_of, dash, dash_at_of, behind_posts, start_form, start_of, start_said}

-- ---- the first field
pub letter_s : (l : ℕ) → l ≡ 83 → true ≡ starts_with l
letter_s l e = rw e

pub letter_w : (l : ℕ) → l ≡ 87 → true ≡ starts_with l
letter_w l e = rw e

pub letter_none : (l : ℕ) → (l ≡ 83 → ⊥) → (l ≡ 87 → ⊥) → false ≡ starts_with l
letter_none l a b = rw (ne_eqb l 83 a, ne_eqb l 87 b)

module _ (s : List ℕ) where
  pub start_empty : length s < 1 → false ≡ is_start_of s
  start_empty h = let l : length s ≤ 0 = omega arith in rw (get_or-eq_default s 0 l)

  module _ (b : Bool) (w : b ≡ starts_with (get_or s 0 0)) where
    pub start_other : b ≡ false → false ≡ is_start_of s
    start_other e = rw (← w, e)

    module _ (e : b ≡ true) where
      pub start_bare : length s < 2 → true ≡ is_start_of s
      start_bare h = rw (← w, e, lt-ltb (length s) 2 h)

      module _ (h : 2 ≤ length s) where
        pub start_comma : get_or s 1 0 ≡ 44 → true ≡ is_start_of s
        start_comma c = rw (← w, e, le-ltb (length s) 2 h, c)

        pub start_feed : (get_or s 1 0 ≡ 44 → ⊥) → eqb (get_or s 1 0) 10 ≡ is_start_of s
        start_feed c = rw (← w, e, le-ltb (length s) 2 h, ne_eqb (get_or s 1 0) 44 c)

-- ---- how many check points
module _ (s : List ℕ) where
  pub points_empty : length s < 1 → 1 ≡ points_in_of s
  points_empty h = let l : length s ≤ 0 = omega arith in rw (get_or-eq_default s 0 l)

  pub points_two : get_or s 0 0 ≡ 87 → most_points ≡ points_in_of s
  points_two e = rw e

  pub points_one : (get_or s 0 0 ≡ 87 → ⊥) → 1 ≡ points_in_of s
  points_one n = rw (ne_eqb (get_or s 0 0) 87 n)

-- ---- the dash
module _ (s : List ℕ) (at : ℕ) where
  pub dash_past : length s ≤ at → false ≡ dash_at_of s at
  dash_past h = rw (get_or-eq_default s 0 h)

  pub dash_other : (get_or s at 0 ≡ 44 → ⊥) → false ≡ dash_at_of s at
  dash_other h = rw (ne_eqb (get_or s at 0) 44 h)

  pub dash_short : get_or s at 0 ≡ 44 → length s ≤ at + 1 → false ≡ dash_at_of s at
  dash_short e h = rw (e, get_or-eq_default s 0 h)

  pub dash_byte : get_or s at 0 ≡ 44 → eqb (get_or s (at + 1) 0) 45 ≡ dash_at_of s at
  dash_byte e = rw e

  pub dash_fits : (b : Bool) → length s < 2 ^ 64 → b ≡ dash_at_of s at → b ≡ true → Fits w64 (at + 2)
  dash_fits b l e h =
      let d = and_true (eqb (get_or s at 0) 44) (eqb (get_or s (at + 1) 0) 45) (sym e ∙ h) in
      omega (arith, inside s (at + 1) 44 (eqb-true (get_or s (at + 1) 0) 45 d.1))

-- ---- fields that end a line
pub no_run : {A : Type 0} (r : Run) → None ≡ Some r → A
no_run r e = let z : ◌≡◌ {A = ℕ} 0 1 = cc in absurd (omega arith)

pub same_some : (r q : Run) → Some r ≡ Some q → r ≡ q
same_some r q e = cc

pub ended_push : (s : List ℕ) (x : ℕ) (o : Parsed) → ended s (push x o) ≡ push x (ended s o)
ended_push s x malformed = refl
ended_push s x (parsed xs next) = go (eqb (get_or s next 0) 10 && eqb (length s) (next + 1))
  where
    go : (t : Bool) → cond t (parsed (x ∷ xs) next) malformed ≡ push x (cond t (parsed xs next) malformed)
    go true = refl
    go false = refl

pub ended_broken : (o : Parsed) → run_of o ≡ None → o ≡ malformed
ended_broken malformed e = refl
ended_broken (parsed xs next) e = no_run _ (sym e)

-- the line's end changes no field
pub same_run : (s : List ℕ) (o : Parsed) (r : Run) → run_of (ended s o) ≡ Some r → ended s o ≡ o
same_run s malformed r e = refl
same_run s (parsed xs next) r e = go (eqb (get_or s next 0) 10 && eqb (length s) (next + 1)) e
  where
    go : (t : Bool) → run_of (cond t (parsed xs next) malformed) ≡ Some r → cond t (parsed xs next) malformed ≡ parsed xs next
    go true e = refl
    go false e = no_run r e

last_one : (s : List ℕ) (at : ℕ) (r : Run) → run_of (ended s (fields_at 1 s at)) ≡ Some r
    → ended s (fields_at 1 s at) ≡ parsed (r.largest ∷ []) r.next
unfolding fields_at
last_one s at r e =
    let q = same_run s (fields_at 1 s at) r e in
    q ∙ first_found 0 s at r (sym (ap run_of (sym q) ∙ e))

last_none : (s : List ℕ) (at : ℕ) (r : Run) → run_of (ended s (fields_at 0 s at)) ≡ Some r
    → (ended s (fields_at 0 s at) ≡ parsed [] at) × (r.largest ≡ 0)
unfolding fields_at
last_none s at r e =
    let q = same_run s (fields_at 0 s at) r e in
    let z : run 0 at ≡ Some r = ap run_of (sym q) ∙ e in
    (q, sym (ap (λ (x : Run). x.largest) (same_some _ r z)))

-- ---- the check points
-- of at most one number the largest is the number, and of none it is 0
abbrev settled : ℕ → ℕ → ℕ → ℕ → ℕ → ℕ → Option Settings
settled points n t post first second = Some (record { n = n; t = t; post = post; points = points; first = first; second = second })

second_is : (k : ℕ) → k ≤ 1 → (s : List ℕ) (at points n t post first : ℕ) (r : Run) → run_of (ended s (fields_at k s at)) ≡ Some r
    → settled points n t post first r.largest ≡ start_of points (push n (push t (push post (push first (ended s (fields_at k s at))))))
second_is zero h s at points n t post first r e = let q = last_none s at r e in rw (q.0, q.1)
second_is (suc zero) h s at points n t post first r e = rw (last_one s at r e)
second_is (suc (suc k)) h s at points n t post first r e = absurd (omega arith)

module _ (s : List ℕ) (points n t post at : ℕ) (lo : 1 ≤ points) (hi : points ≤ most_points) (r : Option Run) (e : r ≡ run_of (fields_at 1 s at)) where
  abbrev theirs : Option Settings
  theirs = start_of points (push n (push t (push post (ended s (fields_at points s at)))))

  one_more : fields_at points s at ≡ fields_at (suc (points - 1)) s at
  one_more = let q : points ≡ suc (points - 1) = omega (arith, lo) in ap (λ (k : ℕ). fields_at k s at) q

  pub points_none : r ≡ None → (v : Option Settings) → v ≡ None → v ≡ theirs
  points_none w v q = q ∙ rw (one_more ∙ first_broken (points - 1) s at (sym w ∙ e))

  module _ (first : Run) (w : r ≡ Some first) (l : Option Run) (f : l ≡ run_of (ended s (fields_at (points - 1) s first.next))) where
    behind_first : ended s (fields_at points s at) ≡ push first.largest (ended s (fields_at (points - 1) s first.next))
    behind_first =
        ap (ended s) (one_more ∙ first_found (points - 1) s at first (sym w ∙ e)) ∙ ended_push s first.largest (fields_at (points - 1) s first.next)

    pub points_wrong : l ≡ None → (v : Option Settings) → v ≡ None → v ≡ theirs
    points_wrong x v q = q ∙ rw (behind_first, ended_broken (ended s (fields_at (points - 1) s first.next)) (sym f ∙ x))

    pub points_settings : (last : Run) → l ≡ Some last → settled points n t post first.largest last.largest ≡ theirs
    points_settings last x =
        second_is (points - 1) (omega (arith, hi)) s first.next points n t post first.largest last (sym f ∙ x)
        ∙ ap (λ (o : Parsed). start_of points (push n (push t (push post o)))) (sym behind_first)

-- ---- the post
module _ (s : List ℕ) (points n t at : ℕ) (r : Option Run) (e : r ≡ run_of (fields_at 1 s at)) where
  abbrev own : Option Settings
  own = start_of points (push n (push t (ended s (fields_at (suc points) s at))))

  pub own_none : r ≡ None → (v : Option Settings) → v ≡ None → v ≡ own
  own_none w v q = q ∙ rw (first_broken points s at (sym w ∙ e))

  pub own_post : (v : Option Settings) (post : Run) → r ≡ Some post
      → v ≡ start_of points (push n (push t (push post.largest (ended s (fields_at points s post.next))))) → v ≡ own
  own_post v post w q = q ∙ rw (first_found points s at post (sym w ∙ e), ended_push s post.largest (fields_at points s post.next))

-- ---- t
module _ (s : List ℕ) (points n at : ℕ) (b : Bool) (d : b ≡ dash_at_of s at) where
  pub settings_dash : (v : Option Settings) → b ≡ true → v ≡ start_of points (push n (push (dash n) (ended s (fields_at (suc points) s (at + 2)))))
      → v ≡ start_of points (push n (behind_posts s points n at))
  unfolding behind_posts
  settings_dash v h q = q ∙ rw (← d, h)

  module _ (h : b ≡ false) (r : Option Run) (e : r ≡ run_of (fields_at 1 s at)) where
    pub settings_none : r ≡ None → (v : Option Settings) → v ≡ None → v ≡ start_of points (push n (behind_posts s points n at))
    unfolding behind_posts
    settings_none w v q = q ∙ rw (← d, h, first_broken (suc points) s at (sym w ∙ e))

    pub settings_number : (v : Option Settings) (t : Run) → r ≡ Some t
        → v ≡ start_of points (push n (push t.largest (ended s (fields_at (suc points) s t.next)))) → v ≡ start_of points (push n (behind_posts s points n at))
    unfolding behind_posts
    settings_number v t w q =
        q ∙ rw (← d, h, first_found (suc points) s at t (sym w ∙ e), ended_push s t.largest (fields_at (suc points) s t.next))

-- ---- n
module _ (s : List ℕ) (r : Option Run) (e : r ≡ run_of (fields_at 1 s 1)) where
  pub form_none : r ≡ None → (v : Option Settings) → v ≡ None → v ≡ start_said s
  unfolding start_said start_form
  form_none w v q = q ∙ rw (first_broken 0 s 1 (sym w ∙ e))

  pub form_number : (points : ℕ) (v : Option Settings) (n : Run) → points ≡ points_in_of s → r ≡ Some n
      → v ≡ start_of points (push n.largest (behind_posts s points n.largest n.next)) → v ≡ start_said s
  unfolding start_said start_form fields_at
  form_number points v n p w q = q ∙ rw (p, first_found 0 s 1 n (sym w ∙ e))
