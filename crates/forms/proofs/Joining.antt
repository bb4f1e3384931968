-- Fields in two parts, one behind the other: what is told of them, and their numbers.
use Prim.Native.Nat.{ℕ, zero, suc, ◌+◌, ◌-◌, ◌*◌, ◌≤◌, ◌<◌}
use mathlib.Core.Path.{◌≡◌, refl, ap, sym, ◌∙◌}
use mathlib.Core.List.{List, [], ◌∷◌, ◌++◌, append-nil}
use mathlib.Core.Bool.{Bool, true, false, ◌&&◌, cond}
use native.Mathlib.Omega.{arith}
use borrow.Author.Tests.{ltb-true}
use borrow.Rule.Slice.PartMut.{put_mid}
use lib.ListN.{length, get_or, take, drop, length-append, length-drop, take-append-drop, drop_of_length-le}
use lib.Seq.{take_at, drop_at, take_all, length-take-le}
use lib.Dec.{eqb, ltb}
use Rattle.decimal.specs.declared.Field.{Field}
use Rattle.std.specs.Prelude.{Option, Some, None}
use Rattle.decimal.specs.Numeral.{field_at}
use Rattle.csv_fields.specs.declared.Run.{Run}
use Rattle.csv_fields.specs.Walk.{end_of, lows, Roomed}
use Rattle.csv_fields.specs.Fields.{Parsed, parsed, malformed, push, behind, fields_at, ended, numbers_of_of, largest_from, run, run_from}
use Rattle.csv_fields.proofs.Rooming.{lows_fit}
use Rattle.forms.specs.Between.{PartOf, room_size, below_limit}
use Rattle.csv_fields.proofs.Single.{largest_above, largest_narrow}

-- ---- fields in two parts
abbrev joined : List ℕ → Parsed → Parsed
joined xs (parsed ys next) = parsed (xs ++ ys) next
joined xs malformed = malformed

abbrev follow : Parsed → (List ℕ → ℕ → Parsed) → Parsed
follow (parsed xs next) f = f xs next
follow malformed f = malformed

module _ (j : ℕ) (s : List ℕ) where
  abbrev then : List ℕ → ℕ → Parsed
  then xs next = joined xs (fields_at j s next)

  push_joined : (x : ℕ) (xs : List ℕ) (o : Parsed) → push x (joined xs o) ≡ joined (x ∷ xs) o
  push_joined x xs (parsed ys next) = refl
  push_joined x xs malformed = refl

  push_follow : (x : ℕ) (o : Parsed) → push x (follow o then) ≡ follow (push x o) then
  push_follow x (parsed xs next) = push_joined x xs (fields_at j s next)
  push_follow x malformed = refl

  none_joined : (o : Parsed) → o ≡ joined [] o
  none_joined (parsed xs next) = refl
  none_joined malformed = refl

  two_parts : (n at : ℕ) → fields_at (n + j) s at ≡ follow (fields_at n s at) then
  unfolding fields_at
  two_parts zero at = let e : 0 + j ≡ j = omega arith in rw e (none_joined (fields_at j s at))
  two_parts (suc n) at =
      let e : suc n + j ≡ suc (n + j) = omega arith in
      rw e (by_field (eqb (get_or s at 0) 44) (field_at s (at + 1)) (two_parts n))
    where
      by_field : (b : Bool) (g : Option Field) → ((next : ℕ) → fields_at (n + j) s next ≡ follow (fields_at n s next) then)
          → cond b (behind g (λ x next. push x (fields_at (n + j) s next))) malformed
          ≡ follow (cond b (behind g (λ x next. push x (fields_at n s next))) malformed) then
      by_field true (Some f) ih = ap (push f.value) (ih f.next) ∙ push_follow f.value (fields_at n s f.next)
      by_field true None ih = refl
      by_field false g ih = refl

largest_append : (m : ℕ) (xs ys : List ℕ) → largest_from m (xs ++ ys) ≡ largest_from (largest_from m xs) ys
largest_append m [] ys = refl
largest_append m (x ∷ xs) ys = largest_append (cond (ltb m x) x m) xs ys

run_joined : (m : ℕ) (xs : List ℕ) (o : Parsed) → run_from m (joined xs o) ≡ run_from (largest_from m xs) o
run_joined m xs (parsed ys next) = ap (λ (l : ℕ). run l next) (largest_append m xs ys)
run_joined m xs malformed = refl

ended_joined : (s xs : List ℕ) (o : Parsed) → ended s (joined xs o) ≡ joined xs (ended s o)
ended_joined s xs malformed = refl
ended_joined s xs (parsed ys next) = by_end (eqb (get_or s next 0) 10 && eqb (length s) (next + 1))
  where
    by_end : (t : Bool) → cond t (parsed (xs ++ ys) next) malformed ≡ joined xs (cond t (parsed ys next) malformed)
    by_end true = refl
    by_end false = refl

-- ---- no place: the end of the line is all
module _ (s out : List ℕ) (at m : ℕ) (h : length out < 1) where
  z : length out ≡ 0
  z = omega arith

  pub empty_run : (r : Option Run) → r ≡ end_of s at m → r ≡ run_from m (ended s (fields_at (length out) s at))
  unfolding fields_at
  empty_run r e = e ∙ rw z (by_end (eqb (get_or s at 0) 10 && eqb (length s) (at + 1)))
    where
      by_end : (t : Bool) → cond t (run m at) None ≡ run_from m (cond t (parsed [] at) malformed)
      by_end true = refl
      by_end false = refl

  pub empty_list : (t : Bool) → out ≡ cond t (numbers_of_of (fields_at (length out) s at)) out
  unfolding fields_at
  empty_list true = nothing out h ∙ rw z
    where
      nothing : (l : List ℕ) → length l < 1 → l ≡ []
      nothing [] h = refl
      nothing (x ∷ l) h = absurd (omega arith)
  empty_list false = refl

-- ---- numbers in front that are all: the end of the line is left
module _ (s out front : List ℕ) (at m : ℕ) (b : length front ≤ length out) (h : length out ≤ length front) where
  none_left : length out - length front ≡ 0
  none_left = omega arith

  pub all_count : length front ≡ length out
  all_count = omega arith

  pub all_run : (r : Option Run) → r ≡ end_of s at m → r ≡ run_from m (ended s (fields_at (length out - length front) s at))
  all_run r e = rw none_left (empty_run s [] at m (omega arith) r e)

  pub all_list : (r : Option Run) (limit : ℕ) (t : Bool) (zs : List ℕ) → t ≡ below_limit r limit → zs ≡ cond t front out
      → zs ≡ cond (below_limit r limit) (front ++ numbers_of_of (fields_at (length out - length front) s at)) out
  unfolding fields_at
  all_list r limit t zs f g = rw (none_left, append-nil, ← f) g

-- ---- numbers in front, and the fields behind them
module _ (s out front : List ℕ) (at m : ℕ) (b : length front ≤ length out) where
  abbrev n : ℕ
  n = length front

  abbrev mid : List ℕ
  mid = take (length out - n) (drop n out)

  mid_is : mid ≡ drop n out
  mid_is = take_all (length out - n) (drop n out) (omega (arith, length-drop n out))

  mid_long : length mid ≡ length out - n
  mid_long = ap length mid_is ∙ length-drop n out

  pub behind_falls : (t : ℕ) → 2 * (length out - n) + 1 ≡ t → 2 * length mid < t
  behind_falls t e = omega (arith, mid_long)

  pub behind_run : (r : Option Run) → r ≡ run_from m (ended s (fields_at (length mid) s at)) → r ≡ run_from m (ended s (fields_at (length out - n) s at))
  behind_run r e = rw mid_long at e

  module _ (mid' : List ℕ) (same : length mid' ≡ length mid) where
    abbrev laid : List ℕ
    laid = put_mid n (length out - n) out mid'

    front_long : length (take n out) ≡ n
    front_long = length-take-le n out b

    laid_is : laid ≡ take n out ++ mid'
    laid_is =
        let h : length (drop n out) ≤ length out - n = omega (arith, length-drop n out) in
        let e : drop (length out - n) (drop n out) ≡ [] = drop_of_length-le (drop n out) h in
        rw (e, append-nil)

    taken_is : take n laid ≡ take n out
    taken_is = rw laid_is (take_at (take n out) mid' n front_long)

    left_is : drop n laid ≡ mid'
    left_is = rw laid_is (drop_at (take n out) mid' n front_long)

    pub behind_room : n ≤ length laid
    behind_room = omega (arith, ap length laid_is, length-append (take n out) mid', front_long)

    pub behind_count : n ≡ length (take n laid)
    behind_count = sym (ap length taken_is ∙ front_long)

    pub behind_list : (r : Option Run) (limit : ℕ) (t : Bool) (zs : List ℕ) → mid' ≡ cond (below_limit r limit) (numbers_of_of (fields_at (length mid) s at)) mid
        → t ≡ below_limit r limit → zs ≡ cond t front (take n laid)
        → zs ++ drop n laid ≡ cond (below_limit r limit) (front ++ numbers_of_of (fields_at (length out - n) s at)) out
    behind_list r limit t zs e f g =
        ap (λ (l : List ℕ). zs ++ l) left_is ∙ by_limit (below_limit r limit) e (rw f at g)
      where
        by_limit : (u : Bool) → mid' ≡ cond u (numbers_of_of (fields_at (length mid) s at)) mid → zs ≡ cond u front (take n laid)
            → zs ++ mid' ≡ cond u (front ++ numbers_of_of (fields_at (length out - n) s at)) out
        by_limit true e g =
            ap (λ (l : List ℕ). l ++ mid') g ∙ ap (λ (l : List ℕ). front ++ l) (e ∙ ap (λ (k : ℕ). numbers_of_of (fields_at k s at)) mid_long)
        by_limit false e g =
            ap (λ (l : List ℕ). l ++ mid') (g ∙ taken_is) ∙ ap (λ (l : List ℕ). take n out ++ l) (e ∙ mid_is) ∙ take-append-drop n out

    pub behind_same : (zs : List ℕ) → length zs ≡ length (take n laid) → length (zs ++ drop n laid) ≡ length out
    behind_same zs e = omega (arith, length-append zs (drop n laid), behind_count, ap length left_is, mid_long)

-- ---- a part in a room, and the fields behind it
module _ (s out room : List ℕ) (at m n : ℕ) (p : PartOf (length out) n) (sized : length room ≡ room_size) where
  part_long : length (take n room) ≡ n
  part_long = length-take-le n room (omega (arith, p.fits))

  pub part_room : n ≤ length room
  part_room = omega (arith, p.fits)

  pub part_count : n ≡ length (take n room)
  part_count = sym part_long

  module _ (ys : List ℕ) (same : length ys ≡ length (take n room)) where
    abbrev front : List ℕ
    front = take n (ys ++ drop n room)

    front_is : front ≡ ys
    front_is = take_at ys (drop n room) n (same ∙ part_long)

    pub part_again : n ≤ length (ys ++ drop n room)
    part_again = omega (arith, length-append ys (drop n room), same, part_long)

    pub front_count : n ≡ length front
    front_count = sym (ap length front_is ∙ same ∙ part_long)

    pub front_some : 1 ≤ length out → 1 ≤ length front
    front_some h = omega (arith, front_count, p.some h)

    pub front_within : length front ≤ length out
    front_within = omega (arith, front_count, p.within)

    pub front_falls : (t : ℕ) → 2 * length out ≡ t → 1 ≤ length out → 2 * (length out - length front) + 1 < t
    front_falls t e h = omega (arith, front_some h, front_within)

    module _ (q : Roomed (fields_at (length (take n room)) s at) ys) where
      abbrev j : ℕ
      j = length out - length front

      parts : length out ≡ length (take n room) + j
      parts = omega (arith, front_count, part_count, p.within)

      pub part_broken : None ≡ run_from m (fields_at (length (take n room)) s at) → None ≡ run_from m (ended s (fields_at (length out) s at))
      part_broken e = by_form (fields_at (length (take n room)) s at) refl e
        where
          by_form : (o : Parsed) → fields_at (length (take n room)) s at ≡ o → None ≡ run_from m o → None ≡ run_from m (ended s (fields_at (length out) s at))
          by_form malformed f g = rw (parts, two_parts j s (length (take n room)) at, f)
          by_form (parsed xs next) f g = let z : ◌≡◌ {A = ℕ} 0 1 = cc in absurd (omega arith)

      module _ (part : Run) (e : Some part ≡ run_from m (fields_at (length (take n room)) s at)) where
        abbrev m' : ℕ
        m' = part.largest

        abbrev next : ℕ
        next = part.next

        record First : Type 0 where
          xs : List ℕ
          is : fields_at (length (take n room)) s at ≡ parsed xs next
          most : m' ≡ largest_from m xs
          low : ys ≡ lows xs

        first_part : First
        first_part = by_form (fields_at (length (take n room)) s at) refl e q
          where
            by_form : (o : Parsed) → fields_at (length (take n room)) s at ≡ o → Some part ≡ run_from m o → Roomed o ys → First
            by_form malformed f g h = let z : ◌≡◌ {A = ℕ} 0 1 = cc in absurd (omega arith)
            by_form (parsed xs then) f g h =
                let a : part ≡ record { largest = largest_from m xs; next = then } = cc in
                record { xs = xs; is = rw a f; most = rw a; low = h }

        all : fields_at (length out) s at ≡ joined first_part.xs (fields_at j s next)
        all = ap (λ (k : ℕ). fields_at k s at) parts ∙ two_parts j s (length (take n room)) at ∙ rw first_part.is

        module _ (r : Option Run) (f : r ≡ run_from m' (ended s (fields_at j s next))) where
          pub whole_run : r ≡ run_from m (ended s (fields_at (length out) s at))
          whole_run =
              f ∙ ap (λ (l : ℕ). run_from l (ended s (fields_at j s next))) first_part.most
              ∙ sym (ap (λ (o : Parsed). run_from m (ended s o)) all ∙ ap (run_from m) (ended_joined s first_part.xs (fields_at j s next))
              ∙ run_joined m first_part.xs (ended s (fields_at j s next)))

          whole_numbers : (limit : ℕ) → limit ≤ 4294967296 → below_limit r limit ≡ true → front ++ numbers_of_of (fields_at j s next) ≡ numbers_of_of (fields_at (length out) s at)
          whole_numbers limit h b = by_form (fields_at j s next) refl (ap (λ (v : Option Run). below_limit v limit) (sym f) ∙ b)
            where
              fits : (zs : List ℕ) → largest_from m' zs < limit → front ≡ first_part.xs
              fits zs l =
                  front_is ∙ first_part.low
                  ∙ lows_fit first_part.xs (largest_narrow m first_part.xs (omega (arith, first_part.most, largest_above m' zs)))

              by_end : (zs : List ℕ) (end : ℕ) (t : Bool) → fields_at j s next ≡ parsed zs end → below_limit (run_from m' (cond t (parsed zs end) malformed)) limit ≡ true
                  → front ++ numbers_of_of (fields_at j s next) ≡ numbers_of_of (fields_at (length out) s at)
              by_end zs end true o g = rw (all, o, fits zs (ltb-true (largest_from m' zs) limit g))
              by_end zs end false o g = let z : ◌≡◌ {A = ℕ} 0 1 = cc in absurd (omega arith)

              by_form : (o : Parsed) → fields_at j s next ≡ o → below_limit (run_from m' (ended s o)) limit ≡ true
                  → front ++ numbers_of_of (fields_at j s next) ≡ numbers_of_of (fields_at (length out) s at)
              by_form (parsed zs end) o g = by_end zs end (eqb (get_or s end 0) 10 && eqb (length s) (end + 1)) o g
              by_form malformed o g = let z : ◌≡◌ {A = ℕ} 0 1 = cc in absurd (omega arith)

          pub whole_list : (limit : ℕ) → limit ≤ 4294967296 → (l : List ℕ) → l ≡ cond (below_limit r limit) (front ++ numbers_of_of (fields_at j s next)) out
              → l ≡ cond (below_limit r limit) (numbers_of_of (fields_at (length out) s at)) out
          whole_list limit h l g = by_limit (below_limit r limit) refl g
            where
              by_limit : (u : Bool) → below_limit r limit ≡ u → l ≡ cond u (front ++ numbers_of_of (fields_at j s next)) out
                  → l ≡ cond u (numbers_of_of (fields_at (length out) s at)) out
              by_limit true b g = g ∙ whole_numbers limit h b
              by_limit false b g = g
