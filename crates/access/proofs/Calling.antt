-- The call of an A line, from what the line says.
use Prim.Native.Nat.{ℕ, zero, suc, ◌<◌}
use mathlib.Core.Path.{◌≡◌, refl, sym, ◌∙◌, ap}
use mathlib.Core.Bool.{Bool, true, false, not, ◌||◌}
use mathlib.Core.List.{List, [], ◌∷◌}
use native.Mathlib.Omega.{arith}
use lib.Dec.{ltb}
use lib.ListN.{length}
use borrow.Author.Tests.{ltb-false}
use Rattle.shape.specs.Marks.{raw}
use Rattle.refusal.specs.Refusal.{Test, ◌when◌, first, or_else, outcome}
use Rattle.refusal.proofs.Groups.{stopped, went_on}
use Rattle.refusal.proofs.Endings.{refused, accepted}
use Rattle.session.specs.declared.Session.{Session}
use Rattle.session.specs.Sessions.{with_barred, holding, answer}
use Rattle.session.specs.Checks.{no_row, wrong_mark_of}
use Rattle.session.specs.Between.{Allows}
use Rattle.csv_fields.specs.Fields.{Parsed, parsed, malformed}
use Rattle.access.specs.declared.Read.{Read}
use Rattle.access.specs.Access.{access_fields, access_row, access_posts, bad_access, rising, any_outside, every_post, admitted_all, placed, access_refusal, access_answer}
use Rattle.access.specs.Between.{told, read_of, settings_of}
use Rattle.access.proofs.Listed.{length_placed}

-- ---- what is read is what the tests say
module _ (n : ℕ) (last : Bool) where
  abbrev line_and : Parsed → List Test
  line_and o = 10 when bad_access o ∷ 11 when (no_row (access_row o) || any_outside n (access_posts o)) ∷ 7 when last ∷ []

  -- of the three tests of a right form
  module _ (row : ℕ) (words : List ℕ) where
    told_stops : (a b c : Bool) → ltb 95 row ≡ b → ((told a c row words).refusal ≡ 0 → ⊥)
        → (told a c row words).refusal ≡ first (10 when not a ∷ 11 when (b || c) ∷ 7 when last ∷ [])
    unfolding told outcome
    told_stops true true c e h = rw e
    told_stops true false true e h = rw e
    told_stops true false false e h = absurd (h (rw e))
    told_stops false b c e h = refl

    told_goes : (a b c : Bool) → ltb 95 row ≡ b → (told a c row words).refusal ≡ 0
        → (first (7 when last ∷ []) ≡ first (10 when not a ∷ 11 when (b || c) ∷ 7 when last ∷ [])) × ((told a c row words).row ≡ row)
        × ((told a c row words).words ≡ words) × (row < 96)
    unfolding told outcome
    told_goes true true c e z = let k : ◌≡◌ {A = ℕ} 11 0 = rw e at z in absurd (omega arith)
    told_goes true false true e z = let k : ◌≡◌ {A = ℕ} 11 0 = rw e at z in absurd (omega arith)
    told_goes true false false e z = (refl, rw e, rw e, omega (arith, ltb-false 95 row e))
    told_goes false b c e z = let k : ◌≡◌ {A = ℕ} 10 0 = z in absurd (omega arith)

  stops : (o : Parsed) → ((read_of n o).refusal ≡ 0 → ⊥) → (read_of n o).refusal ≡ first (line_and o)
  stops (parsed [] next) h = refl
  stops (parsed (r ∷ cs) next) h = told_stops r (admitted_all every_post cs) (rising cs) (ltb 95 r) (any_outside n cs) refl h
  stops malformed h = refl

  goes : (o : Parsed) → (read_of n o).refusal ≡ 0
      → (first (7 when last ∷ []) ≡ first (line_and o)) × ((read_of n o).row ≡ access_row o)
      × ((read_of n o).words ≡ admitted_all every_post (access_posts o)) × (access_row o < 96)
  goes (parsed [] next) z = let k : ◌≡◌ {A = ℕ} 10 0 = z in absurd (omega arith)
  goes (parsed (r ∷ cs) next) z = told_goes r (admitted_all every_post cs) (rising cs) (ltb 95 r) (any_outside n cs) refl z
  goes malformed z = let k : ◌≡◌ {A = ℕ} 10 0 = z in absurd (omega arith)

-- ---- the set of a line that is not refused
pub place_room : (f row : ℕ) → Allows f (row < 96) → f ≡ 0 → row < 96
place_room f row h z = h.allowed z

pub place_refused : (f : ℕ) (sets new : List ℕ) → (f ≡ 0 → ⊥) → sets ≡ outcome f new sets
place_refused f sets new h = refused f f new sets refl h

pub place_done : (f : ℕ) (sets x new : List ℕ) → f ≡ 0 → x ≡ new → x ≡ outcome f new sets
place_done f sets x new z e = accepted f f x new sets refl z e

pub place_length : (sets x words : List ℕ) (row : ℕ) → x ≡ placed 8 sets row words → length x ≡ length sets
place_length sets x words row e = ap length e ∙ length_placed sets row words 8

-- ---- the answer
module _ (s : Session) (line : List ℕ) where
  abbrev own : List Test
  own = line_and s.n (wrong_mark_of s (access_row (access_fields line)) raw) (access_fields line)

  own_is : (f : ℕ) → f ≡ first (settings_of s) → (f ≡ 0 → ⊥) → f ≡ access_refusal s line
  unfolding access_refusal
  own_is f e h = stopped (settings_of s) own tt f e h

  late_is : (f g : ℕ) → f ≡ first (settings_of s) → f ≡ 0 → g ≡ first own → g ≡ access_refusal s line
  unfolding access_refusal
  late_is f g e z q = went_on (settings_of s) own tt f e g z q

  module _ (f : ℕ) (ef : f ≡ first (settings_of s)) (d : Read) (ed : d ≡ read_of s.n (access_fields line)) where
    module _ (y : d.refusal ≡ 0) where
      read_zero : (read_of s.n (access_fields line)).refusal ≡ 0
      read_zero = ap (λ (r : Read). r.refusal) (sym ed) ∙ y

      row_is : d.row ≡ access_row (access_fields line)
      row_is = ap (λ (r : Read). r.row) ed ∙ (goes s.n (wrong_mark_of s (access_row (access_fields line)) raw) (access_fields line) read_zero).1

      words_are : d.words ≡ admitted_all every_post (access_posts (access_fields line))
      words_are = ap (λ (r : Read). r.words) ed ∙ (goes s.n (wrong_mark_of s (access_row (access_fields line)) raw) (access_fields line) read_zero).2

      row_96 : d.row < 96
      row_96 = omega (arith, row_is, (goes s.n (wrong_mark_of s (access_row (access_fields line)) raw) (access_fields line) read_zero).3)

    module _ (m : ℕ) (em : m ≡ first (7 when wrong_mark_of s d.row raw ∷ [])) where
      -- the three groups of tests, one after the other
      asked : or_else f (or_else d.refusal m) ≡ access_refusal s line
      asked = go f refl d.refusal refl
        where
          go : (k : ℕ) → f ≡ k → (j : ℕ) → d.refusal ≡ j → or_else k (or_else j m) ≡ access_refusal s line
          go (suc k) e j q = sym e ∙ own_is f ef (λ z. let y : suc k ≡ 0 = sym e ∙ z in omega arith)
          go zero e (suc j) q =
              let w : d.refusal ≡ (read_of s.n (access_fields line)).refusal = ap (λ (r : Read). r.refusal) ed in
              sym q
              ∙ late_is f d.refusal ef e
              (w ∙ stops s.n (wrong_mark_of s (access_row (access_fields line)) raw) (access_fields line) (λ z. let y : suc j ≡ 0 = sym q ∙ w ∙ z in omega arith))
          go zero e zero q =
              late_is f m ef e
              (em ∙ ap (λ (r : ℕ). first (7 when wrong_mark_of s r raw ∷ [])) (row_is q)
              ∙ (goes s.n (wrong_mark_of s (access_row (access_fields line)) raw) (access_fields line) (read_zero q)).0)

      module _ (g : ℕ) (eg : g ≡ or_else d.refusal m) (r : ℕ) (er : r ≡ or_else f g) where
        line_zero : r ≡ 0 → d.refusal ≡ 0
        line_zero z = go f d.refusal refl (sym (er ∙ ap (or_else f) eg) ∙ z)
          where
            go : (k j : ℕ) → d.refusal ≡ j → or_else k (or_else j m) ≡ 0 → d.refusal ≡ 0
            go (suc k) j q e = absurd (omega arith)
            go zero zero q e = q
            go zero (suc j) q e = absurd (omega arith)

        pub access_done : (b : List ℕ) → b ≡ outcome r (placed 8 s.barred d.row d.words) s.barred
            → holding r 0 (with_barred s b) ≡ access_answer s line
        unfolding outcome
        access_done b e = rw (← asked, ← eg, ← er) (go r refl e)
          where
            go : (k : ℕ) → r ≡ k → b ≡ outcome k (placed 8 s.barred d.row d.words) s.barred
                → holding r 0 (with_barred s b)
                ≡ answer r 0 (with_barred s (placed 8 s.barred (access_row (access_fields line)) (admitted_all every_post (access_posts (access_fields line))))) s
            go zero z q =
                rw (z, q, row_is (line_zero z), words_are (line_zero z))
            go (suc k) z q = rw (z, q)
