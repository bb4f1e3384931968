-- The refusal of a relation's finish from the groups of checks that its code asks, and what holds where there is none.
use Prim.Native.Nat.{ℕ, ◌*◌, ◌≤◌, ◌<◌}
use mathlib.Core.Path.{◌≡◌, sym, ◌∙◌}
use mathlib.Core.List.{List, [], ◌∷◌, ◌++◌}
use native.Mathlib.Nat.{mul-le-mul}
use native.Mathlib.Omega.{arith}
use lib.ListN.{length}
use mir.Syntax.{w64}
use mir.Val.{Fits}
use Rattle.shape.specs.declared.Shape.{Shape}
use Rattle.shape.specs.Marks.{empty, masked}
use Rattle.shape.specs.Lengths as Lengths
use Rattle.shape.specs.Lengths.{Valid, row_length, block_length}
use Rattle.shape.proofs.Small.{each_small}
use Rattle.refusal.specs.Refusal.{Test, ◌when◌, first}
use Rattle.refusal.proofs.Laws.{Numbered, equal, all_fail}
use Rattle.refusal.proofs.Groups.{stopped, went_on, fail_parts}
use Rattle.session.specs.declared.Session.{Session}
use Rattle.session.specs.Sessions.{shape_of}
use Rattle.session.specs.Rows.{width}
use Rattle.session.specs.Checks.{frame_tests, no_row, wrong_mark_of}
use Rattle.session.specs.Between.{Framed, RowIn}
use Rattle.session.proofs.Passed.{row_in}
use Rattle.session.proofs.Calls.{frame_passed, stopped_at_frame, past_frame, allowed}
use Rattle.opening.specs.Walking.{record_length}
use Rattle.terms.specs.declared.Terms.{Terms}
use Rattle.terms.specs.Listed.{terms_of, factors_of}
use Rattle.relation.specs.Tests.{each, place_tests, mark_tests, named_twice_of, Counted, Few, Every, Factors, Placed}
use Rattle.relation.specs.Finish.{finish_sizes, finish_places, remember_tests, finish_marks, term_number_tests, record_tests, finish_numbers, finish_own, relation_finish_checks}
use Rattle.relation.proofs.Sorts.{place_numbered}
use Rattle.relation.proofs.Numbering.{places_numbered, remembered_numbered, held_numbered, marks_numbered, terms_numbered, finish_numbered}
use Rattle.relation.proofs.Passing.{each_numbered, every_placed, every_factors, few}

module _ (g : Shape) (k : ℕ) (v : Valid g) (e : k ≡ Lengths.record_length g) where
  pub pairs_fit : Fits w64 (2 * k)
  pairs_fit = record { fits = omega (arith, e, each_small g (block_length g) v (omega (arith, v.n_in, v.t_in))) }

  pub pairs_some : 0 < 2 * k
  pairs_some =
      let h : 1 * 1 ≤ g.n * block_length g = mul-le-mul {n₁ = 1} {m₁ = 1} {n₂ = g.n} {m₂ = block_length g} (omega (arith, v.n_in)) (omega arith) in
      omega (arith, e, h)

module _ (all : Terms) (d u : ℕ) (eu : u ≡ first (each place_tests (terms_of all))) where
  each_placed : Numbered (each place_tests (terms_of all))
  each_placed = each_numbered (λ k. place_tests) place_numbered 0 (terms_of all)

  pub places_stopped : (u ≡ 0 → ⊥) → u ≡ first (finish_places all d)
  places_stopped = stopped (each place_tests (terms_of all)) (6 when no_row d ∷ []) each_placed u eu

  pub places_asked : u ≡ 0 → (v : ℕ) → v ≡ first (6 when no_row d ∷ []) → v ≡ first (finish_places all d)
  places_asked z v ev = went_on (each place_tests (terms_of all)) (6 when no_row d ∷ []) each_placed u eu v z ev

module _ (s : Session) (rows : List ℕ) (all : Terms) (d : ℕ) (blocks : List ℕ) where
  abbrev ts : List Test
  ts = each place_tests (terms_of all)

  abbrev remember : List Test
  remember = each (remember_tests s) (factors_of all)

  abbrev sum : List Test
  sum = 7 when wrong_mark_of s d empty ∷ []

  abbrev held_ones : List Test
  held_ones = each (mark_tests s masked) (terms_of all)

  module _ (u : ℕ) (eu : u ≡ first (each (mark_tests s masked) (terms_of all))) where
    pub marks_stopped : (u ≡ 0 → ⊥) → u ≡ first (finish_marks s all d)
    marks_stopped = stopped held_ones (7 when named_twice_of (factors_of all) ∷ (remember ++ sum)) (held_numbered s rows all d blocks) u eu

    module _ (z : u ≡ 0) (v : ℕ) (ev : v ≡ first (7 when named_twice_of (factors_of all) ∷ [])) where
      past_held : (x : ℕ) → x ≡ first (7 when named_twice_of (factors_of all) ∷ (remember ++ sum)) → x ≡ first (finish_marks s all d)
      past_held x = went_on held_ones (7 when named_twice_of (factors_of all) ∷ (remember ++ sum)) (held_numbered s rows all d blocks) u eu x z

      pub marks_twice : (v ≡ 0 → ⊥) → v ≡ first (finish_marks s all d)
      marks_twice n = past_held v (stopped (7 when named_twice_of (factors_of all) ∷ []) (remember ++ sum) tt v ev n)

      module _ (y : v ≡ 0) (w : ℕ) (ew : w ≡ first (each (remember_tests s) (factors_of all))) where
        past_twice : (x : ℕ) → x ≡ first (remember ++ sum) → x ≡ first (finish_marks s all d)
        past_twice x ex = past_held x (went_on (7 when named_twice_of (factors_of all) ∷ []) (remember ++ sum) tt v ev x y ex)

        pub marks_forgot : (w ≡ 0 → ⊥) → w ≡ first (finish_marks s all d)
        marks_forgot n = past_twice w (stopped remember sum (remembered_numbered s rows all d blocks) w ew n)

        pub marks_asked : w ≡ 0 → (x : ℕ) → x ≡ first (7 when wrong_mark_of s d empty ∷ []) → x ≡ first (finish_marks s all d)
        marks_asked k x ex = past_twice x (went_on remember sum (remembered_numbered s rows all d blocks) w ew x k ex)

  module _ (g : Shape) (u : ℕ) (eg : g ≡ shape_of s) (eu : u ≡ first (each (term_number_tests (row_length g) rows) (terms_of all))) where
    pub numbers_stopped : (u ≡ 0 → ⊥) → u ≡ first (finish_numbers s rows all blocks)
    numbers_stopped =
        stopped (each (term_number_tests (width s) rows) (terms_of all)) (record_tests s blocks 0 all.products) (terms_numbered s rows all d blocks) u (rw eg at eu)

    pub numbers_asked : u ≡ 0 → (v : ℕ) → v ≡ first (record_tests s blocks 0 all.products) → v ≡ first (finish_numbers s rows all blocks)
    numbers_asked z v ev =
        went_on (each (term_number_tests (width s) rows) (terms_of all)) (record_tests s blocks 0 all.products) (terms_numbered s rows all d blocks) u
        (rw eg at eu) v z ev

  abbrev late : List Test
  late = finish_marks s all d ++ finish_numbers s rows all blocks

  -- 6 stops the call, or it goes on
  module _ (p : ℕ) (e : p ≡ first (finish_places all d)) where
    pub own_stopped : (p ≡ 0 → ⊥) → p ≡ first (finish_own s rows all d blocks)
    own_stopped n = stopped (finish_places all d) late (places_numbered s rows all d blocks) p e n

    module _ (z : p ≡ 0) where
      pub own_placed : (g : Shape) → Every (Placed g) (terms_of all)
      own_placed g =
          every_placed g (terms_of all) (fail_parts ts (6 when no_row d ∷ []) (all_fail (finish_places all d) (places_numbered s rows all d blocks) (sym e ∙ z))).0

      pub own_factors : (g : Shape) → Counted all → Few all → Every (Factors g) (factors_of all)
      own_factors g c f = every_factors g all c f (own_placed g)

      module _ (u : ℕ) (eu : u ≡ first (finish_marks s all d)) where
        pub own_unmarked : (u ≡ 0 → ⊥) → u ≡ first (finish_own s rows all d blocks)
        own_unmarked n =
            went_on (finish_places all d) late (places_numbered s rows all d blocks) p e u z
            (stopped (finish_marks s all d) (finish_numbers s rows all blocks) (marks_numbered s rows all d blocks) u eu n)

        pub own_done : u ≡ 0 → (v : ℕ) → v ≡ first (finish_numbers s rows all blocks) → v ≡ first (finish_own s rows all d blocks)
        own_done y v ev =
            went_on (finish_places all d) late (places_numbered s rows all d blocks) p e v z
            (went_on (finish_marks s all d) (finish_numbers s rows all blocks) (marks_numbered s rows all d blocks) u eu v y ev)

  abbrev sizes : List Test
  sizes = finish_sizes s all blocks

  abbrev own : List Test
  own = finish_own s rows all d blocks

  -- the frame stops the call, or the sizes do, or it goes on
  module _ (f : ℕ) (e : f ≡ first (frame_tests s rows)) where
    pub checks_stopped : (f ≡ 0 → ⊥) → f ≡ first (relation_finish_checks s rows all d blocks)
    checks_stopped = stopped_at_frame s rows (sizes ++ own) f e

    pub checks_valid : f ≡ 0 → Valid (shape_of s)
    checks_valid z = (frame_passed s rows f e z).sized.valid

    module _ (z : f ≡ 0) (q : ℕ) (g : q ≡ first (finish_sizes s all blocks)) where
      pub checks_unsized : (q ≡ 0 → ⊥) → q ≡ first (relation_finish_checks s rows all d blocks)
      checks_unsized n = past_frame s rows (sizes ++ own) f q e z (stopped sizes own tt q g n)

      pub checks_framed : Counted all → q ≡ 0 → Framed s rows × Counted all × Few all × (length blocks ≡ all.products * (2 * record_length s))
      checks_framed c y =
          let h = all_fail sizes tt (sym g ∙ y) in
          (frame_passed s rows f e z, c, few all c h.1.0, equal (length blocks) (all.products * (2 * record_length s)) h.0)

      pub checks_done : q ≡ 0 → (w : ℕ) → w ≡ first (finish_own s rows all d blocks) → w ≡ first (relation_finish_checks s rows all d blocks)
      checks_done y w h = past_frame s rows (sizes ++ own) f w e z (went_on sizes own tt q g w y h)

  -- what holds where 1 to 8 refuse nothing
  pub checks_allowed : Counted all → (f : ℕ) → f ≡ first (relation_finish_checks s rows all d blocks) → f ≡ 0
      → Framed s rows × Few all × Every (Placed (shape_of s)) (terms_of all) × Every (Factors (shape_of s)) (factors_of all) × RowIn (shape_of s) d
      × (length blocks ≡ all.products * (2 * record_length s))
  checks_allowed c f e n =
      let h = allowed s rows (sizes ++ own) (finish_numbered s rows all d blocks) f e n in
      let m = few all c h.1.1.0 in
      let q = fail_parts ts (6 when no_row d ∷ []) (fail_parts (finish_places all d) late h.1.1.1).0 in
      let placed = every_placed (shape_of s) (terms_of all) q.0 in (
        h.0,
        m,
        placed,
        every_factors (shape_of s) all c m placed,
        row_in (shape_of s) d q.1.0,
        equal (length blocks) (all.products * (2 * record_length s)) h.1.0,
      )
