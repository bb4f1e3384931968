-- A finish whose polynomials are truly their senders' is one that fits the vectors.
use Prim.Native.Nat.{ℕ, ◌≤◌, ◌<◌}
use mathlib.Core.Path.{◌≡◌, sym, ◌∙◌, ap, subst}
use mathlib.Core.Logic.{◌≢◌, inl, inr}
use mathlib.Core.List.{List, [], ◌∷◌}
use native.Mathlib.Decide.{ℕ_discrete}
use native.Mathlib.Omega.{arith}
use lib.ListN.{take, drop}
use lib.Seq.{take_at, drop_at}
use Rattle.poly.specs.Counting.{All}
use Rattle.poly.proofs.Lists.{all_map, all_zip}
use Rattle.shape.specs.Bounds.{row_count_of}
use Rattle.shape.specs.Marks.{masked}
use Rattle.shape.specs.Lengths.{v_length}
use Rattle.decimal.specs.Numeral.{tens}
use Rattle.session.specs.declared.Session.{Session}
use Rattle.session.specs.Sessions.{shape_of}
use Rattle.opening.specs.Walking.{sent, accepts, accepted}
use Rattle.collect.specs.Collect as Collect
use Rattle.vectors.specs.Vector.{Vector, numbers}
use Rattle.vectors.specs.Claims.{held_row, Truly, EnoughTruly}
use Rattle.vectors.proofs.Linear.{length_numbers}
use Rattle.vectors.proofs.Passing.{all_passing}
use Rattle.runs.specs.Draws.{Plan, Draw, IsDraw, Sound, plan_shape}
use Rattle.runs.specs.Outline.{Taking, nothing_taken, a_row_pack, a_triple_pack, a_number, a_record, two_records, takes, Given, Move, moves, acts_in}
use Rattle.runs.specs.Calls.{Post, Actual, Call}
use Rattle.runs.proofs.Outlines.{every_all}
use Rattle.runs.proofs.Marks.{Marks, remembered_a, remembered_b, no_numbers, session_at, less, vector_a, mask_vector_a, mask_vector_b}
use Rattle.runs.proofs.Outcomes.{refusal_of}
use Rattle.runs.proofs.Holds.{Holder}
use Rattle.runs.proofs.Finishing.{Trusted, trusted_any, opens_a, opens_b}
use Rattle.runs.proofs.Records.{own_true}
use Rattle.runs.proofs.Start.{sizes}
use Rattle.runs.proofs.Steps.{named, FitsWith, Fits}
use Rattle.runs.proofs.Facts.{Multiplying, ReadyFor, Triple}
use Rattle.correctness.specs.History.{World}
use Rattle.correctness.specs.Ledger.{Ledger}
use Rattle.correctness.specs.Truth.{OwnWith, TrueWith, OwnPart, TrueMask, TrueOf, EnoughTrue, TrueFinish}
use Rattle.correctness.proofs.Standing.{Known, Good, allowed_at}
use Rattle.correctness.proofs.Said.{Said, told_masks, halves}

-- where P gives the senders' own polynomials of S, at the other posts
abbrev Gives : Session → Vector → List ℕ → (ℕ → List ℕ → Type 0) → List ℕ → Type 0
Gives s S blocks P row =
    (j : ℕ) → 1 ≤ j → j ≤ s.n → j ≢ s.post → P j (sent s row blocks j) → sent s row blocks j ≡ numbers (v_length (shape_of s)) (S.v j)

module _ (s : Session) (S : Vector) (blocks : List ℕ) (P : ℕ → List ℕ → Type 0) where
  one_true : Gives s S blocks P (held_row s S) → (j : ℕ) → 1 ≤ j → j ≤ s.n → (j ≢ s.post → P j (sent s (held_row s S) blocks j)) → Truly s S blocks j
  one_true f j lj hj h = elim (ℕ_discrete j s.post) [
    | yes g ↦ subst (Truly s S blocks) (sym g) (own_true s blocks S)
    | no g ↦ f j lj hj g (h g)
  ]

  -- each polynomial that counted, but the own one, is its sender's: all are
  pub all_true_of : (row : List ℕ) → row ≡ held_row s S → Gives s S blocks P row → TrueOf P s row blocks
      → All (Truly s S blocks) (accepted s (held_row s S) blocks)
  all_true_of row e =
      subst (λ (x : List ℕ). Gives s S blocks P x → TrueOf P s x blocks → All (Truly s S blocks) (accepted s (held_row s S) blocks)) (sym e)
      (λ f t.
      all_zip (λ j a h. one_true f j a.from_on (omega (arith, a.before)) h) (accepted s (held_row s S) blocks)
      (all_passing (accepts s (held_row s S) blocks) 1 s.n) t)

  -- t+1 of them are: t+1 are
  pub enough_true_of : (row : List ℕ) → row ≡ held_row s S → Gives s S blocks P row → EnoughTrue P s row blocks → EnoughTruly s S blocks
  enough_true_of row e =
      subst (λ (x : List ℕ). Gives s S blocks P x → EnoughTrue P s x blocks → EnoughTruly s S blocks) (sym e)
      (λ f t. record {
        good = t.good;
        many = t.many;
        different = t.different;
        truly = all_map (λ j h. (h.0, h.1, one_true f j h.0 h.1 h.3)) t.good t.theirs;
      })

pub small : (plan : Plan) → Sound plan → plan.n < tens 10
small plan sound = (sizes plan sound).n_high

module _ (plan : Plan) (draw : Draw) (L : Ledger) (sound : Sound plan) (is : IsDraw plan draw) where
  abbrev pub Line : List ℕ → Type 0
  Line = Said plan draw L (small plan sound)

  -- ---- a finish whose polynomials are truly their senders'

  -- each line of the posts S is by the ledger
  abbrev pub AllSaid : (ℕ → Type 0) → World → Type 0
  AllSaid S w = (j : ℕ) → 1 ≤ j → j ≤ plan.n → S j → All Line (w.lines j)

  module _ (S : ℕ → Type 0) (w : World) (all : AllSaid S w) where
    -- of a triple whose masks were made, a half of j's is its polynomial of a − l, or of b − l'
    module _ (M : Marks) (vec : ℕ → Vector) (f : Known plan draw L M vec) (r : ℕ) (ok : Multiplying masked M (remembered_a M r) (remembered_b M r) r) where
      low : r < row_count_of
      low = omega (arith, ok.r_low)

      t : Triple plan draw M vec r
      t = (f r low).triple (inr (inl ok.first))

      both_are : (j : ℕ) → 1 ≤ j → j ≤ plan.n → (half : List ℕ → List ℕ) (xs : List ℕ) → TrueMask S w (plan_shape plan) half r j xs
          → xs ≡ half (halves plan draw r j (vec (remembered_a M r)) (vec (remembered_b M r)))
      both_are j lj hj half xs o =
          o.1.4
          ∙ ap half
          (told_masks plan draw L (small plan sound) (w.lines j) (all j lj hj o.0) r j o.1.0
          (record { row = omega (arith, ok.r_low); post = (lj, hj); many = o.1.1; low = o.1.2 }) o.1.3 (remembered_a M r) (remembered_b M r)
          ((f r low).waiting (inl ok.first)).means (vec (remembered_a M r)) (vec (remembered_b M r))
          ((f (remembered_a M r) ok.a_low).held ok.a_held) ((f (remembered_b M r) ok.b_low).held ok.b_held))

      pub told_a : (j : ℕ) → 1 ≤ j → j ≤ plan.n → (xs : List ℕ) → TrueMask S w (plan_shape plan) (take (v_length (plan_shape plan))) r j xs
          → xs ≡ numbers (v_length (plan_shape plan)) ((mask_vector_a M vec r).v j)
      told_a j lj hj xs o =
          both_are j lj hj (take (v_length (plan_shape plan))) xs o ∙ take_at (numbers (v_length (plan_shape plan)) ((less (vec (remembered_a M r)) (vector_a plan draw r)).v j)) _ (v_length (plan_shape plan)) (length_numbers (v_length (plan_shape plan)) _)
          ∙ ap (λ (X : Vector). numbers (v_length (plan_shape plan)) ((less (vec (remembered_a M r)) X).v j)) (sym t.is_a)

      pub told_b : (j : ℕ) → 1 ≤ j → j ≤ plan.n → (xs : List ℕ) → TrueMask S w (plan_shape plan) (drop (v_length (plan_shape plan))) r j xs
          → xs ≡ numbers (v_length (plan_shape plan)) ((mask_vector_b M vec r).v j)
      told_b j lj hj xs o =
          both_are j lj hj (drop (v_length (plan_shape plan))) xs o ∙ drop_at (numbers (v_length (plan_shape plan)) ((less (vec (remembered_a M r)) (vector_a plan draw r)).v j)) _ (v_length (plan_shape plan)) (length_numbers (v_length (plan_shape plan)) _)
          ∙ ap (λ (X : Vector). numbers (v_length (plan_shape plan)) ((less (vec (remembered_b M r)) X).v j)) (sym t.is_b)

    -- a finish that is not refused
    module _ (len i : ℕ) (q : Post) (g : Good plan draw L len i q) (r : ℕ) (blocks_a blocks_b : List ℕ) (ok : Multiplying masked g.marks (remembered_a g.marks r) (remembered_b g.marks r) r) where
      abbrev M : Marks
      M = g.marks

      abbrev vec : ℕ → Vector
      vec = g.vec

      abbrev l : List ℕ
      l = q.rows

      abbrev holder : Holder
      holder = record { plan = plan; draw = draw; len = len; post = i; marks = M; opened = g.stands.opened; vec = vec; rows = l; holds = g.stands.holds }

      abbrev s : Session
      s = session_at plan draw i M g.stands.opened

      true_a : EnoughTrue (TrueMask S w (plan_shape plan) (take (v_length (plan_shape plan))) r) s (Collect.mask_a s l r) blocks_a → Trusted s (mask_vector_a M vec r) blocks_a
      true_a t few enough =
          enough_true_of s (mask_vector_a M vec r) blocks_a (TrueMask S w (plan_shape plan) (take (v_length (plan_shape plan))) r) (Collect.mask_a s l r) (opens_a holder r ok)
          (λ j lj hj ne o. told_a M vec g.facts r ok j lj hj _ o) t

      true_b : EnoughTrue (TrueMask S w (plan_shape plan) (drop (v_length (plan_shape plan))) r) s (Collect.mask_b s l r) blocks_b → Trusted s (mask_vector_b M vec r) blocks_b
      true_b t few enough =
          enough_true_of s (mask_vector_b M vec r) blocks_b (TrueMask S w (plan_shape plan) (drop (v_length (plan_shape plan))) r) (Collect.mask_b s l r) (opens_b holder r ok)
          (λ j lj hj ne o. told_b M vec g.facts r ok j lj hj _ o) t

    module _ (len i : ℕ) (q : Post) (g : Good plan draw L len i q) where
      fits_with : (t : Taking) (x : Given Actual t) → ReadyFor g.marks t → OwnWith plan draw i t x → TrueWith S w q t x
          → FitsWith plan draw i g.marks g.vec t x
      fits_with nothing_taken x ok own y = tt
      fits_with (a_row_pack r) x ok own y = own
      fits_with (a_triple_pack r) x ok own y = own
      fits_with (a_number r) x ok own y = tt
      fits_with (a_record r) x ok own y = tt
      fits_with (two_records r) x ok own y =
          subst
          (λ (v : Post). TrueWith S w v (two_records r) x → FitsWith plan draw i g.marks g.vec (two_records r) x)
          (sym (named plan draw len i g.marks g.vec q g.stands))
          (λ o. (
            trusted_any plan draw i g.marks g.stands.opened no_numbers _ x.0 (true_a len i q g r x.0 x.1 ok o.0),
            trusted_any plan draw i g.marks g.stands.opened no_numbers _ x.1 (true_b len i q g r x.0 x.1 ok o.1),
          ))
          y

      fits_all : (ms : List (Move Actual)) → All (λ a. ReadyFor g.marks (takes a)) (acts_in Actual ms)
          → All (λ m. OwnWith plan draw i (takes m.0) m.1) ms → All (λ m. TrueWith S w q (takes m.0) m.1) ms
          → All (λ m. FitsWith plan draw i g.marks g.vec (takes m.0) m.1) ms
      fits_all [] ok own y = tt
      fits_all (m ∷ ms) ok own y = (fits_with (takes m.0) m.1 ok.0 own.0 y.0, fits_all ms ok.1 own.1 y.1)

      pub fits : (c : Call) → refusal_of c q ≡ 0 → OwnPart plan draw i c → TrueFinish S w q c → Fits plan draw i g.marks g.vec c
      fits c z own y =
          fits_all (moves c) (allowed_at plan draw L len i q g c z).ready (every_all _ (moves c) own) (every_all _ (moves c) y)
