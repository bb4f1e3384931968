-- Document 02, (xiii): two runs whose posts stand abreast show the same last opening. Its messages, answers and acceptances come of the session,
-- of the length of the list of rows and, where the row is held, of the row: at every post these are the same.
use Prim.Native.Nat.{ℕ, zero, suc, ◌≤◌}
use mathlib.Core.Path.{◌≡◌, refl, sym, ◌∙◌, ap, ap₂, subst, fun_ext}
use mathlib.Core.Bool.{Bool, true, false, not, cond}
use mathlib.Core.List.{List, [], ◌∷◌, ◌++◌, map}
use native.Mathlib.Omega.{arith}
use lib.Dec.{eqb}
use lib.ListN.{length, length-map}
use Rattle.poly.specs.Counting.{All}
use Rattle.poly.proofs.Lists.{all_map, map_same, map_equal}
use Rattle.shape.specs.Bounds.{last_row_at}
use Rattle.shape.specs.Marks.{held}
use Rattle.shape.specs.Lengths.{rows_length}
use Rattle.refusal.specs.Refusal.{Test, ◌when◌, first, outcome, AllFail}
use Rattle.refusal.specs.Conditions.{any_beyond}
use Rattle.session.specs.declared.Session.{Session}
use Rattle.session.specs.Sessions.{mark, answer, barred_from, shape_of, points_of, session_tests}
use Rattle.session.specs.Rows.{width, row_at, coefficients}
use Rattle.session.specs.Checks.{frame_tests}
use Rattle.message.specs.Message.{message_refusal_of, message_answer, message_out_of}
use Rattle.message.proofs.Passed.{message_place, message_late, message_placed, checks_passed, message_split}
use Rattle.opening.specs.Opening.{open_refusal_of, open_answer, open_checks_of}
use Rattle.opening.specs.Walking.{opened, accepted}
use Rattle.opening.proofs.Passed.{open_place, open_numbers, walk_tests, open_placed, open_checked, row_opened}
use Rattle.runs.specs.Outline.{its_opening}
use Rattle.runs.specs.Calls.{Post, opening_line, sent_by}
use Rattle.secrecy.specs.Lies.{accepted_at}
use Rattle.secrecy.proofs.Twins.{same_after}

-- what a call that changes nothing hands back
pub session_kept : (k v : ℕ) (s : Session) → (answer k v s s).session ≡ s
unfolding outcome
session_kept zero v s = refl
session_kept (suc k) v s = refl

-- two answers with one refusal and, where it is 0, one number
answer_same : (s : Session) (k k' v v' : ℕ) → k ≡ k' → (k ≡ 0 → v ≡ v') → answer k v s s ≡ answer k' v' s s
unfolding outcome
answer_same s zero zero v v' e h = ap (λ (x : ℕ). answer 0 x s s) (h refl)
answer_same s zero (suc k') v v' e h = absurd (omega arith)
answer_same s (suc k) zero v v' e h = absurd (omega arith)
answer_same s (suc k) (suc k') v v' e h = ap (λ (x : ℕ). answer x 0 s s) e

outcome_same : (k k' : ℕ) (x x' y : List ℕ) → k ≡ k' → (k ≡ 0 → x ≡ x') → outcome k x y ≡ outcome k' x' y
unfolding outcome
outcome_same zero zero x x' y e h = h refl
outcome_same zero (suc k') x x' y e h = absurd (omega arith)
outcome_same (suc k) zero x x' y e h = absurd (omega arith)
outcome_same (suc k) (suc k') x x' y e h = refl

-- ---- one post in two runs

module _ (s : Session) (l l' : List ℕ) (r : ℕ) (long : length l ≡ length l')
    (row : r ≤ last_row_at → mark s r ≡ held → row_at (width s) l r ≡ row_at (width s) l' r) where
  frame_same : frame_tests s l ≡ frame_tests s l'
  frame_same =
      ap (λ (m : ℕ). session_tests s.n s.t s.post s.points (points_of s) ++ (5 when not (eqb m (rows_length (shape_of s))) ∷ [])) long

  -- behind the frame the same tests P, then such as count only where all of these fail
  behind : (P Q Q' : List Test) → (AllFail P → first Q ≡ first Q') → first (frame_tests s l ++ (P ++ Q)) ≡ first (frame_tests s l' ++ (P ++ Q'))
  behind P Q Q' e =
      ap (λ (f : List Test). first (f ++ (P ++ Q))) frame_same
      ∙ same_after (frame_tests s l') (P ++ Q) (P ++ Q') (λ fr. same_after P Q Q' e)

  module _ (caller : ℕ) (lent lent' : List ℕ) (e : length lent ≡ length lent') where
    pub message_refusal_is : message_refusal_of s l r caller lent ≡ message_refusal_of s l' r caller lent'
    unfolding message_refusal_of
    message_refusal_is =
        behind (message_place s r lent) (message_late (any_beyond (row_at (width s) l r)) ++ (15 when barred_from s r caller ∷ []))
        (message_late (any_beyond (row_at (width s) l' r)) ++ (15 when barred_from s r caller ∷ [])) (λ f.
        let k = message_placed s r lent f in
        ap (λ (x : List ℕ). first (message_late (any_beyond x) ++ (15 when barred_from s r caller ∷ []))) (row k.row_in k.is_held))
        ∙ rw e

    pub message_answer_is : message_answer s l r caller lent ≡ message_answer s l' r caller lent'
    message_answer_is = ap (λ (k : ℕ). answer k 0 s s) message_refusal_is

  module _ (blocks : List ℕ) where
    pub open_refusal_is : open_refusal_of s l r blocks ≡ open_refusal_of s l' r blocks
    unfolding open_refusal_of
    open_refusal_is =
        behind (open_place s r blocks) (late (row_at (width s) l r)) (late (row_at (width s) l' r)) (λ f.
        let k = open_placed s r blocks f in ap (λ (x : List ℕ). first (late x)) (row k.row_in k.is_held))
      where
        late : List ℕ → List Test
        late x = open_numbers s (any_beyond x) blocks ++ walk_tests s x blocks

    opened_same : open_refusal_of s l r blocks ≡ 0 → opened s (row_at (width s) l r) blocks ≡ opened s (row_at (width s) l' r) blocks
    opened_same z =
        let k = (row_opened s l r blocks z).checked.placed in ap (λ (x : List ℕ). opened s x blocks) (row k.row_in k.is_held)

    pub open_answer_is : open_answer s l r blocks ≡ open_answer s l' r blocks
    open_answer_is = answer_same s _ _ _ _ open_refusal_is opened_same

    checks_same : first (open_checks_of s l r blocks) ≡ first (open_checks_of s l' r blocks)
    checks_same =
        behind (open_place s r blocks) (late (row_at (width s) l r)) (late (row_at (width s) l' r)) (λ f.
        let k = open_placed s r blocks f in ap (λ (x : List ℕ). first (late x)) (row k.row_in k.is_held))
      where
        late : List ℕ → List Test
        late x = open_numbers s (any_beyond x) blocks

    pub accepted_same : accepted_at r blocks (record { session = s; rows = l }) ≡ accepted_at r blocks (record { session = s; rows = l' })
    unfolding accepted_at
    accepted_same =
        outcome_same _ _ _ _ [] checks_same (λ z.
        let k = (open_checked s l r blocks z).placed in ap (λ (x : List ℕ). accepted s x blocks) (row k.row_in k.is_held))

  -- the line that a message makes
  module _ (i caller : ℕ) (lent lent' : List ℕ) (e : length lent ≡ length lent') where
    pub message_line : sent_by i (message_answer s l r caller lent).refusal (its_opening r ∷ []) (message_out_of s l r caller lent ∷ [])
        ≡ sent_by i (message_answer s l' r caller lent').refusal (its_opening r ∷ []) (message_out_of s l' r caller lent' ∷ [])
    unfolding outcome
    message_line = go (message_refusal_of s l r caller lent) (message_refusal_of s l' r caller lent') (message_refusal_is caller lent lent' e) coefficients_same
      where
        coefficients_same : message_refusal_of s l r caller lent ≡ 0 → coefficients s (row_at (width s) l r) ≡ coefficients s (row_at (width s) l' r)
        coefficients_same z =
            let k = (checks_passed s l r lent (message_split s l r caller lent z).0).placed in
            ap (coefficients s) (row k.row_in k.is_held)

        go : (k k' : ℕ) → k ≡ k' → (k ≡ 0 → coefficients s (row_at (width s) l r) ≡ coefficients s (row_at (width s) l' r))
            → sent_by i (answer k 0 s s).refusal (its_opening r ∷ []) (outcome k (coefficients s (row_at (width s) l r)) lent ∷ [])
            ≡ sent_by i (answer k' 0 s s).refusal (its_opening r ∷ []) (outcome k' (coefficients s (row_at (width s) l' r)) lent' ∷ [])
        go zero zero q h = ap (λ (x : List ℕ). opening_line r i x ∷ []) (h refl)
        go zero (suc k') q h = absurd (omega arith)
        go (suc k) zero q h = absurd (omega arith)
        go (suc k) (suc k') q h = refl
