-- The whole program: byte by byte it prints an answer to each line, whatever the chunks, and what was printed before stays.
use Prim.Native.Nat.{ℕ, ◌+◌}
use mathlib.Core.Path.{◌≡◌, refl, ap, sym, ◌∙◌}
use mathlib.Core.List.{List, [], ◌∷◌, ◌++◌, append_assoc, append-nil}
use mathlib.Core.Bool.{Bool, true, false, cond}
use native.Mathlib.Omega.{arith}
use borrow.Author.Tests.{ne_eqb}
use lib.ListN.{length, replicate}
use lib.Dec.{eqb}
use Rattle.street_states.specs.declared.State.{State}
use Rattle.street_states.specs.States.{After, first_state}
use Rattle.street_steps.specs.Stepping.{step}
use Rattle.street_store.specs.Sizes.{store_room}
use Rattle.street_steps.proofs.Cutting.{step_cut}
use Rattle.street_answers.specs.Text.{header}
use Rattle.street_splitting.specs.Lines.{kept_length, cut}
use Rattle.street_feeds.specs.Program.{Running, left_by, answered, grown, taken, fed, closed, drained, passed, printed_for, joined, ChunksPrint, begun, output, lines_from, with_answer, answers, printed, PrintsAnswers}
use Rattle.street_transcript.proofs.Chunks.{cut_again, fed_append}

-- ---- by lines
abbrev at : State → List ℕ → ℕ → List ℕ → List ℕ → Running
at st store number out line = record { state = st; store = store; line = cut line; number = number; out = out }

module _ (st : State) (store : List ℕ) (number : ℕ) (out : List ℕ) where
  -- a line answered, cut or not
  answered_at : (line : List ℕ) → answered (at st store number out line) ≡ left_by (at st store number out line) (step st store line)
  unfolding answered
  answered_at line = ap (left_by (at st store number out line)) (step_cut st store line kept_length (omega arith))

  grown_at : (line : List ℕ) (b : ℕ) → grown (at st store number out line) (b ∷ []) ≡ at st store number out (line ++ (b ∷ []))
  unfolding grown
  grown_at line b =
      ap (λ (z : List ℕ). record { state = st; store = store; line = z; number = number; out = out }) (cut_again kept_length line (b ∷ []))

  last_line : (line : List ℕ) → (closed (at st store number out line)).out ≡ out ++ answers st store (number + 1) (lines_from line [])
  unfolding closed lines_from answers
  last_line [] = sym (append-nil out)
  last_line (x ∷ line) =
      let n : eqb (length (cut (x ∷ line))) 0 ≡ false = ne_eqb (length (cut (x ∷ line))) 0 (λ e. omega arith) in
      let m : eqb (length (x ∷ line)) 0 ≡ false = ne_eqb (length (x ∷ line)) 0 (λ e. omega arith) in
      rw (n, m) (ap (λ (p : Running). p.out) (answered_at (x ∷ line)) ∙ ap (λ (z : List ℕ). out ++ z) (sym (append-nil _)))

by_lines : (s line : List ℕ) (st : State) (store : List ℕ) (number : ℕ) (out : List ℕ)
    → (closed (fed (at st store number out line) s)).out ≡ out ++ answers st store (number + 1) (lines_from line s)
unfolding fed lines_from answers
by_lines [] line st store number out = last_line st store number out line
by_lines (b ∷ s) line st store number out =
    go (eqb b 10) (by_lines s (line ++ (b ∷ [])) st store number out) (by_lines s [])
  where
    ended : (a : After)
        → ((st' : State) (store' : List ℕ) (number' : ℕ) (out' : List ℕ)
        → (closed (fed (at st' store' number' out' []) s)).out ≡ out' ++ answers st' store' (number' + 1) (lines_from [] s))
        → (closed (fed (left_by (at st store number out (line ++ (b ∷ []))) a) s)).out
        ≡ out ++ with_answer (number + 1) a (λ a. answers a.given.state a.store (number + 1 + 1) (lines_from [] s))
    ended a ih = ih a.given.state a.store (number + 1) _ ∙ append_assoc out _ _

    go : (t : Bool)
        → (closed (fed (at st store number out (line ++ (b ∷ []))) s)).out ≡ out ++ answers st store (number + 1) (lines_from (line ++ (b ∷ [])) s)
        → ((st' : State) (store' : List ℕ) (number' : ℕ) (out' : List ℕ)
        → (closed (fed (at st' store' number' out' []) s)).out ≡ out' ++ answers st' store' (number' + 1) (lines_from [] s))
        → (closed (fed (cond t (answered (grown (at st store number out line) (b ∷ []))) (grown (at st store number out line) (b ∷ []))) s)).out
        ≡ out ++ answers st store (number + 1) (cond t ((line ++ (b ∷ [])) ∷ lines_from [] s) (lines_from (line ++ (b ∷ [])) s))
    go true keep ih =
        ap (λ (p : Running). (closed (fed p s)).out)
        (ap answered (grown_at st store number out line b) ∙ answered_at st store number out (line ++ (b ∷ [])))
        ∙ ended (step st store (line ++ (b ∷ []))) ih
    go false keep ih = ap (λ (p : Running). (closed (fed p s)).out) (grown_at st store number out line b) ∙ keep

pub prints_answers : PrintsAnswers
unfolding output printed
prints_answers input = by_lines input [] first_state (replicate store_room 0) 0 header

-- ---- what was printed before stays: the program prints and goes on with nothing printed
abbrev pub behind : List ℕ → Running → Running
behind o p = record { state = p.state; store = p.store; line = p.line; number = p.number; out = o ++ p.out }

module _ (o : List ℕ) where
  answered_behind : (p : Running) → answered (behind o p) ≡ behind o (answered p)
  unfolding answered
  answered_behind p =
      let a : After = step p.state p.store p.line in
      ap (λ (z : List ℕ). record { state = a.given.state; store = a.store; line = []; number = p.number + 1; out = z })
      (append_assoc o p.out _)

  taken_behind : (p : Running) (b : ℕ) → taken (behind o p) b ≡ behind o (taken p b)
  unfolding grown
  taken_behind p b = go (eqb b 10)
    where
      go : (t : Bool) → cond t (answered (grown (behind o p) (b ∷ []))) (grown (behind o p) (b ∷ []))
          ≡ behind o (cond t (answered (grown p (b ∷ []))) (grown p (b ∷ [])))
      go true = answered_behind (grown p (b ∷ []))
      go false = refl

  pub fed_behind : (p : Running) (s : List ℕ) → fed (behind o p) s ≡ behind o (fed p s)
  unfolding fed
  fed_behind p [] = refl
  fed_behind p (b ∷ s) = ap (λ (z : Running). fed z s) (taken_behind p b) ∙ fed_behind (taken p b) s

  pub closed_behind : (p : Running) → closed (behind o p) ≡ behind o (closed p)
  unfolding closed
  closed_behind p = go (eqb (length p.line) 0)
    where
      go : (t : Bool) → cond t (behind o p) (answered (behind o p)) ≡ behind o (cond t p (answered p))
      go true = refl
      go false = answered_behind p

-- ---- chunk by chunk, each printed before the next
apart : (p : Running) → p ≡ behind p.out (drained p)
apart p =
    ap (λ (z : List ℕ). record { state = p.state; store = p.store; line = p.line; number = p.number; out = z })
    (sym (append-nil p.out))

-- what was printed, and what the rest prints
closed_apart : (o : List ℕ) (p : Running) (s : List ℕ) → (closed (fed (behind o p) s)).out ≡ o ++ (closed (fed p s)).out
closed_apart o p s = ap (λ (z : Running). (closed z).out) (fed_behind o p s) ∙ ap (λ (z : Running). z.out) (closed_behind o (fed p s))

chunks_closed : (p : Running) (cs : List (List ℕ)) → printed_for p cs ++ (closed (passed p cs)).out ≡ (closed (fed p (joined cs))).out
unfolding printed_for passed joined fed
chunks_closed p [] = refl
chunks_closed p (c ∷ cs) =
    append_assoc (fed p c).out _ _ ∙ ap (λ (z : List ℕ). (fed p c).out ++ z) (chunks_closed (drained (fed p c)) cs)
    ∙ sym (closed_apart (fed p c).out (drained (fed p c)) (joined cs))
    ∙ ap (λ (z : Running). (closed (fed z (joined cs))).out) (sym (apart (fed p c)))
    ∙ ap (λ (z : Running). (closed z).out) (sym (fed_append p c (joined cs)))

pub chunks_print : ChunksPrint
unfolding output
chunks_print cs =
    ap (λ (z : List ℕ). header ++ z) (chunks_closed (drained begun) cs) ∙ sym (closed_apart header (drained begun) (joined cs))

-- one chunk more
pub passed_more : (p : Running) (cs : List (List ℕ)) (c : List ℕ) → passed p (cs ++ (c ∷ [])) ≡ drained (fed (passed p cs) c)
unfolding passed
passed_more p [] c = refl
passed_more p (d ∷ cs) c = passed_more (drained (fed p d)) cs c
