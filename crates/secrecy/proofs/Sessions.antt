-- One call of the list in both runs: every post's session is the same after it, the numbers that it remembers too.
use Prim.Native.Nat.{ℕ, suc, ◌≤◌}
use mathlib.Core.Path.{◌≡◌, sym, ◌∙◌, ap, ap₂}
use mathlib.Core.List.{List}
use Rattle.shape.specs.declared.Points.{Points}
use Rattle.session.specs.declared.Session.{Session}
use Rattle.runs.specs.Outline.{Act, acts, sends}
use Rattle.runs.specs.Calls.{Call, perform, after}
use Rattle.runs.proofs.Marks.{Opened, session_at, marks_all}
use Rattle.runs.proofs.Outcomes.{refusal_of, refused}
use Rattle.runs.proofs.Facts.{Allowed}
use Rattle.runs.proofs.Steps.{opened_after_of, session_after_is}
use Rattle.secrecy.specs.Steps.{Step, call_at}
use Rattle.secrecy.specs.Rules.{Rule}
use Rattle.secrecy.proofs.Moves.{opened_then, acts_at, opened_at}
use Rattle.secrecy.proofs.State.{stand_at, fits}
use Rattle.secrecy.proofs.Pair.{Two, run_one, run_two, Moments, moment_one, moment_two, Pair, Fit}
use Rattle.secrecy.proofs.Together.{opened_after}

module _ (T : Two) (m : Moments) (R : Pair T m) (c : Step) (i : ℕ) (lo : 1 ≤ i) (hi : i ≤ T.plan.n) where
  open m use {marks as M, vec, vec', lines, posts as q, posts' as q'}

  abbrev c1 : Call
  c1 = call_at T.plan T.d T.u lines i c

  abbrev c2 : Call
  c2 = call_at T.plan T.d' T.u' lines i c

  abbrev Y : Opened
  Y = (R.one.posts i lo hi).opened

  abbrev Y' : Opened
  Y' = (R.two.posts i lo hi).opened

  -- as the session remembers them
  opened_same : Y ≡ Y'
  opened_same =
      let e : session_at T.plan T.d i M Y ≡ session_at T.plan T.d' i M Y' =
      sym (R.one.posts i lo hi).session ∙ R.sessions i lo hi ∙ (R.two.posts i lo hi).session in
      ap (λ (s : Session). record { y_a_is = s.y_a; y_b_is = s.y_b }) e

  pub session_idle : (k : ℕ) → refusal_of c1 (q i) ≡ suc k → refusal_of c2 (q' i) ≡ suc k
      → (after (perform c1 (q i))).session ≡ (after (perform c2 (q' i))).session
  session_idle k z z' = (refused c1 (q i) k z).0 ∙ R.sessions i lo hi ∙ sym (refused c2 (q' i) k z').0

  pub session_live : refusal_of c1 (q i) ≡ 0 → refusal_of c2 (q' i) ≡ 0 → Allowed (acts c) (sends c) M → Rule T.plan c 0 lines → Fit T m R c
      → (after (perform c1 (q i))).session ≡ (after (perform c2 (q' i))).session
  session_live z z' al rule fit =
      session_after_is (stand_at (run_one T) (moment_one m) R.one i lo hi) c1 z (fits (run_one T) (moment_one m) R.one i lo hi c al rule)
      ∙ ap₂ (λ (todo : List Act) (O : Opened). session_at T.plan T.d i (marks_all todo M) O)
      (acts_at T.plan T.d T.u lines i c)
      (opened_at T.plan T.d T.u lines i c M vec Y ∙ opened_after T m R c al rule fit Y ∙ ap (opened_then T.plan T.d' T.u' c M vec') opened_same
      ∙ sym (opened_at T.plan T.d' T.u' lines i c M vec' Y'))
      ∙ ap (λ (f : ℕ → Points). with_points_lem (f i)) (sym T.link.points)
      ∙ ap (λ (todo : List Act). session_at T.plan T.d' i (marks_all todo M) O') (sym (acts_at T.plan T.d' T.u' lines i c))
      ∙ sym (session_after_is (stand_at (run_two T) (moment_two m) R.two i lo hi) c2 z' (fits (run_two T) (moment_two m) R.two i lo hi c al rule))
    where
      O' : Opened
      O' = opened_after_of T.plan T.d' c2 M vec' Y'

      with_points_lem : Points → Session
      with_points_lem w = record {
        n = T.plan.n;
        t = T.plan.t;
        post = i;
        points = T.plan.points;
        first = w.first;
        second = w.second;
        marks = (marks_all (acts c) M).marks;
        factor_a = (marks_all (acts c) M).factor_a_is;
        factor_b = (marks_all (acts c) M).factor_b_is;
        y_a = O'.y_a_is;
        y_b = O'.y_b_is;
        barred = (marks_all (acts c) M).sets;
      }
