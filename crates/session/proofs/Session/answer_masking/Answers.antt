-- `Session::answer_masking` meets its contract. Where the two ways meet, the lists are what the way left.
use Prim.Native.Nat.{ℕ}
use mathlib.Core.Path.{◌≡◌, ◌∙◌, ap, ap₂}
use mathlib.Core.List.{List}
use Rattle.session.specs.declared.Session.{Session}
use Rattle.session.specs.Sessions.{with_marks, with_factors, masked_triple}
use Rattle.session.proofs.Endings.{answered_by, made_accepted, made_refused}
use Rattle.session.proofs.Session.answer_masking.Goals as goal
use Rattle.session.proofs.Session.answer_masking.Goals.{then-refusal-eq0, else-refusal-eq0}

made_of : (s : Session) (m m' a a' b b' : List ℕ) → m ≡ m' → a ≡ a' → b ≡ b' → with_factors (with_marks s m) a b ≡ with_factors (with_marks s m') a' b'
made_of s m m' a a' b b' em ea eb = ap (λ (y : List ℕ). with_factors (with_marks s y) a b) em ∙ ap₂ (with_factors (with_marks s m')) ea eb

pub returns : goal.returns
returns g c =
    let new = masked_triple c.args.self c.args.first c.args.a c.args.b in
    answered_by _ _ _ _ _ _
    (elim c.if-refusal-eq0.branch [
      | then-refusal-eq0 w ↦ made_accepted _ new c.args.self _ w.if-refusal-eq0.true (made_of c.args.self _ _ _ _ _ _ w.marks-is w.factor_a-is w.factor_b-is)
      | else-refusal-eq0 w ↦ made_refused _ new c.args.self _ w.if-refusal-eq0.false (made_of c.args.self _ _ _ _ _ _ w.marks-is w.factor_a-is w.factor_b-is)
    ]) c.as_number-refusal.ensures
