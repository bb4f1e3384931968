-- `Session::answer_marking_triple` meets its contract. Where the two ways meet, the list is what the way left.
use Prim.Native.Nat.{ℕ, ◌+◌}
use mathlib.Core.Path.{◌≡◌, ◌∙◌}
use mathlib.Core.List.{List}
use lib.ListN.{set}
use Rattle.session.proofs.Endings.{answered_by, marks_written, marks_kept}
use Rattle.session.proofs.Session.answer_marking_triple.Goals as goal
use Rattle.session.proofs.Session.answer_marking_triple.Goals.{then-refusal-eq0, else-refusal-eq0}

three_set : (l : List ℕ) (k : ℕ) {a b c x y z : ℕ} → a ≡ x → b ≡ y → c ≡ z
    → set (set (set l k a) (k + 1) b) (k + 2) c ≡ set (set (set l k x) (k + 1) y) (k + 2) z
three_set l k ea eb ec = cc (ea, eb, ec)

pub returns : goal.returns
returns g c =
    answered_by _ _ _ _ _ _
    (elim c.if-refusal-eq0.branch [
      | then-refusal-eq0 w ↦ marks_written _ c.args.self _ _ w.if-refusal-eq0.true (w.marks-is ∙ three_set c.args.self.marks c.args.first w.as_number.ensures w.as_number-then-refusal-eq0.ensures w.as_number-then-refusal-eq0-2.ensures)
      | else-refusal-eq0 w ↦ marks_kept _ c.args.self _ _ w.if-refusal-eq0.false w.marks-is
    ]) c.as_number-refusal.ensures
