use Rattle.std.proofs.Common.{sym, ◌∙◌}
use Rattle.otherdraw.proofs.Moving.{moved_seen, moved_none, moved_some}
use Rattle.otherdraw.proofs.change.move_draw.Goals as goal

pub change_seen-requires : goal.change_seen-requires
change_seen-requires c =
    let f = c.change_f.ensures in
    moved_seen _ _ _ _ _ _ _ _ _ _ _ c.requires f.out_after _ f.root_after

pub returns-then-is_empty : goal.returns-then-is_empty
returns-then-is_empty c =
    moved_none _ _ _ _ _ _ _ _ _ _ _ c.requires c.change_f.ensures.out_after _ (sym c.is_empty.ensures ∙ c.if-is_empty.true) c.copy_rest.ensures

pub returns-else-is_empty : goal.returns-else-is_empty
returns-else-is_empty c =
    let f = c.change_f.ensures in
    moved_some _ _ _ _ _ _ _ _ _ _ _ c.requires f.out_after _ _ f.root_after (sym c.is_empty.ensures ∙ c.if-is_empty.false) c.change_seen.ensures
