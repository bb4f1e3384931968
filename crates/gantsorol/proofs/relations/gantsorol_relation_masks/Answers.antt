-- What `masks` requires of the terms holds of whatever `collect` makes of a list.
use Rattle.std.proofs.Common.{rules}
use Rattle.relation.proofs.Passing.{collected_counted}
use Rattle.gantsorol.proofs.relations.gantsorol_relation_masks.Goals as goal

pub masks-requires : goal.masks-requires
masks-requires c = search (rules, collected_counted)
