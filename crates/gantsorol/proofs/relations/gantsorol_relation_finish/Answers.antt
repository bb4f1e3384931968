-- What `finish` requires of the terms holds of whatever `collect` makes of a list.
use Rattle.std.proofs.Common.{rules}
use Rattle.relation.proofs.Passing.{collected_counted}
use Rattle.gantsorol.proofs.relations.gantsorol_relation_finish.Goals as goal

pub finish-requires : goal.finish-requires
finish-requires c = search (rules, collected_counted)
