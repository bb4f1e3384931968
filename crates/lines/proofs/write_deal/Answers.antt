-- 1 and 2 first.
use Rattle.std.proofs.Common.{rules, ◌∙◌}
use Rattle.lines.proofs.Refusing.{posts_refuse, refused_answer, answer_then}
use Rattle.lines.proofs.write_deal.Goals as goal

ruleset ends = (rules, posts_refuse, refused_answer, answer_then)

pub returns-then-posts-ne0-clause-value : goal.returns-then-posts-ne0-clause-value
returns-then-posts-ne0-clause-value c = let told = c.number_of-posts.ensures ∙ c.posts.ensures in search ends

pub returns-clause-value : goal.returns-clause-value
returns-clause-value c = let told = c.number_of-posts.ensures ∙ c.posts.ensures in search ends
