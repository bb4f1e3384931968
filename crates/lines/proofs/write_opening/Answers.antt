-- 1 to 4 first.
use Rattle.std.proofs.Common.{rules, ◌∙◌}
use Rattle.refusal.proofs.Ranges.{party_passed}
use Rattle.lines.proofs.Refusing.{party_refuse, refused_answer, posted_answer, posted_list}
use Rattle.lines.proofs.write_opening.Goals as goal

ruleset ends = (rules, party_passed, party_refuse, refused_answer, posted_answer, posted_list)

pub returns-then-party-ne0-clause-value : goal.returns-then-party-ne0-clause-value
returns-then-party-ne0-clause-value c = let told = c.number_of-party.ensures ∙ c.party.ensures in search ends

pub v_len-requires : goal.v_len-requires
v_len-requires c = let told = c.number_of-party.ensures ∙ c.party.ensures in search ends

pub returns-clause-value : goal.returns-clause-value
returns-clause-value c = let told = c.number_of-party.ensures ∙ c.party.ensures in search ends

pub returns-clause-out_after : goal.returns-clause-out_after
returns-clause-out_after c = let told = c.number_of-party.ensures ∙ c.party.ensures in search ends
