use Rattle.std.proofs.Common.{◌∙◌}
use Rattle.machine_readings.proofs.MemberSteps.{members-then}
use Rattle.machine_readings.proofs.store.Store.has_member_at.Goals as goal

pub returns : goal.returns
returns c = c.has_member.ensures ∙ members-then c.args.at c.args.self.now.core.plan c.args.home c.args.array
