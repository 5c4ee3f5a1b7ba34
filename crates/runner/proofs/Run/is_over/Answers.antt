use Rattle.std.proofs.Common.{rules}
use Rattle.runner.proofs.Stopped.{stopped_if_nothing_comes}
use Rattle.runner.proofs.Run.is_over.Goals as goal

pub returns-in_default : goal.returns-in_default
returns-in_default c = (search rules, λ h. absurd (c.in_default.not-Over (stopped_if_nothing_comes c.args.self.now.stage h)))
