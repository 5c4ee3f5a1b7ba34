use Rattle.std.proofs.Common.{sym, ap}
use Rattle.round_robin_rule.specs.Rule.{no_quota, pointing_at, ready}
use Rattle.round_robin_rule.proofs.Rounds.{renewed_some_ready}
use Rattle.reference.proofs.Searches.{around_none}
use Rattle.round_robin.proofs.Found.{none_some}
use Rattle.round_robin.proofs.Changes.{found_some}
use Rattle.round_robin.proofs.RoundRobin.choose.Goals as goal

-- where a flow is ready, no round begins
pub returns-in-Some-clause-left : goal.returns-in-Some-clause-left
returns-in-Some-clause-left c =
    let r = c.args.self.now in
    ap (pointing_at r.pointer) (sym (renewed_some_ready _ (found_some r.pointer _ _ c.in-Some.ensures.first)))

-- and where none is, one may begin
pub renew-requires : goal.renew-requires
renew-requires c =
    let r = c.args.self.now in
    let none = around_none ready no_quota r.pointer _ (sym c.in_default.ensures.first) in
    none_some ready no_quota _ none
