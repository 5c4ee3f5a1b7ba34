-- What the smallest reference of the code holds.
use Rattle.std.specs.Prelude.{Bool}
use Rattle.one_flow.specs.declared.OneFlow.{OneFlow}

abbrev pub one_flow_held : OneFlow → Bool
one_flow_held r = r.due
