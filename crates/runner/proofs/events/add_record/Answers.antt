use Rattle.std.proofs.Common.{◌≡◌, ◌++◌, OnOk, ap, ◌∙◌, subst}
use Rattle.runner.proofs.events.add_record.Goals as goal

pub returns : goal.returns
returns c =
    subst (λ r. OnOk r (c.try_extend_from_slice.new.self.items ≡ c.args.records.now.items ++ c.bytes.result)) c.unwrap.ensures c.try_extend_from_slice.ensures.ok
    ∙ ap (λ bytes. c.args.records.now.items ++ bytes) c.bytes.ensures
