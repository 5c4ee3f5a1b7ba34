use Rattle.std.proofs.Common.{IfSome, take, ◌≡◌, ◌++◌, sym, subst, ◌∙◌}
use Rattle.std.specs.Option.{option_map}
use Rattle.table.specs.Refusals.{TableRead}
use Rattle.input.proofs.Front.{said_of_all}
use Rattle.input.proofs.read_table.Goals as goal

pub returns : goal.returns
returns g c =
    said_of_all (g.R.Read.remaining c.args.input) c.take.result.limit c.new-bytes.result.items c.read_to_end.new.buf.items
    (λ b. TableRead b c.read_front.result) (c.take.ensures.limit ∙ c.deciding_bytes.ensures.number) c.new-bytes.ensures.items
    (subst
    (λ r. IfSome (option_map (take c.take.result.limit) (g.R.Read.remaining r)) (λ xs. c.read_to_end.new.buf.items ≡ c.new-bytes.result.items ++ xs))
    c.take.ensures.inner c.in_ok-read_to_end.ensures.bytes)
    (λ b e. c.read_front.ensures b (e ∙ sym c.deref.ensures.value))
