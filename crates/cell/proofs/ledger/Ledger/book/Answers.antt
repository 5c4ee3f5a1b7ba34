use Rattle.std.proofs.Common.{ap}
use Rattle.cell.proofs.LedgerBooking.{Turned, Sent, turned_one, turned_none, sender_fits, sent_one, sent_none, slot_kept}
use Rattle.cell.proofs.ledger.Ledger.book.Goals as goal
use Rattle.cell.proofs.ledger.Ledger.book.Goals.{Joined-marked, Joined-sender, in-Some, in_default, in-Some-sender, in_default-sender}

-- the rows once the marked flow has had its turn
turned_so :
    (c : Joined-marked)
    → Turned c.args.self.now c.args.marked c.args.taking c.args.charge c.requires.right c.match-marked.self.1.0
turned_so c =
    let l = c.args.self.now in
    let m = c.args.marked in
    let t = c.args.taking in
    let d = c.args.charge in
    let h = c.requires.right in
    let ys = c.match-marked.self.1.0 in
    elim c.match-marked.branch [
      | in-Some w ↦
          turned_one l m t d h ys w.in-Some.flow w.in-Some.is w.from.ensures w.count_turn.ensures
          (ap (λ s. s.1.0) w.self-is)
      | in_default w ↦ turned_none l m t d h ys w.in_default.is (ap (λ s. s.1.0) w.self-is)
    ]

pub count_sent-requires : goal.count_sent-requires
count_sent-requires c =
    sender_fits c.args.self.now c.args.marked c.args.taking c.args.charge c.requires.right c.match-marked.self.1.0
    (turned_so (goal.at.count_sent-requires c).Joined-marked) c.in-Some-sender.flow c.requires.early c.in-Some-sender.ensures
    c.from-in-Some-sender.ensures

-- and once the sender has sent
sent_so :
    (c : Joined-sender)
    → Turned c.args.self.now c.args.marked c.args.taking c.args.charge c.requires.right c.match-marked.self.1.0
    → Sent c.args.self.now c.args.marked c.args.taking c.args.charge c.requires.right c.match-sender.self.1.0
sent_so c turned =
    let l = c.args.self.now in
    let m = c.args.marked in
    let t = c.args.taking in
    let d = c.args.charge in
    let h = c.requires.right in
    let ys = c.match-marked.self.1.0 in
    let zs = c.match-sender.self.1.0 in
    elim c.match-sender.branch [
      | in-Some-sender w ↦
          sent_one l m t d h ys turned zs w.in-Some-sender.flow w.in-Some-sender.ensures
          w.from-in-Some-sender.ensures w.count_sent.ensures (ap (λ s. s.1.0) w.self-is)
      | in_default-sender w ↦ sent_none l m t d h ys turned zs w.in_default-sender.ensures (ap (λ s. s.1.0) w.self-is)
    ]

pub invariant_of-self-clause-kept : goal.invariant_of-self-clause-kept
invariant_of-self-clause-kept c =
    let here = goal.at.invariant_of-self-clause-kept c in
    slot_kept c.args.self.now c.args.marked c.args.taking c.args.charge c.requires.right c.match-sender.self.1.0
    (sent_so here.Joined-sender (turned_so here.Joined-marked))

pub returns-clause-rows : goal.returns-clause-rows
returns-clause-rows c =
    let here = goal.at.returns-clause-rows c in sent_so here.Joined-sender (turned_so here.Joined-marked)
