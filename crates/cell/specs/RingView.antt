-- What a ring of the code holds, and how it moves in a slot.
use Rattle.std.specs.Prelude.{◌≡◌}
use Rattle.record.specs.declared.taking.Taking.{Taking}
use Rattle.cell_rules.specs.Rules.{Ring, ring_finds, ring_after}
use Rattle.cell.specs.FlowsView.{clean_of, rows_of}
use Rattle.cell.specs.declared.flows.Flows.{Flows}
use Rattle.cell.specs.declared.ring.Ring.{Ring as CodeRing}

abbrev pub ring_held : CodeRing → Ring
ring_held r = record { pointer = r.pointer; remainder = r.remainder }

-- in a slot of these flows with this taking the ring before becomes the ring after
abbrev pub MovesRing : Flows → CodeRing → Taking → CodeRing → Type 0
MovesRing flows before taking after =
    ring_held after ≡ ring_after taking (ring_held before) (ring_finds (rows_of flows) (clean_of flows) (ring_held before)).1
