-- What a table may say: kinds, lookaheads, flow counts and the lines of the flows.
use Rattle.std.specs.Prelude.{ℕ, ◌+◌, Bool, true, cond, ◌&&◌, List, [], ◌∷◌, Some, None, Option, ◌==◌, nat_le}
use Rattle.octets.specs.Ranges.{one_to_sixteen}
use Rattle.table.specs.declared.line.Kind.{Kind}
use Rattle.table.specs.declared.line.Kind.TheVariants.{RoundRobin, Tags}
use Rattle.table.specs.declared.line.Line.{Line}

-- the number of a kind
abbrev pub kind_number : Kind → ℕ
kind_number RoundRobin = 1
kind_number Tags = 2

-- the kind that has a number, if any
abbrev pub kind_numbered : ℕ → Option Kind
kind_numbered n = cond (n == 1) (Some RoundRobin) (cond (n == 2) (Some Tags) None)

-- tags look ahead by 0 to 16, round robin never does
abbrev pub lookahead_fits : Kind → ℕ → Bool
lookahead_fits RoundRobin p = p == 0
lookahead_fits Tags p = nat_le p 16

-- tags have a delay weight of 1 to 16, round robin has none
abbrev pub delay_weight_fits : Kind → ℕ → Bool
delay_weight_fits RoundRobin d = d == 0
delay_weight_fits Tags d = one_to_sixteen d

-- a flow's line; its two limits may be any byte
abbrev pub line_fits : Kind → Line → Bool
line_fits k l = one_to_sixteen l.weight && delay_weight_fits k l.delay_weight

-- its four bytes
abbrev pub line_bytes : Line → List ℕ
line_bytes l = l.weight ∷ l.delay_weight ∷ l.lag_limit ∷ l.lead_limit ∷ []

abbrev pub lines_fit : Kind → List Line → Bool
lines_fit k [] = true
lines_fit k (l ∷ ls) = line_fits k l && lines_fit k ls

-- what stands in a table past its last flow
abbrev pub no_line : Line
no_line = record { weight = 0; delay_weight = 0; lag_limit = 0; lead_limit = 0 }

-- the sum of the weights
abbrev pub weights_sum : List Line → ℕ
weights_sum [] = 0
weights_sum (l ∷ ls) = l.weight + weights_sum ls
