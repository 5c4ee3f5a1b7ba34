-- A turn marks the flow that is first in turn.
use Rattle.std.proofs.Common.{◌≡◌, ℕ, ◌<◌, length, Some, None, Option, sym, refl, ap, subst, ⊎_elim, arith}
use Rattle.std.proofs.lemmas.List.{get_or_past}
use Rattle.std.proofs.lemmas.Bool.{cases_lt}
use Rattle.reference.specs.Flows.{away}
use Rattle.reference.proofs.Searches.{around_passes, around_none, around_passes_over}
use Rattle.round_robin_rule.specs.Rule.{no_quota, ready, renewed, chosen, FirstInTurn, MarksInTurn}
use Rattle.round_robin_rule.proofs.Rounds.{renewed_length}

pub marks_in_turn : MarksInTurn
marks_in_turn h s = split (chosen h) refl
  where
    split : (o : Option ℕ) → chosen h ≡ o → FirstInTurn h o
    split None e = λ g.
        ⊎_elim
        (around_none ready no_quota h.pointer (renewed h.quotas) e g)
        (λ l. ap ready (get_or_past (renewed h.quotas) g no_quota l))
        (cases_lt g (length (renewed h.quotas)))
    split (Some f) e = (
      (around_passes ready no_quota h.pointer (renewed h.quotas) f e).1,
      λ g l near.
          let n = renewed_length h.quotas in
          around_passes_over ready no_quota h.pointer (renewed h.quotas) f (omega (arith, n, s.points)) e g (omega (arith, n))
          (subst (λ m. away m h.pointer g < away m h.pointer f) (sym n) near),
    )
