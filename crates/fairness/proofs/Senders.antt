-- Who sends waits and is clean, and a marked flow lags or forfeits only where it can't send.
use Rattle.std.proofs.Common.{◌≡◌, ℕ, Bool, true, false, ◌⊎◌, List, Some, None, Option, sym, ◌∙◌, subst, ap, inl, inr}
use Rattle.std.proofs.lemmas.Option.{same_Some}
use Rattle.record.specs.declared.taking.Charge.{Charge}
use Rattle.record.specs.declared.taking.Charge.TheVariants.{Nothing, LeadDown, LagUp, Forfeited}
use Rattle.record.specs.declared.taking.Taking.{Taking}
use Rattle.record.specs.declared.taking.Taking.TheVariants.{Idle, Own, LagRepaid, LeadCharged, Free}
use Rattle.record.specs.Pairs.{sender_of}
use Rattle.cell_rules.specs.declared.row.Row.{Row}
use Rattle.cell_rules.specs.Rules.{able}
use Rattle.cell_rules.proofs.Settling.{Serves, Bears, Right}

module _ (rows : List Row) (clean : ℕ → Bool) where
  serves_able : (t : Taking) → Serves rows clean t → (f : ℕ) → sender_of t ≡ Some f → able rows clean f ≡ true
  serves_able Idle s f e = cc e
  serves_able (Own g) s f e = absurd s
  serves_able (LagRepaid g) s f e = subst (λ j. able rows clean j ≡ true) (same_Some g f e) s.0
  serves_able (LeadCharged g) s f e = subst (λ j. able rows clean j ≡ true) (same_Some g f e) s.0
  serves_able (Free g) s f e = subst (λ j. able rows clean j ≡ true) (same_Some g f e) s

  pub sender_able :
      (o : Option ℕ) (x : Taking × Charge) → Right rows clean o x
      → (f : ℕ) → sender_of x.0 ≡ Some f → able rows clean f ≡ true
  sender_able None x r f e = serves_able x.0 r.0 f e
  sender_able (Some m) x (inl r) f e =
      subst (λ j. able rows clean j ≡ true) (same_Some m f (sym (ap sender_of r.0) ∙ e)) r.2
  sender_able (Some m) x (inr r) f e = serves_able x.0 r.0 f e

  bears_unable : (m : ℕ) (c : Charge) → Bears rows clean m c → (c ≡ LagUp) ⊎ (c ≡ Forfeited) → able rows clean m ≡ false
  bears_unable m Nothing b e = absurd b
  bears_unable m LeadDown b (inl e) = cc e
  bears_unable m LeadDown b (inr e) = cc e
  bears_unable m LagUp b e = b.0
  bears_unable m Forfeited b e = b.0

  pub charged_unable :
      (o : Option ℕ) (x : Taking × Charge) → Right rows clean o x
      → (m : ℕ) → o ≡ Some m → (x.1 ≡ LagUp) ⊎ (x.1 ≡ Forfeited) → able rows clean m ≡ false
  charged_unable None x r m e c = cc e
  charged_unable (Some g) x (inl r) m e (inl c) = cc (r.1, c)
  charged_unable (Some g) x (inl r) m e (inr c) = cc (r.1, c)
  charged_unable (Some g) x (inr r) m e c =
      subst (λ j. able rows clean j ≡ false) (same_Some g m e) (bears_unable g x.1 r.1 c)
