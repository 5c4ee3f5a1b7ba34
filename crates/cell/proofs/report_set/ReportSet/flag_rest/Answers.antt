use Rattle.std.proofs.Common.{rules, ◌≡◌, false, cond, ◌&&◌, nat_lt, ◌-◌, ◌<◌, ◌^◌, refl, ap, sym, subst, ◌∙◌}
use Rattle.std.specs.Int.RustNames.{bit_and, bit_or}
use Rattle.cell_rules.specs.Rules.{has}
use Rattle.cell.proofs.FlowSets.{has_first, none_past, none_past_first, past_first, rest_in_mask}
use Rattle.cell.proofs.report_set.ReportSet.flag_rest.Goals as goal

pub invariant_of-self-clause-of_the_cell : goal.invariant_of-self-clause-of_the_cell
invariant_of-self-clause-of_the_cell c =
    let s = c.args.self.now in
    λ f past. ap (λ b. has b f) c.first-all.ensures ∙ none_past_first s.flow_count s.few f past

pub invariant_of-self-clause-dirty_without : goal.invariant_of-self-clause-dirty_without
invariant_of-self-clause-dirty_without c =
    let s = c.args.self.now in
    let n = s.flow_count in
    let fits : s.flagged.bits < 2 ^ 16 = search rules in
    subst (λ b. (f : _) → has b f ≡ false → has (bit_or s.clean.bits (bit_and c.args.clean (bit_and b (65535 - s.flagged.bits)))) f ≡ false)
    (sym c.first-all.ensures)
    (λ f past. none_past n s.few s.flagged.bits s.clean.bits c.args.clean fits f past (s.dirty_without f (s.of_the_cell f (past_first n s.few f past))))

pub returns : goal.returns
returns c =
    let s = c.args.self.now in
    let n = s.flow_count in
    let fits : s.flagged.bits < 2 ^ 16 = search rules in
    record {
      slot = refl;
      flow_count = refl;
      flagged = λ f. ap (λ b. has b f) c.first-all.ensures ∙ has_first n s.few f;
      clean =
          subst (λ b. (f : _) → (has b f && has (bit_or s.clean.bits (bit_and c.args.clean (bit_and b (65535 - s.flagged.bits)))) f) ≡ cond (has s.flagged.bits f) (has s.flagged.bits f && has s.clean.bits f) (nat_lt f n && has c.args.clean f))
          (sym c.first-all.ensures)
          (λ f. rest_in_mask n s.few s.flagged.bits s.clean.bits c.args.clean fits f (s.of_the_cell f) (s.dirty_without f));
    }
