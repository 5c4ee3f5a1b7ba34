-- Proofs: either of two lawful references is lawful.
use Rattle.std.proofs.Common.{inl, inr, arith}
use Rattle.std.specs.Prelude.{◌⊎◌}
use Rattle.reference.specs.Meaning.{Meaning, Lawful, SameNumbers}
use Rattle.table_reference.specs.Either.{either}

both : {A B : Type 0} (P : A ⊎ B → Type 0) → ((a : A) → P (inl a)) → ((b : B) → P (inr b)) → (h : A ⊎ B) → P h
both P f g (inl a) = f a
both P f g (inr b) = g b

module _ (M N : Meaning) where
  first_numbers : (a x : M.Held) → SameNumbers M a x → SameNumbers (either M N) (inl a) (inl x)
  first_numbers a x s = record { flows = s.flows; weight = s.weight; allowance = s.allowance; total = s.total }

  second_numbers : (b y : N.Held) → SameNumbers N b y → SameNumbers (either M N) (inr b) (inr y)
  second_numbers b y s = record { flows = s.flows; weight = s.weight; allowance = s.allowance; total = s.total }

  pub either_lawful : Lawful M → Lawful N → Lawful (either M N)
  either_lawful L K =
      record {
        enter_sound = both _ L.enter_sound K.enter_sound;
        leave_sound = both _ L.leave_sound K.leave_sound;
        turn_sound = both _ L.turn_sound K.turn_sound;
        one_to_sixteen_flows = both _ L.one_to_sixteen_flows K.one_to_sixteen_flows;
        weight_at_least_one = both _ L.weight_at_least_one K.weight_at_least_one;
        total_covers_weights = both _ L.total_covers_weights K.total_covers_weights;
        enter_keeps_numbers =
            both _ (λ a f s. first_numbers _ _ (L.enter_keeps_numbers a f s)) (λ b f s. second_numbers _ _ (K.enter_keeps_numbers b f s));
        leave_keeps_numbers =
            both _ (λ a f s. first_numbers _ _ (L.leave_keeps_numbers a f s)) (λ b f s. second_numbers _ _ (K.leave_keeps_numbers b f s));
        turn_keeps_numbers =
            both _ (λ a s. first_numbers _ _ (L.turn_keeps_numbers a s)) (λ b s. second_numbers _ _ (K.turn_keeps_numbers b s));
        only_flows_are_due = both _ L.only_flows_are_due K.only_flows_are_due;
        arrears_within_allowance = both _ L.arrears_within_allowance K.arrears_within_allowance;
        entered_is_due = both _ L.entered_is_due K.entered_is_due;
        enter_keeps_others_due = both _ L.enter_keeps_others_due K.enter_keeps_others_due;
        enter_lowers_no_arrears = both _ L.enter_lowers_no_arrears K.enter_lowers_no_arrears;
        left_is_not_due = both _ L.left_is_not_due K.left_is_not_due;
        leave_keeps_others_due = both _ L.leave_keeps_others_due K.leave_keeps_others_due;
        leave_lowers_no_arrears = both _ L.leave_lowers_no_arrears K.leave_lowers_no_arrears;
        entering_again_alters_nothing = grind arith;
        leaving_again_alters_nothing = grind arith;
        entering_outside_alters_nothing = grind arith;
        leaving_outside_alters_nothing = grind arith;
        marked_is_due = both _ L.marked_is_due K.marked_is_due;
        none_marked_none_due = both _ L.none_marked_none_due K.none_marked_none_due;
        none_due_none_marked = both _ L.none_due_none_marked K.none_due_none_marked;
        turn_keeps_due = both _ L.turn_keeps_due K.turn_keeps_due;
        turn_raises_others = both _ L.turn_raises_others K.turn_raises_others;
        turn_lowers_marked = both _ L.turn_lowers_marked K.turn_lowers_marked;
      }
