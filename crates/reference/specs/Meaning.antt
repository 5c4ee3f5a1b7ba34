-- What an error-free reference means: it names the flow whose turn it would be on a perfect channel.
use Rattle.std.specs.Prelude.{◌≡◌, ℕ, zero, suc, ◌+◌, ◌-◌, ◌*◌, ◌<◌, ◌≤◌, Bool, true, false, cond, ◌≢◌, Some, None, Option, nat_lt}

-- arrears are counted in parts of which so many make one whole: the least common multiple of 1 to 16
abbrev pub whole : ℕ
whole = 720720

-- The words in which a reference is spoken of. Each is a function of what is held: so the mark, and what any call
-- leaves, are fixed by what the reference held.
pub record Meaning : Type 1 where
  pub Held : Type 0
  -- the states that the reference can be in; the laws are about these
  pub Sound : Held → Type 0
  -- what it tells: the number of flows, of each flow its weight and its allowance, and the total weight
  pub flows : Held → ℕ
  pub weight : Held → ℕ → ℕ
  pub allowance : Held → ℕ → ℕ
  pub total : Held → ℕ
  -- whether a flow is due: something is there for it to send
  pub due : Held → ℕ → Bool
  -- how far a due flow is behind its share, in parts
  pub arrears : Held → ℕ → ℕ
  -- what is held after a flow enters, and after a flow leaves
  pub entered : Held → ℕ → Held
  pub left : Held → ℕ → Held
  -- the flow that a turn marks, and what is held after the turn
  pub marks : Held → Option ℕ
  pub turned : Held → Held

-- the answer to a question about flow f: none for a number outside the table
abbrev pub told : (M : Meaning) → M.Held → ℕ → (M.Held → ℕ → ℕ) → Option ℕ
told M h f number = cond (nat_lt f (M.flows h)) (Some (number h f)) None

-- the sum of a number over the first n flows
abbrev pub sum_below : ℕ → (ℕ → ℕ) → ℕ
sum_below zero number = 0
sum_below (suc n) number = sum_below n number + number n

-- the same numbers are told of k as of h
pub record SameNumbers (M : Meaning) (h k : M.Held) : Type 0 where
  pub flows : M.flows k ≡ M.flows h
  pub weight : (f : ℕ) → M.weight k f ≡ M.weight h f
  pub allowance : (f : ℕ) → M.allowance k f ≡ M.allowance h f
  pub total : M.total k ≡ M.total h

-- The laws: what every reference keeps, and all that is known of one.
pub record Lawful (M : Meaning) : Type 0 where
  -- Every call leaves a state that the reference can be in.
  pub enter_sound : (h : M.Held) (f : ℕ) → M.Sound h → M.Sound (M.entered h f)
  pub leave_sound : (h : M.Held) (f : ℕ) → M.Sound h → M.Sound (M.left h f)
  pub turn_sound : (h : M.Held) → M.Sound h → M.Sound (M.turned h)
  -- It tells a flow count of 1 to 16, weights of at least 1, and a total weight of at least their sum.
  pub one_to_sixteen_flows : (h : M.Held) → M.Sound h → (1 ≤ M.flows h) × (M.flows h ≤ 16)
  pub weight_at_least_one : (h : M.Held) (f : ℕ) → M.Sound h → f < M.flows h → 1 ≤ M.weight h f
  pub total_covers_weights : (h : M.Held) → M.Sound h → sum_below (M.flows h) (M.weight h) ≤ M.total h
  -- These numbers, and the allowances, never change.
  pub enter_keeps_numbers : (h : M.Held) (f : ℕ) → M.Sound h → SameNumbers M h (M.entered h f)
  pub leave_keeps_numbers : (h : M.Held) (f : ℕ) → M.Sound h → SameNumbers M h (M.left h f)
  pub turn_keeps_numbers : (h : M.Held) → M.Sound h → SameNumbers M h (M.turned h)
  -- It holds which flows are due: a number outside the table never is.
  pub only_flows_are_due : (h : M.Held) (f : ℕ) → M.Sound h → M.due h f ≡ true → f < M.flows h
  -- The arrears of a due flow lie between 0 and its allowance.
  pub arrears_within_allowance :
      (h : M.Held) (f : ℕ) → M.Sound h → M.due h f ≡ true → M.arrears h f ≤ whole * M.allowance h f
  -- Entering makes a flow due. For the others due stays, and the arrears of those due do not fall.
  pub entered_is_due : (h : M.Held) (f : ℕ) → M.Sound h → f < M.flows h → M.due (M.entered h f) f ≡ true
  pub enter_keeps_others_due :
      (h : M.Held) (f g : ℕ) → M.Sound h → f ≢ g → M.due (M.entered h f) g ≡ M.due h g
  pub enter_lowers_no_arrears :
      (h : M.Held) (f g : ℕ) → M.Sound h → f ≢ g → M.due h g ≡ true
      → M.arrears h g ≤ M.arrears (M.entered h f) g
  -- Leaving makes a flow not due. For the others due stays, and the arrears of those due do not fall.
  pub left_is_not_due : (h : M.Held) (f : ℕ) → M.Sound h → f < M.flows h → M.due (M.left h f) f ≡ false
  pub leave_keeps_others_due : (h : M.Held) (f g : ℕ) → M.Sound h → f ≢ g → M.due (M.left h f) g ≡ M.due h g
  pub leave_lowers_no_arrears :
      (h : M.Held) (f g : ℕ) → M.Sound h → f ≢ g → M.due h g ≡ true → M.arrears h g ≤ M.arrears (M.left h f) g
  -- Entering a due flow, leaving one that is not due, or a number outside the table alters nothing.
  pub entering_again_alters_nothing : (h : M.Held) (f : ℕ) → M.Sound h → M.due h f ≡ true → M.entered h f ≡ h
  pub leaving_again_alters_nothing : (h : M.Held) (f : ℕ) → M.Sound h → M.due h f ≡ false → M.left h f ≡ h
  pub entering_outside_alters_nothing : (h : M.Held) (f : ℕ) → M.Sound h → M.flows h ≤ f → M.entered h f ≡ h
  pub leaving_outside_alters_nothing : (h : M.Held) (f : ℕ) → M.Sound h → M.flows h ≤ f → M.left h f ≡ h
  -- A turn marks a due flow, and none exactly when no flow is due.
  pub marked_is_due : (h : M.Held) (f : ℕ) → M.Sound h → M.marks h ≡ Some f → M.due h f ≡ true
  pub none_marked_none_due : (h : M.Held) → M.Sound h → M.marks h ≡ None → (f : ℕ) → M.due h f ≡ false
  pub none_due_none_marked : (h : M.Held) → M.Sound h → ((f : ℕ) → M.due h f ≡ false) → M.marks h ≡ None
  -- A turn does not change who is due.
  pub turn_keeps_due : (h : M.Held) (f : ℕ) → M.Sound h → M.due (M.turned h) f ≡ M.due h f
  -- A turn that marks another flow raises a due flow's arrears by at least its weight.
  pub turn_raises_others :
      (h : M.Held) (f g : ℕ) → M.Sound h → M.marks h ≡ Some f → f ≢ g → M.due h g ≡ true
      → M.arrears h g + whole * M.weight h g ≤ M.arrears (M.turned h) g
  -- A turn that marks the flow itself lowers them by at most the total weight less its weight.
  pub turn_lowers_marked :
      (h : M.Held) (f : ℕ) → M.Sound h → M.marks h ≡ Some f
      → M.arrears h f ≤ M.arrears (M.turned h) f + whole * (M.total h - M.weight h f)
