-- What every call keeps.
use Rattle.reference.specs.Meaning.{Meaning, Lawful, SameNumbers}
use Rattle.reference.specs.Calls.{Call, after}
use Rattle.reference.specs.Calls.Call.{turning, entering, leaving}

module _ (M : Meaning) (L : Lawful M) (h : M.Held) (s : M.Sound h) where
  pub after_sound : (x : Call) → M.Sound (after M h x)
  after_sound turning = L.turn_sound h s
  after_sound (entering f) = L.enter_sound h f s
  after_sound (leaving f) = L.leave_sound h f s

  pub after_numbers : (x : Call) → SameNumbers M h (after M h x)
  after_numbers turning = L.turn_keeps_numbers h s
  after_numbers (entering f) = L.enter_keeps_numbers h f s
  after_numbers (leaving f) = L.leave_keeps_numbers h f s
