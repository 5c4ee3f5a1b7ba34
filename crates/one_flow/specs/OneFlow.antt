-- One flow: its weight is all the weight there is, so it is never behind its share.
use Rattle.std.specs.Prelude.{Bool, true, false, cond, ◌&&◌, Some, None, ◌==◌}
use Rattle.reference.specs.Meaning.{Meaning}

-- what it holds is whether the flow is due
abbrev pub one_flow : Meaning
one_flow =
    record {
      Held = Bool;
      Sound = λ due. Unit {0};
      flows = λ due. 1;
      weight = λ due f. 1;
      allowance = λ due f. 0;
      total = λ due. 1;
      due = λ due f. (f == 0) && due;
      arrears = λ due f. 0;
      entered = λ due f. cond (f == 0) true due;
      left = λ due f. cond (f == 0) false due;
      marks = λ due. cond due (Some 0) None;
      turned = λ due. due;
    }
