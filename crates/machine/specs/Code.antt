-- What the code's structs stand for.
use Rattle.std.specs.Prelude.{List, ℕ, take}
use Rattle.machine.specs.Machine.{State}
use Rattle.machine.specs.declared.Control.{Control}
use Rattle.machine.specs.declared.Machine.{Machine}

-- the state that c stands for, where its bytes are the first of `gathered`
abbrev pub state_of : Control → List ℕ → State
state_of c gathered =
    record {
      phase = c.phase;
      gathered = take c.kept gathered;
      start = c.start;
      next = c.next;
      tally = c.tally;
    }

abbrev pub machine_of : Machine → State
machine_of m = state_of m.control m.gathered
