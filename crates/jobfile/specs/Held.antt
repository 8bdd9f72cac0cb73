-- The job of the code.
use Rattle.std.specs.Prelude.{length, vec_items, Option}
use Rattle.std.specs.Option.{option_map}
use Rattle.jobfile.specs.declared.order.Job.{Job}
use Rattle.jobfile.specs.Jobs.{Order}
use Rattle.pickcore.specs.declared.setup.Setup.{Setup}

abbrev pub held : Job → Order
held j = record { scheme = j.setting.scheme; delays = j.setting.delays; capacity = j.setting.capacity; program = vec_items j.program; words = vec_items j.words; cycles = j.cycles }

abbrev pub held_in : Option Job → Option Order
held_in o = option_map held o

-- what a core is loaded with for a job
abbrev pub setup_of : Order → Setup
setup_of o = record { delays = o.delays; capacity = o.capacity; program_length = length o.program; data_length = length o.words }
