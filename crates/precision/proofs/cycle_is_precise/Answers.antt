use Rattle.precision.proofs.cycle_is_precise.Goals as goal
use Rattle.precision.proofs.Settings.{settings_are_fit}
use Rattle.precision.proofs.Turns.{idle_runs, cycle_held, cut_held}

pub returns : goal.returns
returns c = record { settings = settings_are_fit; starts = idle_runs; cycles = cycle_held; cuts = cut_held }
