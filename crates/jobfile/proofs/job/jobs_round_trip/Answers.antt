use Rattle.jobfile.proofs.Back.{write_then_read}
use Rattle.jobfile.proofs.job.jobs_round_trip.Goals as goal

pub returns : goal.returns
returns c = write_then_read
