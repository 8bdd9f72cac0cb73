use Rattle.images.proofs.Trip.{read_then_write, write_then_read}
use Rattle.images.proofs.images_round_trip.Goals as goal

pub returns : goal.returns
returns c = record { there = read_then_write; back = write_then_read }
