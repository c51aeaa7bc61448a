use Rattle.mls_frame.proofs.Feeding.{loses_nothing, takes_all}
use Rattle.mls_frame.proofs.laws.feeders_lose_nothing.Goals as goal

pub returns : goal.returns
returns c = record { kept = loses_nothing; longest = takes_all }
