use Rattle.mls_launch.proofs.EventReading.{stripped}
use Rattle.mls_launch.proofs.reading.after.Goals as goal

pub returns : goal.returns
returns c = stripped c.args.front.now c.args.bytes.now c.strip_prefix.result c.strip_prefix.ensures.cases
