use Rattle.mls_launch.proofs.WholeText.{whole_text}
use Rattle.mls_launch.proofs.writing.WatchReport.new.Goals as goal

pub returns : goal.returns
returns c = whole_text c.args.shape.now c.args.events.now c.in_ok-lines.lines.items c.in_ok-lines.totals c.in_ok-lines.ensures.actions c.in_ok-lines.ensures.totals
