use Rattle.std.specs.Int.{w32}
use Rattle.mls_field.proofs.Texts.{number_put, on_ok}
use Rattle.mls_hist.specs.HistPart.{mark}
use Rattle.mls_hist.proofs.Parts.{hist_grown}
use Rattle.mls_hist.proofs.hist.HistRowFold.put.Goals as goal

pub returns : goal.returns
returns c =
    on_ok c.put_planes.result (λ e. hist_grown c.args.self.now c.args.out.now c.put_u32.new.self c.put_planes.new.out (number_put w32 mark c.args.out.now c.put_u32.new.self c.in_ok-put_u32.ensures.ok) e) c.put_planes.ensures
