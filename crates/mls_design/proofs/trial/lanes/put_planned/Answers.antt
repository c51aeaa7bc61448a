use Rattle.std.proofs.Common.{ap, refl, ◌∙◌, ◌∷◌, []}
use Rattle.mls_model.specs.Frames.{piece}
use Rattle.mls_model.specs.Designs.{solved_piece}
use Rattle.mls_design.specs.Trial.{copies}
use Rattle.mls_design.specs.TrialWriting.{Sends}
use Rattle.mls_design.proofs.TrialWriting.{sends_piece, on_ok}
use Rattle.mls_design.proofs.trial.lanes.put_planned.Goals as goal

pub returns : goal.returns
returns c = λ number n h.
    let made = piece (solved_piece c.args.study.now c.args.group c.args.life c.args.step c.args.field c.args.route.rank c.args.route.client) in
    let drew = c.next.ensures number n h in
    on_ok c.put_piece.result _ (Sends number n (made ∷ []) c.args.out.now.items c.put_piece.new.out.items c.next.new.words)
    (λ b. sends_piece number n made c.args.out.now.items c.put_piece.new.out.items c.next.new.words c.copies-count.result refl (c.copies-count.ensures.value ∙ ap copies drew.0) b drew.1)
    c.put_piece.ensures
