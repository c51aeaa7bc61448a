use Rattle.std.proofs.Common.{ap, subst, ◌∙◌}
use Rattle.std.specs.List.{count_by}
use Rattle.mls_model.specs.Studies.{AreSizes}
use Rattle.mls_launch.specs.Rows.{Table, is_running, is_waiting, is_done, is_left}
use Rattle.mls_launch.proofs.Counted.{totals_are}
use Rattle.mls_launch.proofs.watch.Watch.totals.Goals as goal

pub returns : goal.returns
returns c = λ events h.
    let P : Table → Type 0 = λ t. AreSizes t.sizes in
    let rows = c.deref.ensures.value ∙ ap (λ (t : Table). t.rows) c.self.view_is in
    totals_are c.args.self.now events c.totals_of.result (subst P c.self.view_is c.valid.ensures) h
    (c.totals_of.ensures.running ∙ ap (count_by is_running) rows)
    (c.totals_of.ensures.waiting ∙ ap (count_by is_waiting) rows)
    (c.totals_of.ensures.finished ∙ ap (count_by is_done) rows)
    (c.totals_of.ensures.given_up ∙ ap (count_by is_left) rows)
