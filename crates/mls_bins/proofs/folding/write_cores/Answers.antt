use Rattle.std.proofs.Common.{List, ℕ, ◌∙◌, ap, subst}
use Rattle.mls_text.specs.Writing.{Wrote, FailedAfter, sink_seen}
use Rattle.mls_model.specs.ResultText.{histories_of}
use Rattle.mls_hist.specs.BinsText.{history_bins}
use Rattle.mls_bins.proofs.Folds.{text_is}
use Rattle.mls_bins.proofs.folding.write_cores.Goals as goal

pub returns-in-Ok-clause-histories : goal.returns-in-Ok-clause-histories
returns-in-Ok-clause-histories g c = λ lanes orders lines stand.
    let see = sink_seen g.O.Sink.told g.O.Sink.faults g.O.Sink.sure in
    let text = ap (history_bins c.args.study.now (histories_of lanes orders)) lines ∙ text_is c.args.study.now lanes orders in
    subst (λ (t : List ℕ). Wrote (see c.args.out.now) (see c.write_bins.new.out) t) text (c.in-Ok.ensures.histories (histories_of lanes orders) stand)

pub returns-in-Err-clause-histories : goal.returns-in-Err-clause-histories
returns-in-Err-clause-histories g c = λ lanes orders lines stand.
    let see = sink_seen g.O.Sink.told g.O.Sink.faults g.O.Sink.sure in
    let text = ap (history_bins c.args.study.now (histories_of lanes orders)) lines ∙ text_is c.args.study.now lanes orders in
    subst (λ (t : List ℕ). FailedAfter (see c.args.out.now) (see c.write_bins.new.out) t) text (c.in-Err.ensures.histories (histories_of lanes orders) stand)
