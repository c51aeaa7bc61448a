use Rattle.std.proofs.Common.{◌∙◌, subst, get_or}
use Rattle.mls_model.specs.Standing.{rank_table}
use Rattle.mls_model.specs.ResultText.{pieces_of}
use Rattle.mls_hist.specs.Stands.{StandsFor}
use Rattle.mls_rank.specs.Cores.{rank_of as core_rank, fold_of}
use Rattle.mls_rank.proofs.Folds.{fold_sizes, fold_rank}
use Rattle.mls_text.proofs.Writing.{line_writes}
use Rattle.mls_bins.proofs.Cells.{HistsStand}
use Rattle.mls_bins.proofs.Whole.{counts_are, states_are}
use Rattle.mls_bins.proofs.text.write_bins.Goals as goal

pub returns-clause-histories : goal.returns-clause-histories
returns-clause-histories g c = λ histories stand.
    let study = c.args.study.now in
    let s = study.sizes in
    let cores = c.args.cores.now in
    let are = c.requires.cores in
    let hists : HistsStand s cores histories = record {
      sizes = λ rank d here. fold_sizes (get_or cores rank d) ∙ are.sizes rank d here;
      ranks = λ rank d here. fold_rank (get_or cores rank d) ∙ are.ranks rank d here;
      rows = λ rank d here. (
          let core = get_or cores rank d in
          subst (λ r. StandsFor (fold_of core) (rank_table s r (pieces_of s r (histories rank)))) (are.ranks rank d here)
          (subst (λ z. StandsFor (fold_of core) (rank_table z (core_rank core) (pieces_of z (core_rank core) (histories rank)))) (are.sizes rank d here) (stand.each rank d here).holds.rows)
          );
    } in
    let text = states_are study cores histories c.args.lanes.now c.tables_are_counted.ensures c.valid.ensures.sizes.some_ranks are (counts_are s cores histories are stand) hists in
    line_writes _ _ _ _ _ text c.put_text.ensures
