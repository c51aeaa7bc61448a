use Rattle.mls_design.proofs.TrialLanes.{first_size, first_words}
use Rattle.mls_design.proofs.trial.sizes.first_lane_size.Goals as goal

pub returns-clause-value : goal.returns-clause-value
returns-clause-value c = λ number n ok h.
    let drew = c.copies_drawn-written.ensures.value number n h in (
      first_size c.args.study.now number n c.args.plan c.args.route c.copies_drawn-written.result c.piece_bytes.result ok drew.0 c.piece_bytes.ensures.value,
      first_words c.args.study.now number n c.args.plan c.args.route c.copies_drawn-written.new.words ok drew.1,
    )
