use Rattle.std.proofs.Common.{◌*◌, ◌++◌, length, take, drop}
use Rattle.mls_model.specs.Studies.{planes}
use Rattle.mls_field.proofs.InPlace.{filled}
use Rattle.mls_field.proofs.Zeros.{AreZeros, zeros}
use Rattle.mls_hist.proofs.Fresh.{hist_fresh, table_fresh}
use Rattle.mls_hist.proofs.hist.HistRowFold.reset.Goals as goal
use Rattle.mls_hist.proofs.hist.HistRowFold.reset.Goals.{After-fill-3}

module _ (c : After-fill-3) where
  counts : let h = c.args.self.now in AreZeros (planes h.shape) (take h.counts.len (c.fill.new.self ++ drop (length c.fill.new.self) h.counts.items))
  counts =
      let h = c.args.self.now in
      zeros _ _ _ (filled h.counts.items c.as_mut_slice.result.now c.fill.new.self h.counts.len c.as_mut_slice.ensures.value c.as_mut_slice.ensures.len (c.fill.ensures.after (λ y e. e)) c.fill.ensures.len) h.kept.each_plane

  waiting : let h = c.args.self.now in AreZeros (planes h.shape) (take h.waiting.len (c.fill-2.new.self ++ drop (length c.fill-2.new.self) h.waiting.items))
  waiting =
      let h = c.args.self.now in
      zeros _ _ _ (filled h.waiting.items c.as_mut_slice-2.result.now c.fill-2.new.self h.waiting.len c.as_mut_slice-2.ensures.value c.as_mut_slice-2.ensures.len (c.fill-2.ensures.after (λ y e. e)) c.fill-2.ensures.len) h.kept.each_waits

  bins : let h = c.args.self.now in AreZeros (planes h.shape * h.places * 64) (take h.bins.len (c.fill-3.new.self ++ drop (length c.fill-3.new.self) h.bins.items))
  bins =
      let h = c.args.self.now in
      zeros _ _ _ (filled h.bins.items c.as_mut_slice-3.result.now c.fill-3.new.self h.bins.len c.as_mut_slice-3.ensures.value c.as_mut_slice-3.ensures.len (c.fill-3.ensures.after (λ y e. e)) c.fill-3.ensures.len) h.kept.long

pub invariant_of-self-clause-kept : goal.invariant_of-self-clause-kept
invariant_of-self-clause-kept c =
    let h = c.args.self.now in
    let d = (goal.at.invariant_of-self-clause-kept c).After-fill-3 in
    hist_fresh h.shape h.rank h.places _ _ _ _ h.kept.rank_in h.kept.block_width (counts d) (waiting d) (bins d) h.kept.room h.kept.small

pub returns-clause-stands : goal.returns-clause-stands
returns-clause-stands c =
    let h = c.args.self.now in
    let d = (goal.at.returns-clause-stands c).After-fill-3 in
    table_fresh h.shape h.places _ _ _ _ (counts d) (waiting d) (bins d)
