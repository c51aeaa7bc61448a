use Rattle.std.proofs.Common.{ℕ, ◌*◌, List, ◌++◌, length, take, drop, ap, ◌∙◌, arith}
use Rattle.mls_model.specs.Studies.{planes}
use Rattle.mls_field.specs.ColumnSums.{sums_size}
use Rattle.mls_field.proofs.InPlace.{filled, replaced}
use Rattle.mls_field.proofs.Zeros.{AreZeros, AreNoEnds, zeros, no_ends, field_fresh, table_fresh}
use Rattle.mls_field.proofs.field.FieldRowFold.reset.Goals as goal
use Rattle.mls_field.proofs.field.FieldRowFold.reset.Goals.{After-fill-4}

pub clear_ends-requires-clause-size : goal.clear_ends-requires-clause-size
clear_ends-requires-clause-size c =
    let f = c.args.self.now in
    rw c.planes-planes.ensures.value (omega (arith, ap length c.as_mut_slice-4.ensures.value, f.kept.extrema_in.long))

module _ (c : After-fill-4) where
  counts : let f = c.args.self.now in AreZeros (planes f.shape) (take f.counts.len (c.fill.new.self ++ drop (length c.fill.new.self) f.counts.items))
  counts =
      let f = c.args.self.now in
      zeros _ _ _ (filled f.counts.items c.as_mut_slice.result.now c.fill.new.self f.counts.len c.as_mut_slice.ensures.value c.as_mut_slice.ensures.len (c.fill.ensures.after (λ y e. e)) c.fill.ensures.len) f.kept.each_plane

  waiting : let f = c.args.self.now in AreZeros (planes f.shape) (take f.waiting.len (c.fill-2.new.self ++ drop (length c.fill-2.new.self) f.waiting.items))
  waiting =
      let f = c.args.self.now in
      zeros _ _ _ (filled f.waiting.items c.as_mut_slice-2.result.now c.fill-2.new.self f.waiting.len c.as_mut_slice-2.ensures.value c.as_mut_slice-2.ensures.len (c.fill-2.ensures.after (λ y e. e)) c.fill-2.ensures.len) f.kept.each_waits

  sums : let f = c.args.self.now in AreZeros (planes f.shape * sums_size f.shape.parameters * f.places) (take f.sums.len (c.fill-3.new.self ++ drop (length c.fill-3.new.self) f.sums.items))
  sums =
      let f = c.args.self.now in
      zeros _ _ _ (filled f.sums.items c.as_mut_slice-3.result.now c.fill-3.new.self f.sums.len c.as_mut_slice-3.ensures.value c.as_mut_slice-3.ensures.len (c.fill-3.ensures.after (λ y e. e)) c.fill-3.ensures.len) f.kept.sums_in.long

  numbers : let f = c.args.self.now in AreZeros (planes f.shape * length f.shape.thresholds * f.places) (take f.numbers.len (c.fill-4.new.self ++ drop (length c.fill-4.new.self) f.numbers.items))
  numbers =
      let f = c.args.self.now in
      zeros _ _ _ (filled f.numbers.items c.as_mut_slice-5.result.now c.fill-4.new.self f.numbers.len c.as_mut_slice-5.ensures.value c.as_mut_slice-5.ensures.len (c.fill-4.ensures.after (λ y e. e)) c.fill-4.ensures.len) f.kept.numbers_in.long

  ends : let f = c.args.self.now in AreNoEnds (planes f.shape) f.places (take f.ends.len (c.clear_ends.new.ends ++ drop (length c.clear_ends.new.ends) f.ends.items))
  ends =
      let f = c.args.self.now in
      replaced (λ (es : List ℕ). AreNoEnds (planes f.shape) f.places es) f.ends.items c.as_mut_slice-4.result.now c.clear_ends.new.ends f.ends.len c.as_mut_slice-4.ensures.len c.clear_ends.auto.ends
      (no_ends _ (planes f.shape) f.places c.as_mut_slice-4.result.now c.clear_ends.new.ends (ap length c.as_mut_slice-4.ensures.value ∙ f.kept.extrema_in.long) c.clear_ends.auto.ends c.planes-planes.ensures.value c.clear_ends.ensures.least c.clear_ends.ensures.greatest)

pub invariant_of-self-clause-kept : goal.invariant_of-self-clause-kept
invariant_of-self-clause-kept c =
    let f = c.args.self.now in
    let d = (goal.at.invariant_of-self-clause-kept c).After-fill-4 in
    field_fresh f.shape f.rank f.places _ _ _ _ _ _ f.kept.rank_in f.kept.block_width (counts d) (waiting d) (sums d) (ends d) (numbers d) f.kept.room f.kept.small

pub returns-clause-stands : goal.returns-clause-stands
returns-clause-stands c =
    let f = c.args.self.now in
    let d = (goal.at.returns-clause-stands c).After-fill-4 in
    table_fresh f.shape f.places _ _ _ _ _ _ (counts d) (waiting d) (sums d) (ends d) (numbers d)
