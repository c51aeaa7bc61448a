use Rattle.std.proofs.Common.{◌+◌, ◌*◌, refl, ◌∙◌, sym, subst, arith, get_or-set_other}
use Rattle.mls_ckpt.specs.Places.{cursor_of}
use Rattle.mls_ckpt.specs.declared.faults.RecoverFault.{RecoverFault}
use Rattle.mls_ckpt.specs.Reading.{Refuses}
use Rattle.mls_field.proofs.StoredPlaces.{answers_fault}
use Rattle.mls_hist.specs.HistPart.{counts_at}
use Rattle.mls_hist.proofs.Taking.{reads_first, reads_more, counts_done, counts_whole, counts_short, counts_refused}
use Rattle.mls_hist.proofs.taken.take_counts.Goals as goal

pub loop-bin-init : goal.loop-bin-init
loop-bin-init c = record {
  reads = reads_first c.args.n c.args.start c.args.bins.now (cursor_of c.args.from.now);
  earlier = λ j low. refl;
  behind = λ j high. refl;
}

pub loop-bin-preserved : goal.loop-bin-preserved
loop-bin-preserved c =
    let h = c.loop-bin.invariant in
    let at = c.args.start + c.loop-bin.bin in
    record {
      reads = reads_more c.args.n c.args.start c.loop-bin.bin c.loop-bin.room c.in_ok-count.count c.loop-bin.bins (cursor_of c.args.from.now) (cursor_of c.loop-bin.from) (cursor_of c.number_of.new.from) (omega arith) (omega (arith, c.requires.bins)) c.in_ok-count.ensures.few c.in_ok-count.ensures.exact h.reads;
      earlier = λ j low. get_or-set_other c.loop-bin.bins at j c.in_ok-count.count 0 (λ e. omega (arith, e, low)) ∙ h.earlier j low;
      behind = λ j high. get_or-set_other c.loop-bin.bins at j c.in_ok-count.count 0 (λ e. omega (arith, e, high)) ∙ h.behind j high;
    }

pub returns-in_err-count-clause-exact : goal.returns-in_err-count-clause-exact
returns-in_err-count-clause-exact c =
    answers_fault _ _ c.from_residual.result c.in_err-count.field-0.0 _ c.from_residual.ensures.1
    (counts_refused c.args.n c.args.start c.loop-bin.bin c.loop-bin.room c.loop-bin.bins (cursor_of c.args.from.now) (cursor_of c.loop-bin.from) c.in_err-count.field-0.0 (omega arith) c.in_err-count.ensures.exact c.loop-bin.invariant.reads)

pub returns-then-room-gt0-clause-exact : goal.returns-then-room-gt0-clause-exact
returns-then-room-gt0-clause-exact c =
    subst (λ (f : RecoverFault). Refuses f (counts_at c.args.n (cursor_of c.args.from.now))) (sym c.refused.ensures)
    (counts_short c.args.n c.args.start c.loop-bin.bin c.loop-bin.room (c.at-at.result + 4 * 63) c.loop-bin.bins (cursor_of c.args.from.now) (cursor_of c.loop-bin.from) (omega arith) (omega arith) (omega (arith, c.at-at.ensures)) c.loop-bin.invariant.reads)

pub returns-clause-exact : goal.returns-clause-exact
returns-clause-exact c = counts_done c.args.n c.args.start c.loop-bin.bin c.loop-bin.room c.loop-bin.bins (cursor_of c.args.from.now) (cursor_of c.loop-bin.from) (omega arith) (omega arith) c.loop-bin.invariant.reads

pub returns-clause-whole : goal.returns-clause-whole
returns-clause-whole c = counts_whole c.args.n c.args.start c.loop-bin.bin c.loop-bin.room c.loop-bin.bins (cursor_of c.args.from.now) (cursor_of c.loop-bin.from) (omega arith) (omega arith) c.loop-bin.invariant.reads
