use Rattle.std.proofs.Common.{refl}
use Rattle.mls_frame.specs.Views.{frame_of}
use Rattle.mls_rank.specs.Standing.{as_event}
use Rattle.mls_hub.specs.declared.faults.Refusal.TheVariants as refusals
use Rattle.mls_hub.proofs.Offers.{took_at, refused_at}
use Rattle.mls_hub.proofs.hall.offer_at.Goals as goal

pub returns-in-Ok-clause-took : goal.returns-in-Ok-clause-took
returns-in-Ok-clause-took g c = took_at g.F.RowFold g.K.Keeper c.args.books.now.items c.args.rank c.args.lane (as_event c.args.kind (frame_of c.args.view)) c.index_mut.result.now c.offer.new.book c.requires.rank_in c.index_mut.ensures.value c.in-Ok.ensures.took

pub returns-in-Err-Keeper-clause-refused : goal.returns-in-Err-Keeper-clause-refused
returns-in-Err-Keeper-clause-refused g c = refused_at g.F.RowFold g.K.Keeper c.args.books.now.items c.args.rank _ refusals.Keeper c.index_mut.result.now c.offer.new.book c.requires.rank_in c.index_mut.ensures.value refl (rw c.in-Err-Keeper.field-0-is at c.in-Err-Keeper.ensures.refused)

pub returns-in-Err-Memory-clause-refused : goal.returns-in-Err-Memory-clause-refused
returns-in-Err-Memory-clause-refused g c = refused_at g.F.RowFold g.K.Keeper c.args.books.now.items c.args.rank _ refusals.Memory c.index_mut.result.now c.offer.new.book c.requires.rank_in c.index_mut.ensures.value refl (rw c.in-Err-Memory.field-0-is at c.in-Err-Memory.ensures.refused)
