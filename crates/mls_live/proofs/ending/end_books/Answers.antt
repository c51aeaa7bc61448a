-- The text is that of the books' cores, and the schedule has their journals.
use Rattle.std.proofs.Common.{◌≡◌, List, ℕ, sym, ◌∙◌, ap, subst}
use Rattle.mls_text.specs.Writing.{sink_seen}
use Rattle.mls_model.specs.Schedules.{schedule_text}
use Rattle.mls_result.specs.Histories.{AreCores}
use Rattle.mls_load.specs.Refusals.{seen}
use Rattle.mls_pool.specs.Pools.{journals}
use Rattle.mls_live.specs.Ending.{Ends, GoesOut, OfBooks}
use Rattle.mls_live.proofs.Standing.{are_cores, ends_as, of_run}
use Rattle.mls_live.proofs.ending.end_books.Goals as goal

pub write_and_save-answer-requires : goal.write_and_save-answer-requires
write_and_save-answer-requires g c = subst (AreCores c.args.study.now.sizes) (sym c.as_slice.ensures.value) (are_cores c.args.tape.now.lanes c.args.study.now.sizes c.args.books.items c.finish_books-cores.result.cores.items c.requires.books c.finish_books-cores.ensures.cores_are)

pub returns-clause-ends : goal.returns-clause-ends
returns-clause-ends g c =
    let study = c.args.study.now in
    let tape = c.args.tape.now.lanes in
    let books = c.args.books.items in
    let cores = c.finish_books-cores.result.cores.items in
    let lines = c.in-Ok.room.lines.items in
    let P : (List ℕ → Type 0) → Type 0 = GoesOut study cores lines in
    let Q : (List ℕ → Type 0) → Type 0 = OfBooks g.K.Keeper study tape books in
    let see = seen g.F.Files.held g.F.Files.sound g.F.Files.load_faults g.F.Files.save_faults in
    let told = sink_seen g.O.Sink.told g.O.Sink.faults g.O.Sink.sure in
    let bytes : schedule_text c.of-schedule.result ≡ schedule_text (journals books) = ap schedule_text (c.of-schedule.ensures ∙ c.finish_books-cores.ensures.lists_are) in
    let wrote = c.write_and_save-answer.ensures in
    let own : Ends P c.args.name.now (schedule_text c.of-schedule.result) c.write_and_save-answer.result (see c.args.files.now) (see c.write_and_save-answer.new.files) (told c.args.out.now) (told c.write_and_save-answer.new.out) = rw (sym c.as_slice.ensures.value, sym c.as_slice-2.ensures.value) wrote in
    subst (λ (b : List ℕ). Ends Q c.args.name.now b c.write_and_save-answer.result (see c.args.files.now) (see c.write_and_save-answer.new.files) (told c.args.out.now) (told c.write_and_save-answer.new.out)) bytes
    (ends_as P Q c.args.name.now (schedule_text c.of-schedule.result) c.write_and_save-answer.result (see c.args.files.now) (see c.write_and_save-answer.new.files) (told c.args.out.now) (told c.write_and_save-answer.new.out) (of_run g.K.Keeper study tape books cores lines c.requires.books c.finish_books-cores.ensures.cores_are c.finish_books-cores.ensures.kept c.in-Ok.ensures.lines) own)
