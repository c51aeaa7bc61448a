-- The last book goes before the others.
use Rattle.std.proofs.Common.{◌∷◌, map, ap, ◌∙◌}
use Rattle.mls_book.specs.Cores.{parts_of}
use Rattle.mls_live.specs.Ending.{items_of}
use Rattle.mls_live.proofs.ending.finish_last.Goals as goal

pub returns-clause-took : goal.returns-clause-took
returns-clause-took g c = record {
  book = c.in-Some.book;
  last = c.in-Some.ensures.items;
  core_is = ap (map parts_of) c.put_first.ensures.items ∙ ap (λ p. p ∷ map parts_of c.args.cores.now.items) c.finish-journal.ensures.core;
  list_is = ap items_of c.put_first-2.ensures.items ∙ ap (λ p. p ∷ items_of c.args.lists.now.items) c.finish-journal.ensures.journal;
  keeper_is = c.put_first-3.ensures.items ∙ ap (λ p. p ∷ c.args.keepers.now.items) c.finish-journal.ensures.keeper;
  kept = c.on_tape.ensures.carried;
}
