-- The last book goes before the others.
use Rattle.std.proofs.Common.{◌∷◌, map, ap, ◌∙◌}
use Rattle.mls_book.specs.Cores.{parts_of}
use Rattle.mls_desk.proofs.ending.finish_last.Goals as goal

pub returns-clause-took : goal.returns-clause-took
returns-clause-took g c = record {
  book = c.in-Some.book;
  last = c.in-Some.ensures.items;
  core_is = ap (map parts_of) c.put_first.ensures.items ∙ ap (λ p. p ∷ map parts_of c.args.cores.now.items) c.finish-core.ensures.core;
  keeper_is = c.put_first-2.ensures.items ∙ ap (λ p. p ∷ c.args.keepers.now.items) c.finish-core.ensures.keeper;
  caused = c.valid.ensures.cause;
}
