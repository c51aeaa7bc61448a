-- The core of a book is that of its fields.
use Rattle.std.proofs.Common.{ap, ◌∙◌}
use Rattle.mls_book.specs.Cores.{parts_of}
use Rattle.mls_book.proofs.book.Book.finish.Goals as goal

pub returns-clause-stands : goal.returns-clause-stands
returns-clause-stands g c = λ history st. st c.into_parts-core.result.0 (ap parts_of c.into_parts-core.ensures.core ∙ ap (λ v. v.core) c.self.view_is)
