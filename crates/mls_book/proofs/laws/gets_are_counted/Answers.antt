use Rattle.mls_book.proofs.RunLaws.{gets_none, gets_more}
use Rattle.mls_book.proofs.laws.gets_are_counted.Goals as goal

pub returns : goal.returns
returns c = record { none = gets_none; more = gets_more }
